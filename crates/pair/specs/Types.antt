-- The declared types of both ends, under one module.
pub use Rattle.line.specs.declared.line.Line.{Line}
pub use Rattle.frame.specs.declared.message.Move.{Move}
pub use Rattle.frame.specs.declared.message.Message.{Message}
pub use Rattle.frame.specs.declared.message.Message.TheVariants.{Fa, Fe, Afe, Am, La, Le, Lb, Refused}
pub use Rattle.journal.specs.declared.record.Record.{Record}
pub use Rattle.rules.specs.declared.state.Status.{Status}
pub use Rattle.rules.specs.declared.state.Status.TheVariants.{Free, Asked as Requested, Running}
pub use Rattle.rules.specs.declared.state.Train.{Train}
pub use Rattle.rules.specs.declared.state.State.{State}
pub use Rattle.rules.specs.Types.{Verdict, Sent, RefusedBy}
pub use Rattle.driver.specs.declared.state.Phase.{Phase}
pub use Rattle.driver.specs.declared.state.Phase.TheVariants.{Standing, Asked, Declined, Granted, UnderWay, Arrived}
pub use Rattle.driver.specs.declared.state.Button.{Button}
pub use Rattle.driver.specs.declared.state.Button.TheVariants.{Ask, Depart, Reached, Report, Again}
pub use Rattle.driver.specs.declared.state.Unit.{Unit}
pub use Rattle.driver.specs.declared.result.Made.{Made}
pub use Rattle.driver.specs.declared.result.Pressed.{Pressed}
pub use Rattle.driver.specs.declared.result.Heard.{Heard}
