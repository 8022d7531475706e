-- The declared types of the unit, and those of frames that it uses, under one module.
pub use Rattle.line.specs.declared.route.Route.{Route}
pub use Rattle.frame.specs.declared.message.Move.{Move}
pub use Rattle.frame.specs.declared.message.Message.{Message}
pub use Rattle.frame.specs.declared.message.Message.TheVariants.{Fa, Fe, Afe, Am, La, Le, Lb, Refused}
pub use Rattle.driver.specs.declared.state.Phase.{Phase}
pub use Rattle.driver.specs.declared.state.Phase.TheVariants.{Standing, Asked, Declined}
pub use Rattle.driver.specs.declared.state.Phase.TheVariants.{Granted, UnderWay, Arrived}
pub use Rattle.driver.specs.declared.state.Button.{Button}
pub use Rattle.driver.specs.declared.state.Button.TheVariants.{Ask, Depart, Reached, Report, Again}
pub use Rattle.driver.specs.declared.state.Unit.{Unit}
pub use Rattle.driver.specs.declared.result.Made.{Made}
pub use Rattle.driver.specs.declared.result.Pressed.{Pressed}
pub use Rattle.driver.specs.declared.result.Heard.{Heard}
