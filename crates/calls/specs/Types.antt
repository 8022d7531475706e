-- The declared types that the calls speak of, under one module.
pub use Rattle.driver.specs.declared.state.Button.{Button}
pub use Rattle.driver.specs.declared.state.Button.TheVariants.{Ask, Depart, Reached, Report, Again}
pub use Rattle.driver.specs.declared.state.Unit.{Unit}
pub use Rattle.driver.specs.declared.result.Made.{Made}
pub use Rattle.driver.specs.declared.result.Heard.{Heard}
pub use Rattle.driver.specs.declared.result.Pressed.{Pressed}
pub use Rattle.line.specs.declared.line.Line.{Line}
pub use Rattle.line.specs.declared.line.Reading.{Reading}
pub use Rattle.timing.specs.declared.timing.Time.{Time}
pub use Rattle.place.specs.declared.report.Report.{Report as PlaceReport}
pub use Rattle.place.specs.declared.report.Report.TheVariants.{Post, Metres, Missing}
pub use Rattle.place.specs.declared.report.Place.{Place}
pub use Rattle.place.specs.declared.report.Place.TheVariants.{Nothing}
pub use Rattle.std.specs.declared.result.Result.{Result}
pub use Rattle.std.specs.declared.result.Result.TheVariants.{Ok, Err, Err as Refused}
pub use Rattle.frame.specs.declared.message.Message.{Message}
pub use Rattle.journal.specs.declared.record.Record.{Record}
pub use Rattle.rules.specs.declared.state.State.{State}
pub use Rattle.rules.specs.Types.{Verdict, Sent, RefusedBy}
pub use Rattle.rules.specs.declared.result.Opened.{Opened}
