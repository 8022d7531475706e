-- The declared types that the layouts speak of, under one module.
pub use Rattle.driver.specs.declared.state.Phase.{Phase}
pub use Rattle.driver.specs.declared.state.Phase.TheVariants.{Standing, Asked, Declined}
pub use Rattle.driver.specs.declared.state.Phase.TheVariants.{Granted, UnderWay, Arrived}
pub use Rattle.driver.specs.declared.state.Button.{Button}
pub use Rattle.driver.specs.declared.state.Button.TheVariants.{Ask, Depart, Reached, Report, Again}
pub use Rattle.driver.specs.declared.state.Unit.{Unit}
pub use Rattle.line.specs.declared.route.Route.{Route}
pub use Rattle.line.specs.declared.line.Line.{Line}
pub use Rattle.timing.specs.declared.timing.Time.{Time}
pub use Rattle.place.specs.declared.report.Place.{Place}
pub use Rattle.place.specs.declared.report.Place.TheVariants.{At as AtPost, In as InSection}
pub use Rattle.place.specs.declared.report.Place.TheVariants.{Nothing as Nowhere}
pub use Rattle.journal.specs.declared.record.Record.{Record}
pub use Rattle.journal.specs.declared.batch.Batch.{Batch}
pub use Rattle.rules.specs.declared.state.Status.{Status}
pub use Rattle.rules.specs.declared.state.Status.TheVariants.{Free, Asked as AskedAs, Running}
pub use Rattle.rules.specs.Types.{Last, None, Some}
pub use Rattle.rules.specs.declared.state.Train.{Train}
pub use Rattle.rules.specs.declared.state.State.{State}
