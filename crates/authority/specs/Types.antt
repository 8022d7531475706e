-- The declared types that the definitions speak of, under one module.
pub use Rattle.line.specs.declared.sorts.TrainNo.{TrainNo}
pub use Rattle.line.specs.declared.sorts.TrackNo.{TrackNo}
pub use Rattle.frame.specs.declared.message.Move.{Move}
pub use Rattle.frame.specs.declared.message.Message.{Message}
pub use Rattle.frame.specs.declared.message.Message.TheVariants.{Fe}
pub use Rattle.journal.specs.declared.record.Record.{Record}
pub use Rattle.journal.specs.declared.batch.Batch.{Batch}
pub use Rattle.rules.specs.declared.state.Status.{Status}
pub use Rattle.rules.specs.declared.state.Status.TheVariants.{Free, Asked, Running}
pub use Rattle.rules.specs.declared.state.Train.{Train}
pub use Rattle.rules.specs.declared.state.State.{State}
pub use Rattle.authority.specs.declared.asking.Asker.{Asker}
pub use Rattle.authority.specs.declared.granting.Progress.{Progress}
