-- The declared types that the definitions speak of, under one module.
pub use Rattle.frame.specs.declared.message.Move.{Move}
pub use Rattle.frame.specs.declared.message.Message.{Message}
pub use Rattle.frame.specs.declared.message.Message.TheVariants.{Fa, Fe, Afe, Am, La, Le, Lb, Refused}
pub use Rattle.journal.specs.declared.record.Record.{Record}
pub use Rattle.journal.specs.declared.batch.Batch.{Batch}
pub use Rattle.rules.specs.declared.state.Status.{Status}
pub use Rattle.rules.specs.declared.state.Status.TheVariants.{Asked}
pub use Rattle.rules.specs.declared.state.Train.{Train}
pub use Rattle.rules.specs.declared.state.State.{State}
pub use Rattle.authority.specs.declared.granting.Progress.{Progress}
pub use Rattle.accepting.specs.declared.repeats.Repeat.{Repeat}
pub use Rattle.accepting.specs.declared.repeats.Repeat.TheVariants.{Not, Silent, Told}
