-- The declared types that the definitions speak of, under one module.
pub use Rattle.frame.specs.declared.message.Move.{Move}
pub use Rattle.frame.specs.declared.message.Message.{Message}
pub use Rattle.journal.specs.declared.record.Record.{Record}
pub use Rattle.journal.specs.declared.batch.Batch.{Batch}
pub use Rattle.rules.specs.declared.state.State.{State}
pub use Rattle.rules.specs.Types.{Verdict, Sent, RefusedBy}
pub use Rattle.authority.specs.declared.granting.Progress.{Progress}
pub use Rattle.accepting.specs.declared.repeats.Repeat.{Repeat}
pub use Rattle.accepting.specs.declared.repeats.Repeat.TheVariants.{Not, Silent, Told}
pub use Rattle.dispatcher.specs.declared.stepping.Outcome.{Outcome}
