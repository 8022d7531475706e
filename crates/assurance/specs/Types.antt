-- The declared types that the claims speak of, under one module.
pub use Rattle.line.specs.declared.line.Line.{Line}
pub use Rattle.frame.specs.declared.message.Move.{Move}
pub use Rattle.frame.specs.declared.message.Message.{Message}
pub use Rattle.frame.specs.declared.message.Message.TheVariants.{Fa, Fe, Afe, Am, La, Le, Lb, Refused}
pub use Rattle.journal.specs.declared.record.Record.{Record}
pub use Rattle.rules.specs.declared.state.State.{State}
pub use Rattle.rules.specs.Types.{Verdict, Sent, RefusedBy}
