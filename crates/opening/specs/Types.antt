-- The declared types that the proofs speak of, under one module.
pub use Rattle.line.specs.declared.line.Line.{Line}
pub use Rattle.journal.specs.declared.record.Record.{Record}
pub use Rattle.rules.specs.declared.state.State.{State}
pub use Rattle.rules.specs.declared.result.Opened.{Opened}
