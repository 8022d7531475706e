-- The declared types that the definitions speak of, under one module.
pub use Rattle.journal.specs.declared.record.Record.{Record}
