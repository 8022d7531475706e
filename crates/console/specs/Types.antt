-- The declared types that the definitions speak of, under one module.
pub use Rattle.journal.specs.declared.record.Record.{Record}
pub use Rattle.journal.specs.declared.log.Log.{Log}
pub use Rattle.rules.specs.declared.state.State.{State}
pub use Rattle.rules.specs.declared.result.Opened.{Opened}
pub use Rattle.rules.specs.Types.{Verdict, Sent, RefusedBy}
pub use Rattle.console.specs.declared.run.Run.{Run}
pub use Rattle.console.specs.declared.console.Phase.{Phase}
pub use Rattle.console.specs.declared.console.Phase.TheVariants.{Book, Refused, Frames, Ended}
pub use Rattle.console.specs.declared.console.Console.{Console}
