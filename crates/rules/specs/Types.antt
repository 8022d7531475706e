-- The declared types that the definitions speak of, under one module.
use Rattle.std.specs.Prelude.{ℕ, Option, Result}
pub use Rattle.line.specs.declared.sorts.TrainNo.{TrainNo}
pub use Rattle.line.specs.declared.sorts.PostNo.{PostNo}
pub use Rattle.line.specs.declared.sorts.TrackNo.{TrackNo}
pub use Rattle.line.specs.declared.route.Route.{Route}
pub use Rattle.line.specs.declared.line.Line.{Line}
pub use Rattle.frame.specs.declared.message.Move.{Move}
pub use Rattle.frame.specs.declared.message.Message.{Message}
pub use Rattle.frame.specs.declared.message.Message.TheVariants.{Fa, Fe, Afe, Am, La, Le, Lb, Refused}
pub use Rattle.journal.specs.declared.record.Record.{Record}
pub use Rattle.journal.specs.declared.batch.Batch.{Batch}
pub use Rattle.rules.specs.declared.state.Status.{Status}
pub use Rattle.rules.specs.declared.state.Status.TheVariants.{Free, Asked, Running}
pub use Rattle.std.specs.declared.option.Option.TheVariants.{None, Some}
pub use Rattle.rules.specs.declared.state.Train.{Train}
pub use Rattle.rules.specs.declared.state.State.{State}
pub use Rattle.std.specs.declared.result.Result.TheVariants.{Ok as Sent, Err as RefusedBy}
pub use Rattle.rules.specs.declared.result.Reply.{Reply}
pub use Rattle.rules.specs.declared.result.Opened.{Opened}

-- a train's last finished move, its from and its to post, or none
abbrev pub Last : Type 0
Last = Option (PostNo × PostNo)

-- what became of a frame: so many frames sent, or the number of its refusal
abbrev pub Verdict : Type 0
Verdict = Result ℕ ℕ
