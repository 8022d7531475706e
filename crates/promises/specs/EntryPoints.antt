-- The contract of each entry point: the type of its theorem, that the compiled function meets what stands above its
-- code. No entry point has a `requires`. M is the model of memory over which the logic states its theorems: any.
use Rattle.book.proofs.read.Statement.{statement as ReadBook}
use Rattle.book.proofs.read_positioned.Statement.{statement as ReadPositioned}
use Rattle.timing.proofs.running_time.Statement.{statement as RunningTime}
use Rattle.locating.proofs.locate.Statement.{statement as Locate}
use Rattle.place.proofs.place_refusal.Statement.{statement as PlaceRefusal}
use Rattle.framing.proofs.read.Statement.{statement as ReadFrame}
use Rattle.framing.proofs.write.Statement.{statement as WriteFrame}
use Rattle.framing.proofs.place.Statement.{statement as PlaceFrame}
use Rattle.table.proofs.code.Statement.{statement as CodeOf}
use Rattle.table.proofs.bit.Statement.{statement as BitAt}
use Rattle.table.proofs.feasible_start.Statement.{statement as FeasibleStart}
use Rattle.filling.proofs.fill.Statement.{statement as Fill}
use Rattle.logging.proofs.with.Statement.{statement as WithRecord}
use Rattle.logging.proofs.append.Statement.{statement as Append}
use Rattle.logging.proofs.empty.Statement.{statement as EmptyBatch}
use Rattle.logging.proofs.record_of.Statement.{statement as RecordOf}
use Rattle.logging.proofs.record_on.Statement.{statement as RecordOn}
use Rattle.logging.proofs.frame_of.Statement.{statement as FrameOf}
use Rattle.logging.proofs.blank_log.Statement.{statement as BlankLog}
use Rattle.logging.proofs.log_length.Statement.{statement as LogLength}
use Rattle.logging.proofs.log_at.Statement.{statement as LogAt}
use Rattle.logging.proofs.log_with.Statement.{statement as LogWith}
use Rattle.logging.proofs.fitting.Statement.{statement as Fitting}
use Rattle.unit.proofs.make.Statement.{statement as MakeUnit}
use Rattle.pressing.proofs.press.Statement.{statement as Press}
use Rattle.pressing.proofs.seven_bytes.Statement.{statement as SevenBytes}
use Rattle.hearing.proofs.hear.Statement.{statement as Hear}
use Rattle.unit.proofs.valid.Statement.{statement as ValidUnit}
use Rattle.opening.proofs.open.Statement.{statement as Open}
use Rattle.opening.proofs.open_log.Statement.{statement as OpenLog}
use Rattle.opening.proofs.open_with.Statement.{statement as OpenWith}
use Rattle.dispatcher.proofs.answer.Statement.{statement as Answer}
use Rattle.dispatcher.proofs.answer_log.Statement.{statement as AnswerLog}
use Rattle.dispatcher.proofs.step.Statement.{statement as Step}
use Rattle.quangevit.proofs.quangevit_version.Statement.{statement as CallVersion}
use Rattle.quangevit.proofs.quangevit_read_book.Statement.{statement as CallReadBook}
use Rattle.quangevit.proofs.quangevit_open.Statement.{statement as CallOpen}
use Rattle.quangevit.proofs.quangevit_answer.Statement.{statement as CallAnswer}
use Rattle.quangevit.proofs.quangevit_running_time.Statement.{statement as CallRunningTime}
use Rattle.quangevit.proofs.quangevit_locate.Statement.{statement as CallLocate}
use Rattle.quangevit.proofs.quangevit_make_unit.Statement.{statement as CallMakeUnit}
use Rattle.quangevit.proofs.quangevit_press.Statement.{statement as CallPress}
use Rattle.quangevit.proofs.quangevit_hear.Statement.{statement as CallHear}
use Rattle.intake.proofs.fresh.Statement.{statement as Fresh}
use Rattle.intake.proofs.take.Statement.{statement as Take}
use Rattle.intake.proofs.awaits.Statement.{statement as Awaits}
use Rattle.intake.proofs.finish.Statement.{statement as Finish}
use Rattle.intake.proofs.printed.Statement.{statement as Printed}
use Rattle.printout.proofs.run_text.Statement.{statement as RunText}
use Rattle.printout.proofs.book_text.Statement.{statement as BookText}

-- the parts: a book, a running time, a place report, frames, the table, the journal
pub record Functions (M : Type 1) : Type 2 where
  pub read_book_lem : ReadBook M
  pub read_positioned_lem : ReadPositioned M
  pub running_time_lem : RunningTime M
  pub locate : Locate M
  pub place_refusal_lem : PlaceRefusal M
  pub read_frame_lem : ReadFrame M
  pub write_frame : WriteFrame M
  pub place_frame : PlaceFrame M
  pub code : CodeOf M
  pub bit : BitAt M
  pub feasible_start : FeasibleStart M
  pub fill : Fill M
  pub with_record_lem : WithRecord M
  pub append : Append M
  pub empty_batch_lem : EmptyBatch M
  pub record_of : RecordOf M
  pub record_on_lem : RecordOn M
  pub frame_of_lem : FrameOf M
  pub blank_log_lem : BlankLog M
  pub log_length : LogLength M
  pub log_at : LogAt M
  pub log_with : LogWith M
  pub fitting : Fitting M

-- the ends
pub record Ends (M : Type 1) : Type 2 where
  pub make_unit_lem : MakeUnit M
  pub press : Press M
  pub seven_bytes_lem : SevenBytes M
  pub hear : Hear M
  pub valid_unit_lem : ValidUnit M
  pub open_box : Open M
  pub open_log : OpenLog M
  pub open_with : OpenWith M
  pub answer : Answer M
  pub answer_log : AnswerLog M
  pub step : Step M

-- the C interface
pub record CallsInC (M : Type 1) : Type 2 where
  pub version : CallVersion M
  pub read_book_lem : CallReadBook M
  pub open_box : CallOpen M
  pub answer : CallAnswer M
  pub running_time_lem : CallRunningTime M
  pub locate : CallLocate M
  pub make_unit_lem : CallMakeUnit M
  pub press : CallPress M
  pub hear : CallHear M

-- the desk
pub record Console (M : Type 1) : Type 2 where
  pub fresh : Fresh M
  pub take_in : Take M
  pub awaits : Awaits M
  pub finish : Finish M
  pub printed : Printed M
  pub run_text : RunText M
  pub book_text : BookText M
