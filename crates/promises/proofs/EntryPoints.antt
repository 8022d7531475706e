-- Each contract, by the theorem that its function meets it.
use Rattle.book.proofs.read.Met.{met as read-book-met}
use Rattle.book.proofs.read_positioned.Met.{met as read-positioned-met}
use Rattle.timing.proofs.running_time.Met.{met as running-time-met}
use Rattle.locating.proofs.locate.Met.{met as locate-met}
use Rattle.place.proofs.place_refusal.Met.{met as place-refusal-met}
use Rattle.framing.proofs.read.Met.{met as read-frame-met}
use Rattle.framing.proofs.write.Met.{met as write-frame-met}
use Rattle.framing.proofs.place.Met.{met as place-frame-met}
use Rattle.table.proofs.code.Met.{met as code-of-met}
use Rattle.table.proofs.bit.Met.{met as bit-at-met}
use Rattle.table.proofs.feasible_start.Met.{met as feasible-start-met}
use Rattle.filling.proofs.fill.Met.{met as fill-met}
use Rattle.logging.proofs.with.Met.{met as with-record-met}
use Rattle.logging.proofs.append.Met.{met as append-met}
use Rattle.logging.proofs.empty.Met.{met as empty-batch-met}
use Rattle.logging.proofs.record_of.Met.{met as record-of-met}
use Rattle.logging.proofs.record_on.Met.{met as record-on-met}
use Rattle.logging.proofs.frame_of.Met.{met as frame-of-met}
use Rattle.logging.proofs.blank_log.Met.{met as blank-log-met}
use Rattle.logging.proofs.log_length.Met.{met as log-length-met}
use Rattle.logging.proofs.log_at.Met.{met as log-at-met}
use Rattle.logging.proofs.log_with.Met.{met as log-with-met}
use Rattle.logging.proofs.fitting.Met.{met as fitting-met}
use Rattle.unit.proofs.make.Met.{met as make-unit-met}
use Rattle.pressing.proofs.press.Met.{met as press-met}
use Rattle.pressing.proofs.seven_bytes.Met.{met as seven-bytes-met}
use Rattle.hearing.proofs.hear.Met.{met as hear-met}
use Rattle.unit.proofs.valid.Met.{met as valid-unit-met}
use Rattle.opening.proofs.open.Met.{met as open-met}
use Rattle.opening.proofs.open_log.Met.{met as open-log-met}
use Rattle.opening.proofs.open_with.Met.{met as open-with-met}
use Rattle.dispatcher.proofs.answer.Met.{met as answer-met}
use Rattle.dispatcher.proofs.answer_log.Met.{met as answer-log-met}
use Rattle.dispatcher.proofs.step.Met.{met as step-met}
use Rattle.quangevit.proofs.quangevit_version.Met.{met as call-version-met}
use Rattle.quangevit.proofs.quangevit_read_book.Met.{met as call-read-book-met}
use Rattle.quangevit.proofs.quangevit_open.Met.{met as call-open-met}
use Rattle.quangevit.proofs.quangevit_answer.Met.{met as call-answer-met}
use Rattle.quangevit.proofs.quangevit_running_time.Met.{met as call-running-time-met}
use Rattle.quangevit.proofs.quangevit_locate.Met.{met as call-locate-met}
use Rattle.quangevit.proofs.quangevit_make_unit.Met.{met as call-make-unit-met}
use Rattle.quangevit.proofs.quangevit_press.Met.{met as call-press-met}
use Rattle.quangevit.proofs.quangevit_hear.Met.{met as call-hear-met}
use Rattle.intake.proofs.fresh.Met.{met as fresh-met}
use Rattle.intake.proofs.take.Met.{met as take-met}
use Rattle.intake.proofs.awaits.Met.{met as awaits-met}
use Rattle.intake.proofs.finish.Met.{met as finish-met}
use Rattle.intake.proofs.printed.Met.{met as printed-met}
use Rattle.printout.proofs.run_text.Met.{met as run-text-met}
use Rattle.printout.proofs.book_text.Met.{met as book-text-met}
use Rattle.promises.specs.EntryPoints.{Functions, Ends, CallsInC, Console}

pub functions : {M : Type 1} → Functions M
functions = record {
  read_book_lem = read-book-met;
  read_positioned_lem = read-positioned-met;
  running_time_lem = running-time-met;
  locate = locate-met;
  place_refusal_lem = place-refusal-met;
  read_frame_lem = read-frame-met;
  write_frame = write-frame-met;
  place_frame = place-frame-met;
  code = code-of-met;
  bit = bit-at-met;
  feasible_start = feasible-start-met;
  fill = fill-met;
  with_record_lem = with-record-met;
  append = append-met;
  empty_batch_lem = empty-batch-met;
  record_of = record-of-met;
  record_on_lem = record-on-met;
  frame_of_lem = frame-of-met;
  blank_log_lem = blank-log-met;
  log_length = log-length-met;
  log_at = log-at-met;
  log_with = log-with-met;
  fitting = fitting-met;
}

pub ends : {M : Type 1} → Ends M
ends = record {
  make_unit_lem = make-unit-met;
  press = press-met;
  seven_bytes_lem = seven-bytes-met;
  hear = hear-met;
  valid_unit_lem = valid-unit-met;
  open_box = open-met;
  open_log = open-log-met;
  open_with = open-with-met;
  answer = answer-met;
  answer_log = answer-log-met;
  step = step-met;
}

pub calls_in_c : {M : Type 1} → CallsInC M
calls_in_c = record {
  version = call-version-met;
  read_book_lem = call-read-book-met;
  open_box = call-open-met;
  answer = call-answer-met;
  running_time_lem = call-running-time-met;
  locate = call-locate-met;
  make_unit_lem = call-make-unit-met;
  press = call-press-met;
  hear = call-hear-met;
}

pub console : {M : Type 1} → Console M
console = record {
  fresh = fresh-met;
  take_in = take-met;
  awaits = awaits-met;
  finish = finish-met;
  printed = printed-met;
  run_text = run-text-met;
  book_text = book-text-met;
}
