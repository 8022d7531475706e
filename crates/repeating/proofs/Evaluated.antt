-- The examples with repeats, evaluated.
use mathlib.Core.Path.{refl}
use Rattle.frame.specs.Frame.{bytes_of}
use Rattle.journal.specs.Journal.{record_of}
use Rattle.examples.specs.Reading.{opened_blank, ran_with, replies_in, seen_in}
use Rattle.repeating.specs.AtTheBox.{RepeatsOnX, DeclinedAgain, LastMoveOnly, HighCounts, GrantsNobody}
use Rattle.repeating.specs.AtTheBox.{LastMoves}
use Rattle.repeating.specs.InTheCab.{cab_from, cab_events, AgainUpward, AgainElsewhere}
use Rattle.repeating.specs.OverTheRadio.{phase_in, frames_among, heard_at_last, LostAuthority, LostReport}

-- ---- at the box

pub repeats_on_x_lem : RepeatsOnX
unfolding bytes_of record_of opened_blank ran_with replies_in seen_in
repeats_on_x_lem = record {
  verdicts = refl;
  replies = refl;
  records = refl;
  statuses = refl;
  lasts = refl;
  authorised = refl;
  asking = refl;
}

pub declined_again : DeclinedAgain
unfolding bytes_of record_of opened_blank ran_with replies_in
declined_again = record { replies = refl; records = refl }

pub last_move_only : LastMoveOnly
unfolding bytes_of opened_blank ran_with
last_move_only = record { at_end_lem = refl; on_its_way = refl; at_start = refl }

pub high_counts : HighCounts
unfolding bytes_of opened_blank ran_with replies_in
high_counts = record { verdicts = refl; replies = refl; statuses = refl; logged = (refl, refl); above = refl }

pub grants_nobody : GrantsNobody
unfolding bytes_of opened_blank ran_with replies_in
grants_nobody = record { declined = refl; again = refl; unchanged = refl }

pub last_moves : LastMoves
unfolding bytes_of opened_blank ran_with
last_moves = record {
  at_start = refl;
  running = refl;
  parked = refl;
  on_its_way = refl;
  at_end_lem = refl;
  past = refl;
}

-- ---- in the cab

pub again_upward : AgainUpward
unfolding bytes_of cab_from cab_events
again_upward = record { numbers = refl; events = refl }

pub again_elsewhere : AgainElsewhere
unfolding bytes_of cab_from cab_events
again_elsewhere = record { down_numbers = refl; down_events = refl; nowhere = refl }

-- ---- over the radio

pub lost_authority : LostAuthority
unfolding bytes_of opened_blank ran_with replies_in cab_from phase_in frames_among heard_at_last
lost_authority = record {
  sent = refl;
  replies = refl;
  granted = refl;
  not_heard = refl;
  late = refl;
  granted_late = refl;
}

pub lost_report : LostReport
unfolding bytes_of record_of opened_blank ran_with cab_from frames_among
lost_report = record {
  sent = refl;
  freed = refl;
  finished = refl;
  records = refl;
  too_soon = refl;
  refused = refl;
  runs = refl;
}
