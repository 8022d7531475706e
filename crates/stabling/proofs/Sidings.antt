-- The examples with sidings, evaluated.
use mathlib.Core.Path.{refl}
use Rattle.common.specs.Below.{count_below, all_below}
use Rattle.common.specs.Tabulate.{values_from, padded}
use Rattle.common.specs.Update.{update}
use Rattle.line.specs.Route.{post_after}
use Rattle.line.specs.Book.{added}
use Rattle.line.specs.Holding.{standing}
use Rattle.frame.specs.Frame.{bytes_of}
use Rattle.completion.specs.Configuration.{within, fits, arrived, feasible}
use Rattle.examples.specs.Reading.{read_alone, numbers_of, opened_blank, ran_with, replies_in}
use Rattle.stabling.specs.Sidings.{SidingByte, StillNeedsATrack, PutAway, SidingState}

pub siding_byte : SidingByte
unfolding read_alone numbers_of
siding_byte = record { read = refl; named = refl; order = refl; lengths = refl; editions = refl }

pub still_needs_a_track : StillNeedsATrack
unfolding bytes_of opened_blank ran_with replies_in count_below all_below values_from padded added post_after standing
    within
    fits arrived feasible update
still_needs_a_track = record { refused = refl; lawful = refl; waits = refl }

pub put_away : PutAway
unfolding bytes_of opened_blank ran_with replies_in count_below standing
put_away = record {
  both = refl;
  nobody_there = (refl, refl, refl);
  none = refl;
  on_its_way = refl;
  parked = refl;
  parked_without = refl;
}

pub siding_state : SidingState
unfolding bytes_of opened_blank ran_with
siding_state = record { off_the_line_lem = refl; two_at_an_end = refl }
