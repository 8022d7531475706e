-- The journeys over the channel, evaluated.
use mathlib.Core.Path.{refl}
use Rattle.frame.specs.Frame.{bytes_of}
use Rattle.examples.specs.Reading.{opened_blank}
use Rattle.journeys.specs.Reading.{pair_after, sent_in, sections_in, units_at, verdict_on, unit_number}
use Rattle.journeys.specs.Journeys.{Lost, Repeated, Reordered, Delayed, Elsewhere, BesideAGang, NoEvent}
use Rattle.journeys.specs.Journeys.{BothCovered, AllHome}

pub lost : Lost
unfolding bytes_of opened_blank pair_after
lost = record { unheard = refl; waits = refl; short = refl; again = refl }

pub repeated : Repeated
unfolding bytes_of opened_blank pair_after sent_in verdict_on unit_number
repeated = record {
  sent = refl;
  granted = refl;
  second = refl;
  still = refl;
  taken = refl;
  old = refl;
  posts = refl;
}

pub reordered : Reordered
unfolding bytes_of opened_blank pair_after sent_in verdict_on
reordered = record { refused = refl; running = refl; behind = refl; ahead = refl; late = refl }

pub delayed : Delayed
unfolding bytes_of opened_blank pair_after unit_number
delayed = record { number = refl; waits = refl }

pub elsewhere : Elsewhere
unfolding bytes_of opened_blank pair_after verdict_on unit_number
elsewhere = record { fa_heard = refl; am_heard = refl; fe_back = refl; fe_passed = refl; phases = refl }

pub beside_a_gang : BesideAGang
unfolding bytes_of opened_blank pair_after sent_in verdict_on unit_number
beside_a_gang = record {
  declined = refl;
  waits = refl;
  asked = refl;
  heard = refl;
  phase = refl;
  freed = refl;
  granted = refl;
  taken = refl;
}

pub no_event : NoEvent
unfolding bytes_of opened_blank pair_after sent_in
no_event = record { sent = refl; phases = refl }

pub both_covered : BothCovered
unfolding bytes_of opened_blank pair_after sections_in units_at
both_covered = record {
  granted = refl;
  ready = refl;
  under_way = refl;
  running = refl;
  together = refl;
  sections = refl;
  under_way_at = refl;
  waiting_at = refl;
  arrived = refl;
  still = refl;
}

pub all_home : AllHome
unfolding bytes_of opened_blank pair_after sent_in verdict_on
all_home = record { sent = refl; box = refl; units = refl; statuses = refl; phases = refl; old = refl }
