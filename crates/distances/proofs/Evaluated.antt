-- The examples with positions and running times, evaluated.
use mathlib.Core.Path.{refl}
use Rattle.examples.specs.Reading.{read_alone, numbers_of, opened_blank}
use Rattle.distances.specs.Positions.{PositionBytes, OpenedWithPositions}
use Rattle.distances.specs.Times.{asked, Times, TimeRefusals, AnsweredAllTheSame}

pub position_bytes_lem : PositionBytes
unfolding read_alone numbers_of
position_bytes_lem = record { read = refl; lengths = refl; in_order = refl; order = refl; other_edition_lem = refl }

pub opened_with_positions : OpenedWithPositions
unfolding opened_blank
opened_with_positions = refl

pub times : Times
unfolding asked
times = record {
  up = refl;
  down = refl;
  with_rest = refl;
  no_second = refl;
  exact = refl;
  slowest = refl;
  fastest = refl;
  whole_way = refl;
  second_section = refl;
  nowhere = refl;
}

pub time_refusals : TimeRefusals
unfolding asked
time_refusals = record {
  first_edition_lem = refl;
  second_edition = refl;
  fourth_edition = refl;
  torn = refl;
  posts = refl;
  positions = refl;
  off_the_line_lem = refl;
  from = refl;
  to = refl;
  standing = refl;
  too_fast = refl;
  one_byte = refl;
}

pub answered_all_the_same : AnsweredAllTheSame
unfolding asked opened_blank
answered_all_the_same = record { jam = (refl, refl); overfull = (refl, refl) }
