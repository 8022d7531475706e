-- The examples of place reports, evaluated.
use mathlib.Core.Path.{refl}
use Rattle.places.specs.Places.{asked_place, metres_in, Places, OtherReports, PlaceRefusals}

pub places : Places
unfolding metres_in
places = record {
  at_second = refl;
  at_last = refl;
  middle = refl;
  past_middle = refl;
  half_metre = refl;
  past_half = refl;
  before_second = refl;
  past_second = refl;
  zero = refl;
  minus_zero = refl;
  smallest = refl;
  last_half = refl;
  far_middle = refl;
  past_far_middle = refl;
  farthest = refl;
}

pub other_reports : OtherReports
unfolding asked_place
other_reports = record { last_post = refl; missing = refl }

pub place_refusals : PlaceRefusals
unfolding metres_in
place_refusals = record {
  below_zero = refl;
  past_last = refl;
  past_farthest = refl;
  infinite = refl;
  minus_infinite = refl;
  quiet = refl;
  signalling = refl;
  next_post_lem = refl;
  any_post = refl;
  second_edition = refl;
  other_edition_lem = refl;
  positions = refl;
}
