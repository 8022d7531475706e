-- A message is logged with the kind, train, from and to of its frame: each kind by computation. Its record has no
-- track, unless it is put on one.
use mathlib.Core.Path.{◌≡◌, refl, sym, ap}
use mathlib.Core.Logic.{◌≢◌}
use Rattle.frame.specs.Frame.{FE, bytes_of}
use Rattle.frame.specs.RoundTrip.{IsMessage}
use Rattle.journal.specs.Types.{Line, Message, Fa, Fe, Afe, Am, La, Le, Lb, Refused, Record}
use Rattle.journal.specs.Journal.{record_of, without_track, Tracked, LoggedAsSent}

pub logged_as_sent : LoggedAsSent
unfolding record_of bytes_of IsMessage
logged_as_sent (Fa m) is = refl
logged_as_sent (Fe m) is = refl
logged_as_sent (Afe m) is = refl
logged_as_sent (Am m) is = refl
logged_as_sent (La m) is = refl
logged_as_sent (Le m) is = refl
logged_as_sent (Lb m) is = refl
logged_as_sent (Refused n) is = absurd is

pub recorded_untracked : (a : Message) → without_track (record_of a) ≡ record_of a
unfolding record_of
recorded_untracked (Fa m) = refl
recorded_untracked (Fe m) = refl
recorded_untracked (Afe m) = refl
recorded_untracked (Am m) = refl
recorded_untracked (La m) = refl
recorded_untracked (Le m) = refl
recorded_untracked (Lb m) = refl
recorded_untracked (Refused n) = refl

-- "other records have 0 there"
pub no_track : (l : Line) (a : Message) → (record_of a).kind ≢ FE → Tracked l (record_of a)
no_track l a h = record {
  given = λ e. absurd (h e);
  other = λ z. ap (λ (r : Record). r.track.0) (sym (recorded_untracked a));
}
