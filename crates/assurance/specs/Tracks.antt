-- The tracks that the observer tells. 02, card 2: "From now on no track has two trains over any list of frames; for
-- this clause alone the tally has tracks too, at opening by the rule above, then from each FE's record."
use Rattle.std.specs.Prelude.{cond, List, [], ◌∷◌, ℕ, eqb}
use Rattle.common.specs.Update.{update}
use Rattle.line.specs.Line.{route_of}
use Rattle.tracks.specs.Tracks.{unless_away}
use Rattle.frame.specs.Frame.{FE, read_frame}
use Rattle.rules.specs.Opening.{opened_track}
use Rattle.assurance.specs.Types.{Line, Message, Fa, Fe, Afe, Am, La, Le, Lb, Refused, Record, Verdict}
use Rattle.assurance.specs.Types.{Sent, RefusedBy}
use Rattle.assurance.specs.Run.{Exchange}
use Rattle.assurance.specs.Observer.{Observer, is_for, note}

-- of a train: its track at its post, and that at the post of its authority; 0 for none
pub record TracksTold : Type 0 where
  pub here : ℕ
  pub ahead : ℕ

abbrev pub Tracks : Type 0
Tracks = ℕ → TracksTold

-- "at opening by the rule above"
abbrev pub tracks_at_opening : Line → Tracks
tracks_at_opening l t = record { here = opened_track l t; ahead = 0 }

-- an accepted AM for the move its train has an authority for: "A train keeps its track while it holds the post; one put
-- away in a siding has none."
abbrev pub track_frame : Line → Observer → Tracks → Message → Tracks
track_frame l o k (Am m) =
    let t = m.train.0 in
    cond (is_for (o.train t).claim m.from.0 m.to.0)
    (update k t (record {
      here = unless_away l.sidings (route_of l t).end.0 m.to.0 (k t).ahead;
      ahead = 0;
    }))
    k
track_frame l o k (Fa m) = k
track_frame l o k (Fe m) = k
track_frame l o k (Afe m) = k
track_frame l o k (La m) = k
track_frame l o k (Le m) = k
track_frame l o k (Lb m) = k
track_frame l o k (Refused n) = k

-- "then from each FE's record"
abbrev pub track_record : Tracks → Record → Tracks
track_record k r =
    let t = r.train.0 in
    cond (eqb r.kind FE) (update k t (record { here = (k t).here; ahead = r.track.0 })) k

unfoldable pub track_records : Tracks → List Record → Tracks
track_records k [] = k
track_records k (r ∷ l) = track_records (track_record k r) l

-- one exchange: a refused frame changes nothing
abbrev pub track_by : Line → Observer → Tracks → List ℕ → Verdict → List Record → Tracks
track_by l o k frame (RefusedBy n) records = k
track_by l o k frame (Sent n) records = track_records (track_frame l o k (read_frame frame)) records

-- a whole list of them, beside the observer
unfoldable pub observe_tracks : Line → Observer → Tracks → List Exchange → Tracks
observe_tracks l o k [] = k
observe_tracks l o k (e ∷ es) =
    observe_tracks l (note o e) (track_by l o k e.frame e.verdict e.records) es

-- the track that train t has at post p, where it holds one there
abbrev pub track_told : Observer → Tracks → ℕ → ℕ → ℕ
track_told o k t p = cond (eqb (o.train t).post p) (k t).here (k t).ahead
