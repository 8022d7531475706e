-- Which track an FE's record has, told by the tally: "An up train (end above start) gets the smallest unheld track, a
-- down train the largest."
use Rattle.std.specs.Prelude.{◌≡◌, Bool, List, ◌∷◌, ◌++◌, ℕ, ◌+◌, length}
use Rattle.common.specs.Below.{any_below}
use Rattle.line.specs.Line.{route_of, tracks_at}
use Rattle.line.specs.Book.{line_in}
use Rattle.tracks.specs.Tracks.{has_track, track_for}
use Rattle.frame.specs.Frame.{read_frame}
use Rattle.journal.specs.Journal.{record_on}
use Rattle.rules.specs.Opening.{opening}
use Rattle.assurance.specs.Types.{Line, Move, Message, Fe, Record}
use Rattle.assurance.specs.Run.{Input, new_records, run, answer_after}
use Rattle.assurance.specs.Observer.{Observer, at_opening, note_frame, note_answers, observe, located_told}
use Rattle.assurance.specs.Tracks.{Tracks, tracks_at_opening, track_frame, track_records, observe_tracks, track_told}
use Rattle.conduct.specs.Repeats.{NewFe}

-- some train holds track j of post p
abbrev pub held_told : Line → Observer → Tracks → ℕ → ℕ → Bool
held_told l o k p j = any_below l.trains (λ u. has_track (located_told l o u) p (track_told o k u p) j)

-- the record of the FE for the move m
abbrev pub due_record : Line → Observer → Tracks → Move → Record
due_record l o k m =
    record_on (track_for (route_of l m.train.0) (held_told l o k m.to.0) (tracks_at l m.to.0)) (Fe m)

-- of these records, after those of the frame and of what was said before, comes that one; o and k are the observer and
-- its tracks once they have heard the frame
pub record OnTrack (l : Line) (o : Observer) (k : Tracks) (said : List Message) (m : Move) (records : List Record)
    : Type 0 where
  pub before : List Record
  pub after : List Record
  pub size : length before ≡ 1 + length said
  pub split : records ≡ before ++ due_record l (note_answers o said) (track_records k before) m ∷ after

-- after every list, each FE in the answer to a further frame that repeats none, with all that was said and logged
-- before it heard. 02, card 6: a repeated FE has no record of its own.
abbrev pub RightTrack : Type 0
RightTrack = (book table : List ℕ) (journal : List Record) (inputs : List Input)
    → let o = opening book table journal in
    o.number ≡ 0 → (i : Input)
    → let l = line_in book in
    let r = run o.table o.state journal inputs in
    let a = answer_after o.table r i.frame i.out in
    let seen = observe (at_opening l) r.exchanges in
    let tracks = observe_tracks l (at_opening l) (tracks_at_opening l) r.exchanges in
    (said : List Message) (m : Move) → NewFe seen i.frame a said m
    → OnTrack l (note_frame seen (read_frame i.frame)) (track_frame l seen tracks (read_frame i.frame)) said m
    (new_records r.state a)
