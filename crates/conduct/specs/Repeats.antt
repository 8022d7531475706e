-- Repeats over bad radio, 02, card 6, told by the observer: which accepted frames are repeats, and that one leaves all
-- as it was, after every list of frames.
use Rattle.std.specs.Prelude.{◌≡◌, ◌≢◌, Bool, true, false, not, ◌||◌, List, [], ◌∷◌, ◌++◌, ℕ}
use Rattle.line.specs.Route.{next_post}
use Rattle.line.specs.Line.{route_of}
use Rattle.line.specs.Book.{line_in}
use Rattle.frame.specs.Frame.{read_frame}
use Rattle.rules.specs.Answer.{Answer}
use Rattle.rules.specs.Opening.{opening}
use Rattle.assurance.specs.Types.{Line, Move, Message, Fa, Fe, Afe, Am, La, Le, Lb, Refused, Record, Sent}
use Rattle.assurance.specs.Run.{Input, Ran, new_records, run, answer_after}
use Rattle.assurance.specs.Observer.{asked, authority, Observer, at_opening, is_for, answers_of, note_by, observe}
use Rattle.assurance.specs.Observer.{has_authority, has_asked}
use Rattle.assurance.specs.Tracks.{Tracks, tracks_at_opening, track_by, observe_tracks}

-- an accepted frame repeats an earlier one: an FA of a train that has asked or has its authority, and an AM for no
-- authority of its train
abbrev pub repeats_told : Observer → Message → Bool
repeats_told o (Fa m) = has_asked (o.train m.train.0).claim || has_authority (o.train m.train.0).claim
repeats_told o (Am m) = not (is_for (o.train m.train.0).claim m.from.0 m.to.0)
repeats_told o (La m) = false
repeats_told o (Lb m) = false
repeats_told o (Fe m) = false
repeats_told o (Afe m) = false
repeats_told o (Le m) = false
repeats_told o (Refused n) = false

-- the FE for the move m in the answer to a frame that repeats none, with what was said before it: an authority that was
-- not there before
pub record NewFe (o : Observer) (frame : List ℕ) (a : Answer) (said : List Message) (m : Move) : Type 0 where
  pub new : repeats_told o (read_frame frame) ≡ false
  pub rest : List Message
  pub parts : answers_of a.verdict a.out ≡ said ++ Fe m ∷ rest

-- the move by which its train, past its start, came to its post: the last that it finished
pub record LastTold (l : Line) (o : Observer) (m : Move) : Type 0 where
  pub past : (o.train m.train.0).post ≢ (route_of l m.train.0).start.0
  pub from : m.from.0 ≡ next_post (o.train m.train.0).post (route_of l m.train.0).start.0
  pub to : m.to.0 ≡ (o.train m.train.0).post

-- "a repeated FA gets its AFE or FE again, and an AM naming the train's last finished move is taken with no output"
pub data AnsweredAgain (l : Line) (o : Observer) : Message → List Message → Type 0 where
  by_afe : (m : Move) → (o.train m.train.0).claim ≡ asked → AnsweredAgain l o (Fa m) (Afe m ∷ [])
  by_fe : (m : Move) → (o.train m.train.0).claim ≡ authority m.from.0 m.to.0
      → AnsweredAgain l o (Fa m) (Fe m ∷ [])
  by_none : (m : Move) → LastTold l o m → AnsweredAgain l o (Am m) []

pub record LeavesAll (l : Line) (r : Ran) (o : Observer) (k : Tracks) (frame : List ℕ) (a : Answer) : Type 0 where
  -- "neither is logged or changes the state"
  pub state : a.state ≡ r.state
  pub journal : a.journal ≡ r.journal
  pub answers : AnsweredAgain l o (read_frame frame) (answers_of a.verdict a.out)
  -- nor does it change the tally: the FE gives the authority back that the FA took, and it has no record of its own
  pub trains : (t : ℕ) → (note_by o frame a.verdict a.out).train t ≡ o.train t
  pub gangs : (i : ℕ) → (note_by o frame a.verdict a.out).gangs i ≡ o.gangs i
  pub tracks : (t : ℕ) → track_by l o k frame a.verdict (new_records r.state a) t ≡ k t

-- after every list of frames
abbrev pub RepeatsTold : Type 0
RepeatsTold = (book table : List ℕ) (journal : List Record) (inputs : List Input)
    → let o = opening book table journal in
    o.number ≡ 0 → (i : Input) (n : ℕ)
    → let l = line_in book in
    let r = run o.table o.state journal inputs in
    let a = answer_after o.table r i.frame i.out in
    let seen = observe (at_opening l) r.exchanges in
    let tracks = observe_tracks l (at_opening l) (tracks_at_opening l) r.exchanges in
    a.verdict ≡ Sent n → repeats_told seen (read_frame i.frame) ≡ true → LeavesAll l r seen tracks i.frame a
