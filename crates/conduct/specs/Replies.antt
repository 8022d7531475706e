-- What an accepted frame is answered by, and what it leaves as it was: for every state that is handed in, every table,
-- right or altered, and every journal, frame and out buffer.
use Rattle.std.specs.Prelude.{◌≡◌, ◌≢◌, ◌⊎◌, true, ℕ, ◌+◌, ◌*◌, ◌<◌, take, drop}
use Rattle.std.proofs.Math.Option.{none, some}
use mathlib.Core.List.{List, [], ◌∷◌, ◌++◌, map, Memᴰ}
use Rattle.frame.specs.Frame.{read_frame}
use Rattle.journal.specs.Journal.{record_of, without_track, Tracked}
use Rattle.rules.specs.State.{is_asked, train_of, line_of, next_move}
use Rattle.rules.specs.Answer.{again, Answer, answer}
use Rattle.rules.specs.Repeats.{told_again}
use Rattle.assurance.specs.Types.{Move, Message, Fa, Fe, Afe, Am, La, Le, Lb, Record, State, Verdict, Sent}
use Rattle.assurance.specs.Types.{RefusedBy}
use Rattle.assurance.specs.Run.{new_records}
use Rattle.assurance.specs.Observer.{read_frames}

-- the next move of a train that waits: it was Asked in s, or asks by the frame a itself
pub record Awaited (s : State) (a : Message) (m : Move) : Type 0 where
  pub known : m.train.0 < s.trains
  pub next : m ≡ next_move s m.train.0
  pub waits : (is_asked (train_of s m.train.0).status ≡ true) ⊎ (a ≡ Fa m)

-- FEs alone, each for a train that waits, and no train has two
pub record Authorities (s : State) (a : Message) (answers : List Message) : Type 0 where
  pub each : (b : Message) → Memᴰ b answers → (m : Move) × (b ≡ Fe m) × Awaited s a m
  pub once : (said : List Message) (m : Move) (rest : List Message) → answers ≡ said ++ Fe m ∷ rest
      → (q : Move) → Memᴰ (Fe q) said → q.train.0 ≢ m.train.0

-- "FA: .. an FE is written; again from the oldest, until none can be granted. If the asker was not granted, its AFE
-- comes last. AM: .. the same granting."
pub data Reply (s : State) : Message → List Message → Type 0 where
  granted : (m : Move) (answers : List Message) → Authorities s (Fa m) answers → Memᴰ (Fe m) answers
      → Reply s (Fa m) answers
  declined : (m : Move) (answers : List Message) → Authorities s (Fa m) answers
      → ((q : Move) → Memᴰ (Fe q) answers → q.train.0 ≢ m.train.0) → Reply s (Fa m) (answers ++ Afe m ∷ [])
  arrived : (m : Move) (answers : List Message) → Authorities s (Am m) answers → Reply s (Am m) answers
  -- 02, card 4: "LA is answered by LE"; "LB .. starts the same granting as AM"
  lent : (m : Move) → Reply s (La m) (Le m ∷ [])
  returned : (m : Move) (answers : List Message) → Authorities s (Lb m) answers → Reply s (Lb m) answers

-- the records of one exchange that repeats none, but for the tracks: "An accepted frame is logged, then each answer in
-- order of sending."
abbrev pub logged_by : Verdict → List ℕ → List ℕ → List Record
logged_by (RefusedBy n) frame out = []
logged_by (Sent n) frame out = map record_of (read_frame frame ∷ read_frames n out)

-- the out buffer and the journal after an accepted frame, no repeat, with n answers
pub record OnlyAdded (s : State) (journal : List Record) (frame out : List ℕ) (n : ℕ) (a : Answer) : Type 0 where
  -- "later bytes of the buffer are untouched"
  pub rest : drop (7 * n) a.out ≡ drop (7 * n) out
  pub count : a.state.logged ≡ s.logged + (1 + n)
  -- the records that were there, the new ones, and "Records past the count are untouched."
  pub records : a.journal ≡ take s.logged journal ++ new_records s a ++ drop a.state.logged journal
  pub logged : map without_track (new_records s a) ≡ logged_by (Sent n) frame a.out
  -- "The FE record gains the track number at the post run to, from 1; other records have 0 there."
  pub tracked : (r : Record) → Memᴰ r (new_records s a) → Tracked (line_of s) r

pub record Replies : Type 0 where
  -- a frame that repeats none
  pub reply : (s : State) (table : List ℕ) (journal : List Record) (frame out : List ℕ) (n : ℕ)
      → let a = answer s table journal frame out in
      a.verdict ≡ Sent n → again s (read_frame frame) ≡ none → Reply s (read_frame frame) (read_frames n a.out)
  pub added : (s : State) (table : List ℕ) (journal : List Record) (frame out : List ℕ) (n : ℕ)
      → let a = answer s table journal frame out in
      a.verdict ≡ Sent n → again s (read_frame frame) ≡ none → OnlyAdded s journal frame out n a
  -- 02, card 6: a repeat is answered by its answers and leaves all else, whatever the table
  pub repeated : (s : State) (table : List ℕ) (journal : List Record) (frame out : List ℕ) (n : ℕ)
      (answers : List Message) → let a = answer s table journal frame out in
      a.verdict ≡ Sent n → again s (read_frame frame) ≡ some answers
      → (a ≡ told_again s journal out answers) × (read_frames n a.out ≡ answers)
