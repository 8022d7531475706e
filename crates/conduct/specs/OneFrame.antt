-- Claims on one frame, for every state that is handed in, every table, right or altered, and every journal, frame and
-- out buffer.
use Rattle.std.specs.Prelude.{◌≡◌, ◌≢◌, true, false, List, ◌∷◌, ◌++◌, ℕ, ◌+◌, ◌≤◌, ◌<◌}
use Rattle.std.proofs.Math.Option.{none}
use Rattle.line.specs.Route.{section_of}
use Rattle.line.specs.Line.{tracks_at}
use Rattle.line.specs.Holding.{holds_post, post_holders}
use Rattle.frame.specs.Frame.{read_frame}
use Rattle.journal.specs.Journal.{journal_length}
use Rattle.completion.specs.Configuration.{Completable, moved, code_below}
use Rattle.completion.specs.Table.{code_count, filled}
use Rattle.rules.specs.State.{is_asked, asked_as, next_of, track_at, train_of, line_of, located, holders_of, free_track}
use Rattle.rules.specs.State.{reached, next_move}
use Rattle.rules.specs.Valid.{consistent, most_counted, valid}
use Rattle.rules.specs.Granting.{grantable, Work, granted, settled}
use Rattle.rules.specs.Answer.{most_logged, again, runs_granting, answer}
use Rattle.assurance.specs.Types.{Message, Fe, Record, State, Sent, RefusedBy}

-- a valid state stays one but for its count, which a frame raises by at most seven records. 02, card 7: "A state whose
-- journal count is above 229 becomes strange", so that one with more than 222 may be left strange; what a run from an
-- opening leaves is `NeverStrange`'s.
pub record ConsistentKept : Type 0 where
  pub kept : (s : State) (table : List ℕ) (journal : List Record) (frame out : List ℕ)
      → consistent s ≡ true → consistent (answer s table journal frame out).state ≡ true
  pub counted : (s : State) (table : List ℕ) (journal : List Record) (frame out : List ℕ)
      → let v = (answer s table journal frame out).state in
      (s.logged ≤ v.logged) × (v.logged ≤ s.logged + most_logged)
  pub valid_kept : (s : State) (table : List ℕ) (journal : List Record) (frame out : List ℕ)
      → let v = (answer s table journal frame out).state in
      valid s ≡ true → v.logged ≤ most_counted → valid v ≡ true
  -- all that is counted is in the journal
  pub in_journal : (s : State) (table : List ℕ) (journal : List Record) (frame out : List ℕ)
      → valid s ≡ true → (answer s table journal frame out).state.logged ≤ journal_length

-- "A refusal returns its number and the state unchanged, and changes no buffer."
abbrev pub RefusalsChangeNothing : Type 0
RefusalsChangeNothing = (s : State) (table : List ℕ) (journal : List Record) (frame out : List ℕ) (n : ℕ)
    → (answer s table journal frame out).verdict ≡ RefusedBy n
    → answer s table journal frame out
    ≡ record { state = s; verdict = RefusedBy n; number = n; frames = 0; journal = journal; out = out }

-- "At most 6 frames go out"
abbrev pub AtMostSix : Type 0
AtMostSix = (s : State) (table : List ℕ) (journal : List Record) (frame out : List ℕ) (n : ℕ)
    → (answer s table journal frame out).verdict ≡ Sent n → n ≤ 6

-- the placing that a grant asks for has its bit in the table
abbrev pub BitInTable : Type 0
BitInTable = (s : State) (t : ℕ) → consistent s ≡ true → t < s.trains → is_asked (train_of s t).status ≡ true
    → code_below s.trains (moved (reached s) t) < code_count

-- 02, card 2: "The test for a free track now returns which one", and does so exactly where the post "is held by fewer
-- trains than tracks"
pub record TrackFound : Type 0 where
  pub only : (s : State) (t p : ℕ) → consistent s ≡ true → p < s.posts → free_track s t p ≢ 0
      → post_holders s.trains (located s) p < tracks_at (line_of s) p
  pub then : (s : State) (t p : ℕ) → consistent s ≡ true → p < s.posts
      → post_holders s.trains (located s) p < tracks_at (line_of s) p → free_track s t p ≢ 0

-- "A train keeps its track while it holds the post": whatever the frame
abbrev pub TrackKept : Type 0
TrackKept = (s : State) (table : List ℕ) (journal : List Record) (frame out : List ℕ) (t p : ℕ)
    → let v = (answer s table journal frame out).state in
    holds_post (located s t) p ≡ true → holds_post (located v t) p ≡ true
    → track_at (train_of v t) p ≡ track_at (train_of s t) p

-- none can be granted
abbrev pub NoneLeft : List ℕ → State → Type 0
NoneLeft table s = (u : ℕ) → u < s.trains → grantable table s u ≡ false

-- train t can be granted, and asked before every other train that can be
pub record First (table : List ℕ) (s : State) (t : ℕ) : Type 0 where
  pub known : t < s.trains
  pub can : grantable table s t ≡ true
  pub first : (u : ℕ) → u < s.trains → u ≢ t → grantable table s u ≡ true
      → asked_as (train_of s t).status < asked_as (train_of s u).status

-- "the oldest Asked train (lowest FA number) that can be granted becomes Running and an FE is written; again from the
-- oldest, until none can be granted": each grant goes to the first train of the state that the grant before it left
pub data Granting (table : List ℕ) : Work → Work → Type 0 where
  done : (w : Work) → NoneLeft table w.state → Granting table w w
  next : (w v : Work) (t : ℕ) → First table w.state t → Granting table (granted w t) v → Granting table w v

-- demand 2: "A train that asked gets its authority exactly when the section is free, the next post has a free track,
-- and all trains could still reach their ends", the last by the table's bit
pub record ExactGrant : Type 0 where
  -- the granting of a frame is such a chain, in every state that is valid but for its count: a frame that finds 229
  -- records begins it with 230
  pub chain : (table : List ℕ) (w : Work) → consistent w.state ≡ true → Granting table w (settled table w)
  -- after an accepted frame that runs the granting none is left. 02, card 6: a repeat runs none.
  pub none_left : (s : State) (table : List ℕ) (journal : List Record) (frame out : List ℕ) (n : ℕ)
      → runs_granting (read_frame frame) ≡ true → again s (read_frame frame) ≡ none
      → (answer s table journal frame out).verdict ≡ Sent n → NoneLeft table (answer s table journal frame out).state
  -- and after any other frame none is left where none was before
  pub none_more : (s : State) (table : List ℕ) (journal : List Record) (frame out : List ℕ)
      → NoneLeft table s → NoneLeft table (answer s table journal frame out).state

-- "crews can only foresee turns by order of asking": of the trains that can be granted the one that asked first gets
-- the first authority
abbrev pub OldestFirst : Type 0
OldestFirst = (table : List ℕ) (w : Work) (t : ℕ) → consistent w.state ≡ true → First table w.state t
    → (others : List Message) × ((settled table w).sent ≡ w.sent ++ Fe (next_move w.state t) ∷ others)

-- what demand 2 asks for an authority: the train asked, "the section is free, the next post has a free track, and all
-- trains could still reach their ends". 02, card 4: "A section held by a gang blocks authorities."
pub record MayGo (s : State) (t : ℕ) : Type 0 where
  pub asks : is_asked (train_of s t).status ≡ true
  pub section : holders_of s (section_of (train_of s t).at.0 (next_of (train_of s t))) ≡ 0
  pub post : post_holders s.trains (located s) (next_of (train_of s t)) < tracks_at (line_of s) (next_of (train_of s t))
  pub completable : Completable (line_of s) (moved (reached s) t)

-- with the table of the line, as every run from an opening has it, a train can be granted exactly then
pub record RightGrant : Type 0 where
  pub only : (s : State) (table : List ℕ) (t : ℕ) → consistent s ≡ true → t < s.trains
      → grantable (filled (line_of s) table) s t ≡ true → MayGo s t
  pub then : (s : State) (table : List ℕ) (t : ℕ) → consistent s ≡ true → t < s.trains
      → MayGo s t → grantable (filled (line_of s) table) s t ≡ true
