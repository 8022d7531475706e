-- "Places for posts from P on and trains from T on are not read", and by card 4 those for sections from P - 1 on: for
-- every table, journal, frame and out buffer, and every state, valid or strange.
use Rattle.std.specs.Prelude.{◌≡◌, false, List, ℕ, ◌+◌, ◌≤◌, ◌<◌, length, get_or}
use Rattle.line.specs.Line.{tracks_at}
use Rattle.rules.specs.State.{train_of, line_of, possessed}
use Rattle.rules.specs.Answer.{Answer, answer}
use Rattle.assurance.specs.Types.{Record, State}

-- two states that may differ only in the places for posts from P on, trains from T on and sections from P - 1 on
pub record Alike (s u : State) : Type 0 where
  pub posts : u.posts ≡ s.posts
  pub sidings : u.sidings ≡ s.sidings
  pub trains : u.trains ≡ s.trains
  pub logged : u.logged ≡ s.logged
  pub tracks : (p : ℕ) → p < s.posts → tracks_at (line_of u) p ≡ tracks_at (line_of s) p
  pub train : (t : ℕ) → t < s.trains → train_of u t ≡ train_of s t
  pub given : u.given ≡ s.given
  pub sections : (i : ℕ) → possessed u i ≡ possessed s i
  -- as its declared type has it
  pub places : length u.possessions ≡ length s.possessions

-- two answers that are the same but for such places
pub record SameAnswer (a b : Answer) : Type 0 where
  pub state : Alike a.state b.state
  pub verdict : b.verdict ≡ a.verdict
  pub journal : b.journal ≡ a.journal
  pub out : b.out ≡ a.out

-- those places are not read
abbrev pub Unread : Type 0
Unread = (s u : State) (table : List ℕ) (journal : List Record) (frame out : List ℕ) → Alike s u
    → SameAnswer (answer s table journal frame out) (answer u table journal frame out)

-- P, T, the track counts, the sidings and the routes are those of s, and so are the places for trains from T on and for
-- sections from P - 1 on
pub record Kept (s v : State) : Type 0 where
  pub posts : v.posts ≡ s.posts
  pub tracks : v.tracks ≡ s.tracks
  pub sidings : v.sidings ≡ s.sidings
  pub trains : v.trains ≡ s.trains
  pub size : length v.fleet ≡ length s.fleet
  pub routes : (t : ℕ) → (train_of v t).route ≡ (train_of s t).route
  pub places : (t : ℕ) → s.trains ≤ t → train_of v t ≡ train_of s t
  pub sections : (i : ℕ) → s.posts ≤ i + 1 → get_or v.possessions i false ≡ get_or s.possessions i false

-- nor are they written, and no frame changes the line
abbrev pub LeftAlone : Type 0
LeftAlone = (s : State) (table : List ℕ) (journal : List Record) (frame out : List ℕ)
    → Kept s (answer s table journal frame out).state
