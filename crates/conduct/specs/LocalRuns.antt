-- Runs under local responsibility, 02, card 4: claims on one frame, for every state that is handed in, every table,
-- right or altered, and every journal and out buffer.
use Rattle.std.specs.Prelude.{◌≡◌, ◌≢◌, Bool, true, false, List, [], ◌∷◌, ℕ, ◌+◌, ◌<◌, length}
use Rattle.line.specs.Route.{section_of}
use Rattle.frame.specs.Frame.{move_of, read_frame, bytes_of}
use Rattle.rules.specs.State.{next_of, train_of, possessed, holders_of}
use Rattle.rules.specs.Valid.{most_given}
use Rattle.rules.specs.Granting.{grantable}
use Rattle.rules.specs.Answer.{gang_byte}
use Rattle.rules.specs.Refusals.{Handed, answer_to, Prepared}
use Rattle.rules.specs.Counts.{IsAnswered}
use Rattle.assurance.specs.Types.{Move, La, Le, Lb, State, Sent}
use Rattle.assurance.specs.Observer.{answers_of}

-- "have train byte 255 and name the two neighbouring posts, lower first"
abbrev pub section_move : ℕ → Move
section_move i = move_of gang_byte i (i + 1)

-- "if no train and no gang holds the section and fewer than 20 local runs were given since opening"
pub record MayLend (s : State) (i : ℕ) : Type 0 where
  pub on : i + 1 < s.posts
  pub free : holders_of s i ≡ 0
  pub few : s.given < most_given

-- section i is a gang's or is not any more, every other is as it was, and n local runs are given
pub record Changed (s : State) (i : ℕ) (held : Bool) (n : ℕ) (v : State) : Type 0 where
  pub own : possessed v i ≡ held
  pub others : (k : ℕ) → k ≢ i → possessed v k ≡ possessed s k
  pub given : v.given ≡ n

pub record LocalRuns : Type 0 where
  -- "LA is answered by LE exactly if" so
  pub then : (h : Handed) (i : ℕ) → Prepared h → h.frame ≡ bytes_of (La (section_move i)) → MayLend h.state i
      → (answer_to h).verdict ≡ Sent 1
  pub only : (h : Handed) (m : Move) (n : ℕ) → read_frame h.frame ≡ La m → (answer_to h).verdict ≡ Sent n
      → (m ≡ section_move m.from.0) × MayLend h.state m.from.0
  -- by its own LE and nothing else. It makes the section a gang's, and changes no train.
  pub lent : (h : Handed) (m : Move) (n : ℕ) → length h.state.possessions ≡ 7
      → read_frame h.frame ≡ La m → (answer_to h).verdict ≡ Sent n
      → let a = answer_to h in
      (answers_of a.verdict a.out ≡ Le m ∷ [])
      × (Changed h.state m.from.0 true (h.state.given + 1) a.state)
      × (a.state.fleet ≡ h.state.fleet)
  -- "A section held by a gang blocks authorities."
  pub blocks : (s : State) (table : List ℕ) (t : ℕ)
      → possessed s (section_of (train_of s t).at.0 (next_of (train_of s t))) ≡ true → grantable table s t ≡ false
  -- LB is accepted exactly where a gang has the section
  pub back : (h : Handed) (i : ℕ) → Prepared h → h.frame ≡ bytes_of (Lb (section_move i)) → possessed h.state i ≡ true
      → IsAnswered h
  pub back_only : (h : Handed) (m : Move) (n : ℕ) → read_frame h.frame ≡ Lb m → (answer_to h).verdict ≡ Sent n
      → (m ≡ section_move m.from.0) × (possessed h.state m.from.0 ≡ true)
  -- "LB frees it"
  pub freed : (h : Handed) (m : Move) (n : ℕ) → read_frame h.frame ≡ Lb m → (answer_to h).verdict ≡ Sent n
      → Changed h.state m.from.0 false h.state.given (answer_to h).state
