-- The journal's count, 02, card 7: which counts are strange, that 13 is never given, and that nothing comes in its
-- place, for every state that is handed in, every table, right or altered, and every journal and out buffer.
use Rattle.std.specs.Prelude.{◌≡◌, true, ℕ, ◌≤◌, ◌<◌}
use Rattle.line.specs.Refusal.{strange_state}
use Rattle.rules.specs.Types.{Move, Fa, Am, State, Sent}
use Rattle.rules.specs.State.{is_running, counting}
use Rattle.rules.specs.Valid.{valid}
use Rattle.rules.specs.Refusals.{Handed, answer_to, RefusedAs, named, NamesNext}

-- the frame is not refused
abbrev pub IsAnswered : Handed → Type 0
IsAnswered h = (n : ℕ) × ((answer_to h).verdict ≡ Sent n)

pub record Counts : Type 0 where
  -- "A state whose journal count is above 229 becomes strange, refusal 1", whatever else is handed in
  pub strange : (h : Handed) → 229 < h.state.logged → RefusedAs strange_state h
  -- and no other is strange by its count: a sound state stays sound with a higher one up to 229
  pub in_range_lem : (s : State) (n : ℕ) → valid s ≡ true → s.logged ≤ n → n ≤ 229 → valid (counting s n) ≡ true
  -- "remove it": 13 is never given, whatever is handed in
  pub gone : (h : Handed) → RefusedAs 13 h → ⊥
  -- nor does another number come in its place: in a valid state an FA for its train's next move, and such an AM of a
  -- Running train, are answered, as a gang's frames are (`LocalRuns`, conduct)
  pub request : (h : Handed) (m : Move) → NamesNext h (Fa m) → IsAnswered h
  pub arrival : (h : Handed) (m : Move) → NamesNext h (Am m) → is_running (named h (Am m)).status ≡ true
      → IsAnswered h
