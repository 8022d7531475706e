-- A section lent to a gang or given back, as the code works on it.
use mathlib.Core.Path.{◌≡◌, ap, ◌∙◌}
use mathlib.Core.Bool.{Bool, true, false}
use mathlib.Core.List.{List}
use Prim.Native.Nat.{ℕ, ◌+◌}
use native.Mathlib.Omega.{arith}
use Rattle.line.specs.Route.{section_of}
use Rattle.journal.specs.Journal.{record_of, empty_batch}
use Rattle.rules.specs.State.{with_possession}
use Rattle.rules.specs.Granting.{begun, sends, settled}
use Rattle.rules.specs.Answer.{anew}
use Rattle.authority.specs.Progress.{add_records, progress_of, progress_with}
use Rattle.accepting.specs.Types.{Move, La, Le, Lb, Record, State, Progress}
use Rattle.accepting.specs.Acceptable.{OnSection}
use Rattle.accepting.proofs.Declining.{sends_held}

-- the section, found to be i, is the one that is named
module _ (s : State) (m : Move) (k : OnSection s m) (i : ℕ) (own : i ≡ section_of m.from.0 m.to.0) where
  named : i ≡ m.from.0
  named = omega (arith, own, k.upper)

  pub possession_named : (b : State) (held : Bool) (n : ℕ) → b ≡ with_possession s i held n
      → b ≡ with_possession s m.from.0 held n
  possession_named b held n e = e ∙ ap (λ (j : ℕ). with_possession s j held n) named

-- the LA is logged, and then its LE
pub lent_told : (s : State) (m : Move) (b : State) → b ≡ with_possession s m.from.0 true (s.given + 1)
    → (p : Progress) → p ≡ progress_with b empty_batch (record_of (La m)) → (table : List ℕ)
    → progress_with p.state p.batch (record_of (Le m)) ≡ progress_of (anew table s (La m))
unfolding anew add_records
lent_told s m b e p held table =
    sends_held (begun b (record_of (La m))) p held (record_of (Le m)) (Le m)
    ∙ ap (λ (c : State). let w = begun c (record_of (La m)) in
    progress_of (sends w.state w (record_of (Le m)) (Le m))) e

-- the LB is logged, and then the granting goes on
pub returned_told : (s : State) (m : Move) (b : State) → b ≡ with_possession s m.from.0 false s.given
    → (entry : Record) → entry ≡ record_of (Lb m) → (table : List ℕ)
    → progress_of (settled table (begun b entry)) ≡ progress_of (anew table s (Lb m))
unfolding anew
returned_told s m b e entry is table = rw (e, is)
