-- A run over a list of frames keeps the invariant, from frame to frame.
use mathlib.Core.Path.{◌≡◌, refl, ◌∙◌}
use mathlib.Core.Logic.{⊎_elim}
use mathlib.Core.List.Memᴰ
use mathlib.Core.List.{List, [], ◌∷◌, Memᴰ}
use Prim.Native.Nat.{ℕ}
use Rattle.rules.specs.State.{line_of}
use Rattle.rules.specs.Answer.{answer}
use Rattle.assurance.specs.Types.{Move, Fe, Record, State}
use Rattle.assurance.specs.Run.{Input, Exchange, Ran, run}
use Rattle.assurance.specs.Observer.{Observer, answers_of, observe}
use Rattle.assurance.specs.WholeList.{Requested}
use Rattle.assurance.proofs.Logging.{Later, later_same, later_still, requested_later}
use Rattle.assurance.proofs.Exchanged.{Settled, answer_kept}

-- "Every authority written has its logged request."
abbrev pub AllRequested : Ran → Type 0
AllRequested r = (e : Exchange) → Memᴰ e r.exchanges
    → (m : Move) → Memᴰ (Fe m) (answers_of e.verdict e.out) → Requested r.state.logged r.journal m

pub record RunKept (table : List ℕ) (s : State) (j : List Record) (o : Observer) (r : Ran) : Type 0 where
  pub after : Settled table r.state r.journal (observe o r.exchanges)
  pub line : line_of r.state ≡ line_of s
  pub requested : AllRequested r
  pub later : Later s.logged j r.state.logged r.journal

pub run_kept : (table : List ℕ) (inputs : List Input) (s : State) (j : List Record) (o : Observer) → Settled table s j o
    → RunKept table s j o (run table s j inputs)
unfolding run observe
run_kept table [] s j o k =
    record { after = k; line = refl; requested = λ e h. absurd (Memᴰ.not-nil h); later = later_same s.logged j }
run_kept table (i ∷ is) s j o k =
    let a = answer s table j i.frame i.out in
    let f = answer_kept table s j o k i.frame i.out in
    let r = run_kept table is a.state a.journal _ f.after in
    record {
      after = r.after;
      line = r.line ∙ f.line;
      requested = λ e h m q. ⊎_elim
          (λ first. requested_later r.later (f.requested m (rw first at q)))
          (λ rest. r.requested e rest m q)
          (Memᴰ.cases_cons h);
      later = later_still f.later r.later;
    }
