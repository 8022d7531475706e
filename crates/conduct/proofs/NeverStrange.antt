-- In a run from an accepted opening no frame is refused by 1: before each frame the state is valid.
use mathlib.Core.Path.{◌≡◌}
use mathlib.Core.Logic.{◌≢◌, ⊎_elim}
use mathlib.Core.List.Memᴰ
use mathlib.Core.List.{List, [], ◌∷◌, Memᴰ}
use Prim.Native.Nat.{ℕ}
use Rattle.line.specs.Refusal.{strange_state}
use Rattle.line.specs.Book.{line_in}
use Rattle.rules.specs.Answer.{answer}
use Rattle.rules.specs.Opening.{opening}
use Rattle.rules.proofs.Acceptance.{not_strange}
use Rattle.assurance.specs.Types.{Record, State, Verdict, RefusedBy}
use Rattle.assurance.specs.Run.{Input, Exchange, run}
use Rattle.assurance.specs.Observer.{Observer}
use Rattle.conduct.specs.Homecoming.{NeverStrange}
use Rattle.assurance.proofs.Exchanged.{Settled, valid_settled, answer_kept}
use Rattle.assurance.proofs.Opened.{opening_accepted, opened_line_lem, opened_settled}

module _ (table : List ℕ) where
  -- what holds of the answer to each frame that finds a settled state holds of every exchange of a run from one
  each_exchange : (P : Verdict → Type 0)
      → ((s : State) (j : List Record) (o : Observer) → Settled table s j o → (frame out : List ℕ)
      → P (answer s table j frame out).verdict)
      → (inputs : List Input) (s : State) (j : List Record) (o : Observer) → Settled table s j o → (e : Exchange)
      → Memᴰ e (run table s j inputs).exchanges → P e.verdict
  unfolding run
  each_exchange P h [] s j o k e m = absurd (Memᴰ.not-nil m)
  each_exchange P h (i ∷ is) s j o k e m = ⊎_elim
      (λ q. rw q (h s j o k i.frame i.out))
      (λ q. each_exchange P h is _ _ _ (answer_kept table s j o k i.frame i.out).after e q)
      (Memᴰ.cases_cons m)

module _ (book table : List ℕ) (journal : List Record) (inputs : List Input)
    (e : (opening book table journal).number ≡ 0) where
  -- and so of every run from an accepted opening
  in_runs : (P : Verdict → Type 0)
      → ((table : List ℕ) (s : State) (j : List Record) (o : Observer) → Settled table s j o → (frame out : List ℕ)
      → P (answer s table j frame out).verdict)
      → let b = opening book table journal in
      (x : Exchange) → Memᴰ x (run b.table b.state journal inputs).exchanges → P x.verdict
  in_runs P h =
      let a = opening_accepted book table journal e in
      rw a.0 (each_exchange _ P (h _) inputs _ journal _
      (opened_settled (line_in book) table journal a.1 (opened_line_lem book)))

pub never_strange : NeverStrange
never_strange book table journal inputs e =
    in_runs book table journal inputs e (λ v. v ≢ RefusedBy strange_state)
    (λ table s j o k frame out. not_strange s table j frame out (valid_settled k))
