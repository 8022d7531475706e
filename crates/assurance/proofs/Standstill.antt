-- No standstill: where nobody can be granted and no gang has a section, some train that is short of its end is not
-- waiting. With no train Running, the first move of a completion is one that can be granted.
use mathlib.Core.Path.{◌≡◌, ap, ◌∙◌}
use mathlib.Core.Logic.{◌≢◌}
use mathlib.Core.Bool.{Bool, true, false, not, ◌&&◌}
use mathlib.Core.List.{List}
use Prim.Native.Nat.{ℕ, ◌<◌}
use native.Mathlib.Omega.{arith}
use borrow.Author.Tests.{eqb-false, ne_eqb, not-true, not-false}
use Rattle.common.specs.Below.{any_below}
use Rattle.common.proofs.Tests.{clash, by_cases, not_passed, and_left, and_right}
use Rattle.common.proofs.Below.{count_none, count_cong, any_below_lem, below_any}
use Rattle.line.specs.Line.{route_of, tracks_at}
use Rattle.line.specs.Route.{section_of, route_distance, post_after}
use Rattle.line.specs.Holding.{Whereabouts, holds_post, holds_section, post_holders, section_holders}
use Rattle.line.proofs.Holding.{standing_section}
use Rattle.line.proofs.Travel.{post_travelled, post_next, next_within}
use Rattle.completion.specs.Configuration.{Arrived, Completable, whereabouts, holders, moved, post_ahead}
use Rattle.completion.specs.Table.{Onward}
use Rattle.completion.proofs.Agreement.{first_move}
use Rattle.rules.specs.declared.state.Train.{Train}
use Rattle.rules.specs.State.{is_asked, is_running, at_end, next_of, train_of, line_of, located, possessed, reached}
use Rattle.rules.specs.Granting.{grantable}
use Rattle.rules.proofs.Trains.{asked_idle, running_busy, route_of_lem}
use Rattle.rules.proofs.Validity.{Consistent, next_post_below}
use Rattle.rules.proofs.FreeTrack.{fewer_free}
use Rattle.rules.proofs.Changes.{is_grantable}
use Rattle.rules.proofs.Oldest.{Nobody}
use Rattle.rules.proofs.Reached.{reached_idle}
use Rattle.assurance.specs.Types.{State}
use Rattle.assurance.proofs.Invariant.{Right}

abbrev pub Short : State → ℕ → Type 0
Short s t = (train_of s t).at.0 ≢ (train_of s t).route.end.0

module _ (table : List ℕ) (s : State) (d : Consistent s) (right : Right (line_of s) table)
    (complete : Completable (line_of s) (reached s)) (gone : (i : ℕ) → possessed s i ≡ false) where
  -- ---- no train is Running

  module _ (idle : (v : ℕ) → v < s.trains → is_running (train_of s v).status ≡ false) where
    -- every train is where the configuration has it
    stands : (v : ℕ) → v < s.trains → post_after (route_of (line_of s) v) (reached s v) ≡ (train_of s v).at.0
    stands v k =
        rw (reached_idle s v (idle v k), route_of_lem s v)
        (post_travelled (train_of s v).route (train_of s v).at.0 (d.each v k).inside)

    placed : (v : ℕ) → v < s.trains → located s v ≡ whereabouts (line_of s) (reached s) v
    placed v k = rw (stands v k, idle v k, route_of_lem s v)

    short_of : (t : ℕ) → t < s.trains → Short s t → Arrived (line_of s) (reached s) → ⊥
    short_of t k short e =
        let far : reached s t ≡ route_distance (train_of s t).route = e t k ∙ rw (route_of_lem s t) in
        omega (arith, next_within _ _ _ (d.each t k).inside short, reached_idle s t (idle t k))

    -- ---- the first move of a completion can be granted

    module _ (m : Onward (line_of s) (reached s)) where
      abbrev mover : Train
      mover = train_of s m.train

      away : Short s m.train
      away e =
          let far : reached s m.train < route_distance mover.route = rw (route_of_lem s m.train) at m.short in
          let here : reached s m.train ≡ route_distance mover.route =
          reached_idle s m.train (idle m.train m.known) ∙ rw e in
          omega arith

      free_section : section_holders s.trains (located s) (section_of mover.at.0 (next_of mover)) ≡ 0
      free_section = count_none s.trains (λ v. holds_section (located s v) (section_of mover.at.0 (next_of mover)))
          (λ v k. rw (idle v k) (standing_section s.sidings _ _ _))

      -- the completion's own first move says that a track is free
      free_track_lem : post_holders s.trains (located s) (next_of mover) < tracks_at (line_of s) (next_of mover)
      free_track_lem =
          let q = next_of mover in
          let same : post_holders s.trains (located s) q ≡ holders (line_of s) (reached s) q =
          count_cong s.trains (λ v. holds_post (located s v) q)
          (λ v. holds_post (whereabouts (line_of s) (reached s) v) q)
          (λ v k. ap (λ (w : Whereabouts). holds_post w q) (placed v k)) in
          let goes : post_ahead (line_of s) (reached s) m.train ≡ q =
          rw (reached_idle s m.train (idle m.train m.known), route_of_lem s m.train)
          (post_next mover.route mover.at.0 (d.each m.train m.known).inside away) in
          rw (same, ← goes) m.free

      mover_grantable : is_asked mover.status ≡ true → grantable table s m.train ≡ true
      mover_grantable a = is_grantable table s m.train (record {
        asks = a;
        section = rw (gone (section_of mover.at.0 (next_of mover)), free_section);
        track = fewer_free s d (next_of mover) (next_post_below s d m.train m.known away) m.train free_track_lem;
        bit = right.full (moved (reached s) m.train) m.next;
      })

  -- ---- not all trains that are short of their ends wait

  stuck : Nobody table s s.trains → ((u : ℕ) → u < s.trains → Short s u → is_asked (train_of s u).status ≡ true)
      → (t : ℕ) → t < s.trains → Short s t → ⊥
  stuck nobody all t k short =
      let m = first_move (line_of s) (reached s) complete (short_of idle t k short) in
      clash (grantable table s m.train) (mover_grantable idle m (all m.train m.known (away idle m)))
      (nobody.barred m.train m.known)
    where
      idle : (v : ℕ) → v < s.trains → is_running (train_of s v).status ≡ false
      idle v kv = not_passed (is_running (train_of s v).status) (λ e. clash (is_running (train_of s v).status) e
          (asked_idle (train_of s v).status (all v kv ((d.each v kv).busy (running_busy (train_of s v).status e)))))

  pub goes_on : Nobody table s s.trains → (t : ℕ) → t < s.trains → Short s t
      → (u : ℕ) × (u < s.trains) × Short s u × (is_asked (train_of s u).status ≡ false)
  goes_on nobody t k short = by_cases (any_below s.trains waits)
      (λ e.
      let r = any_below_lem s.trains waits e in
      let f = and_left (not (at_end (train_of s r.0))) (not (is_asked (train_of s r.0).status)) r.2 in
      let g = and_right (not (at_end (train_of s r.0))) (not (is_asked (train_of s r.0).status)) r.2 in
      (r.0, r.1, eqb-false _ _ (not-true _ f), not-true _ g))
      (λ e. absurd (stuck nobody (λ u ku away. asked_if u away (none u ku e)) t k short))
    where
      waits : ℕ → Bool
      waits u = not (at_end (train_of s u)) && not (is_asked (train_of s u).status)

      none : (u : ℕ) → u < s.trains → any_below s.trains waits ≡ false → waits u ≡ false
      none u ku e =
          not_passed (waits u) (λ p. clash (any_below s.trains waits) (below_any s.trains waits u ku p) e)

      asked_if : (u : ℕ) → Short s u → waits u ≡ false → is_asked (train_of s u).status ≡ true
      asked_if u away e =
          not-false (is_asked (train_of s u).status)
          (rw (ne_eqb (train_of s u).at.0 (train_of s u).route.end.0 away) at e)
