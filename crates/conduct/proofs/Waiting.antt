-- Nobody who could go is left waiting: by the invariant, a train could go, as the observer tells it, exactly where it
-- can be granted.
use mathlib.Core.Path.{◌≡◌, sym, subst, ◌∙◌}
use mathlib.Core.Bool.{true}
use mathlib.Core.List.{List}
use Prim.Native.Nat.{ℕ, ◌<◌}
use Rattle.common.proofs.Tests.{clash}
use Rattle.line.specs.Route.{section_of}
use Rattle.line.specs.Book.{line_in}
use Rattle.completion.specs.Configuration.{Agree, moved}
use Rattle.completion.specs.Table.{filled}
use Rattle.completion.proofs.Agreement.{completable_cong, moved_cong}
use Rattle.rules.specs.declared.state.Train.{Train}
use Rattle.rules.specs.State.{is_asked, train_of, next_of, line_of, reached}
use Rattle.rules.specs.Granting.{grantable}
use Rattle.rules.specs.Opening.{Opening, opened_state}
use Rattle.rules.proofs.Validity.{next_post_below, asked_short}
use Rattle.rules.proofs.FreeTrack.{free_fewer, fewer_free}
use Rattle.rules.proofs.Changes.{grantable_facts, is_grantable}
use Rattle.rules.proofs.Reached.{moved_within}
use Rattle.assurance.specs.Types.{Line, Record, State}
use Rattle.assurance.specs.Run.{run}
use Rattle.assurance.specs.Observer.{Observer, at_opening, observe, reached_told}
use Rattle.conduct.specs.Waiting.{CouldGo, Waiting, NoNeedlessWait}
use Rattle.assurance.proofs.Invariant.{Invariant}
use Rattle.assurance.proofs.Exchanged.{Settled}
use Rattle.assurance.proofs.Opened.{opening_accepted, opened_line_lem}
use Rattle.assurance.proofs.Told.{at_post, asked_told, next_told_lem, reached_told_lem, holders_told_lem, posts_told}
use Rattle.assurance.proofs.WholeList.{opened_run}

-- ---- what the observer tells of a train that could go, and the test

module _ (table : List ℕ) (s : State) (j : List Record) (o : Observer) (inv : Invariant table s j o) where
  same_moved : (t : ℕ) → t < s.trains → Agree (line_of s) (moved (reached_told (line_of s) o) t) (moved (reached s) t)
  same_moved t kt = moved_cong (line_of s) (reached_told (line_of s) o) (reached s) t kt
      (reached_told_lem table s j o inv)

  module _ (t : ℕ) (kt : t < s.trains) where
    abbrev x : Train
    x = train_of s t

    below : is_asked x.status ≡ true → next_of x < s.posts
    below asks =
        next_post_below s inv.valid_state t kt (asked_short s inv.valid_state t kt asks)

    pub could_granted : CouldGo (line_of s) o t → grantable table s t ≡ true
    could_granted c =
        let here = at_post table s j o inv t kt in
        let next = next_told_lem table s j o inv t kt in
        let holders = holders_told_lem table s j o inv (section_of x.at.0 (next_of x)) in
        is_grantable table s t (record {
          asks = sym (asked_told table s j o inv t kt) ∙ c.asks;
          section = sym holders ∙ rw (next, here) at c.section;
          track = fewer_free s inv.valid_state (next_of x) (below (sym (asked_told table s j o inv t kt) ∙ c.asks)) t
              (rw (← posts_told table s j o inv (next_of x)) (rw next at c.post));
          bit = inv.right.full (moved (reached s) t)
              (completable_cong (line_of s) _ _ (same_moved t kt) c.completable);
        })

    pub granted_could : grantable table s t ≡ true → CouldGo (line_of s) o t
    granted_could e =
        let g = grantable_facts table s t e in
        let here = at_post table s j o inv t kt in
        let next = next_told_lem table s j o inv t kt in
        let holders = holders_told_lem table s j o inv (section_of x.at.0 (next_of x)) in
        record {
          asks = asked_told table s j o inv t kt ∙ g.asks;
          section = rw (next, here) (holders ∙ g.section);
          post = rw (next, posts_told table s j o inv (next_of x))
              (free_fewer s inv.valid_state (next_of x) (below g.asks) t g.track);
          completable = completable_cong (line_of s) (moved (reached s) t) (moved (reached_told (line_of s) o) t)
              (λ u ku. sym (same_moved t kt u ku))
              (inv.right.sound (moved (reached s) t) (moved_within s inv.valid_state t kt g.asks) g.bit);
        }

pub waiting : (table : List ℕ) (s : State) (j : List Record) (o : Observer) → Settled table s j o
    → Waiting (line_of s) o
waiting table s j o k = record {
  needed = λ t kt c.
      clash (grantable table s t) (could_granted table s j o k.kept t kt c) (k.nobody.barred t kt);
  completable = completable_cong (line_of s) (reached s) (reached_told (line_of s) o)
      (λ t kt. sym (reached_told_lem table s j o k.kept t kt)) k.kept.completable;
}

pub no_needless_wait : NoNeedlessWait
no_needless_wait book table journal inputs e =
    let l = line_in book in
    let k = opened_run book table journal inputs e in
    let r = run (filled l table) (opened_state l) journal inputs in
    subst
    (λ (o : Opening).
    let r = run o.table o.state journal inputs in Waiting l (observe (at_opening l) r.exchanges))
    (sym (opening_accepted book table journal e).0)
    (subst (λ (z : Line). Waiting z (observe (at_opening l) r.exchanges)) (k.line ∙ opened_line_lem book)
    (waiting (filled l table) _ _ _ k.after))
