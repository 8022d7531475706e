-- An accepted opening establishes the invariant: the line is that of the book and well formed, the table is right, and
-- every train stands at its start.
use mathlib.Core.Path.{◌≡◌, refl, sym, subst, ◌∙◌}
use mathlib.Core.Bool.{Bool, true, false, not, and-false, false≢true, true≢false}
use mathlib.Core.List.{List}
use Prim.Native.Nat.{ℕ, ◌+◌, ◌≤◌, ◌<◌}
use native.Mathlib.Omega.{arith}
use lib.Dec.{leb, ltb}
use lib.ListN.{length, get_or, replicate, get_or-replicate, get_or-eq_default}
use borrow.Author.Tests.{leb-true, eq-eqb}
use Rattle.common.specs.Below.{count_below}
use Rattle.common.specs.Check.{refusal}
use Rattle.common.specs.Tabulate.{values_from, padded}
use Rattle.common.proofs.Tests.{by_equality, by_order, not_passed, and_right}
use Rattle.common.proofs.Below.{count_none, count_cong}
use Rattle.common.proofs.Tabulate.{at_tabulate}
use Rattle.common.proofs.Check.{passed_by, accepts, refuses}
use Rattle.line.specs.Refusal.{short_store, posts, tracks, sidings, trains, off_the_line, overfull, no_way_through}
use Rattle.line.specs.Line.{route_of}
use Rattle.line.specs.Holding.{is_stabled, holds_post, holds_section}
use Rattle.line.specs.Book.{line_in}
use Rattle.line.proofs.Holding.{standing_holds, standing_section}
use Rattle.line.proofs.Travel.{start_between, post_start}
use Rattle.line.proofs.WellFormed.{WellFormed, well_formed_parts, well_formed_lem}
use Rattle.journal.specs.Journal.{journal_length}
use Rattle.completion.specs.Configuration.{Feasible, Completable, start, code, whereabouts}
use Rattle.completion.specs.Table.{table_length, bit_of, filled}
use Rattle.completion.proofs.Feasibility.{feasible_of}
use Rattle.completion.proofs.Agreement.{completable_cong}
use Rattle.completion.proofs.Rule.{bit_completable, completable_bit}
use Rattle.rules.specs.State.{track_at, no_train, train_of, line_of, located, possessed, reached}
use Rattle.rules.specs.Granting.{grantable}
use Rattle.rules.specs.Opening.{opening_checks, opened_track, fresh, opened_state, opened, refused_book, opening}
use Rattle.rules.specs.Opening.{opening_with}
use Rattle.rules.proofs.Validity.{Consistent}
use Rattle.rules.proofs.Changes.{grantable_facts}
use Rattle.rules.proofs.Starting.{started, stabled_start}
use Rattle.assurance.specs.Types.{Line, Record}
use Rattle.assurance.specs.Observer.{at_opening}
use Rattle.assurance.specs.Tracks.{tracks_at_opening}
use Rattle.assurance.proofs.Invariant.{Right, Invariant}
use Rattle.assurance.proofs.Exchanged.{Settled}
use Rattle.assurance.proofs.Tracking.{TracksAgree}

-- ---- the checks

pub record Accepted (l : Line) (table : List ℕ) (journal : List Record) : Type 0 where
  pub line : WellFormed l
  pub fits : Feasible l start
  pub bit : bit_of (filled l table) (code l start) ≡ true
  pub room : journal_length ≤ length journal

module _ (book table : List ℕ) (journal : List Record) where
  book_passed : refusal (opening_checks book table (length journal)) ≡ 0 → Accepted (line_in book) table journal
  book_passed e =
      let passed = passed_by (opening_checks book table (length journal)) refl e in
      record {
        line = well_formed_lem (line_in book) (well_formed_parts (line_in book)
            (passed posts) (passed tracks) (passed sidings) (passed trains) (passed off_the_line));
        fits = feasible_of (line_in book) start (passed overfull);
        bit = passed no_way_through;
        room = leb-true _ _ (and_right (leb table_length (length table)) _ (passed short_store));
      }

  -- a book that is not refused passed them all
  pub opening_accepted : (opening book table journal).number ≡ 0
      → (opening book table journal ≡ opened (line_in book) table) × Accepted (line_in book) table journal
  unfolding opening_with
  opening_accepted e = by_equality (refusal (opening_checks book table (length journal))) 0
      (λ q. (accepts (opened (line_in book) table) (refused_book (line_in book) table) q, book_passed q))
      (λ h.
      let r =
      refuses {n = refusal (opening_checks book table (length journal))} (opened (line_in book) table)
      (refused_book (line_in book) table) (omega arith) in
      absurd (h (rw r at e)))

-- ---- the opened state

-- it is one of the book's line
pub opened_line_lem : (book : List ℕ) → line_of (opened_state (line_in book)) ≡ line_in book
unfolding values_from padded
opened_line_lem book = refl

module _ (l : Line) (table : List ℕ) (journal : List Record) (a : Accepted l table journal)
    (same : line_of (opened_state l) ≡ l) where
  pub fresh_train : (t : ℕ) → t < l.trains → train_of (opened_state l) t ≡ fresh (route_of l t) (opened_track l t)
  fresh_train t k =
      at_tabulate 6 (λ u. fresh (route_of l u) (opened_track l u)) t no_train (omega (arith, a.line.few_trains))

  -- a train of the opened state holds what it holds in the start, on its track
  opened_holds : (p t : ℕ) → t < l.trains
      → holds_post (located (opened_state l) t) p ≡ holds_post (whereabouts l start t) p
  opened_holds p t k = rw (fresh_train t k, post_start (route_of l t))

  opened_track_lem : (p t : ℕ) → t < l.trains → holds_post (located (opened_state l) t) p ≡ true
      → track_at (train_of (opened_state l) t) p ≡ opened_track l t
  opened_track_lem p t k h =
      let e = sym (standing_holds l.sidings (route_of l t).end.0 (route_of l t).start.0 p)
      ∙ (rw (fresh_train t k) at h) in
      rw (fresh_train t k, and_right (not (is_stabled l.sidings (route_of l t).end.0 (route_of l t).start.0)) _ e)

  -- no gang has a section
  pub opened_unlent : (i : ℕ) → possessed (opened_state l) i ≡ false
  opened_unlent i = rw none (and-false (ltb (i + 1) l.posts))
    where
      none : get_or (replicate 7 false) i false ≡ false
      none = by_order i 7 (get_or-replicate 7 i false false) (get_or-eq_default (replicate 7 false) false)

  opened_valid : Consistent (opened_state l)
  opened_valid = record {
    line = subst WellFormed (sym same) a.line;
    each = λ t k. rw (fresh_train t k) (record {
      inside = start_between _ _;
      busy = λ q. absurd (true≢false q);
      numbered = λ q. absurd (false≢true q);
      finished = rw (eq-eqb (route_of l t).start.0 _ refl);
    });
    sections = λ i k.
        let holds : ℕ → Bool = λ t. holds_section (located (opened_state l) t) i in
        let none : count_below l.trains holds ≡ 0 =
        count_none l.trains holds (λ t kt. rw (fresh_train t kt) (standing_section l.sidings _ _ i)) in
        rw (none, opened_unlent i) (omega arith);
    posts = λ p k.
        rw (count_cong l.trains (λ t. holds_post (located (opened_state l) t) p)
        (λ t. holds_post (whereabouts l start t) p) (opened_holds p))
        (a.fits.fits p k);
    tracks = λ p t kp kt h.
        rw (opened_track_lem p t kt h) ((started l a.fits.fits).some p t kp kt (sym (opened_holds p t kt) ∙ h));
    differ = λ p t u kp kt ku g h e. (started l a.fits.fits).apart p t u kp kt ku
        (sym (opened_holds p t kt) ∙ g) (sym (opened_holds p u ku) ∙ h)
        (sym (opened_track_lem p t kt g) ∙ e ∙ opened_track_lem p u ku h);
    away = λ t k. rw (fresh_train t k) (stabled_start l t k);
    distinct = λ t u kt ku p. absurd (false≢true (rw (fresh_train t kt) at p));
    few_given = omega arith;
  }

  right : Right l (filled l table)
  right = record {
    sound = bit_completable l a.line table;
    full = λ c f. completable_bit l a.line table c f.feasible.within f;
  }

  opened_kept : Invariant (filled l table) (opened_state l) journal (at_opening l)
  unfolding count_below
  opened_kept = record {
    valid_state = opened_valid;
    right = subst (λ (z : Line). Right z (filled l table)) (sym same) right;
    room = a.room;
    each = λ t k.
        rw (fresh_train t k) (record {
          seen = refl;
          request = λ q. absurd (false≢true q);
          authorities = omega arith;
          granted = λ q. absurd (false≢true q);
        });
    gangs = λ i. rw (opened_unlent i);
    seven = refl;
    completable = subst (λ (z : Line). Completable z (reached (opened_state l))) (sym same)
        (completable_cong l start (reached (opened_state l)) (λ t k. rw (fresh_train t k) (omega arith))
        (bit_completable l a.line table start a.fits.within a.bit));
  }

  pub opened_settled : Settled (filled l table) (opened_state l) journal (at_opening l)
  opened_settled = record {
    kept = opened_kept;
    bounded = omega (arith, count_none l.posts (possessed (opened_state l)) (λ i k. opened_unlent i));
    nobody = record {
      barred = λ t k. not_passed (grantable (filled l table) (opened_state l) t) (λ e.
          false≢true (rw (fresh_train t k) at (grantable_facts (filled l table) (opened_state l) t e).asks));
    };
  }

  pub opened_tracks : TracksAgree (opened_state l) (tracks_at_opening l)
  opened_tracks = record { each = λ t k. rw (fresh_train t k) }
