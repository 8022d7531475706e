-- The sets of the tracks that are held: one train's track more in them.
use mathlib.Core.Path.{◌≡◌, refl, sym, ap, ◌∙◌}
use mathlib.Core.Logic.{◌≢◌}
use mathlib.Core.Bool.{Bool, true, false, not, ◌&&◌, ◌||◌, or-false, or_comm}
use mathlib.Core.List.{List}
use Prim.Native.Nat.{ℕ, ◌+◌, ◌<◌}
use native.Mathlib.Numerals.{add-one}
use native.Mathlib.Omega.{arith}
use lib.Dec.{eqb}
use lib.ListN.{length, get_or, set, replicate, get_or-replicate, length-set}
use lib.Seq.{get_or-set_same, get_or-set_other}
use borrow.Author.Tests.{eq-eqb, ne_eqb}
use Rattle.common.specs.Below.{any_below}
use Rattle.common.specs.Bits.{set_below}
use Rattle.common.proofs.Tests.{by_cases, by_equality}
use Rattle.common.proofs.Bits.{set_cong}
use Rattle.line.specs.Holding.{is_stabled, holds_post}
use Rattle.line.proofs.Holding.{standing_holds}
use Rattle.tracks.specs.Answers.{with_track}
use Rattle.tracks.proofs.Sets.{track_more}
use Rattle.holding.specs.Types.{Train, State}
use Rattle.rules.specs.State.{is_running, track_ahead, next_of, track_at, train_of, located}
use Rattle.rules.specs.State.{holds_track}

-- ---- eight sets of tracks

-- set p has the tracks that pass the test of p
pub record TracksIn (f : ℕ → ℕ → Bool) (sets : List ℕ) : Type 0 where
  pub eight : length sets ≡ 8
  pub each : (p : ℕ) → p < 8 → get_or sets p 0 ≡ set_below 8 (f p)

module _ {f : ℕ → ℕ → Bool} {sets : List ℕ} (h : TracksIn f sets) where
  -- by another test that says the same
  retested : (g : ℕ → ℕ → Bool) → ((p k : ℕ) → f p k ≡ g p k) → TracksIn g sets
  retested g e = record { eight = h.eight; each = λ p l. h.each p l ∙ set_cong 8 (f p) (g p) (λ k m. e p k) }

  -- w is set i with track k in it
  mark : (i k w : ℕ) → i < 8 → w ≡ with_track (get_or sets i 0) k
      → TracksIn (λ p j. f p j || (eqb i p && eqb k j)) (set sets i w)
  mark i k w small more = record {
    eight = length-set sets i w ∙ h.eight;
    each = λ p l. by_equality i p
        (λ e. rw (eq-eqb i p e, ← e) (get_or-set_same sets i w 0 (omega (arith, h.eight))
        ∙ more ∙ track_more (f i) _ k (h.each i small)))
        (λ e. rw (ne_eqb i p e) (get_or-set_other sets i p w 0 (λ z. e (sym z)) ∙ h.each p l
        ∙ set_cong 8 (f p) _ (λ j m. sym (or-false (f p j)))));
  }

-- ---- the tracks of the first n trains

abbrev pub held_among : State → ℕ → ℕ → ℕ → Bool
held_among s n p k = any_below n (holds_track s p k)

pub tracks_none : (s : State) → TracksIn (held_among s 0) (replicate 8 0)
unfolding any_below set_below
tracks_none s = record { eight = refl; each = λ p l. get_or-replicate 8 p 0 0 l }

-- whether train x has track k at post p, where b says whether it holds the post: its own post alone, or besides the one
-- to which it runs, with track j there
module _ (x : Train) (p k : ℕ) (b : Bool) where
  one_post : b ≡ eqb x.at.0 p → eqb x.at.0 p && eqb x.track.0 k ≡ b && eqb (track_at x p) k
  one_post e = rw e (by_cases (eqb x.at.0 p) (λ y. rw y) (λ y. rw y))

  two_posts_lem : (q j : ℕ) → j ≡ track_ahead x.status → x.at.0 ≢ q → b ≡ eqb x.at.0 p || eqb q p → (c : Bool)
      → (c || (eqb x.at.0 p && eqb x.track.0 k)) || (eqb q p && eqb j k) ≡ c || (b && eqb (track_at x p) k)
  two_posts_lem q j ahead onward e c = by_equality x.at.0 p
      (λ y.
      let other : eqb q p ≡ false = ne_eqb q p (λ z. onward (y ∙ sym z)) in
      rw (e, eq-eqb x.at.0 p y, other) (or-false (c || eqb x.track.0 k)))
      (λ y. rw (e, ne_eqb x.at.0 p y, or-false c, ahead))

-- train n is at its end, where there is a siding
abbrev pub away : State → ℕ → Bool
away s n = is_stabled s.sidings (train_of s n).route.end.0 (train_of s n).at.0

-- a train that is not Running holds its own post, or none where it is put away
pub standing_at : (s : State) (n : ℕ) → is_running (train_of s n).status ≡ false → (p : ℕ)
    → holds_post (located s n) p ≡ not (away s n) && eqb (train_of s n).at.0 p
standing_at s n e p = rw e (standing_holds s.sidings (train_of s n).route.end.0 (train_of s n).at.0 p)

module _ (s : State) (n : ℕ) (sets : List ℕ) (h : TracksIn (held_among s n) sets) where
  among_more : (p k : ℕ) → held_among s n p k || holds_track s p k n ≡ held_among s (n + 1) p k
  unfolding any_below
  among_more p k = rw add-one (or_comm (held_among s n p k) (holds_track s p k n))

  abbrev here : ℕ
  here = (train_of s n).at.0

  abbrev own : ℕ
  own = (train_of s n).track.0

  module _ (e : is_running (train_of s n).status ≡ false) where
    -- a train that stands holds its own track at its own post
    pub tracks_standing : here < 8 → away s n ≡ false
        → (w : ℕ) → w ≡ with_track (get_or sets here 0) own → TracksIn (held_among s (n + 1)) (set sets here w)
    tracks_standing small a w more = retested (mark h here own w small more) (held_among s (n + 1)) (λ p k.
        let holds : holds_post (located s n) p ≡ eqb here p = standing_at s n e p ∙ rw a in
        ap (λ (b : Bool). held_among s n p k || b) (one_post (train_of s n) p k _ holds) ∙ among_more p k)

    -- or none where it is stabled
    pub tracks_stabled : away s n ≡ true → TracksIn (held_among s (n + 1)) sets
    tracks_stabled a = retested h (held_among s (n + 1)) (λ p k.
        let none : holds_post (located s n) p ≡ false = standing_at s n e p ∙ rw a in
        sym (or-false (held_among s n p k))
        ∙ ap (λ (b : Bool). held_among s n p k || (b && eqb (track_at (train_of s n) p) k)) (sym none)
        ∙ among_more p k)

  -- one that is Running holds the track ahead of it besides, at another post
  pub tracks_running : is_running (train_of s n).status ≡ true → (q k : ℕ) → q ≡ next_of (train_of s n)
      → k ≡ track_ahead (train_of s n).status → here ≢ q → here < 8 → q < 8
      → (v w : ℕ) → v ≡ with_track (get_or sets here 0) own → w ≡ with_track (get_or (set sets here v) q 0) k
      → TracksIn (held_among s (n + 1)) (set (set sets here v) q w)
  tracks_running e q k next ahead onward small below v w first second =
      retested (mark (mark h here own v small first) q k w below second) (held_among s (n + 1)) (λ p j.
      two_posts_lem (train_of s n) p j (holds_post (located s n) p) q k ahead onward (rw (e, next)) (held_among s n p j)
      ∙ among_more p j)
