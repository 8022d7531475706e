-- The test of a grant in the order in which the code makes it, the configuration whose bit it reads, train by train,
-- and what its answer says.
use mathlib.Core.Path.{◌≡◌, refl, sym, ap, ◌∙◌}
use mathlib.Core.Bool.{true, false}
use mathlib.Core.List.{List}
use Prim.Native.Nat.{ℕ, suc, ◌+◌, ◌≤◌, ◌<◌}
use native.Mathlib.Nat.{not-suc-le-zero}
use native.Mathlib.Omega.{arith}
use lib.Dec.{eqb}
use lib.ListN.{length, get_or, set, replicate, length-set}
use lib.Seq.{get_or-set_same, get_or-set_other}
use borrow.Author.Tests.{ne_eqb}
use Rattle.common.specs.Bits.{set_below, bit_at}
use Rattle.common.proofs.Tests.{by_cases, by_equality, not_passed}
use Rattle.common.proofs.Below.{of_bool_le}
use Rattle.common.proofs.Bits.{bit_set}
use Rattle.common.proofs.Update.{update_own, update_other}
use Rattle.line.specs.Route.{section_of, distance}
use Rattle.tracks.specs.Tracks.{track_for}
use Rattle.tracks.proofs.Choice.{track_cong}
use Rattle.completion.specs.Configuration.{moved, code_below}
use Rattle.completion.specs.Table.{bit_of}
use Rattle.authority.specs.Types.{Move, Train, State}
use Rattle.rules.specs.State.{is_asked, is_running, next_of, train_of, section_free, track_held, free_track, reached}
use Rattle.rules.specs.State.{next_move}
use Rattle.rules.specs.Valid.{consistent}
use Rattle.rules.specs.Granting.{grantable}
use Rattle.authority.specs.GrantTrack.{grant_track}
use Rattle.rules.proofs.Validity.{consistent_facts, start_below, post_below, next_post_below, asked_short}
use Rattle.rules.proofs.Changes.{grantable_facts}

-- ---- a consistent state

module _ (s : State) (d : consistent s ≡ true) where
  pub few_trains : s.trains ≤ 6
  few_trains = (consistent_facts s d).line.few_trains

  pub few_posts : s.posts ≤ 8
  few_posts = (consistent_facts s d).line.few_posts

  pub short_way : (t : ℕ) → t < s.trains → distance (train_of s t).route.start.0 (train_of s t).at.0 < 8
  short_way t k =
      let v = consistent_facts s d in
      omega (arith, start_below s v t k, post_below s v t k, v.line.few_posts)

  pub few_reached : (t : ℕ) → t < s.trains → reached s t < 10
  few_reached t k = omega (arith, short_way t k, of_bool_le (is_running (train_of s t).status))

-- ---- the posts that each train has travelled

-- they are stored for the first n trains
pub record Stored (s : State) (n : ℕ) (travelled : List ℕ) : Type 0 where
  pub six : length travelled ≡ 6
  pub each : (u : ℕ) → u < n → get_or travelled u 0 ≡ reached s u

pub stored_none : (s : State) → Stored s 0 (replicate 6 0)
stored_none s = record { six = refl; each = λ u k. absurd (not-suc-le-zero k) }

pub stored_more : (s : State) (n : ℕ) (travelled : List ℕ) (r : ℕ) → n < 6 → Stored s n travelled → r ≡ reached s n
    → Stored s (n + 1) (set travelled n r)
stored_more s n travelled r small h e = record {
  six = length-set travelled n r ∙ h.six;
  each = λ u k. by_equality u n
      (λ q. rw q (get_or-set_same travelled n r 0 (omega (arith, h.six)) ∙ e))
      (λ q. get_or-set_other travelled n u r 0 q ∙ h.each u (omega arith));
}

-- train t has moved on
pub stored_moved : (s : State) (travelled : List ℕ) → Stored s s.trains travelled → (t : ℕ) → t < 6 → t < s.trains
    → (u : ℕ) → u < s.trains → get_or (set travelled t (get_or travelled t 0 + 1)) u 0 ≡ moved (reached s) t u
stored_moved s travelled h t small known u k = by_equality u t
    (λ q. rw (q, update_own (reached s) t (reached s t + 1))
    (get_or-set_same travelled t _ 0 (omega (arith, h.six)) ∙ ap (λ (n : ℕ). n + 1) (h.each t known)))
    (λ q. rw (update_other (reached s) t (reached s t + 1) u q)
    (get_or-set_other travelled t u _ 0 q ∙ h.each u k))

-- ---- the test, in the code's order

-- the move of an Asked train lies on the line
module _ (s : State) (d : consistent s ≡ true) (t : ℕ) (k : t < s.trains) (asks : is_asked (train_of s t).status ≡ true)
    (m : Move) (next : m ≡ next_move s t) where
  pub from_on_line : m.from.0 < 8
  from_on_line =
      let v = consistent_facts s d in
      rw next (omega (arith, post_below s v t k, v.line.few_posts))

  to_below : m.to.0 < s.posts
  to_below = let v = consistent_facts s d in rw next (next_post_below s v t k (asked_short s v t k asks))

  pub to_on_line : m.to.0 < 8
  to_on_line = omega (arith, to_below, (consistent_facts s d).line.few_posts)

  -- the tracks there
  module _ (n : ℕ) (tracks : n ≡ get_or s.tracks m.to.0 0) where
    pub few_there : n ≤ 4
    few_there = rw tracks ((consistent_facts s d).line.few_tracks m.to.0 to_below)

    -- the free one, as the code finds it in the set of those that are held, is the definition's
    pub free_there : (x : Train) → x ≡ train_of s t → (held : ℕ) → held ≡ set_below 8 (track_held s m.to.0)
        → (r : ℕ) → r ≡ track_for x.route (bit_at held) n → r ≡ free_track s t (next_of (train_of s t))
    free_there x own held set r e =
        e
        ∙ track_cong x.route (bit_at held) (track_held s m.to.0) n
        (λ i l. rw set (bit_set 8 (track_held s m.to.0) (suc i) (omega (arith, few_there))))
        ∙ rw (own, tracks, next)

module _ (table : List ℕ) (s : State) (t : ℕ) where
  -- a train that cannot be granted gets no track
  none_given : grantable table s t ≡ false → 0 ≡ grant_track table s t
  none_given e = rw e

  pub not_asked : is_asked (train_of s t).status ≡ false → 0 ≡ grant_track table s t
  unfolding grantable
  not_asked e = none_given (rw e)

  module _ (asks : is_asked (train_of s t).status ≡ true) (m : Move) (next : m ≡ next_move s t) (i : ℕ)
      (section : i ≡ section_of m.from.0 m.to.0) where
    own : i ≡ section_of (next_move s t).from.0 (next_move s t).to.0
    own = section ∙ ap (λ (n : Move). section_of n.from.0 n.to.0) next

    pub section_held : section_free s i ≡ false → 0 ≡ grant_track table s t
    unfolding grantable
    section_held e = none_given (rw (asks, ← own, e))

    module _ (free : section_free s i ≡ true) (k : ℕ) (found : k ≡ free_track s t (next_of (train_of s t))) where
      pub post_full : k ≡ 0 → 0 ≡ grant_track table s t
      unfolding grantable
      post_full z = none_given (rw (asks, ← own, free, ← found, z))

      module _ (some : 1 ≤ k) (c : ℕ) (code : c ≡ code_below s.trains (moved (reached s) t)) where
        unheld : eqb (free_track s t (next_of (train_of s t))) 0 ≡ false
        unheld = ne_eqb (free_track s t (next_of (train_of s t))) 0 (λ z. omega (arith, found))

        pub bit_unset : bit_of table c ≡ false → 0 ≡ grant_track table s t
        unfolding grantable
        bit_unset e = none_given (rw (asks, ← own, free, unheld, ← code, e))

        pub track_given : bit_of table c ≡ true → k ≡ grant_track table s t
        unfolding grantable
        track_given e = rw (asks, ← own, free, unheld, ← code, e) found

-- ---- what the answer says

module _ (table : List ℕ) (s : State) (t : ℕ) where
  -- a track that is named is the one that is free, and the train can be granted
  pub named_grantable : (k : ℕ) → k ≡ grant_track table s t → 1 ≤ k → grantable table s t ≡ true
  named_grantable k e some = by_cases (grantable table s t) (λ g. g)
      (λ g. absurd (let z : grant_track table s t ≡ 0 = rw g in omega arith))

  pub named_free : (k : ℕ) → k ≡ grant_track table s t → 1 ≤ k → k ≡ free_track s t (next_of (train_of s t))
  named_free k e some = e ∙ rw (named_grantable k e some)

  -- where none is named, it cannot
  pub none_grantable : 0 ≡ grant_track table s t → grantable table s t ≡ false
  none_grantable e = not_passed (grantable table s t) (λ g.
      let z : grant_track table s t ≡ free_track s t (next_of (train_of s t)) = rw g in
      (grantable_facts table s t g).track (sym z ∙ sym e))
