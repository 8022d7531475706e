-- The sets of holders: one train more in them, and the ones counted.
use mathlib.Core.Path.{◌≡◌, refl, sym, ap, ◌∙◌}
use mathlib.Core.Bool.{Bool, true, false, ◌||◌}
use mathlib.Core.List.{List}
use Prim.Native.Nat.{ℕ, ◌+◌, ◌*◌, ◌^◌, ◌<◌}
use native.Mathlib.Omega.{arith}
use lib.Bits.{bit_or, or_shifted_r, or_block, or_self, or_zero_r}
use lib.Count.{ones}
use lib.Dec.{eqb}
use lib.ListN.{length, get_or, set, replicate, get_or-replicate, length-set}
use lib.Pow.{pow_pos}
use lib.Seq.{get_or-set_same, get_or-set_other}
use borrow.Author.Tests.{eq-eqb, ne_eqb}
use Rattle.common.specs.Below.{of_bool}
use Rattle.common.specs.Bits.{set_below}
use Rattle.common.proofs.Bits.{ones_set, set_none, set_low, set_more}
use Rattle.common.proofs.Tests.{by_equality}
use Rattle.line.specs.Route.{section_of}
use Rattle.line.specs.Holding.{holds_post, holds_section, post_holders}
use Rattle.line.proofs.Holding.{standing_section}
use Rattle.tracks.specs.Answers.{with_track}
use Rattle.holding.specs.Types.{State, Holders}
use Rattle.rules.specs.State.{is_running, track_ahead, next_of, train_of, located, possessed, holders_of}
use Rattle.holding.specs.Holders.{PlacedAt, HeldBy, Held}
use Rattle.holding.proofs.TrackSets.{TracksIn, held_among, away, standing_at, tracks_none, tracks_standing}
use Rattle.holding.proofs.TrackSets.{tracks_stabled, tracks_running}

-- ---- one train more in a set

-- the set x, with train t in it where the test passes
abbrev joined : Bool → ℕ → ℕ → ℕ
joined true t x = bit_or x (2 ^ t)
joined false t x = x

joined_twice : (n x : ℕ) → x < 2 ^ n → (a b : Bool) → joined b n (joined a n x) ≡ joined (a || b) n x
joined_twice n x h true true =
    let one : bit_or x (2 ^ n) ≡ 1 * 2 ^ n + x = ap (bit_or x) (omega arith) ∙ or_shifted_r 1 n x h in
    let power : 2 ^ n ≡ 1 * 2 ^ n + 0 = omega arith in
    ap (λ (y : ℕ). bit_or y (2 ^ n)) one
    ∙ ap (bit_or (1 * 2 ^ n + x)) power
    ∙ or_block n 1 1 x 0 h (pow_pos n)
    ∙ rw (or_self 1, or_zero_r x) (sym one)
joined_twice n x h true false = refl
joined_twice n x h false true = refl
joined_twice n x h false false = refl

module _ (n : ℕ) (f : ℕ → Bool) (x : ℕ) (e : x ≡ set_below n f) where
  joined_more : (b : Bool) → b ≡ f n → joined b n x ≡ set_below (n + 1) f
  joined_more true p = set_more n f x e true _ p (ap (bit_or x) (omega arith) ∙ or_shifted_r 1 n x (set_low n f x e))
  joined_more false p = set_more n f x e false _ p (omega arith)

-- ---- eight sets, with the train of this bit in that of number i

abbrev pub stored : List ℕ → ℕ → ℕ → List ℕ
stored sets i bit = set sets i (bit_or (get_or sets i 0) bit)

stored_size : (sets : List ℕ) (i bit : ℕ) → length (stored sets i bit) ≡ length sets
stored_size sets i bit = length-set sets i _

stored_at : (sets : List ℕ) (i t bit : ℕ) → bit ≡ 2 ^ t → i < length sets → (k : ℕ)
    → get_or (stored sets i bit) k 0 ≡ joined (eqb i k) t (get_or sets k 0)
stored_at sets i t bit is h k =
    rw is (by_equality i k
    (λ e. rw (eq-eqb i k e, ← e) (get_or-set_same sets i _ 0 h))
    (λ e. rw (ne_eqb i k e) (get_or-set_other sets i k _ 0 (λ z. e (sym z)))))

-- ---- the sets of the first n trains

pub record Sets (s : State) (n : ℕ) (posts sections tracks : List ℕ) : Type 0 where
  pub eight_posts : length posts ≡ 8
  pub eight_sections : length sections ≡ 8
  pub of_posts : (p : ℕ) → p < 8 → get_or posts p 0 ≡ set_below n (λ t. holds_post (located s t) p)
  pub of_sections : (i : ℕ) → i < 8 → get_or sections i 0 ≡ set_below n (λ t. holds_section (located s t) i)
  pub of_tracks : TracksIn (held_among s n) tracks

pub sets_held : (s : State) (n : ℕ) (posts sections tracks : List ℕ) → Sets s n posts sections tracks
    → HeldBy s n (record { posts = posts; sections = sections; tracks = tracks })
sets_held s n posts sections tracks h =
    record { posts = h.of_posts; sections = h.of_sections; tracks = h.of_tracks.each }

pub sets_none : (s : State) → Sets s 0 (replicate 8 0) (replicate 8 0) (replicate 8 0)
sets_none s = record {
  eight_posts = refl;
  eight_sections = refl;
  of_posts = λ p k. get_or-replicate 8 p 0 0 k ∙ set_none _;
  of_sections = λ i k. get_or-replicate 8 i 0 0 k ∙ set_none _;
  of_tracks = tracks_none s;
}

module _ (s : State) (n bit : ℕ) (is : bit ≡ 2 ^ n) (posts sections tracks : List ℕ)
    (h : Sets s n posts sections tracks) (placed : PlacedAt (train_of s n)) where
  abbrev here : ℕ
  here = (train_of s n).at.0

  abbrev own : ℕ
  own = (train_of s n).track.0

  module _ (e : is_running (train_of s n).status ≡ false) where
    no_section : (i : ℕ) → i < 8 → get_or sections i 0 ≡ set_below (n + 1) (λ t. holds_section (located s t) i)
    no_section i k =
        joined_more n (λ t. holds_section (located s t) i) _ (h.of_sections i k) false
        (rw e (sym (standing_section s.sidings (train_of s n).route.end.0 here i)))

    -- "Another train holds a track at its present post."
    pub sets_standing : away s n ≡ false → (w : ℕ) → w ≡ with_track (get_or tracks here 0) own
        → Sets s (n + 1) (stored posts here bit) sections (set tracks here w)
    sets_standing a w more = record {
      eight_posts = stored_size posts here bit ∙ h.eight_posts;
      eight_sections = h.eight_sections;
      of_posts = λ p k.
          stored_at posts here n bit is (omega (arith, h.eight_posts, placed.here)) p
          ∙ joined_more n (λ t. holds_post (located s t) p) _ (h.of_posts p k) (eqb here p)
          (sym (standing_at s n e p ∙ rw a));
      of_sections = no_section;
      of_tracks = tracks_standing s n tracks h.of_tracks e placed.here a w more;
    }

    -- one that is stabled holds none
    pub sets_stabled : away s n ≡ true → Sets s (n + 1) posts sections tracks
    sets_stabled a = record {
      eight_posts = h.eight_posts;
      eight_sections = h.eight_sections;
      of_posts = λ p k.
          joined_more n (λ t. holds_post (located s t) p) _ (h.of_posts p k) false
          (sym (standing_at s n e p ∙ rw a));
      of_sections = no_section;
      of_tracks = tracks_stabled s n tracks h.of_tracks e a;
    }

  -- "A Running train, from its present post p to q, holds the section between them and a track at each of p and q."
  pub sets_running : is_running (train_of s n).status ≡ true → (q i k : ℕ) → q ≡ next_of (train_of s n)
      → i ≡ section_of here q → k ≡ track_ahead (train_of s n).status
      → (v w : ℕ) → v ≡ with_track (get_or tracks here 0) own → w ≡ with_track (get_or (set tracks here v) q 0) k
      → Sets s (n + 1) (stored (stored posts here bit) q bit) (stored sections i bit) (set (set tracks here v) q w)
  sets_running e q i k next between ahead v w first second = record {
    eight_posts = stored_size (stored posts here bit) q bit ∙ stored_size posts here bit ∙ h.eight_posts;
    eight_sections = stored_size sections i bit ∙ h.eight_sections;
    of_posts = λ p l.
        stored_at (stored posts here bit) q n bit is
        (omega (arith, stored_size posts here bit, h.eight_posts, next, placed.next)) p
        ∙ ap (joined (eqb q p) n) (stored_at posts here n bit is (omega (arith, h.eight_posts, placed.here)) p)
        ∙ joined_twice n _ (set_low n _ _ (h.of_posts p l)) (eqb here p) (eqb q p)
        ∙ joined_more n (λ t. holds_post (located s t) p) _ (h.of_posts p l) (eqb here p || eqb q p)
        (rw (e, next));
    of_sections = λ j l.
        stored_at sections i n bit is (omega (arith, h.eight_sections, between, placed.here)) j
        ∙ joined_more n (λ t. holds_section (located s t) j) _ (h.of_sections j l) (eqb i j)
        (rw (e, between, next));
    of_tracks =
        tracks_running s n tracks h.of_tracks e q k next ahead (λ z. placed.onward e (z ∙ next))
        placed.here (omega (arith, next, placed.next)) v w first second;
  }

-- ---- the ones counted

module _ (s : State) (h : Holders) (held : Held s h) (k : ℕ) (small : k < 8) where
  pub posts_counted : ones (get_or h.posts k 0) ≡ post_holders s.trains (located s) k
  posts_counted = ap ones (held.posts k small) ∙ ones_set s.trains _

  -- of a section, and its gang
  pub section_counted : (gang : Bool) → gang ≡ possessed s k
      → ones (get_or h.sections k 0) + of_bool gang ≡ holders_of s k
  section_counted gang own = rw (own, held.sections k small, ones_set s.trains (λ t. holds_section (located s t) k))
