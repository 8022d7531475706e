-- A train on its way: the next post, the posts travelled, and the post that they lead to. All of it is arithmetic of a
-- start a, a post p and an end e.
use mathlib.Core.Path.{◌≡◌, sym, ◌∙◌}
use mathlib.Core.Logic.{◌⊎◌, inl, inr, ⊎_elim, ◌≢◌}
use mathlib.Core.Bool.{true, false, ◌&&◌}
use Prim.Native.Nat.{ℕ, ◌+◌, ◌-◌, ◌≤◌, ◌<◌}
use native.Mathlib.Omega.{arith}
use lib.Dec.{leb}
use borrow.Author.Tests.{leb-true, leb-false, lt-ltb, le-ltb, le-leb}
use Rattle.common.proofs.Tests.{by_cases, by_order, and_left, and_right, and_both, or_left, or_right, or_either}
use Rattle.line.specs.Sorts.{Route}
use Rattle.line.specs.Route.{next_post, distance, between, route_distance, post_after}

-- ---- the next post

pub next_up : (p e : ℕ) → p < e → p + 1 ≡ next_post p e
unfolding next_post
next_up p e h = rw (lt-ltb p e h)

pub next_down : (p e : ℕ) → e < p → p - 1 ≡ next_post p e
unfolding next_post
next_down p e h = let k : e ≤ p = omega arith in rw (le-ltb p e k, lt-ltb e p h)

pub next_end : (p e : ℕ) → p ≡ e → p ≡ next_post p e
unfolding next_post
next_end p e h =
    let k : e ≤ p = omega arith in
    let m : p ≤ e = omega arith in
    rw (le-ltb p e k, le-ltb e p m)

-- ---- between start and end, both counted

abbrev pub Between : ℕ → ℕ → ℕ → Type 0
Between a p e = ((a ≤ p) × (p ≤ e)) ⊎ ((e ≤ p) × (p ≤ a))

ordered : (a b c : ℕ) → leb a b && leb b c ≡ true → (a ≤ b) × (b ≤ c)
ordered a b c h = (leb-true a b (and_left (leb a b) (leb b c) h), leb-true b c (and_right (leb a b) (leb b c) h))

in_order : (a b c : ℕ) → (a ≤ b) × (b ≤ c) → leb a b && leb b c ≡ true
in_order a b c h = and_both (leb a b) (leb b c) (le-leb a b h.0) (le-leb b c h.1)

pub between_of : (a p e : ℕ) → between a p e ≡ true → Between a p e
unfolding between
between_of a p e h =
    ⊎_elim (λ k. inl (ordered a p e k)) (λ k. inr (ordered e p a k))
    (or_either (leb a p && leb p e) (leb e p && leb p a) h)

pub of_between : (a p e : ℕ) → Between a p e → between a p e ≡ true
unfolding between
of_between a p e = ⊎_elim
    (λ k. or_left (leb a p && leb p e) (leb e p && leb p a) (in_order a p e k))
    (λ k. or_right (leb a p && leb p e) (leb e p && leb p a) (in_order e p a k))

-- the test, upwards and else downwards
pub between_up : (a p e : ℕ) → leb a p && leb p e ≡ true → true ≡ between a p e
unfolding between
between_up a p e h = rw h

pub between_down : (a p e : ℕ) → leb a p && leb p e ≡ false → leb e p && leb p a ≡ between a p e
unfolding between
between_down a p e h = rw h

pub start_between : (a e : ℕ) → Between a a e
start_between a e = by_cases (leb a e)
    (λ h. let z = leb-true a e h in inl (omega arith))
    (λ h. let z = leb-false a e h in inr (omega arith))

pub travelled_within : (a p e : ℕ) → Between a p e → distance a p ≤ distance a e
travelled_within a p e = ⊎_elim (λ r. omega arith) (λ r. omega arith)

-- ---- one post on

-- a step up or a step down, by where p lies
abbrev Stepped : ℕ → ℕ → ℕ → Type 0
Stepped a p e = ((next_post p e ≡ p + 1) × (a ≤ p) × (p < e)) ⊎ ((next_post p e ≡ p - 1) × (p ≤ a) × (e < p))

module _ (a p e : ℕ) (b : Between a p e) (short : p ≢ e) where
  stepped : Stepped a p e
  stepped = ⊎_elim
      (λ r. let h : p < e = omega arith in inl (sym (next_up p e h), r.0, h))
      (λ r. let h : e < p = omega arith in inr (sym (next_down p e h), r.1, h)) b

  pub next_between : Between a (next_post p e) e
  next_between = ⊎_elim (λ r. inl (omega arith)) (λ r. inr (omega arith)) stepped

  pub next_travelled : distance a (next_post p e) ≡ distance a p + 1
  next_travelled = ⊎_elim (λ r. omega arith) (λ r. omega arith) stepped

  pub next_within : distance a p + 1 ≤ distance a e
  next_within = ⊎_elim (λ r. omega arith) (λ r. omega arith) stepped

  pub next_other : next_post p e ≢ p
  next_other z = ⊎_elim (λ r. omega arith) (λ r. omega arith) stepped

  pub next_below : (n : ℕ) → a < n → e < n → next_post p e < n
  next_below n h k = ⊎_elim (λ r. omega arith) (λ r. omega arith) stepped

  -- it is past the start, and from there the post before it, on the way back to the start, is p
  pub next_past : next_post p e ≢ a
  next_past z = ⊎_elim (λ r. omega arith) (λ r. omega arith) stepped

  pub next_back : next_post (next_post p e) a ≡ p
  next_back = ⊎_elim
      (λ r. rw r.0 (sym (next_down (p + 1) a (omega arith)) ∙ omega arith))
      (λ r. rw r.0 (sym (next_up (p - 1) a (omega arith)) ∙ omega arith)) stepped

-- ---- one post back

-- the next post on the way to a is nearer to a
pub next_nearer : (a p : ℕ) → p ≢ a → distance a (next_post p a) < distance a p
next_nearer a p other = by_order p a
    (λ h. rw (← next_up p a h) (omega arith))
    (λ h. let k : a < p = omega arith in rw (← next_down p a k) (omega arith))

-- ---- posts travelled

module _ (r : Route) where
  -- the posts travelled lead to the post
  pub post_travelled : (p : ℕ) → Between r.start.0 p r.end.0 → post_after r (distance r.start.0 p) ≡ p
  unfolding post_after
  post_travelled p b = by_cases (leb r.start.0 r.end.0)
      (λ up. let z = leb-true r.start.0 r.end.0 up in rw up (⊎_elim (λ k. omega arith) (λ k. omega arith) b))
      (λ down. let z = leb-false r.start.0 r.end.0 down in rw down
      (⊎_elim (λ k. omega arith) (λ k. omega arith) b))

  -- one more of them leads to the next post
  pub post_next : (p : ℕ) → Between r.start.0 p r.end.0 → p ≢ r.end.0
      → post_after r (distance r.start.0 p + 1) ≡ next_post p r.end.0
  post_next p b short =
      rw (← next_travelled r.start.0 p r.end.0 b short)
      (post_travelled (next_post p r.end.0) (next_between r.start.0 p r.end.0 b short))

  -- none travelled: at the start; all travelled: at the end
  pub post_start : post_after r 0 ≡ r.start.0
  unfolding post_after
  post_start = by_cases (leb r.start.0 r.end.0) (λ h. rw h (omega arith)) (λ h. rw h (omega arith))

  pub post_end : post_after r (route_distance r) ≡ r.end.0
  unfolding post_after
  post_end = by_cases (leb r.start.0 r.end.0)
      (λ up. let z = leb-true r.start.0 r.end.0 up in rw up (omega arith))
      (λ down. let z = leb-false r.start.0 r.end.0 down in rw down (omega arith))

  -- before that: not at the end
  pub post_short : (k : ℕ) → k < route_distance r → post_after r k ≢ r.end.0
  unfolding post_after
  post_short k h = by_cases (leb r.start.0 r.end.0)
      (λ up. let z = leb-true r.start.0 r.end.0 up in rw up (λ e. omega arith))
      (λ down. let z = leb-false r.start.0 r.end.0 down in rw down (λ e. omega arith))

  -- a post reached within the route lies on it
  pub post_between : (k : ℕ) → k ≤ route_distance r → Between r.start.0 (post_after r k) r.end.0
  unfolding post_after
  post_between k h = by_cases (leb r.start.0 r.end.0)
      (λ up. let z = leb-true r.start.0 r.end.0 up in rw up (inl (omega arith)))
      (λ down. let z = leb-false r.start.0 r.end.0 down in rw down (inr (omega arith)))
