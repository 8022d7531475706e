-- The sets of the trains that hold each post and each section, and of the tracks held there, as the code makes them.
use Rattle.std.specs.Prelude.{◌≡◌, ◌≢◌, true, ℕ, ◌<◌, get_or}
use Rattle.common.specs.Below.{any_below}
use Rattle.common.specs.Bits.{set_below}
use Rattle.line.specs.Holding.{holds_post, holds_section}
use Rattle.rules.specs.State.{is_running, next_of, train_of, located, holds_track}
use Rattle.holding.specs.Types.{Train, State, Holders}

-- a train is at one of the eight posts, its next post is one of them, and it runs to another than its own
pub record PlacedAt (x : Train) : Type 0 where
  pub here : x.at.0 < 8
  pub next : next_of x < 8
  pub onward : is_running x.status ≡ true → x.at.0 ≢ next_of x

abbrev pub Placed : State → Type 0
Placed s = (t : ℕ) → t < s.trains → PlacedAt (train_of s t)

-- the sets have the holders among the first n trains, and the tracks that those hold; a track from 8 on is in no set
pub record HeldBy (s : State) (n : ℕ) (h : Holders) : Type 0 where
  pub posts : (p : ℕ) → p < 8 → get_or h.posts p 0 ≡ set_below n (λ t. holds_post (located s t) p)
  pub sections : (i : ℕ) → i < 8 → get_or h.sections i 0 ≡ set_below n (λ t. holds_section (located s t) i)
  pub tracks : (p : ℕ) → p < 8 → get_or h.tracks p 0 ≡ set_below 8 (λ k. any_below n (holds_track s p k))

abbrev pub Held : State → Holders → Type 0
Held s h = HeldBy s s.trains h
