-- Who holds posts and sections. 01: "A Running train, from its present post p to q, holds the section between them and
-- a track at each of p and q. .. Another train holds a track at its present post." 02, card 1: "A train standing at its
-- end there", where there is a siding, "holds no track." Configurations, the dispatcher's state and the observer all go
-- by these words.
use Rattle.std.specs.Prelude.{Bool, false, cond, ◌&&◌, ◌||◌, ℕ, eqb}
use Rattle.common.specs.Below.{count_below}
use Rattle.common.specs.Bits.{bit_at}
use Rattle.line.specs.Route.{section_of}

-- where a train is: at a post, with an authority for the move between two, or stabled in a siding (02: put away)
pub data Whereabouts : Type 0 where
  at : ℕ → Whereabouts
  moving : ℕ → ℕ → Whereabouts
  stabled : Whereabouts

-- post p is the end e, and one of those with a siding
abbrev pub is_stabled : ℕ → ℕ → ℕ → Bool
is_stabled sidings e p = eqb p e && bit_at sidings p

-- where a train is that stands at post p, without an authority, and has its end at e
unfoldable pub standing : ℕ → ℕ → ℕ → Whereabouts
standing sidings e p = cond (is_stabled sidings e p) stabled (at p)

abbrev pub holds_post : Whereabouts → ℕ → Bool
holds_post (at p) x = eqb p x
holds_post (moving p q) x = eqb p x || eqb q x
holds_post stabled x = false

abbrev pub holds_section : Whereabouts → ℕ → Bool
holds_section (at p) i = false
holds_section (moving p q) i = eqb (section_of p q) i
holds_section stabled i = false

-- how many of the first n trains hold post p, or section i
abbrev pub post_holders : ℕ → (ℕ → Whereabouts) → ℕ → ℕ
post_holders n w p = count_below n (λ t. holds_post (w t) p)

abbrev pub section_holders : ℕ → (ℕ → Whereabouts) → ℕ → ℕ
section_holders n w i = count_below n (λ t. holds_section (w t) i)
