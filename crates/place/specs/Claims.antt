-- What is shown of place reports, beside the contract of `locate`. `proofs/Claims.antt` has the proofs.
use Rattle.std.specs.Prelude.{◌≡◌, ◌≢◌, Bool, true, false, List, ℕ, ◌+◌, ◌-◌, ◌*◌, ◌≤◌, ◌<◌, ℤ, length, Float}
use Rattle.std.specs.Float.{nan, inf, fin}
use Rattle.std.specs.Float.Ieee.Positive.{num, den}
use Rattle.line.specs.Refusal as number
use Rattle.line.specs.declared.sorts.PostNo.{PostNo}
use Rattle.line.specs.declared.line.Line.{Line}
use Rattle.line.specs.Positions.{metres_at}
use Rattle.line.specs.Book.{named_length, edition_of, accepted_book, read_positioned, outcome_number}
use Rattle.place.specs.Metres.{from_zero, gap}
use Rattle.place.specs.Locating.{Report, Post, Metres, Missing, Place, At, In, Nothing, Result, Ok, Refused}
use Rattle.place.specs.Locating.{at, in_section, place_refusal, place_of}

-- by its exact value x is the position of post p, or lies between those of post i and the next one
pub record IsAt (ps : List ℕ) (x : Float) (p : ℕ) : Type 0 where
  pub number : from_zero x ≡ true
  pub equal : num x ≡ metres_at ps p * den x

pub record IsBetween (ps : List ℕ) (x : Float) (i : ℕ) : Type 0 where
  pub from_zero : from_zero x ≡ true
  pub after : metres_at ps i * den x < num x
  pub before : num x < metres_at ps (i + 1) * den x

-- "the nearest post, the lower at equal distance": of n posts none is nearer than q, and every lower one is farther
pub record Nearest (n : ℕ) (ps : List ℕ) (x : Float) (q : ℕ) : Type 0 where
  pub on_line : q < n
  pub none_nearer : (r : ℕ) → r < n → gap x (metres_at ps q) ≤ gap x (metres_at ps r)
  pub lower_farther : (r : ℕ) → r < q → gap x (metres_at ps q) < gap x (metres_at ps r)

-- at a post or in a section
abbrev pub somewhere : Result Place ℕ → Bool
somewhere (Ok (At p)) = true
somewhere (Ok (In i q)) = true
somewhere (Ok Nothing) = false
somewhere (Refused k) = false

-- once the book is read
pub record Located (b : List ℕ) (l : Line) (ps : List ℕ) : Type 0 where
  -- "The answer for metres is the post if equal to its position", then and only then
  pub at_post : (x : Float) (p : ℕ) → p < l.posts → IsAt ps x p → place_of b (Metres x) ≡ Ok (at p)
  pub only_at : (x : Float) (p : ℕ) → place_of b (Metres x) ≡ Ok (at p) → (p < l.posts) × IsAt ps x p
  -- "else the section, and also the nearest post", of all posts of the line; no other section and no other post
  pub in_section_lem : (x : Float) (i q : ℕ) → i + 1 < l.posts → IsBetween ps x i → Nearest l.posts ps x q
      → place_of b (Metres x) ≡ Ok (in_section i q)
  pub only_in : (x : Float) (i q : ℕ) → place_of b (Metres x) ≡ Ok (in_section i q)
      → (i + 1 < l.posts) × IsBetween ps x i × Nearest l.posts ps x q
  -- at a post that one is the nearest
  pub own_nearest : (x : Float) (p : ℕ) → p < l.posts → IsAt ps x p → Nearest l.posts ps x p
  -- every number from zero to the last post has a place
  pub told : (x : Float) → from_zero x ≡ true → num x ≤ metres_at ps (l.posts - 1) * den x
      → somewhere (place_of b (Metres x)) ≡ true
  -- "minus zero is zero", which is post 0
  pub zero_either_way : (s : Bool) (e : ℤ) → place_of b (Metres (fin s 0 e)) ≡ Ok (at 0)
  -- "A post number gives itself. Missing gives nothing and is accepted."
  pub itself : (p : PostNo) → p.0 < l.posts → place_of b (Post p) ≡ Ok (At p)
  pub nothing : place_of b Missing ≡ Ok Nothing
  -- "A post number not in the line is 9."
  pub other_post : (p : PostNo) → l.posts ≤ p.0 → place_of b (Post p) ≡ Refused number.wrong_post
  -- "29, not a finite number, below zero or past the last post"
  pub not_a_number : place_of b (Metres nan) ≡ Refused number.no_place
  pub infinite : (s : Bool) → place_of b (Metres (inf s)) ≡ Refused number.no_place
  pub below_zero : (m : ℕ) (e : ℤ) → 0 < m → place_of b (Metres (fin true m e)) ≡ Refused number.no_place
  pub past_last : (x : Float) → metres_at ps (l.posts - 1) * den x < num x
      → place_of b (Metres x) ≡ Refused number.no_place

pub record PlaceReports : Type 0 where
  pub located : (b : List ℕ) (l : Line) (ps : List ℕ) → read_positioned b ≡ accepted_book l ps → Located b l ps
  -- "All go by the number's exact value", and by nothing else of it: numbers from zero on that are the same fraction,
  -- however written, have the same place
  pub same_value : (b : List ℕ) (x y : Float) → from_zero x ≡ true → from_zero y ≡ true → num x * den y ≡ num y * den x
      → place_of b (Metres x) ≡ place_of b (Metres y)
  -- "The edition 3 book is read first, as in card 5.": what it is refused by, every report is
  pub book_first : (b : List ℕ) (r : Report) (n : ℕ) → outcome_number (read_positioned b).outcome ≡ n → n ≢ 0
      → place_of b r ≡ Refused n
  pub other_edition_lem : (b : List ℕ) (r : Report) → 4 ≤ length b → named_length b ≡ length b → edition_of b ≢ 3
      → place_of b r ≡ Refused number.other_edition
  -- what counts: every finite number without a sign. How far it is from m metres, that lie before it or past it
  pub finite : (m : ℕ) (e : ℤ) → from_zero (fin false m e) ≡ true
  pub past : (x : Float) (m : ℕ) → m * den x ≤ num x → m * den x + gap x m ≡ num x
  pub before : (x : Float) (m : ℕ) → num x ≤ m * den x → num x + gap x m ≡ m * den x
  -- the number of each answer: 0 of a place and of nothing, else that of the refusal, which is not 0
  pub no_number : (b : List ℕ) (r : Report) → ((n : ℕ) → place_of b r ≢ Refused n) → place_refusal (place_of b r) ≡ 0
  pub own_number : (b : List ℕ) (r : Report) (n : ℕ) → place_of b r ≡ Refused n → place_refusal (place_of b r) ≡ n
  pub numbered : (b : List ℕ) (r : Report) (n : ℕ) → place_of b r ≡ Refused n → 0 < n
  -- no state is handed in, no store lent and no train placed: whether the trains of the book could start or get through
  -- is not asked
  pub not_1 : (b : List ℕ) (r : Report) → place_refusal (place_of b r) ≢ number.strange_state
  pub not_2 : (b : List ℕ) (r : Report) → place_refusal (place_of b r) ≢ number.short_store
  pub not_19 : (b : List ℕ) (r : Report) → place_refusal (place_of b r) ≢ number.overfull
  pub not_20 : (b : List ℕ) (r : Report) → place_refusal (place_of b r) ≢ number.no_way_through
