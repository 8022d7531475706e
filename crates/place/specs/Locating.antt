-- 02, card 8: where a report puts a unit on the line of a book.
use Rattle.std.specs.Prelude.{◌≡◌, Bool, true, cond, List, [], ◌∷◌, ◌++◌, ℕ, zero, suc, ◌+◌, ◌-◌, ◌≤◌, ltb, Float}
use Rattle.common.specs.Check.{Check, check, refusal, unless_refused}
use Rattle.line.specs.Refusal as number
use Rattle.line.specs.Positions.{metres_at, positions_in_order}
use Rattle.line.specs.Book.{last_edition, posts_of, positions_of, book_checks_from}
use Rattle.place.specs.Metres.{equals, is_below, within_line, nearer}
pub use Rattle.place.specs.declared.report.Report.{Report}
pub use Rattle.place.specs.declared.report.Report.TheVariants.{Post, Metres, Missing}
pub use Rattle.place.specs.declared.report.Place.{Place}
pub use Rattle.place.specs.declared.report.Place.TheVariants.{At, In, Nothing}
pub use Rattle.std.specs.declared.result.Result.{Result}
pub use Rattle.std.specs.declared.result.Result.TheVariants.{Ok, Err as Refused}

abbrev pub at : ℕ → Place
at p = At (record { 0 = p })

abbrev pub in_section : ℕ → ℕ → Place
in_section i q = In (record { 0 = i }) (record { 0 = q })

-- ---- a number of metres

-- of posts 0 to p the last that is not past the number
unfoldable pub last_reached : List ℕ → Float → ℕ → ℕ
last_reached ps x zero = 0
last_reached ps x (suc p) = cond (is_below x (metres_at ps (suc p))) (last_reached ps x p) (suc p)

-- "the post if equal to its position, else the section, and also the nearest post, the lower at equal distance", where
-- p is the last post that is not past the number: a section has the number of its lower post
abbrev pub place_past : List ℕ → Float → ℕ → Place
place_past ps x p =
    cond (equals x (metres_at ps p)) (at p) (in_section p (nearer x p (metres_at ps p) (metres_at ps (p + 1))))

-- of n posts
abbrev pub placed_at : ℕ → List ℕ → Float → Place
placed_at n ps x = place_past ps x (last_reached ps x (n - 1))

-- ---- a report

-- "A post number gives itself. Missing gives nothing and is accepted."
abbrev pub placed : ℕ → List ℕ → Report → Place
placed n ps (Post p) = At p
placed n ps (Metres x) = placed_at n ps x
placed n ps Missing = Nothing

-- "A post number not in the line is 9."
abbrev pub names_post : ℕ → Report → Bool
names_post n (Post p) = ltb p.0 n
names_post n (Metres x) = true
names_post n Missing = true

-- "29, not a finite number, below zero or past the last post"
abbrev pub names_place : ℕ → List ℕ → Report → Bool
names_place n ps (Post p) = true
names_place n ps (Metres x) = within_line (metres_at ps (n - 1)) x
names_place n ps Missing = true

-- 29 "comes after 4 and 9"
abbrev pub report_checks : ℕ → List ℕ → Report → List Check
report_checks n ps r = check number.wrong_post (names_post n r) ∷ check number.no_place (names_place n ps r) ∷ []

-- ---- with its book

-- "The edition 3 book is read first, as in card 5."
abbrev pub place_checks : List ℕ → Report → List Check
place_checks b r = book_checks_from last_edition b ++ report_checks (posts_of b) (positions_of b) r

-- its place, or the number that it is refused by
unfoldable pub place_of : List ℕ → Report → Result Place ℕ
place_of b r = unless_refused (refusal (place_checks b r)) (Ok (placed (posts_of b) (positions_of b) r)) Refused

-- the number that a report is refused by; 0 of one that is accepted
abbrev pub place_refusal : Result Place ℕ → ℕ
place_refusal (Ok a) = 0
place_refusal (Refused k) = k

-- ---- inside the code: the part after the book is read

pub record Surveyed (n : ℕ) (ps : List ℕ) : Type 0 where
  pub some : 2 ≤ n
  pub few : n ≤ 8
  pub ordered : positions_in_order n ps ≡ true

abbrev pub on_survey : ℕ → List ℕ → Report → Result Place ℕ
on_survey n ps r = unless_refused (refusal (report_checks n ps r)) (Ok (placed n ps r)) Refused
