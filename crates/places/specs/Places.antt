-- 02, card 8: where reports put a unit, by the bits of the number of metres, and by which number a report is refused.
use Rattle.std.specs.Prelude.{◌≡◌, List, [], ◌∷◌, ◌++◌, ℕ}
use Rattle.std.specs.Float.{binary32}
use Rattle.std.specs.Float.Ieee.{of_bits}
use Rattle.common.specs.Below.{all_below}
use Rattle.common.specs.Check.{refusal, unless_refused}
use Rattle.common.specs.Tabulate.{values_from, padded}
use Rattle.line.specs.Positions.{positions_in_order}
use Rattle.line.specs.Book.{positioned, added}
use Rattle.place.specs.declared.report.Report.{Report}
use Rattle.place.specs.declared.report.Report.TheVariants.{Post, Metres, Missing}
use Rattle.place.specs.declared.report.Place.{Place}
use Rattle.place.specs.declared.report.Place.TheVariants.{Nothing}
use Rattle.place.specs.Locating.{Result, Ok, Refused, at, in_section, last_reached, place_of}
use Rattle.examples.specs.Books.{book_of, position}

unfoldable pub asked_place : List ℕ → Report → Result Place ℕ
unfolding place_of last_reached refusal unless_refused values_from padded all_below positioned added positions_in_order
asked_place book r = place_of book r

-- three posts, of 1, 2 and 1 tracks, at these positions, in that edition, and two trains that run against each other
abbrev pub surveyed : ℕ → List ℕ → List ℕ
surveyed edition positions = book_of 23 edition 3 (1 ∷ 2 ∷ 1 ∷ 0 ∷ positions) 2 (0 ∷ 2 ∷ 2 ∷ 0 ∷ [])

-- "00 17 03 03 01 02 01 00 00000000 000003E8 000007D1 02 00 02 02 00": posts at 0, 1,000 and 2,001 metres
abbrev pub book_m : List ℕ
book_m = surveyed 3 (position 0 0 ++ position 3 232 ++ position 7 209)

-- the last two at 8,388,606 and 8,388,607
abbrev pub book_n : List ℕ
book_n = surveyed 3 (position 0 0 ++ (0 ∷ 127 ∷ 255 ∷ 254 ∷ 0 ∷ 127 ∷ 255 ∷ 255 ∷ []))

-- the place of a number of metres, by its 32 bits
unfoldable pub metres_in : List ℕ → ℕ → Result Place ℕ
unfolding asked_place of_bits
metres_in book bits = asked_place book (Metres (of_bits binary32 bits))

abbrev pub post : ℕ → Report
post p = Post (record { 0 = p })

-- "the post if equal to its position, else the section, and also the nearest post, the lower at equal distance"
pub record Places : Type 0 where
  -- 1,000; 2,001
  pub at_second : metres_in book_m 0x447A_0000 ≡ Ok (at 1)
  pub at_last : metres_in book_m 0x44FA_2000 ≡ Ok (at 2)
  -- 500 and the next number; 1,500.5 and the next number
  pub middle : metres_in book_m 0x43FA_0000 ≡ Ok (in_section 0 0)
  pub past_middle : metres_in book_m 0x43FA_0001 ≡ Ok (in_section 0 1)
  pub half_metre : metres_in book_m 0x44BB_9000 ≡ Ok (in_section 1 1)
  pub past_half : metres_in book_m 0x44BB_9001 ≡ Ok (in_section 1 2)
  -- the numbers on either side of 1,000
  pub before_second : metres_in book_m 0x4479_FFFF ≡ Ok (in_section 0 1)
  pub past_second : metres_in book_m 0x447A_0001 ≡ Ok (in_section 1 1)
  -- zero, minus zero and the smallest number
  pub zero : metres_in book_m 0x0000_0000 ≡ Ok (at 0)
  pub minus_zero : metres_in book_m 0x8000_0000 ≡ Ok (at 0)
  pub smallest : metres_in book_m 0x0000_0001 ≡ Ok (in_section 0 0)
  -- 8,388,606.5, in a section of one metre; 4,194,303 and the next number; 8,388,607
  pub last_half : metres_in book_n 0x4AFF_FFFD ≡ Ok (in_section 1 1)
  pub far_middle : metres_in book_n 0x4A7F_FFFC ≡ Ok (in_section 0 0)
  pub past_far_middle : metres_in book_n 0x4A7F_FFFD ≡ Ok (in_section 0 1)
  pub farthest : metres_in book_n 0x4AFF_FFFE ≡ Ok (at 2)

-- "A post number gives itself. Missing gives nothing and is accepted."
pub record OtherReports : Type 0 where
  pub last_post : asked_place book_m (post 2) ≡ Ok (at 2)
  pub missing : asked_place book_m Missing ≡ Ok Nothing

-- "29, not a finite number, below zero or past the last post, comes after 4 and 9"
pub record PlaceRefusals : Type 0 where
  -- the smallest number below zero, the next one past the last post, the infinities, and two that are no numbers
  pub below_zero : metres_in book_m 0x8000_0001 ≡ Refused 29
  pub past_last : metres_in book_m 0x44FA_2001 ≡ Refused 29
  pub past_farthest : metres_in book_n 0x4B00_0000 ≡ Refused 29
  pub infinite : metres_in book_m 0x7F80_0000 ≡ Refused 29
  pub minus_infinite : metres_in book_m 0xFF80_0000 ≡ Refused 29
  pub quiet : metres_in book_m 0x7FC0_0000 ≡ Refused 29
  pub signalling : metres_in book_m 0xFF80_0001 ≡ Refused 29
  -- "A post number not in the line is 9."
  pub next_post_lem : asked_place book_m (post 3) ≡ Refused 9
  pub any_post : asked_place book_m (post 255) ≡ Refused 9
  -- the book comes first, whatever the report
  pub second_edition : metres_in (book_of 11 2 3 (1 ∷ 2 ∷ 1 ∷ 0 ∷ []) 2 (0 ∷ 2 ∷ 2 ∷ 0 ∷ [])) 0x7FC0_0000 ≡ Refused 4
  pub other_edition_lem : asked_place (surveyed 4 (position 0 0 ++ position 3 232 ++ position 7 209)) Missing
      ≡ Refused 4
  pub positions : asked_place (surveyed 3 (position 0 0 ++ position 3 232 ++ position 3 232)) (post 3) ≡ Refused 27
