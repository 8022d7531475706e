-- The call for place reports: what it answers, and the lent buffer afterwards.
use Rattle.std.specs.Prelude.{◌≡◌, ◌≢◌, cond, List, [], ◌∷◌, ℕ, ◌≤◌, ◌<◌, leb, eqb, length, Float}
use Rattle.common.specs.Check.{Check, check, refusal, unless_refused}
use Rattle.line.specs.Refusal.{strange_state, unknown_kind}
use Rattle.line.specs.declared.refusal.Refusal.{Refusal}
use Rattle.line.specs.declared.refusal.Refusal.TheVariants.{UnknownKind}
use Rattle.place.specs.Locating.{at, in_section, place_refusal, place_of}
use Rattle.encoding.specs.PlaceBytes.{place_length, place_bytes}
use Rattle.calls.specs.Types.{PlaceReport, Post, Metres, Missing, Place, Nothing, Result, Ok, Refused}
use Rattle.calls.specs.Word.{word_of, refusal_in}

pub record PlaceCall : Type 0 where
  pub answer : ℕ
  pub place : List ℕ

abbrev pub place_call : ℕ → List ℕ → PlaceCall
place_call answer place = record { answer = answer; place = place }

-- the kinds of a report
abbrev pub missing_kind : ℕ
missing_kind = 0

abbrev pub post_kind : ℕ
post_kind = 1

abbrev pub metres_kind : ℕ
metres_kind = 2

-- of the post number and the metres only the one that the kind names is looked at; a kind above 2 is refused before
unfoldable pub report_of : ℕ → ℕ → Float → PlaceReport
report_of kind post x =
    cond (eqb kind missing_kind) Missing
    (cond (eqb kind post_kind) (Post (record { 0 = post })) (Metres x))

-- in order: a `place` buffer that is not 3 bytes is 1; a kind above 2 is 5; then as 02, card 8
abbrev pub locate_call_checks : ℕ → ℕ → List Check
locate_call_checks kind room =
    check strange_state (eqb room place_length)
    ∷ check unknown_kind (leb kind metres_kind)
    ∷ []

-- the place is written where the report is accepted; a refusal changes nothing
abbrev pub place_written : Result Place ℕ → List ℕ → List ℕ
place_written (Ok a) place = place_bytes a
place_written (Refused n) place = place

abbrev pub place_after : Result Place ℕ → List ℕ → PlaceCall
place_after a place = place_call (word_of (place_refusal a) 0) (place_written a place)

unfoldable pub locate_call : List ℕ → ℕ → ℕ → Float → List ℕ → PlaceCall
locate_call book kind post x place =
    unless_refused (refusal (locate_call_checks kind (length place)))
    (place_after (place_of book (report_of kind post x)) place)
    (λ n. place_call (word_of n 0) place)

-- ---- inside the code: the report of a kind, and its place, where the buffer has room

abbrev pub known_report : ℕ → ℕ → Float → Result PlaceReport Refusal
known_report kind post x = cond (leb kind metres_kind) (Ok (report_of kind post x)) (Refused UnknownKind)

abbrev pub known_place : List ℕ → ℕ → ℕ → Float → Result Place ℕ
known_place book kind post x =
    cond (leb kind metres_kind) (place_of book (report_of kind post x)) (Refused unknown_kind)

-- ---- what is claimed of it

pub record PlaceTold : Type 0 where
  -- each kind by its number
  pub missing : (p : ℕ) (x : Float) → report_of 0 p x ≡ Missing
  pub post : (p : ℕ) (x : Float) → report_of 1 p x ≡ Post (record { 0 = p })
  pub metres : (p : ℕ) (x : Float) → report_of 2 p x ≡ Metres x
  -- the bytes say the place: at a post, which is the nearest; in a section, with the nearest post; or nothing
  pub at_post : (book : List ℕ) (k p : ℕ) (x : Float) (place : List ℕ) → length place ≡ 3 → k ≤ 2
      → (q : ℕ) → place_of book (report_of k p x) ≡ Ok (at q)
      → locate_call book k p x place ≡ place_call 0 (1 ∷ q ∷ q ∷ [])
  pub in_section_lem : (book : List ℕ) (k p : ℕ) (x : Float) (place : List ℕ) → length place ≡ 3 → k ≤ 2
      → (i q : ℕ) → place_of book (report_of k p x) ≡ Ok (in_section i q)
      → locate_call book k p x place ≡ place_call 0 (2 ∷ i ∷ q ∷ [])
  pub nothing : (book : List ℕ) (k p : ℕ) (x : Float) (place : List ℕ) → length place ≡ 3 → k ≤ 2
      → place_of book (report_of k p x) ≡ Ok Nothing → locate_call book k p x place ≡ place_call 0 (0 ∷ 0 ∷ 0 ∷ [])
  -- a refusal changes nothing: its number is the word, and the low byte of the word holds it
  pub refused : (book : List ℕ) (k p : ℕ) (x : Float) (place : List ℕ) → length place ≡ 3 → k ≤ 2
      → (n : ℕ) → place_of book (report_of k p x) ≡ Refused n
      → (locate_call book k p x place ≡ place_call n place) × (refusal_in n ≡ n)
  -- a buffer of another length is 1, and then another kind 5, whatever the book
  pub other_length : (book : List ℕ) (k p : ℕ) (x : Float) (place : List ℕ) → length place ≢ 3
      → locate_call book k p x place ≡ place_call strange_state place
  pub other_kind : (book : List ℕ) (k p : ℕ) (x : Float) (place : List ℕ) → length place ≡ 3 → 2 < k
      → locate_call book k p x place ≡ place_call unknown_kind place
