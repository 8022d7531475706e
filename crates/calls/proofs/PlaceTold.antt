-- The claim on the call for place reports.
use mathlib.Core.Path.{◌≡◌, refl, sym, ap, ◌∙◌}
use mathlib.Core.Logic.{◌≢◌}
use mathlib.Core.List.{List, [], ◌∷◌}
use Prim.Native.Nat.{ℕ, ◌%◌, ◌≤◌, ◌<◌}
use native.Mathlib.Omega.{arith}
use lib.ListN.{length}
use lib.Ieee.{Float}
use Rattle.common.proofs.Check.{refusal_below}
use Rattle.line.specs.Refusal.{strange_state, unknown_kind}
use Rattle.place.specs.Locating.{at, in_section, place_refusal, place_checks, place_of}
use Rattle.place.proofs.Claims.{place_number}
use Rattle.calls.specs.Types.{Post, Metres, Missing, Place, Nothing, Result, Ok, Refused}
use Rattle.calls.specs.Word.{word_of, refusal_in}
use Rattle.calls.specs.PlaceCalls.{PlaceCall, place_call, report_of, place_after, locate_call, PlaceTold}
use Rattle.calls.proofs.PlaceSteps.{no_room, no_kind, is_located}

missing : (p : ℕ) (x : Float) → report_of 0 p x ≡ Missing
unfolding report_of
missing p x = refl

post : (p : ℕ) (x : Float) → report_of 1 p x ≡ Post (record { 0 = p })
unfolding report_of
post p x = refl

metres : (p : ℕ) (x : Float) → report_of 2 p x ≡ Metres x
unfolding report_of
metres p x = refl

module _ (book : List ℕ) (k p : ℕ) (x : Float) (place : List ℕ) where
  abbrev found : Result Place ℕ
  found = place_of book (report_of k p x)

  abbrev call : PlaceCall
  call = locate_call book k p x place

  other_length : length place ≢ 3 → call ≡ place_call strange_state place
  other_length h = sym (no_room book k p x place h _ refl)

  module _ (h : length place ≡ 3) where
    other_kind : 2 < k → call ≡ place_call unknown_kind place
    other_kind m = sym (no_kind book k p x place h m _ refl)

    module _ (known : k ≤ 2) where
      -- by the place that is found
      by : (a : Result Place ℕ) → found ≡ a → call ≡ place_after a place
      by a e = sym (is_located book k p x place h known) ∙ ap (λ (z : Result Place ℕ). place_after z place) e

      at_post : (q : ℕ) → found ≡ Ok (at q) → call ≡ place_call 0 (1 ∷ q ∷ q ∷ [])
      at_post q e = by (Ok (at q)) e

      in_section_lem : (i q : ℕ) → found ≡ Ok (in_section i q) → call ≡ place_call 0 (2 ∷ i ∷ q ∷ [])
      in_section_lem i q e = by (Ok (in_section i q)) e

      nothing : found ≡ Ok Nothing → call ≡ place_call 0 (0 ∷ 0 ∷ 0 ∷ [])
      nothing e = by (Ok Nothing) e

      small : (n : ℕ) → found ≡ Refused n → n < 256
      small n e =
          rw (sym (ap place_refusal e) ∙ place_number book (report_of k p x))
          (refusal_below 256 (place_checks book (report_of k p x)) (omega arith) refl)

      refused : (n : ℕ) → found ≡ Refused n → (call ≡ place_call n place) × (refusal_in n ≡ n)
      refused n e =
          let word : word_of n 0 ≡ n = omega arith in
          let low : n % 256 ≡ n = omega (arith, small n e) in
          (by (Refused n) e ∙ rw word, low)

pub place_told : PlaceTold
place_told = record {
  missing = missing;
  post = post;
  metres = metres;
  at_post = at_post;
  in_section_lem = in_section_lem;
  nothing = nothing;
  refused = refused;
  other_length = other_length;
  other_kind = other_kind;
}
