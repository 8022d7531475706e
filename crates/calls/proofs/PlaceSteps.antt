-- How the call for place reports comes out, by the tests that the code makes.
use mathlib.Core.Path.{◌≡◌, refl}
use mathlib.Core.Logic.{◌≢◌}
use mathlib.Core.List.{List}
use Prim.Native.Nat.{ℕ, ◌≤◌, ◌<◌}
use native.Mathlib.Omega.{arith}
use lib.ListN.{length}
use lib.Ieee.{Float}
use lib.Dec.{leb}
use borrow.Author.Tests.{eq-eqb, ne_eqb, le-leb, lt-leb, leb-true, leb-false}
use Rattle.common.proofs.Tests.{by_cases}
use Rattle.common.proofs.Check.{Refuses, none, stop, pass, accepted_by, refused_by_lem}
use Rattle.line.specs.Refusal.{strange_state, unknown_kind}
use Rattle.place.specs.Locating.{place_refusal, place_of}
use Rattle.encoding.specs.PlaceBytes.{place_length}
use Rattle.calls.specs.Types.{Place, Result}
use Rattle.calls.specs.Word.{word_of}
use Rattle.calls.specs.PlaceCalls.{place_call, metres_kind, report_of, locate_call_checks, place_written, place_after}
use Rattle.calls.specs.PlaceCalls.{known_place, locate_call}

module _ (book : List ℕ) (kind post : ℕ) (x : Float) (place : List ℕ) where
  abbrev found : Result Place ℕ
  found = place_of book (report_of kind post x)

  -- the checks that come before the report's own
  refused_call : (n : ℕ) → 0 < n → Refuses (locate_call_checks kind (length place)) n → (w : ℕ) → w ≡ word_of n 0
      → place_call w place ≡ locate_call book kind post x place
  unfolding locate_call
  refused_call n h r w e =
      rw e (refused_by_lem (place_after found place) (λ (k : ℕ). place_call (word_of k 0) place) h r)

  pub no_room : length place ≢ place_length → (w : ℕ) → w ≡ word_of strange_state 0
      → place_call w place ≡ locate_call book kind post x place
  no_room h = refused_call strange_state (omega arith) (stop (ne_eqb (length place) place_length h))

  module _ (h : length place ≡ place_length) where
    pub no_kind : metres_kind < kind → (w : ℕ) → w ≡ word_of unknown_kind 0
        → place_call w place ≡ locate_call book kind post x place
    no_kind k =
        refused_call unknown_kind (omega arith)
        (pass (eq-eqb (length place) place_length h) (stop (lt-leb kind metres_kind k)))

    -- they pass
    module _ (k : kind ≤ metres_kind) where
      pub is_located : place_after found place ≡ locate_call book kind post x place
      unfolding locate_call
      is_located =
          accepted_by (place_after found place) (λ (n : ℕ). place_call (word_of n 0) place)
          (pass (eq-eqb (length place) place_length h) (pass (le-leb kind metres_kind k) none))

    -- by the place, where the kind is known
    pub by_kind : place_after (known_place book kind post x) place ≡ locate_call book kind post x place
    by_kind = by_cases (leb kind metres_kind)
        (λ e. rw e (is_located (leb-true kind metres_kind e)))
        (λ e. rw e (no_kind (leb-false kind metres_kind e) _ refl))

    -- the word is by the number of the answer, and the bytes are those that it leaves
    pub answered : (a : Result Place ℕ) → a ≡ known_place book kind post x
        → (after : List ℕ) → after ≡ place_written a place → (w : ℕ) → w ≡ word_of (place_refusal a) 0
        → place_call w after ≡ locate_call book kind post x place
    answered a is after q w e = rw (e, q, ← by_kind, ← is)
