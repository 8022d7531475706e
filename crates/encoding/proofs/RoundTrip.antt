-- The round trips of `specs/RoundTrip`: each part that is read at its place stands there, and each that stands there is
-- read.
use mathlib.Core.Path.{◌≡◌, refl, sym, ap, ◌∙◌}
use mathlib.Core.Bool.{Bool, true, false}
use mathlib.Core.List.{List}
use Prim.Native.Nat.{ℕ, zero, suc, ◌+◌, ◌*◌, ◌^◌, ◌≤◌, ◌<◌}
use native.Mathlib.Nat.{add-zero}
use native.Mathlib.Omega.{arith}
use lib.Dec.{leb, eqb}
use lib.ListN.{length, get_or}
use lib.Seq.{ext_get_or}
use borrow.Author.Tests.{leb-true}
use Rattle.common.specs.Below.{of_bool}
use Rattle.common.specs.Tabulate.{tabulate}
use Rattle.common.proofs.Tests.{and_both}
use Rattle.common.proofs.Below.{below_all}
use Rattle.common.proofs.Tabulate.{length_tabulate, at_tabulate, tabulate_cong}
use Rattle.common.proofs.Word.{long_word_back}
use Rattle.line.specs.Book.{byte_at}
use Rattle.journal.specs.Journal.{blank}
use Rattle.driver.specs.State.{phase_no}
use Rattle.rules.specs.State.{no_train, train_of}
use Rattle.encoding.specs.Types.{Phase, Standing, Asked, Declined, Granted, UnderWay, Arrived, Unit}
use Rattle.encoding.specs.Types.{Status, Free, AskedAs, Running, Last, None, Some, Train, State, Record, Time}
use Rattle.encoding.specs.Types.{Place, AtPost, InSection, Nowhere}
use Rattle.encoding.specs.Parts.{head_bytes}
use Rattle.encoding.specs.UnitBytes.{unit_bytes, encodes_unit, phase_of, unit_in}
use Rattle.encoding.specs.StateBytes.{status_no, detail, last_no, last_from, last_to, train_bytes, state_parts}
use Rattle.encoding.specs.StateBytes.{state_bytes}
use Rattle.encoding.specs.StateBytes.{train_at, possessions_at}
use Rattle.encoding.specs.StateBytes.{encodes_status, encodes_last, encodes_trains, encodes_possessions, encodes_state}
use Rattle.encoding.specs.StateBytes.{status_of, last_of, train_in, tracks_in, fleet_in, possessions_in, state_in}
use Rattle.encoding.specs.JournalBytes.{record_length, record_bytes, record_in, record_count, records_in}
use Rattle.encoding.specs.JournalBytes.{journal_parts, with_records}
use Rattle.encoding.specs.TimeBytes.{time_length, time_bytes, seconds_in, rest_in}
use Rattle.encoding.specs.PlaceBytes.{place_length, place_bytes, place_in}
use Rattle.encoding.specs.RoundTrip.{Shaped, BytesReadBack}
use Rattle.encoding.proofs.Parts.{At, bytes_at, within, joined_at, at_joined, whole_at}
use Rattle.encoding.proofs.Parts.{length_each, each_at}
use Rattle.encoding.proofs.Units as units
use Rattle.encoding.proofs.Statuses.{encoded_length, by_possessions}
use Rattle.encoding.proofs.Fields.{posts_at_lem, tracks_at_lem, sidings_at_lem, trains_at_lem, possession_at}
use Rattle.encoding.proofs.Fields.{given_at_lem, logged_at_lem, state_head_length, fleet_length}
use Rattle.encoding.proofs.Fields.{state_length_lem, state_head, at_train, at_ending}
use Rattle.encoding.proofs.Reading.{read_shaped, head_stands, fleet_stands, ending_stands}
use Rattle.encoding.proofs.Journals.{own_records, length_with}

-- ---- units

phase_back : (p : Phase) → phase_of (phase_no p) ≡ p
unfolding phase_of
phase_back Standing = refl
phase_back Asked = refl
phase_back Declined = refl
phase_back Granted = refl
phase_back UnderWay = refl
phase_back Arrived = refl

phase_few : (p : Phase) → leb (phase_no p) 5 ≡ true
phase_few Standing = refl
phase_few Asked = refl
phase_few Declined = refl
phase_few Granted = refl
phase_few UnderWay = refl
phase_few Arrived = refl

phase_only : (n : ℕ) → n ≤ 5 → phase_no (phase_of n) ≡ n
unfolding phase_of
phase_only zero h = refl
phase_only (suc zero) h = refl
phase_only (suc (suc zero)) h = refl
phase_only (suc (suc (suc zero))) h = refl
phase_only (suc (suc (suc (suc zero)))) h = refl
phase_only (suc (suc (suc (suc (suc zero))))) h = refl
phase_only (suc (suc (suc (suc (suc (suc n)))))) h = absurd (omega arith)

unit_encoded : (u : Unit) → encodes_unit (unit_bytes u) ≡ true
unfolding unit_bytes
unit_encoded u = sym (units.by_phase (unit_bytes u) refl) ∙ phase_few u.phase

unit_back : (u : Unit) → unit_in (unit_bytes u) ≡ u
unfolding unit_bytes
unit_back u = rw (phase_back u.phase)

pub unit_only : (b : List ℕ) → encodes_unit b ≡ true → unit_bytes (unit_in b) ≡ b
unfolding unit_bytes
unit_only b h =
    let five = units.encoded_length b h in
    let phase = phase_only (byte_at b 4) (leb-true (byte_at b 4) 5 (units.by_phase b five ∙ h)) in
    whole_at (bytes_at (refl, (refl, (refl, (refl, (phase, tt)))))) (sym five)

-- ---- statuses and trains

status_back : (w : Status) → status_of (status_no w) (detail w) ≡ w
unfolding status_of
status_back Free = refl
status_back (AskedAs n) = refl
status_back (Running k) = refl

status_encodes : (w : Status) → encodes_status (status_no w) (detail w) ≡ true
status_encodes Free = refl
status_encodes (AskedAs n) = refl
status_encodes (Running k) = refl

last_back : (x : Last) → last_of (last_no x) (last_from x) (last_to x) ≡ x
unfolding last_of
last_back None = refl
last_back (Some m) = refl

last_encodes : (x : Last) → encodes_last (last_no x) (last_from x) (last_to x) ≡ true
last_encodes None = refl
last_encodes (Some m) = refl

-- a train that stands at i is read
train_read : (b : List ℕ) (i : ℕ) (x : Train) → At b i (train_bytes x) → train_in b i ≡ x
train_read b i x h =
    let start : byte_at b i ≡ x.route.start.0 = rw add-zero at (sym (h.byte 0 (omega arith))) in
    rw (
      start,
      ← h.byte 1 (omega arith),
      ← h.byte 2 (omega arith),
      ← h.byte 3 (omega arith),
      ← h.byte 4 (omega arith),
      ← h.byte 5 (omega arith),
      ← h.byte 6 (omega arith),
      ← h.byte 7 (omega arith),
      ← h.byte 8 (omega arith),
      status_back x.status,
      last_back x.last,
    )

-- ---- states

possession_back : (x : Bool) → eqb (of_bool x) 1 ≡ x
possession_back true = refl
possession_back false = refl

possession_encodes : (x : Bool) → leb (of_bool x) 1 ≡ true
possession_encodes true = refl
possession_encodes false = refl

-- the list of a list's elements
elements : {A : Type 0} (n : ℕ) (l : List A) (d : A) → length l ≡ n → tabulate n (λ i. get_or l i d) ≡ l
elements n l d e =
    let size = length_tabulate n (λ (i : ℕ). get_or l i d) in
    ext_get_or d (tabulate n (λ i. get_or l i d)) l (size ∙ sym e) (λ i h. at_tabulate n _ i d (rw size at h))

module _ (s : State) (shaped : Shaped s) where
  abbrev bytes : List ℕ
  bytes = state_bytes s

  begins : At bytes 0 (head_bytes s.posts s.tracks s.sidings s.trains)
  begins = state_head s shaped

  tracks_back : tracks_in bytes ≡ s.tracks
  tracks_back =
      let at = tracks_at_lem s.posts s.tracks s.sidings s.trains shaped.eight begins in
      tabulate_cong 8 _ (λ p. get_or s.tracks p 0) (λ p h. sym (at.byte p (omega (arith, shaped.eight))))
      ∙ elements 8 s.tracks 0 shaped.eight

  fleet_back : fleet_in bytes ≡ s.fleet
  fleet_back =
      tabulate_cong 6 _ (train_of s)
      (λ t h. train_read bytes (train_at t) (train_of s t) (at_train s shaped t h))
      ∙ elements 6 s.fleet no_train shaped.six

  possession_here : (i : ℕ) → i < 7 → of_bool (get_or s.possessions i false) ≡ byte_at bytes (possessions_at + i)
  possession_here = possession_at s shaped.seven (at_ending s shaped)

  possessions_back : possessions_in bytes ≡ s.possessions
  possessions_back =
      tabulate_cong 7 _ (λ i. get_or s.possessions i false)
      (λ i h. rw (← possession_here i h) (possession_back (get_or s.possessions i false)))
      ∙ elements 7 s.possessions false shaped.seven

  pub state_back : state_in bytes ≡ s
  state_back =
      let posts = posts_at_lem s.posts s.tracks s.sidings s.trains shaped.eight begins in
      let sidings = sidings_at_lem s.posts s.tracks s.sidings s.trains shaped.eight begins in
      let trains = trains_at_lem s.posts s.tracks s.sidings s.trains shaped.eight begins in
      rw (
        ← posts.byte 0 (omega arith),
        tracks_back,
        ← sidings.byte 0 (omega arith),
        ← trains.byte 0 (omega arith),
        fleet_back,
        possessions_back,
        ← (given_at_lem s shaped.seven (at_ending s shaped)).byte 0 (omega arith),
        ← (logged_at_lem s shaped.seven (at_ending s shaped)).byte 0 (omega arith),
      )

  trains_encoded : encodes_trains bytes ≡ true
  trains_encoded =
      let at = at_train s shaped in
      below_all 6 _ (λ t h.
      rw (
        ← (at t h).byte 4 (omega arith),
        ← (at t h).byte 5 (omega arith),
        ← (at t h).byte 6 (omega arith),
        ← (at t h).byte 7 (omega arith),
        ← (at t h).byte 8 (omega arith),
      ) (and_both _ _ (status_encodes (train_of s t).status) (last_encodes (train_of s t).last)))

  possessions_encoded : encodes_possessions bytes ≡ true
  possessions_encoded =
      below_all 7 _ (λ i h. rw (← possession_here i h) (possession_encodes (get_or s.possessions i false)))

  pub state_encoded : encodes_state bytes ≡ true
  state_encoded = sym (by_possessions bytes (state_length_lem s shaped) trains_encoded) ∙ possessions_encoded

module _ (b : List ℕ) (h : encodes_state b ≡ true) where
  abbrev read : State
  read = state_in b

  pub state_only : state_bytes read ≡ b
  unfolding state_bytes
  state_only =
      let shaped = read_shaped b in
      let eleven = state_head_length read shaped in
      let trains = fleet_length read shaped in
      whole_at
      (at_joined (state_parts read)
      (head_stands b, (fleet_stands b h (omega arith), (ending_stands b h (omega arith), tt))))
      (state_length_lem read shaped ∙ sym (encoded_length b h))

-- ---- the journal

-- a record that stands at i is read
record_read : (b : List ℕ) (i : ℕ) (r : Record) → At b i (record_bytes r) → record_in b i ≡ r
record_read b i r h =
    let kind : byte_at b i ≡ r.kind = rw add-zero at (sym (h.byte 0 (omega arith))) in
    rw (
      kind,
      ← h.byte 1 (omega arith),
      ← h.byte 2 (omega arith),
      ← h.byte 3 (omega arith),
      ← h.byte 4 (omega arith),
    )

module _ (b : List ℕ) (j : List Record) (size : length j ≡ record_count (length b)) where
  record_stands : (i : ℕ) → i < length j → At (with_records b j) (record_length * i) (record_bytes (get_or j i blank))
  unfolding with_records
  record_stands i h =
      within (joined_at (journal_parts b j)).0 (each_at record_bytes record_length (λ r. refl) j i blank h)
      (omega (arith, length_each record_bytes record_length (λ r. refl) j)) (omega arith)

  pub records_back : records_in (with_records b j) ≡ j
  records_back =
      ap (λ (n : ℕ). tabulate (record_count n) (λ i. record_in (with_records b j) (record_length * i)))
      (length_with b j size)
      ∙ tabulate_cong (record_count (length b)) _ (λ i. get_or j i blank)
      (λ i h. record_read (with_records b j) (record_length * i) (get_or j i blank) (record_stands i (rw size h)))
      ∙ elements (record_count (length b)) j blank size

-- ---- times

time_length_lem : (t : Time) → length (time_bytes t) ≡ time_length
unfolding time_bytes
time_length_lem t = refl

time_back : (t : Time) → t.seconds < 2 ^ 32 → t.rest < 2 ^ 32
    → (seconds_in (time_bytes t) ≡ t.seconds) × (rest_in (time_bytes t) ≡ t.rest)
unfolding time_bytes
time_back t s r = (long_word_back t.seconds s, long_word_back t.rest r)

-- ---- places

place_length_lem : (a : Place) → length (place_bytes a) ≡ place_length
place_length_lem (AtPost p) = refl
place_length_lem (InSection i q) = refl
place_length_lem Nowhere = refl

place_back : (a : Place) → place_in (place_bytes a) ≡ a
place_back (AtPost p) = refl
place_back (InSection i q) = refl
place_back Nowhere = refl

pub round_trip : BytesReadBack
round_trip = record {
  unit_encoded = unit_encoded;
  unit_back = unit_back;
  unit_only = unit_only;
  state_encoded = state_encoded;
  state_back = state_back;
  state_only = state_only;
  journal_only = own_records;
  journal_back = records_back;
  time_length_lem = time_length_lem;
  time_back = time_back;
  place_length_lem = place_length_lem;
  place_back = place_back;
  own_nearest = λ p. refl;
}
