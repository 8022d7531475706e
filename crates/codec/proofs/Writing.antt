-- The loop that writes a batch of records to a journal of bytes.
use mathlib.Core.Path.{◌≡◌, sym, ap, ◌∙◌}
use mathlib.Core.List.{List}
use Prim.Native.Nat.{ℕ, ◌+◌, ◌*◌, ◌-◌, ◌≤◌, ◌<◌}
use native.Mathlib.Numerals.{add-one}
use native.Mathlib.Omega.{arith}
use lib.ListN.{length, take}
use lib.Seq.{paste, paste-zero, paste-suc, length-paste, length-take-le, get_or-take}
use Rattle.common.specs.Part.{replaced_if_room}
use Rattle.common.proofs.Tests.{by_order}
use Rattle.journal.specs.Journal.{blank, record_at, batch_length, fitting, appended}
use Rattle.journal.proofs.Appended.{fitting_few, fitting_room, all_written as all-appended}
use Rattle.encoding.specs.Types.{Record, Batch}
use Rattle.encoding.specs.JournalBytes.{record_length, record_bytes, record_count, records_in, with_records}
use Rattle.encoding.proofs.Journals.{record_count_lem, own_records, length_with, with_set}

-- the first k of n records are in their places, each of which has one
pub record Writing (b : List ℕ) (at : ℕ) (items : List Record) (n : ℕ) (bytes : List ℕ) (k : ℕ) : Type 0 where
  pub most : k ≤ n
  pub few : n ≤ batch_length
  pub seven : length items ≡ batch_length
  pub room : (i : ℕ) → i < n → at + i < record_count (length b)
  pub written : bytes ≡ with_records b (paste (records_in b) at items k)

module _ (b : List ℕ) (at : ℕ) (batch : Batch) (seven : length batch.items ≡ batch_length) where
  pub start : (n : ℕ) → n ≡ fitting (record_count (length b)) at batch.n → Writing b at batch.items n b 0
  start n e = record {
    most = omega arith;
    few = rw e (fitting_few (record_count (length b)) at batch.n);
    seven = seven;
    room = rw e (fitting_room (record_count (length b)) at batch.n);
    written = rw (← paste-zero (records_in b) at batch.items) (sym (own_records b));
  }

module _ {b : List ℕ} {at : ℕ} {items : List Record} {n : ℕ} {bytes : List ℕ} {k : ℕ}
    (w : Writing b at items n bytes k) where
  abbrev pasted : List Record
  pasted = paste (records_in b) at items k

  pasted_count : length pasted ≡ record_count (length b)
  pasted_count = by_order 0 k
      (λ h.
      let last = w.room (k - 1) (omega (arith, w.most)) in
      length-paste (records_in b) at items k (rw record_count_lem (omega arith)) (omega arith) ∙ record_count_lem b)
      (λ h. let none : k ≡ 0 = omega arith in rw (none, ← paste-zero (records_in b) at items) (record_count_lem b))

  pub same_size : length bytes ≡ length b
  same_size = rw w.written (length_with b pasted pasted_count)

  one_more : k < n → (e : List ℕ) → e ≡ record_bytes (record_at items k)
      → (after : List ℕ) → after ≡ replaced_if_room bytes (record_length * (at + k)) e
      → Writing b at items n after (k + 1)
  one_more h e p after q =
      let place : at + k < record_count (length b) = w.room k h in
      record {
        most = omega arith;
        few = w.few;
        seven = w.seven;
        room = w.room;
        written =
            rw (q, p, w.written, add-one)
            (with_set b pasted pasted_count (at + k) (record_at items k) (rw pasted_count place)
            ∙ ap (with_records b)
            (paste-suc (records_in b) at items k blank (rw record_count_lem place) (omega arith)));
      }

  -- the records that the loop goes over
  pub taken_length : length (take n items) ≡ n
  taken_length = length-take-le n items (omega (arith, w.few, w.seven))

  pub entry_more : k < length (take n items) → (e : List ℕ) → e ≡ record_bytes (record_at (take n items) k)
      → (after : List ℕ) → after ≡ replaced_if_room bytes (record_length * (at + k)) e
      → Writing b at items n after (k + 1)
  entry_more h e p after q =
      let few : k < n = omega (arith, taken_length) in
      one_more few e (p ∙ ap record_bytes (get_or-take n items k blank few)) after q

pub all_written : (b : List ℕ) (at : ℕ) (batch : Batch) (n : ℕ) → n ≡ fitting (record_count (length b)) at batch.n
    → (bytes : List ℕ) (k : ℕ) → Writing b at batch.items n bytes k → n ≤ k
    → bytes ≡ with_records b (appended (records_in b) at batch)
all_written b at batch n e bytes k w h =
    let all : k ≡ fitting (record_count (length b)) at batch.n = omega (arith, w.most, e) in
    let same : k ≡ fitting (length (records_in b)) at batch.n =
    all ∙ ap (λ (m : ℕ). fitting m at batch.n) (sym (record_count_lem b)) in
    w.written ∙ ap (with_records b) (rw same (all-appended (records_in b) at batch))
