-- The journal as bytes: its records and the bytes past them are the buffer, and one record is replaced by its five
-- bytes.
use mathlib.Core.Path.{◌≡◌, refl, sym, ap, ◌∙◌}
use mathlib.Core.List.{List, [], ◌++◌, append-nil}
use Prim.Native.Nat.{ℕ, ◌+◌, ◌*◌, ◌≤◌, ◌<◌}
use native.Mathlib.Nat.{add-zero, zero-add, mul-div-le}
use native.Mathlib.Omega.{arith}
use lib.ListN.{length, set, drop, length-append, length-drop}
use lib.Seq.{get_or-drop, drop_at}
use Rattle.common.specs.Part.{replaced, replaced_if_room}
use Rattle.common.proofs.Part.{replaced_if}
use Rattle.common.proofs.Tabulate.{length_tabulate, at_tabulate}
use Rattle.journal.specs.Journal.{blank}
use Rattle.encoding.specs.Types.{Record}
use Rattle.encoding.specs.Parts.{joined, each}
use Rattle.encoding.specs.JournalBytes.{record_length, record_bytes, record_in, record_count, records_in}
use Rattle.encoding.specs.JournalBytes.{journal_parts, with_records}
use Rattle.encoding.proofs.Parts.{At, same_place, bytes_at, at_joined, whole_at, length_each, at_each, each_set}

-- a record that is read at i stands there
record_at_lem : (b : List ℕ) (i : ℕ) → At b i (record_bytes (record_in b i))
record_at_lem b i = bytes_at (rw add-zero, (refl, (refl, (refl, (refl, tt)))))

module _ (b : List ℕ) where
  abbrev count : ℕ
  count = record_count (length b)

  -- the bytes past the records
  abbrev past : List ℕ
  past = drop (record_length * count) b

  pub record_count_lem : length (records_in b) ≡ count
  record_count_lem = length_tabulate count _

  whole : record_length * count ≤ length b
  whole = mul-div-le (length b) record_length

  module _ (j : List Record) (size : length j ≡ count) where
    records_length : length (each record_bytes j) ≡ record_length * count
    records_length = length_each record_bytes record_length (λ r. refl) j ∙ ap (λ (n : ℕ). record_length * n) size

    pub length_with : length (with_records b j) ≡ length b
    unfolding with_records joined
    length_with = rw (length-append, records_length, append-nil past, length-drop) (omega (arith, whole))

    -- other records in the place of these
    pub with_again : (k : List Record) → with_records (with_records b j) k ≡ with_records b k
    unfolding with_records joined
    with_again k =
        let same : drop (record_length * count) (with_records b j) ≡ past =
        drop_at (each record_bytes j) (past ++ []) (record_length * count) records_length ∙ append-nil past in
        ap (λ (n : ℕ). each record_bytes k ++ (drop (record_length * record_count n) (with_records b j) ++ []))
        length_with
        ∙ ap (λ (l : List ℕ). each record_bytes k ++ (l ++ [])) same

    set_there : (i : ℕ) (r : Record) → i < length j
        → replaced (with_records b j) (record_length * i) (record_bytes r) ≡ with_records b (set j i r)
    unfolding with_records joined
    set_there i r h = each_set record_bytes record_length (λ x. refl) j i r _ h

    -- five bytes at the place of record i are another record there
    pub with_set : (i : ℕ) (r : Record) → i < length j
        → replaced_if_room (with_records b j) (record_length * i) (record_bytes r) ≡ with_records b (set j i r)
    with_set i r h =
        let room : record_length * i + record_length ≤ length (with_records b j) =
        rw length_with (omega (arith, whole)) in
        sym (replaced_if (with_records b j) (record_length * i) (record_bytes r) room) ∙ set_there i r h

  -- the buffer is its records and the bytes past them
  pub own_records : with_records b (records_in b) ≡ b
  unfolding with_records
  own_records =
      let records : At b 0 (each record_bytes (records_in b)) =
      at_each record_bytes record_length (λ r. refl) (records_in b) blank
      (λ t h. rw (zero-add, at_tabulate count _ t blank (rw record_count_lem at h))
      (record_at_lem b (record_length * t))) in
      let rest : At b (0 + length (each record_bytes (records_in b))) past =
      record {
        byte = λ j h. get_or-drop (record_length * count) b j 0
            ∙ same_place b (omega (arith, records_length (records_in b) record_count_lem));
      } in
      whole_at (at_joined (journal_parts b (records_in b)) (records, (rest, tt)))
      (length_with (records_in b) record_count_lem)
