-- Laws of the lines of a journal's records, one after the other.
use mathlib.Core.Path.{◌≡◌, ap, ◌∙◌}
use mathlib.Core.List.{List, [], ◌++◌}
use Prim.Native.Nat.{ℕ, ◌+◌, ◌*◌, ◌≤◌, ◌<◌}
use native.Mathlib.Omega.{arith}
use native.Mathlib.Numerals.{add-one}
use lib.ListN.{length, length-append}
use Rattle.journal.specs.Journal.{record_at}
use Rattle.printout.specs.Types.{Record}
use Rattle.printout.specs.Text.{Text, record_line_length, end_line_length, text_length, text_of, followed}
use Rattle.printout.specs.Lines.{record_line, end_line, record_lines, run_lines}
use Rattle.printout.proofs.Room.{held, fits}

-- the text t holds the lines of the first i records of j, each as long as a record's line can be
pub record Printed (j : List Record) (i : ℕ) (t : Text) : Type 0 where
  pub lines : t ≡ text_of (record_lines i j)
  pub short : length (record_lines i j) ≤ record_line_length * i

pub none_printed : (j : List Record) (t : Text) → t ≡ text_of [] → Printed j 0 t
unfolding record_lines
none_printed j t e = record { lines = e; short = omega arith }

-- the next record
pub printed_next : (j : List Record) (i : ℕ) (t after : Text) (r : Record) → i < 255 → Printed j i t → r ≡ record_at j i
    → after ≡ followed t (record_line i r) → length (record_line i r) ≤ record_line_length → Printed j (i + 1) after
unfolding record_lines
printed_next j i t after r b p e f h =
    let line = record_line i r in
    let more : record_lines (i + 1) j ≡ record_lines i j ++ line = rw (add-one, e) in
    record {
      lines =
          f ∙ ap (λ (t : Text). followed t line) p.lines ∙ held (record_lines i j) line (omega (arith, p.short))
          ∙ rw more;
      short = rw (more, length-append (record_lines i j) line) (omega (arith, p.short));
    }

-- the end line
pub printed_whole : (j : List Record) (n m : ℕ) (t after : Text) → n < 256 → Printed j n t
    → after ≡ followed t (end_line n m) → length (end_line n m) ≤ end_line_length
    → (after.length ≤ text_length) × (after ≡ text_of (run_lines j n m))
printed_whole j n m t after b p f h =
    let room : length (record_lines n j) + length (end_line n m) ≤ text_length = omega (arith, p.short) in
    fits (record_lines n j ++ end_line n m) after (rw (length-append (record_lines n j) (end_line n m)) room)
    (f ∙ ap (λ (t : Text). followed t (end_line n m)) p.lines ∙ held (record_lines n j) (end_line n m) room)
