-- What the program prints (01: "It prints each journal record .."), in ASCII.
use Rattle.std.specs.Prelude.{cond, List, [], ◌∷◌, ◌++◌, ℕ, zero, suc, ◌+◌, ◌/◌, ◌%◌, eqb, ltb}
use Rattle.frame.specs.Frame.{FA, FE, AFE, AM, LA, LE, LB}
use Rattle.journal.specs.Journal.{record_at}
use Rattle.printout.specs.Types.{Record}

-- n in decimal, in at most k digits
unfoldable pub decimal_in : ℕ → ℕ → List ℕ
decimal_in zero n = []
decimal_in (suc k) n = let more = decimal_in k (n / 10) in cond (ltb n 10) [] more ++ ((48 + n % 10) ∷ [])

-- a number of 64 bits in decimal
abbrev pub decimal : ℕ → List ℕ
decimal n = decimal_in 20 n

-- the same after a space
abbrev pub spaced : ℕ → List ℕ
spaced n = 32 ∷ decimal n

abbrev pub newline : List ℕ
newline = 10 ∷ []

-- after a space `FA`, `FE`, `AFE` or `AM`, or, by 02, card 4, "kind 5 (LA, ask), 6 (LE, given) and 7 (LB, back)",
-- `LA`, `LE` or `LB`; `?` for what is no kind
unfoldable pub kind_name : ℕ → List ℕ
kind_name k =
    cond (eqb k FA) (32 ∷ 70 ∷ 65 ∷ [])
    (cond (eqb k FE) (32 ∷ 70 ∷ 69 ∷ [])
    (cond (eqb k AFE) (32 ∷ 65 ∷ 70 ∷ 69 ∷ [])
    (cond (eqb k AM) (32 ∷ 65 ∷ 77 ∷ [])
    (cond (eqb k LA) (32 ∷ 76 ∷ 65 ∷ [])
    (cond (eqb k LE) (32 ∷ 76 ∷ 69 ∷ [])
    (cond (eqb k LB) (32 ∷ 76 ∷ 66 ∷ []) (32 ∷ 63 ∷ [])))))))

-- 01: "each journal record (number, kind, train, from, to)". 02, card 2: "The printed line of a record ends with its
-- track number."
abbrev pub record_line : ℕ → Record → List ℕ
record_line number r =
    decimal number ++ kind_name r.kind ++ spaced r.train.0 ++ spaced r.from.0 ++ spaced r.to.0
    ++ spaced r.track.0 ++ newline

-- 01: "then `end`, the record count and the count of refused frames"
abbrev pub end_line : ℕ → ℕ → List ℕ
end_line logged refused = (101 ∷ 110 ∷ 100 ∷ []) ++ spaced logged ++ spaced refused ++ newline

-- 01: "for a refused book only `book` and the number"
abbrev pub book_line : ℕ → List ℕ
book_line n = (98 ∷ 111 ∷ 111 ∷ 107 ∷ []) ++ spaced n ++ newline

-- the lines of the first n records of a journal
unfoldable pub record_lines : ℕ → List Record → List ℕ
record_lines zero journal = []
record_lines (suc n) journal = record_lines n journal ++ record_line n (record_at journal n)

-- all that is printed of a run
abbrev pub run_lines : List Record → ℕ → ℕ → List ℕ
run_lines journal logged refused = record_lines logged journal ++ end_line logged refused
