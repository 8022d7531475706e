-- Laws of a piece that comes byte by byte.
use mathlib.Core.Path.{◌≡◌, refl}
use mathlib.Core.List.{List, [], ◌∷◌, ◌++◌}
use Prim.Native.Nat.{ℕ, zero, suc, ◌-◌, ◌≤◌, ◌<◌}
use native.Mathlib.Omega.{arith}
use lib.Dec.{leb}
use lib.ListN.{length, get_or, replicate, length-append, get_or-append}
use lib.Seq.{take-append_seam}
use Rattle.common.proofs.Tests.{by_order}
use Rattle.line.specs.Claims.{longest}
use Rattle.console.specs.Piece.{piece_of, piece_bytes, book_length, is_book}

-- ---- the piece of which l has come

pub piece_bytes_lem : (l : List ℕ) → piece_bytes (piece_of l) ≡ l
piece_bytes_lem l = take-append_seam l (replicate (longest - length l) 0)

-- ---- the length of a book

pub book_two : (l : List ℕ) → 2 ≤ book_length l
unfolding book_length
book_two l = omega arith

pub book_most : (l : List ℕ) → book_length l ≤ longest
unfolding book_length
book_most l = omega arith

-- it is said by the first two bytes
pub book_longer : (l m : List ℕ) → 2 ≤ length l → book_length (l ++ m) ≡ book_length l
unfolding book_length
book_longer l m h = rw (get_or-append l m 0 0 (omega arith), get_or-append l m 0 1 (omega arith))

zero_at : (n i : ℕ) → get_or {A = ℕ} (replicate n 0) i 0 ≡ 0
zero_at zero i = refl
zero_at (suc n) zero = refl
zero_at (suc n) (suc i) = zero_at n i

byte_at : (l : List ℕ) (n i : ℕ) → get_or (l ++ replicate n 0) i 0 ≡ get_or l i 0
byte_at [] n i = zero_at n i
byte_at (b ∷ l) n zero = refl
byte_at (b ∷ l) n (suc i) = byte_at l n i

-- whether l is a whole book
pub piece_book : (l : List ℕ) → is_book (piece_of l) ≡ leb (book_length l) (length l)
unfolding is_book book_length
piece_book l =
    let n = longest - length l in
    rw (byte_at l n 0, byte_at l n 1)

-- a book is whole with the byte that makes it so, and not before
pub book_exactly : (l : List ℕ) (x : ℕ) → length l < book_length l
    → book_length (l ++ (x ∷ [])) ≤ length (l ++ (x ∷ []))
    → length (l ++ (x ∷ [])) ≡ book_length (l ++ (x ∷ []))
book_exactly l x h k =
    let more = length-append l (x ∷ []) in
    by_order (length l) 2 (λ few. omega (arith, book_two (l ++ (x ∷ []))))
    (λ enough. omega (arith, book_longer l (x ∷ []) enough))
