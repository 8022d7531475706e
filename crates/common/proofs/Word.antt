-- Laws of numbers of several digits, and of several bytes.
use mathlib.Core.Path.{◌≡◌}
use mathlib.Core.List.{[], ◌∷◌}
use Prim.Native.Nat.{ℕ, ◌+◌, ◌*◌, ◌/◌, ◌%◌, ◌<◌}
use native.Mathlib.Nat.{mul-le-mul_right}
use native.Mathlib.Omega.{arith}
use lib.Dec.{ltb}
use borrow.Author.Tests.{ltb-true, ltb-false}
use Rattle.common.specs.Word.{long_word, long_word_bytes}
use Rattle.common.proofs.Tests.{by_cases}

-- the digit above two numbers below b
pub high_digit : (b x y r s : ℕ) → r < b → s < b → x * b + r ≡ y * b + s → x ≡ y
high_digit b x y r s h k e = by_cases (ltb x y)
    (λ p. absurd (let m = mul-le-mul_right b (ltb-true x y p) in omega arith))
    (λ p. by_cases (ltb y x)
    (λ q. absurd (let m = mul-le-mul_right b (ltb-true y x q) in omega arith))
    (λ q. omega (arith, ltb-false x y p, ltb-false y x q)))

-- four digits to the base 256, from the quotients that they are the rests of
digits : (n x y a b c d : ℕ) → n ≡ 256 * x + d → x ≡ 256 * y + c → y ≡ 256 * a + b → long_word a b c d ≡ n
digits n x y a b c d p q r = omega arith

-- a number is that of its four bytes
pub long_word_back : (n : ℕ) → n < 4294967296
    → long_word (n / 16777216 % 256) (n / 65536 % 256) (n / 256 % 256) (n % 256) ≡ n
long_word_back n h =
    digits n (n / 256) (n / 65536) _ _ _ _ (omega arith) (omega arith)
    (let small : n / 16777216 % 256 ≡ n / 16777216 = omega arith in omega arith)

-- and four bytes are those of their number
pub bytes_back : (a b c d : ℕ) → a < 256 → b < 256 → c < 256 → d < 256
    → long_word_bytes (long_word a b c d) ≡ a ∷ b ∷ c ∷ d ∷ []
bytes_back a b c d ha hb hc hd =
    let n = long_word a b c d in
    let first : n / 16777216 % 256 ≡ a = omega arith in
    let second : n / 65536 % 256 ≡ b = omega arith in
    let third : n / 256 % 256 ≡ c = omega arith in
    let fourth : n % 256 ≡ d = omega arith in
    rw (first, second, third, fourth)
