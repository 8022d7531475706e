-- Bytes by value: those that have come, then zeros, and how many have come.
use Rattle.std.specs.Prelude.{cond, List, ◌++◌, ℕ, ◌+◌, ◌-◌, ltb, length, set, replicate}
use Rattle.bounded.specs.declared.bytes.Bytes.{Bytes}

-- l, and zeros after it as far as n
abbrev pub zeroed : ℕ → List ℕ → List ℕ
zeroed n l = l ++ replicate (n - length l) 0

-- the bytes l
abbrev pub bytes_from : (n : ℕ) → List ℕ → Bytes n
bytes_from n l = record { bytes = zeroed n l; length = length l }

-- one byte more, where there is room
unfoldable pub bytes_with : (n : ℕ) → Bytes n → ℕ → Bytes n
bytes_with n p b = cond (ltb p.length n) (record { bytes = set p.bytes p.length b; length = p.length + 1 }) p
