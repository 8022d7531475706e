-- The Asked trains in the order of their requests, as the search finds them.
use Rattle.std.specs.Prelude.{◌≡◌, cond, ℕ, ◌≤◌, ◌<◌, ltb, Option, Some, None}
use Rattle.rules.specs.State.{train_of}
use Rattle.authority.specs.Types.{TrainNo, Status, Free, Asked, Running, State, Asker}

abbrev pub asker : TrainNo → ℕ → Asker
asker t n = record { train = t; number = n }

-- the lower of two numbers, with its train
abbrev pub lower : TrainNo → ℕ → Option Asker → Option Asker
lower t n (Some a) = cond (ltb n a.number) (Some (asker t n)) (Some a)
lower t n None = Some (asker t n)

-- the best so far, or train t, if its request has a lower number that is not below `from`
abbrev pub elder : Option Asker → TrainNo → Status → ℕ → Option Asker
elder best t Free from = best
elder best t (Asked n) from = cond (ltb n from) best (lower t n best)
elder best t (Running k) from = best

-- of the first n trains, the one whose request has the lowest number from `from` on
pub data NextAsked (s : State) (from n : ℕ) : Option Asker → Type 0 where
  nobody : ((u : ℕ) → u < n → (m : ℕ) → (train_of s u).status ≡ Asked m → m < from) → NextAsked s from n None
  next : (t : TrainNo) (k : ℕ) → t.0 < n → (train_of s t.0).status ≡ Asked k → from ≤ k
      → ((u : ℕ) → u < n → (m : ℕ) → (train_of s u).status ≡ Asked m → from ≤ m → k ≤ m)
      → NextAsked s from n (Some (asker t k))
