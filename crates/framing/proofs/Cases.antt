-- What bytes read as, by the tests that `read` makes.
use mathlib.Core.Path.{◌≡◌}
use mathlib.Core.Logic.{◌≢◌}
use mathlib.Core.List.{List}
use Prim.Native.Nat.{ℕ, ◌≤◌}
use native.Mathlib.Omega.{arith}
use lib.ListN.{length, get_or}
use Rattle.common.proofs.Tests.{by_equality}
use Rattle.line.specs.Refusal.{torn_frame, other_edition, unknown_kind}
use Rattle.frame.specs.declared.message.Message.TheVariants.{Fa, Fe, Afe, Am, La, Le, Lb, Refused}
use Rattle.frame.specs.Frame.{read_frame, message_of}
use Rattle.frame.proofs.Cases.{named_move, other_size, other_length, other_version, other_kind, known_kind, not_a_kind}

module _ (s : List ℕ) where
  pub torn : (length s ≡ 7 → get_or s 0 0 ≡ 0 → get_or s 1 0 ≡ 5 → ⊥) → Refused torn_frame ≡ read_frame s
  torn h = by_equality (length s) 7
      (λ size. other_length s size (λ five. h size (omega arith) (omega arith)))
      (λ size. other_size s size)

  module _ (size : length s ≡ 7) (high : get_or s 0 0 ≡ 0) (low : get_or s 1 0 ≡ 5) where
    pub of_another_edition : get_or s 2 0 ≢ 1 → Refused other_edition ≡ read_frame s
    of_another_edition h = other_version s size (omega arith) h

    module _ (version : get_or s 2 0 ≡ 1) where
      pub of_no_kind : (1 ≤ get_or s 3 0 → get_or s 3 0 ≤ 7 → ⊥) → Refused unknown_kind ≡ read_frame s
      of_no_kind h = other_kind s size (omega arith) version (not_a_kind (get_or s 3 0) h)

      of_kind : (k : ℕ) → get_or s 3 0 ≡ k → 1 ≤ k → k ≤ 7 → message_of k (named_move s) ≡ read_frame s
      of_kind = known_kind s size (omega arith) version

      pub an_fa : get_or s 3 0 ≡ 1 → Fa (named_move s) ≡ read_frame s
      unfolding message_of
      an_fa e = of_kind 1 e (omega arith) (omega arith)

      pub an_fe : get_or s 3 0 ≡ 2 → Fe (named_move s) ≡ read_frame s
      unfolding message_of
      an_fe e = of_kind 2 e (omega arith) (omega arith)

      pub an_afe : get_or s 3 0 ≡ 3 → Afe (named_move s) ≡ read_frame s
      unfolding message_of
      an_afe e = of_kind 3 e (omega arith) (omega arith)

      pub an_am : get_or s 3 0 ≡ 4 → Am (named_move s) ≡ read_frame s
      unfolding message_of
      an_am e = of_kind 4 e (omega arith) (omega arith)

      pub an_la : get_or s 3 0 ≡ 5 → La (named_move s) ≡ read_frame s
      unfolding message_of
      an_la e = of_kind 5 e (omega arith) (omega arith)

      pub an_le : get_or s 3 0 ≡ 6 → Le (named_move s) ≡ read_frame s
      unfolding message_of
      an_le e = of_kind 6 e (omega arith) (omega arith)

      pub an_lb : get_or s 3 0 ≡ 7 → Lb (named_move s) ≡ read_frame s
      unfolding message_of
      an_lb e = of_kind 7 e (omega arith) (omega arith)

-- what each `return` of `read` cites
pub ruleset readings =
    (torn, of_another_edition, of_no_kind, an_fa, an_fe, an_afe, an_am, an_la, an_le, an_lb)
