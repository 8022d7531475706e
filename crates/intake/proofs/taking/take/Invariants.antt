-- `take` meets its contract: each turn takes the next byte.
use mathlib.Core.Path.{◌≡◌}
use lib.ListN.{length, take}
use Rattle.console.specs.Console.{desk_of, taken_bytes}
use Rattle.intake.proofs.taking.take.Given as goal

abbrev pub invariant-loop-byte : goal.invariant-loop-byte
invariant-loop-byte l =
    (length l.table ≡ length l.initial.table)
    × (desk_of l.after l.table ≡ taken_bytes (desk_of l.initial.after l.initial.table) (take l.byte-index l.bytes))
