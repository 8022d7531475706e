-- A frame that passes the checks of its content is accepted in a valid state with long stores: the converse of
-- `frame_passed`.
use mathlib.Core.Path.{◌≡◌, refl}
use mathlib.Core.Bool.{Bool, true}
use mathlib.Core.List.{List}
use Prim.Native.Nat.{ℕ, ◌≤◌}
use lib.ListN.{length}
use borrow.Author.Tests.{eq-eqb, lt-ltb}
use Rattle.common.specs.Check.{refusal}
use Rattle.common.proofs.Check.{Refuses, none, pass, refusal_is}
use Rattle.frame.specs.Frame.{move_in, bytes_of}
use Rattle.frame.specs.RoundTrip.{IsMessage}
use Rattle.frame.proofs.RoundTrip.{round_trip}
use Rattle.journal.specs.Journal.{journal_length}
use Rattle.completion.specs.Table.{table_length}
use Rattle.rules.specs.Types.{Message, Fa, Am, La, Lb, Record, State}
use Rattle.rules.specs.Valid.{valid}
use Rattle.rules.specs.Answer.{out_length, for_box, frame_checks}
use Rattle.rules.specs.Refusals.{Handed, of_train, of_gang, Reads, NamesNext, NamesSection}
use Rattle.rules.proofs.Acceptance.{NextMove, Section, Taken, request, arrival, lending, return}
use Rattle.rules.proofs.Acceptance.{Repeats, declined_before, granted_before, arrived_before}
use Rattle.rules.proofs.Refusals.{is_message, checks, after_asking, after_arriving, after_finish, after_lending}
use Rattle.rules.proofs.Refusals.{after_return}

module _ (s : State) (table : List ℕ) (journal : List Record) (out : List ℕ) (d : valid s ≡ true)
    (table-long : table_length ≤ length table) (journal-long : journal_length ≤ length journal)
    (out-long : out_length ≤ length out) where
  abbrev handed : Message → Handed
  handed a = record { state = s; table = table; journal = journal; frame = bytes_of a; out = out }

  reads : (whose : Message → Bool) (a : Message) → IsMessage a → whose a ≡ true → Reads whose (handed a) a
  reads whose a is k = record {
    prepared = record {
      valid_state = d;
      long_table = table-long;
      long_journal = journal-long;
      long_out = out-long;
    };
    message = round_trip.back a is;
    kind = k;
  }

  onward : (a : Message) → for_box a ≡ true → of_train a ≡ true → NextMove s (move_in a) → NamesNext (handed a) a
  onward a k of q = record {
    reads = reads of_train a (is_message a k) of;
    known = q.known;
    short = q.short;
    from = q.from;
    to = q.to;
  }

  section : (a : Message) → for_box a ≡ true → of_gang a ≡ true → Section s (move_in a) → NamesSection (handed a) a
  section a k of q = record {
    reads = reads of_gang a (is_message a k) of;
    gang = q.gang;
    upper = q.upper;
    on = rw q.upper q.on;
  }

  passes : (a : Message) → Taken s a → Refuses (checks (handed a)) 0
  passes a (request m q free) = after_asking (handed (Fa m)) m (onward (Fa m) refl refl q)
  passes a (arrival m q runs) = after_arriving (handed (Am m)) m (onward (Am m) refl refl q) (pass runs none)
  passes a (lending m q free few) = after_lending (handed (La m)) m (section (La m) refl refl q)
      (pass (eq-eqb _ _ free) (pass (lt-ltb _ _ few) none))
  passes a (return m q held) = after_return (handed (Lb m)) m (section (Lb m) refl refl q) (pass held none)

  pub taken_accepted : (a : Message) → Taken s a
      → refusal (frame_checks s (length table) (length journal) (bytes_of a) (length out)) ≡ 0
  taken_accepted a t = refusal_is (passes a t)

  again_passes : (a : Message) (answers : List Message) → Repeats s a answers → Refuses (checks (handed a)) 0
  unfolding IsMessage
  again_passes a answers (declined_before m n asks) = after_asking (handed (Fa m)) m (onward (Fa m) refl refl n)
  again_passes a answers (granted_before m n runs) = after_asking (handed (Fa m)) m (onward (Fa m) refl refl n)
  again_passes a answers (arrived_before m known finished) =
      after_finish (handed (Am m)) m (reads of_train (Am m) tt refl) known finished

  pub again_accepted : (a : Message) (answers : List Message) → Repeats s a answers
      → refusal (frame_checks s (length table) (length journal) (bytes_of a) (length out)) ≡ 0
  again_accepted a answers r = refusal_is (again_passes a answers r)
