-- Further examples for 02, card 4: which sections gangs get, what they block, and when they are refused.
use Rattle.std.specs.Prelude.{◌≡◌, true, false, List, [], ◌∷◌, ◌++◌, map, ℕ, zero, suc, replicate}
use Rattle.common.specs.Check.{refusal, unless_refused}
use Rattle.common.specs.Tabulate.{values_from, padded}
use Rattle.common.specs.Update.{update}
use Rattle.line.specs.Book.{added, line_in}
use Rattle.frame.specs.Frame.{move_of, message_of, read_frame, bytes_of}
use Rattle.journal.specs.Journal.{record_of, record_on}
use Rattle.completion.specs.Table.{table_length}
use Rattle.rules.specs.State.{state_with, with_possession}
use Rattle.assurance.specs.Types.{Message, La, Lb, State, Verdict, Sent, RefusedBy}
use Rattle.assurance.specs.Run.{Ran}
use Rattle.assurance.specs.Observer.{read_frames, at_opening, note_answers, observe}
use Rattle.examples.specs.Reading.{fa, fe, afe, am, la, le, lb, opened_blank, ran_from, ran, verdicts_of, replies_in}
use Rattle.examples.specs.Reading.{logged_records}
use Rattle.examples.specs.Examples.{book_x}

-- ---- a list on X, right after its opening

-- a frame of a kind that is none
abbrev pub kind8 : List ℕ
kind8 = 0 ∷ 5 ∷ 1 ∷ 8 ∷ 255 ∷ 0 ∷ 1 ∷ []

-- a gang asks for section 0 and gets it; train 0 waits; the gang asks again; a gang that has none gives section 1 back;
-- the gang gives its own back, and train 0 goes; then what is refused
abbrev pub gang_on_x : Ran
gang_on_x = ran book_x (map bytes_of
    (la 0 1 ∷ fa 0 0 1 ∷ la 0 1 ∷ lb 1 2 ∷ lb 0 1 ∷ la 0 1 ∷ le 0 1 ∷ La (move_of 0 0 1) ∷ la 1 0 ∷ la 2 3
    ∷ fa 255 0 1 ∷ [])
    ++ kind8 ∷ [])

pub record GangOnX : Type 0 where
  pub verdicts : verdicts_of gang_on_x
      ≡ Sent 1 ∷ Sent 1 ∷ RefusedBy 24 ∷ RefusedBy 25 ∷ Sent 1 ∷ RefusedBy 24 ∷ RefusedBy 6 ∷ RefusedBy 7
      ∷ RefusedBy 9 ∷ RefusedBy 9 ∷ RefusedBy 7 ∷ RefusedBy 5 ∷ []
  pub replies : replies_in gang_on_x
      ≡ (le 0 1 ∷ []) ∷ (afe 0 0 1 ∷ []) ∷ [] ∷ [] ∷ (fe 0 0 1 ∷ []) ∷ replicate 7 []
  -- "0 LA 255 0 1 0", "1 LE 255 0 1 0", "2 FA 0 0 1 0", "3 AFE 0 0 1 0", "4 LB 255 0 1 0", "5 FE 0 0 1 1"
  pub journal : logged_records gang_on_x
      ≡ record_of (la 0 1) ∷ record_of (le 0 1) ∷ record_of (fa 0 0 1) ∷ record_of (afe 0 0 1) ∷ record_of (lb 0 1)
      ∷ record_on 1 (fe 0 0 1) ∷ []

-- ---- how a section is named

-- "the two neighbouring posts, lower first", on a line of three posts: as it must be; twice the same post, the upper
-- one first, one left out, past the line, from 255; and a train byte that is not 255 before all that
abbrev pub Named : Type 0
Named = verdicts_of (ran book_x (map bytes_of
    (la 1 2 ∷ lb 1 2 ∷ la 1 1 ∷ la 2 1 ∷ la 0 2 ∷ la 2 3 ∷ la 255 0 ∷ lb 2 1 ∷ La (move_of 1 2 1) ∷ Lb (move_of 254 0 1)
    ∷ [])))
    ≡ Sent 1 ∷ Sent 0 ∷ RefusedBy 9 ∷ RefusedBy 9 ∷ RefusedBy 9 ∷ RefusedBy 9 ∷ RefusedBy 9 ∷ RefusedBy 9
    ∷ RefusedBy 7 ∷ RefusedBy 7 ∷ []

-- ---- gangs and trains

-- trains stand at both posts of section 1, and a gang gets it; train 0 waits for it until it is given back
abbrev pub BesideTrains : Type 0
BesideTrains = replies_in (ran book_x (map bytes_of (fa 0 0 1 ∷ am 0 0 1 ∷ la 1 2 ∷ fa 1 2 1 ∷ lb 1 2 ∷ [])))
    ≡ (fe 0 0 1 ∷ []) ∷ [] ∷ (le 1 2 ∷ []) ∷ (afe 1 2 1 ∷ []) ∷ (fe 1 2 1 ∷ []) ∷ []

-- a gang in section 1 does not stop train 0 in section 0
abbrev pub OtherSection : Type 0
OtherSection = replies_in (ran book_x (map bytes_of (la 1 2 ∷ fa 0 0 1 ∷ []))) ≡ (le 1 2 ∷ []) ∷ (fe 0 0 1 ∷ []) ∷ []

-- train 0 asked while the table had no bit. With the line's table it could go: LA does not run the granting, LB does.
abbrev pub GrantingAfterLb : Type 0
GrantingAfterLb =
    let s = (ran_from (opened_blank book_x).state (replicate table_length 0) (bytes_of (fa 0 0 1) ∷ [])).state in
    replies_in (ran_from s (opened_blank book_x).table (map bytes_of (la 1 2 ∷ lb 1 2 ∷ [])))
    ≡ (le 1 2 ∷ []) ∷ (fe 0 0 1 ∷ []) ∷ []

-- ---- twenty

-- so many local runs in section 0, each given back
unfoldable pub local_runs : ℕ → List Message
local_runs zero = []
local_runs (suc n) = la 0 1 ∷ lb 0 1 ∷ local_runs n

-- "fewer than 20 local runs were given since opening": then 26 for every section, 24 before it, and trains go on
pub record TwentyRuns : Type 0 where
  pub given : (ran book_x (map bytes_of (local_runs 20))).state.given ≡ 20
  pub logged : (ran book_x (map bytes_of (local_runs 20))).state.logged ≡ 60
  pub last : verdicts_of (ran book_x (map bytes_of (local_runs 19 ++ (la 0 1 ∷ la 1 2 ∷ la 0 1 ∷ lb 0 1 ∷ []))))
      ≡ verdicts_of (ran book_x (map bytes_of (local_runs 19))) ++ (Sent 1 ∷ RefusedBy 26 ∷ RefusedBy 24 ∷ Sent 0 ∷ [])
  pub after : replies_in (ran_from (ran book_x (map bytes_of (local_runs 20))).state (opened_blank book_x).table
      (map bytes_of (la 0 1 ∷ fa 0 0 1 ∷ la 0 1 ∷ [])))
      ≡ [] ∷ (fe 0 0 1 ∷ []) ∷ [] ∷ []

-- ---- sound and strange states

-- X with so many local runs given, and so many records
abbrev pub given_on_x : ℕ → ℕ → State
given_on_x given logged =
    let s = (opened_blank book_x).state in state_with s s.fleet s.possessions given logged

-- the verdict of X's box on some messages, from a state on
abbrev pub verdicts_from : State → List Message → List Verdict
verdicts_from s messages = verdicts_of (ran_from s (opened_blank book_x).table (map bytes_of messages))

pub record GangStates : Type 0 where
  -- a gang in the section that train 0 runs in is strange; in the other it is not
  pub beside : let s = (ran book_x (bytes_of (fa 0 0 1) ∷ [])).state in
      (verdicts_from (with_possession s 0 true 0) (am 0 0 1 ∷ []) ≡ RefusedBy 1 ∷ [])
      × (verdicts_from (with_possession s 1 true 0) (am 0 0 1 ∷ []) ≡ Sent 0 ∷ [])
  -- twenty given is sound, twenty-one is not
  pub given : (verdicts_from (given_on_x 20 0) (fa 0 0 1 ∷ []) ≡ Sent 1 ∷ [])
      × (verdicts_from (given_on_x 21 0) (fa 0 0 1 ∷ []) ≡ RefusedBy 1 ∷ [])
  -- X has no section 2: what stands there is not read, and stays
  pub unread : let s = with_possession (opened_blank book_x).state 2 true 0 in
      (verdicts_from s (la 2 3 ∷ lb 2 3 ∷ la 0 1 ∷ []) ≡ RefusedBy 9 ∷ RefusedBy 9 ∷ Sent 1 ∷ [])
      × ((ran_from s (opened_blank book_x).table (map bytes_of (la 0 1 ∷ lb 0 1 ∷ []))).state.possessions
      ≡ false ∷ false ∷ true ∷ replicate 4 false)
  -- 02, card 7: "A state whose journal count is above 229 becomes strange, refusal 1.": at 229 an LA is answered and an
  -- LB taken, and what each leaves is strange; 25, 26 and 24 come as at any other count
  pub in_range_lem :
      (verdicts_from (given_on_x 0 229) (lb 0 1 ∷ la 0 1 ∷ lb 0 1 ∷ []) ≡ RefusedBy 25 ∷ Sent 1 ∷ RefusedBy 1 ∷ [])
      × (verdicts_from (given_on_x 20 229) (la 0 1 ∷ []) ≡ RefusedBy 26 ∷ [])
      × (verdicts_from (with_possession (given_on_x 20 229) 0 true 20) (la 0 1 ∷ lb 0 1 ∷ la 0 1 ∷ [])
      ≡ RefusedBy 24 ∷ Sent 0 ∷ RefusedBy 1 ∷ [])
  -- at 230 all of these are 1
  pub above : (verdicts_from (given_on_x 0 230) (lb 0 1 ∷ la 0 1 ∷ []) ≡ RefusedBy 1 ∷ RefusedBy 1 ∷ [])
      × (verdicts_from (given_on_x 20 230) (la 0 1 ∷ []) ≡ RefusedBy 1 ∷ [])
      × (verdicts_from (with_possession (given_on_x 20 230) 0 true 20) (la 0 1 ∷ lb 0 1 ∷ [])
      ≡ RefusedBy 1 ∷ RefusedBy 1 ∷ [])

-- ---- as the observer tells it

-- the gangs of sections 0 and 1 after frames put to the box of X
unfoldable pub gangs_after : List Message → List ℕ
unfolding padded values_from added observe note_answers update read_frames read_frame refusal unless_refused message_of
gangs_after messages =
    let o = observe (at_opening (line_in book_x)) (ran book_x (map bytes_of messages)).exchanges in
    map (λ i. o.gangs i) (0 ∷ 1 ∷ [])

-- "from its LE written to its LB accepted"
pub record GangsSeen : Type 0 where
  pub none : gangs_after [] ≡ 0 ∷ 0 ∷ []
  pub lent : gangs_after (la 0 1 ∷ []) ≡ 1 ∷ 0 ∷ []
  -- a second LA is refused, and so is the LB of another section
  pub refused : gangs_after (la 0 1 ∷ la 0 1 ∷ lb 1 2 ∷ []) ≡ 1 ∷ 0 ∷ []
  pub both : gangs_after (la 0 1 ∷ la 1 2 ∷ []) ≡ 1 ∷ 1 ∷ []
  pub back : gangs_after (la 0 1 ∷ la 1 2 ∷ lb 0 1 ∷ []) ≡ 0 ∷ 1 ∷ []
