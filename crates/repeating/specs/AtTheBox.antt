-- 02, card 6, at the box: which frames are answered again, that no more comes of them, and which last moves are sound.
use Rattle.std.specs.Prelude.{◌≡◌, List, [], ◌∷◌, ◌++◌, map, ℕ, drop, replicate}
use Rattle.frame.specs.Frame.{bytes_of}
use Rattle.journal.specs.Journal.{journal_length, blank, record_of, record_on}
use Rattle.completion.specs.Table.{table_length}
use Rattle.rules.specs.declared.state.Status.{Status}
use Rattle.rules.specs.declared.state.Status.TheVariants.{Free, Asked, Running}
use Rattle.rules.specs.Types.{Last, None, Some}
use Rattle.rules.specs.State.{train_of, with_train, counting}
use Rattle.assurance.specs.Types.{Message, State, Verdict, Sent, RefusedBy}
use Rattle.assurance.specs.Run.{Ran}
use Rattle.assurance.specs.Observer.{asked, authority}
use Rattle.examples.specs.Reading.{fa, fe, afe, am, opened_blank, ran_from, ran, verdicts_of, replies_in}
use Rattle.examples.specs.Reading.{logged_records}
use Rattle.examples.specs.Reading.{seen_in}
use Rattle.examples.specs.Examples.{book_x, book_y}
use Rattle.cases.specs.Further.{book_z, parked_at}

-- the statuses of some trains, and their last moves
abbrev pub statuses_in : State → List ℕ → List Status
statuses_in s trains = map (λ t. (train_of s t).status) trains

abbrev pub lasts_in : State → List ℕ → List Last
lasts_in s trains = map (λ t. (train_of s t).last) trains

-- the move from post p to q as a last one
abbrev pub done_from : ℕ → ℕ → Last
done_from p q = Some (record { 0 = p }, record { 0 = q })

-- messages that come to a box in the state s, while the table has no bit
abbrev pub ran_without_bits : State → List Message → Ran
ran_without_bits s messages = ran_from s (replicate table_length 0) (map bytes_of messages)

-- ---- lists with repeats

-- train 0 of X asks twice for its first move and reports it twice; it asks for it once more, then for the next one, and
-- reports the first again
abbrev pub repeats_on_x : Ran
repeats_on_x = ran book_x (map bytes_of
    (fa 0 0 1 ∷ fa 0 0 1 ∷ am 0 0 1 ∷ am 0 0 1 ∷ fa 0 0 1 ∷ fa 0 1 2 ∷ am 0 0 1 ∷ []))

pub record RepeatsOnX : Type 0 where
  -- "a repeated FA gets its AFE or FE again, and an AM naming the train's last finished move is taken with no output",
  -- also of a train that is Asked by then; an FA that names the finished move is 9
  pub verdicts : verdicts_of repeats_on_x ≡ Sent 1 ∷ Sent 1 ∷ Sent 0 ∷ Sent 0 ∷ RefusedBy 9 ∷ Sent 1 ∷ Sent 0 ∷ []
  pub replies : replies_in repeats_on_x
      ≡ (fe 0 0 1 ∷ []) ∷ (fe 0 0 1 ∷ []) ∷ [] ∷ [] ∷ [] ∷ (afe 0 1 2 ∷ []) ∷ [] ∷ []
  -- "neither is logged or changes the state": five records, of which the request has number 3, and "The state keeps
  -- each train's last finished move, or none"
  pub records : logged_records repeats_on_x
      ≡ record_of (fa 0 0 1) ∷ record_on 1 (fe 0 0 1) ∷ record_of (am 0 0 1) ∷ record_of (fa 0 1 2)
      ∷ record_of (afe 0 1 2)
      ∷ []
  pub statuses : statuses_in repeats_on_x.state (0 ∷ 1 ∷ []) ≡ Asked 3 ∷ Free ∷ []
  pub lasts : lasts_in repeats_on_x.state (0 ∷ 1 ∷ []) ≡ done_from 0 1 ∷ None ∷ []
  -- "All of demand 3 covers lists with repeats.": the observer has train 0 with its authority after an FA and its
  -- repeat, and in the end at post 1, asking
  pub authorised : seen_in book_x (ran book_x (map bytes_of (fa 0 0 1 ∷ fa 0 0 1 ∷ []))) 0
      ≡ record { post = 0; claim = authority 0 1 }
  pub asking : seen_in book_x repeats_on_x 0 ≡ record { post = 1; claim = asked }

-- train 2 of Y asks twice
abbrev pub asked_twice_on_y : Ran
asked_twice_on_y = ran book_y (map bytes_of (fa 2 2 1 ∷ fa 2 2 1 ∷ []))

-- "a repeated FA gets its AFE .. again": two records
pub record DeclinedAgain : Type 0 where
  pub replies : replies_in asked_twice_on_y ≡ (afe 2 2 1 ∷ []) ∷ (afe 2 2 1 ∷ []) ∷ []
  pub records : logged_records asked_twice_on_y ≡ record_of (fa 2 2 1) ∷ record_of (afe 2 2 1) ∷ []

-- ---- the last move, and no other

-- on X train 1 comes from 2 to 1, and train 0 past it to 2, its end
abbrev pub past_the_other : List Message
past_the_other = fa 1 2 1 ∷ am 1 2 1 ∷ fa 0 0 1 ∷ am 0 0 1 ∷ fa 0 1 2 ∷ am 0 1 2 ∷ []

-- the verdicts on what comes then
abbrev pub verdicts_then : List Message → List Verdict
verdicts_then messages = drop 6 (verdicts_of (ran book_x (map bytes_of (past_the_other ++ messages))))

pub record LastMoveOnly : Type 0 where
  -- "The test for a finished move comes before 8.": for an AM of the last one; an FA for it, an AM of the one before
  -- it and an AM from the end to the end are 8
  pub at_end_lem : verdicts_then (am 0 1 2 ∷ fa 0 1 2 ∷ am 0 0 1 ∷ am 0 2 2 ∷ [])
      ≡ Sent 0 ∷ RefusedBy 8 ∷ RefusedBy 8 ∷ RefusedBy 8 ∷ []
  -- train 1 came from 2 and not from 0, and has no authority for its next move
  pub on_its_way : verdicts_then (am 1 2 1 ∷ fa 1 2 1 ∷ am 1 0 1 ∷ am 1 1 0 ∷ [])
      ≡ Sent 0 ∷ RefusedBy 9 ∷ RefusedBy 9 ∷ RefusedBy 12 ∷ []
  -- "none at its start": before the first move there is none to repeat
  pub at_start : verdicts_of (ran book_x (map bytes_of (am 0 0 1 ∷ am 0 1 0 ∷ am 0 0 0 ∷ [])))
      ≡ RefusedBy 12 ∷ RefusedBy 9 ∷ RefusedBy 9 ∷ []

-- ---- high counts

-- on Y train 0 has finished its first move and runs on, train 1 has asked, and train 2 is Free
abbrev pub one_of_each : State
one_of_each = (ran book_y (map bytes_of (fa 0 0 1 ∷ am 0 0 1 ∷ fa 1 0 1 ∷ fa 0 1 2 ∷ []))).state

-- a repeat of each
abbrev pub three_repeats : List Message
three_repeats = fa 1 0 1 ∷ fa 0 1 2 ∷ am 0 0 1 ∷ []

-- they come where so many records are counted; and then a request and an arrival that are none
abbrev pub repeats_at : ℕ → Ran
repeats_at n = ran_without_bits (counting one_of_each n) three_repeats

abbrev pub new_after_repeats_at : ℕ → Ran
new_after_repeats_at n = ran_without_bits (counting one_of_each n) (three_repeats ++ fa 2 2 1 ∷ am 0 1 2 ∷ [])

pub record HighCounts : Type 0 where
  -- "both are answered before 13", which card 7 removes: they are answered at every count that is not strange. The
  -- request then finds the count that there was before them: with its AFE it leads from 227 to 229, where the arrival
  -- is taken, and from 228 to 230, where it is 1.
  pub verdicts : map (λ n. verdicts_of (new_after_repeats_at n)) (223 ∷ 224 ∷ 225 ∷ 226 ∷ 227 ∷ 228 ∷ 229 ∷ [])
      ≡ replicate 5 (Sent 1 ∷ Sent 1 ∷ Sent 0 ∷ Sent 1 ∷ Sent 0 ∷ [])
      ++ replicate 2 (Sent 1 ∷ Sent 1 ∷ Sent 0 ∷ Sent 1 ∷ RefusedBy 1 ∷ [])
  pub replies : replies_in (repeats_at 229) ≡ (afe 1 0 1 ∷ []) ∷ (fe 0 1 2 ∷ []) ∷ [] ∷ []
  -- "neither is logged or changes the state"
  pub statuses : statuses_in (repeats_at 229).state (0 ∷ 1 ∷ 2 ∷ []) ≡ Running (record { 0 = 1 }) ∷ Asked 3 ∷ Free ∷ []
  pub logged : ((repeats_at 229).state.logged ≡ 229) × ((repeats_at 229).journal ≡ replicate journal_length blank)
  -- 02, card 7: "A state whose journal count is above 229 becomes strange, refusal 1.", for a repeat as well
  pub above : map (λ n. verdicts_of (new_after_repeats_at n)) (230 ∷ 231 ∷ 232 ∷ 233 ∷ 234 ∷ 235 ∷ 236 ∷ [])
      ≡ replicate 7 (replicate 5 (RefusedBy 1))

-- ---- an altered table

-- train 0 of Z asks while the table has no bit
abbrev pub declined_on_z : Ran
declined_on_z = ran_without_bits (opened_blank book_z).state (fa 0 0 1 ∷ [])

-- then these come, with the line's table
abbrev pub then_on_z : List Message → Ran
then_on_z messages = ran_from declined_on_z.state (opened_blank book_z).table (map bytes_of messages)

-- "a repeated FA gets its AFE .. again", and "neither .. changes the state": train 0 could go by then, but a repeat
-- runs no granting; the next request that is none does, and both go
pub record GrantsNobody : Type 0 where
  pub declined : replies_in declined_on_z ≡ (afe 0 0 1 ∷ []) ∷ []
  pub again : replies_in (then_on_z (fa 0 0 1 ∷ fa 1 3 2 ∷ [])) ≡ (afe 0 0 1 ∷ []) ∷ (fe 0 0 1 ∷ fe 1 3 2 ∷ []) ∷ []
  pub unchanged : (then_on_z (fa 0 0 1 ∷ [])).state ≡ declined_on_z.state

-- ---- sound and strange states

-- X after `past_the_other`: train 1 at post 1, and train 0 at its end
abbrev pub first_home : State
first_home = (ran book_x (map bytes_of past_the_other)).state

-- the state with another last move of train t
abbrev pub last_as : State → ℕ → Last → State
last_as s t w =
    let x = train_of s t in
    with_train s t (record { route = x.route; at = x.at; track = x.track; status = x.status; last = w })

-- the verdict on a message, in the state s with each of these as train t's last move
abbrev pub verdicts_by_last : State → ℕ → Message → List Last → List (List Verdict)
verdicts_by_last s t a lasts = map (λ w. verdicts_of (ran_without_bits (last_as s t w) (a ∷ []))) lasts

pub record LastMoves : Type 0 where
  -- "in a sound state none at its start": Free, Running, or parked there
  pub at_start : verdicts_by_last (opened_blank book_x).state 0 (fa 0 0 1)
      (None ∷ done_from 0 1 ∷ done_from 1 0 ∷ done_from 0 0 ∷ [])
      ≡ (Sent 1 ∷ []) ∷ (RefusedBy 1 ∷ []) ∷ (RefusedBy 1 ∷ []) ∷ (RefusedBy 1 ∷ []) ∷ []
  pub running : verdicts_by_last (ran book_x (bytes_of (fa 0 0 1) ∷ [])).state 0 (am 0 0 1)
      (None ∷ done_from 0 1 ∷ []) ≡ (Sent 0 ∷ []) ∷ (RefusedBy 1 ∷ []) ∷ []
  pub parked : verdicts_by_last (opened_blank (parked_at 2)).state 1 (fa 1 1 1)
      (None ∷ done_from 0 1 ∷ done_from 1 1 ∷ []) ≡ (RefusedBy 8 ∷ []) ∷ (RefusedBy 1 ∷ []) ∷ (RefusedBy 1 ∷ []) ∷ []
  -- "else the one-post move towards its end that reached the present post": for train 1 that from 2 to 1, and not
  -- none, one from the other side, the next one, one that leads nowhere or one from no neighbour
  pub on_its_way : verdicts_by_last first_home 1 (am 1 2 1)
      (done_from 2 1 ∷ None ∷ done_from 0 1 ∷ done_from 1 0 ∷ done_from 1 1 ∷ done_from 3 1 ∷ [])
      ≡ (Sent 0 ∷ []) ∷ replicate 5 (RefusedBy 1 ∷ [])
  -- for train 0 at its end that from 1 to 2, and not none, the one before it or the whole way
  pub at_end_lem : verdicts_by_last first_home 0 (am 0 1 2)
      (done_from 1 2 ∷ None ∷ done_from 0 1 ∷ done_from 0 2 ∷ []) ≡ (Sent 0 ∷ []) ∷ replicate 3 (RefusedBy 1 ∷ [])
  -- places past the trains are not read
  pub past : verdicts_by_last (opened_blank book_x).state 2 (fa 0 0 1) (done_from 9 9 ∷ []) ≡ (Sent 1 ∷ []) ∷ []
