-- 02, card 6, "Frames get lost in cuttings.": the unit of train 0 and the box of X, and what is lost between the two.
use Rattle.std.specs.Prelude.{◌≡◌, cond, List, [], ◌∷◌, ◌++◌, map, ℕ, eqb, length, get_or, replicate}
use Rattle.common.specs.Check.{refusal, unless_refused}
use Rattle.line.specs.Route.{next_post, between}
use Rattle.frame.specs.Frame.{message_of, read_frame, bytes_of}
use Rattle.journal.specs.Journal.{record_of, record_on}
use Rattle.driver.specs.declared.state.Phase.{Phase}
use Rattle.driver.specs.declared.state.Phase.TheVariants.{Granted}
use Rattle.driver.specs.declared.state.Button.TheVariants.{Ask, Depart, Reached, Report, Again}
use Rattle.driver.specs.State.{same_phase, numbers_fit, valid_unit}
use Rattle.driver.specs.Making.{make_unit}
use Rattle.driver.specs.Pressing.{carried_out, press_button}
use Rattle.driver.specs.Hearing.{for_move, phase_after, hear_frame}
use Rattle.driver.specs.History.{CabInput, press, CabExchange, after_all}
use Rattle.rules.specs.declared.state.Status.TheVariants.{Free, Running}
use Rattle.assurance.specs.Types.{Message, Sent, RefusedBy}
use Rattle.assurance.specs.Run.{Ran}
use Rattle.examples.specs.Reading.{fa, fe, afe, am, ran, verdicts_of, replies_in, logged_records}
use Rattle.examples.specs.Examples.{book_x}
use Rattle.repeating.specs.AtTheBox.{statuses_in, lasts_in, done_from}
use Rattle.repeating.specs.InTheCab.{hears, cab_from}

-- ---- the two ends

-- the phase of train 0's unit after some inputs
unfoldable pub phase_in : List CabInput → Phase
unfolding refusal unless_refused next_post between bytes_of message_of read_frame same_phase numbers_fit valid_unit
    make_unit
    carried_out press_button for_move phase_after hear_frame after_all
phase_in inputs = (after_all (make_unit 0 0 2).unit inputs).phase

-- the frames that it sends
unfoldable pub frames_among : List CabExchange → List (List ℕ)
frames_among [] = []
frames_among (x ∷ xs) = let rest = frames_among xs in cond (eqb (length x.sent) 0) rest (x.sent ∷ rest)

abbrev pub sent_on : List CabInput → List (List ℕ)
sent_on inputs = frames_among (cab_from 0 0 2 inputs)

abbrev pub frame_sent : List CabInput → ℕ → List ℕ
frame_sent inputs i = get_or (sent_on inputs) i []

-- the box, which gets those with these numbers, from 0; the others are lost
abbrev pub box_gets : List CabInput → List ℕ → Ran
box_gets inputs numbers = ran book_x (map (frame_sent inputs) numbers)

-- the answers to the last frame are heard; those to the frames before it are lost
unfoldable pub heard_at_last : List (List Message) → List CabInput
heard_at_last [] = []
heard_at_last (answers ∷ []) = map hears answers
heard_at_last (answers ∷ next ∷ later) = heard_at_last (next ∷ later)

-- ---- FA or FE is lost

abbrev pub asked_twice : List CabInput
asked_twice = press Ask ∷ press Again ∷ []

-- train 0 is declined at post 1, and its FE, which comes with train 1's arrival, is lost
abbrev pub waited : List CabInput
waited =
    press Ask ∷ hears (fe 0 0 1) ∷ press Depart ∷ press Reached ∷ press Report ∷ press Ask ∷ hears (afe 0 1 2)
    ∷ press Again ∷ []

-- what the box gets of it, and of train 1
abbrev pub waited_box : Ran
waited_box =
    let f = frame_sent waited in
    ran book_x (f 0 ∷ bytes_of (fa 1 2 1) ∷ f 1 ∷ f 2 ∷ bytes_of (am 1 2 1) ∷ f 3 ∷ [])

-- "it gives the FA in Asked or Declined", "a repeated FA gets its AFE or FE again": the unit is Granted then
pub record LostAuthority : Type 0 where
  pub sent : sent_on asked_twice ≡ bytes_of (fa 0 0 1) ∷ bytes_of (fa 0 0 1) ∷ []
  -- the FE is lost; then, the FA before it
  pub replies : replies_in (box_gets asked_twice (0 ∷ 1 ∷ [])) ≡ (fe 0 0 1 ∷ []) ∷ (fe 0 0 1 ∷ []) ∷ []
  pub granted : phase_in (asked_twice ++ heard_at_last (replies_in (box_gets asked_twice (0 ∷ 1 ∷ [])))) ≡ Granted
  pub not_heard : phase_in (asked_twice ++ heard_at_last (replies_in (box_gets asked_twice (1 ∷ [])))) ≡ Granted
  -- the FE of a train that waits is lost
  pub late : replies_in waited_box
      ≡ (fe 0 0 1 ∷ []) ∷ (fe 1 2 1 ∷ []) ∷ [] ∷ (afe 0 1 2 ∷ []) ∷ (fe 0 1 2 ∷ []) ∷ (fe 0 1 2 ∷ []) ∷ []
  pub granted_late : phase_in (waited ++ heard_at_last (replies_in waited_box)) ≡ Granted

-- ---- AM is lost

-- train 0's first move, and its report
abbrev pub move_reported : List CabInput
move_reported = press Ask ∷ hears (fe 0 0 1) ∷ press Depart ∷ press Reached ∷ press Report ∷ []

abbrev pub reported_twice : List CabInput
reported_twice = move_reported ++ (press Again ∷ [])

-- the driver presses Ask first, and then Again
abbrev pub asked_too_soon : List CabInput
asked_too_soon = move_reported ++ (press Ask ∷ press Again ∷ [])

-- "the AM of the last move in Standing past the start"
pub record LostReport : Type 0 where
  pub sent : sent_on reported_twice ≡ map bytes_of (fa 0 0 1 ∷ am 0 0 1 ∷ am 0 0 1 ∷ [])
  -- with the second AM alone the train is freed; with both the box has the same records
  pub freed : statuses_in (box_gets reported_twice (0 ∷ 2 ∷ [])).state (0 ∷ []) ≡ Free ∷ []
  pub finished : lasts_in (box_gets reported_twice (0 ∷ 2 ∷ [])).state (0 ∷ []) ≡ done_from 0 1 ∷ []
  pub records : map (λ numbers. logged_records (box_gets reported_twice numbers)) ((0 ∷ 2 ∷ []) ∷ (0 ∷ 1 ∷ 2 ∷ []) ∷ [])
      ≡ replicate 2 (record_of (fa 0 0 1) ∷ record_on 1 (fe 0 0 1) ∷ record_of (am 0 0 1) ∷ [])
  -- what Again does not mend: after Ask it gives the FA alone, and to the box the train still runs
  pub too_soon : sent_on asked_too_soon ≡ map bytes_of (fa 0 0 1 ∷ am 0 0 1 ∷ fa 0 1 2 ∷ fa 0 1 2 ∷ [])
  pub refused : verdicts_of (box_gets asked_too_soon (0 ∷ 2 ∷ 3 ∷ [])) ≡ Sent 1 ∷ RefusedBy 9 ∷ RefusedBy 9 ∷ []
  pub runs : statuses_in (box_gets asked_too_soon (0 ∷ 2 ∷ 3 ∷ [])).state (0 ∷ []) ≡ Running (record { 0 = 1 }) ∷ []
