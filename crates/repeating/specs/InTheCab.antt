-- 02, card 6, in the cab: what Again gives, and as what the unit's history tells it.
use Rattle.std.specs.Prelude.{◌≡◌, List, [], ◌∷◌, map, ℕ}
use Rattle.common.specs.Check.{refusal, unless_refused}
use Rattle.line.specs.Route.{next_post, between}
use Rattle.frame.specs.Frame.{move_of, message_of, read_frame, bytes_of}
use Rattle.frame.specs.declared.message.Move.{Move}
use Rattle.frame.specs.declared.message.Message.{Message}
use Rattle.frame.specs.declared.message.Message.TheVariants.{Fe, Afe}
use Rattle.driver.specs.declared.state.Button.TheVariants.{Ask, Depart, Reached, Report, Again}
use Rattle.driver.specs.State.{same_phase, numbers_fit, valid_unit}
use Rattle.driver.specs.Making.{make_unit}
use Rattle.driver.specs.Pressing.{carried_out, press_button}
use Rattle.driver.specs.Hearing.{for_move, phase_after, hear_frame}
use Rattle.driver.specs.History.{CabInput, press, frame, CabExchange, cab_run, Event, fa, fe, am, fa_again, am_again}
use Rattle.driver.specs.History.{other, event_of}

-- a frame that is heard
abbrev pub hears : Message → CabInput
hears a = frame (bytes_of a)

-- what the unit of train t from a to e does with some inputs
unfoldable pub cab_from : ℕ → ℕ → ℕ → List CabInput → List CabExchange
unfolding refusal unless_refused next_post between bytes_of message_of read_frame same_phase numbers_fit valid_unit
    make_unit
    carried_out press_button for_move phase_after hear_frame cab_run
cab_from t a e inputs = cab_run (make_unit t a e).unit inputs

-- the number of each refusal, or 0
abbrev pub cab_numbers : List CabExchange → List ℕ
cab_numbers exchanges = map (λ x. x.refusal) exchanges

unfoldable pub cab_events : List CabExchange → List Event
unfolding refusal unless_refused message_of read_frame event_of
cab_events exchanges = map event_of exchanges

-- ---- up: train 0 from 0 to 2

abbrev pub to1 : Move
to1 = move_of 0 0 1

abbrev pub to2 : Move
to2 = move_of 0 1 2

-- Again at the start and after every step of the first move, then at the end, where Ask is 8
abbrev pub upward : List CabExchange
upward = cab_from 0 0 2
    (press Again ∷ press Ask ∷ press Again ∷ hears (Afe to1) ∷ press Again ∷ hears (Fe to1) ∷ press Again
    ∷ press Depart ∷ press Again ∷ press Reached ∷ press Again ∷ press Report ∷ press Again ∷ press Ask
    ∷ hears (Fe to2) ∷ press Depart ∷ press Reached ∷ press Report ∷ press Again ∷ press Ask ∷ [])

-- "A new press, Again, changes no state: it gives the FA in Asked or Declined, the AM of the last move in Standing past
-- the start, and else 21."
pub record AgainUpward : Type 0 where
  pub numbers : cab_numbers upward
      ≡ 21 ∷ 0 ∷ 0 ∷ 0 ∷ 0 ∷ 0 ∷ 21 ∷ 0 ∷ 21 ∷ 0 ∷ 21 ∷ 0 ∷ 0 ∷ 0 ∷ 0 ∷ 0 ∷ 0 ∷ 0 ∷ 0 ∷ 8 ∷ []
  pub events : cab_events upward
      ≡ other ∷ fa to1 ∷ fa_again to1 ∷ other ∷ fa_again to1 ∷ fe to1 ∷ other ∷ other ∷ other ∷ other ∷ other
      ∷ am to1 ∷ am_again to1 ∷ fa to2 ∷ fe to2 ∷ other ∷ other ∷ am to2 ∷ am_again to2 ∷ other ∷ []

-- ---- down, and nowhere

-- train 1 from 2 to 0
abbrev pub downward : List CabExchange
downward = cab_from 1 2 0
    (press Again ∷ press Ask ∷ hears (Fe (move_of 1 2 1)) ∷ press Depart ∷ press Reached ∷ press Report ∷ press Again
    ∷ press Again ∷ press Ask ∷ press Again ∷ [])

pub record AgainElsewhere : Type 0 where
  -- "the AM of the last move": from 2 to 1, as often as it is pressed; "the FA": from 1 to 0
  pub down_numbers : cab_numbers downward ≡ 21 ∷ 0 ∷ 0 ∷ 0 ∷ 0 ∷ 0 ∷ 0 ∷ 0 ∷ 0 ∷ 0 ∷ []
  pub down_events : cab_events downward
      ≡ other ∷ fa (move_of 1 2 1) ∷ fe (move_of 1 2 1) ∷ other ∷ other ∷ am (move_of 1 2 1) ∷ am_again (move_of 1 2 1)
      ∷ am_again (move_of 1 2 1) ∷ fa (move_of 1 1 0) ∷ fa_again (move_of 1 1 0) ∷ []
  -- a unit whose start is its end is not past its start: "else 21", and Ask is 8
  pub nowhere : cab_numbers (cab_from 0 2 2 (press Again ∷ press Ask ∷ press Again ∷ [])) ≡ 21 ∷ 8 ∷ 21 ∷ []
