-- The claims on calls that follow one another. A caller keeps the bytes that a call left, and the next call reads from
-- them just what the rules gave: so a run of calls is a run of the rules, of which crates `assurance` and `conduct`
-- show the rest.
use Rattle.std.specs.Prelude.{◌≡◌, ◌≢◌, true, List, ℕ, length}
use Rattle.common.specs.Check.{refusal}
use Rattle.driver.specs.Making.{make_unit}
use Rattle.driver.specs.Pressing.{press_button}
use Rattle.driver.specs.Hearing.{hear_frame}
use Rattle.rules.specs.Answer.{Answer, answer}
use Rattle.rules.specs.Opening.{opening_with}
use Rattle.calls.specs.Types.{Unit, State, RefusedBy}
use Rattle.calls.specs.Word.{word_of, refusal_in}
use Rattle.encoding.specs.UnitBytes.{unit_length, encodes_unit, unit_in, button_of}
use Rattle.encoding.specs.StateBytes.{state_length, encodes_state, state_in}
use Rattle.encoding.specs.JournalBytes.{record_count, records_in}
use Rattle.calls.specs.UnitCalls.{make_unit_call, hear_call, pressed, press_call_checks, press_call}
use Rattle.calls.specs.BoxCalls.{AnswerCall, open_call, answer_call_of, answer_call}

-- the bytes are read as the state s
pub record StateReadAs (b : List ℕ) (s : State) : Type 0 where
  pub encodes : encodes_state b ≡ true
  pub is : state_in b ≡ s

-- what the call c leaves is read as what the rules' answer a has
pub record LeftAs (c : AnswerCall) (a : Answer) : Type 0 where
  pub state : StateReadAs c.state a.state
  pub journal : records_in c.journal ≡ a.journal

-- the bytes are read as the unit u
pub record UnitReadAs (b : List ℕ) (u : Unit) : Type 0 where
  pub encodes : encodes_unit b ≡ true
  pub is : unit_in b ≡ u

-- the rules' answer to a frame, with state and journal as bytes
abbrev pub ruled : List ℕ → List ℕ → List ℕ → List ℕ → List ℕ → Answer
ruled state table journal frame out = answer (state_in state) table (records_in journal) frame out

pub record HandedOn : Type 0 where
  pub opened : (book state table journal : List ℕ) → length state ≡ state_length
      → StateReadAs (open_call book state table journal).state
      (opening_with book table (record_count (length journal))).state
  pub answered : (state table journal frame out : List ℕ) → encodes_state state ≡ true
      → LeftAs (answer_call state table journal frame out) (ruled state table journal frame out)
  -- a refusal changes nothing
  pub refused : (state table journal frame out : List ℕ) → encodes_state state ≡ true
      → (n : ℕ) → (ruled state table journal frame out).verdict ≡ RefusedBy n
      → answer_call state table journal frame out ≡ answer_call_of (word_of n 0) state journal out
  -- the same of a unit: the bytes that a call leaves are read as the unit that the rules give
  pub unit_made : (train start end : ℕ) (unit : List ℕ) → length unit ≡ unit_length
      → UnitReadAs (make_unit_call train start end unit).unit (make_unit train start end).unit
  pub unit_heard : (unit frame : List ℕ) → encodes_unit unit ≡ true
      → UnitReadAs (hear_call unit frame).unit (hear_frame (unit_in unit) frame).unit
  pub unit_pressed : (unit : List ℕ) (button : ℕ) (frame : List ℕ)
      → refusal (press_call_checks unit button (length frame)) ≡ 0
      → UnitReadAs (press_call unit button frame).unit (press_button (unit_in unit) (button_of button)).unit
  -- and a refusal, which is a low byte other than 0, changes nothing
  pub hearing_refused : (unit frame : List ℕ) → refusal_in (hear_call unit frame).answer ≢ 0
      → (hear_call unit frame).unit ≡ unit
  pub press_refused : (unit : List ℕ) (button : ℕ) (frame : List ℕ)
      → refusal_in (press_call unit button frame).answer ≢ 0
      → press_call unit button frame ≡ pressed (press_call unit button frame).answer unit frame
