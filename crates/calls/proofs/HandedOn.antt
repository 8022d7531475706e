-- The claims of `specs/HandedOn`: the state that the rules give keeps the lengths of its lists, and the journal its
-- own, so that both read back.
use mathlib.Core.Path.{◌≡◌, refl, ap, ◌∙◌}
use mathlib.Core.Logic.{◌≢◌}
use mathlib.Core.Bool.{true}
use mathlib.Core.List.{List}
use Prim.Native.Nat.{ℕ, zero, suc}
use native.Mathlib.Omega.{arith}
use lib.ListN.{length}
use borrow.Author.Tests.{eq-eqb}
use Rattle.common.specs.Check.{refusal, unless_refused}
use Rattle.common.proofs.Check.{accepts, refuses}
use Rattle.common.proofs.Tests.{by_cases, by_equality}
use Rattle.common.proofs.Part.{length_replaced}
use Rattle.common.proofs.Tabulate.{length_tabulate, length_padded}
use Rattle.frame.specs.Frame.{read_frame}
use Rattle.driver.specs.Making.{make_unit}
use Rattle.driver.specs.Pressing.{carried_out, press_button}
use Rattle.driver.specs.Hearing.{hear_frame}
use Rattle.driver.proofs.Outcomes as outcomes
use Rattle.driver.proofs.Validity.{validity}
use Rattle.rules.specs.State.{line_of}
use Rattle.rules.specs.Answer.{Answer, answer}
use Rattle.rules.specs.Opening.{Opening, opening_with}
use Rattle.rules.proofs.Acceptance.{by_verdict, refusal_leaves, accepted_facts}
use Rattle.calls.specs.Types.{Button, Ask, Depart, Reached, Report, Again, Unit, Pressed}
use Rattle.calls.specs.Types.{Line, Record, State, RefusedBy}
use Rattle.calls.specs.Word.{word_of, refusal_in}
use Rattle.encoding.specs.UnitBytes.{unit_length, unit_bytes, encodes_unit, unit_in, button_of}
use Rattle.calls.specs.UnitCalls.{make_unit_call, hear_call, pressed, press_call_checks, press_after, press_call}
use Rattle.encoding.specs.StateBytes.{state_length, state_bytes, encodes_state, state_in}
use Rattle.encoding.specs.JournalBytes.{record_count, records_in}
use Rattle.calls.specs.BoxCalls.{open_call, answer_call_of, answer_call}
use Rattle.encoding.specs.RoundTrip.{Shaped}
use Rattle.calls.specs.HandedOn.{StateReadAs, LeftAs, UnitReadAs, ruled, HandedOn}
use Rattle.calls.proofs.UnitSteps.{is_unit}
use Rattle.encoding.proofs.Journals.{record_count_lem, own_records}
use Rattle.encoding.proofs.Reading.{read_shaped}
use Rattle.encoding.proofs.RoundTrip.{unit_only, state_back, state_encoded, state_only, records_back, round_trip}

-- ---- the state

read_back : (s : State) → Shaped s → StateReadAs (state_bytes s) s
read_back s h = record { encodes = state_encoded s h; is = state_back s h }

-- what holds of both answers holds of the one that is given
pub either : {A : Type 0} (P : A → Type 0) (n : ℕ) (x : A) (f : ℕ → A) → P x → ((k : ℕ) → P (f k))
    → P (unless_refused n x f)
unfolding unless_refused
either P zero x f p q = p
either P (suc n) x f p q = q (suc n)

opened_shaped : (book table : List ℕ) (n : ℕ) → Shaped (opening_with book table n).state
unfolding opening_with
opened_shaped book table n =
    either (λ (o : Opening). Shaped o.state) _ _ _
    (record { eight = length_padded 8 _ _ 0; six = length_tabulate 6 _; seven = refl })
    (λ k. record { eight = refl; six = length_tabulate 6 _; seven = refl })

module _ (s : State) (table : List ℕ) (journal : List Record) (frame out : List ℕ) where
  answer_shaped : Shaped s → Shaped (answer s table journal frame out).state
  answer_shaped h =
      by_verdict s table journal frame out (λ (a : Answer). Shaped a.state) (λ n e. h) (λ p answers r. h)
      (λ p t.
      let k = accepted_facts table s p.valid_state (read_frame frame) t in
      record {
        eight = ap (λ (l : Line). length l.tracks) k.line ∙ h.eight;
        six = k.size ∙ h.six;
        seven = k.sections ∙ h.seven;
      })

  -- no frame changes the line
  pub answer_line : line_of (answer s table journal frame out).state ≡ line_of s
  answer_line =
      by_verdict s table journal frame out (λ (a : Answer). line_of a.state ≡ line_of s) (λ n e. refl)
      (λ p answers r. refl) (λ p t. (accepted_facts table s p.valid_state (read_frame frame) t).line)

  -- ---- the journal

  pub answer_records : length (answer s table journal frame out).journal ≡ length journal
  answer_records =
      by_verdict s table journal frame out (λ (a : Answer). length a.journal ≡ length journal) (λ n e. refl)
      (λ p answers r. refl)
      (λ p t.
      let k = accepted_facts table s p.valid_state (read_frame frame) t in
      length_replaced journal s.logged _ (omega (arith, k.few, p.long_journal)))

-- ---- the claims

opened : (book state table journal : List ℕ) → length state ≡ state_length
    → StateReadAs (open_call book state table journal).state
    (opening_with book table (record_count (length journal))).state
unfolding open_call
opened book state table journal h =
    rw (eq-eqb (length state) state_length h) (read_back _ (opened_shaped book table (record_count (length journal))))

module _ (state table journal frame out : List ℕ) (h : encodes_state state ≡ true) where
  answered : LeftAs (answer_call state table journal frame out) (ruled state table journal frame out)
  unfolding answer_call
  answered =
      let kept = answer_records (state_in state) table (records_in journal) frame out in
      rw h (record {
        state = read_back _ (answer_shaped (state_in state) table (records_in journal) frame out (read_shaped state));
        journal = records_back journal _ (kept ∙ record_count_lem journal);
      })

  refused : (n : ℕ) → (ruled state table journal frame out).verdict ≡ RefusedBy n
      → answer_call state table journal frame out ≡ answer_call_of (word_of n 0) state journal out
  unfolding answer_call
  refused n e =
      let same = refusal_leaves (state_in state) table (records_in journal) frame out n e in
      rw (h, same, state_only state h, own_records journal)

-- ---- units

unit_read : (u : Unit) → UnitReadAs (unit_bytes u) u
unit_read u = record { encodes = round_trip.unit_encoded u; is = round_trip.unit_back u }

unit_made : (train start end : ℕ) (unit : List ℕ) → length unit ≡ unit_length
    → UnitReadAs (make_unit_call train start end unit).unit (make_unit train start end).unit
unfolding make_unit_call
unit_made train start end unit h = rw (eq-eqb (length unit) unit_length h) (unit_read _)

unit_heard : (unit frame : List ℕ) → encodes_unit unit ≡ true
    → UnitReadAs (hear_call unit frame).unit (hear_frame (unit_in unit) frame).unit
unfolding hear_call
unit_heard unit frame h = rw h (unit_read _)

unit_pressed : (unit : List ℕ) (button : ℕ) (frame : List ℕ)
    → refusal (press_call_checks unit button (length frame)) ≡ 0
    → UnitReadAs (press_call unit button frame).unit (press_button (unit_in unit) (button_of button)).unit
unfolding press_call
unit_pressed unit button frame e =
    rw (accepts (press_after (press_button (unit_in unit) (button_of button)) frame)
    (λ n. pressed (word_of n 0) unit frame) e) (unit_read _)

hearing_refused : (unit frame : List ℕ) → refusal_in (hear_call unit frame).answer ≢ 0
    → (hear_call unit frame).unit ≡ unit
unfolding hear_call
hearing_refused unit frame h = by_cases (encodes_unit unit)
    (λ e.
    let z : refusal_in (word_of (hear_frame (unit_in unit) frame).refusal 0) ≢ 0 = rw e at h in
    let n : (hear_frame (unit_in unit) frame).refusal ≢ 0 = λ o. z (rw o) in
    rw (e, validity.hearing_refused (unit_in unit) frame n) (unit_only unit e))
    (λ e. rw e)

-- a press that is carried out is no refusal
no_refusal : (b f : List ℕ) (x : Button) → refusal_in (press_after (carried_out (unit_in b) x) f).answer ≡ 0
unfolding carried_out
no_refusal b f Ask = refl
no_refusal b f Depart = refl
no_refusal b f Reached = refl
no_refusal b f Report = refl
no_refusal b f Again = refl

-- by the unit's outcome: a refusal leaves it, and what is carried out is no refusal
pressed_unit : (b f : List ℕ) → encodes_unit b ≡ true → (x : Button) (p : Pressed)
    → outcomes.PressOutcome (unit_in b) x p
    → refusal_in (press_after p f).answer ≢ 0 → press_after p f ≡ pressed (press_after p f).answer b f
pressed_unit b f is x p (outcomes.refused n) h = rw (unit_only b is)
pressed_unit b f is x p (outcomes.accepted e o) h = absurd (h (no_refusal b f x))

press_refused : (unit : List ℕ) (button : ℕ) (frame : List ℕ) → refusal_in (press_call unit button frame).answer ≢ 0
    → press_call unit button frame ≡ pressed (press_call unit button frame).answer unit frame
unfolding press_call
press_refused unit button frame =
    let n = refusal (press_call_checks unit button (length frame)) in
    let done = press_after (press_button (unit_in unit) (button_of button)) frame in
    let outcome = outcomes.press_outcome (unit_in unit) (button_of button) in
    by_equality n 0
    (λ e.
    rw (accepts done (λ n. pressed (word_of n 0) unit frame) e)
    (pressed_unit unit frame (is_unit unit button frame e) (button_of button) _ outcome))
    (λ e. rw (refuses {n = n} done (λ n. pressed (word_of n 0) unit frame) (omega arith)) (λ h. refl))

pub handed_on : HandedOn
handed_on = record {
  opened = opened;
  answered = answered;
  refused = refused;
  unit_made = unit_made;
  unit_heard = unit_heard;
  unit_pressed = unit_pressed;
  hearing_refused = hearing_refused;
  press_refused = press_refused;
}
