-- The claim on a unit's whole history: any list of presses and frames, in any order, torn and refused ones included. It
-- is told from what went in and what came out, never from the unit's state.
use Rattle.std.specs.Prelude.{◌≡◌, ◌≢◌, Bool, true, false, cond, ◌||◌, List, [], ◌∷◌, ◌++◌, map, ℕ, zero, suc, eqb}
use Rattle.line.specs.Route.{next_post}
use Rattle.frame.specs.Frame.{move_of, read_frame}
use Rattle.driver.specs.Types.{Move, Message, Fa, Fe, Afe, Am, La, Le, Lb, Refused, Button, Unit, Pressed, Heard}
use Rattle.driver.specs.Making.{make_unit}
use Rattle.driver.specs.Pressing.{is_again, sent_bytes, press_button}
use Rattle.driver.specs.Hearing.{hear_frame}

-- ---- what goes in and what comes out

pub data CabInput : Type 0 where
  press : Button → CabInput
  frame : List ℕ → CabInput

-- an input, the number of the refusal or 0, and the bytes that were sent: none or a frame's
pub record CabExchange : Type 0 where
  pub input : CabInput
  pub refusal : ℕ
  pub sent : List ℕ

abbrev pub of_press : Button → Pressed → CabExchange
of_press b r = record { input = press b; refusal = r.refusal; sent = sent_bytes r.frame }

abbrev pub of_frame : List ℕ → Heard → CabExchange
of_frame f r = record { input = frame f; refusal = r.refusal; sent = [] }

abbrev pub cab_exchange : Unit → CabInput → CabExchange
cab_exchange u (press b) = of_press b (press_button u b)
cab_exchange u (frame f) = of_frame f (hear_frame u f)

abbrev pub after : Unit → CabInput → Unit
after u (press b) = (press_button u b).unit
after u (frame f) = (hear_frame u f).unit

unfoldable pub after_all : Unit → List CabInput → Unit
after_all u [] = u
after_all u (i ∷ is) = after_all (after u i) is

-- the first input goes to u, and each later one to the unit that the one before left
unfoldable pub cab_run : Unit → List CabInput → List CabExchange
cab_run u [] = []
cab_run u (i ∷ is) = let rest = cab_run (after u i) is in cab_exchange u i ∷ rest

-- ---- what an exchange says

-- FA sent for a move; FE heard for it, and accepted; AM sent for it; the FA or AM sent for it again, by a press of
-- Again; anything else. Below, FA and AM are those of Ask and Report, and what Again sends is called repeated.
pub data Event : Type 0 where
  fa : Move → Event
  fe : Move → Event
  am : Move → Event
  fa_again : Move → Event
  am_again : Move → Event
  other : Event

-- a press of a button of a move, by the frame that it sent
abbrev pub sent_event : Message → Event
sent_event (Fa m) = fa m
sent_event (Fe m) = other
sent_event (Afe m) = other
sent_event (Am m) = am m
sent_event (La m) = other
sent_event (Le m) = other
sent_event (Lb m) = other
sent_event (Refused n) = other

-- a press of Again, by the frame that it sent
abbrev pub repeated_event : Message → Event
repeated_event (Fa m) = fa_again m
repeated_event (Fe m) = other
repeated_event (Afe m) = other
repeated_event (Am m) = am_again m
repeated_event (La m) = other
repeated_event (Le m) = other
repeated_event (Lb m) = other
repeated_event (Refused n) = other

-- a frame that was accepted
abbrev pub accepted_event : Message → Event
accepted_event (Fa m) = other
accepted_event (Fe m) = fe m
accepted_event (Afe m) = other
accepted_event (Am m) = other
accepted_event (La m) = other
accepted_event (Le m) = other
accepted_event (Lb m) = other
accepted_event (Refused n) = other

-- by the button and what the bytes sent read as, or by the frame that was heard and the number of its refusal or 0
abbrev pub event_by : CabInput → ℕ → Message → Event
event_by (press b) n a = cond (is_again b) (repeated_event a) (sent_event a)
event_by (frame f) zero a = accepted_event (read_frame f)
event_by (frame f) (suc n) a = other

unfoldable pub event_of : CabExchange → Event
event_of x = event_by x.input x.refusal (read_frame x.sent)

-- ---- what the events so far say

abbrev pub is_fa : Event → Bool
is_fa (fa m) = true
is_fa (fe m) = false
is_fa (am m) = false
is_fa (fa_again m) = false
is_fa (am_again m) = false
is_fa other = false

abbrev pub is_am : Event → Bool
is_am (fa m) = false
is_am (fe m) = false
is_am (am m) = true
is_am (fa_again m) = false
is_am (am_again m) = false
is_am other = false

-- an FE for this train
abbrev pub is_fe : ℕ → Event → Bool
is_fe t (fa m) = false
is_fe t (fe m) = eqb m.train.0 t
is_fe t (am m) = false
is_fe t (fa_again m) = false
is_fe t (am_again m) = false
is_fe t other = false

unfoldable pub some : (Event → Bool) → List Event → Bool
some f [] = false
some f (x ∷ xs) = let r = some f xs in f x || r

-- the post that an event reports as reached; p where it reports none
abbrev pub reported : ℕ → Event → ℕ
reported p (fa m) = p
reported p (fe m) = p
reported p (am m) = m.to.0
reported p (fa_again m) = p
reported p (am_again m) = p
reported p other = p

-- the post of the last AM, or p where there was none
unfoldable pub place : ℕ → List Event → ℕ
place p [] = p
place p (x ∷ xs) = place (reported p x) xs

-- m leads from this post, which is not the end, to the next one towards the end
pub record OnwardMove (train end post : ℕ) (m : Move) : Type 0 where
  pub short : post ≢ end
  pub move : m ≡ move_of train post (next_post post end)

-- FA was sent for m, and since then no AM was sent and no FE for this train accepted: the unit has asked for m, and its
-- authority is outstanding
pub record Outstanding (train : ℕ) (past : List Event) (m : Move) : Type 0 where
  pub before : List Event
  pub since : List Event
  pub parts : past ≡ before ++ (fa m ∷ since)
  pub no_am : some is_am since ≡ false
  pub no_fe : some (is_fe train) since ≡ false

-- FE for m was accepted when m was requested, and since then no AM was sent: m is granted, and its arrival not reported
pub record Authorised (train : ℕ) (past : List Event) (m : Move) : Type 0 where
  pub before : List Event
  pub since : List Event
  pub parts : past ≡ before ++ (fe m ∷ since)
  pub requested : Outstanding train before m
  pub no_am : some is_am since ≡ false

-- AM was sent for m, and since then no other and no FA: m is the last move reported, and none was asked for after it
pub record Reported (past : List Event) (m : Move) : Type 0 where
  pub before : List Event
  pub since : List Event
  pub parts : past ≡ before ++ (am m ∷ since)
  pub no_am : some is_am since ≡ false
  pub no_fa : some is_fa since ≡ false

-- ---- the claim

pub record Orderly (train start end : ℕ) (events : List Event) : Type 0 where
  -- AM is sent only for a move that was asked for and then granted by an FE for that very move, with no AM in between
  pub am_granted : (past later : List Event) (m : Move)
      → events ≡ past ++ (am m ∷ later) → Authorised train past m
  -- FE for the unit's own train is accepted only for a move that is asked for, and only once
  pub fe_awaited : (past later : List Event) (m : Move)
      → events ≡ past ++ (fe m ∷ later) → m.train.0 ≡ train → Outstanding train past m
  -- between two FAs lies an AM
  pub one_request : (past between later : List Event) (m n : Move)
      → events ≡ past ++ (fa m ∷ (between ++ (fa n ∷ later))) → some is_am between ≡ true
  -- each FA and each AM is for the move from the post that the last AM reported, or from the start, to the next one
  -- towards the end: the AMs, one after the other, are the train's way
  pub fa_onward : (past later : List Event) (m : Move)
      → events ≡ past ++ (fa m ∷ later) → OnwardMove train end (place start past) m
  pub am_onward : (past later : List Event) (m : Move)
      → events ≡ past ++ (am m ∷ later) → OnwardMove train end (place start past) m
  -- 02, card 6: FA is repeated only while its authority is outstanding, for the move that was asked for
  pub fa_repeated : (past later : List Event) (m : Move)
      → events ≡ past ++ (fa_again m ∷ later) → Outstanding train past m
  -- AM is repeated only for the last move that was reported, before the next request
  pub am_repeated : (past later : List Event) (m : Move)
      → events ≡ past ++ (am_again m ∷ later) → Reported past m

-- for every unit that is made, and every list
abbrev pub History : Type 0
History = (t a e : ℕ) → (make_unit t a e).refusal ≡ 0 → (is : List CabInput)
    → Orderly t a e (map event_of (cab_run (make_unit t a e).unit is))
