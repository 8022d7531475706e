-- `quangevit_press` meets its contract: the press is refused before the unit is asked, or the unit afterwards and the
-- frame that it gives are written.
use mathlib.Core.Path.{sym}
use Rattle.encoding.proofs.Units.{encoded_length}
use Rattle.calls.proofs.UnitSteps.{is_unit, has_room, carried_out_lem}
use Rattle.quangevit.proofs.cab.quangevit_press.Goals as goal

pub unit_in-requires : goal.unit_in-requires
unit_in-requires c =
    let a = c.args in encoded_length _ (is_unit a.unit.now a.button a.frame.now (sym c.in_default.ensures))

pub put_unit-requires : goal.put_unit-requires
put_unit-requires c =
    let a = c.args in encoded_length _ (is_unit a.unit.now a.button a.frame.now (sym c.in_default.ensures))

pub send-sent-requires : goal.send-sent-requires
send-sent-requires c = let a = c.args in has_room a.unit.now a.button a.frame.now (sym c.in_default.ensures)

pub returns : goal.returns
returns c =
    let a = c.args in
    carried_out_lem a.unit.now a.button a.frame.now (sym c.in_default.ensures) _ c.unit_in.ensures _
    c.button_of.ensures _ c.press-after.ensures _ c.put_unit.ensures _ _
    (c.send-sent.ensures.value, c.send-sent.ensures.frame_after) _ c.word_of-2.ensures
