-- `quangevit_locate` meets its contract: there is no room for a place, or the word is by the number of the answer, and
-- the place is written where it is one.
use mathlib.Core.Path.{sym, ◌∙◌}
use native.Mathlib.Omega.{arith}
use Rattle.calls.specs.Types.{Ok, Refused}
use Rattle.calls.proofs.PlaceSteps.{answered}
use Rattle.quangevit.proofs.reports.quangevit_locate.Goals.{in-Ok, in_default}
use Rattle.quangevit.proofs.reports.quangevit_locate.Goals as goal

pub returns : goal.returns
returns c = elim c.match-answer.branch [
  | in-Ok w ↦
      answered _ _ _ _ _ (omega arith) (Ok w.in-Ok.at) (sym w.in-Ok.is ∙ c.found-answer.ensures)
      _ (w.place-is ∙ w.put_place.ensures)
      _ (c.word_of-2.ensures ∙ rw (c.place_refusal.ensures, w.answer-is))
  | in_default w ↦
      answered _ _ _ _ _ (omega arith) (Refused w.in_default.field-0) (sym w.in_default.is ∙ c.found-answer.ensures)
      _ w.place-is
      _ (c.word_of-2.ensures ∙ rw (c.place_refusal.ensures, w.answer-is, w.in_default.is))
]
