-- A repeat's answers as the code holds them: none, or one message.
use Rattle.std.specs.Prelude.{Bool, true, false, List, [], ◌∷◌, ◌<◌}
use Rattle.std.proofs.Math.Option.{Option, none, some}
use Rattle.accepting.specs.Types.{Message, Fa, Fe, Afe, Am, La, Le, Lb, Refused, Repeat, Not, Silent, Told}

abbrev pub told_by : Repeat → Option (List Message)
told_by Not = none
told_by Silent = some []
told_by (Told a) = some (a ∷ [])

abbrev pub is_repeat : Option (List Message) → Bool
is_repeat none = false
is_repeat (some answers) = true

-- the train that an FA or an AM names has its place in the state
abbrev pub NamesTrain : Message → Type 0
NamesTrain (Fa m) = m.train.0 < 6
NamesTrain (Am m) = m.train.0 < 6
NamesTrain (La m) = Unit {0}
NamesTrain (Lb m) = Unit {0}
NamesTrain (Fe m) = Unit {0}
NamesTrain (Afe m) = Unit {0}
NamesTrain (Le m) = Unit {0}
NamesTrain (Refused n) = Unit {0}
