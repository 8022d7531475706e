-- What the functions that take a frame ask of a state.
use Rattle.std.specs.Prelude.{◌≡◌, true, false, ◌+◌, ◌≤◌, ◌<◌}
use Rattle.frame.specs.Frame.{move_in}
use Rattle.journal.specs.Journal.{journal_length}
use Rattle.accepting.specs.Types.{Move, Message, Fa, Fe, Afe, Am, La, Le, Lb, Refused, Asked, Train, State}
use Rattle.rules.specs.State.{train_of, with_status, arrived_next, with_possession, one_logged}
use Rattle.rules.specs.Valid.{most_given, consistent}
use Rattle.rules.specs.Answer.{most_logged, taken}

-- what the frame a and the new record x of its train must meet for the granting
abbrev pub Ready : State → Message → Train → Type 0
Ready s a x = ((move_in a).train.0 < s.trains) × (s.logged + most_logged ≤ journal_length)
    × (consistent (taken s a x).state ≡ true)

-- what a gang's frame must meet: it names a section by its two posts, the lower one first, and the journal has room
pub record OnSection (s : State) (m : Move) : Type 0 where
  pub upper : m.to.0 ≡ m.from.0 + 1
  pub place : m.from.0 < 7
  pub space : s.logged + most_logged ≤ journal_length

abbrev pub Acceptable : State → Message → Type 0
Acceptable s (Fa m) = Ready s (Fa m) (with_status (train_of s m.train.0) (Asked s.logged))
Acceptable s (Am m) = Ready s (Am m) (arrived_next s.sidings (train_of s m.train.0))
Acceptable s (La m) = OnSection s m × (s.given < most_given)
Acceptable s (Lb m) = OnSection s m
    × (consistent (one_logged (with_possession s m.from.0 false s.given)) ≡ true)
Acceptable s (Fe m) = Unit {0}
Acceptable s (Afe m) = Unit {0}
Acceptable s (Le m) = Unit {0}
Acceptable s (Refused n) = Unit {0}
