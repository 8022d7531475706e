-- Who can be granted, and the granting: "the oldest Asked train (lowest FA number) that can be granted becomes Running
-- and an FE is written; again from the oldest, until none can be granted."
use Rattle.std.specs.Prelude.{Bool, not, cond, ◌&&◌, List, [], ◌∷◌, ◌++◌, ℕ, zero, suc, ltb, eqb}
use Rattle.std.proofs.Math.Option.{Option, none, some}
use Rattle.line.specs.Route.{section_of}
use Rattle.journal.specs.Journal.{record_on}
use Rattle.completion.specs.Configuration.{moved, code_below}
use Rattle.completion.specs.Table.{bit_of}
use Rattle.rules.specs.Types.{Message, Fe, Record, Running, Train, State}
use Rattle.rules.specs.State.{is_asked, asked_as, next_of, train_of, section_free, free_track, reached, next_move}
use Rattle.rules.specs.State.{with_status, with_train, one_logged}

-- "A train can be granted if it is Asked, its next section is unheld, its next post is held by fewer trains than
-- tracks, and the table has the bit for the placing in which every Running train, and this one, has reached its next
-- post." 02, card 2: the test for a free track tells which one; card 4: "A section held by a gang blocks authorities."
unfoldable pub grantable : List ℕ → State → ℕ → Bool
grantable table s t =
    let x = train_of s t in
    is_asked x.status
    && section_free s (section_of x.at.0 (next_of x))
    && not (eqb (free_track s t (next_of x)) 0)
    && bit_of table (code_below s.trains (moved (reached s) t))

-- t, unless u asked before it
abbrev pub older : State → ℕ → Option ℕ → Option ℕ
older s t none = some t
older s t (some u) = cond (ltb (asked_as (train_of s t).status) (asked_as (train_of s u).status)) (some t) (some u)

-- the oldest of the first n trains that can be granted
unfoldable pub oldest : List ℕ → State → ℕ → Option ℕ
oldest table s zero = none
oldest table s (suc n) = let r = oldest table s n in cond (grantable table s n) (older s n r) r

-- ---- the work on one frame: the state, the records logged so far, and the messages sent

pub record Work : Type 0 where
  pub state : State
  pub logged : List Record
  pub sent : List Message

-- "An accepted frame is logged": by r, and s is the state but for the count
abbrev pub begun : State → Record → Work
begun s r = record { state = one_logged s; logged = r ∷ []; sent = [] }

-- "then each answer in order of sending": a is sent, and logged by r
abbrev pub sends : State → Work → Record → Message → Work
sends s w r a = record { state = one_logged s; logged = w.logged ++ r ∷ []; sent = w.sent ++ a ∷ [] }

-- train t "becomes Running", on its way to the track that is free for it, and the record of its FE has that track
abbrev pub granting : State → ℕ → Train
granting s t = with_status (train_of s t) (Running (record { 0 = free_track s t (next_of (train_of s t)) }))

abbrev pub grant_record : State → ℕ → Record
grant_record s t = record_on (free_track s t (next_of (train_of s t))) (Fe (next_move s t))

abbrev pub granted : Work → ℕ → Work
granted w t =
    let s = w.state in
    sends (with_train s t (granting s t)) w (grant_record s t) (Fe (next_move s t))

abbrev pub proceed : Option ℕ → Work → (ℕ → Work) → Work
proceed none w next = w
proceed (some t) w next = next t

-- at most n grants, each of the oldest
unfoldable pub grants : List ℕ → ℕ → Work → Work
grants table zero w = w
grants table (suc n) w = proceed (oldest table w.state w.state.trains) w (λ t. grants table n (granted w t))

-- until none can be granted: each grant leaves one Asked train fewer, so as many as there are trains are enough
abbrev pub settled : List ℕ → Work → Work
settled table w = grants table w.state.trains w
