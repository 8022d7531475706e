-- The observer (01: tally): "Who asked and who holds is told by a tally, kept from book, frames, answers and refusals,
-- never from state or journal." 02, card 4: "in the section clause a gang is a holder, from its LE written to its LB
-- accepted": a second part of the tally has the gangs of each section.
use Rattle.std.specs.Prelude.{Bool, true, false, cond, ◌&&◌, List, [], ◌∷◌, ℕ, zero, suc, ◌+◌, ◌-◌, eqb, take}
use Rattle.std.specs.Prelude.{drop}
use Rattle.common.specs.Below.{of_bool}
use Rattle.common.specs.Update.{update}
use Rattle.line.specs.Route.{next_post, distance}
use Rattle.line.specs.Line.{route_of}
use Rattle.line.specs.Holding.{Whereabouts, moving, standing, section_holders}
use Rattle.frame.specs.Frame.{read_frame}
use Rattle.completion.specs.Configuration.{Configuration}
use Rattle.assurance.specs.Types.{Line, Message, Fa, Fe, Afe, Am, La, Le, Lb, Refused, Verdict, Sent}
use Rattle.assurance.specs.Types.{RefusedBy}
use Rattle.assurance.specs.Run.{Exchange}

-- "For each train it has a post and one of these: nothing, asked, or an authority for one move."
pub data Claim : Type 0 where
  nothing : Claim
  asked : Claim
  authority : ℕ → ℕ → Claim

pub record Seen : Type 0 where
  pub post : ℕ
  pub claim : Claim

-- of each train what is seen of it, and of each section how many gangs have it: they are counted, so that one that is
-- given twice has two
pub record Observer : Type 0 where
  pub train : ℕ → Seen
  pub gangs : ℕ → ℕ

-- "It begins with every train at its start, with nothing." No section is given.
abbrev pub at_opening : Line → Observer
at_opening l = record { train = λ t. record { post = (route_of l t).start.0; claim = nothing }; gangs = λ i. 0 }

-- train t is seen as x; section i has n gangs
abbrev pub with_seen : Observer → ℕ → Seen → Observer
with_seen o t x = record { train = update o.train t x; gangs = o.gangs }

abbrev pub with_gangs : Observer → ℕ → ℕ → Observer
with_gangs o i n = record { train = o.train; gangs = update o.gangs i n }

abbrev pub is_for : Claim → ℕ → ℕ → Bool
is_for nothing p q = false
is_for asked p q = false
is_for (authority a b) p q = eqb a p && eqb b q

-- an accepted frame: "An accepted FA makes its train asked. An accepted AM for the move its train has an authority for
-- puts the train at that move's to post, with nothing. .. All else changes nothing." A gang is a holder "to its LB
-- accepted".
abbrev pub note_frame : Observer → Message → Observer
note_frame o (Fa m) = with_seen o m.train.0 (record { post = (o.train m.train.0).post; claim = asked })
note_frame o (Am m) =
    cond (is_for (o.train m.train.0).claim m.from.0 m.to.0)
    (with_seen o m.train.0 (record { post = m.to.0; claim = nothing }))
    o
note_frame o (Lb m) = with_gangs o m.from.0 (o.gangs m.from.0 - 1)
note_frame o (La m) = o
note_frame o (Fe m) = o
note_frame o (Afe m) = o
note_frame o (Le m) = o
note_frame o (Refused n) = o

-- an answer: "Then each FE among the answers, in order of writing, gives its train the authority for the move it
-- names." A gang is a holder "from its LE written".
abbrev pub note_answer : Observer → Message → Observer
note_answer o (Fe m) = with_seen o m.train.0
    (record { post = (o.train m.train.0).post; claim = authority m.from.0 m.to.0 })
note_answer o (Le m) = with_gangs o m.from.0 (o.gangs m.from.0 + 1)
note_answer o (Fa m) = o
note_answer o (Afe m) = o
note_answer o (Am m) = o
note_answer o (La m) = o
note_answer o (Lb m) = o
note_answer o (Refused n) = o

unfoldable pub note_answers : Observer → List Message → Observer
note_answers o [] = o
note_answers o (a ∷ l) = note_answers (note_answer o a) l

-- the answers are read from the out buffer: its first n frames
unfoldable pub read_frames : ℕ → List ℕ → List Message
read_frames zero out = []
read_frames (suc n) out = read_frame (take 7 out) ∷ read_frames n (drop 7 out)

-- the answers written for a frame; none for a refused one
abbrev pub answers_of : Verdict → List ℕ → List Message
answers_of (RefusedBy n) out = []
answers_of (Sent n) out = read_frames n out

-- the first n frames of an out buffer as bytes, and those written for a frame
unfoldable pub first_frames : ℕ → List ℕ → List (List ℕ)
first_frames zero out = []
first_frames (suc n) out = take 7 out ∷ first_frames n (drop 7 out)

abbrev pub written_frames : Verdict → List ℕ → List (List ℕ)
written_frames (RefusedBy n) out = []
written_frames (Sent n) out = first_frames n out

-- one exchange: "A refused frame changes nothing in it."
abbrev pub note_by : Observer → List ℕ → Verdict → List ℕ → Observer
note_by o frame (RefusedBy n) out = o
note_by o frame (Sent n) out = note_answers (note_frame o (read_frame frame)) (read_frames n out)

abbrev pub note : Observer → Exchange → Observer
note o e = note_by o e.frame e.verdict e.out

-- a whole list of them
unfoldable pub observe : Observer → List Exchange → Observer
observe o [] = o
observe o (e ∷ es) = observe (note o e) es

-- ---- what is told of a train

-- "Holding goes by the dispatcher's rule: a train with an authority holds as a Running train does, between the posts of
-- its move; any other holds at its post in the tally as a train that is not Running."
abbrev pub located_by : Whereabouts → Claim → Whereabouts
located_by here nothing = here
located_by here asked = here
located_by here (authority p q) = moving p q

abbrev pub located_told : Line → Observer → ℕ → Whereabouts
located_told l o t = located_by (standing l.sidings (route_of l t).end.0 (o.train t).post) (o.train t).claim

-- the holders of section i, trains and gangs
abbrev pub holders_told : Line → Observer → ℕ → ℕ
holders_told l o i = section_holders l.trains (located_told l o) i + o.gangs i

abbrev pub has_authority : Claim → Bool
has_authority nothing = false
has_authority asked = false
has_authority (authority p q) = true

abbrev pub has_asked : Claim → Bool
has_asked nothing = false
has_asked asked = true
has_asked (authority p q) = false

-- its next post, on the way from its post to its end
abbrev pub next_told : Line → Observer → ℕ → ℕ
next_told l o t = next_post (o.train t).post (route_of l t).end.0

-- the posts that it has travelled
abbrev pub travelled_told : Line → Observer → ℕ → ℕ
travelled_told l o t = distance (route_of l t).start.0 (o.train t).post

-- the placing in which every train with an authority has reached its next post
abbrev pub reached_told : Line → Observer → Configuration
reached_told l o t = travelled_told l o t + of_bool (has_authority (o.train t).claim)
