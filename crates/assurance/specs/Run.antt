-- A run over a list of frames. 01: "The list may be empty, and its frames are any bytes of any length, each with any
-- out buffer. The first frame gets the state, table and journal that an accepted opening left. Each later one gets them
-- as the frame before it, accepted or refused, left them".
use Rattle.std.specs.Prelude.{Bool, List, [], ◌∷◌, ℕ, ◌-◌, take, drop}
use Rattle.common.specs.Below.{count_below}
use Rattle.journal.specs.Journal.{record_at}
use Rattle.rules.specs.Answer.{Answer, answer}
use Rattle.assurance.specs.Types.{Record, State, Verdict}

-- a frame that is put to the box, with the out buffer that is lent for it
pub record Input : Type 0 where
  pub frame : List ℕ
  pub out : List ℕ

-- what the outside sees of it: the frame, the verdict, the out buffer afterwards, and the records that were written for
-- it. The observer hears of the records for its tracks alone.
pub record Exchange : Type 0 where
  pub frame : List ℕ
  pub verdict : Verdict
  pub out : List ℕ
  pub records : List Record

pub record Ran : Type 0 where
  pub state : State
  pub journal : List Record
  pub exchanges : List Exchange

-- how many of a journal's first n records are of a sort, and how many of those of a run
abbrev pub like_among : (Record → Bool) → ℕ → List Record → ℕ
like_among like n journal = count_below n (λ i. like (record_at journal i))

abbrev pub records_like : (Record → Bool) → Ran → ℕ
records_like like r = like_among like r.state.logged r.journal

-- the records of a journal from number m on and below n
abbrev pub records_between : ℕ → ℕ → List Record → List Record
records_between m n journal = take (n - m) (drop m journal)

-- those that an answer adds to what the state counted
abbrev pub new_records : State → Answer → List Record
new_records s a = records_between s.logged a.state.logged a.journal

abbrev pub exchange : State → Input → Answer → Exchange
exchange s i a = record { frame = i.frame; verdict = a.verdict; out = a.out; records = new_records s a }

-- the table is only read
unfoldable pub run : List ℕ → State → List Record → List Input → Ran
run table s journal [] = record { state = s; journal = journal; exchanges = [] }
run table s journal (i ∷ is) =
    let a = answer s table journal i.frame i.out in
    let r = run table a.state a.journal is in
    record { state = r.state; journal = r.journal; exchanges = exchange s i a ∷ r.exchanges }

-- the answer to one frame more, after a run with that table
abbrev pub answer_after : List ℕ → Ran → List ℕ → List ℕ → Answer
answer_after table r frame out = answer r.state table r.journal frame out
