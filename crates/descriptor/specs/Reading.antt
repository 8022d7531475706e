-- What is read, and what comes of it. Which bytes a read of a file gives is in no contract, so there are some. Where a
-- reader says which bytes it has yet to give, as one over memory does, it is these.
use Rattle.std.specs.Prelude.{◌≡◌, List, ℕ, Option}
use Rattle.std.specs.Io.KnownBytes.{Consumes, Appends}
use Rattle.printout.specs.Text.{Text, text_of}
use Rattle.console.specs.Console.{Desk, taken_bytes, finished}
use Rattle.console.specs.Transcript.{transcript_of}

-- some bytes were taken
pub record Takes (before after : Desk) : Type 0 where
  pub bytes : List ℕ
  pub took : after ≡ taken_bytes before bytes

-- some bytes were taken, and then the input ended
pub record Ends (before after : Desk) : Type 0 where
  pub input : List ℕ
  pub ended : after ≡ finished (taken_bytes before input)

-- the transcript of some input
pub record Transcript (t : Text) : Type 0 where
  pub input : List ℕ
  pub is : t ≡ text_of (transcript_of input)

-- ---- of a reader that has yet to give `known` before and `left` after

-- the bytes that were taken are those that it gave
pub record TakesOf (known left : Option (List ℕ)) (before after : Desk) : Type 0 where
  pub part : Takes before after
  pub gave : Consumes known left part.bytes

pub record EndsOf (known left : Option (List ℕ)) (before after : Desk) : Type 0 where
  pub whole : Ends before after
  pub gave : Consumes known left whole.input

-- the transcript is that of the bytes that it gave
pub record TranscriptOf (known left : Option (List ℕ)) (t : Text) : Type 0 where
  pub text : Transcript t
  pub gave : Consumes known left text.input

-- and a writer that held `had` now holds the transcript after it
pub record Served (known left had has : Option (List ℕ)) : Type 0 where
  pub input : List ℕ
  pub gave : Consumes known left input
  pub wrote : Appends had has (transcript_of input)

-- where the writing failed, the input was read all the same
pub record Spent (known left : Option (List ℕ)) : Type 0 where
  pub input : List ℕ
  pub gave : Consumes known left input
