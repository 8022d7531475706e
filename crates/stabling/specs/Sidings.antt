-- 02, card 1: books of edition 2 and what sidings do.
use Rattle.std.specs.Prelude.{◌≡◌, true, ◌&&◌, List, [], ◌∷◌, map, ℕ, replicate}
use Rattle.line.specs.declared.line.Line.{Line}
use Rattle.line.specs.Line.{no_route}
use Rattle.line.specs.Book.{route, line_in, accepted_book}
use Rattle.line.specs.Holding.{stabled, post_holders}
use Rattle.frame.specs.Frame.{bytes_of}
use Rattle.completion.specs.Configuration.{Configuration, start, moved, feasible, arrived}
use Rattle.rules.specs.State.{located}
use Rattle.assurance.specs.Types.{Message, State, Verdict, Sent, RefusedBy}
use Rattle.assurance.specs.Run.{Ran}
use Rattle.examples.specs.Reading.{fa, fe, afe, am, read_alone, numbers_of, refusal_of, opened_blank, ran, ran_from}
use Rattle.examples.specs.Reading.{verdicts_of, replies_in}
use Rattle.examples.specs.Books.{book_of}

-- ---- the book

-- X in edition 2, with a siding byte
abbrev pub sided_x : ℕ → List ℕ
sided_x sidings = book_of 11 2 3 (1 ∷ 2 ∷ 1 ∷ sidings ∷ []) 2 (0 ∷ 2 ∷ 2 ∷ 0 ∷ [])

pub record SidingByte : Type 0 where
  -- what X says in edition 2, with sidings at posts 0 and 2
  pub read : read_alone (sided_x 5) ≡ accepted_book record {
    posts = 3;
    tracks = 1 ∷ 2 ∷ 1 ∷ replicate 5 0;
    sidings = 5;
    trains = 2;
    routes = route 0 2 ∷ route 2 0 ∷ replicate 4 no_route;
  } (replicate 8 0)
  -- "the byte names a post not in the line": post 3 of a line of three, whatever else it names; all of its posts may be
  -- named, and of eight all eight
  pub named : numbers_of (sided_x 7 ∷ sided_x 8 ∷ sided_x 13 ∷ sided_x 128
      ∷ book_of 16 2 8 (1 ∷ 1 ∷ 1 ∷ 1 ∷ 1 ∷ 1 ∷ 1 ∷ 1 ∷ 255 ∷ []) 2 (0 ∷ 2 ∷ 2 ∷ 0 ∷ []) ∷ [])
      ≡ 0 ∷ 23 ∷ 23 ∷ 23 ∷ 0 ∷ []
  -- "stands directly after 16": 16 before 23, and 23 before 17
  pub order : numbers_of
      (book_of 9 2 3 (5 ∷ 2 ∷ 1 ∷ 8 ∷ []) 1 (0 ∷ 2 ∷ []) ∷ book_of 7 2 3 (1 ∷ 2 ∷ 1 ∷ 8 ∷ []) 0 [] ∷ [])
      ≡ 16 ∷ 23 ∷ []
  -- "Edition 2's length checks count the added byte": thirteen bytes are too few for eight posts, fourteen are not; X
  -- with one byte too few and one too many; X without the byte has no trains
  pub lengths : numbers_of
      ((0 ∷ 11 ∷ 2 ∷ 8 ∷ replicate 9 5) ∷ (0 ∷ 12 ∷ 2 ∷ 8 ∷ replicate 10 5)
      ∷ book_of 10 2 3 (1 ∷ 2 ∷ 1 ∷ 0 ∷ []) 2 (0 ∷ 2 ∷ 2 ∷ [])
      ∷ book_of 12 2 3 (1 ∷ 2 ∷ 1 ∷ 0 ∷ []) 2 (0 ∷ 2 ∷ 2 ∷ 0 ∷ 0 ∷ [])
      ∷ book_of 10 2 3 (1 ∷ 2 ∷ 1 ∷ []) 2 (0 ∷ 2 ∷ 2 ∷ 0 ∷ []) ∷ [])
      ≡ 14 ∷ 16 ∷ 14 ∷ 14 ∷ 17 ∷ []
  -- there is no edition 0 and no edition 4; 4 before 15
  pub editions : numbers_of
      (map (λ v. book_of 11 v 9 (1 ∷ 2 ∷ 1 ∷ 0 ∷ []) 2 (0 ∷ 2 ∷ 2 ∷ 0 ∷ [])) (0 ∷ 1 ∷ 2 ∷ 3 ∷ 4 ∷ []))
      ≡ 4 ∷ 15 ∷ 15 ∷ 15 ∷ 4 ∷ []

-- ---- a move still needs a free track before it

-- two posts of one track, a siding at post 1; train 0 runs from 0 to 1, train 1 from 1 to 0
abbrev pub book_facing : List ℕ
book_facing = book_of 10 2 2 (1 ∷ 1 ∷ 2 ∷ []) 2 (0 ∷ 1 ∷ 1 ∷ 0 ∷ [])

-- train 0 has moved, then train 1 too
abbrev pub first_moved : Configuration
first_moved = moved start 0

abbrev pub both_moved : Configuration
both_moved = moved first_moved 1

pub record StillNeedsATrack : Type 0 where
  -- each train needs the other's only track, so there is no way through, though every placing on this way is lawful
  pub refused : refusal_of book_facing ≡ 20
  pub lawful : let l : Line = line_in book_facing in
      feasible l start && (feasible l first_moved && (feasible l both_moved && arrived l both_moved)) ≡ true
  -- train 0 ends in the siding of post 1, where train 1 stands: it waits until train 1 has reported its arrival
  pub waits : replies_in (ran (book_of 11 2 3 (1 ∷ 1 ∷ 1 ∷ 2 ∷ []) 2 (0 ∷ 1 ∷ 1 ∷ 2 ∷ []))
      (map bytes_of (fa 0 0 1 ∷ fa 1 1 2 ∷ am 1 1 2 ∷ [])))
      ≡ (afe 0 0 1 ∷ []) ∷ (fe 1 1 2 ∷ []) ∷ (fe 0 0 1 ∷ []) ∷ []

-- ---- a train standing at its end there holds no track

-- two posts of two and one tracks; trains 0 and 1 run from 0 to 1
abbrev pub book_terminus : ℕ → List ℕ
book_terminus sidings = book_of 10 2 2 (2 ∷ 1 ∷ sidings ∷ []) 2 (0 ∷ 1 ∷ 0 ∷ 1 ∷ [])

-- three posts, a siding at post 1, which is train 0's end and on train 1's way
abbrev pub book_passing : List ℕ
book_passing = book_of 11 2 3 (2 ∷ 1 ∷ 1 ∷ 2 ∷ []) 2 (0 ∷ 1 ∷ 0 ∷ 2 ∷ [])

-- both run to post 1, one after the other, and are put away there
abbrev pub both_run : Ran
both_run = ran (book_terminus 2) (map bytes_of (fa 0 0 1 ∷ fa 1 0 1 ∷ am 0 0 1 ∷ am 1 0 1 ∷ []))

pub record PutAway : Type 0 where
  -- both end on one track: until its AM train 0 holds both posts, and then none
  pub both : replies_in both_run ≡ (fe 0 0 1 ∷ []) ∷ (afe 1 0 1 ∷ []) ∷ (fe 1 0 1 ∷ []) ∷ [] ∷ []
  pub nobody_there : let s = both_run.state in
      (located s 0 ≡ stabled) × (located s 1 ≡ stabled) × (post_holders s.trains (located s) 1 ≡ 0)
  -- "Edition 1 books have no sidings": without one there is no way through
  pub none : map refusal_of (book_terminus 0 ∷ book_of 9 1 2 (2 ∷ 1 ∷ []) 2 (0 ∷ 1 ∷ 0 ∷ 1 ∷ []) ∷ []) ≡ 20 ∷ 20 ∷ []
  -- only at its end: train 1 holds the track at post 1 on its way, and train 0 waits for it
  pub on_its_way : replies_in
      (ran book_passing (map bytes_of (fa 1 0 1 ∷ am 1 0 1 ∷ fa 0 0 1 ∷ fa 1 1 2 ∷ am 1 1 2 ∷ [])))
      ≡ (fe 1 0 1 ∷ []) ∷ [] ∷ (afe 0 0 1 ∷ []) ∷ (fe 1 1 2 ∷ []) ∷ (fe 0 0 1 ∷ []) ∷ []
  -- "parked trains included": two are parked in the siding of post 1, and train 2 runs there
  pub parked : replies_in
      (ran (book_of 12 2 2 (1 ∷ 1 ∷ 2 ∷ []) 3 (1 ∷ 1 ∷ 1 ∷ 1 ∷ 0 ∷ 1 ∷ [])) (bytes_of (fa 2 0 1) ∷ []))
      ≡ (fe 2 0 1 ∷ []) ∷ []
  pub parked_without : refusal_of (book_of 11 1 2 (1 ∷ 1 ∷ []) 3 (1 ∷ 1 ∷ 1 ∷ 1 ∷ 0 ∷ 1 ∷ [])) ≡ 19

-- ---- the sound state follows this rule

-- the state with another siding byte
abbrev pub with_sidings : State → ℕ → State
with_sidings s n = record {
  posts = s.posts;
  tracks = s.tracks;
  sidings = n;
  trains = s.trains;
  fleet = s.fleet;
  possessions = s.possessions;
  given = s.given;
  logged = s.logged;
}

-- the verdict on a message in the state s of a book, with each of these siding bytes
abbrev pub verdicts_with : List ℕ → State → Message → List ℕ → List (List Verdict)
verdicts_with book s a bytes =
    map (λ n. verdicts_of (ran_from (with_sidings s n) (opened_blank book).table (bytes_of a ∷ []))) bytes

pub record SidingState : Type 0 where
  -- the byte names a post not in the line: strange
  pub off_the_line_lem : verdicts_with (sided_x 0) (opened_blank (sided_x 0)).state (fa 0 0 1) (7 ∷ 8 ∷ 128 ∷ [])
      ≡ (Sent 1 ∷ []) ∷ (RefusedBy 1 ∷ []) ∷ (RefusedBy 1 ∷ []) ∷ []
  -- two trains at an end of one track: sound where it has a siding, else strange
  pub two_at_an_end : verdicts_with (book_terminus 2) both_run.state (fa 0 1 1) (2 ∷ 3 ∷ 1 ∷ 0 ∷ [])
      ≡ (RefusedBy 8 ∷ []) ∷ (RefusedBy 8 ∷ []) ∷ (RefusedBy 1 ∷ []) ∷ (RefusedBy 1 ∷ []) ∷ []
