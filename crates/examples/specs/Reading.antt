-- How the examples are read: books are read alone or opened with blank stores, frames are put to the box with these or
-- with others, and the answers are read from the out buffers. The `unfolding` lines say which definitions are worked
-- out where these are evaluated.
use Rattle.std.specs.Prelude.{cond, List, [], ◌∷◌, map, ℕ, eqb, take, replicate}
use Rattle.common.specs.Below.{count_below, all_below, any_below}
use Rattle.common.specs.Bits.{set_below}
use Rattle.common.specs.Check.{refusal, unless_refused}
use Rattle.common.specs.Part.{replaced}
use Rattle.common.specs.Tabulate.{values_from, padded}
use Rattle.common.specs.Update.{update}
use Rattle.line.specs.Route.{next_post, between, post_after}
use Rattle.line.specs.Line.{well_formed}
use Rattle.line.specs.declared.line.Reading.{Reading}
use Rattle.line.specs.Positions.{positions_in_order}
use Rattle.line.specs.Book.{positioned, added, line_in, read_from, read_book, outcome_number}
use Rattle.line.specs.Holding.{standing}
use Rattle.tracks.specs.Tracks.{smallest, largest, track_for}
use Rattle.frame.specs.Frame.{move_of, message_of, read_frame, bytes_of}
use Rattle.journal.specs.Journal.{journal_length, blank, record_of}
use Rattle.completion.specs.Configuration.{code_below, within, fits, arrived, feasible, room_ahead}
use Rattle.completion.specs.Table.{table_length, moves_on, completable_by, completable_in, table_of}
use Rattle.rules.specs.Valid.{consistent, valid}
use Rattle.rules.specs.Granting.{grantable, oldest, grants}
use Rattle.rules.specs.Answer.{out_length, anew, accepted, frames_of, answer}
use Rattle.rules.specs.Opening.{Opening, start_tracks, opening_with, opening}
use Rattle.assurance.specs.Types.{Message, Fa, Fe, Afe, Am, La, Le, Lb, Record, State, Verdict}
use Rattle.assurance.specs.Run.{Input, Ran, run}
use Rattle.assurance.specs.Observer.{Seen, read_frames, answers_of, at_opening, note_answers, observe}

-- ---- messages, by train, from and to

abbrev pub fa : ℕ → ℕ → ℕ → Message
fa t p q = Fa (move_of t p q)

abbrev pub fe : ℕ → ℕ → ℕ → Message
fe t p q = Fe (move_of t p q)

abbrev pub afe : ℕ → ℕ → ℕ → Message
afe t p q = Afe (move_of t p q)

abbrev pub am : ℕ → ℕ → ℕ → Message
am t p q = Am (move_of t p q)

-- ---- and of gangs, by the two posts

abbrev pub la : ℕ → ℕ → Message
la p q = La (move_of 255 p q)

abbrev pub le : ℕ → ℕ → Message
le p q = Le (move_of 255 p q)

abbrev pub lb : ℕ → ℕ → Message
lb p q = Lb (move_of 255 p q)

-- ---- books read alone, and openings

unfoldable pub read_alone : List ℕ → Reading
unfolding read_from refusal unless_refused values_from padded all_below positioned added positions_in_order
read_alone book = read_book book

-- the number by which each is refused; 0 where it is read
unfoldable pub numbers_of : List (List ℕ) → List ℕ
unfolding read_alone
numbers_of books = map (λ b. outcome_number (read_alone b).outcome) books

-- the opening of a book with blank stores
unfoldable pub opened_blank : List ℕ → Opening
unfolding opening_with refusal unless_refused values_from padded count_below all_below any_below set_below positioned
    added
    positions_in_order post_after standing code_below within fits arrived feasible room_ahead moves_on completable_by
    completable_in table_of start_tracks track_for smallest largest
opened_blank book = opening book (replicate table_length 0) (replicate journal_length blank)

-- the number by which a book is refused; 0 where it opens
abbrev pub refusal_of : List ℕ → ℕ
refusal_of book = (opened_blank book).number

-- ---- runs

-- inputs put to a box in the state s, with a table and a journal
unfoldable pub ran_with : State → List ℕ → List Record → List Input → Ran
unfolding run answer refusal unless_refused replaced anew accepted frames_of record_of read_frame message_of bytes_of
    valid
    consistent well_formed between next_post standing count_below all_below any_below grantable oldest grants update
    code_below track_for smallest largest
ran_with s table journal inputs = run table s journal inputs

-- a frame with a blank out buffer of 42 bytes
abbrev pub input : List ℕ → Input
input frame = record { frame = frame; out = replicate out_length 0 }

-- frames put to a box in the state s, with a table and a blank journal
abbrev pub ran_from : State → List ℕ → List (List ℕ) → Ran
ran_from s table frames = ran_with s table (replicate journal_length blank) (map input frames)

-- frames put to the box that a book opened, with the table that the opening filled
abbrev pub ran : List ℕ → List (List ℕ) → Ran
ran book frames = ran_from (opened_blank book).state (opened_blank book).table frames

-- the verdict on each frame
abbrev pub verdicts_of : Ran → List Verdict
verdicts_of r = map (λ e. e.verdict) r.exchanges

-- the answers to each frame, read from its out buffer
unfoldable pub replies_in : Ran → List (List Message)
unfolding read_frames read_frame refusal unless_refused message_of
replies_in r = map (λ e. answers_of e.verdict e.out) r.exchanges

-- the records in the journal
abbrev pub logged_records : Ran → List Record
logged_records r = take r.state.logged r.journal

-- the tracks of some records, but for those that have none
unfoldable pub tracks_among : List Record → List ℕ
tracks_among [] = []
tracks_among (e ∷ l) = let rest = tracks_among l in cond (eqb e.track.0 0) rest (e.track.0 ∷ rest)

-- those that were given in a run, in their order
abbrev pub tracks_given : Ran → List ℕ
tracks_given r = tracks_among (logged_records r)

-- what the observer has of train t
unfoldable pub seen_in : List ℕ → Ran → ℕ → Seen
unfolding padded values_from added observe note_answers update read_frames read_frame refusal unless_refused message_of
seen_in book r t = (observe (at_opening (line_in book)) r.exchanges).train t
