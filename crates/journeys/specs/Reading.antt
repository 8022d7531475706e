-- How the journeys are read: a book is opened with blank stores, its units are made, and events come. The `unfolding`
-- lines say which definitions are worked out where these are evaluated.
use Rattle.std.specs.Prelude.{List, [], map, ℕ, get_or, replicate}
use Rattle.common.specs.Below.{count_below, all_below, any_below}
use Rattle.common.specs.Check.{refusal, unless_refused}
use Rattle.common.specs.Part.{replaced}
use Rattle.common.specs.Tabulate.{values_from, padded}
use Rattle.common.specs.Update.{update}
use Rattle.line.specs.Route.{next_post, between}
use Rattle.line.specs.Line.{well_formed}
use Rattle.line.specs.Book.{added, line_in}
use Rattle.line.specs.Holding.{standing, post_holders}
use Rattle.tracks.specs.Tracks.{smallest, largest, track_for}
use Rattle.frame.specs.Frame.{message_of, read_frame, bytes_of}
use Rattle.journal.specs.Journal.{journal_length, blank, record_of}
use Rattle.completion.specs.Configuration.{code_below}
use Rattle.driver.specs.State.{same_phase, numbers_fit, valid_unit}
use Rattle.driver.specs.Making.{make_unit}
use Rattle.driver.specs.Pressing.{carried_out, press_button}
use Rattle.driver.specs.Hearing.{for_move, phase_after, hear_frame}
use Rattle.rules.specs.State.{train_of}
use Rattle.rules.specs.Valid.{consistent, valid}
use Rattle.rules.specs.Granting.{grantable, oldest, grants}
use Rattle.rules.specs.Answer.{out_length, anew, accepted, frames_of, answer}
use Rattle.assurance.specs.Observer.{first_frames}
use Rattle.examples.specs.Reading.{opened_blank}
use Rattle.pair.specs.Types.{Message, Status, Verdict, Phase}
use Rattle.pair.specs.Pair.{Pair, pair_of, PairEvent, to_box, answer_in, stepped, run_pair}
use Rattle.pair.specs.Together.{section_ahead, unit_place}

-- the pair of a book after some events
unfoldable pub pair_after : List ℕ → List PairEvent → Pair
unfolding answer refusal unless_refused replaced anew accepted frames_of record_of read_frame message_of bytes_of valid
    consistent well_formed between next_post standing count_below all_below any_below grantable oldest grants update
    code_below track_for smallest largest values_from padded added same_phase numbers_fit valid_unit make_unit
    carried_out
    press_button for_move phase_after hear_frame first_frames stepped run_pair
pair_after book events =
    run_pair (opened_blank book).table
    (pair_of (line_in book) (opened_blank book).state (replicate journal_length blank))
    events

-- frame n of those sent reaches the box, with a blank out buffer of 42 bytes
abbrev pub at_the_box : ℕ → PairEvent
at_the_box n = to_box n (replicate out_length 0)

-- ---- what is seen of it

-- the frames sent, read
unfoldable pub sent_in : Pair → List Message
unfolding refusal unless_refused message_of read_frame
sent_in p = map read_frame p.sent

-- of some trains the phases and the posts of their units
abbrev pub phases_in : Pair → List ℕ → List Phase
phases_in p trains = map (λ t. (p.units t).phase) trains

abbrev pub unit_posts : Pair → List ℕ → List ℕ
unit_posts p trains = map (λ t. (p.units t).at.0) trains

-- and their statuses and posts at the box
abbrev pub box_statuses : Pair → List ℕ → List Status
box_statuses p trains = map (λ t. (train_of p.box t).status) trains

abbrev pub box_posts : Pair → List ℕ → List ℕ
box_posts p trains = map (λ t. (train_of p.box t).at.0) trains

-- the sections of the units of some trains, and how many units are at post q, or on their way to it or from it
unfoldable pub sections_in : Pair → List ℕ → List ℕ
unfolding next_post
sections_in p trains = map (λ t. section_ahead (p.units t)) trains

unfoldable pub units_at : List ℕ → Pair → ℕ → ℕ
unfolding next_post standing count_below values_from padded added
units_at book p q = post_holders (line_in book).trains (unit_place (line_in book) p) q

-- the verdict of the box on frame n of those sent, and the number by which the unit of train t refuses it, or 0
unfoldable pub verdict_on : List ℕ → Pair → ℕ → Verdict
unfolding answer refusal unless_refused replaced anew accepted frames_of record_of read_frame message_of bytes_of valid
    consistent well_formed between next_post standing count_below all_below any_below grantable oldest grants update
    code_below track_for smallest largest
verdict_on book p n =
    (answer_in (opened_blank book).table p
    (record { frame = get_or p.sent n []; out = replicate out_length 0 })).verdict

unfoldable pub unit_number : Pair → ℕ → ℕ → ℕ
unfolding refusal unless_refused read_frame message_of between next_post same_phase numbers_fit valid_unit for_move
    phase_after
    hear_frame
unit_number p t n = (hear_frame (p.units t) (get_or p.sent n [])).refusal
