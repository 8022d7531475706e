-- What is printed is the paper's transcript: from a begun frame on, then from a begun book on.
use mathlib.Core.Path.{◌≡◌, refl, sym, ap, ◌∙◌}
use mathlib.Core.Logic.{◌≢◌}
use mathlib.Core.Bool.{true, false, cond, true≢false}
use mathlib.Core.List.{List, [], ◌∷◌, ◌++◌, append_assoc, append-nil, foldl-append}
use Prim.Native.Nat.{ℕ, ◌+◌, ◌≤◌, ◌<◌}
use native.Mathlib.Omega.{arith}
use borrow.Author.Tests.{ne_eqb, lt-ltb, le-ltb, lt-leb, le-leb}
use lib.Dec.{eqb, lit<}
use lib.ListN.{length, drop, length-append, drop_of_length-le}
use lib.Seq.{take_all, take_at, drop_at}
use Rattle.common.proofs.Tests.{by_cases, by_order}
use Rattle.line.specs.Claims.{longest}
use Rattle.bounded.proofs.Room.{bytes_more}
use Rattle.journal.specs.Log.{blank_log}
use Rattle.rules.specs.Opening.{Opening, empty_state, opening}
use Rattle.console.specs.Types.{Run, Phase, Book, Refused, Frames, Ended}
use Rattle.console.specs.Piece.{Piece, piece_of, piece_bytes, piece_with, is_book, book_length}
use Rattle.console.specs.Run.{fresh_run, after_frame}
use Rattle.console.specs.Console.{Desk, desk_of, after_opening, opened_with, book_opened, awaits}
use Rattle.console.specs.Console.{taken_in, taken_byte, taken_bytes, after_end, last_frame, ended_desk, finished_in}
use Rattle.console.specs.Console.{finished}
use Rattle.console.specs.Transcript.{book_in, cut_frames, frames_after, blank_table, run_over}
use Rattle.console.specs.Transcript.{transcript_with, transcript_of, printed, Transcribes}
use Rattle.console.proofs.Pieces.{piece_bytes_lem, piece_book, book_two, book_most, book_longer}
use Rattle.console.proofs.Pieces.{book_exactly}
use Rattle.console.proofs.Frames.{no_frames, one_frame, next_frame}

-- ---- where nothing is awaited

taken_in_stopped : (p : Phase) (d : Desk) (b : ℕ) → awaits p ≡ false → taken_in p d b ≡ d
taken_in_stopped Book d b h = absurd (true≢false h)
taken_in_stopped Frames d b h = absurd (true≢false h)
taken_in_stopped (Refused n) d b h = refl
taken_in_stopped Ended d b h = refl

finished_in_stopped : (p : Phase) (d : Desk) → awaits p ≡ false → finished_in p d ≡ d
finished_in_stopped Book d h = absurd (true≢false h)
finished_in_stopped Frames d h = absurd (true≢false h)
finished_in_stopped (Refused n) d h = refl
finished_in_stopped Ended d h = refl

taken_stopped : (d : Desk) (more : List ℕ) → awaits d.console.phase ≡ false → taken_bytes d more ≡ d
unfolding taken_byte
taken_stopped d [] h = refl
taken_stopped d (b ∷ more) h =
    ap (λ (d : Desk). taken_bytes d more) (taken_in_stopped d.console.phase d b h) ∙ taken_stopped d more h

finished_stopped : (d : Desk) → awaits d.console.phase ≡ false → finished d ≡ d
unfolding finished
finished_stopped d h = finished_in_stopped d.console.phase d h

end_stops : (p : Phase) → awaits (after_end p) ≡ false
end_stops Book = refl
end_stops Frames = refl
end_stops (Refused n) = refl
end_stops Ended = refl

finish_stops_in : (p : Phase) (d : Desk) → d.console.phase ≡ p → awaits (finished_in p d).console.phase ≡ false
finish_stops_in Book d e = end_stops (book_opened d).console.phase
finish_stops_in Frames d e = end_stops (last_frame d.console d.table).phase
finish_stops_in (Refused n) d e = ap awaits e
finish_stops_in Ended d e = ap awaits e

finish_stops : (d : Desk) → awaits (finished d).console.phase ≡ false
unfolding finished
finish_stops d = finish_stops_in d.console.phase d refl

-- ---- from a begun frame on

-- the piece p of the next frame has come
abbrev frames_desk : Run → List ℕ → Piece → Desk
frames_desk r table p = desk_of (record { phase = Frames; piece = p; run = r }) table

abbrev ended_with : List ℕ → Run → Desk
ended_with table r = desk_of (record { phase = Ended; piece = piece_of []; run = r }) table

byte_of_frame : (r : Run) (table : List ℕ) (p q : Piece) (b : ℕ) → piece_with p b ≡ q → q.length < 7
    → taken_byte (frames_desk r table p) b ≡ frames_desk r table q
unfolding taken_byte
byte_of_frame r table p q b e h = rw (e, lt-ltb q.length 7 h)

last_of_frame : (r : Run) (table : List ℕ) (p q : Piece) (b : ℕ) → piece_with p b ≡ q → 7 ≤ q.length
    → taken_byte (frames_desk r table p) b ≡ frames_desk (after_frame r table (piece_bytes q)) table (piece_of [])
unfolding taken_byte
last_of_frame r table p q b e h = rw (e, le-ltb q.length 7 h)

end_torn : (r : Run) (table : List ℕ) (p : Piece) → p.length ≢ 0
    → finished (frames_desk r table p) ≡ ended_with table (after_frame r table (piece_bytes p))
unfolding finished
end_torn r table p h = rw (ne_eqb p.length 0 h)

end_of_frames : (r : Run) (table l : List ℕ) → length l < 7
    → finished (frames_desk r table (piece_of l)) ≡ ended_with table (run_over table r (cut_frames (length l) l))
unfolding finished cut_frames
end_of_frames r table [] h = refl
end_of_frames r table (b ∷ l) h =
    end_torn r table (piece_of (b ∷ l)) (λ e. omega arith)
    ∙ ap (λ (f : List ℕ). ended_with table (after_frame r table f)) (piece_bytes_lem (b ∷ l))
    ∙ ap (λ (fs : List (List ℕ)). ended_with table (run_over table r fs)) (sym (one_frame (b ∷ l) (omega arith) h))

-- the frames of l and the input after it
frames_run : (input : List ℕ) (r : Run) (table l : List ℕ) → length l < 7
    → finished (taken_bytes (frames_desk r table (piece_of l)) input)
    ≡ ended_with table (run_over table r (cut_frames (length (l ++ input)) (l ++ input)))
frames_run [] r table l h = rw append-nil (end_of_frames r table l h)
frames_run (b ∷ input) r table l h =
    let next = l ++ (b ∷ []) in
    let more : length next ≡ length l + 1 = length-append l (b ∷ []) in
    let piece = bytes_more longest l b (omega arith) in
    let joined = append_assoc l (b ∷ []) input in
    by_order (length next) 7
    (λ short. ap (λ (d : Desk). finished (taken_bytes d input)) (byte_of_frame r table _ (piece_of next) b piece short)
    ∙ frames_run input r table next short
    ∙ ap (λ (m : List ℕ). ended_with table (run_over table r (cut_frames (length m) m))) joined)
    (λ whole. ap (λ (d : Desk). finished (taken_bytes d input)) (last_of_frame r table _ (piece_of next) b piece whole)
    ∙ ap (λ (f : List ℕ). finished (taken_bytes (frames_desk (after_frame r table f) table (piece_of [])) input))
    (piece_bytes_lem next)
    ∙ frames_run input (after_frame r table next) table [] (lit< tt)
    ∙ ap (λ (fs : List (List ℕ)). ended_with table (run_over table r fs)) (sym (next_frame next input (omega arith)))
    ∙ ap (λ (m : List ℕ). ended_with table (run_over table r (cut_frames (length m) m))) joined)

-- ---- from a begun book on

abbrev book_desk : Run → List ℕ → Piece → Desk
book_desk r table p = desk_of (record { phase = Book; piece = p; run = r }) table

-- what an opening leaves in the end, with these frames after it
abbrev end_of : Run → Opening → List (List ℕ) → Desk
end_of r o frames =
    cond (eqb o.number 0) (ended_with o.table (run_over o.table (fresh_run o.state r.log) frames))
    (desk_of (record { phase = Refused o.number; piece = piece_of []; run = r }) o.table)

after_opening_lem : (r : Run) (o : Opening) (input : List ℕ)
    → finished (taken_bytes (opened_with r o) input) ≡ end_of r o (cut_frames (length input) input)
unfolding after_opening
after_opening_lem r o input =
    by_cases (eqb o.number 0)
    (λ e. rw e (frames_run input (fresh_run o.state r.log) o.table [] (lit< tt)))
    (λ e.
    let d = desk_of (record { phase = Refused o.number; piece = piece_of []; run = r }) o.table in
    rw e (ap finished (taken_stopped d input refl) ∙ finished_stopped d refl))

opened_at_end : (r : Run) (o : Opening) → ended_desk (opened_with r o) ≡ end_of r o []
unfolding after_opening
opened_at_end r o = by_cases (eqb o.number 0) (λ e. rw e) (λ e. rw e)

byte_of_book : (r : Run) (table : List ℕ) (p q : Piece) (b : ℕ) → piece_with p b ≡ q → is_book q ≡ false
    → taken_byte (book_desk r table p) b ≡ book_desk r table q
unfolding taken_byte
byte_of_book r table p q b e h = rw (e, h)

last_of_book : (r : Run) (table : List ℕ) (p q : Piece) (b : ℕ) → piece_with p b ≡ q → is_book q ≡ true
    → taken_byte (book_desk r table p) b ≡ opened_with r (opening (piece_bytes q) table r.log.records)
unfolding taken_byte
last_of_book r table p q b e h = rw (e, h)

-- what an input leaves in the end
abbrev leaves : Run → List ℕ → List ℕ → Desk
leaves r table input = end_of r (opening (book_in input) table r.log.records) (frames_after input)

-- an input that ends within its book, and one that goes on after it
short_book : (r : Run) (table l : List ℕ) → length l < book_length l
    → end_of r (opening l table r.log.records) [] ≡ leaves r table l
short_book r table l h =
    let none : drop (book_length l) l ≡ [] = drop_of_length-le l {i = book_length l} (omega arith) in
    sym (ap (λ (b : List ℕ). end_of r (opening b table r.log.records) (frames_after l))
    (take_all (book_length l) l (omega arith))
    ∙ ap (λ (rest : List ℕ). end_of r (opening l table r.log.records) (cut_frames (length rest) rest)) none
    ∙ ap (end_of r (opening l table r.log.records)) (no_frames 0))

whole_book : (r : Run) (table l input : List ℕ) → length l ≡ book_length l
    → end_of r (opening l table r.log.records) (cut_frames (length input) input) ≡ leaves r table (l ++ input)
whole_book r table l input e =
    let two = book_two l in
    let all : length l ≡ book_length (l ++ input) = e ∙ sym (book_longer l input (omega arith)) in
    sym (ap (λ (b : List ℕ). end_of r (opening b table r.log.records) (frames_after (l ++ input)))
    (take_at l input (book_length (l ++ input)) all)
    ∙ ap (λ (rest : List ℕ). end_of r (opening l table r.log.records) (cut_frames (length rest) rest))
    (drop_at l input (book_length (l ++ input)) all))

book_run : (input : List ℕ) (r : Run) (table l : List ℕ) → length l < book_length l
    → finished (taken_bytes (book_desk r table (piece_of l)) input) ≡ leaves r table (l ++ input)
unfolding finished
book_run [] r table l h =
    opened_at_end r (opening (piece_bytes (piece_of l)) table r.log.records)
    ∙ ap (λ (b : List ℕ). end_of r (opening b table r.log.records) []) (piece_bytes_lem l)
    ∙ short_book r table l h
    ∙ ap (leaves r table) (sym (append-nil l))
book_run (b ∷ input) r table l h =
    let next = l ++ (b ∷ []) in
    let small = book_most l in
    let piece = bytes_more longest l b (omega arith) in
    let joined = append_assoc l (b ∷ []) input in
    by_order (length next) (book_length next)
    (λ short.
    let begun : is_book (piece_of next) ≡ false = piece_book next ∙ lt-leb (book_length next) (length next) short in
    ap (λ (d : Desk). finished (taken_bytes d input)) (byte_of_book r table _ (piece_of next) b piece begun)
    ∙ book_run input r table next short ∙ ap (leaves r table) joined)
    (λ whole.
    let all : is_book (piece_of next) ≡ true = piece_book next ∙ le-leb (book_length next) (length next) whole in
    ap (λ (d : Desk). finished (taken_bytes d input)) (last_of_book r table _ (piece_of next) b piece all)
    ∙ after_opening_lem r (opening (piece_bytes (piece_of next)) table r.log.records) input
    ∙ ap (λ (l : List ℕ). end_of r (opening l table r.log.records) (cut_frames (length input) input))
    (piece_bytes_lem next)
    ∙ whole_book r table next input (book_exactly l b h whole)
    ∙ ap (leaves r table) joined)

-- ---- the claim

printed_of : (o : Opening) (frames : List (List ℕ))
    → printed (end_of (fresh_run empty_state blank_log) o frames).console ≡ transcript_with o frames
printed_of o frames = by_cases (eqb o.number 0) (λ e. rw e) (λ e. rw e)

pub transcribes : Transcribes
unfolding transcript_of
transcribes = record {
  all = λ input.
      ap (λ (d : Desk). printed d.console)
      (book_run input (fresh_run empty_state blank_log) blank_table [] (omega (arith, book_two [])))
      ∙ printed_of (opening (book_in input) blank_table blank_log.records) (frames_after input);
  parts = λ d a b. foldl-append taken_byte d a b;
  over = λ d more. taken_stopped (finished d) more (finish_stops d);
  once = λ d. finished_stopped (finished d) (finish_stops d);
}
