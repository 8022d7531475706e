-- 01, "Frames": "Seven bytes: length 00 05, version byte 01, kind, train, from post, to post."
use Rattle.std.specs.Prelude.{cond, ◌&&◌, List, [], ◌∷◌, ℕ, eqb, length, get_or, replicate}
use Rattle.common.specs.Check.{Check, check, refusal, unless_refused}
use Rattle.common.specs.Word.{word}
use Rattle.line.specs.Line.{in_range}
use Rattle.line.specs.Refusal.{torn_frame, other_edition, unknown_kind}
use Rattle.frame.specs.Types.{Move, Message, Fa, Fe, Afe, Am, La, Le, Lb, Refused}

abbrev pub frame_length : ℕ
frame_length = 7

-- "Kinds: kind 1 FA, 2 FE, 3 AFE, 4 AM"
abbrev pub FA : ℕ
FA = 1

abbrev pub FE : ℕ
FE = 2

abbrev pub AFE : ℕ
AFE = 3

abbrev pub AM : ℕ
AM = 4

-- 02, card 4: "Frames of kind 5 (LA, ask), 6 (LE, given) and 7 (LB, back)"
abbrev pub LA : ℕ
LA = 5

abbrev pub LE : ℕ
LE = 6

abbrev pub LB : ℕ
LB = 7

abbrev pub move_of : ℕ → ℕ → ℕ → Move
move_of t p q = record { train = record { 0 = t }; from = record { 0 = p }; to = record { 0 = q } }

-- the move that a message names
abbrev pub move_in : Message → Move
move_in (Fa m) = m
move_in (Fe m) = m
move_in (Afe m) = m
move_in (Am m) = m
move_in (La m) = m
move_in (Le m) = m
move_in (Lb m) = m
move_in (Refused n) = move_of 0 0 0

-- ---- reading

-- "Reading checks 3, 4, 5 in that order."
abbrev pub read_checks : List ℕ → List Check
read_checks f =
    check torn_frame (eqb (length f) frame_length && eqb (word (get_or f 0 0) (get_or f 1 0)) 5)
    ∷ check other_edition (eqb (get_or f 2 0) 1)
    ∷ check unknown_kind (in_range FA LB (get_or f 3 0))
    ∷ []

-- the message of a kind
unfoldable pub message_of : ℕ → Move → Message
message_of k m =
    cond (eqb k FA) (Fa m)
    (cond (eqb k FE) (Fe m)
    (cond (eqb k AFE) (Afe m)
    (cond (eqb k AM) (Am m)
    (cond (eqb k LA) (La m)
    (cond (eqb k LE) (Le m)
    (cond (eqb k LB) (Lb m) (Refused unknown_kind)))))))

-- "A frame reads as one of four messages or as a refusal." 02, card 4: "Kinds 5, 6 and 7 are known now"
unfoldable pub read_frame : List ℕ → Message
read_frame f =
    unless_refused (refusal (read_checks f))
    (message_of (get_or f 3 0) (move_of (get_or f 4 0) (get_or f 5 0) (get_or f 6 0)))
    Refused

-- ---- writing

abbrev pub frame_bytes : ℕ → Move → List ℕ
frame_bytes k m = 0 ∷ 5 ∷ 1 ∷ k ∷ m.train.0 ∷ m.from.0 ∷ m.to.0 ∷ []

-- the seven bytes of a message; zeros for a refusal, which is none
unfoldable pub bytes_of : Message → List ℕ
bytes_of (Fa m) = frame_bytes FA m
bytes_of (Fe m) = frame_bytes FE m
bytes_of (Afe m) = frame_bytes AFE m
bytes_of (Am m) = frame_bytes AM m
bytes_of (La m) = frame_bytes LA m
bytes_of (Le m) = frame_bytes LE m
bytes_of (Lb m) = frame_bytes LB m
bytes_of (Refused n) = replicate frame_length 0
