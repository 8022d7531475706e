-- Which number refuses a frame, number by number: 01, "Declining by number", in the order of "Checks in order: 1, 2, 3,
-- 4, 5, 6, 7, 8 (at its end), 9, then .. 12 for AM, then 13." 02, card 4: "for kinds 5 and 7, after 6, a train byte not
-- 255 is 7 and posts not so named are 9; then for LA 24 .. and 26 ..; for LB 25 ..; then 13." Card 6: an AM of the last
-- finished move gets neither 8 nor 9, and "Refusals 10 and 11 go". Card 7 removes 13. Each is given whatever is wrong
-- with what is checked after it.
use Rattle.std.specs.Prelude.{◌≡◌, ◌≢◌, ◌⊎◌, Bool, true, false, List, ℕ, ◌+◌, ◌≤◌, ◌<◌, length}
use Rattle.line.specs.Refusal.{strange_state, short_store, wrong_end, unknown_train, at_its_end, wrong_post}
use Rattle.line.specs.Refusal.{no_authority, section_taken, no_local_run, twenty_given}
use Rattle.frame.specs.Frame.{move_in, read_frame}
use Rattle.journal.specs.Journal.{journal_length}
use Rattle.completion.specs.Table.{table_length}
use Rattle.rules.specs.Types.{Move, Message, Fa, Fe, Afe, Am, La, Le, Lb, Refused, Record, Train, State}
use Rattle.rules.specs.Types.{RefusedBy}
use Rattle.rules.specs.State.{is_running, is_last, next_of, train_of, possessed, holders_of}
use Rattle.rules.specs.Valid.{most_given, valid}
use Rattle.rules.specs.Answer.{out_length, gang_byte, Answer, answer}

-- a frame, and what is handed in with it
pub record Handed : Type 0 where
  pub state : State
  pub table : List ℕ
  pub journal : List Record
  pub frame : List ℕ
  pub out : List ℕ

abbrev pub answer_to : Handed → Answer
answer_to h = answer h.state h.table h.journal h.frame h.out

abbrev pub RefusedAs : ℕ → Handed → Type 0
RefusedAs n h = (answer_to h).verdict ≡ RefusedBy n

-- 1 and 2 pass
pub record Prepared (h : Handed) : Type 0 where
  pub valid_state : valid h.state ≡ true
  pub long_table : table_length ≤ length h.table
  pub long_journal : journal_length ≤ length h.journal
  pub long_out : out_length ≤ length h.out

-- an FA or an AM, which names a train; an LA or an LB, which names a section
abbrev pub of_train : Message → Bool
of_train (Fa m) = true
of_train (Am m) = true
of_train (Fe m) = false
of_train (Afe m) = false
of_train (La m) = false
of_train (Le m) = false
of_train (Lb m) = false
of_train (Refused n) = false

abbrev pub of_gang : Message → Bool
of_gang (La m) = true
of_gang (Lb m) = true
of_gang (Fa m) = false
of_gang (Fe m) = false
of_gang (Afe m) = false
of_gang (Am m) = false
of_gang (Le m) = false
of_gang (Refused n) = false

-- 3 to 6 pass too: the frame reads as a, which is of a train or of a gang
pub record Reads (whose : Message → Bool) (h : Handed) (a : Message) : Type 0 where
  pub prepared : Prepared h
  pub message : read_frame h.frame ≡ a
  pub kind : whose a ≡ true

-- the record of the train that a names
abbrev pub named : Handed → Message → Train
named h a = train_of h.state (move_in a).train.0

-- a is no AM of its train's last finished move
abbrev pub NotFinished : Handed → Message → Type 0
NotFinished h a = (m : Move) → a ≡ Am m → is_last (named h a).last m.from.0 m.to.0 ≡ false

-- 7 to 9 pass too: a names a train that is short of its end, and its next move
pub record NamesNext (h : Handed) (a : Message) : Type 0 where
  pub reads : Reads of_train h a
  pub known : (move_in a).train.0 < h.state.trains
  pub short : (named h a).at.0 ≢ (named h a).route.end.0
  pub from : (move_in a).from.0 ≡ (named h a).at.0
  pub to : (move_in a).to.0 ≡ next_of (named h a)

-- 7 and 9 pass too: a names a section on the line, the lower post first
pub record NamesSection (h : Handed) (a : Message) : Type 0 where
  pub reads : Reads of_gang h a
  pub gang : (move_in a).train.0 ≡ gang_byte
  pub upper : (move_in a).to.0 ≡ (move_in a).from.0 + 1
  pub on : (move_in a).to.0 < h.state.posts

pub record Refusals : Type 0 where
  -- 1, strange state: "state not sound"
  pub strange : (h : Handed) → valid h.state ≡ false → RefusedAs strange_state h
  -- 2, short store: "table under 32,768 bytes, journal under 176 records, or (frames only) out buffer under 42 bytes";
  -- card 4 has 236 for 176
  pub short : (h : Handed) → valid h.state ≡ true
      → (length h.table < table_length) ⊎ ((length h.journal < journal_length) ⊎ (length h.out < out_length))
      → RefusedAs short_store h
  -- 3, 4, 5: a frame that is not read, by the number of its reading
  pub unread : (h : Handed) (n : ℕ) → Prepared h → read_frame h.frame ≡ Refused n → RefusedAs n h
  -- 6, wrong end: "FE, AFE at the dispatcher"; card 4: "LE at the dispatcher is 6."
  pub wrong_end_lem : (h : Handed) (m : Move) → Prepared h
      → (read_frame h.frame ≡ Fe m) ⊎ ((read_frame h.frame ≡ Afe m) ⊎ (read_frame h.frame ≡ Le m))
      → RefusedAs wrong_end h
  -- 7, unknown train: "train not below T"
  pub unknown : (h : Handed) (a : Message) → Reads of_train h a → h.state.trains ≤ (move_in a).train.0
      → RefusedAs unknown_train h
  -- 8, at its end: "no next post", whatever posts the frame names
  pub ended : (h : Handed) (a : Message) → Reads of_train h a → (move_in a).train.0 < h.state.trains
      → NotFinished h a → (named h a).at.0 ≡ (named h a).route.end.0 → RefusedAs at_its_end h
  -- 9, wrong post: "from or to not present and next post"
  pub other_post : (h : Handed) (a : Message) → Reads of_train h a → (move_in a).train.0 < h.state.trains
      → NotFinished h a → (named h a).at.0 ≢ (named h a).route.end.0
      → ((move_in a).from.0 ≢ (named h a).at.0) ⊎ ((move_in a).to.0 ≢ next_of (named h a)) → RefusedAs wrong_post h
  -- 12, no authority: "AM of a train not Running"
  pub idle : (h : Handed) (m : Move) → NamesNext h (Am m) → is_running (named h (Am m)).status ≡ false
      → RefusedAs no_authority h
  -- card 4, 7: "for kinds 5 and 7, after 6, a train byte not 255 is 7", whatever posts the frame names
  pub unknown_gang : (h : Handed) (a : Message) → Reads of_gang h a → (move_in a).train.0 ≢ gang_byte
      → RefusedAs unknown_train h
  -- 9: "and posts not so named are 9"
  pub other_section : (h : Handed) (a : Message) → Reads of_gang h a → (move_in a).train.0 ≡ gang_byte
      → ((move_in a).to.0 ≢ (move_in a).from.0 + 1) ⊎ (h.state.posts ≤ (move_in a).to.0) → RefusedAs wrong_post h
  -- 24, section taken: by a train or by a gang
  pub section_taken_lem : (h : Handed) (m : Move) → NamesSection h (La m) → holders_of h.state m.from.0 ≢ 0
      → RefusedAs section_taken h
  -- 26, "twenty already given"
  pub twenty : (h : Handed) (m : Move) → NamesSection h (La m) → holders_of h.state m.from.0 ≡ 0
      → most_given ≤ h.state.given → RefusedAs twenty_given h
  -- 25, "no local run there"
  pub not_lent : (h : Handed) (m : Move) → NamesSection h (Lb m) → possessed h.state m.from.0 ≡ false
      → RefusedAs no_local_run h
