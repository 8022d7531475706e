-- The checks of a frame in the order in which the code makes them: which number is given where one fails.
use mathlib.Core.Path.{◌≡◌, refl, sym, ap, subst, ◌∙◌}
use mathlib.Core.Logic.{◌≢◌}
use mathlib.Core.Bool.{Bool, true, false, not, ◌&&◌}
use mathlib.Core.List.{List, ◌∷◌, ◌++◌}
use Prim.Native.Nat.{ℕ, ◌+◌, ◌≤◌, ◌<◌}
use native.Mathlib.Omega.{arith}
use lib.Dec.{eqb, leb, ltb}
use borrow.Author.Tests.{ltb-true, ltb-false, lt-ltb, le-ltb, eq-eqb, ne_eqb}
use Rattle.common.specs.Check.{Check, check, refusal}
use Rattle.common.proofs.Tests.{by_cases}
use Rattle.common.proofs.Check.{Refuses, none, stop, pass, refusal_is, numbered, passed_by, check_passes, check_fails}
use Rattle.common.proofs.Check.{first_part, second_part, refuses_of, pass_all}
use Rattle.line.specs.Route.{section_of}
use Rattle.line.specs.Refusal.{strange_state, short_store, wrong_end, unknown_train, at_its_end, wrong_post}
use Rattle.line.specs.Refusal.{no_authority, section_taken, no_local_run, twenty_given}
use Rattle.frame.specs.Frame.{read_checks, read_frame}
use Rattle.frame.specs.RoundTrip.{IsMessage}
use Rattle.frame.proofs.Outcome.{read_passed, read_refused}
use Rattle.journal.specs.Journal.{journal_length}
use Rattle.completion.specs.Table.{table_length}
use Rattle.line.specs.declared.refusal.Refusal.TheVariants.{StrangeState, ShortStore, TornFrame, OtherEdition}
use Rattle.line.specs.declared.refusal.Refusal.TheVariants.{UnknownKind, WrongEnd, UnknownTrain, AtItsEnd, WrongPost}
use Rattle.line.specs.declared.refusal.Refusal.TheVariants.{NoAuthority, TornBook, Posts, Tracks, Trains, OffTheLine}
use Rattle.line.specs.declared.refusal.Refusal.TheVariants.{Overfull, NoWayThrough, NotNow, NotAwaited, Sidings}
use Rattle.line.specs.declared.refusal.Refusal.TheVariants.{SectionTaken, NoLocalRun, TwentyGiven, Positions, Speed}
use Rattle.line.specs.declared.refusal.Refusal.TheVariants.{NoPlace}
use Rattle.std.specs.Prelude.{Ok, Err}
use Rattle.checks.specs.Types.{TrainNo, Refusal}
use Rattle.checks.specs.Types.{Move, Message, Fa, Fe, Afe, Am, La, Le, Lb, Refused}
use Rattle.checks.specs.Types.{Train, State}
use Rattle.rules.specs.State.{is_running, is_last, at_end, next_of, train_of, possessed, section_free}
use Rattle.rules.specs.Valid.{most_given, valid}
use Rattle.rules.specs.Answer.{out_length, for_box, knows, move_checks, arrival_checks, gang_byte}
use Rattle.rules.specs.Answer.{section_checks, arrived_again, of_new, content_checks, frame_checks}
use Rattle.rules.proofs.Acceptance.{neighbours}
use Rattle.line.specs.Refusal.{refusal_number}
use Rattle.checks.specs.Messages.{message_checks, named_train}

-- ---- a refusal has its number

pub some_number : (r : Refusal) → 1 ≤ refusal_number r
some_number StrangeState = omega arith
some_number ShortStore = omega arith
some_number TornFrame = omega arith
some_number OtherEdition = omega arith
some_number UnknownKind = omega arith
some_number WrongEnd = omega arith
some_number UnknownTrain = omega arith
some_number AtItsEnd = omega arith
some_number WrongPost = omega arith
some_number NoAuthority = omega arith
some_number TornBook = omega arith
some_number Posts = omega arith
some_number Tracks = omega arith
some_number Trains = omega arith
some_number OffTheLine = omega arith
some_number Overfull = omega arith
some_number NoWayThrough = omega arith
some_number NotNow = omega arith
some_number NotAwaited = omega arith
some_number Sidings = omega arith
some_number SectionTaken = omega arith
some_number NoLocalRun = omega arith
some_number TwentyGiven = omega arith
some_number Positions = omega arith
some_number Speed = omega arith
some_number NoPlace = omega arith

-- ---- the train that is named

module _ (s : State) (t : TrainNo) where
  pub train_found : (x : Train) → Ok x ≡ named_train s t → (t.0 < s.trains) × (x ≡ train_of s t.0)
  train_found x e = by_cases (ltb t.0 s.trains)
      (λ h. let own = rw h at e in (ltb-true t.0 s.trains h, cc))
      (λ h. absurd (let own = rw h at e in cc))

  pub train_unknown : (r : Refusal) → Err r ≡ named_train s t → (r ≡ UnknownTrain) × (s.trains ≤ t.0)
  train_unknown r e = by_cases (ltb t.0 s.trains)
      (λ h. absurd (let own = rw h at e in cc))
      (λ h. let own = rw h at e in (cc, ltb-false t.0 s.trains h))

-- ---- the checks of a move

differ : (b : Bool) → true ≡ not b → b ≡ false
differ true e = e
differ false e = refl

agree : (b : Bool) → false ≡ not b → b ≡ true
agree true e = refl
agree false e = e

module _ (x : Train) (m : Move) where
  pub train_ended : at_end x ≡ true → at_its_end ≡ refusal (move_checks x m)
  train_ended e = sym (refusal_is (stop (rw e)))

  module _ (short : at_end x ≡ false) where
    onward : not (at_end x) ≡ true
    onward = rw short

    pub other_from : true ≡ not (eqb m.from.0 x.at.0) → wrong_post ≡ refusal (move_checks x m)
    other_from h = sym (refusal_is (pass onward (stop (rw (differ _ h)))))

    module _ (from : false ≡ not (eqb m.from.0 x.at.0)) (q : ℕ) (next : q ≡ next_of x) where
      pub other_to : true ≡ not (eqb m.to.0 q) → wrong_post ≡ refusal (move_checks x m)
      other_to h = sym (refusal_is (pass onward (stop (rw (agree _ from, ← next, differ _ h)))))

      pub move_passes : false ≡ not (eqb m.to.0 q) → 0 ≡ refusal (move_checks x m)
      move_passes to = sym (refusal_is (pass onward (pass (rw (agree _ from, ← next, agree _ to)) none)))

-- ---- checks in two parts

-- the first part refuses
module _ (first : List Check) {n : ℕ} (number : n ≡ refusal first) where
  part_refuses : (cs : List Check) → 1 ≤ n → n ≡ refusal (first ++ cs)
  part_refuses cs h = number ∙ sym (first_part first cs (omega (arith, number)))

-- it passes
module _ (first : List Check) (numbers : numbered first ≡ true) (zero : 0 ≡ refusal first) where
  after_part : {cs : List Check} {k : ℕ} → Refuses cs k → k ≡ refusal (first ++ cs)
  after_part r = sym (refusal_is (pass_all first numbers (sym zero) r))

-- ---- the checks of what a train's message says

module _ (s : State) (m : Move) where
  pub no_train_asks : s.trains ≤ m.train.0 → unknown_train ≡ refusal (content_checks s (Fa m))
  no_train_asks h = sym (refusal_is (stop (le-ltb _ _ h)))

  pub no_train_arrives : s.trains ≤ m.train.0 → unknown_train ≡ refusal (content_checks s (Am m))
  no_train_arrives h = sym (refusal_is (stop (le-ltb _ _ h)))

  -- the train is known, and x is its record
  module _ (known : m.train.0 < s.trains) (x : Train) (own : x ≡ train_of s m.train.0) where
    after_train : (f : Train → List Check) {k : ℕ} → Refuses (f x) k
        → k ≡ refusal (check unknown_train (knows s m) ∷ f (train_of s m.train.0))
    after_train f {k} r =
        sym (refusal_is (pass (lt-ltb _ _ known) (subst (λ (y : Train). Refuses (f y) k) own r)))

    -- of an FA 8 and 9, which give n
    pub move_decides : {n : ℕ} → n ≡ refusal (move_checks x m) → n ≡ refusal (content_checks s (Fa m))
    move_decides number = after_train (λ y. move_checks y m) (refuses_of _ (sym number))

    -- of an AM, where it names no finished move, 8 and 9, then 12
    abbrev of_am : Train → List Check
    of_am y = of_new (arrived_again y.last m) (move_checks y m ++ arrival_checks y)

    abbrev finished : Bool
    finished = is_last x.last m.from.0 m.to.0

    pub am_again : finished ≡ true → 0 ≡ refusal (content_checks s (Am m))
    am_again e = after_train of_am (rw e none)

    module _ (other : finished ≡ false) where
      onward_am : {k : ℕ} → Refuses (move_checks x m ++ arrival_checks x) k → k ≡ refusal (content_checks s (Am m))
      onward_am r = after_train of_am (rw other r)

      pub am_refuses : {n : ℕ} → n ≡ refusal (move_checks x m) → 1 ≤ n → n ≡ refusal (content_checks s (Am m))
      am_refuses number h = onward_am (refuses_of _ (sym (part_refuses (move_checks x m) number _ h)))

      module _ (zero : 0 ≡ refusal (move_checks x m)) where
        after_move : {k : ℕ} → Refuses (arrival_checks x) k → k ≡ refusal (content_checks s (Am m))
        after_move r = onward_am (pass_all (move_checks x m) refl (sym zero) r)

        pub no_authority_lem : is_running x.status ≡ false → no_authority ≡ refusal (content_checks s (Am m))
        no_authority_lem e = after_move (stop e)

        pub am_passes : is_running x.status ≡ true → 0 ≡ refusal (content_checks s (Am m))
        am_passes e = after_move (pass e none)

-- ---- the checks of a section

module _ (s : State) (m : Move) where
  pub no_gang : m.train.0 ≢ gang_byte → unknown_train ≡ refusal (section_checks s m)
  no_gang h = sym (refusal_is (stop (ne_eqb _ _ h)))

  module _ (gang : m.train.0 ≡ gang_byte) where
    pub not_next : m.to.0 ≢ m.from.0 + 1 → wrong_post ≡ refusal (section_checks s m)
    not_next h = sym (refusal_is (pass (eq-eqb _ _ gang) (stop (rw (ne_eqb m.to.0 (m.from.0 + 1) h)))))

    module _ (next : m.to.0 ≡ m.from.0 + 1) where
      pub past_line : s.posts ≤ m.to.0 → wrong_post ≡ refusal (section_checks s m)
      past_line h = sym (refusal_is (pass (eq-eqb _ _ gang) (stop (rw (eq-eqb _ _ next, le-ltb _ _ h)))))

      pub section_passes : m.to.0 < s.posts → 0 ≡ refusal (section_checks s m)
      section_passes h =
          sym (refusal_is (pass (eq-eqb _ _ gang) (pass (rw (eq-eqb _ _ next, lt-ltb _ _ h)) none)))

-- ---- the checks of what a gang's message says: those of its section, and then cs

module _ (s : State) (m : Move) where
  pub section_refuses : (cs : List Check) {n : ℕ} → n ≡ refusal (section_checks s m) → 1 ≤ n
      → n ≡ refusal (section_checks s m ++ cs)
  section_refuses cs number = part_refuses (section_checks s m) number cs

  -- 7 and 9 pass, and i is the section
  module _ (zero : 0 ≡ refusal (section_checks s m)) {i : ℕ} (own : i ≡ section_of m.from.0 m.to.0) where
    posts : (m.to.0 ≡ m.from.0 + 1) × (m.from.0 + 1 < s.posts)
    posts = neighbours s m (passed_by (section_checks s m) refl (sym zero) wrong_post)

    lower : m.from.0 ≡ i
    lower = omega (arith, own, posts.0)

    pub section_low : s.posts ≤ 8 → i < 8
    section_low few = omega (arith, own, posts.1)

    after_section : {cs : List Check} {k : ℕ} → Refuses cs k → k ≡ refusal (section_checks s m ++ cs)
    after_section = after_part (section_checks s m) refl zero

    -- of an LA 24 and 26 are left
    pub section_taken_lem : section_free s i ≡ false → section_taken ≡ refusal (content_checks s (La m))
    section_taken_lem e = after_section (stop (rw (lower, e)))

    module _ (free : section_free s i ≡ true) where
      pub twenty_given_lem : most_given ≤ s.given → twenty_given ≡ refusal (content_checks s (La m))
      twenty_given_lem h = after_section (pass (rw (lower, free)) (stop (le-ltb _ _ h)))

      pub lending_passes : s.given < most_given → 0 ≡ refusal (content_checks s (La m))
      lending_passes h = after_section (pass (rw (lower, free)) (pass (lt-ltb _ _ h) none))

    -- of an LB 25 is left
    pub no_local_run_lem : possessed s i ≡ false → no_local_run ≡ refusal (content_checks s (Lb m))
    no_local_run_lem e = after_section (stop (rw (lower, e)))

    pub return_passes : possessed s i ≡ true → 0 ≡ refusal (content_checks s (Lb m))
    return_passes e = after_section (pass (rw (lower, e)) none)

-- ---- all checks of a message

module _ (s : State) (a : Message) where
  pub for_dispatcher : for_box a ≡ true → refusal (content_checks s a) ≡ refusal (message_checks s a)
  for_dispatcher e = sym (check_passes _ _ e)

  pub for_others : for_box a ≡ false → wrong_end ≡ refusal (message_checks s a)
  for_others e = sym (check_fails _ _ e)

-- ---- all checks of a frame

is_message : (a : Message) → ((n : ℕ) → a ≡ Refused n → ⊥) → IsMessage a
unfolding IsMessage
is_message (Fa m) h = tt
is_message (Fe m) h = tt
is_message (Afe m) h = tt
is_message (Am m) h = tt
is_message (La m) h = tt
is_message (Le m) h = tt
is_message (Lb m) h = tt
is_message (Refused n) h = absurd (h n refl)

module _ (s : State) (table records : ℕ) (frame : List ℕ) (room : ℕ) where
  abbrev stores : Bool
  stores = leb table_length table && (leb journal_length records && leb out_length room)

  pub strange : valid s ≡ false → strange_state ≡ refusal (frame_checks s table records frame room)
  strange e = sym (check_fails _ _ e)

  module _ (sound : valid s ≡ true) where
    pub short_stores_lem : stores ≡ false → short_store ≡ refusal (frame_checks s table records frame room)
    short_stores_lem e = sym (check_passes _ _ sound ∙ check_fails _ _ e)

    module _ (long : stores ≡ true) where
      -- what reading refuses
      pub reading_refuses : (n : ℕ) → Refused n ≡ read_frame frame
          → (n ≡ refusal (frame_checks s table records frame room)) × (1 ≤ n)
      reading_refuses n e =
          let r = read_refused frame n (sym e) in
          let some : 0 < refusal (read_checks frame) = rw r.1 r.0 in (
            sym (check_passes _ _ sound ∙ check_passes _ _ long
                ∙ first_part (read_checks frame) (message_checks s (read_frame frame)) some ∙ r.1),
            r.0,
          )

      -- what it does not is refused as the message a that is read
      module _ (a : Message) (is : a ≡ read_frame frame) (reads : (n : ℕ) → a ≡ Refused n → ⊥) where
        pub message_decides : {k : ℕ} → k ≡ refusal (message_checks s a)
            → k ≡ refusal (frame_checks s table records frame room)
        message_decides e =
            e
            ∙ ap (λ (b : Message). refusal (message_checks s b)) is
            ∙ sym (check_passes _ _ sound ∙ check_passes _ _ long
            ∙ second_part (read_checks frame) (message_checks s (read_frame frame)) refl
            (read_passed frame (subst IsMessage is (is_message a reads))))
