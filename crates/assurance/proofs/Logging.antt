-- What is logged and heard, one by one. The journal is written once, at the end of a frame: `replaced j n` of the
-- records so far is what it would be.
use mathlib.Core.Path.{◌≡◌, refl, ap, ◌∙◌}
use mathlib.Core.Logic.{◌⊎◌, inl, inr, ⊎_elim}
use mathlib.Core.List.{List, [], ◌∷◌, ◌++◌, append_assoc}
use Prim.Native.Nat.{ℕ, ◌+◌, ◌-◌, ◌≤◌, ◌<◌}
use native.Mathlib.Nat.{add-zero}
use native.Mathlib.Omega.{arith}
use lib.ListN.{length, set, take, drop, length-append}
use lib.Seq.{get_or-set_other, take_at, drop_at, length-take-le}
use Rattle.common.specs.Part.{replaced}
use Rattle.common.proofs.Part.{replaced_none, replaced_more}
use Rattle.frame.specs.Frame.{read_frame}
use Rattle.journal.specs.Journal.{blank, frame_of, record_at}
use Rattle.rules.specs.Answer.{anew, answered}
use Rattle.rules.specs.Repeats.{told_again}
use Rattle.rules.proofs.Acceptance.{Taken, Passed, accepted_facts}
use Rattle.assurance.specs.Types.{Move, Message, Record, State}
use Rattle.assurance.specs.Run.{new_records}
use Rattle.assurance.specs.Observer.{Observer, note_answer, note_answers}
use Rattle.assurance.specs.WholeList.{Requested}

-- ---- a list with one element more

pub split_last : {A : Type 0} (xs : List A) (a : A) (ys : List A) (b : A) (zs : List A) → xs ++ a ∷ [] ≡ ys ++ b ∷ zs
    → ((ys ≡ xs) × (b ≡ a)) ⊎ ((ws : List A) × (xs ≡ ys ++ b ∷ ws))
split_last [] a [] b zs e = inl (refl, cc)
split_last [] a (y ∷ ys) b zs e =
    let z : [] ≡ ys ++ b ∷ zs = cc in
    absurd (let n = ap length z in omega (arith, length-append ys (b ∷ zs)))
split_last (x ∷ xs) a [] b zs e = let z : x ≡ b = cc in inr (xs, rw z)
split_last (x ∷ xs) a (y ∷ ys) b zs e =
    let z : x ≡ y = cc in
    let w : xs ++ a ∷ [] ≡ ys ++ b ∷ zs = cc in
    ⊎_elim (λ h. inl (rw (z, h.0), h.1)) (λ h. inr (h.0, rw (z, h.1))) (split_last xs a ys b zs w)

-- ---- the journal

-- one record in place n
pub replaced_one : (j : List Record) (n : ℕ) (r : Record) → n < length j → replaced j n (r ∷ []) ≡ set j n r
replaced_one j n r h = replaced_more j n [] r (rw add-zero h) ∙ rw (replaced_none j n, add-zero)

-- the records that were put in from place n on
pub replaced_part : (j : List Record) (n : ℕ) (b : List Record) → n ≤ length j
    → take (length b) (drop n (replaced j n b)) ≡ b
unfolding replaced
replaced_part j n b h =
    let rest = drop (n + length b) j in
    ap (λ (z : List Record). take (length b) (drop n z)) (append_assoc (take n j) b rest)
    ∙ ap (take (length b)) (drop_at (take n j) (b ++ rest) n (length-take-le n j h))
    ∙ take_at b rest (length b) refl

-- those that a new frame adds
pub new_logged : (table : List ℕ) (s : State) (j : List Record) (frame out : List ℕ) → Passed s table j frame out
    → Taken s (read_frame frame)
    → let w = anew table s (read_frame frame) in new_records s (answered s.logged j out w) ≡ w.logged
new_logged table s j frame out p t =
    let w = anew table s (read_frame frame) in
    let facts = accepted_facts table s p.valid_state (read_frame frame) t in
    let size : w.state.logged - s.logged ≡ length w.logged = omega (arith, facts.counted) in
    rw size
    (replaced_part j s.logged w.logged
    (omega (arith, p.long_journal, p.room)))

-- a repeat adds none
pub none_logged : (s : State) (j : List Record) (out : List ℕ) (answers : List Message)
    → new_records s (told_again s j out answers) ≡ []
none_logged s j out answers =
    let none : s.logged - s.logged ≡ 0 = omega arith in
    rw none

-- a later journal: the records below the count n are the same
pub record Later (n : ℕ) (j : List Record) (n' : ℕ) (j' : List Record) : Type 0 where
  pub more : n ≤ n'
  pub same : (i : ℕ) → i < n → record_at j' i ≡ record_at j i

pub later_same : (n : ℕ) (j : List Record) → Later n j n j
later_same n j = record { more = omega arith; same = λ i k. refl }

pub later_still : {n n' n'' : ℕ} {j j' j'' : List Record} → Later n j n' j' → Later n' j' n'' j'' → Later n j n'' j''
later_still a b = record {
  more = omega (arith, a.more, b.more);
  same = λ i k. b.same i (omega (arith, a.more)) ∙ a.same i k;
}

-- one record more
pub later_set : (n : ℕ) (j : List Record) (r : Record) → Later n j (n + 1) (set j n r)
later_set n j r = record {
  more = omega arith;
  same = λ i k. get_or-set_other j n i r blank (λ z. omega arith);
}

pub requested_later : {n n' : ℕ} {j j' : List Record} {m : Move} → Later n j n' j' → Requested n j m → Requested n' j' m
requested_later l q = record {
  granted = q.granted;
  below = omega (arith, q.below, l.more);
  authority = ap frame_of (l.same q.granted q.below) ∙ q.authority;
  requested = q.requested;
  lower = q.lower;
  request = ap frame_of (l.same q.requested (omega (arith, q.below, q.lower))) ∙ q.request;
}

-- ---- the observer

pub heard_more : (o : Observer) (l : List Message) (a : Message)
    → note_answers o (l ++ a ∷ []) ≡ note_answer (note_answers o l) a
unfolding note_answers
heard_more o [] a = refl
heard_more o (b ∷ l) a = heard_more (note_answer o b) l a
