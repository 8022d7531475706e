-- What a batch of at most seven records has: these, in order. So the journal with the batch appended, and the frames of
-- the answers, are those of the definitions, which have records and messages in lists.
use mathlib.Core.Path.{◌≡◌, refl, sym, ap, subst, ◌∙◌}
use mathlib.Core.List.{List, [], ◌∷◌, ◌++◌, append_assoc, append-nil, map, Memᴰ}
use Prim.Native.Nat.{ℕ, suc, ◌+◌, ◌-◌, ◌≤◌, ◌<◌}
use native.Mathlib.Omega.{arith}
use lib.ListN.{length, take, drop, length-append, length-set}
use Rattle.common.specs.Part.{replaced}
use Rattle.frame.specs.RoundTrip.{IsMessage}
use Rattle.journal.specs.Journal.{record_of, without_track, batch_length, records, empty_batch, with_record, appended}
use Rattle.journal.proofs.Records.{logged_as_sent}
use Rattle.journal.proofs.Batches.{with_room, records_with}
use Rattle.journal.proofs.Appended.{appended_fits}
use Rattle.dispatcher.specs.Types.{Message, Record, Batch}
use Rattle.rules.specs.Answer.{frames_of}
use Rattle.authority.specs.Progress.{add_records, batch_of}
use Rattle.dispatcher.specs.Step.{frames_in, answers_in}

-- the batch b has the records rs, and only these
pub record Batched (b : Batch) (rs : List Record) : Type 0 where
  pub seven : length b.items ≡ batch_length
  pub count : b.n ≡ length rs
  pub same : records b ≡ rs

batched_none : Batched empty_batch []
batched_none = record { seven = refl; count = refl; same = refl }

batched_more : (b : Batch) (rs : List Record) (r : Record) → Batched b rs → length rs < batch_length
    → Batched (with_record b r) (rs ++ r ∷ [])
batched_more b rs r k h =
    let room : b.n < batch_length = omega (arith, k.count) in
    let longer = length-append rs (r ∷ []) in
    record {
      seven = ap (λ (c : Batch). length c.items) (sym (with_room b r room)) ∙ length-set b.items b.n r
          ∙ k.seven;
      count = ap (λ (c : Batch). c.n) (sym (with_room b r room)) ∙ omega (arith, k.count);
      same = records_with b r k.seven room ∙ ap (λ (l : List Record). l ++ r ∷ []) k.same;
    }

batched_all : (l : List Record) (b : Batch) (rs : List Record) → Batched b rs → length rs + length l ≤ batch_length
    → Batched (add_records b l) (rs ++ l)
unfolding add_records
batched_all [] b rs k h = rw append-nil k
batched_all (r ∷ l) b rs k h =
    subst (Batched (add_records (with_record b r) l)) (append_assoc rs (r ∷ []) l)
    (batched_all l (with_record b r) (rs ++ r ∷ []) (batched_more b rs r k (omega arith))
    (omega (arith, length-append rs (r ∷ []))))

pub batched : (l : List Record) → length l ≤ batch_length → Batched (batch_of l) l
batched l h = batched_all l empty_batch [] batched_none (omega arith)

-- ---- the journal

pub batched_appended : (b : Batch) (rs : List Record) → Batched b rs → (journal : List Record) (at : ℕ)
    → length rs ≤ batch_length → at + length rs ≤ length journal
    → appended journal at b ≡ replaced journal at rs
unfolding replaced
batched_appended b rs k journal at few room =
    appended_fits journal at b (omega (arith, k.count)) (omega (arith, k.count))
    ∙ ap (λ (l : List Record). take at journal ++ l ++ drop (at + b.n) journal) k.same
    ∙ ap (λ (n : ℕ). take at journal ++ rs ++ drop (at + n) journal) k.count

-- ---- the answers' frames

tail_taken : {A : Type 0} (items : List A) (m : ℕ) (x : A) (l : List A) → take (suc m) items ≡ x ∷ l
    → take m (drop 1 items) ≡ l
tail_taken [] m x l e = absurd (let z : ◌≡◌ {A = ℕ} 0 1 = cc in omega arith)
tail_taken (y ∷ items) m x l e = cc

-- all but the first
batched_answers : (b : Batch) (r : Record) (rs : List Record) → Batched b (r ∷ rs)
    → answers_in b.items b.n ≡ rs
batched_answers b r rs k =
    let n : b.n - 1 ≡ length rs = omega (arith, k.count) in
    ap (λ (m : ℕ). take m (drop 1 b.items)) n
    ∙ tail_taken b.items (length rs) r rs (ap (λ (m : ℕ). take m b.items) (sym k.count) ∙ k.same)

-- a frame that is sent is the frame of its record
frames_logged : (l : List Message) → ((a : Message) → Memᴰ a l → IsMessage a)
    → frames_in (map record_of l) ≡ frames_of l
unfolding frames_in frames_of
frames_logged [] h = refl
frames_logged (a ∷ l) h = rw (
  logged_as_sent a (h a (Memᴰ.head refl)),
  frames_logged l (λ c m. h c (Memᴰ.tail m)),
)

-- and has no track
frames_untracked : (l : List Record) → frames_in (map without_track l) ≡ frames_in l
unfolding frames_in
frames_untracked [] = refl
frames_untracked (r ∷ l) = rw (frames_untracked l)

-- so the frames in a batch that has the record of a message and those of its answers are the answers'
pub batched_frames : (b : Batch) (rs : List Record) → Batched b rs → (a : Message) (l : List Message)
    → map without_track rs ≡ map record_of (a ∷ l) → ((c : Message) → Memᴰ c l → IsMessage c)
    → frames_in (answers_in b.items b.n) ≡ frames_of l
batched_frames b [] k a l e h = absurd (omega (arith, ap length e))
batched_frames b (r ∷ rs) k a l e h =
    ap frames_in (batched_answers b r rs k)
    ∙ sym (frames_untracked rs)
    ∙ ap (λ (m : List Record). frames_in (drop 1 m)) e
    ∙ frames_logged l h
