-- What the granting leaves of the work that it begins with: lines, routes and posts are the same, and each answer is
-- paid for by an Asked train. A consistent state stays consistent, and the records of all Asked trains are in the
-- journal where there was room for them.
use mathlib.Core.Path.{◌≡◌, refl, sym, ap, subst, ◌∙◌}
use mathlib.Core.Logic.{◌≢◌, ⊎_elim}
use mathlib.Core.List.{List, [], ◌∷◌, ◌++◌, append_assoc, append-nil, map, map-append, Memᴰ}
use mathlib.Core.List.Memᴰ
use Prim.Native.Nat.{ℕ, ◌+◌, ◌≤◌}
use native.Mathlib.Omega.{arith}
use lib.ListN.{length, length-append, length-set}
use Rattle.frame.specs.RoundTrip.{IsMessage}
use Rattle.journal.specs.Journal.{journal_length, record_of, without_track, Tracked}
use Rattle.journal.proofs.Records.{recorded_untracked}
use Rattle.rules.specs.Types.{Line, Message, Fe, Record, Train, State}
use Rattle.rules.specs.State.{next_of, train_of, line_of, free_track, next_move}
use Rattle.rules.specs.Granting.{Work, granted, settled, granting, grant_record}
use Rattle.rules.proofs.Trains.{changed_each}
use Rattle.rules.proofs.Validity.{Consistent}
use Rattle.rules.proofs.FreeTrack.{free_chosen}
use Rattle.rules.proofs.Changes.{grantable_facts, valid_grant}
use Rattle.rules.proofs.Grants.{asked_count, Turn, grants_keep, granted_place}
use Rattle.rules.proofs.Grants.{granted_fewer, granted_line}

pub record Settles (w v : Work) : Type 0 where
  pub line : line_of v.state ≡ line_of w.state
  pub size : length v.state.fleet ≡ length w.state.fleet
  pub sections : length v.state.possessions ≡ length w.state.possessions
  pub route : (t : ℕ) → (train_of v.state t).route ≡ (train_of w.state t).route
  pub post : (t : ℕ) → (train_of v.state t).at ≡ (train_of w.state t).at
  -- what is sent is added at the end, and logged by its records; each of it is a message
  pub answers : List Message
  pub records : List Record
  pub added : v.sent ≡ w.sent ++ answers
  pub written : v.logged ≡ w.logged ++ records
  pub logs : map without_track records ≡ map record_of answers
  pub tracked : (r : Record) → Memᴰ r records → Tracked (line_of w.state) r
  pub messages : (a : Message) → Memᴰ a answers → IsMessage a
  -- each takes an Asked train
  pub spent : length v.logged + asked_count v.state ≡ length w.logged + asked_count w.state
  pub counted : v.state.logged + asked_count v.state ≡ w.state.logged + asked_count w.state

settles_begin : (w : Work) → Settles w w
settles_begin w = record {
  line = refl;
  size = refl;
  sections = refl;
  route = λ t. refl;
  post = λ t. refl;
  answers = [];
  records = [];
  added = sym (append-nil w.sent);
  written = sym (append-nil w.logged);
  logs = refl;
  tracked = λ r h. absurd (Memᴰ.not-nil h);
  messages = λ a h. absurd (Memᴰ.not-nil h);
  spent = refl;
  counted = refl;
}

authority : (s : State) (t : ℕ) → IsMessage (Fe (next_move s t))
unfolding IsMessage
authority s t = tt

-- the record of an FE has a track of the post that its train runs to
granted_tracked : (s : State) (t : ℕ) → free_track s t (next_of (train_of s t)) ≢ 0
    → Tracked (line_of s) (grant_record s t)
unfolding record_of
granted_tracked s t h = record {
  given = λ e. (omega arith, (free_chosen s t (next_of (train_of s t))).few);
  other = λ z. absurd (z refl);
}

settles_next : (table : List ℕ) (w v : Work) (t : ℕ) → Settles w v → Turn table v t → Settles w (granted v t)
settles_next table w v t k f = record {
  line = granted_line table v t f ∙ k.line;
  size = length-set v.state.fleet t _ ∙ k.size;
  sections = k.sections;
  route = λ u.
      changed_each v.state t x n (λ u (y : Train). y.route ≡ (train_of w.state u).route)
      (granted_place table v t f) (k.route t) u (λ h. k.route u);
  post = λ u.
      changed_each v.state t x n (λ u (y : Train). y.at ≡ (train_of w.state u).at) (granted_place table v t f)
      (k.post t) u (λ h. k.post u);
  answers = k.answers ++ a ∷ [];
  records = k.records ++ r ∷ [];
  added = ap (λ (l : List Message). l ++ a ∷ []) k.added ∙ append_assoc w.sent k.answers (a ∷ []);
  written = ap (λ (l : List Record). l ++ r ∷ []) k.written ∙ append_assoc w.logged k.records (r ∷ []);
  logs =
      map-append without_track k.records (r ∷ [])
      ∙ rw (k.logs, logs_one) (sym (map-append record_of k.answers (a ∷ [])));
  tracked = λ q h.
      ⊎_elim (k.tracked q)
      (λ m. subst (Tracked (line_of w.state)) (sym (Memᴰ.eq_of_singleton m))
      (subst (λ (l : Line). Tracked l r) k.line given))
      (Memᴰ.append_cases k.records h);
  messages = λ b h.
      ⊎_elim (k.messages b) (λ m. subst IsMessage (sym (Memᴰ.eq_of_singleton m)) (authority v.state t))
      (Memᴰ.append_cases k.answers h);
  spent =
      let one = length-append v.logged (r ∷ []) in
      omega (arith, k.spent, granted_fewer table v t f);
  counted = omega (arith, k.counted, granted_fewer table v t f);
}
  where
    x : Train
    x = granting v.state t

    n : ℕ
    n = v.state.logged + 1

    a : Message
    a = Fe (next_move v.state t)

    r : Record
    r = grant_record v.state t

    given : Tracked (line_of v.state) r
    given = granted_tracked v.state t (grantable_facts table v.state t f.can).track

    logs_one : without_track r ∷ [] ≡ record_of a ∷ []
    logs_one = ap (λ (q : Record). q ∷ []) (recorded_untracked a)

pub settled_settles : (table : List ℕ) (w : Work) → Settles w (settled table w)
settled_settles table w = grants_keep table (Settles w) (settles_next table w) w.state.trains w (settles_begin w)

-- ---- validity

pub granted_valid : (table : List ℕ) (w : Work) (t : ℕ) → Consistent w.state → Turn table w t
    → Consistent (granted w t).state
granted_valid table w t d f = valid_grant w.state d t f.known table f.can

pub settled_valid : (table : List ℕ) (w : Work) → Consistent w.state → Consistent (settled table w).state
settled_valid table w = grants_keep table (λ v. Consistent v.state) (granted_valid table) w.state.trains w

-- a consistent state, and room for a record of each Asked train
pub record Roomy (w : Work) : Type 0 where
  pub valid_state : Consistent w.state
  pub room : w.state.logged + asked_count w.state ≤ journal_length

pub roomy_next : (table : List ℕ) (w : Work) (t : ℕ) → Roomy w → Turn table w t → Roomy (granted w t)
roomy_next table w t k f = record {
  valid_state = granted_valid table w t k.valid_state f;
  room = omega (arith, k.room, granted_fewer table w t f);
}

pub settled_roomy : (table : List ℕ) (w : Work) → Roomy w → Roomy (settled table w)
settled_roomy table w = grants_keep table Roomy (roomy_next table) w.state.trains w
