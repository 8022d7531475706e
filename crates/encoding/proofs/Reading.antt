-- What is read of a state's bytes stands there, whether or not they encode a state: head, routes and, where they do,
-- trains and what comes after them.
use mathlib.Core.Path.{◌≡◌, refl, sym, ap, subst, ◌∙◌}
use mathlib.Core.Bool.{true, false}
use mathlib.Core.List.{List}
use Prim.Native.Nat.{ℕ, zero, suc, ◌+◌, ◌<◌}
use native.Mathlib.Nat.{add-zero}
use native.Mathlib.Omega.{arith}
use lib.Dec.{eqb, leb}
use lib.ListN.{get_or-map}
use borrow.Author.Tests.{eqb-true, leb-true}
use Rattle.common.specs.Below.{of_bool}
use Rattle.common.proofs.Tests.{and_left, and_right}
use Rattle.common.proofs.Below.{all_below_lem}
use Rattle.common.proofs.Tabulate.{length_tabulate, at_tabulate}
use Rattle.line.specs.Line.{route_of}
use Rattle.line.specs.Book.{byte_at}
use Rattle.rules.specs.State.{no_train, train_of, line_of}
use Rattle.encoding.specs.Types.{Route, Line, Train, State}
use Rattle.encoding.specs.Parts.{each, head_parts, head_bytes, tracks_byte, head_length}
use Rattle.encoding.specs.LineBytes.{route_ends}
use Rattle.encoding.specs.StateBytes.{status_no, detail, last_no, last_from, last_to, train_length, train_bytes}
use Rattle.encoding.specs.StateBytes.{possession_bytes, train_at, ending_parts, ending_bytes, possessions_at}
use Rattle.encoding.specs.StateBytes.{encodes_status, encodes_last, encodes_train, encodes_state, status_of, last_of}
use Rattle.encoding.specs.StateBytes.{train_in, state_in}
use Rattle.encoding.specs.RoundTrip.{Shaped}
use Rattle.encoding.proofs.Parts.{At, same_place, bytes_at, at_joined, at_each}
use Rattle.encoding.proofs.Statuses.{encoded_trains, encoded_possessions}
use Rattle.encoding.proofs.Fields.{possessions_length}

status_only : (k n : ℕ) → encodes_status k n ≡ true → (status_no (status_of k n) ≡ k) × (detail (status_of k n) ≡ n)
unfolding status_of
status_only zero n h = (refl, sym (eqb-true n 0 h))
status_only (suc zero) n h = (refl, refl)
status_only (suc (suc zero)) n h = (refl, refl)
status_only (suc (suc (suc k))) n h =
    let few = leb-true (suc (suc (suc k))) _ (and_left _ _ h) in absurd (omega arith)

last_only : (k p q : ℕ) → encodes_last k p q ≡ true
    → (last_no (last_of k p q) ≡ k) × (last_from (last_of k p q) ≡ p) × (last_to (last_of k p q) ≡ q)
unfolding last_of
last_only zero p q h = (refl, sym (eqb-true p 0 (and_left (eqb p 0) _ h)), sym (eqb-true q 0 (and_right (eqb p 0) _ h)))
last_only (suc zero) p q h = (refl, refl, refl)
last_only (suc (suc k)) p q h = let few = leb-true (suc (suc k)) _ (and_left _ _ h) in absurd (omega arith)

possession_only : (n : ℕ) → leb n 1 ≡ true → of_bool (eqb n 1) ≡ n
possession_only zero h = refl
possession_only (suc zero) h = refl
possession_only (suc (suc n)) h = let few = leb-true (suc (suc n)) 1 h in absurd (omega arith)

-- a train that is read at i stands there
train_stands : (b : List ℕ) (i : ℕ) → encodes_train b i ≡ true → At b i (train_bytes (train_in b i))
train_stands b i h =
    let k = encodes_status (byte_at b (i + 4)) (byte_at b (i + 5)) in
    let status = status_only (byte_at b (i + 4)) (byte_at b (i + 5)) (and_left k _ h) in
    let last = last_only (byte_at b (i + 6)) (byte_at b (i + 7)) (byte_at b (i + 8)) (and_right k _ h) in
    bytes_at
    (rw add-zero, (refl, (refl, (refl, (status.0, (status.1, (last.0, (last.1, (last.2, tt)))))))))

module _ (b : List ℕ) where
  abbrev read : State
  read = state_in b

  pub read_shaped : Shaped read
  read_shaped = record { eight = length_tabulate 8 _; six = length_tabulate 6 _; seven = length_tabulate 7 _ }

  pub head_stands : At b 0 (head_bytes read.posts read.tracks read.sidings read.trains)
  unfolding head_bytes
  head_stands =
      let eight = read_shaped.eight in
      let tracks : At b tracks_byte read.tracks = record { byte = λ j l. at_tabulate 8 _ j 0 (rw eight at l) } in
      at_joined (head_parts read.posts read.tracks read.sidings read.trains) (
        bytes_at (refl, tt),
        (
          tracks,
          (
            bytes_at (same_place b (omega (arith, eight)), tt),
            (bytes_at (same_place b (omega (arith, eight)), tt), tt),
          ),
        ),
      )

  route_stands : (t : ℕ) → t < 6 → At b (train_at t) (route_ends (train_of read t).route)
  route_stands t h = rw (at_tabulate 6 (λ u. train_in b (train_at u)) t no_train h) (bytes_at (rw add-zero, (refl, tt)))

  pub fleet_stands : encodes_state b ≡ true → {n : ℕ} → n ≡ head_length → At b n (each train_bytes read.fleet)
  fleet_stands h e =
      at_each train_bytes train_length (λ x. refl) read.fleet no_train
      (λ t l.
      let below : t < 6 = rw read_shaped.six at l in
      rw (e, at_tabulate 6 _ t no_train below)
      (train_stands b (train_at t) (all_below_lem 6 _ (encoded_trains b h) t below)))

  pub ending_stands : encodes_state b ≡ true → {n : ℕ} → n ≡ possessions_at → At b n (ending_bytes read)
  unfolding ending_bytes
  ending_stands h {n} e =
      let size = possessions_length read read_shaped.seven in
      let sections : At b n (possession_bytes read.possessions) =
      record {
        byte = λ i l.
            let below : i < 7 = rw size at l in
            get_or-map of_bool read.possessions i false
            ∙ rw (e, at_tabulate 7 _ i false below)
            (possession_only _ (all_below_lem 7 _ (encoded_possessions b h) i below));
      } in
      at_joined (ending_parts read)
      (sections, (bytes_at (same_place b (omega arith), tt), (bytes_at (same_place b (omega arith), tt), tt)))

  -- where the line that is read is that of s, its bytes are there
  module _ (s : State) (same : line_of read ≡ line_of s) where
    pub head_kept : At b 0 (head_bytes s.posts s.tracks s.sidings s.trains)
    head_kept =
        subst (λ (l : Line). At b 0 (head_bytes l.posts l.tracks l.sidings l.trains)) same head_stands

    pub route_kept : (t : ℕ) → t < 6 → At b (train_at t) (route_ends (train_of s t).route)
    route_kept t h =
        let own : (v : State) → route_of (line_of v) t ≡ (train_of v t).route =
        λ v. get_or-map (λ (x : Train). x.route) v.fleet t no_train in
        subst (λ (r : Route). At b (train_at t) (route_ends r))
        (sym (own read) ∙ ap (λ (l : Line). route_of l t) same ∙ own s) (route_stands t h)
