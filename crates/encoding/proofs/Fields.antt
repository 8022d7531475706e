-- A line and a state part by part: the length, and what stands where, for every train and every section at once.
use mathlib.Core.Path.{◌≡◌, refl, sym, ap, ◌∙◌}
use mathlib.Core.Bool.{false}
use mathlib.Core.List.{List, [], ◌∷◌, append-nil}
use Prim.Native.Nat.{ℕ, ◌+◌, ◌*◌, ◌≤◌, ◌<◌}
use native.Mathlib.Nat.{mul-suc, mul-le-mul_left}
use native.Mathlib.Omega.{arith}
use lib.ListN.{length, get_or, length-append, length-map, get_or-map}
use Rattle.common.specs.Below.{of_bool}
use Rattle.line.specs.Line.{route_of, no_route}
use Rattle.rules.specs.State.{train_of, no_train}
use Rattle.encoding.specs.Types.{Line, State}
use Rattle.encoding.specs.Parts.{joined, each, head_parts, head_bytes, posts_byte, tracks_byte, sidings_byte}
use Rattle.encoding.specs.Parts.{trains_byte, head_length}
use Rattle.encoding.specs.LineBytes.{line_length, route_length, route_ends, route_at, line_bytes}
use Rattle.encoding.specs.StateBytes.{state_length, train_length, standing_bytes, train_bytes, possession_bytes}
use Rattle.encoding.specs.StateBytes.{ending_parts, ending_bytes, train_at, possessions_at, given_at, logged_at}
use Rattle.encoding.specs.StateBytes.{state_bytes}
use Rattle.encoding.specs.RoundTrip.{Shaped}
use Rattle.encoding.proofs.Parts.{At, AllAt, bytes_at, within, joined_at, length_each, each_at}

-- ---- the head

module _ (posts : ℕ) (tracks : List ℕ) (sidings trains : ℕ) (eight : length tracks ≡ 8) where
  abbrev head : List ℕ
  head = head_bytes posts tracks sidings trains

  pub head_length_lem : length head ≡ head_length
  unfolding head_bytes joined
  head_length_lem = simp length-append (omega arith)

  head_parts_lem : AllAt head 0 (head_parts posts tracks sidings trains)
  unfolding head_bytes
  head_parts_lem = joined_at (head_parts posts tracks sidings trains)

  -- in bytes that begin with it
  module _ {b : List ℕ} (a : At b 0 head) where
    pub posts_at_lem : At b posts_byte (posts ∷ [])
    posts_at_lem = within a head_parts_lem.0 (omega (arith, head_length_lem)) refl

    pub tracks_at_lem : At b tracks_byte tracks
    tracks_at_lem = within a head_parts_lem.1.0 (omega (arith, head_length_lem)) refl

    pub sidings_at_lem : At b sidings_byte (sidings ∷ [])
    sidings_at_lem = within a head_parts_lem.1.1.0 (omega (arith, head_length_lem)) (omega arith)

    pub trains_at_lem : At b trains_byte (trains ∷ [])
    trains_at_lem = within a head_parts_lem.1.1.1.0 (omega (arith, head_length_lem)) (omega arith)

-- ---- what comes after the trains of a state

module _ (s : State) (seven : length s.possessions ≡ 7) where
  pub possessions_length : length (possession_bytes s.possessions) ≡ 7
  possessions_length = length-map s.possessions of_bool ∙ seven

  pub ending_length : length (ending_bytes s) ≡ 9
  unfolding ending_bytes joined
  ending_length = simp length-append (omega (arith, possessions_length))

  ending_parts_lem : AllAt (ending_bytes s) 0 (ending_parts s)
  unfolding ending_bytes
  ending_parts_lem = joined_at (ending_parts s)

  -- in bytes that have it in its place
  module _ {b : List ℕ} (a : At b possessions_at (ending_bytes s)) where
    pub possession_at : (i : ℕ) → i < 7 → of_bool (get_or s.possessions i false) ≡ get_or b (possessions_at + i) 0
    possession_at i h =
        let sections = possessions_length in
        let at = within {i = possessions_at} a ending_parts_lem.0 (omega (arith, ending_length)) refl in
        sym (get_or-map of_bool s.possessions i false) ∙ at.byte i (omega arith)

    pub given_at_lem : At b given_at (s.given ∷ [])
    given_at_lem =
        let sections = possessions_length in
        within a ending_parts_lem.1.0 (omega (arith, ending_length)) (omega arith)

    pub logged_at_lem : At b logged_at (s.logged ∷ [])
    logged_at_lem =
        let sections = possessions_length in
        within a ending_parts_lem.1.1.0 (omega (arith, ending_length)) (omega arith)

-- ---- what a line and a state have in common

-- b is a head, six things of w bytes each, and the rest
record Laid {A : Type 0} (f : A → List ℕ) (w : ℕ) (head : List ℕ) (l : List A) (rest : List (List ℕ)) (b : List ℕ)
    : Type 0 where
  pub begins : At b 0 head
  pub things : length (each f l) ≡ w * 6
  pub thing : (t : ℕ) (d : A) → t < 6 → At b (head_length + w * t) (f (get_or l t d))
  pub ends : AllAt b (head_length + w * 6) rest
  pub size : length b ≡ head_length + w * 6 + length (joined rest)

laid : {A : Type 0} (f : A → List ℕ) (w : ℕ) → ((x : A) → length (f x) ≡ w) → (head : List ℕ)
    → length head ≡ head_length → (l : List A) → length l ≡ 6 → (rest : List (List ℕ))
    → Laid f w head l rest (joined (head ∷ each f l ∷ rest))
unfolding joined
laid f w wide head eleven l six rest =
    let at = joined_at (head ∷ each f l ∷ rest) in
    let all : length (each f l) ≡ w * 6 = length_each f w wide l ∙ ap (λ (n : ℕ). w * n) six in
    record {
      begins = at.0;
      things = all;
      thing = λ t d h.
          let fits : w * t + length (f (get_or l t d)) ≤ length (each f l) =
          rw (wide (get_or l t d), all, ← mul-suc) (mul-le-mul_left w h) in
          within at.1.0 (each_at f w wide l t d (omega (arith, six))) fits (omega (arith, eleven));
      ends = rw (eleven, all) at at.1.1;
      size = simp length-append (omega (arith, eleven, all));
    }

-- ---- a line

module _ (l : Line) (eight : length l.tracks ≡ 8) (six : length l.routes ≡ 6) where
  line_laid : Laid route_ends route_length (head_bytes l.posts l.tracks l.sidings l.trains) l.routes []
      (line_bytes l)
  unfolding line_bytes
  line_laid = laid route_ends route_length (λ r. refl) _
      (head_length_lem l.posts l.tracks l.sidings l.trains eight) l.routes six []

  pub line_length_lem : length (line_bytes l) ≡ line_length
  unfolding joined
  line_length_lem = line_laid.size

  pub line_head : At (line_bytes l) 0 (head_bytes l.posts l.tracks l.sidings l.trains)
  line_head = line_laid.begins

  pub at_route : (t : ℕ) → t < 6 → At (line_bytes l) (route_at t) (route_ends (route_of l t))
  at_route t h = line_laid.thing t no_route h

-- ---- a state

module _ (s : State) (shaped : Shaped s) where
  pub state_head_length : length (head_bytes s.posts s.tracks s.sidings s.trains) ≡ head_length
  state_head_length = head_length_lem s.posts s.tracks s.sidings s.trains shaped.eight

  state_laid : Laid train_bytes train_length (head_bytes s.posts s.tracks s.sidings s.trains) s.fleet
      (ending_bytes s ∷ []) (state_bytes s)
  unfolding state_bytes
  state_laid = laid train_bytes train_length (λ x. refl) _ state_head_length s.fleet shaped.six (ending_bytes s ∷ [])

  pub fleet_length : length (each train_bytes s.fleet) ≡ train_length * 6
  fleet_length = state_laid.things

  pub state_length_lem : length (state_bytes s) ≡ state_length
  unfolding joined
  state_length_lem = state_laid.size ∙ simp append-nil (omega (arith, ending_length s shaped.seven))

  pub state_head : At (state_bytes s) 0 (head_bytes s.posts s.tracks s.sidings s.trains)
  state_head = state_laid.begins

  pub at_train : (t : ℕ) → t < 6 → At (state_bytes s) (train_at t) (train_bytes (train_of s t))
  at_train t h = state_laid.thing t no_train h

  -- its route, and what a frame can change of it
  pub at_ends : (t : ℕ) → t < 6 → At (state_bytes s) (train_at t) (route_ends (train_of s t).route)
  at_ends t h = within (at_train t h) (bytes_at {n = 0} (refl, (refl, tt))) (omega arith) (omega arith)

  pub at_standing : (t : ℕ) → t < 6 → At (state_bytes s) (train_at t + route_length) (standing_bytes (train_of s t))
  at_standing t h =
      within (at_train t h)
      (bytes_at {n = route_length} (refl, (refl, (refl, (refl, (refl, (refl, (refl, tt))))))))
      (omega arith) (omega arith)

  pub at_ending : At (state_bytes s) possessions_at (ending_bytes s)
  at_ending = state_laid.ends.0
