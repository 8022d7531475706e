-- Bytes in parts that are laid end to end: what the layouts have in common.
use Rattle.std.specs.Prelude.{List, [], ◌∷◌, ◌++◌, map, ℕ, ◌+◌}

-- some parts, one after the other
unfoldable pub joined : List (List ℕ) → List ℕ
joined [] = []
joined (p ∷ ps) = p ++ joined ps

-- the bytes of some things, one after the other
abbrev pub each : {A : Type 0} → (A → List ℕ) → List A → List ℕ
each f l = joined (map f l)

-- ---- what a line and a state begin with

-- posts; tracks of posts 0 to 7; sidings, a set of posts; trains. Any byte is such a set: that the posts in it are on
-- the line is for `well_formed` to say.
abbrev pub head_parts : ℕ → List ℕ → ℕ → ℕ → List (List ℕ)
head_parts posts tracks sidings trains = (posts ∷ []) ∷ tracks ∷ (sidings ∷ []) ∷ (trains ∷ []) ∷ []

unfoldable pub head_bytes : ℕ → List ℕ → ℕ → ℕ → List ℕ
head_bytes posts tracks sidings trains = joined (head_parts posts tracks sidings trains)

-- where each of them is, and how many bytes they are
abbrev pub posts_byte : ℕ
posts_byte = 0

abbrev pub tracks_byte : ℕ
tracks_byte = posts_byte + 1

abbrev pub sidings_byte : ℕ
sidings_byte = tracks_byte + 8

abbrev pub trains_byte : ℕ
trains_byte = sidings_byte + 1

abbrev pub head_length : ℕ
head_length = trains_byte + 1
