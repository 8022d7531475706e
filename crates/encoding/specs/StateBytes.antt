-- A state as 74 bytes: posts; tracks of posts 0 to 7; sidings; trains; then for trains 0 to 5 nine bytes: start, end,
-- present post, track there, status, the number of its FA or the track ahead, and whether there is a last finished
-- move, with its from and its to post; then for sections 0 to 6 one byte, 1 where a gang has the section and 0 where
-- none has; then the number of local runs given; last the journal count.
use Rattle.std.specs.Prelude.{Bool, not, cond, ◌&&◌, ◌||◌, List, [], ◌∷◌, ◌++◌, map, ℕ, ◌+◌, ◌*◌, eqb, leb, length}
use Rattle.common.specs.Below.{of_bool, all_below}
use Rattle.common.specs.Tabulate.{tabulate}
use Rattle.line.specs.Book.{byte_at, route}
use Rattle.encoding.specs.Types.{Status, Free, AskedAs, Running, Last, None, Some, Train, State}
use Rattle.encoding.specs.Parts.{joined, each, head_bytes, posts_byte, tracks_byte, sidings_byte, trains_byte}
use Rattle.encoding.specs.Parts.{head_length}
use Rattle.encoding.specs.LineBytes.{route_length, route_ends}

-- ---- the bytes of a state

-- status (0 Free, 1 Asked, 2 Running)
abbrev pub status_no : Status → ℕ
status_no Free = 0
status_no (AskedAs n) = 1
status_no (Running k) = 2

-- what the status carries: Asked the number of its FA, Running the track at the post it runs to, Free 0
abbrev pub detail : Status → ℕ
detail Free = 0
detail (AskedAs n) = n
detail (Running k) = k.0

-- last finished move (0 none, 1 one), and its two posts, 0 where there is none
abbrev pub last_no : Last → ℕ
last_no None = 0
last_no (Some m) = 1

abbrev pub last_from : Last → ℕ
last_from None = 0
last_from (Some m) = m.0.0

abbrev pub last_to : Last → ℕ
last_to None = 0
last_to (Some m) = m.1.0

-- what a frame can change of a train
abbrev pub standing_bytes : Train → List ℕ
standing_bytes x =
    x.at.0
    ∷ x.track.0
    ∷ status_no x.status
    ∷ detail x.status
    ∷ last_no x.last
    ∷ last_from x.last
    ∷ last_to x.last
    ∷ []

abbrev pub train_bytes : Train → List ℕ
train_bytes x = route_ends x.route ++ standing_bytes x

-- a byte for each section, on the line or not: 1 where a gang has it, else 0
abbrev pub possession_bytes : List Bool → List ℕ
possession_bytes l = map of_bool l

-- what comes after the trains
abbrev pub ending_parts : State → List (List ℕ)
ending_parts s = possession_bytes s.possessions ∷ (s.given ∷ []) ∷ (s.logged ∷ []) ∷ []

unfoldable pub ending_bytes : State → List ℕ
ending_bytes s = joined (ending_parts s)

abbrev pub state_parts : State → List (List ℕ)
state_parts s =
    head_bytes s.posts s.tracks s.sidings s.trains ∷ each train_bytes s.fleet ∷ ending_bytes s ∷ []

unfoldable pub state_bytes : State → List ℕ
state_bytes s = joined (state_parts s)

-- ---- which bytes encode a state, and which state

abbrev pub train_length : ℕ
train_length = route_length + 7

-- where the bytes of train t begin, where those of the sections do, and where the number of local runs given and the
-- journal count are
abbrev pub train_at : ℕ → ℕ
train_at t = head_length + train_length * t

abbrev pub possessions_at : ℕ
possessions_at = head_length + train_length * 6

abbrev pub given_at : ℕ
given_at = possessions_at + 7

abbrev pub logged_at : ℕ
logged_at = given_at + 1

abbrev pub state_length : ℕ
state_length = logged_at + 1

-- a status, and 0 for what it carries where it is Free
abbrev pub encodes_status : ℕ → ℕ → Bool
encodes_status k n = leb k 2 && (not (eqb k 0) || eqb n 0)

-- none or one finished move, and 0 for both posts where there is none
abbrev pub encodes_last : ℕ → ℕ → ℕ → Bool
encodes_last k p q = leb k 1 && (not (eqb k 0) || (eqb p 0 && eqb q 0))

-- both, of the train whose bytes begin at i
abbrev pub encodes_train : List ℕ → ℕ → Bool
encodes_train b i =
    encodes_status (byte_at b (i + 4)) (byte_at b (i + 5))
    && encodes_last (byte_at b (i + 6)) (byte_at b (i + 7)) (byte_at b (i + 8))

abbrev pub encodes_trains : List ℕ → Bool
encodes_trains b = all_below 6 (λ t. encodes_train b (train_at t))

-- 0 or 1 for each section
abbrev pub encodes_possessions : List ℕ → Bool
encodes_possessions b = all_below 7 (λ i. leb (byte_at b (possessions_at + i)) 1)

-- 74 bytes with a status above 2, with another number than 0 after the status 0, with a number above 1 for the last
-- move, with another post than 0 after 0 there, or with a number above 1 for a section encode no state; so does any
-- other length.
unfoldable pub encodes_state : List ℕ → Bool
encodes_state b = eqb (length b) state_length && encodes_trains b && encodes_possessions b

-- the status of a number; what is above 2 is not read
unfoldable pub status_of : ℕ → ℕ → Status
status_of k n = cond (eqb k 0) Free (cond (eqb k 1) (AskedAs n) (Running (record { 0 = n })))

-- the last finished move of a number; what is above 1 is not read
unfoldable pub last_of : ℕ → ℕ → ℕ → Last
last_of k p q = cond (eqb k 0) None (Some (record { 0 = p }, record { 0 = q }))

-- the train whose bytes begin at i
abbrev pub train_in : List ℕ → ℕ → Train
train_in b i = record {
  route = route (byte_at b i) (byte_at b (i + 1));
  at = record { 0 = byte_at b (i + 2) };
  track = record { 0 = byte_at b (i + 3) };
  status = status_of (byte_at b (i + 4)) (byte_at b (i + 5));
  last = last_of (byte_at b (i + 6)) (byte_at b (i + 7)) (byte_at b (i + 8));
}

abbrev pub tracks_in : List ℕ → List ℕ
tracks_in b = tabulate 8 (λ p. byte_at b (tracks_byte + p))

abbrev pub fleet_in : List ℕ → List Train
fleet_in b = tabulate 6 (λ t. train_in b (train_at t))

-- the sections whose byte is 1; what is above 1 is not read
abbrev pub possessions_in : List ℕ → List Bool
possessions_in b = tabulate 7 (λ i. eqb (byte_at b (possessions_at + i)) 1)

-- the state that the bytes encode
abbrev pub state_in : List ℕ → State
state_in b = record {
  posts = byte_at b posts_byte;
  tracks = tracks_in b;
  sidings = byte_at b sidings_byte;
  trains = byte_at b trains_byte;
  fleet = fleet_in b;
  possessions = possessions_in b;
  given = byte_at b given_at;
  logged = byte_at b logged_at;
}
