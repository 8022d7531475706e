-- A line as 23 bytes: posts; tracks of posts 0 to 7; sidings; trains; then start and end of trains 0 to 5.
use Rattle.std.specs.Prelude.{List, [], ◌∷◌, ℕ, ◌+◌, ◌*◌}
use Rattle.encoding.specs.Types.{Route, Line}
use Rattle.encoding.specs.Parts.{joined, each, head_bytes, head_length}

abbrev pub route_length : ℕ
route_length = 2

abbrev pub route_ends : Route → List ℕ
route_ends r = r.start.0 ∷ r.end.0 ∷ []

abbrev pub line_parts : Line → List (List ℕ)
line_parts l = head_bytes l.posts l.tracks l.sidings l.trains ∷ each route_ends l.routes ∷ []

unfoldable pub line_bytes : Line → List ℕ
line_bytes l = joined (line_parts l)

-- where the bytes of train t's route begin
abbrev pub route_at : ℕ → ℕ
route_at t = head_length + route_length * t

abbrev pub line_length : ℕ
line_length = head_length + route_length * 6
