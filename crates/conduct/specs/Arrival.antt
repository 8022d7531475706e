-- Arrival in whatever order the frames come, told by the observer: which frames are accepted after a list, how many new
-- ones there can be in all, and that every train is at its end where no new one is accepted any more, not counting a
-- gang's LA.
use Rattle.std.specs.Prelude.{◌≡◌, ◌≢◌, Bool, true, false, not, ◌&&◌, List, [], ◌∷◌, ℕ, ◌+◌, ◌*◌, ◌≤◌, ◌<◌, length}
use Rattle.common.specs.Below.{of_bool, sum_below}
use Rattle.line.specs.Route.{next_post}
use Rattle.line.specs.Line.{route_of}
use Rattle.line.specs.Book.{line_in}
use Rattle.frame.specs.Frame.{move_of, read_frame, bytes_of}
use Rattle.completion.specs.Configuration.{distance_of}
use Rattle.rules.specs.Valid.{most_given}
use Rattle.rules.specs.Answer.{out_length, runs_granting}
use Rattle.rules.specs.Refusals.{of_train, of_gang}
use Rattle.rules.specs.Opening.{opening}
use Rattle.assurance.specs.Types.{Line, Move, Message, Fa, Am, La, Lb, Record, Verdict, Sent, RefusedBy}
use Rattle.assurance.specs.Run.{Input, Exchange, Ran, run, answer_after}
use Rattle.assurance.specs.Observer.{Claim, nothing, asked, authority, Observer, at_opening, note, observe, has_asked}
use Rattle.assurance.specs.Observer.{holders_told, next_told, travelled_told, reached_told}
use Rattle.assurance.specs.WholeList.{Unhindered}
use Rattle.conduct.specs.Homecoming.{AllAtEnds}
use Rattle.conduct.specs.LocalRuns.{section_move}
use Rattle.conduct.specs.Repeats.{repeats_told}

-- the frame that train t has before it: the AM of its authority, else the FA for its next section
abbrev pub due_by : Claim → Move → Message
due_by nothing m = Fa m
due_by asked m = Fa m
due_by (authority p q) m = Am m

abbrev pub due : Line → Observer → ℕ → Message
due l o t = due_by (o.train t).claim (move_of t (o.train t).post (next_told l o t))

-- the frames that are accepted, where so many local runs were given
pub data MayCome (l : Line) (o : Observer) (given : ℕ) : List ℕ → Type 0 where
  -- a train that is short of its end and does not wait: its next frame. While any train is short of its end and no gang
  -- has a section there is such a train (`onward` of `Assured`).
  of_train_lem : (u : Unhindered l o) → MayCome l o given (bytes_of (due l o u.train))
  -- 02, card 4: "no train and no gang holds the section and fewer than 20 local runs were given since opening"
  of_gang_lem : (i : ℕ) → i + 1 < l.posts → holders_told l o i ≡ 0 → given < most_given
      → MayCome l o given (bytes_of (La (section_move i)))
  -- a gang that has its section gives it back
  of_return : (i : ℕ) → o.gangs i ≢ 0 → MayCome l o given (bytes_of (Lb (section_move i)))
  -- 02, card 6: the FA of a train that has asked or has its authority, again
  of_asker : (t : ℕ) → t < l.trains → (o.train t).claim ≢ nothing
      → MayCome l o given (bytes_of (Fa (move_of t (o.train t).post (next_told l o t))))
  -- and the AM of the move by which a train past its start came to its post
  of_arrived : (t : ℕ) → t < l.trains → (o.train t).post ≢ (route_of l t).start.0
      → MayCome l o given
      (bytes_of (Am (move_of t (next_post (o.train t).post (route_of l t).start.0) (o.train t).post)))

-- the accepted frames among the exchanges that repeat none and whose messages are of a kind; o is the observer before
-- them
abbrev pub is_new : (Message → Bool) → Observer → List ℕ → Verdict → Bool
is_new kind o frame (RefusedBy n) = false
is_new kind o frame (Sent n) = not (repeats_told o (read_frame frame)) && kind (read_frame frame)

unfoldable pub new_frames : (Message → Bool) → Observer → List Exchange → ℕ
new_frames kind o [] = 0
new_frames kind o (e ∷ es) = of_bool (is_new kind o e.frame e.verdict) + new_frames kind (note o e) es

-- those of a run
abbrev pub new_count : (Message → Bool) → Line → Ran → ℕ
new_count kind l r = new_frames kind (at_opening l) r.exchanges

-- of a gang's two messages LA asks for a section, and LB, which runs the granting, gives it back
abbrev pub asks_section : Message → Bool
asks_section a = of_gang a && not (runs_granting a)

abbrev pub gives_back : Message → Bool
gives_back a = of_gang a && runs_granting a

-- those of train t so far: an AM for each post travelled, an FA for each authority and for one that it waits for
abbrev pub frames_told : Line → Observer → ℕ → ℕ
frames_told l o t = travelled_told l o t + (reached_told l o t + of_bool (has_asked (o.train t).claim))

-- as many as there can be: an FA and an AM for each post of each train's way
abbrev pub most_frames : Line → ℕ
most_frames l = sum_below l.trains (λ t. 2 * distance_of l t)

pub record Arrives (table : List ℕ) (l : Line) (r : Ran) (o : Observer) : Type 0 where
  -- these frames are accepted, and no other
  pub taken : (frame out : List ℕ) → MayCome l o (new_count asks_section l r) frame
      → out_length ≤ length out → (n : ℕ) × ((answer_after table r frame out).verdict ≡ Sent n)
  pub only : (frame out : List ℕ) (n : ℕ) → (answer_after table r frame out).verdict ≡ Sent n
      → MayCome l o (new_count asks_section l r) frame
  -- where no new FA, AM or LB is accepted any more, every train is at its end
  pub ended : ((frame out : List ℕ) → runs_granting (read_frame frame) ≡ true
      → repeats_told o (read_frame frame) ≡ false
      → out_length ≤ length out → (n : ℕ) × ((answer_after table r frame out).verdict ≡ RefusedBy n))
      → AllAtEnds l o
  -- as many new frames of trains were accepted as it takes to bring them where they are, and never more than to their
  -- ends
  pub frames : new_count of_train l r ≡ sum_below l.trains (frames_told l o)
  pub bounded : new_count of_train l r ≤ most_frames l
  -- six trains over seven posts each
  pub few : most_frames l ≤ 84
  -- of the local runs given all came back but those that a gang still has, and they are at most twenty
  pub local : new_count asks_section l r ≡ new_count gives_back l r + sum_below l.posts o.gangs
  pub few_local : new_count asks_section l r ≤ most_given

-- after every list of frames
abbrev pub Arrival : Type 0
Arrival = (book table : List ℕ) (journal : List Record) (inputs : List Input)
    → let o = opening book table journal in
    o.number ≡ 0
    → let l = line_in book in
    let r = run o.table o.state journal inputs in
    Arrives o.table l r (observe (at_opening l) r.exchanges)
