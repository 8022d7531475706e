-- Further examples for 02, card 2: which tracks trains have.
use Rattle.std.specs.Prelude.{◌≡◌, List, [], ◌∷◌, map, ℕ}
use Rattle.common.specs.Below.{any_below}
use Rattle.common.specs.Check.{refusal, unless_refused}
use Rattle.common.specs.Tabulate.{values_from, padded}
use Rattle.common.specs.Update.{update}
use Rattle.line.specs.Route.{post_after}
use Rattle.line.specs.Book.{added, line_in}
use Rattle.line.specs.Holding.{standing}
use Rattle.tracks.specs.Tracks.{smallest, largest, track_for}
use Rattle.frame.specs.Frame.{message_of, read_frame, bytes_of}
use Rattle.rules.specs.declared.state.Status.{Status}
use Rattle.rules.specs.declared.state.Status.TheVariants.{Free, Running}
use Rattle.rules.specs.State.{track_ahead, train_of, with_train}
use Rattle.rules.specs.Opening.{start_tracks}
use Rattle.assurance.specs.Types.{Message, State, Verdict, Sent, RefusedBy}
use Rattle.assurance.specs.Run.{Ran}
use Rattle.assurance.specs.Observer.{read_frames, at_opening, note_answers}
use Rattle.assurance.specs.Tracks.{TracksTold, tracks_at_opening, track_records, observe_tracks}
use Rattle.examples.specs.Reading.{fa, am, opened_blank, ran_from, ran, verdicts_of, tracks_given}
use Rattle.examples.specs.Examples.{book_x, sent_in_the_run}
use Rattle.examples.specs.Books.{book_of}
use Rattle.stabling.specs.Sidings.{book_terminus, both_run}

-- the tracks of the first trains at their posts, and those at the posts they run to
abbrev pub tracks_here : State → List ℕ → List ℕ
tracks_here s trains = map (λ t. (train_of s t).track.0) trains

abbrev pub tracks_ahead : State → List ℕ → List ℕ
tracks_ahead s trains = map (λ t. track_ahead (train_of s t).status) trains

-- ---- at the opening

pub record OpenedTracks : Type 0 where
  -- post 1 has four tracks: an up train, a down train, a parked one and a down train stand there
  pub in_order : tracks_here
      (opened_blank (book_of 14 1 3 (2 ∷ 4 ∷ 2 ∷ []) 4 (1 ∷ 2 ∷ 1 ∷ 0 ∷ 1 ∷ 1 ∷ 1 ∷ 0 ∷ []))).state
      (0 ∷ 1 ∷ 2 ∷ 3 ∷ []) ≡ 1 ∷ 4 ∷ 2 ∷ 3 ∷ []
  -- by post: on X each has its own; places past the trains have none
  pub by_post : tracks_here (opened_blank book_x).state (0 ∷ 1 ∷ 2 ∷ 5 ∷ []) ≡ 1 ∷ 1 ∷ 0 ∷ 0 ∷ []
  -- "one put away in a siding has none": trains 0 and 1 are parked in that of post 1, train 2 runs from there
  pub put_away : tracks_here
      (opened_blank (book_of 12 2 2 (1 ∷ 1 ∷ 2 ∷ []) 3 (1 ∷ 1 ∷ 1 ∷ 1 ∷ 1 ∷ 0 ∷ []))).state (0 ∷ 1 ∷ 2 ∷ [])
      ≡ 0 ∷ 0 ∷ 1 ∷ []

-- ---- in a run

-- three posts of four tracks; trains 0, 1 and 3 run from 0 to 2, train 2 from 2 to 0
abbrev pub book_wide : List ℕ
book_wide = book_of 14 1 3 (4 ∷ 4 ∷ 4 ∷ []) 4 (0 ∷ 2 ∷ 0 ∷ 2 ∷ 2 ∷ 0 ∷ 0 ∷ 2 ∷ [])

abbrev pub wide_run : Ran
wide_run = ran book_wide (map bytes_of
    (fa 0 0 1 ∷ am 0 0 1 ∷ fa 1 0 1 ∷ am 1 0 1 ∷ fa 2 2 1 ∷ am 2 2 1 ∷ fa 0 1 2 ∷ am 0 1 2 ∷ fa 3 0 1 ∷ []))

pub record TracksInTurn : Type 0 where
  -- at post 1 the smallest unheld for up trains, the largest for the down train; track 1 is freed and taken again,
  -- though 2 and 4 are held
  pub given : tracks_given wide_run ≡ 1 ∷ 2 ∷ 4 ∷ 1 ∷ 1 ∷ []
  -- "A train keeps its track while it holds the post": train 3 keeps that of post 0, the third, until its AM
  pub kept : (tracks_here wide_run.state (0 ∷ 1 ∷ 2 ∷ 3 ∷ []) ≡ 1 ∷ 2 ∷ 4 ∷ 3 ∷ [])
      × (tracks_ahead wide_run.state (0 ∷ 1 ∷ 2 ∷ 3 ∷ []) ≡ 0 ∷ 0 ∷ 0 ∷ 1 ∷ [])
  -- both run to the only track of an end with a siding, one after the other, and have none there
  pub put_away : (tracks_given both_run ≡ 1 ∷ 1 ∷ []) × (tracks_here both_run.state (0 ∷ 1 ∷ []) ≡ 0 ∷ 0 ∷ [])

-- ---- as the observer tells it

unfoldable pub told_in : List ℕ → Ran → ℕ → TracksTold
unfolding padded values_from added observe_tracks track_records note_answers update read_frames read_frame refusal
    unless_refused message_of start_tracks track_for smallest largest any_below standing post_after
told_in book r t = let l = line_in book in observe_tracks l (at_opening l) (tracks_at_opening l) r.exchanges t

abbrev pub on_tracks : ℕ → ℕ → TracksTold
on_tracks here ahead = record { here = here; ahead = ahead }

pub record TracksSeen : Type 0 where
  -- both trains of X on their way to post 1, then both at their ends
  pub under_way : let r = ran book_x (map bytes_of (fa 0 0 1 ∷ fa 1 2 1 ∷ [])) in
      (told_in book_x r 0 ≡ on_tracks 1 1) × (told_in book_x r 1 ≡ on_tracks 1 2)
  pub home : let r = ran book_x (map bytes_of sent_in_the_run) in
      (told_in book_x r 0 ≡ on_tracks 1 0) × (told_in book_x r 1 ≡ on_tracks 1 0)
  pub put_away : told_in (book_terminus 2) both_run 0 ≡ on_tracks 0 0

-- ---- sound and strange states

-- the state with another track of train t, or another status
abbrev pub tracked_as : State → ℕ → ℕ → Status → State
tracked_as s t k w =
    let x = train_of s t in
    with_train s t (record { route = x.route; at = x.at; track = record { 0 = k }; status = w; last = x.last })

-- X after its first two frames: both trains run to post 1, on tracks 1 and 2
abbrev pub both_to_post1 : State
both_to_post1 = (ran book_x (map bytes_of (fa 0 0 1 ∷ fa 1 2 1 ∷ []))).state

-- the verdict of X's box on a message, in each of these states
abbrev pub verdicts_in : List ℕ → Message → List State → List (List Verdict)
verdicts_in book a states = map (λ s. verdicts_of (ran_from s (opened_blank book).table (bytes_of a ∷ []))) states

abbrev pub running_to : ℕ → Status
running_to k = Running (record { 0 = k })

pub record TrackStates : Type 0 where
  -- as it is; train 1 to the track of train 0, to none, to the third of two; the two exchanged is as sound
  pub ahead : verdicts_in book_x (am 0 0 1)
      (both_to_post1 ∷ tracked_as both_to_post1 1 1 (running_to 1) ∷ tracked_as both_to_post1 1 1 (running_to 0)
      ∷ tracked_as both_to_post1 1 1 (running_to 3)
      ∷ tracked_as (tracked_as both_to_post1 1 1 (running_to 1)) 0 1 (running_to 2) ∷ [])
      ≡ (Sent 0 ∷ []) ∷ (RefusedBy 1 ∷ []) ∷ (RefusedBy 1 ∷ []) ∷ (RefusedBy 1 ∷ []) ∷ (Sent 0 ∷ []) ∷ []
  -- a standing train on no track, on the second of one, or far above all counts
  pub here : let s = (opened_blank book_x).state in
      verdicts_in book_x (fa 0 0 1) (s ∷ tracked_as s 0 0 Free ∷ tracked_as s 1 2 Free ∷ tracked_as s 1 255 Free ∷ [])
      ≡ (Sent 1 ∷ []) ∷ (RefusedBy 1 ∷ []) ∷ (RefusedBy 1 ∷ []) ∷ (RefusedBy 1 ∷ []) ∷ []
  -- one put away with a track
  pub away : verdicts_in (book_terminus 2) (fa 0 1 1) (both_run.state ∷ tracked_as both_run.state 0 1 Free ∷ [])
      ≡ (RefusedBy 8 ∷ []) ∷ (RefusedBy 1 ∷ []) ∷ []
  -- places past the trains are not read
  pub past : let s = (opened_blank book_x).state in
      verdicts_in book_x (fa 0 0 1) (tracked_as s 2 9 (running_to 9) ∷ []) ≡ (Sent 1 ∷ []) ∷ []
