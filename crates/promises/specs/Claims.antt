-- Each claim over the definitions that the contracts cite, by name. It is stated in the file that its `use` line names.
use Rattle.line.specs.Claims.{LineBook, Sidings, Positions}
use Rattle.timing.specs.Claims.{RunningTime}
use Rattle.place.specs.Claims.{PlaceReports}
use Rattle.tracks.specs.Tracks.{TrackRule}
use Rattle.frame.specs.RoundTrip.{FramesReadBack}
use Rattle.journal.specs.Journal.{LoggedAsSent, OnlyAppended}
use Rattle.completion.specs.Configuration.{StartAndEnd, WithoutSidings}
use Rattle.completion.specs.Table.{TableRule, UniqueCodes, FirstMove}
use Rattle.driver.specs.Validity.{Validity}
use Rattle.driver.specs.Refusals.{UnitRefusals}
use Rattle.driver.specs.History.{History}
use Rattle.rules.specs.Answer.{NumbersTold}
use Rattle.rules.specs.Refusals.{Refusals}
use Rattle.rules.specs.Repeats.{RepeatsAnswered}
use Rattle.rules.specs.Counts.{Counts}
use Rattle.rules.specs.Opening.{OpenedAlike}
use Rattle.assurance.specs.WholeList.{WholeList}
use Rattle.conduct.specs.OneFrame.{ConsistentKept, RefusalsChangeNothing, AtMostSix, BitInTable}
use Rattle.conduct.specs.OneFrame.{TrackFound, TrackKept, ExactGrant, OldestFirst, RightGrant}
use Rattle.conduct.specs.LocalRuns.{LocalRuns}
use Rattle.conduct.specs.Unread.{Unread, LeftAlone}
use Rattle.conduct.specs.Replies.{Replies}
use Rattle.conduct.specs.Homecoming.{NeverStrange, Homecoming}
use Rattle.conduct.specs.Repeats.{RepeatsTold}
use Rattle.conduct.specs.Waiting.{NoNeedlessWait}
use Rattle.conduct.specs.Arrival.{Arrival}
use Rattle.conduct.specs.Turns.{TurnByTurn}
use Rattle.conduct.specs.RightTrack.{RightTrack}
use Rattle.conduct.specs.Recorded.{JournalTold}
use Rattle.conduct.specs.FewRecords.{JournalNeverFull}
use Rattle.pair.specs.Together.{CabAndDesk, UnitsMade}
use Rattle.pair.specs.Channel.{Channel}
use Rattle.pair.specs.Alone.{EachAlone}
use Rattle.encoding.specs.RoundTrip.{BytesReadBack}
use Rattle.calls.specs.HandedOn.{HandedOn}
use Rattle.calls.specs.CallRuns.{CallRuns}
use Rattle.calls.specs.PlanningCalls.{TimeTold}
use Rattle.calls.specs.PlaceCalls.{PlaceTold}
use Rattle.console.specs.Transcript.{Transcribes}
use Rattle.examples.specs.Examples.{Examples, PrintedRun}
use Rattle.examples.specs.Books.{Books}
use Rattle.cases.specs.Further.{OlderThen, Stores, FullPost, Parked, SixTrains, BothHome, Precedence}
use Rattle.stabling.specs.Sidings.{SidingByte, StillNeedsATrack, PutAway, SidingState}
use Rattle.platforms.specs.Tracks.{OpenedTracks, TracksInTurn, TracksSeen, TrackStates}
use Rattle.possessions.specs.Gangs.{GangOnX, Named, BesideTrains, OtherSection, GrantingAfterLb, TwentyRuns}
use Rattle.possessions.specs.Gangs.{GangStates, GangsSeen}
use Rattle.distances.specs.Positions.{PositionBytes, OpenedWithPositions}
use Rattle.distances.specs.Times.{Times, TimeRefusals, AnsweredAllTheSame}
use Rattle.places.specs.Places.{Places, OtherReports, PlaceRefusals}
use Rattle.repeating.specs.AtTheBox.{RepeatsOnX, DeclinedAgain, LastMoveOnly, HighCounts, GrantsNobody, LastMoves}
use Rattle.repeating.specs.InTheCab.{AgainUpward, AgainElsewhere}
use Rattle.repeating.specs.OverTheRadio.{LostAuthority, LostReport}
use Rattle.counting.specs.Limit.{LastAnswered, StrangeCounts}
use Rattle.counting.specs.AllAtOnce.{FiveGranted, SixGranted}
use Rattle.counting.specs.Shuttle.{FullestRun}
use Rattle.journeys.specs.Journeys.{Lost, Repeated, Reordered, Delayed, Elsewhere, BesideAGang, NoEvent, BothCovered}
use Rattle.journeys.specs.Journeys.{AllHome}

-- any book, question, frame, record, table
pub record Parts : Type 0 where
  -- a book is read as one line or refused, and only the bytes of a line are read as it
  pub book : LineBook
  -- which siding bytes are read; a train at its end in a siding holds no track, and every other train one
  pub sidings : Sidings
  -- which positions are in order, and that only edition 3 has some
  pub positions : Positions
  -- whole seconds and the rest, for each question that is accepted; by which number any other is refused
  pub running_time_lem : RunningTime
  -- the post or the section of each place report, and the nearest of all posts, by the exact number of metres
  pub place_reports : PlaceReports
  -- which track a train gets: the smallest that is not held, or the largest
  pub tracks : TrackRule
  -- demand 2: frames read back as written, and only such frames are read
  pub frames : FramesReadBack
  -- a record has the bytes of its frame; appending touches no other record
  pub records : LoggedAsSent
  pub appended : OnlyAppended
  -- before their first moves trains stand at their starts, after their last at their ends or stabled there
  pub start_and_end : StartAndEnd
  -- on a line without sidings, where trains stand and which placings have a way through is as 01 has it
  pub without_sidings : WithoutSidings
  -- the table's bit is set exactly for configurations with a way through; from each of these there is a first move
  pub table : TableRule
  pub codes : UniqueCodes
  pub first_move : FirstMove
  -- positions and edition do not matter to the opening
  pub opened_alike : OpenedAlike

-- the unit: any press and any frame, and any list of them
pub record Cab : Type 0 where
  -- a unit that is made is valid and stays so; which number refuses a press or a frame; LA, LE and LB change nothing
  pub validity : Validity
  pub numbers : UnitRefusals
  -- it asks once for each move, goes by its authority, moves one post at a time, and repeats what may be lost
  pub history : History

-- the box: any frame, in any valid state, with any table
pub record OneFrame : Type 0 where
  -- which number refuses a frame, and that a refusal changes nothing
  pub numbers : Refusals
  pub told : NumbersTold
  pub refusals : RefusalsChangeNothing
  -- a valid state stays so but for its count; which counts are strange, and that 13 is gone
  pub valid : ConsistentKept
  pub counts : Counts
  -- what is past the posts, trains and sections is neither read nor written
  pub unread : Unread
  pub left_alone : LeftAlone
  -- a track is found exactly where fewer trains hold the post than it has tracks; a train keeps it while it holds the
  -- post
  pub track : TrackFound
  pub track_kept : TrackKept
  -- demand 2: a train is granted exactly if it can be, the oldest first
  pub exact : ExactGrant
  pub oldest : OldestFirst
  pub right : RightGrant
  pub bit : BitInTable
  -- a gang gets a section exactly if it may, blocks it for trains, and gives it back
  pub local_runs_lem : LocalRuns
  -- what is sent
  pub at_most_six : AtMostSix
  pub replies : Replies
  -- what a repeated frame is answered by, and that nothing else comes of it
  pub repeats : RepeatsAnswered

-- the box: every book that it opens and every list of frames
pub record WholeLists : Type 0 where
  -- demand 3
  pub whole_list : WholeList
  -- no frame of a run is refused by 1
  pub never_strange : NeverStrange
  -- the trains can all get home, and any train that runs can arrive
  pub homecoming : Homecoming
  pub arrival : Arrival
  -- a repeat leaves state, journal and tally as they were
  pub repeats : RepeatsTold
  -- nobody waits who could go, and each gets its turn
  pub no_needless_wait : NoNeedlessWait
  pub turns : TurnByTurn
  -- each authority's record has the track that the rule gives
  pub right_track : RightTrack
  -- the journal is what was heard and sent, but for repeats, with the tracks
  pub journal : JournalTold
  -- it cannot fill up: at most four records for each of at most 42 moves, and sixty of gangs
  pub few_records : JournalNeverFull

-- box and units together: every book, and every list of presses, calls of gangs and deliveries
pub record BothEnds : Type 0 where
  -- each unit that has an authority has its Running train, no two have one section, and 12 never comes
  pub together : CabAndDesk
  pub units : UnitsMade
  -- the channel delivers what was sent and nothing else, to either end, at any later time and any number of times
  pub channel : Channel
  -- each end does what it does alone, so that demand 3 and a unit's history hold in the pair
  pub alone : EachAlone

-- the ends in use: calls from C, and the desk's program
pub record InUse : Type 0 where
  pub bytes : BytesReadBack
  pub handed_on : HandedOn
  pub runs : CallRuns
  pub time_told : TimeTold
  pub place_told : PlaceTold
  pub transcript : Transcribes

-- the paper's examples A to L and its printed run, and further ones: what the definitions say, evaluated
pub record Evaluated : Type 0 where
  pub a_to_l : Examples
  pub printed_run : PrintedRun
  pub books : Books
  pub older_then : OlderThen
  pub stores : Stores
  pub full_post : FullPost
  pub parked : Parked
  pub six_trains : SixTrains
  pub both_home : BothHome
  pub precedence : Precedence
  pub siding_byte : SidingByte
  pub still_needs_a_track : StillNeedsATrack
  pub put_away : PutAway
  pub siding_state : SidingState
  pub opened_tracks : OpenedTracks
  pub tracks_in_turn : TracksInTurn
  pub tracks_seen : TracksSeen
  pub track_states : TrackStates
  pub gang_on_x_lem : GangOnX
  pub named : Named
  pub beside_trains : BesideTrains
  pub other_section : OtherSection
  pub granting_after_lb : GrantingAfterLb
  pub twenty_runs : TwentyRuns
  pub gang_states : GangStates
  pub gangs_seen : GangsSeen
  pub position_bytes_lem : PositionBytes
  pub opened_with_positions : OpenedWithPositions
  pub times : Times
  pub time_refusals : TimeRefusals
  pub answered_all_the_same : AnsweredAllTheSame
  pub places : Places
  pub other_reports : OtherReports
  pub place_refusals : PlaceRefusals
  pub repeats_on_x_lem : RepeatsOnX
  pub declined_again : DeclinedAgain
  pub last_move_only : LastMoveOnly
  pub high_counts : HighCounts
  pub grants_nobody : GrantsNobody
  pub last_moves : LastMoves
  pub again_upward : AgainUpward
  pub again_elsewhere : AgainElsewhere
  pub lost_authority : LostAuthority
  pub lost_report : LostReport
  pub last_answered_lem : LastAnswered
  pub strange_counts_lem : StrangeCounts
  pub five_granted_lem : FiveGranted
  pub six_granted_lem : SixGranted
  pub fullest_run_lem : FullestRun
  pub lost : Lost
  pub repeated : Repeated
  pub reordered : Reordered
  pub delayed : Delayed
  pub elsewhere : Elsewhere
  pub beside_a_gang : BesideAGang
  pub no_event : NoEvent
  pub both_covered : BothCovered
  pub all_home : AllHome
