-- 01, "Declining by number", and 02. Card 6: "Refusals 10 and 11 go"; card 7 removes 13. No other has their numbers.
use Rattle.std.specs.Prelude.{ℕ, Result, Ok, Err}
use Rattle.line.specs.declared.refusal.Refusal.{Refusal}
use Rattle.line.specs.declared.refusal.Refusal.TheVariants.{StrangeState, ShortStore, TornFrame, OtherEdition}
use Rattle.line.specs.declared.refusal.Refusal.TheVariants.{UnknownKind, WrongEnd, UnknownTrain, AtItsEnd, WrongPost}
use Rattle.line.specs.declared.refusal.Refusal.TheVariants.{NoAuthority, TornBook, Posts, Tracks, Trains, OffTheLine}
use Rattle.line.specs.declared.refusal.Refusal.TheVariants.{Overfull, NoWayThrough, NotNow, NotAwaited, Sidings}
use Rattle.line.specs.declared.refusal.Refusal.TheVariants.{SectionTaken, NoLocalRun, TwentyGiven, Positions, Speed}
use Rattle.line.specs.declared.refusal.Refusal.TheVariants.{NoPlace}

abbrev pub strange_state : ℕ
strange_state = 1

abbrev pub short_store : ℕ
short_store = 2

abbrev pub torn_frame : ℕ
torn_frame = 3

abbrev pub other_edition : ℕ
other_edition = 4

abbrev pub unknown_kind : ℕ
unknown_kind = 5

abbrev pub wrong_end : ℕ
wrong_end = 6

abbrev pub unknown_train : ℕ
unknown_train = 7

abbrev pub at_its_end : ℕ
at_its_end = 8

abbrev pub wrong_post : ℕ
wrong_post = 9

abbrev pub no_authority : ℕ
no_authority = 12

abbrev pub torn_book : ℕ
torn_book = 14

abbrev pub posts : ℕ
posts = 15

abbrev pub tracks : ℕ
tracks = 16

abbrev pub trains : ℕ
trains = 17

abbrev pub off_the_line : ℕ
off_the_line = 18

abbrev pub overfull : ℕ
overfull = 19

abbrev pub no_way_through : ℕ
no_way_through = 20

abbrev pub not_now : ℕ
not_now = 21

abbrev pub not_awaited : ℕ
not_awaited = 22

abbrev pub sidings : ℕ
sidings = 23

abbrev pub section_taken : ℕ
section_taken = 24

abbrev pub no_local_run : ℕ
no_local_run = 25

abbrev pub twenty_given : ℕ
twenty_given = 26

abbrev pub positions : ℕ
positions = 27

abbrev pub speed : ℕ
speed = 28

abbrev pub no_place : ℕ
no_place = 29

-- the number of each, for the code's own enum
abbrev pub refusal_number : Refusal → ℕ
refusal_number StrangeState = strange_state
refusal_number ShortStore = short_store
refusal_number TornFrame = torn_frame
refusal_number OtherEdition = other_edition
refusal_number UnknownKind = unknown_kind
refusal_number WrongEnd = wrong_end
refusal_number UnknownTrain = unknown_train
refusal_number AtItsEnd = at_its_end
refusal_number WrongPost = wrong_post
refusal_number NoAuthority = no_authority
refusal_number TornBook = torn_book
refusal_number Posts = posts
refusal_number Tracks = tracks
refusal_number Trains = trains
refusal_number OffTheLine = off_the_line
refusal_number Overfull = overfull
refusal_number NoWayThrough = no_way_through
refusal_number NotNow = not_now
refusal_number NotAwaited = not_awaited
refusal_number Sidings = sidings
refusal_number SectionTaken = section_taken
refusal_number NoLocalRun = no_local_run
refusal_number TwentyGiven = twenty_given
refusal_number Positions = positions
refusal_number Speed = speed
refusal_number NoPlace = no_place

-- the number of the refusal that a check ends with; 0 where it passes
abbrev pub checked : Result (Unit {0}) Refusal → ℕ
checked (Ok done) = 0
checked (Err r) = refusal_number r
