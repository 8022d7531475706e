-- The examples with gangs, evaluated.
use mathlib.Core.Path.{refl}
use Rattle.frame.specs.Frame.{bytes_of}
use Rattle.journal.specs.Journal.{record_of}
use Rattle.examples.specs.Reading.{opened_blank, ran_with, replies_in}
use Rattle.possessions.specs.Gangs.{GangOnX, Named, BesideTrains, OtherSection, GrantingAfterLb, local_runs}
use Rattle.possessions.specs.Gangs.{TwentyRuns, GangStates, gangs_after, GangsSeen}

pub gang_on_x_lem : GangOnX
unfolding bytes_of record_of opened_blank ran_with replies_in
gang_on_x_lem = record { verdicts = refl; replies = refl; journal = refl }

pub named : Named
unfolding bytes_of opened_blank ran_with
named = refl

pub beside_trains : BesideTrains
unfolding bytes_of opened_blank ran_with replies_in
beside_trains = refl

pub other_section : OtherSection
unfolding bytes_of opened_blank ran_with replies_in
other_section = refl

pub granting_after_lb : GrantingAfterLb
unfolding bytes_of opened_blank ran_with replies_in
granting_after_lb = refl

pub twenty_runs : TwentyRuns
unfolding bytes_of opened_blank ran_with replies_in local_runs
twenty_runs = record { given = refl; logged = refl; last = refl; after = refl }

pub gang_states : GangStates
unfolding bytes_of opened_blank ran_with
gang_states = record {
  beside = (refl, refl);
  given = (refl, refl);
  unread = (refl, refl);
  in_range_lem = (refl, refl, refl);
  above = (refl, refl, refl);
}

pub gangs_seen : GangsSeen
unfolding bytes_of opened_blank ran_with gangs_after
gangs_seen = record { none = refl; lent = refl; refused = refl; both = refl; back = refl }
