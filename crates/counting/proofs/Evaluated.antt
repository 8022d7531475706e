-- The examples with high counts, evaluated.
use mathlib.Core.Path.{refl}
use Rattle.common.specs.Tabulate.{values_from}
use Rattle.frame.specs.Frame.{bytes_of}
use Rattle.journal.specs.Journal.{record_of}
use Rattle.examples.specs.Reading.{opened_blank, ran_with, replies_in}
use Rattle.possessions.specs.Gangs.{local_runs}
use Rattle.counting.specs.Limit.{LastAnswered, StrangeCounts}
use Rattle.counting.specs.AllAtOnce.{FiveGranted, SixGranted}
use Rattle.counting.specs.Shuttle.{local_records, FullestRun}

pub last_answered_lem : LastAnswered
unfolding bytes_of record_of values_from opened_blank ran_with replies_in
last_answered_lem = record {
  replies = refl;
  journal = refl;
  state = refl;
  strange = refl;
  state_left = refl;
  journal_left = refl;
  out_left = refl;
  otherwise = refl;
}

pub strange_counts_lem : StrangeCounts
unfolding bytes_of record_of values_from opened_blank ran_with
strange_counts_lem = record { frames = refl; stores = refl; short = refl; short_journal = refl }

pub five_granted_lem : FiveGranted
unfolding bytes_of record_of values_from opened_blank ran_with replies_in
five_granted_lem = record { declined = refl; verdicts = refl; replies = refl; count = refl; journal = refl }

pub six_granted_lem : SixGranted
unfolding bytes_of record_of values_from opened_blank ran_with replies_in
six_granted_lem = record { verdicts = refl; replies = refl; count = refl; journal = refl; edge = refl }

pub fullest_run_lem : FullestRun
unfolding bytes_of record_of opened_blank ran_with replies_in local_runs local_records
fullest_run_lem = record { replies = refl; records = refl; count = refl; ended = refl; count_left = refl }
