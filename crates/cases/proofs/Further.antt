-- The further examples, evaluated.
use mathlib.Core.Path.{refl}
use Rattle.common.specs.Below.{count_below, all_below}
use Rattle.common.specs.Check.{refusal, unless_refused}
use Rattle.common.specs.Tabulate.{values_from}
use Rattle.line.specs.Line.{well_formed}
use Rattle.line.specs.Route.{between, next_post}
use Rattle.frame.specs.Frame.{read_frame, bytes_of}
use Rattle.journal.specs.Journal.{record_of}
use Rattle.rules.specs.Valid.{consistent, valid}
use Rattle.rules.specs.Answer.{answer}
use Rattle.examples.specs.Reading.{opened_blank, ran_with, replies_in, seen_in}
use Rattle.cases.specs.Further.{OlderThen, Stores, FullPost, Parked, SixTrains, BothHome, Precedence}

pub older_then : OlderThen
unfolding bytes_of opened_blank ran_with replies_in
older_then = refl

pub stores : Stores
unfolding bytes_of record_of values_from opened_blank ran_with
stores = record { verdicts = refl; out = refl; journal = refl }

pub full_post : FullPost
unfolding bytes_of opened_blank ran_with replies_in
full_post = refl

pub parked : Parked
unfolding bytes_of opened_blank ran_with replies_in
parked = record { passed = refl; blocks = refl; stays = refl }

pub six_trains : SixTrains
unfolding bytes_of opened_blank ran_with replies_in
six_trains = refl

pub both_home : BothHome
unfolding bytes_of opened_blank ran_with seen_in
both_home = (refl, refl)

pub precedence : Precedence
unfolding bytes_of opened_blank ran_with answer valid consistent well_formed between next_post count_below all_below
    values_from
    refusal unless_refused read_frame
precedence = record {
  fresh = refl;
  later = refl;
  in_range_lem = refl;
  above = refl;
  strange = refl;
  table = refl;
  journal = refl;
  out = refl;
  torn = refl;
}
