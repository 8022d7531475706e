-- The paper's examples, evaluated.
use mathlib.Core.Path.{refl}
use Rattle.common.specs.Below.{count_below}
use Rattle.frame.specs.Frame.{bytes_of}
use Rattle.journal.specs.Journal.{record_of}
use Rattle.examples.specs.Reading.{opened_blank, ran_with, replies_in}
use Rattle.examples.specs.Examples.{Examples, PrintedRun}

pub examples : Examples
unfolding count_below bytes_of opened_blank ran_with replies_in
examples = record {
  a = refl;
  b = refl;
  c = refl;
  d = (refl, refl);
  e = (refl, refl, refl);
  f = refl;
  g = refl;
  h = (refl, refl, refl);
  i = refl;
  j = refl;
  k = (refl, refl);
  l = refl;
}

pub printed_run : PrintedRun
unfolding bytes_of record_of opened_blank ran_with
printed_run = refl
