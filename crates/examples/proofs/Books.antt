-- The books, evaluated.
use mathlib.Core.Path.{refl}
use Rattle.examples.specs.Reading.{read_alone, numbers_of, opened_blank}
use Rattle.examples.specs.Books.{Books}

pub books : Books
unfolding read_alone numbers_of opened_blank
books = record {
  x = refl;
  header = refl;
  posts = refl;
  tracks = refl;
  trains = refl;
  routes = refl;
  long = (refl, refl);
}
