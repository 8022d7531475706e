-- The version of the library: 100 times the edition, which rises with what the ends answer, plus the revision, which
-- rises with the code alone. CHANGELOG.md has a paragraph for each.
use Rattle.std.specs.Prelude.{ℕ, ◌+◌, ◌*◌}

abbrev pub edition : ℕ
edition = 8

abbrev pub revision : ℕ
revision = 0

abbrev pub version : ℕ
version = 100 * edition + revision
