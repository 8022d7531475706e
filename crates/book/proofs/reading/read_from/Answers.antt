-- `read_from` meets its contract: at each `return` the stages so far give the book's refusal, and the last call what is
-- left.
use mathlib.Core.Path.{refl, ◌∙◌}
use native.Mathlib.Omega.{arith}
use Rattle.line.specs.Book.{edition_of}
use Rattle.line.proofs.Bytes.{positioned_few, positions_room}
use Rattle.book.proofs.InOrder.{header_refused, header_read, tracks_refused, tracks_read, sidings_refused}
use Rattle.book.proofs.InOrder.{sidings_read, positions_refused, trains_left, posts_read}
use Rattle.book.proofs.reading.read_from.Goals as goal

pub returns-in_default : goal.returns-in_default
returns-in_default c = c.refused.ensures ∙ header_refused _ _ c.read_posts-header.ensures c.in_default.is

pub read_tracks-tracks-requires : goal.read_tracks-tracks-requires
read_tracks-tracks-requires c =
    let header = header_read c.args.least c.args.book.now c.read_posts-header.ensures c.in-Passed.is in
    (header.few, omega (arith, header.room))

pub check_tracks-counts-requires : goal.check_tracks-counts-requires
check_tracks-counts-requires c =
    let header = header_read c.args.least c.args.book.now c.read_posts-header.ensures c.in-Passed.is in header.few

pub returns-in_default-counts : goal.returns-in_default-counts
returns-in_default-counts c =
    let header = header_read c.args.least c.args.book.now c.read_posts-header.ensures c.in-Passed.is in
    c.refused-in_default-counts.ensures
    ∙ tracks_refused header c.read_tracks-tracks.ensures c.check_tracks-counts.ensures c.in_default-counts.is

pub read_sidings-named-requires : goal.read_sidings-named-requires
read_sidings-named-requires c =
    let header = header_read c.args.least c.args.book.now c.read_posts-header.ensures c.in-Passed.is in
    (header.is, header.few, omega (arith, header.room))

pub returns-in_default-named : goal.returns-in_default-named
returns-in_default-named c =
    let header = header_read c.args.least c.args.book.now c.read_posts-header.ensures c.in-Passed.is in
    let counts = c.check_tracks-counts.ensures in
    let tracks = tracks_read header c.read_tracks-tracks.ensures counts c.in-Passed-counts.is in
    c.refused-in_default-named.ensures ∙ sidings_refused tracks c.read_sidings-named.ensures c.in_default-named.is

pub bounds-book-2 : goal.bounds-book-2
bounds-book-2 c =
    let header = header_read c.args.least c.args.book.now c.read_posts-header.ensures c.in-Passed.is in
    omega (arith, header.room)

pub read_positions-positions-requires : goal.read_positions-positions-requires
read_positions-positions-requires c =
    let header = header_read c.args.least c.args.book.now c.read_posts-header.ensures c.in-Passed.is in
    let v = edition_of c.args.book.now in
    let n = c.in-Passed.posts in (
      omega (arith, header.few, c.positioned-given.ensures, positioned_few v n),
      rw c.positioned-given.ensures (omega (arith, header.room, positions_room v n)),
    )

pub check_positions-order-requires : goal.check_positions-order-requires
check_positions-order-requires c =
    let header = header_read c.args.least c.args.book.now c.read_posts-header.ensures c.in-Passed.is in
    let few = positioned_few (edition_of c.args.book.now) c.in-Passed.posts in
    omega (arith, header.few, c.positioned-given.ensures, few)

pub returns-in_default-order : goal.returns-in_default-order
returns-in_default-order c =
    let header = header_read c.args.least c.args.book.now c.read_posts-header.ensures c.in-Passed.is in
    let counts = c.check_tracks-counts.ensures in
    let tracks = tracks_read header c.read_tracks-tracks.ensures counts c.in-Passed-counts.is in
    let sidings = sidings_read tracks c.read_sidings-named.ensures c.in-Passed-named.is in
    c.refused-in_default-order.ensures
    ∙ positions_refused sidings c.positioned-given.ensures c.read_positions-positions.ensures
    c.check_positions-order.ensures c.in_default-order.is

pub with_trains-requires : goal.with_trains-requires
with_trains-requires c =
    let header = header_read c.args.least c.args.book.now c.read_posts-header.ensures c.in-Passed.is in
    let counts = c.check_tracks-counts.ensures in
    let tracks = tracks_read header c.read_tracks-tracks.ensures counts c.in-Passed-counts.is in
    let sidings = sidings_read tracks c.read_sidings-named.ensures c.in-Passed-named.is in
    posts_read sidings c.positioned-given.ensures c.read_positions-positions.ensures _ refl refl refl

pub returns : goal.returns
returns c =
    let header = header_read c.args.least c.args.book.now c.read_posts-header.ensures c.in-Passed.is in
    let counts = c.check_tracks-counts.ensures in
    let tracks = tracks_read header c.read_tracks-tracks.ensures counts c.in-Passed-counts.is in
    let sidings = sidings_read tracks c.read_sidings-named.ensures c.in-Passed-named.is in
    c.with_trains.ensures
    ∙ trains_left sidings c.positioned-given.ensures c.read_positions-positions.ensures
    c.check_positions-order.ensures c.in-Passed-order.is
