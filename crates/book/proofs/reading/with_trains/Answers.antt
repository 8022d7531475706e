-- `with_trains` meets its contract: at each `return` the stages of the trains give what the book's checks leave, or its
-- line.
use mathlib.Core.Path.{refl, ◌∙◌}
use native.Mathlib.Omega.{arith}
use Rattle.book.proofs.InOrder.{trains_refused, trains_read, routes_refused, routes_read}
use Rattle.book.proofs.reading.with_trains.Goals as goal

pub returns-in_default : goal.returns-in_default
returns-in_default c = c.refused.ensures ∙ trains_refused _ c.read_trains-number.ensures c.in_default.is

pub read_routes-routes-requires : goal.read_routes-routes-requires
read_routes-routes-requires c =
    let number = c.read_trains-number.ensures in
    let trains = trains_read c.args.book.now c.requires c.trains_at-at.ensures number c.in-Passed.is in
    (trains.few, omega (arith, trains.whole))

pub check_routes-ends-requires : goal.check_routes-ends-requires
check_routes-ends-requires c =
    let number = c.read_trains-number.ensures in
    (trains_read c.args.book.now c.requires c.trains_at-at.ensures number c.in-Passed.is).few

pub returns-in_default-ends : goal.returns-in_default-ends
returns-in_default-ends c =
    let number = c.read_trains-number.ensures in
    let trains = trains_read c.args.book.now c.requires c.trains_at-at.ensures number c.in-Passed.is in
    c.refused-in_default-ends.ensures
    ∙ routes_refused _ c.requires trains _ refl refl refl refl
    c.read_routes-routes.ensures c.check_routes-ends.ensures c.in_default-ends.is

pub returns : goal.returns
returns c =
    let number = c.read_trains-number.ensures in
    let trains = trains_read c.args.book.now c.requires c.trains_at-at.ensures number c.in-Passed.is in
    routes_read _ c.requires trains _ refl refl refl refl
    c.read_routes-routes.ensures c.check_routes-ends.ensures c.in-Passed-ends.is
