-- `consistent` meets its contract: its tests together are those of the definition.
use mathlib.Core.Path.{◌≡◌, sym, ◌∙◌}
use mathlib.Core.Bool.{true}
use Rattle.common.specs.Below.{all_below}
use Rattle.validity.specs.Types.{State}
use Rattle.validity.specs.Tests.{counts_valid, records_valid, place_valid}
use Rattle.validity.proofs.Tested.{counts_fail, eight_posts, six_trains, trains_fail, all_placed}
use Rattle.validity.proofs.Tested.{places_fail, numbers_decide}
use Rattle.validity.proofs.validity.consistent.Goals as goal
use Rattle.validity.proofs.validity.consistent.Goals.{then-counts_valid, else-counts_valid, then-trains_valid}
use Rattle.validity.proofs.validity.consistent.Goals.{else-trains_valid}

abbrev Counts : State → Type 0
Counts s = counts_valid s.posts s.sidings s.trains s.given ≡ true

pub places_valid-requires : goal.places_valid-requires
places_valid-requires c =
    let given : State = c.args.state in
    elim c.if-counts_valid.branch [
      | then-counts_valid w ↦
          let counts : Counts given = sym c.counts_valid.ensures ∙ w.if-counts_valid.true in
          let trains : records_valid given ≡ true =
          sym w.trains_valid.ensures ∙ sym w.value-is ∙ c.if-trains_valid.true in
          (eight_posts given counts, six_trains given counts, all_placed given counts trains)
      | else-counts_valid w ↦ cc
    ]

pub returns-then-places_valid : goal.returns-then-places_valid
returns-then-places_valid c =
    let given : State = c.args.state in
    elim c.if-trains_valid.branch [
      | then-trains_valid w ↦ elim c.if-counts_valid.branch [
        | then-counts_valid v ↦
            let counts : Counts given = sym c.counts_valid.ensures ∙ v.if-counts_valid.true in
            let trains : records_valid given ≡ true =
            sym v.trains_valid.ensures ∙ sym v.value-is ∙ w.if-trains_valid.true in
            let places : all_below given.posts (place_valid given) ≡ true =
            sym w.places_valid.ensures ∙ sym w.value-is ∙ c.if-places_valid.true in
            c.numbers_valid.ensures ∙ numbers_decide given counts trains places
        | else-counts_valid v ↦ cc
      ]
      | else-trains_valid w ↦ cc
    ]

pub returns-else-places_valid : goal.returns-else-places_valid
returns-else-places_valid c =
    let given : State = c.args.state in
    c.if-places_valid.false ∙ elim c.if-counts_valid.branch [
      | then-counts_valid v ↦
          let counts : Counts given = sym c.counts_valid.ensures ∙ v.if-counts_valid.true in
          elim c.if-trains_valid.branch [
            | then-trains_valid w ↦
                let trains : records_valid given ≡ true =
                sym v.trains_valid.ensures ∙ sym v.value-is ∙ w.if-trains_valid.true in
                places_fail given counts trains (sym w.places_valid.ensures ∙ sym w.value-is ∙ c.if-places_valid.false)
            | else-trains_valid w ↦
                trains_fail given counts (sym v.trains_valid.ensures ∙ sym v.value-is ∙ w.if-trains_valid.false)
          ]
      | else-counts_valid v ↦ counts_fail given (sym c.counts_valid.ensures ∙ v.if-counts_valid.false)
    ]
