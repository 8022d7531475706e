-- `grantable` meets its contract: the tests are those of the definition, in its order.
use mathlib.Core.Path.{◌≡◌, sym, ap, ◌∙◌}
use mathlib.Core.Bool.{true}
use Prim.Native.Nat.{◌<◌}
use native.Mathlib.Omega.{arith}
use Rattle.completion.proofs.Codes.{code_cong}
use Rattle.holding.proofs.Located.{consistent_placed}
use Rattle.tracks.specs.Answers.{track_number}
use Rattle.rules.specs.State.{is_asked, train_of}
use Rattle.rules.proofs.Validity.{consistent_facts}
use Rattle.authority.specs.GrantTrack.{grant_track}
use Rattle.authority.proofs.GrantTest.{few_trains, few_posts, from_on_line, to_on_line}
use Rattle.authority.proofs.GrantTest.{few_there, free_there, not_asked, section_held, post_full, bit_unset}
use Rattle.authority.proofs.GrantTest.{track_given}
use Rattle.authority.proofs.grantable.grantable.Goals as goal

pub train_of-train-requires : goal.train_of-train-requires
train_of-train-requires c = omega (arith, few_trains _ c.requires.0, c.requires.1)

pub returns-then-not-is_asked : goal.returns-then-not-is_asked
returns-then-not-is_asked c =
    (not_asked _ _ _ (rw (← c.train_of-train.ensures) (sym c.if-not-is_asked.ensures)), tt)

pub holders_of-holders-requires : goal.holders_of-holders-requires
holders_of-holders-requires c =
    let d = c.requires.0 in (few_trains _ d, consistent_placed _ (consistent_facts _ d))

pub section_free-requires : goal.section_free-requires
section_free-requires c =
    let asks : is_asked (train_of c.args.state c.args.t.0).status ≡ true =
    rw (← c.train_of-train.ensures) (sym c.if-not-is_asked.ensures) in
    let from = from_on_line _ c.requires.0 _ c.requires.1 asks _ c.next_move-next.ensures in
    let to = to_on_line _ c.requires.0 _ c.requires.1 asks _ c.next_move-next.ensures in
    let number : c.section.result.0 < 8 = omega (arith, from, to, c.section.ensures) in
    (few_posts _ c.requires.0, number, c.holders_of-holders.ensures)

pub returns-then-not-section_free : goal.returns-then-not-section_free
returns-then-not-section_free c =
    let asks : is_asked (train_of c.args.state c.args.t.0).status ≡ true =
    rw (← c.train_of-train.ensures) (sym c.if-not-is_asked.ensures) in (
      section_held _ _ _ asks _ c.next_move-next.ensures _ c.section.ensures (sym c.if-not-section_free.ensures),
      tt,
    )

pub tracks_held-held-requires : goal.tracks_held-held-requires
tracks_held-held-requires c =
    let asks : is_asked (train_of c.args.state c.args.t.0).status ≡ true =
    rw (← c.train_of-train.ensures) (sym c.if-not-is_asked.ensures) in
    to_on_line _ c.requires.0 _ c.requires.1 asks _ c.next_move-next.ensures

pub tracks_at-requires : goal.tracks_at-requires
tracks_at-requires c =
    let asks : is_asked (train_of c.args.state c.args.t.0).status ≡ true =
    rw (← c.train_of-train.ensures) (sym c.if-not-is_asked.ensures) in
    to_on_line _ c.requires.0 _ c.requires.1 asks _ c.next_move-next.ensures

pub free_track-requires : goal.free_track-requires
free_track-requires c =
    let asks : is_asked (train_of c.args.state c.args.t.0).status ≡ true =
    rw (← c.train_of-train.ensures) (sym c.if-not-is_asked.ensures) in
    let few = few_there _ c.requires.0 _ c.requires.1 asks _ c.next_move-next.ensures _ c.tracks_at.ensures in
    omega (arith, few)

pub returns-in_err-track : goal.returns-in_err-track
returns-in_err-track c =
    let asks : is_asked (train_of c.args.state c.args.t.0).status ≡ true =
    rw (← c.train_of-train.ensures) (sym c.if-not-is_asked.ensures) in
    let to = to_on_line _ c.requires.0 _ c.requires.1 asks _ c.next_move-next.ensures in
    let found = free_there _ c.requires.0 _ c.requires.1 asks _ c.next_move-next.ensures
    _ c.tracks_at.ensures _ c.train_of-train.ensures _
    (c.tracks_held-held.ensures ∙ c.holders_of-holders.ensures.tracks _ to) _ c.free_track.ensures.0 in
    let nothing : 0 ≡ grant_track c.args.table.now c.args.state c.args.t.0 =
    post_full _ _ _ asks _ c.next_move-next.ensures _ c.section.ensures (sym c.if-not-section_free.ensures) _ found
    (ap track_number c.in_err-track.was) in
    rw c.from_residual.ensures (nothing, tt)

pub returns-then-not-bit : goal.returns-then-not-bit
returns-then-not-bit c =
    let asks : is_asked (train_of c.args.state c.args.t.0).status ≡ true =
    rw (← c.train_of-train.ensures) (sym c.if-not-is_asked.ensures) in
    let to = to_on_line _ c.requires.0 _ c.requires.1 asks _ c.next_move-next.ensures in
    let found = free_there _ c.requires.0 _ c.requires.1 asks _ c.next_move-next.ensures
    _ c.tracks_at.ensures _ c.train_of-train.ensures _
    (c.tracks_held-held.ensures ∙ c.holders_of-holders.ensures.tracks _ to) _ c.in_ok-track.ensures.0 in (
      bit_unset _ _ _ asks _ c.next_move-next.ensures _ c.section.ensures (sym c.if-not-section_free.ensures) _ found
          c.in_ok-track.ensures.1 _ (c.code.ensures ∙ code_cong _ _ _ c.reached_with.ensures)
          (sym c.if-not-bit.ensures),
      tt,
    )

pub returns : goal.returns
returns c =
    let asks : is_asked (train_of c.args.state c.args.t.0).status ≡ true =
    rw (← c.train_of-train.ensures) (sym c.if-not-is_asked.ensures) in
    let to = to_on_line _ c.requires.0 _ c.requires.1 asks _ c.next_move-next.ensures in
    let found = free_there _ c.requires.0 _ c.requires.1 asks _ c.next_move-next.ensures
    _ c.tracks_at.ensures _ c.train_of-train.ensures _
    (c.tracks_held-held.ensures ∙ c.holders_of-holders.ensures.tracks _ to) _ c.in_ok-track.ensures.0 in (
      track_given _ _ _ asks _ c.next_move-next.ensures _ c.section.ensures (sym c.if-not-section_free.ensures) _ found
          c.in_ok-track.ensures.1 _ (c.code.ensures ∙ code_cong _ _ _ c.reached_with.ensures)
          (sym c.if-not-bit.ensures),
      c.in_ok-track.ensures.1,
    )
