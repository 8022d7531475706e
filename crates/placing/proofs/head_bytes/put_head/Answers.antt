-- `put_head` meets its contract: each part is put to its place.
use mathlib.Core.Path.{◌≡◌}
use mathlib.Core.List.{List}
use Prim.Native.Nat.{ℕ}
use lib.ListN.{length, set}
use borrow.Author.Rules.{rules}
use Rattle.common.specs.Part.{replaced}
use Rattle.encoding.specs.Parts.{head_bytes, sidings_byte, trains_byte}
use Rattle.placing.proofs.Filled.{head_put}
use Rattle.placing.proofs.head_bytes.put_head.Goals as goal

pub returns : goal.returns
returns c =
    let eight : length c.args.tracks.now ≡ 8 = search rules in
    let tracked : List ℕ = c.put.new.to in
    let sided : List ℕ = set tracked sidings_byte c.args.sidings in
    let head : List ℕ = head_bytes c.args.posts c.args.tracks.now c.args.sidings c.args.trains in
    let written : set sided trains_byte c.args.trains ≡ replaced c.args.to.now 0 head =
    head_put c.args.posts c.args.tracks.now c.args.sidings c.args.trains eight
    c.args.to.now c.requires c.put.ensures.to_after in
    written
