use Rattle.names.specs.Index.{with_row, chain_of, numbers}
use Prim.Native.Nat.{◌+◌, ◌-◌, ◌*◌}
use mathlib.Core.Path.{◌≡◌}
use native.Mathlib.Numerals.{towards_suc}
use borrow.Rule.Slice.PartMut.{put_mid, Post-is}
use Rattle.std.proofs.Common.{arith, append_assoc}
use Rattle.std.proofs.lemmas.List.Edits.{sets, sets-eq}
use Rattle.names.proofs.storing.enter.Goals as goal

pub returns : goal.returns
unfolding with_row chain_of
returns c =
    let cells = c.args.cells.now in
    let first = c.args.n * 8 + 1280 in
    let row = numbers c.args.row c.key_of-key.result in
    let behind = Post-is first (first + 8) cells (omega arith) in
    let put : put_mid first (first + 8 - first) cells row ≡ sets cells first row = rw (behind, sets-eq row cells first (omega arith), append_assoc) in
    rw (c.copy_from_slice.ensures.after, put, c.link_place-place.ensures.0, c.min-last.ensures, c.chain_of-chain.ensures.0, c.key_of-key.ensures, c.part.ensures) (simp towards_suc)
