use Rattle.std.proofs.Common.{arith, refl, ap, ◌∙◌, ◌≡◌, ◌+◌, ◌*◌, ◌/◌, length, take}
use Rattle.std.proofs.Math.Seq.{take-length}
use Rattle.writing.specs.Wrote.{wrote_as, wrote-none, wrote-room, wrote_next, part-length}
use Rattle.writing.proofs.numbers.Out.put_by_fours.Goals as goal

pub loop-k-init : goal.loop-k-init
loop-k-init c = record { at = omega arith; room = refl; wrote = wrote-none _ }

pub put_whole-requires : goal.put_whole-requires
put_whole-requires c =
    let i = c.loop-k.invariant in
    let from = c.loop-k.k * 4 in
    omega (arith, i.at, i.room, part-length c.args.bytes.now from (from + 4) (omega arith) (omega arith))

pub loop-k-preserved : goal.loop-k-preserved
loop-k-preserved c =
    let i = c.loop-k.invariant in
    let bytes = c.args.bytes.now in
    let from = c.loop-k.k * 4 in
    let size = part-length bytes from (from + 4) (omega arith) (omega arith) in
    let behind = wrote-room c.put_whole.ensures (omega (arith, i.at, i.room, size)) in
    let e : from + 4 ≡ (c.loop-k.k + 1) * 4 = omega arith in
    record {
      at = omega (arith, i.at, behind.0, size);
      room = behind.1 ∙ i.room;
      wrote = wrote_as (ap (λ n. take n bytes) e) (wrote_next bytes from (from + 4) (omega arith) i.wrote c.put_whole.ensures);
    }

pub loop-j-init : goal.loop-j-init
loop-j-init c =
    let i = c.loop-k.invariant in
    let bytes = c.args.bytes.now in
    let e : c.loop-k.k * 4 ≡ length bytes / 4 * 4 + 0 = omega arith in
    record { at = omega (arith, i.at); room = i.room; wrote = wrote_as (ap (λ n. take n bytes) e) i.wrote }

pub put_whole-requires-in-loop-j : goal.put_whole-requires-in-loop-j
put_whole-requires-in-loop-j c =
    let i = c.loop-j.invariant in
    let from = length c.args.bytes.now / 4 * 4 + c.loop-j.j in
    omega (arith, i.at, i.room, part-length c.args.bytes.now from (from + 1) (omega arith) (omega arith))

pub loop-j-preserved : goal.loop-j-preserved
loop-j-preserved c =
    let i = c.loop-j.invariant in
    let bytes = c.args.bytes.now in
    let from = length bytes / 4 * 4 + c.loop-j.j in
    let size = part-length bytes from (from + 1) (omega arith) (omega arith) in
    let behind = wrote-room c.put_whole-in-loop-j.ensures (omega (arith, i.at, i.room, size)) in
    let e : from + 1 ≡ length bytes / 4 * 4 + (c.loop-j.j + 1) = omega arith in
    record {
      at = omega (arith, i.at, behind.0, size);
      room = behind.1 ∙ i.room;
      wrote = wrote_as (ap (λ n. take n bytes) e) (wrote_next bytes from (from + 1) (omega arith) i.wrote c.put_whole-in-loop-j.ensures);
    }

pub returns : goal.returns
returns c =
    let bytes = c.args.bytes.now in
    let e : length bytes / 4 * 4 + c.loop-j.j ≡ length bytes = omega arith in
    wrote_as (ap (λ n. take n bytes) e ∙ take-length bytes) c.loop-j.invariant.wrote
