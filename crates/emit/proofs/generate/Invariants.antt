use Rattle.std.proofs.Common.{◌≡◌, ◌+◌, ◌-◌, ◌*◌, ◌≤◌}
use mathlib.Core.List.{map}
use lib.Seq.{sets}
use Rattle.timing.specs.Code.{code_from, begins_from}
use Rattle.emit.specs.Rows.{modes_from, place_in}
use Rattle.emit.specs.Emitted.{listed, emitted}
use Rattle.emit.proofs.Modes.{Coming}
use Rattle.emit.proofs.generate.Given as goal

abbrev pub invariant-loop-k : goal.invariant-loop-k
invariant-loop-k l =
    let modes = modes_from l.modes l.acts 0 l.k-end in
    let first = l.initial.driver in
    record {
      coming :
          Coming l.modes l.acts (emitted (listed l.initial.listing) (code_from first modes)) (sets l.initial.begins 0 (map place_in (begins_from first modes 0)))
          l.k (l.k-end - l.k) l.driver (listed l.listing) l.begins;
      few : l.listing.pc ≤ 1800000000000 * l.k;
      low : l.driver ≤ 32 + 64 * l.k;
      same : l.listing.cells.ghost_name ≡ l.initial.listing.cells.ghost_name;
    }
