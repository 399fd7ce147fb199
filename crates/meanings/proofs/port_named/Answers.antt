use Rattle.refusals.specs.Names.{unknown}
use Rattle.refusals.specs.Ports.{port_named}
use Rattle.names.specs.Tables.{rows_in}
use mathlib.Core.Bool.{Bool, true, false, not}
use mathlib.Core.Path.{◌≡◌, refl, sym, ◌∙◌}
use Rattle.meanings.specs.Ports.{sensor-found, sensor-none, task-none, task-output}
use Rattle.meanings.proofs.port_named.Goals as goal
use Rattle.meanings.proofs.port_named.Goals.{else-port-via-then-port+else-row-eq3, else-port-via-else-port, else-not-port-via-then-not-port+else-row-eq1, else-not-port-via-else-not-port}

plain : (dotted : Bool) → not dotted ≡ true → dotted ≡ false
plain true e = sym e
plain false e = refl

clash : {P : Type 0} (dotted : Bool) → dotted ≡ false → not dotted ≡ false → P
clash true e f = cc
clash false e f = let q : true ≡ false = f in cc

pub returns-then-row-eq3 : goal.returns-then-row-eq3
returns-then-row-eq3 c ix = task-output _ _ _ (c.found-row.ensures ix) c.if-port.true c.if-row-eq3.true (c.named.ensures ix)

pub returns-then-row-eq1 : goal.returns-then-row-eq1
returns-then-row-eq1 c ix = sensor-found _ _ _ (c.found-row.ensures ix) (plain _ c.if-not-port.true) c.if-row-eq1.true

pub returns-else-not-port : goal.returns-else-not-port
returns-else-not-port c ix =
    let s = c.args.s.now in
    let rows = rows_in c.args.cells.now c.args.n in
    let port = c.args.port in
    let row = c.found-row.ensures ix in
    let none : unknown ≡ port_named s rows port = elim c.else-port.branch [
      | else-port-via-then-port+else-row-eq3 w ↦ task-none s rows port row w.if-port.true w.if-row-eq3.false
      | else-port-via-else-port w ↦ elim c.else-not-port.branch [
        | else-not-port-via-then-not-port+else-row-eq1 v ↦ sensor-none s rows port row (plain port.dotted v.if-not-port.true) v.if-row-eq1.false
        | else-not-port-via-else-not-port v ↦ clash port.dotted w.if-port.false v.if-not-port.false
      ]
    ] in
    c.unknown.ensures ∙ none
