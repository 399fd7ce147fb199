use mathlib.Core.Path.{sym}
use Rattle.model.specs.Bytes.{place_in}
use Rattle.meanings.proofs.function_named.Goals as goal

pub returns-then-same : goal.returns-then-same
unfolding place_in
returns-then-same c = simp (sym c.if-same.ensures)

pub returns-then-same-2 : goal.returns-then-same-2
unfolding place_in
returns-then-same-2 c = simp (sym c.if-same.ensures, sym c.if-same-2.ensures)

pub returns-then-same-3 : goal.returns-then-same-3
unfolding place_in
returns-then-same-3 c = simp (sym c.if-same.ensures, sym c.if-same-2.ensures, sym c.if-same-3.ensures)

pub returns-then-same-4 : goal.returns-then-same-4
unfolding place_in
returns-then-same-4 c = simp (sym c.if-same.ensures, sym c.if-same-2.ensures, sym c.if-same-3.ensures, sym c.if-same-4.ensures)

pub returns-else-same-4 : goal.returns-else-same-4
unfolding place_in
returns-else-same-4 c = simp (sym c.if-same.ensures, sym c.if-same-2.ensures, sym c.if-same-3.ensures, sym c.if-same-4.ensures)
