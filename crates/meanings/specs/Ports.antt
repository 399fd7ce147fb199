-- A port is told by one look at its name, and behind a dot by one at the task's outputs.
use Rattle.std.specs.Prelude.{ℕ, ◌≡◌, List, true, false, ◌≢◌}
use borrow.Author.Tests.{ne_eqb}
use Rattle.std.proofs.Common.{◌∙◌}
use Rattle.text.specs.declared.Port.{Port}
use Rattle.refusals.specs.declared.Row.{Row}
use Rattle.refusals.specs.Names.{module_scope, task_scope, output_sort, unknown, meaning, named}
use Rattle.refusals.specs.Ports.{output_of, port_named}

module _ (s : List ℕ) (rows : List Row) (port : Port) {row : Row} (found : row ≡ meaning s rows module_scope port.first) where
  pub sensor-found : port.dotted ≡ false → row.sort ≡ 1 → row ≡ port_named s rows port
  unfolding port_named named
  sensor-found plain e = simp (plain, ← found, e)

  pub sensor-none : port.dotted ≡ false → row.sort ≢ 1 → unknown ≡ port_named s rows port
  unfolding port_named named
  sensor-none plain h = simp (plain, ← found, ne_eqb row.sort 1 h)

  pub task-none : port.dotted ≡ true → row.sort ≢ 3 → unknown ≡ port_named s rows port
  unfolding port_named output_of named
  task-none dotted h = simp (dotted, ← found, ne_eqb row.sort 3 h)

  pub task-output : port.dotted ≡ true → row.sort ≡ 3 → {output : Row} → output ≡ named s rows (task_scope row.value) output_sort port.second → output ≡ port_named s rows port
  unfolding port_named output_of named
  task-output dotted task e = e ∙ simp (dotted, ← found, task)
