-- Task "." output: what a port with a dot, or such an argument, must keep.
use Rattle.std.specs.Prelude.{ℕ, ◌≡◌, List, true, false}
use Rattle.text.specs.declared.Port.{Port}
use Rattle.refusals.specs.declared.Row.{Row}
use Rattle.refusals.specs.Checks.{Check}
use Rattle.refusals.specs.Names.{module_scope, sensor_sort, named}
use Rattle.refusals.specs.Values.{use_rules}
use Rattle.refusals.specs.Ports.{task_named, output_of, port_named, argument_named, dotted_rules, place_rules, port_rules, argument_rules}
use Rattle.meanings.specs.Arguments.{plain_port, argument-undotted}

-- the rules of both names, by what they mean
abbrev pub parted_rules : List ℕ → List Row → ℕ → Port → List Check
parted_rules s rows wanted port =
    dotted_rules wanted (task_named s rows port.first) (output_of s rows (task_named s rows port.first) port.second) port

module _ (s : List ℕ) (rows : List Row) (wanted : ℕ) (port : Port) where
  pub port-parted : port.dotted ≡ true → parted_rules s rows wanted port ≡ port_rules s rows wanted port
  unfolding place_rules port_named
  port-parted e = simp e

  pub argument-parted : port.dotted ≡ true → parted_rules s rows wanted port ≡ argument_rules s rows wanted port
  unfolding place_rules port_named argument_named
  argument-parted e = simp e

  pub port-plain : port.dotted ≡ false → use_rules wanted (named s rows module_scope sensor_sort port.first) port.first ≡ port_rules s rows wanted port
  unfolding place_rules port_named
  port-plain e = simp e

  pub argument-plain : port.dotted ≡ false → use_rules wanted (argument_named s rows (plain_port port.first)) port.first ≡ argument_rules s rows wanted port
  unfolding place_rules
  argument-plain e = simp (argument-undotted s rows port e, e)

  pub argument-plain-type : port.dotted ≡ false → (argument_named s rows (plain_port port.first)).typ ≡ (argument_named s rows port).typ
  argument-plain-type e = simp (argument-undotted s rows port e)

  pub argument-type : port.dotted ≡ true → (output_of s rows (task_named s rows port.first) port.second).typ ≡ (argument_named s rows port).typ
  unfolding port_named argument_named
  argument-type e = simp e
