-- What a name means that is known: a task's, a mode's or a port's number of the module, or a word.
use Rattle.std.specs.Prelude.{ℕ, ◌<◌, ◌≡◌, List, [], ◌++◌, Bool, false, eqb, length}
use Rattle.std.proofs.Math.Path.{refl}
use Rattle.std.proofs.Common.{sym, subst, ◌∙◌}
use Rattle.std.proofs.Math.Bool.{true, cond}
use Rattle.std.specs.Int.{w32}
use Rattle.std.proofs.Math.Facts.{sfits_to_z}
use Rattle.model.specs.Modules.{Module}
use Rattle.model.specs.Values.{value_of, boolean}
use Rattle.model.specs.declared.Operand.TheVariants as O
use Rattle.model.specs.declared.Value.TheVariants.{Flag}
use Rattle.text.specs.declared.Name.{Name}
use Rattle.text.specs.declared.Port.{Port}
use Rattle.text.specs.declared.Item.{Item}
use Rattle.timing.specs.SlotLaws.{Each}
use Rattle.timing.specs.Accepted.{ports, OperandFits}
use Rattle.refusals.specs.declared.Row.{Row}
use Rattle.refusals.specs.Verdicts.{Fine}
use Rattle.refusals.specs.Checks.{first}
use Rattle.refusals.specs.ChecksLaws.{fine-one}
use Rattle.refusals.specs.Names.{named, module_scope, task_scope, constant_sort, sensor_sort, task_sort, output_sort, unknown, is_known, is_unknown}
use Rattle.refusals.specs.Values.{constant_named, use_rules}
use Rattle.refusals.specs.Declarations.{declares}
use Rattle.refusals.specs.Ports.{task_named, output_of, port_named, argument_named, dotted_rules, place_rules, port_rules, argument_rules}
use Rattle.refusals.specs.Draft.{operand_of}
use Rattle.refusals.specs.Rules.{Env, grow}
use Rattle.accepted.specs.Folds.{Reaches, rows-first}
use Rattle.accepted.specs.Lists.{each_first, each_map, and-false}
use Rattle.accepted.specs.RowsFit.{limit_of, RowFits, RowsFit, named_in, use-known}
use Rattle.accepted.specs.Tallies.{Tallied}

-- a row's value is a number of the module's
pub record Within (M : Module) (row : Row) : Type 0 where
  pub below : row.value < limit_of (ports M) (length M.tasks) (length M.modes) row.sort

pub all-within : {a b : ℕ} (M : Module) (all : List Row) → RowsFit all → Tallied all a b (length M.tasks) (length M.modes) (ports M) → Each (Within M) all
all-within M all h t = each_map (RowFits all) (Within M) (λ row f. record { below = rw (t.of-ports, t.of-tasks, t.of-modes) at f.valued }) all h

-- so of the rows known so far
pub rows-within : {s : List ℕ} {all : List Row} {last : Env} (M : Module) (env : Env) (item : Item) → last.rows ≡ all → Each (Within M) all → Reaches s all last (grow s all env item) → Each (Within M) env.rows
rows-within {s} {all} {last} M env item e h r =
    let (more, q) = rows-first (grow s all env item) r in
    each_first (Within M) env.rows (declares s env.rows item) (each_first (Within M) (env.rows ++ declares s env.rows item) more (rw (sym e ∙ q) at h))

module _ (M : Module) (s : List ℕ) (rows : List Row) (known : Each (Within M) rows) where
  pub value-below : (scope sort : ℕ) (name : Name) → is_unknown (named s rows scope sort name) ≡ false
      → ((named s rows scope sort name).value < limit_of (ports M) (length M.tasks) (length M.modes) sort) × ((named s rows scope sort name).sort ≡ sort)
  value-below scope sort name e =
      let (f, q) = named_in (Within M) s rows scope sort name known e in
      (rw q at f.below, q)

  -- a port, and no constant
  abbrev pub Sourced : Row → Type 0
  Sourced row = (row.value < ports M) × (eqb row.sort constant_sort ≡ false)

  sort-port : (row : Row) (sort : ℕ) → eqb sort constant_sort ≡ false → row.sort ≡ sort → eqb row.sort constant_sort ≡ false
  sort-port row sort z q = rw q z

  dotted-in : (wanted : ℕ) (port : Port) → first (dotted_rules wanted (task_named s rows port.first) (output_of s rows (task_named s rows port.first) port.second) port) ≡ Fine → Sourced (output_of s rows (task_named s rows port.first) port.second)
  unfolding dotted_rules output_of
  dotted-in wanted port v =
      let task = task_named s rows port.first in
      let w = fine-one _ _ (fine-one _ _ v).1 in
      let (l, q) = value-below module_scope task_sort port.first w.0 in
      let k : is_known task ≡ true = rw q in
      let u = and-false _ _ k (fine-one _ _ (fine-one _ _ (fine-one _ _ w.1).1).1).0 in
      let output = named s rows (task_scope task.value) output_sort port.second in
      let o : cond (is_known task) output unknown ≡ output = rw k in
      let (m, p) = value-below (task_scope task.value) output_sort port.second (rw o at u) in
      rw o (m, sort-port output output_sort refl p)

  pub port-in : (wanted : ℕ) (port : Port) → first (port_rules s rows wanted port) ≡ Fine → Sourced (port_named s rows port)
  unfolding port_named place_rules
  port-in wanted port v = by port.dotted v
    where
      output : Row
      output = output_of s rows (task_named s rows port.first) port.second

      sensor : Row
      sensor = named s rows module_scope sensor_sort port.first

      by : (b : Bool) → first (cond b (dotted_rules wanted (task_named s rows port.first) (cond b output sensor) port) (use_rules wanted (cond b output sensor) port.first)) ≡ Fine → Sourced (cond b output sensor)
      by true v = dotted-in wanted port v
      by false v = let (l, q) = value-below module_scope sensor_sort port.first (use-known wanted sensor port.first v) in (l, sort-port sensor sensor_sort refl q)

  port-operand : (row : Row) → Sourced row → OperandFits M (operand_of row)
  port-operand row h = rw h.1 h.0

  constant-operand : (row : Row) → row.sort ≡ constant_sort → row.value < 4294967296 → OperandFits M (operand_of row)
  constant-operand row e l = rw e (by (eqb row.typ boolean))
    where
      by : (b : Bool) → OperandFits M (O.Fixed (cond b (Flag (eqb row.value 1)) (value_of 0 row.value)))
      by true = tt
      by false = sfits_to_z {w = w32} {n = row.value} (record { fits = l })

  port-by : (wanted : ℕ) (port : Port) (b : Bool) → port.dotted ≡ b → first (cond b (dotted_rules wanted (task_named s rows port.first) (port_named s rows port) port) (use_rules wanted (port_named s rows port) port.first)) ≡ Fine → Sourced (port_named s rows port)
  unfolding place_rules
  port-by wanted port b e v = port-in wanted port (subst (λ (d : Bool). first (cond d (dotted_rules wanted (task_named s rows port.first) (port_named s rows port) port) (use_rules wanted (port_named s rows port) port.first)) ≡ Fine) (sym e) v)

  pub argument-in : (wanted : ℕ) (port : Port) → first (argument_rules s rows wanted port) ≡ Fine → OperandFits M (operand_of (argument_named s rows port))
  unfolding argument_named place_rules
  argument-in wanted port v = by port.dotted refl (is_known constant) v
    where
      constant : Row
      constant = constant_named s rows port.first

      meant : Row
      meant = port_named s rows port

      by : (b : Bool) → port.dotted ≡ b → (k : Bool) → first (cond b (dotted_rules wanted (task_named s rows port.first) (cond b meant (cond k constant meant)) port) (use_rules wanted (cond b meant (cond k constant meant)) port.first)) ≡ Fine
          → OperandFits M (operand_of (cond b meant (cond k constant meant)))
      by true e k v = port-operand meant (port-by wanted port _ e v)
      by false e true v = let (l, q) = value-below module_scope constant_sort port.first (use-known wanted constant port.first v) in constant-operand constant q l
      by false e false v = port-operand meant (port-by wanted port _ e v)
