-- What a name means that is used: a port of the right role and type, or a constant of the right type.
use Rattle.std.specs.Prelude.{ℕ, zero, suc, ◌<◌, ◌≡◌, List, [], ◌∷◌, ◌++◌, map, Bool, false, eqb, get_or}
use Rattle.std.proofs.Common.{arith, sym, ap, ◌∙◌, eqb-true}
use Rattle.std.proofs.Math.Path.{refl, subst}
use Rattle.std.proofs.Math.Bool.{true, cond}
use Rattle.std.proofs.lemmas.Bool.{eqb-false}
use Rattle.model.specs.Modules.{Module, port_types}
use Rattle.model.specs.Values.{value_of, boolean}
use Rattle.model.specs.declared.Operand.TheVariants as O
use Rattle.model.specs.declared.Value.TheVariants.{Flag}
use Rattle.file.specs.References.{port_roles, is_source, is_actuator, good_argument, argument_type}
use Rattle.prescribed.specs.Tables.{argument_of}
use Rattle.text.specs.declared.Name.{Name}
use Rattle.text.specs.declared.Port.{Port}
use Rattle.text.specs.declared.Item.{Item}
use Rattle.timing.specs.SlotLaws.{Each, each-zip}
use Rattle.refusals.specs.declared.Row.{Row}
use Rattle.refusals.specs.Verdicts.{Fine}
use Rattle.refusals.specs.Checks.{first}
use Rattle.refusals.specs.ChecksLaws.{fine-one}
use Rattle.refusals.specs.Names.{named, module_scope, task_scope, constant_sort, sensor_sort, actuator_sort, task_sort, output_sort, unknown, is_known, is_unknown, is_port}
use Rattle.refusals.specs.Refusals.{clash}
use Rattle.refusals.specs.Values.{constant_named, use_rules}
use Rattle.refusals.specs.Declarations.{declares}
use Rattle.refusals.specs.Ports.{task_named, output_of, port_named, argument_named, dotted_rules, place_rules, port_rules, argument_rules}
use Rattle.refusals.specs.Draft.{operand_of}
use Rattle.refusals.specs.Rules.{Env, grow}
use Rattle.accepted.specs.Folds.{Reaches, rows-first}
use Rattle.accepted.specs.Lists.{each_first, and-false}
use Rattle.accepted.specs.RowsFit.{named_in, use-known}
use Rattle.accepted.specs.Kinds.{Kind, kinds_in, no_kind, Placed}
use Rattle.accepted.specs.PortOrder.{kinds_of, role_of, types_are, roles-are}
use Rattle.accepted.specs.TypesFit.{Typed, clash-same, use-agrees}

map_at : (g : Kind → ℕ) (kinds : List Kind) (k : ℕ) → g no_kind ≡ 0 → get_or (map g kinds) k 0 ≡ g (get_or kinds k no_kind)
map_at g [] k z = sym z
map_at g (x ∷ kinds) zero z = refl
map_at g (x ∷ kinds) (suc k) z = map_at g kinds k z

-- what holds of all rows holds of those known so far
pub rows-each : {s : List ℕ} {all : List Row} {last : Env} (C : Row → Type 0) (env : Env) (item : Item) → last.rows ≡ all → Each C all → Reaches s all last (grow s all env item) → Each C env.rows
rows-each {s} {all} {last} C env item e h r =
    let (more, q) = rows-first (grow s all env item) r in
    each_first C env.rows (declares s env.rows item) (each_first C (env.rows ++ declares s env.rows item) more (rw (sym e ∙ q) at h))

module _ (M : Module) where
  abbrev pub roles_of : List ℕ
  roles_of = port_roles M.sensors M.actuators M.tasks

  abbrev pub types_of : List ℕ
  types_of = port_types M.sensors M.actuators M.tasks

  -- a row, its type, and what stands at its number
  pub record Clear (row : Row) : Type 0 where
    pub typed : Typed row
    pub type-there : is_port row ≡ true → get_or types_of row.value 0 ≡ row.typ
    pub role-there : is_port row ≡ true → get_or roles_of row.value 0 ≡ role_of row.sort

  pub rows-clear : (all : List Row) → kinds_in all ≡ kinds_of M.sensors M.actuators M.tasks → Each Typed all → Each (Placed all) all → Each Clear all
  rows-clear all e t p = each-zip Typed (Placed all) Clear clear all t p
    where
      clear : (row : Row) → Typed row → Placed all row → Clear row
      clear row t p =
          record {
            typed = t;
            type-there = λ i. rw (sym (types_are M.sensors M.actuators M.tasks), sym e) (map_at (λ k. k.typ) (kinds_in all) row.value refl ∙ ap (λ (k : Kind). k.typ) (p.there i));
            role-there = λ i. rw (sym (roles-are M.sensors M.actuators M.tasks), sym e) (map_at (λ k. role_of k.sort) (kinds_in all) row.value refl ∙ ap (λ (k : Kind). role_of k.sort) (p.there i));
          }

  -- a sensor or an output, for something of a wanted type
  pub record Source (wanted : ℕ) (row : Row) : Type 0 where
    pub role : is_source roles_of row.value ≡ true
    pub type-is : get_or types_of row.value 0 ≡ row.typ
    pub known : row.typ < 2
    pub agrees : wanted < 2 → wanted ≡ row.typ
    pub no-constant : eqb row.sort constant_sort ≡ false

  sensor-source : (wanted : ℕ) (row : Row) → row.sort ≡ sensor_sort → Clear row → clash wanted row.typ ≡ false → Source wanted row
  sensor-source wanted row q c e =
      let i : is_port row ≡ true = rw q in
      let k = c.typed.known (λ d. omega (arith, q, d)) (λ d. omega (arith, q, d)) in
      let r : get_or roles_of row.value 0 ≡ 1 = c.role-there i ∙ rw q in
      record { role = rw r; type-is = c.type-there i; known = k; agrees = λ l. clash-same wanted row.typ e l k; no-constant = rw q }

  output-source : (wanted : ℕ) (row : Row) → row.sort ≡ output_sort → Clear row → clash wanted row.typ ≡ false → Source wanted row
  output-source wanted row q c e =
      let i : is_port row ≡ true = rw q in
      let k = c.typed.known (λ d. omega (arith, q, d)) (λ d. omega (arith, q, d)) in
      let r : get_or roles_of row.value 0 ≡ 4 = c.role-there i ∙ rw q in
      record { role = rw r; type-is = c.type-there i; known = k; agrees = λ l. clash-same wanted row.typ e l k; no-constant = rw q }

  pub record Target (row : Row) : Type 0 where
    pub role : is_actuator roles_of row.value ≡ true
    pub type-is : get_or types_of row.value 0 ≡ row.typ
    pub known : row.typ < 2

  module _ (s : List ℕ) (rows : List Row) (clear : Each Clear rows) where
    pub actuator-target : (name : Name) → is_unknown (named s rows module_scope actuator_sort name) ≡ false → Target (named s rows module_scope actuator_sort name)
    actuator-target name u =
        let row = named s rows module_scope actuator_sort name in
        let (c, q) = named_in Clear s rows module_scope actuator_sort name clear u in
        let i : is_port row ≡ true = rw q in
        let r : get_or roles_of row.value 0 ≡ 2 = c.role-there i ∙ rw q in
        record { role = rw r; type-is = c.type-there i; known = c.typed.known (λ d. omega (arith, q, d)) (λ d. omega (arith, q, d)) }

    dotted-source : (wanted : ℕ) (port : Port) → first (dotted_rules wanted (task_named s rows port.first) (output_of s rows (task_named s rows port.first) port.second) port) ≡ Fine → Source wanted (output_of s rows (task_named s rows port.first) port.second)
    unfolding dotted_rules output_of
    dotted-source wanted port v =
        let task = task_named s rows port.first in
        let w = fine-one _ _ (fine-one _ _ v).1 in
        let (c, q) = named_in Clear s rows module_scope task_sort port.first clear w.0 in
        let k : is_known task ≡ true = rw q in
        let x = fine-one _ _ w.1 in
        let u = and-false _ _ k (fine-one _ _ (fine-one _ _ x.1).1).0 in
        let output = named s rows (task_scope task.value) output_sort port.second in
        let o : cond (is_known task) output unknown ≡ output = rw k in
        let (d, p) = named_in Clear s rows (task_scope task.value) output_sort port.second clear (rw o at u) in
        subst (λ (row : Row). Source wanted row) (sym o) (output-source wanted output p d (subst (λ (row : Row). clash wanted row.typ ≡ false) o x.0))

    pub port-source : (wanted : ℕ) (port : Port) → first (port_rules s rows wanted port) ≡ Fine → Source wanted (port_named s rows port)
    unfolding port_named place_rules
    port-source wanted port v = by port.dotted v
      where
        output : Row
        output = output_of s rows (task_named s rows port.first) port.second

        sensor : Row
        sensor = named s rows module_scope sensor_sort port.first

        by : (b : Bool) → first (cond b (dotted_rules wanted (task_named s rows port.first) (cond b output sensor) port) (use_rules wanted (cond b output sensor) port.first)) ≡ Fine → Source wanted (cond b output sensor)
        by true v = dotted-source wanted port v
        by false v = let (c, q) = named_in Clear s rows module_scope sensor_sort port.first clear (use-known wanted sensor port.first v) in sensor-source wanted sensor q c (use-agrees wanted sensor port.first v)

    -- an argument of a guard
    pub record Argued (wanted : ℕ) (row : Row) : Type 0 where
      pub good : good_argument roles_of (argument_of (operand_of row)) ≡ true
      pub type-is : argument_type types_of (argument_of (operand_of row)) ≡ row.typ
      pub known : row.typ < 2
      pub agrees : wanted < 2 → wanted ≡ row.typ

    port-argued : (wanted : ℕ) (row : Row) → Source wanted row → Argued wanted row
    port-argued wanted row h = record { good = rw h.no-constant h.role; type-is = rw h.no-constant h.type-is; known = h.known; agrees = h.agrees }

    constant-argued : (wanted : ℕ) (row : Row) → row.sort ≡ constant_sort → Clear row → clash wanted row.typ ≡ false → Argued wanted row
    constant-argued wanted row q c e =
        let k = c.typed.known (λ d. omega (arith, q, d)) (λ d. omega (arith, q, d)) in
        record { good = rw q (good (eqb row.typ boolean)); type-is = rw q (type-by (eqb row.typ boolean) refl k); known = k; agrees = λ l. clash-same wanted row.typ e l k }
      where
        good : (b : Bool) → good_argument roles_of (argument_of (O.Fixed (cond b (Flag (eqb row.value 1)) (value_of 0 row.value)))) ≡ true
        good true = refl
        good false = refl

        type-by : (b : Bool) → eqb row.typ boolean ≡ b → row.typ < 2 → argument_type types_of (argument_of (O.Fixed (cond b (Flag (eqb row.value 1)) (value_of 0 row.value)))) ≡ row.typ
        type-by true e l = sym (eqb-true row.typ boolean e)
        type-by false e l = let n = eqb-false row.typ boolean e in omega arith

    port-argued-by : (wanted : ℕ) (port : Port) (b : Bool) → port.dotted ≡ b → first (cond b (dotted_rules wanted (task_named s rows port.first) (port_named s rows port) port) (use_rules wanted (port_named s rows port) port.first)) ≡ Fine → Argued wanted (port_named s rows port)
    unfolding place_rules
    port-argued-by wanted port b e v = port-argued wanted (port_named s rows port) (port-source wanted port (subst (λ (d : Bool). first (cond d (dotted_rules wanted (task_named s rows port.first) (port_named s rows port) port) (use_rules wanted (port_named s rows port) port.first)) ≡ Fine) (sym e) v))

    pub argument-argued : (wanted : ℕ) (port : Port) → first (argument_rules s rows wanted port) ≡ Fine → Argued wanted (argument_named s rows port)
    unfolding argument_named place_rules
    argument-argued wanted port v = by port.dotted refl (is_known constant) v
      where
        constant : Row
        constant = constant_named s rows port.first

        meant : Row
        meant = port_named s rows port

        by : (b : Bool) → port.dotted ≡ b → (k : Bool) → first (cond b (dotted_rules wanted (task_named s rows port.first) (cond b meant (cond k constant meant)) port) (use_rules wanted (cond b meant (cond k constant meant)) port.first)) ≡ Fine
            → Argued wanted (cond b meant (cond k constant meant))
        by true e k v = port-argued-by wanted port _ e v
        by false e true v = let (c, q) = named_in Clear s rows module_scope constant_sort port.first clear (use-known wanted constant port.first v) in constant-argued wanted constant q c (use-agrees wanted constant port.first v)
        by false e false v = port-argued-by wanted port _ e v
