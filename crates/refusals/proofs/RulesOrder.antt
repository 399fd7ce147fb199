-- The rules of a text stand in text order, so that the answer is the leftmost.
use Rattle.std.specs.Prelude.{ℕ, zero, suc, ◌+◌, ◌-◌, ◌*◌, ◌≤◌, ◌<◌, ◌≡◌, List, [], ◌∷◌, ◌++◌, Bool, cond, length}
use Rattle.std.proofs.Math.Path.{refl}
use Rattle.std.proofs.Math.Bool.{true, false}
use native.Mathlib.Omega.{arith}
use Rattle.text.specs.declared.Name.{Name}
use Rattle.text.specs.declared.Port.{Port}
use Rattle.text.specs.declared.Literal.{Literal}
use Rattle.text.specs.declared.Literal.TheVariants.{Truth, Number, Named}
use Rattle.text.specs.declared.State.{State}
use Rattle.text.specs.declared.State.TheVariants as Q
use Rattle.text.specs.declared.Item.{Item}
use Rattle.text.specs.declared.Item.TheVariants as I
use Rattle.text.specs.Laid.{NameLaid, PortLaid, LiteralLaid, Laid}
use Rattle.text.specs.Items.{item_at, goes, onto, items_in, items_of}
use Rattle.text.proofs.Advance.{item-ahead, item-laid}
use Rattle.model.specs.Modules.{Mode}
use Rattle.refusals.specs.declared.Row.{Row}
use Rattle.refusals.specs.Checks.{Check, Cause, Leftmost}
use Rattle.refusals.specs.Names.{constant_sort, sensor_sort, actuator_sort, task_sort, mode_sort, input_sort, output_sort, no_type}
use Rattle.refusals.specs.Refusals.{long_name}
use Rattle.refusals.specs.Values.{type_named, type_rules, use_rules, value_rules}
use Rattle.refusals.specs.Declarations.{new_rules, new_port_rules}
use Rattle.refusals.specs.Ports.{task_named, dotted_rules, place_rules}
use Rattle.refusals.specs.Activities.{start_rules, period_rules, head_rules, guard_rules, invoke_rules, actuator_named, actuator_rules, target_rules, end_rules}
use Rattle.refusals.specs.Rules.{Env, nothing, grow, rules, rules_from}
use Rattle.refusals.specs.Texts.{all_rules, verdict_of, declared_by}
use Rattle.refusals.specs.Order.{Chain, inside, chain-append, chain-leftmost}
use Rattle.refusals.specs.Strict.{Strict, item-strict}

-- before every rule of a place
abbrev before : ℕ → ℕ
before at = at * 32

-- ---- part by part, where the parts stand from lo up to hi
module _ (lo hi : ℕ) where
  name-chain : (name : Name) → NameLaid lo hi name → Chain (before lo) (long_name name ∷ []) (before hi)
  name-chain name l = omega arith

  type-chain : (s : List ℕ) (name : Name) → NameLaid lo hi name → Chain (before lo) (type_rules s name) (before hi)
  unfolding type_rules
  type-chain s name l = omega arith

  use-chain : (wanted : ℕ) (row : Row) (name : Name) → NameLaid lo hi name → Chain (before lo) (use_rules wanted row name) (before hi)
  unfolding use_rules
  use-chain wanted row name l = omega arith

  value-chain : (s : List ℕ) (rows : List Row) (wanted : ℕ) (literal : Literal) → LiteralLaid lo hi literal → Chain (before lo) (value_rules s rows wanted literal) (before hi)
  unfolding value_rules
  value-chain s rows wanted (Truth at truth) l = omega arith
  value-chain s rows wanted (Number at digits minus) l = omega arith
  value-chain s rows wanted (Named name) l = use-chain wanted _ name l

  new-chain : (s : List ℕ) (rows : List Row) (sort : ℕ) (name : Name) → NameLaid lo hi name → Chain (before lo) (new_rules s rows sort name) (before hi)
  unfolding new_rules
  new-chain s rows sort name l = omega arith

  new-port-chain : (s : List ℕ) (rows : List Row) (sort : ℕ) (name : Name) → NameLaid lo hi name → Chain (before lo) (new_port_rules s rows sort name) (before hi)
  unfolding new_port_rules
  new-port-chain s rows sort name l = omega arith

  dotted-chain : (wanted : ℕ) (task output : Row) (port : Port) → NameLaid lo hi port.first → NameLaid port.first.end hi port.second → Chain (before lo) (dotted_rules wanted task output port) (before hi)
  unfolding dotted_rules
  dotted-chain wanted task output port l m = omega arith

  place-chain : (s : List ℕ) (rows : List Row) (wanted : ℕ) (row : Row) (port : Port) → PortLaid lo hi port → Chain (before lo) (place_rules s rows wanted row port) (before hi)
  unfolding place_rules
  place-chain s rows wanted row port l = by port.dotted refl
    where
      by : (b : Bool) → port.dotted ≡ b → Chain (before lo) (cond b (dotted_rules wanted (task_named s rows port.first) row port) (use_rules wanted row port.first)) (before hi)
      by true e = dotted-chain wanted _ row port l.first (l.second e)
      by false e = use-chain wanted row port.first l.first

  start-chain : (started start : Bool) (at : ℕ) → lo ≤ at → at < hi → Chain (before lo) (start_rules started start at) (before hi)
  unfolding start_rules
  start-chain started start at l m = omega arith

  period-chain : (s : List ℕ) (digits : Name) (milli : Bool) → NameLaid lo hi digits → Chain (before lo) (period_rules s digits milli) (before hi)
  unfolding period_rules
  period-chain s digits milli l = omega arith

  head-chain : (mode : Mode) (kind at frequency : ℕ) (digits : Name) → lo ≤ at → at < digits.start → NameLaid at hi digits → Chain (before lo) (head_rules mode kind at frequency digits) (before hi)
  unfolding head_rules
  head-chain mode kind at frequency digits l m n = omega arith

  guard-chain : (number : ℕ) (name : Name) (arguments : ℕ) → NameLaid lo hi name → Chain (before lo) (guard_rules number name arguments) (before hi)
  unfolding guard_rules
  guard-chain number name arguments l = omega arith

  invoke-chain : (rows : List Row) (mode : Mode) (task : Row) (name : Name) (arguments : ℕ) → NameLaid lo hi name → Chain (before lo) (invoke_rules rows mode task name arguments) (before hi)
  unfolding invoke_rules
  invoke-chain rows mode task name arguments l = omega arith

  actuator-chain : (mode : Mode) (actuator : Row) (name : Name) → NameLaid lo hi name → Chain (before lo) (actuator_rules mode actuator name) (before hi)
  unfolding actuator_rules
  actuator-chain mode actuator name l = omega arith

  target-chain : (mode : Row) (name : Name) → NameLaid lo hi name → Chain (before lo) (target_rules mode name) (before hi)
  unfolding target_rules
  target-chain mode name l = omega arith

-- ---- item by item

-- behind the last rule of a text
abbrev behind : List ℕ → ℕ
behind s = before (length s) + 32

-- one part behind the other
joined : (lo mid hi : ℕ) (cs ds : List Check) → Chain (before lo) cs (before mid) → Chain (before mid) ds (before hi) → Chain (before lo) (cs ++ ds) (before hi)
joined lo mid hi = chain-append (before lo) (before mid) (before hi)

-- a name alone, up to where it ends
own : {lo hi : ℕ} {name : Name} → NameLaid lo hi name → NameLaid lo name.end name
own l = record { low = l.low; some = l.some; high = omega arith }

-- a name from where it starts
onward : {lo hi : ℕ} {name : Name} → NameLaid lo hi name → NameLaid name.start hi name
onward l = record { low = omega arith; some = l.some; high = l.high }

-- the rules of an item stand from its place up to the next; the last may stand at the text's length
module _ (s : List ℕ) (all : List Row) (env : Env) (at next : ℕ) where
  sensor-chain : (typ name getter : Name) → Laid at next (I.Sensor typ name getter) → Chain (before at) (rules s all env (I.Sensor typ name getter)) (before next)
  sensor-chain typ name getter l =
      joined at name.start next (type_rules s typ) _ (type-chain at name.start s typ l.0)
      (joined name.start getter.start next (new_rules s env.rows sensor_sort name) _ (new-chain name.start getter.start s env.rows sensor_sort name (onward l.1))
      (name-chain getter.start next getter (onward l.2)))

  actuator-item-chain : (typ name : Name) (value : Literal) (setter : Name) → Laid at next (I.Actuator typ name value setter) → Chain (before at) (rules s all env (I.Actuator typ name value setter)) (before next)
  actuator-item-chain typ name value setter l =
      joined at name.start next (type_rules s typ) _ (type-chain at name.start s typ l.0)
      (joined name.start name.end next (new_rules s env.rows actuator_sort name) _ (new-chain name.start name.end s env.rows actuator_sort name (onward (own l.1)))
      (joined name.end setter.start next (value_rules s env.rows (type_named s typ) value) _ (value-chain name.end setter.start s env.rows (type_named s typ) value l.2)
      (name-chain setter.start next setter (onward l.3))))

  input-chain : (typ name : Name) → Laid at next (I.Input typ name) → Chain (before at) (rules s all env (I.Input typ name)) (before next)
  input-chain typ name l =
      joined at name.start next (type_rules s typ) _ (type-chain at name.start s typ l.0)
      (new-port-chain name.start next s env.rows input_sort name (onward l.1))

  output-chain : (typ name : Name) (value : Literal) → Laid at next (I.Output typ name value) → Chain (before at) (rules s all env (I.Output typ name value)) (before next)
  output-chain typ name value l =
      joined at name.start next (type_rules s typ) _ (type-chain at name.start s typ l.0)
      (joined name.start name.end next (new_port_rules s env.rows output_sort name) _ (new-port-chain name.start name.end s env.rows output_sort name (onward (own l.1)))
      (value-chain name.end next s env.rows (type_named s typ) value l.2))

  mode-chain : (start : Bool) (begin : ℕ) (name digits : Name) (milli : Bool) → begin < name.start → Laid at next (I.ModeBegin start begin name digits milli) → Chain (before at) (rules s all env (I.ModeBegin start begin name digits milli)) (before next)
  mode-chain start begin name digits milli k l =
      joined at name.start next (start_rules env.draft.started start begin) _ (start-chain at name.start env.draft.started start begin l.0 k)
      (joined name.start digits.start next (new_rules s env.rows mode_sort name) _ (new-chain name.start digits.start s env.rows mode_sort name (onward l.1))
      (period-chain digits.start next s digits milli (onward l.2)))

  update-chain : (actuator : Name) (source : Port) → Laid at next (I.Update actuator source) → Chain (before at) (rules s all env (I.Update actuator source)) (before next)
  update-chain actuator source l =
      let row = actuator_named s env.rows actuator in
      joined at actuator.end next (actuator_rules env.draft.mode row actuator) _ (actuator-chain at actuator.end env.draft.mode row actuator (own l.0))
      (place-chain actuator.end next s env.rows _ _ source l.1)

  item-chain : (item : Item) → at ≤ length s → (goes item ≡ true → Laid at next item) → Strict item → Chain (before at) (rules s all env item) (cond (goes item) (before next) (behind s))
  unfolding end_rules
  item-chain (I.Module name) h l k = name-chain at next name (l refl)
  item-chain I.Section h l k = let m = l refl in omega arith
  item-chain (I.Constant name value) h l k =
      joined at name.end next (new_rules s env.rows constant_sort name) _ (new-chain at name.end s env.rows constant_sort name (own (l refl).0))
      (value-chain name.end next s env.rows no_type value (l refl).1)
  item-chain (I.Sensor typ name getter) h l k = sensor-chain typ name getter (l refl)
  item-chain (I.Actuator typ name value setter) h l k = actuator-item-chain typ name value setter (l refl)
  item-chain (I.TaskBegin name) h l k = new-chain at next s env.rows task_sort name (l refl)
  item-chain (I.Input typ name) h l k = input-chain typ name (l refl)
  item-chain (I.Output typ name value) h l k = output-chain typ name value (l refl)
  item-chain (I.TaskEnd name) h l k = name-chain at next name (l refl)
  item-chain (I.ModeBegin start begin name digits milli) h l k = mode-chain start begin name digits milli k (l refl)
  item-chain (I.Activity kind begin digits) h l k = head-chain at next _ kind begin _ digits (l refl).0 k (l refl).1
  item-chain (I.Guard name arguments) h l k = guard-chain at next _ name arguments (l refl)
  item-chain (I.GuardArg port) h l k = place-chain at next s env.rows _ _ port (l refl)
  item-chain (I.Invoke task arguments) h l k = invoke-chain at next env.rows _ _ task arguments (l refl)
  item-chain (I.Arg port) h l k = place-chain at next s env.rows _ _ port (l refl)
  item-chain (I.Update actuator source) h l k = update-chain actuator source (l refl)
  item-chain (I.Switch name) h l k = target-chain at next _ name (l refl)
  item-chain I.ModeEnd h l k = let m = l refl in omega arith
  item-chain I.ModuleEnd h l k = let m = l refl in omega arith
  item-chain I.End h l k = omega arith
  item-chain (I.No number offset) h l k = omega arith

-- ---- the whole text

chain-from : (fuel : ℕ) (s : List ℕ) (all : List Row) (env : Env) (state : State) (at : ℕ) → at ≤ length s → Chain (before at) (rules_from s all env (items_in fuel s state at)) (behind s)
unfolding rules_from items_in
chain-from zero s all env state at h = omega arith
chain-from (suc fuel) s all env state at h =
    by (goes item) refl (item-chain s all env at next item h (item-laid s state at h) (item-strict s state at)) (chain-from fuel s all (grow s all env item) (item_at s state at).state next)
  where
    item : Item
    item = (item_at s state at).item

    next : ℕ
    next = (item_at s state at).next

    by : (b : Bool) → goes item ≡ b → Chain (before at) (rules s all env item) (cond b (before next) (behind s)) → (next ≤ length s → Chain (before next) (rules_from s all (grow s all env item) (items_in fuel s (item_at s state at).state next)) (behind s)) → Chain (before at) (rules_from s all env (onto b item (items_in fuel s (item_at s state at).state next))) (behind s)
    by true e c on = chain-append (before at) (before next) (behind s) (rules s all env item) _ c (on (item-ahead s state at h e).1)
    by false e c on = chain-append (before at) (behind s) (behind s) (rules s all env item) [] c (omega arith)

text-chain : (s : List ℕ) → Chain (before 0) (all_rules s) (behind s)
text-chain s = chain-from (length s + 1 - 0) s (declared_by s (items_of s)) nothing Q.Begin 0 (omega arith)

-- The answer is the leftmost of 4 to 12, at equal offsets the lowest number.
pub verdict-leftmost : (s : List ℕ) → Leftmost (all_rules s) (verdict_of s)
verdict-leftmost s = chain-leftmost (before 0) (behind s) (all_rules s) (text-chain s)

-- Every rule has a number from 4 to 12 and stands in the text or at its end.
pub cause-listed : (s : List ℕ) (number at : ℕ) → Cause (all_rules s) number at → (4 ≤ number) × (number ≤ 12) × (at ≤ length s)
cause-listed s number at e =
    let i = inside (before 0) (behind s) (all_rules s) (text-chain s) number at e in
    (i.1.0, i.1.1, omega (arith, i.1.0, i.2))
