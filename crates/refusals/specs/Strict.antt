-- An activity's "[" stands before its digits, and a mode's first keyword before its name.
use Rattle.std.specs.Prelude.{ℕ, ◌<◌, ◌≡◌, List, Bool, cond, eqb, ltb}
use Rattle.std.proofs.Math.Path.{refl}
use Rattle.std.proofs.Math.Bool.{true, false}
use Rattle.std.proofs.Common.{arith, eqb-true}
use Rattle.text.specs.declared.Token.TheVariants as T
use Rattle.text.specs.declared.Got.{Got}
use Rattle.text.specs.declared.State.{State}
use Rattle.text.specs.declared.State.TheVariants as Q
use Rattle.text.specs.declared.Item.{Item}
use Rattle.text.specs.declared.Item.TheVariants as I
use Rattle.text.specs.declared.ReadItem.{ReadItem}
use Rattle.text.specs.Tokens.{stands, code_at}
use Rattle.text.specs.Expect.{from, want, closed, read}
use Rattle.text.proofs.ExpectLaws.{want-follows, any-follows, word-follows, either-follows}
use Rattle.text.specs.Productions.{past_port, port_at, period, freq, ms, us, module_at, constant_at, sensor_at, actuator_at, task_at, input_at, output_at, task_end_at, mode_of, mode_at, activity_at, guard_at, guard_arg_at, invoke_at, arg_at, update_at, switch_at}
use Rattle.text.specs.Items.{refused_at, section_of, portion_of, part_of, declaration_at, section_at, module_body_at, task_port_at, portion_at, task_body_at, head_at, part_at, mode_body_at, target_at, act_at, finish_at, item_at}

abbrev pub Strict : Item → Type 0
Strict (I.Module name) = Unit {0}
Strict I.Section = Unit {0}
Strict (I.Constant name value) = Unit {0}
Strict (I.Sensor typ name getter) = Unit {0}
Strict (I.Actuator typ name value setter) = Unit {0}
Strict (I.TaskBegin name) = Unit {0}
Strict (I.Input typ name) = Unit {0}
Strict (I.Output typ name value) = Unit {0}
Strict (I.TaskEnd name) = Unit {0}
Strict (I.ModeBegin start at name digits milli) = at < name.start
Strict (I.Activity kind at digits) = at < digits.start
Strict (I.Guard name arguments) = Unit {0}
Strict (I.GuardArg port) = Unit {0}
Strict (I.Invoke task arguments) = Unit {0}
Strict (I.Arg port) = Unit {0}
Strict (I.Update actuator source) = Unit {0}
Strict (I.Switch name) = Unit {0}
Strict I.ModeEnd = Unit {0}
Strict I.ModuleEnd = Unit {0}
Strict I.End = Unit {0}
Strict (I.No number at) = Unit {0}

-- of an item that was read
record Apart (r : ReadItem) : Type 0 where
  strict : Strict r.item

cond-strict : {x y : ReadItem} (b : Bool) → Apart x → Apart y → Apart (cond b x y)
cond-strict true p q = p
cond-strict false p q = q

closed-strict : (item : Item) (state : State) (last : Got) → (last.bad ≡ 0 → Strict item) → Apart (closed item state last)
unfolding closed
closed-strict item state last p = by (eqb last.bad 0) refl
  where
    by : (b : Bool) → eqb last.bad 0 ≡ b → Apart (cond b (read item state last.end) (read (I.No last.bad last.start) state last.end))
    by true e = record { strict = p (eqb-true _ _ e) }
    by false e = record { strict = tt }

module _ (s : List ℕ) (g : Got) where
  mode-of-strict : (start : Bool) (begin : ℕ) (word : Got) → (word.bad ≡ 0 → begin < word.end) → Apart (mode_of s start begin word)
  unfolding mode_of
  mode-of-strict start begin word o =
      closed-strict _ _ _ (λ z.
      let k = want-follows T.LeftBrace refl z in
      let j = want-follows T.RightBracket refl k.fine in
      let i = either-follows (word-follows ms) (word-follows us) j.fine in
      let e = want-follows T.Number refl i.fine in
      let d = want-follows T.Equals refl e.fine in
      let c = word-follows period d.fine in
      let b = want-follows T.LeftBracket refl c.fine in
      let a = want-follows T.Name refl b.fine in
      let p = o a.fine in
      omega arith)

  mode-strict : Apart (mode_at s g)
  unfolding mode_at
  mode-strict =
      cond-strict (stands T.KeyStart s g.end)
      (mode-of-strict true _ _ (λ z.
      let b = want-follows T.KeyMode refl z in
      let a = any-follows b.fine in
      omega arith))
      (mode-of-strict false _ _ (λ z.
      let a = want-follows T.KeyMode refl z in
      omega arith))

  activity-strict : (k : ℕ) → Apart (activity_at s k g)
  unfolding activity_at
  activity-strict k = closed-strict _ _ _ (λ z.
      let e = want-follows T.RightBracket refl z in
      let d = want-follows T.Number refl e.fine in
      let c = want-follows T.Equals refl d.fine in
      let b = word-follows freq c.fine in
      let a = want-follows T.LeftBracket refl b.fine in
      omega arith)

  plain : (item : Item) (state : State) (last : Got) → Strict item → Apart (closed item state last)
  plain item state last p = closed-strict item state last (λ z. p)

  refused-strict : Apart (refused_at s g)
  unfolding refused_at
  refused-strict = plain _ _ _ tt

  module-strict : Apart (module_at s g)
  unfolding module_at
  module-strict = plain _ _ _ tt

  module-body-strict : (k : ℕ) → Apart (module_body_at s k g)
  unfolding module_body_at declaration_at section_at constant_at sensor_at actuator_at task_at
  module-body-strict k =
      let w = section_of (code_at s g.end) in
      cond-strict (stands T.Name s g.end)
      (cond-strict (eqb k 2) (plain _ _ _ tt) (cond-strict (eqb k 3) (plain _ _ _ tt) (cond-strict (eqb k 4) (plain _ _ _ tt) refused-strict)))
      (cond-strict (ltb w k) refused-strict (cond-strict (eqb w 5) (plain _ _ _ tt) (cond-strict (eqb w 6) mode-strict (cond-strict (eqb w 7) (plain _ _ _ tt) (plain _ _ _ tt)))))

  task-body-strict : (k : ℕ) → Apart (task_body_at s k g)
  unfolding task_body_at task_port_at portion_at input_at output_at task_end_at
  task-body-strict k =
      let w = portion_of (code_at s g.end) in
      cond-strict (stands T.Name s g.end)
      (cond-strict (eqb k 2) (plain _ _ _ tt) (cond-strict (eqb k 3) (plain _ _ _ tt) refused-strict))
      (cond-strict (ltb w k) refused-strict (cond-strict (eqb w 4) (plain _ _ _ tt) (plain _ _ _ tt)))

  mode-body-strict : (k : ℕ) → Apart (mode_body_at s k g)
  unfolding mode_body_at head_at part_at
  mode-body-strict k =
      let w = part_of (code_at s g.end) in
      cond-strict (stands T.LeftBracket s g.end)
      (cond-strict (eqb k 1) refused-strict (activity-strict k))
      (cond-strict (ltb w k) refused-strict (cond-strict (eqb w 5) (plain _ _ _ tt) (plain _ _ _ tt)))

  target-strict : (k : ℕ) → Apart (target_at s k g)
  unfolding target_at invoke_at update_at switch_at
  target-strict k =
      let paren = want T.LeftParen s (want T.Name s g) in
      cond-strict (eqb k 2) (cond-strict (stands T.RightParen s paren.end) (plain _ _ _ tt) (plain _ _ _ tt)) (cond-strict (eqb k 3) (plain _ _ _ tt) (plain _ _ _ tt))

  act-strict : (k : ℕ) → Apart (act_at s k g)
  unfolding act_at guard_at
  act-strict k =
      let paren = want T.LeftParen s (want T.Name s (want T.KeyIf s g)) in
      cond-strict (stands T.KeyIf s g.end) (cond-strict (stands T.RightParen s paren.end) (plain _ _ _ tt) (plain _ _ _ tt)) (target-strict k)

  guard-arg-strict : (k : ℕ) → Apart (guard_arg_at s k g)
  unfolding guard_arg_at
  guard-arg-strict k = cond-strict (stands T.Comma s (past_port (port_at s g)).end) (plain _ _ _ tt) (plain _ _ _ tt)

  arg-strict : Apart (arg_at s g)
  unfolding arg_at
  arg-strict = cond-strict (stands T.Comma s (past_port (port_at s g)).end) (plain _ _ _ tt) (plain _ _ _ tt)

  finish-strict : Apart (finish_at s g)
  unfolding finish_at
  finish-strict = plain _ _ _ tt

pub item-strict : (s : List ℕ) (state : State) (at : ℕ) → Strict (item_at s state at).item
unfolding item_at
item-strict s Q.Begin at = (module-strict s (from at)).strict
item-strict s (Q.Module k) at = (module-body-strict s (from at) k).strict
item-strict s (Q.Task k) at = (task-body-strict s (from at) k).strict
item-strict s (Q.Mode k) at = (mode-body-strict s (from at) k).strict
item-strict s (Q.Act k) at = (act-strict s (from at) k).strict
item-strict s (Q.Guarded k) at = (target-strict s (from at) k).strict
item-strict s (Q.GuardArgs k) at = (guard-arg-strict s (from at) k).strict
item-strict s Q.Args at = (arg-strict s (from at)).strict
item-strict s Q.Finish at = (finish-strict s (from at)).strict
