-- The names that an item declares are names.
use Rattle.std.specs.Prelude.{ℕ, ◌≡◌, List, Bool, cond, ltb}
use Rattle.std.proofs.Math.Path.{refl}
use Rattle.std.proofs.Math.Bool.{true, false}
use Rattle.std.proofs.Common.{eqb-true}
use Rattle.std.proofs.lemmas.Bool.{eqb-false}
use Rattle.std.proofs.Math.Dec.{eqb}
use Rattle.text.specs.declared.Token.TheVariants as T
use Rattle.text.specs.declared.Name.{Name}
use Rattle.text.specs.declared.Got.{Got}
use Rattle.text.specs.declared.State.{State}
use Rattle.text.specs.declared.State.TheVariants as Q
use Rattle.text.specs.declared.Item.{Item}
use Rattle.text.specs.declared.Item.TheVariants as I
use Rattle.text.specs.declared.ReadItem.{ReadItem}
use Rattle.text.specs.Tokens.{token_at, code_at, is, stands}
use Rattle.text.specs.Expect.{got, from, refusal, want, closed, read}
use Rattle.text.proofs.ExpectLaws.{refusal-bad, want-follows, any-follows, word-follows, either-follows}
use Rattle.text.specs.Productions.{past_port, port_at, period, ms, us, truth_at, minus_at, number_at, named_at, literal_at, module_at, constant_at, sensor_at, actuator_at, task_at, input_at, output_at, task_end_at, mode_of, mode_at, activity_at, guard_at, guard_arg_at, invoke_at, arg_at, update_at, switch_at}
use Rattle.text.specs.Items.{refused_at, section_of, portion_of, part_of, declaration_at, section_at, module_body_at, task_port_at, portion_at, task_body_at, head_at, part_at, mode_body_at, target_at, act_at, finish_at, item_at}
use Rattle.accepted.specs.NameTokens.{WordAt, name-token}

abbrev pub Word : List ℕ → Name → Type 0
Word s name = WordAt s name.start name.end

-- the names that the file holds
abbrev pub Worded : List ℕ → Item → Type 0
Worded s (I.Module name) = Word s name
Worded s I.Section = Unit {0}
Worded s (I.Constant name value) = Unit {0}
Worded s (I.Sensor typ name getter) = Word s name × Word s getter
Worded s (I.Actuator typ name value setter) = Word s name × Word s setter
Worded s (I.TaskBegin name) = Word s name
Worded s (I.Input typ name) = Unit {0}
Worded s (I.Output typ name value) = Word s name
Worded s (I.TaskEnd name) = Word s name
Worded s (I.ModeBegin start at name digits milli) = Word s name
Worded s (I.Activity kind at digits) = Unit {0}
Worded s (I.Guard name many) = Unit {0}
Worded s (I.GuardArg port) = Unit {0}
Worded s (I.Invoke task many) = Unit {0}
Worded s (I.Arg port) = Unit {0}
Worded s (I.Update target source) = Unit {0}
Worded s (I.Switch name) = Unit {0}
Worded s I.ModeEnd = Unit {0}
Worded s I.ModuleEnd = Unit {0}
Worded s I.End = Unit {0}
Worded s (I.No number at) = Unit {0}

record Spoken (s : List ℕ) (r : ReadItem) : Type 0 where
  spoken : Worded s r.item

module _ (s : List ℕ) where
  cond-spoken : {x y : ReadItem} (b : Bool) → Spoken s x → Spoken s y → Spoken s (cond b x y)
  cond-spoken true p q = p
  cond-spoken false p q = q

  closed-spoken : (item : Item) (state : State) (last : Got) → (last.bad ≡ 0 → Worded s item) → Spoken s (closed item state last)
  unfolding closed
  closed-spoken item state last p = by (eqb last.bad 0) refl
    where
      by : (b : Bool) → eqb last.bad 0 ≡ b → Spoken s (cond b (read item state last.end) (read (I.No last.bad last.start) state last.end))
      by true e = record { spoken = p (eqb-true _ _ e) }
      by false e = record { spoken = tt }

  silent : (item : Item) (state : State) (last : Got) → Worded s item → Spoken s (closed item state last)
  silent item state last p = closed-spoken item state last (λ z. p)

  -- a name that was wanted and stood there
  want-word : (g : Got) → (want T.Name s g).bad ≡ 0 → WordAt s (want T.Name s g).start (want T.Name s g).end
  unfolding want
  want-word g z = by (eqb g.bad 0) refl (is T.Name (token_at s g.end)) refl z
    where
      by : (b : Bool) → eqb g.bad 0 ≡ b → (d : Bool) → is T.Name (token_at s g.end) ≡ d → (cond b (cond d (got 0 (token_at s g.end).start (token_at s g.end).end) (refusal (token_at s g.end))) g).bad ≡ 0
          → WordAt s (cond b (cond d (got 0 (token_at s g.end).start (token_at s g.end).end) (refusal (token_at s g.end))) g).start (cond b (cond d (got 0 (token_at s g.end).start (token_at s g.end).end) (refusal (token_at s g.end))) g).end
      by false e d q z = absurd (eqb-false _ _ e z)
      by true e false q z = absurd (refusal-bad _ z)
      by true e true q z = name-token s g.end (eqb-true (code_at s g.end) 0 q)

  -- behind a value that was read nothing was refused before it
  literal-fine : (g : Got) → (literal_at s g).bad ≡ 0 → g.bad ≡ 0
  unfolding literal_at truth_at minus_at number_at named_at
  literal-fine g = by (stands T.KeyTrue s g.end) (stands T.KeyFalse s g.end) (stands T.Minus s g.end) (stands T.Number s g.end)
    where
      by : (a b c d : Bool) → (cond a (truth_at s g true) (cond b (truth_at s g false) (cond c (minus_at s g) (cond d (number_at s g) (named_at s g))))).bad ≡ 0 → g.bad ≡ 0
      by true b c d z = (any-follows {s = s} {g = g} z).fine
      by false true c d z = (any-follows {s = s} {g = g} z).fine
      by false false true d z = (want-follows T.Minus {s = s} {g = g} refl (want-follows T.Number {s = s} {g = want T.Minus s g} refl z).fine).fine
      by false false false true z = (want-follows T.Number {s = s} {g = g} refl z).fine
      by false false false false z = (want-follows T.Name {s = s} {g = g} refl z).fine

  module _ (g : Got) where
    module-spoken : Spoken s (module_at s g)
    unfolding module_at
    module-spoken = closed-spoken _ _ _ (λ z. want-word _ (want-follows T.LeftBrace refl z).fine)

    sensor-spoken : Spoken s (sensor_at s g)
    unfolding sensor_at
    sensor-spoken = closed-spoken _ _ _ (λ z.
        let e = want-follows T.Semicolon refl z in
        let d = want-follows T.Name refl e.fine in
        let c = want-follows T.KeyUses refl d.fine in
        (want-word _ c.fine, want-word _ e.fine))

    actuator-spoken : Spoken s (actuator_at s g)
    unfolding actuator_at
    actuator-spoken = closed-spoken _ _ _ (λ z.
        let m = want-follows T.Semicolon refl z in
        let l = want-follows T.Name refl m.fine in
        let k = want-follows T.KeyUses refl l.fine in
        let d = literal-fine (want T.Becomes s (want T.Name s (want T.Name s g))) k.fine in
        (want-word _ (want-follows T.Becomes refl d).fine, want-word _ m.fine))

    task-spoken : Spoken s (task_at s g)
    unfolding task_at
    task-spoken = closed-spoken _ _ _ (λ z. want-word _ (want-follows T.LeftBrace refl z).fine)

    output-spoken : Spoken s (output_at s g)
    unfolding output_at
    output-spoken = closed-spoken _ _ _ (λ z.
        let k = want-follows T.Semicolon refl z in
        let d = literal-fine (want T.Becomes s (want T.Name s (want T.Name s g))) k.fine in
        want-word _ (want-follows T.Becomes refl d).fine)

    task-end-spoken : Spoken s (task_end_at s g)
    unfolding task_end_at
    task-end-spoken = closed-spoken _ _ _ (λ z. want-word _ (want-follows T.Semicolon refl (want-follows T.RightBrace refl z).fine).fine)

    mode-of-spoken : (start : Bool) (begin : ℕ) (word : Got) → Spoken s (mode_of s start begin word)
    unfolding mode_of
    mode-of-spoken start begin word = closed-spoken _ _ _ (λ z.
        let k = want-follows T.LeftBrace refl z in
        let j = want-follows T.RightBracket refl k.fine in
        let i = either-follows (word-follows ms) (word-follows us) j.fine in
        let e = want-follows T.Number refl i.fine in
        let d = want-follows T.Equals refl e.fine in
        let c = word-follows period d.fine in
        let b = want-follows T.LeftBracket refl c.fine in
        want-word _ b.fine)

    mode-spoken : Spoken s (mode_at s g)
    unfolding mode_at
    mode-spoken = cond-spoken (stands T.KeyStart s g.end) (mode-of-spoken true _ _) (mode-of-spoken false _ _)

    refused-spoken : Spoken s (refused_at s g)
    unfolding refused_at
    refused-spoken = silent _ _ _ tt

    module-body-spoken : (k : ℕ) → Spoken s (module_body_at s k g)
    unfolding module_body_at declaration_at section_at constant_at
    module-body-spoken k =
        let w = section_of (code_at s g.end) in
        cond-spoken (stands T.Name s g.end)
        (cond-spoken (eqb k 2) (silent _ _ _ tt) (cond-spoken (eqb k 3) sensor-spoken (cond-spoken (eqb k 4) actuator-spoken refused-spoken)))
        (cond-spoken (ltb w k) refused-spoken (cond-spoken (eqb w 5) task-spoken (cond-spoken (eqb w 6) mode-spoken (cond-spoken (eqb w 7) (silent _ _ _ tt) (silent _ _ _ tt)))))

    task-body-spoken : (k : ℕ) → Spoken s (task_body_at s k g)
    unfolding task_body_at task_port_at portion_at input_at
    task-body-spoken k =
        let w = portion_of (code_at s g.end) in
        cond-spoken (stands T.Name s g.end)
        (cond-spoken (eqb k 2) (silent _ _ _ tt) (cond-spoken (eqb k 3) output-spoken refused-spoken))
        (cond-spoken (ltb w k) refused-spoken (cond-spoken (eqb w 4) task-end-spoken (silent _ _ _ tt)))

    mode-body-spoken : (k : ℕ) → Spoken s (mode_body_at s k g)
    unfolding mode_body_at head_at part_at activity_at
    mode-body-spoken k =
        let w = part_of (code_at s g.end) in
        cond-spoken (stands T.LeftBracket s g.end)
        (cond-spoken (eqb k 1) refused-spoken (silent _ _ _ tt))
        (cond-spoken (ltb w k) refused-spoken (cond-spoken (eqb w 5) (silent _ _ _ tt) (silent _ _ _ tt)))

    target-spoken : (k : ℕ) → Spoken s (target_at s k g)
    unfolding target_at invoke_at update_at switch_at
    target-spoken k =
        let paren = want T.LeftParen s (want T.Name s g) in
        cond-spoken (eqb k 2) (cond-spoken (stands T.RightParen s paren.end) (silent _ _ _ tt) (silent _ _ _ tt)) (cond-spoken (eqb k 3) (silent _ _ _ tt) (silent _ _ _ tt))

    act-spoken : (k : ℕ) → Spoken s (act_at s k g)
    unfolding act_at guard_at
    act-spoken k =
        let paren = want T.LeftParen s (want T.Name s (want T.KeyIf s g)) in
        cond-spoken (stands T.KeyIf s g.end) (cond-spoken (stands T.RightParen s paren.end) (silent _ _ _ tt) (silent _ _ _ tt)) (target-spoken k)

    guard-arg-spoken : (k : ℕ) → Spoken s (guard_arg_at s k g)
    unfolding guard_arg_at
    guard-arg-spoken k = cond-spoken (stands T.Comma s (past_port (port_at s g)).end) (silent _ _ _ tt) (silent _ _ _ tt)

    arg-spoken : Spoken s (arg_at s g)
    unfolding arg_at
    arg-spoken = cond-spoken (stands T.Comma s (past_port (port_at s g)).end) (silent _ _ _ tt) (silent _ _ _ tt)

    finish-spoken : Spoken s (finish_at s g)
    unfolding finish_at
    finish-spoken = silent _ _ _ tt

pub item-worded : (s : List ℕ) (q : State) (at : ℕ) → Worded s (item_at s q at).item
unfolding item_at
item-worded s Q.Begin at = (module-spoken s (from at)).spoken
item-worded s (Q.Module k) at = (module-body-spoken s (from at) k).spoken
item-worded s (Q.Task k) at = (task-body-spoken s (from at) k).spoken
item-worded s (Q.Mode k) at = (mode-body-spoken s (from at) k).spoken
item-worded s (Q.Act k) at = (act-spoken s (from at) k).spoken
item-worded s (Q.Guarded k) at = (target-spoken s (from at) k).spoken
item-worded s (Q.GuardArgs k) at = (guard-arg-spoken s (from at) k).spoken
item-worded s Q.Args at = (arg-spoken s (from at)).spoken
item-worded s Q.Finish at = (finish-spoken s (from at)).spoken
