-- In each state the item that is read is the one that the grammar reads there, or the refusal is its own.
use Rattle.std.specs.Prelude.{ℕ, ◌≡◌, List, [], Bool, ltb}
use Rattle.std.proofs.Math.Path.{refl}
use Rattle.std.proofs.Math.Bool.{true, false, cond}
use Rattle.std.proofs.Math.Dec.{eqb}
use Rattle.text.specs.declared.Token.TheVariants as T
use Rattle.text.specs.declared.Got.{Got}
use Rattle.text.specs.declared.State.{State}
use Rattle.text.specs.declared.State.TheVariants as Q
use Rattle.text.specs.declared.Item.{Item}
use Rattle.text.specs.declared.Item.TheVariants as I
use Rattle.text.specs.declared.ReadItem.{ReadItem}
use Rattle.text.specs.Tokens.{token_at, code_at, is, stands}
use Rattle.text.specs.Expect.{from, refusal, want, closed}
use Rattle.text.proofs.ExpectLaws.{refusal-bad}
use Rattle.text.specs.WantLaws.{want-took, want-refused, closed-took, closed-refused}
use Rattle.text.specs.Productions.{constant_at, sensor_at, actuator_at, input_at, output_at, activity_at, invoke_at, update_at, switch_at}
use Rattle.text.specs.Items.{refused_at, section_of, portion_of, part_of, declaration_at, section_at, module_body_at, task_port_at, portion_at, task_body_at, head_at, part_at, mode_body_at, target_at, act_at, finish_at, item_at}
use Rattle.grammar.specs.Expressions.{Expression, ◌⊙◌, many, reads}
use Rattle.grammar.specs.Making.{as_activity, as_mode_end, as_module_end, as_end, with_count}
use Rattle.grammar.specs.Grammar.{lit, word, number, end, opt, section, Guard, Act, Input, Output, Invoke, Update, Switch, Constant, Sensor, Actuator, Module}
use Rattle.grammar.specs.Firsts.{firsts}
use Rattle.grammar.specs.Readings.{Goes, end_goes, keep, lose, keep-goes, lose-goes, fork, none-goes, last_goes}
use Rattle.grammar.specs.States.{modes, actuators, sensors, constants, outputs, inputs, switches, updates, invocations, unless, InModule, InTask, Does, InMode, Known, begins, in-module, in-task, in-mode, in-act, guarded, in-guard, in-call, finishes, module-2, module-3, module-4, module-6, task-2, task-3, mode-2, mode-3, mode-4}
use Rattle.grammar.specs.Taken.{got_at}
use Rattle.grammar.specs.Operands.{Reads, out, ends}
use Rattle.grammar.proofs.Operands.{pick, closed-reads, refused-reads, section-goes}
use Rattle.grammar.proofs.DeclarationSteps.{module-reads, constant-reads, sensor-reads, actuator-reads, task-reads, input-reads, output-reads, task-end-reads}
use Rattle.grammar.proofs.ModeSteps.{activity-reads, guard-reads, guard-arg-reads, invoke-reads, arg-reads, update-reads, switch-reads, start-reads, mode-reads}

module _ {s : List ℕ} {outs : List Item} where
  -- ---- sections

  unless-reads : (b : Bool) (q : Expression) {g : Got} {x : ReadItem} → g.bad ≡ 0 → Goes Module s outs (unless b q) g → (Goes Module s outs (firsts q) g → Reads s outs x) → Reads s outs (cond b (refused_at s g) x)
  unless-reads true q z h p = refused-reads z h
  unless-reads false q z h p = p h

  module _ (k : ℕ) (q : Expression) {g : Got} (z : g.bad ≡ 0) (h : Goes Module s outs (firsts q) g) where
    declaration-reads : InModule k q → stands T.Name s g.end ≡ true → Reads s outs (declaration_at s k g)
    unfolding declaration_at
    declaration-reads i e = by (eqb k 2) (eqb k 3) (eqb k 4) (rw i.names at (keep-goes T.Name e h))
      where
        by : (a b c : Bool) →
            Goes Module s outs (
            cond a (firsts (Constant ⊙ many Constant ⊙ constants)) (
            cond b (firsts (Sensor ⊙ many Sensor ⊙ sensors)) (
            cond c (firsts (Actuator ⊙ many Actuator ⊙ actuators)) []))) g →
            Reads s outs (cond a (constant_at s g) (cond b (sensor_at s g) (cond c (actuator_at s g) (refused_at s g))))
        by true b c p = constant-reads p
        by false true c p = sensor-reads p
        by false false true p = actuator-reads p
        by false false false p = refused-reads z p

    section-reads : InModule k q → stands T.Name s g.end ≡ false → Reads s outs (section_at s k (section_of (code_at s g.end)) g)
    unfolding lit section section_of section_at with_count
    section-reads i e₁ =
        pick (λ (w : ℕ). Reads s outs (section_at s k w g)) (stands T.KeyConst s g.end)
        (λ e. unless-reads (ltb 2 k) _ z (rw i.const at (keep-goes T.KeyConst e h)) (λ p. closed-reads _ _ refl module-2 (λ y. refl) (section-goes T.KeyConst (many Constant ⊙ constants) refl e p))) (λ e₂.
        pick (λ (w : ℕ). Reads s outs (section_at s k w g)) (stands T.KeySensor s g.end)
        (λ e. unless-reads (ltb 3 k) _ z (rw i.sensor at (keep-goes T.KeySensor e h)) (λ p. closed-reads _ _ refl module-3 (λ y. refl) (section-goes T.KeySensor (many Sensor ⊙ sensors) refl e p))) (λ e₃.
        pick (λ (w : ℕ). Reads s outs (section_at s k w g)) (stands T.KeyActuator s g.end)
        (λ e. unless-reads (ltb 4 k) _ z (rw i.actuator at (keep-goes T.KeyActuator e h)) (λ p. closed-reads _ _ refl module-4 (λ y. refl) (section-goes T.KeyActuator (many Actuator ⊙ actuators) refl e p))) (λ e₄.
        pick (λ (w : ℕ). Reads s outs (section_at s k w g)) (stands T.KeyTask s g.end)
        (λ e. unless-reads (ltb 5 k) _ z (rw i.task at (keep-goes T.KeyTask e h)) (λ p. task-reads p)) (λ e₅.
        pick (λ (w : ℕ). Reads s outs (section_at s k w g)) (stands T.KeyStart s g.end)
        (λ e. unless-reads (ltb 6 k) _ z (rw i.start at (keep-goes T.KeyStart e h)) (λ p. start-reads e p)) (λ e₆.
        pick (λ (w : ℕ). Reads s outs (section_at s k w g)) (stands T.KeyMode s g.end)
        (λ e. unless-reads (ltb 6 k) _ z (rw i.mode at (keep-goes T.KeyMode e h)) (λ p. mode-reads e₆ p)) (λ e₇.
        pick (λ (w : ℕ). Reads s outs (section_at s k w g)) (stands T.RightBrace s g.end)
        (λ e. unless-reads (ltb 7 k) _ z (rw i.brace at (keep-goes T.RightBrace e h)) (λ p. closed-reads _ _ refl finishes (λ y. refl) (last_goes T.RightBrace as_module_end (reads as_end end) refl p))) (λ e₈.
        rw i.positive (refused-reads z (rw i.other at (lose-goes T.RightBrace e₈ (lose-goes T.KeyMode e₇ (lose-goes T.KeyStart e₆ (lose-goes T.KeyTask e₅ (lose-goes T.KeyActuator e₄ (lose-goes T.KeySensor e₃ (lose-goes T.KeyConst e₂ (lose-goes T.Name e₁ h)))))))))))))))))

    module-body-reads : InModule k q → Reads s outs (module_body_at s k g)
    unfolding module_body_at
    module-body-reads i = pick (λ (r : ReadItem). Reads s outs r) (stands T.Name s g.end) (declaration-reads i) (section-reads i)

    task-port-reads : InTask k q → stands T.Name s g.end ≡ true → Reads s outs (task_port_at s k g)
    unfolding task_port_at
    task-port-reads i e = by (eqb k 2) (eqb k 3) (rw i.names at (keep-goes T.Name e h))
      where
        by : (a b : Bool) →
            Goes Module s outs (
            cond a (firsts (Input ⊙ many Input ⊙ inputs)) (
            cond b (firsts (Output ⊙ many Output ⊙ outputs)) [])) g →
            Reads s outs (cond a (input_at s g) (cond b (output_at s g) (refused_at s g)))
        by true b p = input-reads p
        by false true p = output-reads p
        by false false p = refused-reads z p

    portion-reads : InTask k q → stands T.Name s g.end ≡ false → Reads s outs (portion_at s k (portion_of (code_at s g.end)) g)
    unfolding lit section portion_of portion_at with_count
    portion-reads i e₁ =
        pick (λ (w : ℕ). Reads s outs (portion_at s k w g)) (stands T.KeyInput s g.end)
        (λ e. unless-reads (ltb 2 k) _ z (rw i.input at (keep-goes T.KeyInput e h)) (λ p. closed-reads _ _ refl task-2 (λ y. refl) (section-goes T.KeyInput (many Input ⊙ inputs) refl e p))) (λ e₂.
        pick (λ (w : ℕ). Reads s outs (portion_at s k w g)) (stands T.KeyOutput s g.end)
        (λ e. unless-reads (ltb 3 k) _ z (rw i.output at (keep-goes T.KeyOutput e h)) (λ p. closed-reads _ _ refl task-3 (λ y. refl) (section-goes T.KeyOutput (many Output ⊙ outputs) refl e p))) (λ e₃.
        pick (λ (w : ℕ). Reads s outs (portion_at s k w g)) (stands T.KeyUses s g.end)
        (λ e. unless-reads (ltb 4 k) _ z (rw i.uses at (keep-goes T.KeyUses e h)) (λ p. task-end-reads p)) (λ e₄.
        rw i.positive (refused-reads z (rw i.other at (lose-goes T.KeyUses e₄ (lose-goes T.KeyOutput e₃ (lose-goes T.KeyInput e₂ (lose-goes T.Name e₁ h)))))))))

    task-body-reads : InTask k q → Reads s outs (task_body_at s k g)
    unfolding task_body_at
    task-body-reads i = pick (λ (r : ReadItem). Reads s outs r) (stands T.Name s g.end) (task-port-reads i) (portion-reads i)

    head-reads : (c : Expression) → InMode k q c → stands T.LeftBracket s g.end ≡ true → Reads s outs (head_at s k g)
    unfolding head_at
    head-reads c i e = by (eqb k 1) refl (rw i.acts at (keep-goes T.LeftBracket e h))
      where
        by : (b : Bool) → eqb k 1 ≡ b → Goes Module s outs (unless b (reads (as_activity k) (lit "[" ⊙ word "freq" ⊙ lit "=" ⊙ number ⊙ lit "]") ⊙ opt Guard ⊙ c)) g → Reads s outs (cond b (refused_at s g) (activity_at s k g))
        by true f p = refused-reads z p
        by false f p = activity-reads k c (i.target f) p

    part-reads : (c : Expression) → InMode k q c → stands T.LeftBracket s g.end ≡ false → Reads s outs (part_at s k (part_of (code_at s g.end)) g)
    unfolding lit section part_of part_at with_count
    part-reads c i e₁ =
        pick (λ (w : ℕ). Reads s outs (part_at s k w g)) (stands T.KeyTask s g.end)
        (λ e. unless-reads (ltb 2 k) _ z (rw i.task at (keep-goes T.KeyTask e h)) (λ p. closed-reads _ _ refl mode-2 (λ y. refl) (section-goes T.KeyTask (many (Act 2 ⊙ Invoke) ⊙ invocations) refl e p))) (λ e₂.
        pick (λ (w : ℕ). Reads s outs (part_at s k w g)) (stands T.KeyActuator s g.end)
        (λ e. unless-reads (ltb 3 k) _ z (rw i.actuator at (keep-goes T.KeyActuator e h)) (λ p. closed-reads _ _ refl mode-3 (λ y. refl) (section-goes T.KeyActuator (many (Act 3 ⊙ Update) ⊙ updates) refl e p))) (λ e₃.
        pick (λ (w : ℕ). Reads s outs (part_at s k w g)) (stands T.KeyMode s g.end)
        (λ e. unless-reads (ltb 4 k) _ z (rw i.mode at (keep-goes T.KeyMode e h)) (λ p. closed-reads _ _ refl mode-4 (λ y. refl) (section-goes T.KeyMode (many (Act 4 ⊙ Switch) ⊙ switches) refl e p))) (λ e₄.
        pick (λ (w : ℕ). Reads s outs (part_at s k w g)) (stands T.RightBrace s g.end)
        (λ e. unless-reads (ltb 5 k) _ z (rw i.brace at (keep-goes T.RightBrace e h)) (λ p. closed-reads _ _ refl module-6 (λ y. refl) (last_goes T.RightBrace as_mode_end modes refl p))) (λ e₅.
        rw i.positive (refused-reads z (rw i.other at (lose-goes T.RightBrace e₅ (lose-goes T.KeyMode e₄ (lose-goes T.KeyActuator e₃ (lose-goes T.KeyTask e₂ (lose-goes T.LeftBracket e₁ h)))))))))))

    mode-body-reads : (c : Expression) → InMode k q c → Reads s outs (mode_body_at s k g)
    unfolding mode_body_at
    mode-body-reads c i = pick (λ (r : ReadItem). Reads s outs r) (stands T.LeftBracket s g.end) (head-reads c i) (part-reads c i)

    target-reads : Does k q → Reads s outs (target_at s k g)
    unfolding target_at
    target-reads i = by (eqb k 2) (eqb k 3) (rw i.does at h)
      where
        by : (a b : Bool) →
            Goes Module s outs (
            cond a (firsts (Invoke ⊙ many (Act 2 ⊙ Invoke) ⊙ invocations)) (
            cond b (firsts (Update ⊙ many (Act 3 ⊙ Update) ⊙ updates))
            (firsts (Switch ⊙ many (Act 4 ⊙ Switch) ⊙ switches)))) g →
            Reads s outs (cond a (invoke_at s g) (cond b (update_at s g) (switch_at s g)))
        by true b p = invoke-reads p
        by false true p = update-reads p
        by false false p = switch-reads p

  act-reads : (k : ℕ) (c : Expression) {g : Got} → g.bad ≡ 0 → Does k c → Goes Module s outs (firsts (opt Guard ⊙ c)) g → Reads s outs (act_at s k g)
  unfolding lit act_at Guard firsts keep lose
  act-reads k c z i h =
      fork (λ (r : ReadItem). Reads s outs r) T.KeyIf h
      (λ e p. guard-reads k c i (rw i.no-if at p))
      (λ e p. target-reads k c z (rw i.all_but at p) i)

  finish-reads : {g : Got} → g.bad ≡ 0 → Goes Module s outs (firsts (reads as_end end)) g → Reads s outs (finish_at s g)
  unfolding finish_at firsts lose
  finish-reads {g} z h = by (is T.End (token_at s g.end)) refl
    where
      by : (b : Bool) → is T.End (token_at s g.end) ≡ b → Reads s outs (closed I.End Q.Finish (want T.End s g))
      by true e = rw (want-took s g (token_at s g.end) z refl T.End e, closed-took I.End Q.Finish (got_at s g.end) refl) (ends (λ items. end_goes as_end z h e items))
      by false e =
          let n = refusal-bad (token_at s g.end) in
          rw (want-refused s g (token_at s g.end) z refl T.End e, closed-refused I.End Q.Finish (refusal (token_at s g.end)) n) (out ((none-goes {os = []} {gs = []} (lose-goes T.End e h) z).out n))

  -- ---- items
  pub item-reads : {state : State} {q : Expression} {at : ℕ} → Known state q → Goes Module s outs (firsts q) (from at) → Reads s outs (item_at s state at)
  unfolding item_at
  item-reads begins h = module-reads h
  item-reads (in-module k q i) h = module-body-reads k q refl h i
  item-reads (in-task k q i) h = task-body-reads k q refl h i
  item-reads (in-mode k q c i) h = mode-body-reads k q refl h c i
  item-reads (in-act k c i) h = act-reads k c refl i h
  item-reads (guarded k c i) h = target-reads k c refl h i
  item-reads (in-guard k c i) h = guard-arg-reads k c i h
  item-reads in-call h = arg-reads h
  item-reads finishes h = finish-reads refl h
