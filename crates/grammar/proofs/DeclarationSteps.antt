-- The productions of declarations and tasks go along the grammar, and their items are the ones that it reads there.
use Rattle.std.specs.Prelude.{ℕ}
use Rattle.std.proofs.Math.Path.{refl}
use Rattle.std.proofs.Common.{ap, ◌∙◌}
use mathlib.Core.List.{List, [], ◌∷◌, ◌++◌}
use Rattle.text.specs.declared.Token.TheVariants as T
use Rattle.text.specs.declared.Got.{Got}
use Rattle.text.specs.declared.Item.{Item}
use Rattle.text.specs.Tokens.{token_at}
use Rattle.text.specs.Expect.{want}
use Rattle.text.specs.Productions.{past_literal, literal_at, module_at, constant_at, sensor_at, actuator_at, task_at, input_at, output_at, task_end_at}
use Rattle.grammar.specs.Expressions.{Letter, ◌⊙◌, many, reads}
use Rattle.grammar.specs.Making.{name_in, as_module, as_constant, as_sensor, as_actuator, as_task, as_input, as_output, as_task_end, with_count}
use Rattle.grammar.specs.Grammar.{lit, name, section, Value, Input, Output, Constant, Sensor, Actuator, Module}
use Rattle.grammar.specs.Judgement.{letter}
use Rattle.grammar.specs.Firsts.{firsts}
use Rattle.grammar.specs.Readings.{Goes, want-goes, chain, chained, taken, chain-goes, group-goes, last_goes}
use Rattle.grammar.specs.States.{modes, tasks, actuators, sensors, constants, outputs, inputs, module-1, module-2, module-3, module-4, module-5, task-1, task-2, task-3}
use Rattle.grammar.specs.Taken.{back, name-eq, chain_back, actuator-eq}
use Rattle.grammar.specs.Operands.{Reads}
use Rattle.grammar.proofs.Operands.{closed-reads, literal-goes}

module _ {s : List ℕ} {outs : List Item} where
  pub module-reads : {g : Got} → Goes Module s outs (firsts Module) g → Reads s outs (module_at s g)
  unfolding lit section module_at Module constants sensors actuators tasks modes firsts chain chained with_count
  module-reads {g} h =
      let w = want T.KeyModule s g in
      let n = want T.Name s w in
      closed-reads _ (as_module (letter s (token_at s w.end) ∷ [])) refl module-1 (λ z. let i = name-eq s T.Name w (back s T.LeftBrace n z) in cc)
      (want-goes T.LeftBrace (λ l. constants) refl (last_goes T.Name as_module (lit "{" ⊙ constants) refl (want-goes T.KeyModule (λ l. reads as_module name ⊙ lit "{" ⊙ constants) refl h)))

  pub constant-reads : {g : Got} → Goes Module s outs (firsts (Constant ⊙ many Constant ⊙ constants)) g → Reads s outs (constant_at s g)
  unfolding lit constant_at Constant firsts chain chained taken with_count
  constant-reads {g} h =
      let n = want T.Name s g in
      let e = want T.Equals s n in
      let v = literal-goes (λ u. as_constant (taken (T.Name ∷ T.Equals ∷ []) s g ++ u)) (lit ";") (many Constant ⊙ constants) (group-goes (T.Name ∷ T.Equals ∷ []) as_constant (Value ⊙ lit ";") (many Constant ⊙ constants) refl h) in
      closed-reads _ _ refl module-2
      (λ z. let y = back s T.Semicolon (past_literal (literal_at s e)) z in let i = name-eq s T.Name g (back s T.Equals n (v.back y)) in let j = v.value y (letter s (token_at s (literal_at s e).end) ∷ []) in cc)
      (last_goes T.Semicolon (λ u. as_constant (taken (T.Name ∷ T.Equals ∷ []) s g ++ (v.took ++ u))) (many Constant ⊙ constants) refl v.goes)

  pub sensor-reads : {g : Got} → Goes Module s outs (firsts (Sensor ⊙ many Sensor ⊙ sensors)) g → Reads s outs (sensor_at s g)
  unfolding lit sensor_at Sensor firsts chain chained taken with_count
  sensor-reads {g} h =
      let t = want T.Name s g in
      let n = want T.Name s t in
      let u = want T.KeyUses s n in
      let r = want T.Name s u in
      closed-reads _ _ refl module-3
      (λ z. let d = back s T.Semicolon r z in let c = back s T.KeyUses n (back s T.Name u d) in let i = name-eq s T.Name u d in let j = name-eq s T.Name t c in let f = name-eq s T.Name g (back s T.Name t c) in cc)
      (last_goes T.Semicolon (λ v. as_sensor (taken (T.Name ∷ T.Name ∷ T.KeyUses ∷ T.Name ∷ []) s g ++ v)) (many Sensor ⊙ sensors) refl
      (group-goes (T.Name ∷ T.Name ∷ T.KeyUses ∷ T.Name ∷ []) as_sensor (lit ";") (many Sensor ⊙ sensors) refl h))

  pub actuator-reads : {g : Got} → Goes Module s outs (firsts (Actuator ⊙ many Actuator ⊙ actuators)) g → Reads s outs (actuator_at s g)
  unfolding lit actuator_at Actuator firsts chain chained taken with_count
  actuator-reads {g} h =
      let k = many Actuator ⊙ actuators in
      let t = want T.Name s g in
      let n = want T.Name s t in
      let b = want T.Becomes s n in
      let f = taken (T.Name ∷ T.Name ∷ T.Becomes ∷ []) s g in
      let v = literal-goes (λ u. as_actuator (f ++ u)) (lit "uses" ⊙ name ⊙ lit ";") k (group-goes (T.Name ∷ T.Name ∷ T.Becomes ∷ []) as_actuator (Value ⊙ lit "uses" ⊙ name ⊙ lit ";") k refl h) in
      let p = past_literal (literal_at s b) in
      let w = want T.KeyUses s p in
      let r = want T.Name s w in
      let rest = letter s (token_at s p.end) ∷ (letter s (token_at s w.end) ∷ (letter s (token_at s r.end) ∷ [])) in
      closed-reads _ _ refl module-4
      (λ z.
      let d = back s T.Semicolon r z in
      let y = back s T.KeyUses p (back s T.Name w d) in
      let c = back s T.Becomes n (v.back y) in
      actuator-eq (name-eq s T.Name g (back s T.Name t c)) (name-eq s T.Name t c) (v.value y rest) (ap (λ (ts : List Letter). name_in 1 ts) (v.past y rest) ∙ name-eq s T.Name w d))
      (last_goes T.Semicolon (λ u. as_actuator (f ++ (v.took ++ (taken (T.KeyUses ∷ T.Name ∷ []) s p ++ u)))) k refl
      (group-goes (T.KeyUses ∷ T.Name ∷ []) (λ u. as_actuator (f ++ (v.took ++ u))) (lit ";") k refl v.goes))

  pub task-reads : {g : Got} → Goes Module s outs (firsts (lit "task" ⊙ reads as_task name ⊙ lit "{" ⊙ inputs)) g → Reads s outs (task_at s g)
  unfolding lit task_at firsts chain chained with_count
  task-reads {g} h =
      let w = want T.KeyTask s g in
      let n = want T.Name s w in
      closed-reads _ (as_task (letter s (token_at s w.end) ∷ [])) refl task-1 (λ z. let i = name-eq s T.Name w (back s T.LeftBrace n z) in cc)
      (want-goes T.LeftBrace (λ l. inputs) refl (last_goes T.Name as_task (lit "{" ⊙ inputs) refl (want-goes T.KeyTask (λ l. reads as_task name ⊙ lit "{" ⊙ inputs) refl h)))

  pub input-reads : {g : Got} → Goes Module s outs (firsts (Input ⊙ many Input ⊙ inputs)) g → Reads s outs (input_at s g)
  unfolding lit input_at Input firsts chain chained taken with_count
  input-reads {g} h =
      let t = want T.Name s g in
      let n = want T.Name s t in
      closed-reads _ _ refl task-2
      (λ z. let c = back s T.Semicolon n z in let i = name-eq s T.Name t c in let j = name-eq s T.Name g (back s T.Name t c) in cc)
      (last_goes T.Semicolon (λ v. as_input (taken (T.Name ∷ T.Name ∷ []) s g ++ v)) (many Input ⊙ inputs) refl (group-goes (T.Name ∷ T.Name ∷ []) as_input (lit ";") (many Input ⊙ inputs) refl h))

  pub output-reads : {g : Got} → Goes Module s outs (firsts (Output ⊙ many Output ⊙ outputs)) g → Reads s outs (output_at s g)
  unfolding lit output_at Output firsts chain chained taken with_count
  output-reads {g} h =
      let k = many Output ⊙ outputs in
      let t = want T.Name s g in
      let n = want T.Name s t in
      let b = want T.Becomes s n in
      let f = taken (T.Name ∷ T.Name ∷ T.Becomes ∷ []) s g in
      let v = literal-goes (λ u. as_output (f ++ u)) (lit ";") k (group-goes (T.Name ∷ T.Name ∷ T.Becomes ∷ []) as_output (Value ⊙ lit ";") k refl h) in
      closed-reads _ _ refl task-3
      (λ z.
      let y = back s T.Semicolon (past_literal (literal_at s b)) z in
      let c = back s T.Becomes n (v.back y) in
      let i = name-eq s T.Name g (back s T.Name t c) in
      let j = name-eq s T.Name t c in
      let e = v.value y (letter s (token_at s (literal_at s b).end) ∷ []) in
      cc)
      (last_goes T.Semicolon (λ u. as_output (f ++ (v.took ++ u))) k refl v.goes)

  pub task-end-reads : {g : Got} → Goes Module s outs (firsts (lit "uses" ⊙ reads as_task_end name ⊙ lit ";" ⊙ lit "}" ⊙ tasks)) g → Reads s outs (task_end_at s g)
  unfolding lit task_end_at firsts chain chained with_count
  task-end-reads {g} h =
      let w = want T.KeyUses s g in
      let n = want T.Name s w in
      closed-reads _ (as_task_end (letter s (token_at s w.end) ∷ [])) refl module-5 (λ z. let i = name-eq s T.Name w (chain_back s (T.Semicolon ∷ T.RightBrace ∷ []) n z) in cc)
      (chain-goes (T.Semicolon ∷ T.RightBrace ∷ []) tasks refl (last_goes T.Name as_task_end (lit ";" ⊙ lit "}" ⊙ tasks) refl (want-goes T.KeyUses (λ l. reads as_task_end name ⊙ lit ";" ⊙ lit "}" ⊙ tasks) refl h)))
