-- The order in which tasks are handed out and finished between due ticks does not show (document 02, R-13), for the code's machine.
use Rattle.std.specs.Prelude.{ℕ, ◌≡◌, refl, List, [], ◌∷◌}
use Rattle.std.proofs.Common.{sym, ◌∙◌, ap, ap₂, subst}
use Rattle.model.specs.Modules.{Module}
use Rattle.timing.specs.Orders.{dues, Keeps}
use Rattle.timing.specs.Docks.{reply_to}
use Rattle.machine.specs.Asks.{Ask, Answer}
use Rattle.machine.specs.Calls.{State}
use Rattle.tables.specs.declared.Table.{Table}
use Rattle.emachine.specs.declared.Machine.{Machine}
use Rattle.emachine.specs.declared.Ticked.{Ticked}
use Rattle.emachine.specs.Machines.{board_in, machine_of}
use Rattle.bridge.specs.Boards.{board}
use Rattle.bridge.specs.Docked.{asks}
use Rattle.bridge.specs.OrderKept.{Seen, seen_in, noted, machine_log}
use Rattle.bridge.proofs.OrderKept.{order-kept}
use Rattle.demands.specs.Uses.{Serves, Runs, Launch, module_in, first}
use Rattle.demands.specs.Terms.{seen, log}
use Rattle.demands.specs.Joins.{one, same-board, keeps, begun-is, starts-so, state_at, behind}

module _ (M : Module) (t : Table) (same : board_in t ≡ board M) where
  logged : (calls : List Ask) (answers : List Answer) (s : State) (m n : Machine) → m ≡ machine_of t s → (r : Runs m calls answers n) → log M calls answers m n r ≡ machine_log M calls s
  logged [] answers s m n e r = refl
  logged (a ∷ calls) [] s m n e r = absurd r
  logged (a ∷ calls) (x ∷ answers) s m n e (k, (c, r)) =
      let (p, q) = one (board M) t same a x s k (subst (λ (y : Machine). Serves y a x k) e c) in
      ap₂ (λ (y : Answer) (z : Machine). noted (reply_to y) (seen M z) (log M calls answers k n r)) p q
      ∙ ap (λ (rest : List Seen). noted (reply_to (asks M a s).answer) (seen_in M (asks M a s).state) rest) (logged calls answers (asks M a s).state k n q r)

module _ (l : Launch) where
  abbrev M : Module
  M = module_in l

  pub order-hidden : (readings : ℕ → List ℕ) (results : ℕ → ℕ → List ℕ) (one other : List Ask) (answers₁ answers₂ : List Answer) (n₁ n₂ : Machine)
      → (r₁ : Runs l.begun.machine one answers₁ n₁) (r₂ : Runs l.begun.machine other answers₂ n₂)
      → Keeps M readings results one (first l) 0 (λ j. 0) → Keeps M readings results other (first l) 0 (λ j. 0) → dues M one (first l) ≡ dues M other (first l)
      → (seen M n₁ ≡ seen M n₂) × (log M one answers₁ l.begun.machine n₁ r₁ ≡ log M other answers₂ l.begun.machine n₂ r₂)
  order-hidden readings results one other answers₁ answers₂ n₁ n₂ r₁ r₂ f g d =
      let s = order-kept M (keeps l) readings results l.count l.types l.words (starts-so l) one other f g d in
      let start : l.begun.machine ≡ machine_of l.reading.table (state_at l []) = ap (λ (x : Ticked). x.machine) (begun-is l) in
      let same = same-board l in (
        ap (seen M) (behind l one answers₁ n₁ r₁).left_so ∙ s.same-now ∙ sym (ap (seen M) (behind l other answers₂ n₂ r₂).left_so),
        logged M l.reading.table same one answers₁ (state_at l []) l.begun.machine n₁ start r₁ ∙ s.same_log
            ∙ sym (logged M l.reading.table same other answers₂ (state_at l []) l.begun.machine n₂ start r₂),
      )
