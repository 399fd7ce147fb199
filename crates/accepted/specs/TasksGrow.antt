-- The tasks known so far are the first of the module's.
use Rattle.std.specs.Prelude.{ℕ, zero, suc, ◌<◌, ◌≡◌, refl, length, get_or}
use Rattle.std.proofs.Common.{arith, ◌∙◌}
use Rattle.std.proofs.Math.Path.{sym, ap}
use mathlib.Core.List.{List, [], ◌∷◌, ◌++◌, append-nil, append_assoc}
use Rattle.model.specs.Modules.{Task, no_task}
use Rattle.text.specs.declared.Item.{Item}
use Rattle.text.specs.declared.Item.TheVariants as I
use Rattle.refusals.specs.declared.Row.{Row}
use Rattle.refusals.specs.Names.{letters}
use Rattle.refusals.specs.Draft.{Draft, with_function, drafted}
use Rattle.refusals.specs.Rules.{Env, grow, env_after}
use Rattle.accepted.specs.Folds.{Reaches}

module _ (s : List ℕ) (all : List Row) where
  abbrev tasks_of : Draft → List Task
  tasks_of draft = draft.built.tasks

  item-tasks : (rows : List Row) (draft : Draft) (item : Item) → (more : List Task) × (tasks_of (drafted s all rows draft item) ≡ tasks_of draft ++ more)
  item-tasks rows draft (I.Module name) = ([], sym (append-nil (tasks_of draft)))
  item-tasks rows draft I.Section = ([], sym (append-nil (tasks_of draft)))
  item-tasks rows draft (I.Constant name value) = ([], sym (append-nil (tasks_of draft)))
  item-tasks rows draft (I.Sensor typ name getter) = ([], sym (append-nil (tasks_of draft)))
  item-tasks rows draft (I.Actuator typ name value setter) = ([], sym (append-nil (tasks_of draft)))
  item-tasks rows draft (I.TaskBegin name) = ([], sym (append-nil (tasks_of draft)))
  item-tasks rows draft (I.Input typ name) = ([], sym (append-nil (tasks_of draft)))
  item-tasks rows draft (I.Output typ name value) = ([], sym (append-nil (tasks_of draft)))
  item-tasks rows draft (I.TaskEnd name) = (with_function draft.task (letters s name) ∷ [], refl)
  item-tasks rows draft (I.ModeBegin start at name digits milli) = ([], sym (append-nil (tasks_of draft)))
  item-tasks rows draft (I.Activity kind at digits) = ([], sym (append-nil (tasks_of draft)))
  item-tasks rows draft (I.Guard name many) = ([], sym (append-nil (tasks_of draft)))
  item-tasks rows draft (I.GuardArg port) = ([], sym (append-nil (tasks_of draft)))
  item-tasks rows draft (I.Invoke task many) = ([], sym (append-nil (tasks_of draft)))
  item-tasks rows draft (I.Arg port) = ([], sym (append-nil (tasks_of draft)))
  item-tasks rows draft (I.Update target source) = ([], sym (append-nil (tasks_of draft)))
  item-tasks rows draft (I.Switch name) = ([], sym (append-nil (tasks_of draft)))
  item-tasks rows draft I.ModeEnd = ([], sym (append-nil (tasks_of draft)))
  item-tasks rows draft I.ModuleEnd = ([], sym (append-nil (tasks_of draft)))
  item-tasks rows draft I.End = ([], sym (append-nil (tasks_of draft)))
  item-tasks rows draft (I.No number at) = ([], sym (append-nil (tasks_of draft)))

  items-tasks : (env : Env) (items : List Item) → (more : List Task) × (tasks_of (env_after s all env items).draft ≡ tasks_of env.draft ++ more)
  unfolding env_after
  items-tasks env [] = ([], sym (append-nil (tasks_of env.draft)))
  items-tasks env (item ∷ items) =
      let (a, e) = item-tasks env.rows env.draft item in
      let (b, d) = items-tasks (grow s all env item) items in
      (a ++ b, d ∙ ap (λ (l : List Task). l ++ b) e ∙ append_assoc (tasks_of env.draft) a b)

pub tasks-first : {s : List ℕ} {all : List Row} {last : Env} (env : Env) → Reaches s all last env → (more : List Task) × (last.draft.built.tasks ≡ env.draft.built.tasks ++ more)
tasks-first {s} {all} {last} env r = let (more, e) = items-tasks s all env r.items in (more, ap (λ (known : Env). known.draft.built.tasks) (sym r.to) ∙ e)

pub first-same : (tasks more : List Task) (k : ℕ) → k < length tasks → get_or (tasks ++ more) k no_task ≡ get_or tasks k no_task
first-same [] more k l = absurd (omega arith)
first-same (task ∷ tasks) more zero l = refl
first-same (task ∷ tasks) more (suc k) l = first-same tasks more k (omega arith)
