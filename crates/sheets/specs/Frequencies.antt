-- Every activity of an accepted text has a frequency of at most 64.
use Rattle.std.specs.Prelude.{ℕ, ◌≤◌, ◌≡◌, refl, List, [], ◌∷◌, ◌++◌}
use Rattle.std.proofs.Common.{arith}
use Rattle.std.proofs.Math.Option.{none}
use Rattle.model.specs.Modules.{Act, Call, Mode}
use Rattle.model.specs.Rooms.{frequency_room}
use Rattle.text.specs.declared.Name.{Name}
use Rattle.text.specs.declared.Item.{Item}
use Rattle.text.specs.declared.Item.TheVariants as I
use Rattle.text.specs.Items.{syntax_of}
use Rattle.timing.specs.SlotLaws.{Each}
use Rattle.refusals.specs.declared.Row.{Row}
use Rattle.refusals.specs.Verdicts.{Fine}
use Rattle.refusals.specs.Checks.{first}
use Rattle.refusals.specs.ChecksLaws.{fine-one}
use Rattle.refusals.specs.Activities.{head_rules}
use Rattle.refusals.specs.Values.{number_of}
use Rattle.refusals.specs.Draft.{Draft, last_sourced}
use Rattle.refusals.specs.Rules.{Env, grow, rules}
use Rattle.refusals.specs.Texts.{verdict_of, module_of}
use Rattle.accepted.specs.Lists.{each_append}
use Rattle.accepted.specs.Acts.{in-range}
use Rattle.accepted.specs.Folds.{whole, all_rows}

-- an activity that is not too frequent
abbrev pub Rare : {A : Type 0} → Act A → Type 0
Rare a = a.frequency ≤ 64

pub record RareIn (m : Mode) : Type 0 where
  pub calls : Each Rare m.calls
  pub updates : Each Rare m.updates
  pub switches : Each Rare m.switches

record RareYet (draft : Draft) : Type 0 where
  modes : Each RareIn draft.built.modes
  mode : RareIn draft.mode
  doing : draft.doing.frequency ≤ 64

head-range : (mode : Mode) (kind at frequency : ℕ) (digits : Name) → first (head_rules mode kind at frequency digits) ≡ Fine → frequency ≤ 64
unfolding head_rules
head-range mode kind at frequency digits v = (in-range frequency_room frequency (fine-one _ _ (fine-one _ _ v).1).0).1

rare-sourced : (source : ℕ) (calls : List (Act Call)) → Each Rare calls → Each Rare (last_sourced source calls)
unfolding last_sourced
rare-sourced source [] h = tt
rare-sourced source (c ∷ []) h = (h.0, tt)
rare-sourced source (c ∷ d ∷ calls) h = (h.0, rare-sourced source (d ∷ calls) h.1)

module _ (s : List ℕ) (all : List Row) where
  rare-kept : (item : Item) (env : Env) → first (rules s all env item) ≡ Fine → RareYet env.draft → RareYet (grow s all env item).draft
  rare-kept (I.Module name) env v h = record { modes = h.modes; mode = h.mode; doing = h.doing }
  rare-kept I.Section env v h = h
  rare-kept (I.Constant name value) env v h = h
  rare-kept (I.Sensor typ name getter) env v h = record { modes = h.modes; mode = h.mode; doing = h.doing }
  rare-kept (I.Actuator typ name value setter) env v h = record { modes = h.modes; mode = h.mode; doing = h.doing }
  rare-kept (I.TaskBegin name) env v h = record { modes = h.modes; mode = h.mode; doing = h.doing }
  rare-kept (I.Input typ name) env v h = record { modes = h.modes; mode = h.mode; doing = h.doing }
  rare-kept (I.Output typ name value) env v h = record { modes = h.modes; mode = h.mode; doing = h.doing }
  rare-kept (I.TaskEnd name) env v h = record { modes = h.modes; mode = h.mode; doing = h.doing }
  rare-kept (I.ModeBegin start at name digits milli) env v h = record { modes = h.modes; mode = record { calls = tt; updates = tt; switches = tt }; doing = h.doing }
  rare-kept (I.Activity kind at digits) env v h = record { modes = h.modes; mode = h.mode; doing = head-range env.draft.mode kind at (number_of s digits) digits v }
  rare-kept (I.Guard name arguments) env v h = record { modes = h.modes; mode = h.mode; doing = h.doing }
  rare-kept (I.GuardArg port) env v h = record { modes = h.modes; mode = h.mode; doing = h.doing }
  rare-kept (I.Invoke task arguments) env v h =
      record { modes = h.modes; mode = record { calls = each_append Rare env.draft.mode.calls _ h.mode.calls (h.doing, tt); updates = h.mode.updates; switches = h.mode.switches }; doing = h.doing }
  rare-kept (I.Arg port) env v h =
      record { modes = h.modes; mode = record { calls = rare-sourced _ env.draft.mode.calls h.mode.calls; updates = h.mode.updates; switches = h.mode.switches }; doing = h.doing }
  rare-kept (I.Update actuator source) env v h =
      record { modes = h.modes; mode = record { calls = h.mode.calls; updates = each_append Rare env.draft.mode.updates _ h.mode.updates (h.doing, tt); switches = h.mode.switches }; doing = h.doing }
  rare-kept (I.Switch name) env v h =
      record { modes = h.modes; mode = record { calls = h.mode.calls; updates = h.mode.updates; switches = each_append Rare env.draft.mode.switches _ h.mode.switches (h.doing, tt) }; doing = h.doing }
  rare-kept I.ModeEnd env v h = record { modes = each_append RareIn env.draft.built.modes (env.draft.mode ∷ []) h.modes (h.mode, tt); mode = h.mode; doing = h.doing }
  rare-kept I.ModuleEnd env v h = h
  rare-kept I.End env v h = h
  rare-kept (I.No number at) env v h = h

pub rare : (s : List ℕ) → syntax_of s ≡ none → verdict_of s ≡ Fine → Each RareIn (module_of s).modes
rare s e v =
    let w = whole s e v (λ q at env. RareYet env.draft) (λ q p at next item env c f r h. rare-kept s (all_rows s) item env f h) (record { modes = tt; mode = record { calls = tt; updates = tt; switches = tt }; doing = omega arith }) in
    w.holds.modes
