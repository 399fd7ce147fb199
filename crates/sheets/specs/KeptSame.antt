-- Drafts that differ in nothing that the arrays hold; and the activity's head, its guard and the guard's operands.
use Rattle.std.specs.Prelude.{ℕ, ◌≤◌, ◌≡◌, refl, Bool, true, List, [], map, length}
use Rattle.std.proofs.Common.{sym, ap, ◌∙◌, subst}
use Rattle.std.proofs.Math.Option.{none, some}
use Rattle.model.specs.declared.Guard.{Guard}
use Rattle.model.specs.Modules.{Act, Mode}
use Rattle.model.specs.Values.{function_by}
use Rattle.model.specs.Instructions.{Driver}
use Rattle.timing.specs.SlotLaws.{Each}
use Rattle.layout.specs.Rows.{rows, names}
use Rattle.layout.specs.Plain.{driver_cells, guard_cells}
use Rattle.prescribed.specs.Tables.{guard_row}
use Rattle.refusals.specs.declared.Row.{Row}
use Rattle.refusals.specs.Draft as D
use Rattle.sheets.specs.declared.Plan.{Plan}
use Rattle.sheets.specs.Sheets.{Sheet, cap, begun, function_cell, place_of, word_in, with_acting, with_operand, with_plan}
use Rattle.sheets.specs.Held.{drivers_in, acts_in, act_cells, head_cells, frames, Fits, ModeFits, Within, ArraysHold, filled_of, acting_of, OpenedHolds, PlansHold}
use Rattle.sheets.specs.GuardLaws.{operand-kept, function-kept}

module _ {inside inside' : Bool} {draft draft' : D.Draft} (drivers : drivers_in inside' draft' ≡ drivers_in inside draft) (acts : acts_in inside' draft' ≡ acts_in inside draft)
    (guards : draft'.built.guards ≡ draft.built.guards) (modes : draft'.built.modes ≡ draft.built.modes) where
  pub within-back : Within inside' draft' → Within inside draft
  within-back w =
      record {
        few-drivers = subst (λ (l : List Driver). length l ≤ 288) drivers w.few-drivers;
        few-acts = subst (λ (l : List (Act ℕ)). length l ≤ 256) acts w.few-acts;
        few-guards = subst (λ (l : List Guard). length l ≤ 256) guards w.few-guards;
        few-modes = subst (λ (l : List Mode). length l ≤ 8) modes w.few-modes;
        drivers = subst (Each (λ d. Fits 12 (driver_cells d))) drivers w.drivers;
        acts = subst (Each (λ a. Fits 3 (act_cells a))) acts w.acts;
        guards = subst (Each (λ g. Fits 6 (guard_cells (guard_row g)))) guards w.guards;
        modes = subst (Each ModeFits) modes w.modes;
      }

  pub arrays-on : {h : Sheet} (plan : Plan) → ArraysHold inside draft h → ArraysHold inside' draft' (with_plan h plan)
  arrays-on plan a =
      record {
        drivers = a.drivers ∙ ap (rows 12 3456 driver_cells) (sym drivers);
        acts = a.acts ∙ ap (rows 3 768 act_cells) (sym acts);
        guards = a.guards ∙ ap (λ (l : List Guard). rows 6 1536 guard_cells (map guard_row l)) (sym guards);
        names = a.names ∙ ap (λ (l : List Mode). names 8 (map (λ m. m.name) l)) (sym modes);
        heads = a.heads ∙ ap (rows 3 24 head_cells) (sym modes);
        modes = a.modes ∙ ap (λ (l : List Mode). rows 5 40 (λ cells. cells) (frames 0 l)) (sym modes);
      }

  pub same-arrays : {h : Sheet} (plan : Plan) → (Within inside draft → ArraysHold inside draft h) → Within inside' draft' → ArraysHold inside' draft' (with_plan h plan)
  same-arrays plan hold w = arrays-on plan (hold (within-back w))

-- ---- the activity under way

module _ {s : List ℕ} {inside : Bool} (draft : D.Draft) (h : Sheet) (holds : PlansHold s inside draft h) where
  pub doing-kept : (doing : D.Doing) → {acting : _} → acting ≡ acting_of doing → PlansHold s inside (D.with_doing draft doing) (with_plan h (with_acting h.plan acting))
  doing-kept doing {acting} e =
      record { filled = holds.filled; acting = e; opened = holds.opened; arrays = same-arrays refl refl refl refl (with_acting h.plan acting) holds.arrays }

  pub activity-kept : (frequency : ℕ) → PlansHold s inside (D.with_doing draft (record { frequency = frequency; function = none; operands = []; wanted = [] })) (with_plan h (with_acting h.plan (begun (cap frequency) 0)))
  activity-kept frequency = doing-kept (record { frequency = frequency; function = none; operands = []; wanted = [] }) refl

  pub guard-kept : (number : ℕ) (wanted : List ℕ)
      → PlansHold s inside (D.with_doing draft (record { frequency = draft.doing.frequency; function = some (function_by number); operands = []; wanted = wanted }))
      (with_plan h (with_acting h.plan (begun h.plan.acting.frequency (function_cell number))))
  guard-kept number wanted =
      doing-kept (record { frequency = draft.doing.frequency; function = some (function_by number); operands = []; wanted = wanted })
      (ap (λ a. begun a.frequency (function_cell number)) holds.acting ∙ ap (begun (cap draft.doing.frequency)) (function-kept number))

  pub operand_read : (row : Row) → PlansHold s inside (D.with_doing draft (D.with_operand draft.doing row)) (with_plan h (with_acting h.plan (with_operand h.plan.acting (place_of row) (word_in row))))
  operand_read row = doing-kept (D.with_operand draft.doing row) (ap (λ a. with_operand a (place_of row) (word_in row)) holds.acting ∙ operand-kept draft.doing row)
