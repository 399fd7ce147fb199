-- What is kept behind an activity, and one row more among those of drivers and activities.
use Rattle.std.specs.Prelude.{ℕ, zero, suc, ◌+◌, ◌-◌, ◌*◌, ◌≤◌, ◌<◌, min, ◌≡◌, refl, Bool, true, false, cond, List, [], ◌∷◌, ◌++◌, map, length, get_or}
use Rattle.std.proofs.Common.{arith, sym, ap, ap₂, ◌∙◌, subst, append-nil, append_assoc, length-append}
use Rattle.std.proofs.Math.Option.{Option, none, some}
use Rattle.std.proofs.lemmas.List.{length-map}
use Rattle.model.specs.Modules.{Act, Call, Update, Mode, each}
use Rattle.model.specs.Instructions.{Driver, updates, releases, terminates}
use Rattle.timing.specs.SlotLaws.{Each}
use Rattle.timing.specs.Code.{mode_drivers}
use Rattle.emit.specs.Rows.{map_act}
use Rattle.layout.specs.Rows.{rows}
use Rattle.layout.specs.Plain.{driver_cells, guard_cells}
use Rattle.prescribed.specs.Tables.{guard_row}
use Rattle.accepted.specs.Lists.{each_first}
use Rattle.refusals.specs.Draft as D
use Rattle.sheets.specs.declared.Opened.{Opened}
use Rattle.sheets.specs.Sheets.{Sheet, cap, begun, acted, guard_cell, guards_after, counted_in, called, renewed, turned, guard_stored, release_stored, call_stored, update_stored, updating_stored, switch_stored, act_row_of, inserted}
use Rattle.sheets.specs.Held.{drivers_in, acts_of, acts_in, act_cells, guard_code, Fits, Within, ArraysHold, filled_of, acting_of, OpenedHolds, PlansHold}
use Rattle.sheets.specs.Pieces.{shorts, each_last, each-without, length_without, grown, fore_drivers, updates_of, releases_of, calls_of, renewals_of, drivers-inside, acts-inside}
use Rattle.sheets.specs.GuardLaws.{guards-after, guard_told, guard-kept}

-- ---- what is kept behind an activity

-- ---- one row more among those of drivers or activities

module _ {A : Type 0} (v size : ℕ) (cells : A → List ℕ) (xs ys : List A) (x : A) {before after : List A} (e : before ≡ xs ++ ys) (e' : after ≡ xs ++ (x ∷ ys)) where
  abbrev pub FitsAll : List A → Type 0
  FitsAll = Each (λ y. Fits (suc v) (cells y))

-- ---- the numbers of what is under way, within the rooms

pub record Counts (draft : D.Draft) (h : Sheet) : Type 0 where
  pub drivers : h.plan.filled.drivers ≡ length (fore_drivers draft)
  pub acts : h.plan.filled.acts ≡ length (each acts_of draft.built.modes)
  pub calls : h.plan.opened.calls ≡ length draft.mode.calls
  pub updates : h.plan.opened.updates ≡ length draft.mode.updates
  pub switches : h.plan.opened.switches ≡ length draft.mode.switches

-- ---- a draft with a mode under way, before an activity and behind it

module _ {s : List ℕ} (draft : D.Draft) (h : Sheet) (holds : PlansHold s true draft h) (mode : Mode) (wanted : List ℕ) (opened : Opened) (opens : OpenedHolds s mode opened)
    (drivers acts : List ℕ) where
  abbrev pub after : D.Draft
  after = D.acted draft mode wanted

  abbrev pub made : Sheet
  made =
      record {
        plan = acted h.plan opened;
        guards = guard_stored h.plan.filled.guards h.plan.acting h.guards;
        drivers = drivers;
        acts = acts;
        names = h.names;
        heads = h.heads;
        modes = h.modes;
      }
