-- What is kept behind an activity, and one row more among those of drivers and activities.
use Rattle.std.specs.Prelude.{ℕ, zero, suc, ◌+◌, ◌-◌, ◌*◌, ◌≤◌, ◌<◌, min, ◌≡◌, refl, Bool, true, false, cond, List, [], ◌∷◌, ◌++◌, map, length, get_or}
use Rattle.std.proofs.Common.{arith, sym, ap, ap₂, ◌∙◌, subst, append-nil, append_assoc, length-append}
use Rattle.std.proofs.Math.Option.{Option, none, some}
use Rattle.std.proofs.lemmas.List.{length-map}
use Rattle.model.specs.Modules.{Act, Call, Update, Mode, each}
use Rattle.model.specs.Instructions.{Driver, updates, releases, terminates}
use Rattle.timing.specs.SlotLaws.{Each}
use Rattle.timing.specs.Code.{mode_drivers}
use Rattle.emit.specs.Rows.{map_act}
use Rattle.layout.specs.Rows.{rows}
use Rattle.layout.specs.Plain.{driver_cells, guard_cells}
use Rattle.prescribed.specs.Tables.{guard_row}
use Rattle.accepted.specs.Lists.{each_first}
use Rattle.refusals.specs.Draft as D
use Rattle.sheets.specs.declared.Opened.{Opened}
use Rattle.sheets.specs.Sheets.{Sheet, cap, begun, acted, guard_cell, guards_after, counted_in, called, renewed, turned, guard_stored, release_stored, call_stored, update_stored, updating_stored, switch_stored, act_row_of, inserted}
use Rattle.sheets.specs.Held.{drivers_in, acts_of, acts_in, act_cells, guard_code, Fits, Within, ArraysHold, filled_of, acting_of, OpenedHolds, PlansHold}
use Rattle.sheets.specs.Pieces.{shorts, each_last, each-without, length_without, grown, fore_drivers, updates_of, releases_of, calls_of, renewals_of, drivers-inside, acts-inside}
use Rattle.sheets.specs.GuardLaws.{guards-after, guard_told, guard-kept}
-- ---- what is kept behind an activity

use Rattle.sheets.specs.KeptActs.{Counts, FitsAll, after, made}

module _ {s : List ℕ} {inside : Bool} (draft : D.Draft) (h : Sheet) (holds : PlansHold s inside draft h) where
  pub guards-counted : guards_after h.plan.acting h.plan.filled.guards ≡ cap (length (draft.built.guards ++ D.guard_of draft.doing.function draft.doing.operands))
  guards-counted = rw (holds.filled, holds.acting) (guards-after draft.doing draft.built.guards)

  pub guards-told : (few : length (draft.built.guards ++ D.guard_of draft.doing.function draft.doing.operands) ≤ 256)
      → Each (λ g. Fits 6 (guard_cells (guard_row g))) (draft.built.guards ++ D.guard_of draft.doing.function draft.doing.operands)
      → h.guards ≡ rows 6 1536 guard_cells (map guard_row draft.built.guards)
      → guard_stored h.plan.filled.guards h.plan.acting h.guards ≡ rows 6 1536 guard_cells (map guard_row (draft.built.guards ++ D.guard_of draft.doing.function draft.doing.operands))
  guards-told few fit e = rw (holds.filled, holds.acting) (guard-kept draft.doing draft.built.guards h.guards few fit e)

  -- the row of an activity whose cells fit
  pub act-told : {what told : ℕ} → told ≡ cap what → Fits 3 (act_cells (D.acting draft what)) → act_row_of h.plan told ≡ act_cells (D.acting draft what)
  act-told {what} {told} e fits =
      let small = fits.small in
      let g = guard_told draft.doing (length draft.built.guards) in
      let a : cap draft.doing.frequency ≡ draft.doing.frequency = omega (arith, small.0) in
      let b : cap (guard_code (D.guard_number draft.doing.function (length draft.built.guards))) ≡ guard_code (D.guard_number draft.doing.function (length draft.built.guards)) = omega (arith, small.1.0) in
      let c : cap what ≡ what = omega (arith, small.1.1.0) in
      rw (holds.filled, holds.acting, e, g, a, b, c) refl

module _ (draft : D.Draft) where
  pub guards-fewer : length (draft.built.guards ++ D.guard_of draft.doing.function draft.doing.operands) ≤ 256 → length draft.built.guards ≤ 256
  guards-fewer few = omega (arith, length-append draft.built.guards (D.guard_of draft.doing.function draft.doing.operands))

-- ---- one row more among those of drivers or activities

module _ {A : Type 0} (v size : ℕ) (cells : A → List ℕ) (xs ys : List A) (x : A) {before after : List A} (e : before ≡ xs ++ ys) (e' : after ≡ xs ++ (x ∷ ys)) where
  pub still-fits : (FitsAll v size cells xs ys x e e') after → (FitsAll v size cells xs ys x e e') before
  still-fits fit = subst (FitsAll v size cells xs ys x e e') (sym e) (each-without (λ y. Fits (suc v) (cells y)) xs x ys (subst (FitsAll v size cells xs ys x e e') e' fit))

  pub still-few : (room : ℕ) → length after ≤ room → length before ≤ room
  still-few room few = omega (arith, ap length e, ap length e', length_without xs x ys)

  pub new-fits : (FitsAll v size cells xs ys x e e') after → Fits (suc v) (cells x)
  new-fits fit = (each_last (λ y. Fits (suc v) (cells y)) xs (x ∷ ys) (subst (FitsAll v size cells xs ys x e e') e' fit)).0

  pub put_in : (FitsAll v size cells xs ys x e e') after → length after * suc v ≤ size → {l row-cells : List ℕ} (row behind : ℕ) → l ≡ rows (suc v) size cells before → row ≡ length xs → behind ≡ length ys
      → row-cells ≡ cells x → inserted (suc v) row behind row-cells l ≡ rows (suc v) size cells after
  put_in fit room row behind is r b m =
      grown v size cells xs ys x (shorts (suc v) cells (xs ++ (x ∷ ys)) (subst (FitsAll v size cells xs ys x e e') e' fit)) (subst (λ (n : ℕ). n * suc v ≤ size) (ap length e') room) row behind (is ∙ ap (rows (suc v) size cells) e) r b m
      ∙ ap (rows (suc v) size cells) (sym e')

module _ {s : List ℕ} (draft : D.Draft) (h : Sheet) (holds : PlansHold s true draft h) where
  pub counts : Within true draft → Counts draft h
  counts w =
      let o = holds.opened refl in
      let m = draft.mode in
      let fore = each acts_of draft.built.modes in
      let n : length (acts_in true draft) ≡ length fore + (length m.calls + (length m.updates + length m.switches)) =
      ap length (acts-inside draft)
      ∙ omega (arith, length-append fore (acts_of m), length-append (calls_of m) (renewals_of m ++ m.switches), length-append (renewals_of m) m.switches, length-map m.calls (map_act (λ c. c.task)), length-map m.updates (map_act {B = ℕ} (λ u. 0))) in
      let d : length (drivers_in true draft) ≡ length (fore_drivers draft) + length (updates_of m ++ releases_of m) = ap length (drivers-inside draft) ∙ length-append (fore_drivers draft) (updates_of m ++ releases_of m) in
      let fd = w.few-drivers in
      let fa = w.few-acts in
      record {
        drivers = ap (λ f. f.drivers) holds.filled ∙ omega arith;
        acts = ap (λ f. f.acts) holds.filled ∙ omega arith;
        calls = o.calls ∙ omega arith;
        updates = o.updates ∙ omega arith;
        switches = o.switches ∙ omega arith;
      }

-- ---- a draft with a mode under way, before an activity and behind it

module _ {s : List ℕ} (draft : D.Draft) (h : Sheet) (holds : PlansHold s true draft h) (mode : Mode) (wanted : List ℕ) (opened : Opened) (opens : OpenedHolds s mode opened)
    (drivers acts : List ℕ) where
  -- drivers and activities are left to show
  pub act-kept : (Within true (after draft h holds mode wanted opened opens drivers acts) → Within true draft)
      → (Within true (after draft h holds mode wanted opened opens drivers acts) → ArraysHold true draft h → drivers ≡ rows 12 3456 driver_cells (drivers_in true (after draft h holds mode wanted opened opens drivers acts)))
      → (Within true (after draft h holds mode wanted opened opens drivers acts) → ArraysHold true draft h → acts ≡ rows 3 768 act_cells (acts_in true (after draft h holds mode wanted opened opens drivers acts)))
      → PlansHold s true (after draft h holds mode wanted opened opens drivers acts) (made draft h holds mode wanted opened opens drivers acts)
  act-kept less d a =
      record {
        filled = ap₂ (λ f g. record { tasks = f.tasks; drivers = f.drivers; acts = f.acts; guards = g; modes = f.modes }) holds.filled (guards-counted draft h holds);
        acting = ap (λ x. begun x.frequency 0) holds.acting;
        opened = λ e. opens;
        arrays =
            λ w.
            let b = holds.arrays (less w) in
            record {
              drivers = d w b;
              acts = a w b;
              guards = guards-told draft h holds w.few-guards w.guards b.guards;
              names = b.names;
              heads = b.heads;
              modes = b.modes;
            };
      }
