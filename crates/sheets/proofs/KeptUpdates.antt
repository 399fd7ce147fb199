-- An actuator updated keeps what the arrays hold.
use Rattle.std.specs.Prelude.{ℕ, zero, suc, ◌+◌, ◌-◌, ◌*◌, ◌≤◌, ◌<◌, min, ◌≡◌, refl, Bool, true, false, cond, List, [], ◌∷◌, ◌++◌, map, length, get_or}
use Rattle.std.proofs.Common.{arith, sym, ap, ap₂, ◌∙◌, subst, append-nil, append_assoc, length-append}
use Rattle.std.proofs.lemmas.List.{length-map}
use Rattle.std.proofs.Math.Seq.{append_snoc}
use Rattle.model.specs.Modules.{Act, Call, Update, Mode, each}
use Rattle.model.specs.Instructions.{Driver, updates, releases, terminates}
use Rattle.timing.specs.SlotLaws.{Each}
use Rattle.emit.specs.Rows.{map_act}
use Rattle.layout.specs.Rows.{rows}
use Rattle.layout.specs.Plain.{driver_cells, guard_cells}
use Rattle.prescribed.specs.Tables.{guard_row}
use Rattle.accepted.specs.Lists.{each_first}
use Rattle.refusals.specs.Draft as D
use Rattle.sheets.specs.Sheets.{Sheet, sheet, cap, renewed, guard_stored, update_stored, updating_stored}
use Rattle.sheets.specs.Held.{drivers_in, acts_of, acts_in, act_cells, Fits, Within, OpenedHolds, PlansHold}
use Rattle.sheets.specs.Pieces.{map_more, fore_drivers, updates_of, releases_of, calls_of, renewals_of, drivers-inside, acts-inside}
use Rattle.sheets.proofs.KeptActs.{guards-fewer, act-told, still-fits, still-few, new-fits, put_in, counts, act-kept}

module _ {s : List ℕ} (draft : D.Draft) (h : Sheet) (holds : PlansHold s true draft h) (source target : ℕ) (wanted : List ℕ) where
  abbrev renewal : Act Update
  renewal = D.acting draft (record { source = source; target = target })

  abbrev renewing : D.Draft
  renewing = D.acted draft (D.with_update draft.mode renewal) wanted

  abbrev drivers_before : List Driver
  drivers_before = fore_drivers draft ++ updates_of draft.mode

  drivers-old : drivers_in true draft ≡ drivers_before ++ releases_of draft.mode
  drivers-old = drivers-inside draft ∙ sym (append_assoc (fore_drivers draft) (updates_of draft.mode) (releases_of draft.mode))

  drivers-new : drivers_in true renewing ≡ drivers_before ++ (updates source target ∷ releases_of draft.mode)
  drivers-new =
      let m = draft.mode in
      drivers-inside renewing
      ∙ ap (λ (l : List Driver). fore_drivers draft ++ (l ++ releases_of m)) (map_more (λ a. updates a.what.source a.what.target) m.updates renewal)
      ∙ ap (λ (l : List Driver). fore_drivers draft ++ l) (append_snoc (updates_of m) (updates source target) (releases_of m))
      ∙ sym (append_assoc (fore_drivers draft) (updates_of m) (updates source target ∷ releases_of m))

  abbrev fore : List (Act ℕ)
  fore = each acts_of draft.built.modes

  abbrev acts_before : List (Act ℕ)
  acts_before = (fore ++ calls_of draft.mode) ++ renewals_of draft.mode

  acts-old : acts_in true draft ≡ acts_before ++ draft.mode.switches
  acts-old =
      let m = draft.mode in
      acts-inside draft ∙ sym (append_assoc fore (calls_of m) (renewals_of m ++ m.switches)) ∙ sym (append_assoc (fore ++ calls_of m) (renewals_of m) m.switches)

  acts-new : acts_in true renewing ≡ acts_before ++ (D.acting draft 0 ∷ draft.mode.switches)
  acts-new =
      let m = draft.mode in
      acts-inside renewing
      ∙ ap (λ (l : List (Act ℕ)). fore ++ (calls_of m ++ (l ++ m.switches))) (map_more (map_act (λ u. 0)) m.updates renewal)
      ∙ ap (λ (l : List (Act ℕ)). fore ++ (calls_of m ++ l)) (append_snoc (renewals_of m) (D.acting draft 0) m.switches)
      ∙ sym (append_assoc fore (calls_of m) (renewals_of m ++ (D.acting draft 0 ∷ m.switches)))
      ∙ sym (append_assoc (fore ++ calls_of m) (renewals_of m) (D.acting draft 0 ∷ m.switches))

  less : Within true renewing → Within true draft
  less w =
      record {
        few-drivers = still-few 11 3456 driver_cells drivers_before (releases_of draft.mode) (updates source target) drivers-old drivers-new 288 w.few-drivers;
        few-acts = still-few 2 768 act_cells acts_before draft.mode.switches (D.acting draft 0) acts-old acts-new 256 w.few-acts;
        few-guards = guards-fewer draft w.few-guards;
        few-modes = w.few-modes;
        drivers = still-fits 11 3456 driver_cells drivers_before (releases_of draft.mode) (updates source target) drivers-old drivers-new w.drivers;
        acts = still-fits 2 768 act_cells acts_before draft.mode.switches (D.acting draft 0) acts-old acts-new w.acts;
        guards = each_first (λ g. Fits 6 (guard_cells (guard_row g))) draft.built.guards _ w.guards;
        modes = w.modes;
      }

  opens : OpenedHolds s (D.with_update draft.mode renewal) (renewed h.plan).opened
  opens =
      let o = holds.opened refl in
      let n = length-append draft.mode.updates (renewal ∷ []) in
      record { name = o.name; start = o.start; period = o.period; calls = o.calls; updates = omega (arith, o.updates); switches = o.switches; sources = o.sources }

  pub update-kept : PlansHold s true renewing
      (sheet (renewed h.plan) (guard_stored h.plan.filled.guards h.plan.acting h.guards) (update_stored h.plan source target h.drivers) (updating_stored h.plan h.acts) h.names h.heads h.modes)
  update-kept =
      act-kept draft h holds (D.with_update draft.mode renewal) wanted (renewed h.plan).opened opens (update_stored h.plan source target h.drivers) (updating_stored h.plan h.acts) less
      (λ w b.
      let m = draft.mode in
      let c = counts draft h holds (less w) in
      let fits = new-fits 11 3456 driver_cells drivers_before (releases_of m) (updates source target) drivers-old drivers-new w.drivers in
      let n : h.plan.filled.drivers + h.plan.opened.updates ≡ length drivers_before =
      omega (arith, c.drivers, c.updates, length-append (fore_drivers draft) (updates_of m), length-map m.updates (λ a. updates a.what.source a.what.target)) in
      let k : h.plan.opened.calls ≡ length (releases_of m) = omega (arith, c.calls, length-map m.calls (λ a. releases a.what.task a.what.sources)) in
      let t : cap target ≡ target = omega (arith, fits.small.1.0) in
      let f : cap source ≡ source = omega (arith, fits.small.1.1.1.0) in
      put_in 11 3456 driver_cells drivers_before (releases_of m) (updates source target) drivers-old drivers-new w.drivers (omega (arith, w.few-drivers)) _ _ b.drivers n k
      (ap₂ (λ (i j : ℕ). 3 ∷ i ∷ 1 ∷ j ∷ []) t f))
      (λ w b.
      let m = draft.mode in
      let c = counts draft h holds (less w) in
      let fits = new-fits 2 768 act_cells acts_before m.switches (D.acting draft 0) acts-old acts-new w.acts in
      let n : h.plan.filled.acts + h.plan.opened.calls + h.plan.opened.updates ≡ length acts_before =
      omega (arith, c.acts, c.calls, c.updates, length-append (fore ++ calls_of m) (renewals_of m), length-append fore (calls_of m), length-map m.calls (map_act (λ c. c.task)), length-map m.updates (map_act {B = ℕ} (λ u. 0))) in
      put_in 2 768 act_cells acts_before m.switches (D.acting draft 0) acts-old acts-new w.acts (omega (arith, w.few-acts)) _ _ b.acts n c.switches (act-told draft h holds refl fits))
