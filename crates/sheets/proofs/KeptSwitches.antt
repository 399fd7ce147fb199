-- A switch of the mode keeps what the arrays hold.
use Rattle.std.specs.Prelude.{ℕ, zero, suc, ◌+◌, ◌-◌, ◌*◌, ◌≤◌, ◌<◌, min, ◌≡◌, refl, Bool, true, false, cond, List, [], ◌∷◌, ◌++◌, map, length, get_or}
use Rattle.std.proofs.Common.{arith, sym, ap, ap₂, ◌∙◌, subst, append-nil, append_assoc, length-append}
use Rattle.std.proofs.lemmas.List.{length-map}
use Rattle.std.proofs.Math.Seq.{append_snoc}
use Rattle.model.specs.Modules.{Act, Call, Update, Mode, each}
use Rattle.model.specs.Instructions.{Driver, updates, releases, terminates}
use Rattle.timing.specs.SlotLaws.{Each}
use Rattle.emit.specs.Rows.{map_act}
use Rattle.layout.specs.Rows.{rows}
use Rattle.layout.specs.Plain.{driver_cells, guard_cells}
use Rattle.prescribed.specs.Tables.{guard_row}
use Rattle.accepted.specs.Lists.{each_first}
use Rattle.refusals.specs.Draft as D
use Rattle.sheets.specs.Sheets.{Sheet, sheet, cap, turned, guard_stored, switch_stored}
use Rattle.sheets.specs.Held.{drivers_in, acts_of, acts_in, act_cells, Fits, Within, OpenedHolds, PlansHold}
use Rattle.sheets.specs.Pieces.{calls_of, renewals_of, drivers-inside, acts-inside}
use Rattle.sheets.proofs.KeptActs.{guards-fewer, act-told, still-fits, still-few, new-fits, put_in, counts, act-kept}

module _ {s : List ℕ} (draft : D.Draft) (h : Sheet) (holds : PlansHold s true draft h) (target : ℕ) (wanted : List ℕ) where
  abbrev turning : D.Draft
  turning = D.acted draft (D.with_switch draft.mode (D.acting draft target)) wanted

  same-drivers : drivers_in true turning ≡ drivers_in true draft
  same-drivers = drivers-inside turning ∙ sym (drivers-inside draft)

  acts-old : acts_in true draft ≡ acts_in true draft ++ []
  acts-old = sym (append-nil (acts_in true draft))

  acts-new : acts_in true turning ≡ acts_in true draft ++ (D.acting draft target ∷ [])
  acts-new =
      let m = draft.mode in
      let fore = each acts_of draft.built.modes in
      let x = D.acting draft target in
      acts-inside turning
      ∙ ap (λ (l : List (Act ℕ)). fore ++ (calls_of m ++ l)) (sym (append_assoc (renewals_of m) m.switches (x ∷ [])))
      ∙ ap (λ (l : List (Act ℕ)). fore ++ l) (sym (append_assoc (calls_of m) (renewals_of m ++ m.switches) (x ∷ [])))
      ∙ sym (append_assoc fore (acts_of m) (x ∷ []))
      ∙ ap (λ (l : List (Act ℕ)). l ++ (x ∷ [])) (sym (acts-inside draft))

  less : Within true turning → Within true draft
  less w =
      record {
        few-drivers = subst (λ (l : List Driver). length l ≤ 288) same-drivers w.few-drivers;
        few-acts = still-few 2 768 act_cells (acts_in true draft) [] (D.acting draft target) acts-old acts-new 256 w.few-acts;
        few-guards = guards-fewer draft w.few-guards;
        few-modes = w.few-modes;
        drivers = subst (Each (λ d. Fits 12 (driver_cells d))) same-drivers w.drivers;
        acts = still-fits 2 768 act_cells (acts_in true draft) [] (D.acting draft target) acts-old acts-new w.acts;
        guards = each_first (λ g. Fits 6 (guard_cells (guard_row g))) draft.built.guards _ w.guards;
        modes = w.modes;
      }

  opens : OpenedHolds s (D.with_switch draft.mode (D.acting draft target)) (turned h.plan).opened
  opens =
      let o = holds.opened refl in
      let n = length-append draft.mode.switches (D.acting draft target ∷ []) in
      record { name = o.name; start = o.start; period = o.period; calls = o.calls; updates = o.updates; switches = omega (arith, o.switches); sources = o.sources }

  pub switch_kept : PlansHold s true turning
      (sheet (turned h.plan) (guard_stored h.plan.filled.guards h.plan.acting h.guards) h.drivers (switch_stored h.plan target h.acts) h.names h.heads h.modes)
  switch_kept =
      act-kept draft h holds (D.with_switch draft.mode (D.acting draft target)) wanted (turned h.plan).opened opens h.drivers (switch_stored h.plan target h.acts) less
      (λ w b. b.drivers ∙ ap (rows 12 3456 driver_cells) (sym same-drivers))
      (λ w b.
      let m = draft.mode in
      let fore = each acts_of draft.built.modes in
      let c = counts draft h holds (less w) in
      let fits = new-fits 2 768 act_cells (acts_in true draft) [] (D.acting draft target) acts-old acts-new w.acts in
      let n : h.plan.filled.acts + h.plan.opened.calls + h.plan.opened.updates + h.plan.opened.switches ≡ length (acts_in true draft) =
      omega (arith, c.acts, c.calls, c.updates, c.switches, ap length (acts-inside draft), length-append fore (acts_of m), length-append (calls_of m) (renewals_of m ++ m.switches), length-append (renewals_of m) m.switches, length-map m.calls (map_act (λ c. c.task)), length-map m.updates (map_act {B = ℕ} (λ u. 0))) in
      put_in 2 768 act_cells (acts_in true draft) [] (D.acting draft target) acts-old acts-new w.acts (omega (arith, w.few-acts)) _ 0 b.acts n refl (act-told draft h holds refl fits))
