-- A task invoked keeps what the arrays hold.
use Rattle.std.specs.Prelude.{ℕ, zero, suc, ◌+◌, ◌-◌, ◌*◌, ◌≤◌, ◌<◌, min, ◌≡◌, refl, Bool, true, false, cond, List, [], ◌∷◌, ◌++◌, map, length, get_or}
use Rattle.std.proofs.Common.{arith, sym, ap, ap₂, ◌∙◌, subst, append-nil, append_assoc, length-append}
use Rattle.std.proofs.lemmas.List.{length-map}
use Rattle.std.proofs.Math.Seq.{append_snoc}
use Rattle.model.specs.Modules.{Act, Call, Update, Mode, each}
use Rattle.model.specs.Instructions.{Driver, updates, releases, terminates}
use Rattle.timing.specs.SlotLaws.{Each}
use Rattle.emit.specs.Rows.{map_act}
use Rattle.layout.specs.Rows.{rows}
use Rattle.layout.specs.Plain.{driver_cells, guard_cells}
use Rattle.prescribed.specs.Tables.{guard_row}
use Rattle.accepted.specs.Lists.{each_first}
use Rattle.refusals.specs.Draft as D
use Rattle.sheets.specs.Sheets.{Sheet, sheet, cap, called, guard_stored, release_stored, call_stored}
use Rattle.sheets.specs.Held.{drivers_in, acts_of, acts_in, act_cells, Fits, Within, OpenedHolds, PlansHold}
use Rattle.sheets.specs.Pieces.{inserted-last, map_more, fore_drivers, updates_of, releases_of, calls_of, renewals_of, drivers-inside, acts-inside, last-sources}
use Rattle.sheets.proofs.KeptActs.{guards-fewer, act-told, still-fits, still-few, new-fits, put_in, counts, act-kept}

module _ {s : List ℕ} (draft : D.Draft) (h : Sheet) (holds : PlansHold s true draft h) (task : ℕ) (wanted : List ℕ) where
  abbrev invocation : Act Call
  invocation = D.acting draft (record { task = task; sources = [] })

  abbrev invoking : D.Draft
  invoking = D.acted draft (D.with_call draft.mode invocation) wanted

  invoked-drivers : drivers_in true invoking ≡ drivers_in true draft ++ (releases task [] ∷ [])
  invoked-drivers =
      let m = draft.mode in
      drivers-inside invoking
      ∙ ap (λ (l : List Driver). fore_drivers draft ++ (updates_of m ++ l)) (map_more (λ a. releases a.what.task a.what.sources) m.calls invocation)
      ∙ ap (λ (l : List Driver). fore_drivers draft ++ l) (sym (append_assoc (updates_of m) (releases_of m) (releases task [] ∷ [])))
      ∙ sym (append_assoc (fore_drivers draft) (updates_of m ++ releases_of m) (releases task [] ∷ []))
      ∙ ap (λ (l : List Driver). l ++ (releases task [] ∷ [])) (sym (drivers-inside draft))

  abbrev calls_before : List (Act ℕ)
  calls_before = each acts_of draft.built.modes ++ calls_of draft.mode

  abbrev calls_behind : List (Act ℕ)
  calls_behind = renewals_of draft.mode ++ draft.mode.switches

  uninvoked-acts : acts_in true draft ≡ calls_before ++ calls_behind
  uninvoked-acts = acts-inside draft ∙ sym (append_assoc (each acts_of draft.built.modes) (calls_of draft.mode) calls_behind)

  invoked-acts : acts_in true invoking ≡ calls_before ++ (D.acting draft task ∷ calls_behind)
  invoked-acts =
      let fore = each acts_of draft.built.modes in
      acts-inside invoking
      ∙ ap (λ (l : List (Act ℕ)). fore ++ (l ++ calls_behind)) (map_more (map_act (λ c. c.task)) draft.mode.calls invocation)
      ∙ ap (λ (l : List (Act ℕ)). fore ++ l) (append_snoc (calls_of draft.mode) (D.acting draft task) calls_behind)
      ∙ sym (append_assoc fore (calls_of draft.mode) (D.acting draft task ∷ calls_behind))

  same-drivers : drivers_in true draft ≡ drivers_in true draft ++ []
  same-drivers = sym (append-nil (drivers_in true draft))

  invoked-less : Within true invoking → Within true draft
  invoked-less w =
      record {
        few-drivers = still-few 11 3456 driver_cells (drivers_in true draft) [] (releases task []) same-drivers invoked-drivers 288 w.few-drivers;
        few-acts = still-few 2 768 act_cells calls_before calls_behind (D.acting draft task) uninvoked-acts invoked-acts 256 w.few-acts;
        few-guards = guards-fewer draft w.few-guards;
        few-modes = w.few-modes;
        drivers = still-fits 11 3456 driver_cells (drivers_in true draft) [] (releases task []) same-drivers invoked-drivers w.drivers;
        acts = still-fits 2 768 act_cells calls_before calls_behind (D.acting draft task) uninvoked-acts invoked-acts w.acts;
        guards = each_first (λ g. Fits 6 (guard_cells (guard_row g))) draft.built.guards _ w.guards;
        modes = w.modes;
      }

  invoked-opens : OpenedHolds s (D.with_call draft.mode invocation) (called h.plan).opened
  invoked-opens =
      let o = holds.opened refl in
      let n = length-append draft.mode.calls (invocation ∷ []) in
      record {
        name = o.name;
        start = o.start;
        period = o.period;
        calls = omega (arith, o.calls);
        updates = o.updates;
        switches = o.switches;
        sources = ap cap (sym (last-sources draft.mode.calls invocation));
      }

  pub invoke-kept : PlansHold s true invoking
      (sheet (called h.plan) (guard_stored h.plan.filled.guards h.plan.acting h.guards) (release_stored h.plan task h.drivers) (call_stored h.plan task h.acts) h.names h.heads h.modes)
  invoke-kept =
      act-kept draft h holds (D.with_call draft.mode invocation) wanted (called h.plan).opened invoked-opens
      (release_stored h.plan task h.drivers) (call_stored h.plan task h.acts) invoked-less
      (λ w b.
      let m = draft.mode in
      let c = counts draft h holds (invoked-less w) in
      let fits = new-fits 11 3456 driver_cells (drivers_in true draft) [] (releases task []) same-drivers invoked-drivers w.drivers in
      let n : h.plan.filled.drivers + h.plan.opened.updates + h.plan.opened.calls ≡ length (drivers_in true draft) =
      omega (arith, c.drivers, c.updates, c.calls, ap length (drivers-inside draft), length-append (fore_drivers draft) (updates_of m ++ releases_of m), length-append (updates_of m) (releases_of m), length-map m.updates (λ a. updates a.what.source a.what.target), length-map m.calls (λ a. releases a.what.task a.what.sources)) in
      sym (inserted-last 12 (h.plan.filled.drivers + h.plan.opened.updates + h.plan.opened.calls) (4 ∷ cap task ∷ 0 ∷ []) h.drivers)
      ∙ put_in 11 3456 driver_cells (drivers_in true draft) [] (releases task []) same-drivers invoked-drivers w.drivers (omega (arith, w.few-drivers)) _ 0 b.drivers n refl
      (ap (λ (k : ℕ). 4 ∷ k ∷ 0 ∷ []) (omega (arith, fits.small.1.0))))
      (λ w b.
      let m = draft.mode in
      let c = counts draft h holds (invoked-less w) in
      let fits = new-fits 2 768 act_cells calls_before calls_behind (D.acting draft task) uninvoked-acts invoked-acts w.acts in
      let n : h.plan.filled.acts + h.plan.opened.calls ≡ length calls_before =
      omega (arith, c.acts, c.calls, length-append (each acts_of draft.built.modes) (calls_of m), length-map m.calls (map_act (λ c. c.task))) in
      let k : h.plan.opened.updates + h.plan.opened.switches ≡ length calls_behind =
      omega (arith, c.updates, c.switches, length-append (renewals_of m) m.switches, length-map m.updates (map_act {B = ℕ} (λ u. 0))) in
      put_in 2 768 act_cells calls_before calls_behind (D.acting draft task) uninvoked-acts invoked-acts w.acts (omega (arith, w.few-acts)) _ _ b.acts n k (act-told draft h holds refl fits))
