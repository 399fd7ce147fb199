-- One source more for the task invoked last keeps what the arrays hold.
use Prim.Native.Nat.{ℕ, zero, suc, ◌+◌, ◌-◌, ◌*◌, ◌≤◌, ◌<◌, min}
use native.Mathlib.Omega.{arith}
use Rattle.std.specs.Prelude.{◌≡◌, Bool, true, false, cond, eqb}
use Rattle.std.proofs.Math.Path.{refl, sym, ap}
use Rattle.std.proofs.Common.{ap₂, ◌∙◌, subst, eq-eqb, ne_eqb}
use mathlib.Core.List.{List, [], ◌∷◌, ◌++◌, map, append-nil, append_assoc}
use Rattle.std.proofs.Math.ListN.{length, set, length-append}
use Rattle.std.proofs.lemmas.List.{length-map}
use Rattle.std.proofs.Math.Seq.{append_snoc, set_at}
use Rattle.model.specs.Modules.{Act, Call, Update, Mode, each}
use Rattle.model.specs.Instructions.{Driver, updates, releases, terminates}
use Rattle.timing.specs.SlotLaws.{Each}
use Rattle.timing.specs.Code.{terminates_from, mode_drivers}
use Rattle.emit.specs.Rows.{map_act}
use Rattle.layout.specs.Rows.{zeros, padded, rows}
use Rattle.layout.specs.Filling.{length-padded, each_both}
use Rattle.accepted.specs.GuardRoom.{sourced-length}
use Rattle.layout.specs.Plain.{driver_cells, guard_cells}
use Rattle.prescribed.specs.Tables.{guard_row}
use Rattle.accepted.specs.Lists.{each_first, each_append}
use Rattle.refusals.specs.Draft as D
use Rattle.refusals.specs.Draft.{last_sourced}
use Rattle.sheets.specs.Sheets.{Sheet, sheet, cap, source_stored, source_read, fed, with_opened, counted_in}
use Rattle.sheets.specs.Held.{drivers_in, acts_of, acts_in, act_cells, acting_of, last_sources, Fits, Within, ArraysHold, OpenedHolds, PlansHold}
use Rattle.sheets.specs.Raising.{flat, length-flat}
use Rattle.sheets.specs.Pieces.{Ends, empty, behind, ends, shorts, each_last, map_more, fore_drivers, updates_of, releases_of, calls_of, renewals_of, drivers-inside, acts-inside, last-sourced, last-sources}
use Rattle.sheets.specs.KeptActs.{Counts}
use Rattle.sheets.proofs.KeptActs.{counts}
use Rattle.sheets.specs.KeptSame.{same-arrays}

-- ---- the cells of a release with one source more

module _ (front : List ℕ) (task port : ℕ) (sources rest : List ℕ) (place : ℕ) (at : place ≡ length front) (room : length sources < 9) where
  abbrev cells_of : List ℕ → List ℕ
  cells_of list = padded 12 (4 ∷ task ∷ length list ∷ list)

  one-source-more : set (set (front ++ (cells_of sources ++ rest)) (place + 2) (length sources + 1)) (place + 3 + length sources) port ≡ front ++ (cells_of (sources ++ (port ∷ [])) ++ rest)
  unfolding padded zeros
  one-source-more =
      let n = length sources in
      let left = zeros (8 - n) ++ rest in
      let i : 12 - length (4 ∷ task ∷ n ∷ sources) ≡ suc (8 - n) = omega arith in
      let z : zeros (12 - length (4 ∷ task ∷ n ∷ sources)) ≡ zeros (suc (8 - n)) = ap zeros i in
      let l : length (sources ++ (port ∷ [])) ≡ n + 1 = length-append sources (port ∷ []) in
      let j : 12 - length (4 ∷ task ∷ length (sources ++ (port ∷ [])) ∷ (sources ++ (port ∷ []))) ≡ 8 - n = omega arith in
      let z' : zeros (12 - length (4 ∷ task ∷ length (sources ++ (port ∷ [])) ∷ (sources ++ (port ∷ [])))) ≡ zeros (8 - n) = ap zeros j in
      let p : front ++ (cells_of sources ++ rest) ≡ (front ++ (4 ∷ task ∷ [])) ++ (n ∷ (sources ++ (0 ∷ left))) =
      ap (λ (m : List ℕ). front ++ (((4 ∷ task ∷ n ∷ sources) ++ m) ++ rest)) z
      ∙ ap (λ (m : List ℕ). front ++ (4 ∷ task ∷ n ∷ m)) (append_assoc sources (zeros (suc (8 - n))) rest)
      ∙ sym (append_assoc front (4 ∷ task ∷ []) (n ∷ (sources ++ (0 ∷ left)))) in
      let u : length (front ++ (4 ∷ task ∷ [])) ≡ place + 2 = omega (arith, length-append front (4 ∷ task ∷ [])) in
      let q : (front ++ (4 ∷ task ∷ [])) ++ ((n + 1) ∷ (sources ++ (0 ∷ left))) ≡ (front ++ (4 ∷ task ∷ (n + 1) ∷ sources)) ++ (0 ∷ left) =
      append_assoc front (4 ∷ task ∷ []) ((n + 1) ∷ (sources ++ (0 ∷ left))) ∙ sym (append_assoc front (4 ∷ task ∷ (n + 1) ∷ sources) (0 ∷ left)) in
      let v : length (front ++ (4 ∷ task ∷ (n + 1) ∷ sources)) ≡ place + 3 + n = omega (arith, length-append front (4 ∷ task ∷ (n + 1) ∷ sources)) in
      let r : (front ++ (4 ∷ task ∷ (n + 1) ∷ sources)) ++ (port ∷ left) ≡ front ++ (cells_of (sources ++ (port ∷ [])) ++ rest) =
      append_assoc front (4 ∷ task ∷ (n + 1) ∷ sources) (port ∷ left)
      ∙ ap (λ (m : List ℕ). front ++ (4 ∷ task ∷ (n + 1) ∷ m)) (sym (append_snoc sources port left) ∙ sym (append_assoc (sources ++ (port ∷ [])) (zeros (8 - n)) rest))
      ∙ ap (λ (m : List ℕ). front ++ (4 ∷ task ∷ (n + 1) ∷ ((sources ++ (port ∷ [])) ++ m ++ rest))) (sym z')
      ∙ ap (λ (k : ℕ). front ++ (4 ∷ task ∷ k ∷ ((sources ++ (port ∷ [])) ++ zeros (12 - length (4 ∷ task ∷ length (sources ++ (port ∷ [])) ∷ (sources ++ (port ∷ [])))) ++ rest))) (sym l) in
      ap (λ (m : List ℕ). set (set m (place + 2) (n + 1)) (place + 3 + n) port) p
      ∙ ap (λ (m : List ℕ). set m (place + 3 + n) port) (set_at (front ++ (4 ∷ task ∷ [])) n (sources ++ (0 ∷ left)) (n + 1) (place + 2) u ∙ q)
      ∙ set_at (front ++ (4 ∷ task ∷ (n + 1) ∷ sources)) 0 left port (place + 3 + n) v ∙ r

-- the last of the drivers' rows
module _ (xs : List Driver) (task : ℕ) (sources : List ℕ) (port : ℕ) (fit : Each (λ d. length (driver_cells d) ≤ 12) xs) (few : length sources < 9) (room : length xs < 288) where
  fed-row : (row : ℕ) → row ≡ length xs → {number told : ℕ} → number ≡ length sources → told ≡ port
      → source_stored row number told (rows 12 3456 driver_cells (xs ++ (releases task sources ∷ []))) ≡ rows 12 3456 driver_cells (xs ++ (releases task (sources ++ (port ∷ [])) ∷ []))
  unfolding source_stored rows padded
  fed-row row e {number} {told} k g =
      let F = flat 12 driver_cells xs in
      let f : length F ≡ length xs * 12 = length-flat 11 3456 driver_cells xs fit in
      let old = padded 12 (driver_cells (releases task sources)) in
      let new = padded 12 (driver_cells (releases task (sources ++ (port ∷ [])))) in
      let o : flat 12 driver_cells (xs ++ (releases task sources ∷ [])) ≡ F ++ old =
      each_both (λ d. padded 12 (driver_cells d)) xs (releases task sources ∷ []) ∙ ap (λ (m : List ℕ). F ++ m) (append-nil old) in
      let n : flat 12 driver_cells (xs ++ (releases task (sources ++ (port ∷ [])) ∷ [])) ≡ F ++ new =
      each_both (λ d. padded 12 (driver_cells d)) xs (releases task (sources ++ (port ∷ [])) ∷ []) ∙ ap (λ (m : List ℕ). F ++ m) (append-nil new) in
      let lo : length (F ++ old) ≡ length F + 12 = length-append F old ∙ ap (λ (i : ℕ). length F + i) (length-padded 12 (driver_cells (releases task sources)) (omega arith)) in
      let ln : length (F ++ new) ≡ length F + 12 = length-append F new ∙ ap (λ (i : ℕ). length F + i) (length-padded 12 (driver_cells (releases task (sources ++ (port ∷ [])))) (omega (arith, length-append sources (port ∷ [])))) in
      let z = zeros (3456 - (length F + 12)) in
      let p : padded 3456 (flat 12 driver_cells (xs ++ (releases task sources ∷ []))) ≡ F ++ (old ++ z) =
      ap (padded 3456) o ∙ ap (λ (i : ℕ). (F ++ old) ++ zeros (3456 - i)) lo ∙ append_assoc F old z in
      let q : padded 3456 (flat 12 driver_cells (xs ++ (releases task (sources ++ (port ∷ [])) ∷ []))) ≡ F ++ (new ++ z) =
      ap (padded 3456) n ∙ ap (λ (i : ℕ). (F ++ new) ++ zeros (3456 - i)) ln ∙ append_assoc F new z in
      let at : row * 12 ≡ length F = ap (λ (i : ℕ). i * 12) e ∙ sym f in
      let c : cap (number + 1) ≡ length sources + 1 = omega (arith, k, few) in
      rw (c, k, g) (ap (λ (m : List ℕ). set (set m (row * 12 + 2) (length sources + 1)) (row * 12 + 3 + length sources) port) p
      ∙ one-source-more F task port sources z (row * 12) at few ∙ sym q)

-- ---- the draft with one source more

sourced-acts : (source : ℕ) (calls : List (Act Call)) → map (map_act (λ c. c.task)) (D.last_sourced source calls) ≡ map (map_act (λ c. c.task)) calls
unfolding last_sourced
sourced-acts source [] = refl
sourced-acts source (call ∷ []) = refl
sourced-acts source (call ∷ next ∷ calls) = ap (λ l. map_act (λ c. c.task) call ∷ l) (sourced-acts source (next ∷ calls))

-- the drivers of what is finished, of the updates, and of all invocations but the last
abbrev drivers_fore : D.Draft → List (Act Call) → List Driver
drivers_fore draft front = fore_drivers draft ++ (updates_of draft.mode ++ map (λ a. releases a.what.task a.what.sources) front)

drivers-last : (draft : D.Draft) (calls front : List (Act Call)) (last : Act Call) → calls ≡ front ++ (last ∷ [])
    → fore_drivers draft ++ (updates_of draft.mode ++ map (λ a. releases a.what.task a.what.sources) calls) ≡ drivers_fore draft front ++ (releases last.what.task last.what.sources ∷ [])
drivers-last draft calls front last e =
    let U = updates_of draft.mode in
    let R = map (λ (a : Act Call). releases a.what.task a.what.sources) front in
    let x = releases last.what.task last.what.sources in
    ap (λ (l : List (Act Call)). fore_drivers draft ++ (U ++ map (λ a. releases a.what.task a.what.sources) l)) e
    ∙ ap (λ (l : List Driver). fore_drivers draft ++ (U ++ l)) (map_more (λ (a : Act Call). releases a.what.task a.what.sources) front last)
    ∙ ap (λ (l : List Driver). fore_drivers draft ++ l) (sym (append_assoc U R (x ∷ [])))
    ∙ sym (append_assoc (fore_drivers draft) (U ++ R) (x ∷ []))

module _ {s : List ℕ} (draft : D.Draft) (h : Sheet) (holds : PlansHold s true draft h) (port : ℕ) (doing : D.Doing) (same : acting_of doing ≡ acting_of draft.doing) where
  abbrev feeding : D.Draft
  feeding = D.with_doing (D.with_mode draft (D.with_source draft.mode port)) doing

  abbrev fed_sheet : Sheet
  fed_sheet = sheet (fed h.plan) h.guards (source_read h.plan port h.drivers) h.acts h.names h.heads h.modes

  same-acts : acts_in true feeding ≡ acts_in true draft
  same-acts =
      let m = draft.mode in
      acts-inside feeding ∙ ap (λ (l : List (Act ℕ)). each acts_of draft.built.modes ++ (l ++ (renewals_of m ++ m.switches))) (sourced-acts port m.calls) ∙ sym (acts-inside draft)

  -- no task is invoked
  module _ (none : draft.mode.calls ≡ []) where
    no-calls : h.plan.opened.calls ≡ 0
    no-calls = (holds.opened refl).calls ∙ ap (λ (l : List (Act Call)). cap (length l)) none

    same-plan : fed h.plan ≡ h.plan
    unfolding fed
    same-plan = rw no-calls refl

    same_rows : source_read h.plan port h.drivers ≡ h.drivers
    unfolding source_read
    same_rows = rw no-calls refl

    same-calls : D.last_sourced port draft.mode.calls ≡ draft.mode.calls
    unfolding last_sourced
    same-calls = ap (D.last_sourced port) none ∙ sym none

    same-mode : D.with_source draft.mode port ≡ draft.mode
    same-mode =
        let m = draft.mode in
        ap (λ (l : List (Act Call)). record { name = m.name; start = m.start; period = m.period; calls = l; updates = m.updates; switches = m.switches }) same-calls

    same-drivers : drivers_in true feeding ≡ drivers_in true draft
    same-drivers = ap (λ (m : Mode). terminates_from 0 draft.built.tasks ++ each mode_drivers (draft.built.modes ++ (m ∷ []))) same-mode

    none_kept : PlansHold s true feeding fed_sheet
    none_kept =
        record {
          filled = ap (λ p. p.filled) same-plan ∙ holds.filled;
          acting = ap (λ p. p.acting) same-plan ∙ holds.acting ∙ sym same;
          opened = λ e. subst (λ m. OpenedHolds s m (fed h.plan).opened) (sym same-mode) (subst (λ p. OpenedHolds s draft.mode p.opened) (sym same-plan) (holds.opened refl));
          arrays =
              λ w. subst (λ l. ArraysHold true feeding (sheet (fed h.plan) h.guards l h.acts h.names h.heads h.modes)) (sym same_rows)
              (same-arrays same-drivers same-acts refl refl (fed h.plan) holds.arrays w);
        }

  -- a task is invoked last
  module _ (front : List (Act Call)) (last : Act Call) (ends_so : draft.mode.calls ≡ front ++ (last ∷ [])) where
    abbrev task : ℕ
    task = last.what.task

    abbrev sources : List ℕ
    sources = last.what.sources

    calls-now : D.last_sourced port draft.mode.calls ≡ front ++ (D.sourced port last ∷ [])
    calls-now = ap (D.last_sourced port) ends_so ∙ last-sourced port front last

    some-calls : eqb h.plan.opened.calls 0 ≡ false
    some-calls = ne_eqb h.plan.opened.calls 0 (λ z. omega (arith, (holds.opened refl).calls, ap length ends_so, length-append front (last ∷ [])))

    fed-plan : fed h.plan ≡ with_opened h.plan (counted_in h.plan.opened h.plan.opened.calls h.plan.opened.updates h.plan.opened.switches (cap (h.plan.opened.sources + 1)))
    unfolding fed
    fed-plan = rw some-calls refl

    fed-rows : source_read h.plan port h.drivers ≡ source_stored (h.plan.filled.drivers + h.plan.opened.updates + (h.plan.opened.calls - 1)) h.plan.opened.sources (cap port) h.drivers
    unfolding source_read
    fed-rows = rw some-calls refl

    drivers-old : drivers_in true draft ≡ drivers_fore draft front ++ (releases task sources ∷ [])
    drivers-old = drivers-inside draft ∙ drivers-last draft draft.mode.calls front last ends_so

    drivers-new : drivers_in true feeding ≡ drivers_fore draft front ++ (releases task (sources ++ (port ∷ [])) ∷ [])
    drivers-new = drivers-inside feeding ∙ drivers-last draft (D.last_sourced port draft.mode.calls) front (D.sourced port last) calls-now

    module _ (w : Within true feeding) where
      fit-now : Each (λ d. Fits 12 (driver_cells d)) (drivers_fore draft front ++ (releases task (sources ++ (port ∷ [])) ∷ []))
      fit-now = subst (Each (λ d. Fits 12 (driver_cells d))) drivers-new w.drivers

      fore-fit : Each (λ d. Fits 12 (driver_cells d)) (drivers_fore draft front)
      fore-fit = each_first (λ d. Fits 12 (driver_cells d)) (drivers_fore draft front) _ fit-now

      last_fit : Fits 12 (4 ∷ task ∷ length (sources ++ (port ∷ [])) ∷ (sources ++ (port ∷ [])))
      last_fit = (each_last (λ d. Fits 12 (driver_cells d)) (drivers_fore draft front) _ fit-now).0

      few-sources : length sources < 9
      few-sources = omega (arith, last_fit.short, length-append sources (port ∷ []))

      few-now : length (drivers_fore draft front) < 288
      few-now = omega (arith, w.few-drivers, ap length drivers-new, length-append (drivers_fore draft front) (releases task (sources ++ (port ∷ [])) ∷ []))

      old-fit : Fits 12 (driver_cells (releases task sources))
      old-fit = record { short = omega (arith, few-sources); small = (omega arith, (last_fit.small.1.0, (omega (arith, few-sources), each_first (λ cell. cell ≤ 4294967295) sources (port ∷ []) last_fit.small.1.1.1))) }

      less : Within true draft
      less =
          record {
            few-drivers = omega (arith, few-now, ap length drivers-old, length-append (drivers_fore draft front) (releases task sources ∷ []));
            few-acts = subst (λ (l : List (Act ℕ)). length l ≤ 256) same-acts w.few-acts;
            few-guards = w.few-guards;
            few-modes = w.few-modes;
            drivers = subst (Each (λ d. Fits 12 (driver_cells d))) (sym drivers-old) (each_append (λ d. Fits 12 (driver_cells d)) (drivers_fore draft front) (releases task sources ∷ []) fore-fit (old-fit, tt));
            acts = subst (Each (λ a. Fits 3 (act_cells a))) same-acts w.acts;
            guards = w.guards;
            modes = w.modes;
          }

      drivers-kept : ArraysHold true draft h → source_read h.plan port h.drivers ≡ rows 12 3456 driver_cells (drivers_in true feeding)
      drivers-kept b =
          let m = draft.mode in
          let o = holds.opened refl in
          let c = counts draft h holds less in
          let X = drivers_fore draft front in
          let R = map (λ (a : Act Call). releases a.what.task a.what.sources) front in
          let row = h.plan.filled.drivers + h.plan.opened.updates + (h.plan.opened.calls - 1) in
          let e : row ≡ length X =
          omega (arith, c.drivers, c.updates, c.calls, ap length ends_so, length-append front (last ∷ []), length-append (fore_drivers draft) (updates_of m ++ R), length-append (updates_of m) R, length-map m.updates (λ a. updates a.what.source a.what.target), length-map front (λ (a : Act Call). releases a.what.task a.what.sources)) in
          let n : h.plan.opened.sources ≡ length sources = omega (arith, o.sources, ap last_sources ends_so, last-sources front last, few-sources) in
          let p : cap port ≡ port = omega (arith, (each_last (λ cell. cell ≤ 4294967295) sources (port ∷ []) last_fit.small.1.1.1).0) in
          fed-rows ∙ ap (source_stored row h.plan.opened.sources (cap port)) (b.drivers ∙ ap (rows 12 3456 driver_cells) drivers-old)
          ∙ fed-row X task sources port (shorts 12 driver_cells X fore-fit) few-sources few-now row e n p ∙ ap (rows 12 3456 driver_cells) (sym drivers-new)

    opens : OpenedHolds s (D.with_source draft.mode port) (fed h.plan).opened
    opens =
        let o = holds.opened refl in
        let q = ap last_sources calls-now ∙ last-sources front (D.sourced port last) in
        subst (λ p. OpenedHolds s (D.with_source draft.mode port) p.opened) (sym fed-plan)
        (record {
          name = o.name;
          start = o.start;
          period = o.period;
          calls = o.calls ∙ ap cap (sym (sourced-length port draft.mode.calls));
          updates = o.updates;
          switches = o.switches;
          sources = omega (arith, o.sources, ap last_sources ends_so, last-sources front last, q, length-append sources (port ∷ []));
        })

    some-kept : PlansHold s true feeding fed_sheet
    some-kept =
        record {
          filled = ap (λ p. p.filled) fed-plan ∙ holds.filled;
          acting = ap (λ p. p.acting) fed-plan ∙ holds.acting ∙ sym same;
          opened = λ e. opens;
          arrays =
              λ w.
              let b = holds.arrays (less w) in
              record {
                drivers = drivers-kept w b;
                acts = b.acts ∙ ap (rows 3 768 act_cells) (sym same-acts);
                guards = b.guards;
                names = b.names;
                heads = b.heads;
                modes = b.modes;
              };
        }

  pub source-kept : PlansHold s true feeding fed_sheet
  source-kept = by draft.mode.calls refl (ends draft.mode.calls)
    where
      by : (calls : List (Act Call)) → draft.mode.calls ≡ calls → Ends calls → PlansHold s true feeding fed_sheet
      by _ e empty = none_kept e
      by _ e (behind front last) = some-kept front last e
