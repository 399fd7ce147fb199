-- A mode's begin and end, and a task's end, keep what the arrays hold.
use Rattle.std.specs.Prelude.{ℕ, zero, suc, ◌+◌, ◌-◌, ◌*◌, ◌≤◌, ◌<◌, min, ◌≡◌, Bool, false, cond, get_or}
use Rattle.std.proofs.Common.{arith, ap₂, ◌∙◌, zero-add}
use Rattle.std.proofs.Math.Path.{refl, sym, ap, subst}
use Rattle.std.proofs.Math.Bool.{true}
use mathlib.Core.List.{List, [], ◌∷◌, ◌++◌, map, append-nil, append_assoc}
use Rattle.std.proofs.Math.ListN.{length, length-append, length-map}
use Rattle.std.proofs.Math.Seq.{append_snoc}
use Rattle.std.proofs.Math.Dec.{leb}
use borrow.Author.Tests.{le-leb}
use Rattle.model.specs.Modules.{Task, Act, Call, Update, Mode, each}
use Rattle.model.specs.Instructions.{Driver, updates, releases, terminates}
use Rattle.timing.specs.SlotLaws.{Each}
use Rattle.timing.specs.Code.{terminates_from, mode_drivers}
use Rattle.layout.specs.Filling.{stored}
use Rattle.text.specs.declared.Name.{Name}
use Rattle.refusals.specs.Names.{letters}
use Rattle.refusals.specs.Activities.{period_at}
use Rattle.refusals.specs.Values.{number_of}
use Rattle.activities.specs.Kept.{period_kept}
use Rattle.emit.specs.Rows.{map_act}
use Rattle.layout.specs.Rows.{rows, name_cells, names}
use Rattle.layout.specs.Plain.{driver_cells, guard_cells}
use Rattle.prescribed.specs.Tables.{guard_row}
use Rattle.accepted.specs.Lists.{each_first}
use Rattle.refusals.specs.Draft as D
use Rattle.sheets.specs.declared.Filled.{Filled}
use Rattle.sheets.specs.Sheets.{Sheet, sheet, cap, with_plan, mode_opened, mode_closed, task_closed, name_stored, termination_stored}
use Rattle.sheets.specs.Held.{drivers_in, acts_of, acts_in, act_cells, head_cells, frames, last_sources, Fits, ModeFits, Within, ArraysHold, filled_of, OpenedHolds, PlansHold}
use Rattle.sheets.specs.Pieces.{each_last, added, map_more, terminates-more, length-terminates, fore_drivers, updates_of, releases_of, calls_of, renewals_of, drivers-inside, drivers-outside, acts-inside, acts-outside, frames-more, frames-short, length-frames}
use Rattle.sheets.specs.KeptActs.{Counts}
use Rattle.sheets.proofs.KeptActs.{still-fits, still-few, put_in, counts}
use Rattle.sheets.specs.KeptSame.{same-arrays}

same-filled : {t t' d d' a a' g g' m m' : ℕ} → t ≡ t' → d ≡ d' → a ≡ a' → g ≡ g' → m ≡ m'
    → ◌≡◌ {A = Filled} (record { tasks = t; drivers = d; acts = a; guards = g; modes = m }) (record { tasks = t'; drivers = d'; acts = a'; guards = g'; modes = m' })
same-filled p q r u v = rw (p, q, r, u, v) refl

-- numbers that are kept up to a bound, added
cap-sum : (a b : ℕ) → cap (cap a + cap b) ≡ cap (a + b)
cap-sum a b = omega arith

cap-two : (a u c : ℕ) {a' u' c' : ℕ} → a' ≡ cap a → u' ≡ cap u → c' ≡ cap c → cap (a' + cap (u' + c')) ≡ cap (a + (u + c))
cap-two a u c p q r = rw (p, q, r) (ap (λ (n : ℕ). cap (cap a + n)) (cap-sum u c) ∙ cap-sum a (u + c))

cap-three : (a u c w : ℕ) {a' u' c' w' : ℕ} → a' ≡ cap a → u' ≡ cap u → c' ≡ cap c → w' ≡ cap w → cap (a' + cap (cap (u' + c') + w')) ≡ cap (a + (u + c + w))
cap-three a u c w p q r t =
    rw (p, q, r, t) (ap (λ (n : ℕ). cap (cap a + cap (n + cap w))) (cap-sum u c) ∙ ap (λ (n : ℕ). cap (cap a + n)) (cap-sum (u + c) w) ∙ cap-sum a (u + c + w))

-- ---- a mode begins
period-told : (s : List ℕ) (digits : Name) (milli : Bool) → cap (period_kept s digits milli) ≡ cap (period_at s digits milli)
period-told s digits true = omega arith
period-told s digits false = omega arith

module _ {s : List ℕ} (draft : D.Draft) (h : Sheet) (holds : PlansHold s false draft h) (start : Bool) (name digits : Name) (milli started : Bool) where
  abbrev beginning : D.Draft
  beginning =
      record {
        built = draft.built;
        task = draft.task;
        mode = record { name = letters s name; start = start; period = period_at s digits milli; calls = []; updates = []; switches = [] };
        doing = draft.doing;
        started = started;
      }

  pub begin-kept : PlansHold s true beginning (with_plan h (mode_opened s h.plan start name digits milli))
  unfolding last_sources
  begin-kept =
      record {
        filled = holds.filled;
        acting = holds.acting;
        opened = λ e. record { name = refl; start = refl; period = period-told s digits milli; calls = refl; updates = refl; switches = refl; sources = refl };
        arrays =
            same-arrays
            (drivers-inside beginning ∙ append-nil (fore_drivers draft) ∙ sym (drivers-outside draft))
            (acts-inside beginning ∙ append-nil (each acts_of draft.built.modes) ∙ sym (acts-outside draft))
            refl refl (mode_opened s h.plan start name digits milli) holds.arrays;
      }

-- ---- a mode ends

module _ {s : List ℕ} (draft : D.Draft) (h : Sheet) (holds : PlansHold s true draft h) where
  abbrev ending : D.Draft
  ending = D.with_built draft (D.with_mode_done draft.built draft.mode)

  same-drivers : drivers_in false ending ≡ drivers_in true draft
  same-drivers = ap (λ (l : List Mode). terminates_from 0 draft.built.tasks ++ each mode_drivers l) (append-nil (draft.built.modes ++ (draft.mode ∷ [])))

  same-acts : acts_in false ending ≡ acts_in true draft
  same-acts = ap (λ (l : List Mode). each acts_of l) (append-nil (draft.built.modes ++ (draft.mode ∷ [])))

  less : Within false ending → Within true draft
  less w =
      record {
        few-drivers = subst (λ (l : List Driver). length l ≤ 288) same-drivers w.few-drivers;
        few-acts = subst (λ (l : List (Act ℕ)). length l ≤ 256) same-acts w.few-acts;
        few-guards = w.few-guards;
        few-modes = omega (arith, w.few-modes, length-append draft.built.modes (draft.mode ∷ []));
        drivers = subst (Each (λ d. Fits 12 (driver_cells d))) same-drivers w.drivers;
        acts = subst (Each (λ a. Fits 3 (act_cells a))) same-acts w.acts;
        guards = w.guards;
        modes = each_first ModeFits draft.built.modes (draft.mode ∷ []) w.modes;
      }

  filled : (mode_closed h.plan).filled ≡ filled_of ending.built
  filled =
      let m = draft.mode in
      let o = holds.opened refl in
      let f = holds.filled in
      let fore = each acts_of draft.built.modes in
      let nd : length (fore_drivers draft) + (length m.updates + length m.calls) ≡ length (drivers_in true draft) =
      omega (arith, ap length (drivers-inside draft), length-append (fore_drivers draft) (updates_of m ++ releases_of m), length-append (updates_of m) (releases_of m), length-map m.updates (λ a. updates a.what.source a.what.target), length-map m.calls (λ a. releases a.what.task a.what.sources)) in
      let na : length fore + (length m.updates + length m.calls + length m.switches) ≡ length (acts_in true draft) =
      omega (arith, ap length (acts-inside draft), length-append fore (acts_of m), length-append (calls_of m) (renewals_of m ++ m.switches), length-append (renewals_of m) m.switches, length-map m.calls (map_act (λ c. c.task)), length-map m.updates (map_act {B = ℕ} (λ u. 0))) in
      same-filled (ap (λ x. x.tasks) f)
      (cap-two (length (fore_drivers draft)) (length m.updates) (length m.calls) (ap (λ x. x.drivers) f) o.updates o.calls ∙ ap cap nd)
      (cap-three (length fore) (length m.updates) (length m.calls) (length m.switches) (ap (λ x. x.acts) f) o.updates o.calls o.switches ∙ ap cap na)
      (ap (λ x. x.guards) f)
      (omega (arith, ap (λ x. x.modes) f, length-append draft.built.modes (m ∷ [])))

  module _ (w : Within false ending) (b : ArraysHold true draft h) where
    fits : ModeFits draft.mode
    fits = (each_last ModeFits draft.built.modes (draft.mode ∷ []) w.modes).0

    modes-now : h.plan.filled.modes ≡ length draft.built.modes
    modes-now = ap (λ x. x.modes) holds.filled ∙ omega (arith, w.few-modes, length-append draft.built.modes (draft.mode ∷ []))

    modes-all : length (draft.built.modes ++ (draft.mode ∷ [])) ≤ 8
    modes-all = w.few-modes

    wide-names : (ms : List Mode) → Each ModeFits ms → Each (λ y. length (name_cells y) ≤ 33) (map (λ m. m.name) ms)
    wide-names [] e = tt
    wide-names (m ∷ ms) e = (omega (arith, e.0.name), wide-names ms e.1)

    names-kept : name_stored s h.plan.opened.name h.plan.filled.modes h.names ≡ names 8 (map (λ m. m.name) ending.built.modes)
    unfolding name_stored
    names-kept =
        let ms = draft.built.modes in
        let n : draft.mode.name ≡ letters s h.plan.opened.name = (holds.opened refl).name in
        let mm = map_more (λ (m : Mode). m.name) ms draft.mode in
        let short : leb (length (letters s h.plan.opened.name)) 32 ≡ true = le-leb (length (letters s h.plan.opened.name)) 32 (omega (arith, fits.name, ap length n)) in
        let wide = subst (Each (λ y. length (name_cells y) ≤ 33)) mm (wide-names (ms ++ (draft.mode ∷ [])) w.modes) in
        let r : length (map (λ (m : Mode). m.name) ms ++ (draft.mode.name ∷ [])) * 33 ≤ 264 =
        omega (arith, modes-all, length-append ms (draft.mode ∷ []), length-append (map (λ (m : Mode). m.name) ms) (draft.mode.name ∷ []), length-map ms (λ (m : Mode). m.name)) in
        rw short
        (added 32 264 name_cells (map (λ m. m.name) ms) draft.mode.name wide r h.plan.filled.modes b.names
        (modes-now ∙ sym (length-map ms (λ (m : Mode). m.name))) (ap name_cells (sym n))
        ∙ ap (names 8) (sym mm))

    heads-kept : stored h.heads (h.plan.filled.modes * 3) (h.plan.opened.start ∷ h.plan.opened.period ∷ 0 ∷ []) ≡ rows 3 24 head_cells ending.built.modes
    heads-kept =
        let o = holds.opened refl in
        let ms = draft.built.modes in
        let p : h.plan.opened.period ≡ draft.mode.period = omega (arith, o.period, fits.period) in
        added 2 24 head_cells ms draft.mode (wide-heads (ms ++ (draft.mode ∷ []))) (omega (arith, modes-all)) h.plan.filled.modes b.heads modes-now
        (ap₂ (λ (i j : ℕ). i ∷ j ∷ 0 ∷ []) o.start p)
      where
        wide-heads : (ms : List Mode) → Each (λ m. length (head_cells m) ≤ 3) ms
        wide-heads [] = tt
        wide-heads (m ∷ ms) = (omega arith, wide-heads ms)

    modes-kept : stored h.modes (h.plan.filled.modes * 5) (h.plan.opened.period ∷ h.plan.opened.calls ∷ h.plan.opened.updates ∷ h.plan.opened.switches ∷ h.plan.filled.acts ∷ [])
        ≡ rows 5 40 (λ cells. cells) (frames 0 ending.built.modes)
    modes-kept =
        let o = holds.opened refl in
        let m = draft.mode in
        let ms = draft.built.modes in
        let c = counts draft h holds (less w) in
        let p : h.plan.opened.period ≡ m.period = omega (arith, o.period, fits.period) in
        let row : List ℕ = m.period ∷ length m.calls ∷ length m.updates ∷ length m.switches ∷ (0 + length (each acts_of ms)) ∷ [] in
        let q : h.plan.filled.acts ≡ 0 + length (each acts_of ms) = omega (arith, c.acts) in
        let more = frames-more 0 ms m in
        let wide = subst (Each (λ cells. length cells ≤ 5)) more (frames-short 0 (ms ++ (m ∷ []))) in
        let r : length (frames 0 ms ++ (row ∷ [])) * 5 ≤ 40 = omega (arith, modes-all, length-append ms (m ∷ []), length-append (frames 0 ms) (row ∷ []), length-frames 0 ms) in
        added 4 40 (λ cells. cells) (frames 0 ms) row wide r h.plan.filled.modes b.modes (modes-now ∙ sym (length-frames 0 ms)) (rw (p, c.calls, c.updates, c.switches, q) refl)
        ∙ ap (rows 5 40 (λ cells. cells)) (sym more)

  pub end_kept : PlansHold s false ending
      (sheet (mode_closed h.plan) h.guards h.drivers h.acts (name_stored s h.plan.opened.name h.plan.filled.modes h.names)
      (stored h.heads (h.plan.filled.modes * 3) (h.plan.opened.start ∷ h.plan.opened.period ∷ 0 ∷ []))
      (stored h.modes (h.plan.filled.modes * 5) (h.plan.opened.period ∷ h.plan.opened.calls ∷ h.plan.opened.updates ∷ h.plan.opened.switches ∷ h.plan.filled.acts ∷ [])))
  end_kept =
      record {
        filled = filled;
        acting = holds.acting;
        opened = λ e. let z : ◌≡◌ {A = ℕ} 0 1 = cc in absurd (omega arith);
        arrays =
            λ w.
            let b = holds.arrays (less w) in
            record {
              drivers = b.drivers ∙ ap (rows 12 3456 driver_cells) (sym same-drivers);
              acts = b.acts ∙ ap (rows 3 768 act_cells) (sym same-acts);
              guards = b.guards;
              names = names-kept w b;
              heads = heads-kept w b;
              modes = modes-kept w b;
            };
      }

-- ---- a task ends

module _ {s : List ℕ} (draft : D.Draft) (h : Sheet) (holds : PlansHold s false draft h) (task : Task) where
  abbrev tasking : D.Draft
  tasking = D.with_built draft (D.with_task_done draft.built task)

  abbrev before : List Driver
  before = terminates_from 0 draft.built.tasks

  abbrev behind : List Driver
  behind = each mode_drivers (draft.built.modes ++ [])

  abbrev new : Driver
  new = terminates (length draft.built.tasks)

  drivers-new : drivers_in false tasking ≡ before ++ (new ∷ behind)
  drivers-new =
      ap (λ (l : List Driver). l ++ behind) (terminates-more 0 draft.built.tasks task ∙ ap (λ (n : ℕ). before ++ (terminates n ∷ [])) (zero-add (length draft.built.tasks)))
      ∙ append_snoc before new behind

  task-less : Within false tasking → Within false draft
  task-less w =
      record {
        few-drivers = still-few 11 3456 driver_cells before behind new refl drivers-new 288 w.few-drivers;
        few-acts = w.few-acts;
        few-guards = w.few-guards;
        few-modes = w.few-modes;
        drivers = still-fits 11 3456 driver_cells before behind new refl drivers-new w.drivers;
        acts = w.acts;
        guards = w.guards;
        modes = w.modes;
      }

  pub task-kept : PlansHold s false tasking (sheet (task_closed h.plan) h.guards (termination_stored h.plan.filled h.drivers) h.acts h.names h.heads h.modes)
  task-kept =
      let f = holds.filled in
      let tasks = draft.built.tasks in
      let t = length-terminates 0 tasks in
      let t' = length-terminates 0 (tasks ++ (task ∷ [])) in
      let n = length-append tasks (task ∷ []) in
      let rest = each mode_drivers draft.built.modes in
      record {
        filled =
            same-filled (omega (arith, ap (λ x. x.tasks) f)) (omega (arith, ap (λ x. x.drivers) f, length-append before rest, length-append (terminates_from 0 (tasks ++ (task ∷ []))) rest))
            (ap (λ x. x.acts) f) (ap (λ x. x.guards) f) (ap (λ x. x.modes) f);
        acting = holds.acting;
        opened = λ e. let z : ◌≡◌ {A = ℕ} 0 1 = cc in absurd (omega arith);
        arrays =
            λ w.
            let b = holds.arrays (task-less w) in
            let few : length (before ++ behind) ≤ 288 = (task-less w).few-drivers in
            let l = length-append before behind in
            let k : length behind ≡ length rest = ap (λ (ms : List Mode). length (each mode_drivers ms)) (append-nil draft.built.modes) in
            let i : h.plan.filled.tasks ≡ length tasks = omega (arith, ap (λ x. x.tasks) f) in
            let j : h.plan.filled.drivers - h.plan.filled.tasks ≡ length behind = omega (arith, ap (λ x. x.drivers) f, length-append before rest) in
            record {
              drivers =
                  put_in 11 3456 driver_cells before behind new refl drivers-new w.drivers (omega (arith, w.few-drivers)) h.plan.filled.tasks (h.plan.filled.drivers - h.plan.filled.tasks) b.drivers (i ∙ sym t) j
                  (ap (λ (c : ℕ). 5 ∷ c ∷ []) i);
              acts = b.acts;
              guards = b.guards;
              names = b.names;
              heads = b.heads;
              modes = b.modes;
            };
      }
