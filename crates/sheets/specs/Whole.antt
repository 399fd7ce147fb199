-- Behind the last item: the arrays are those of the module's table, and the rows of modes and activities hold its modes for code generation.
use Rattle.std.specs.Prelude.{ℕ, zero, suc, ◌+◌, ◌*◌, ◌≤◌, ◌<◌, ◌≡◌, refl, Bool, true, false, List, [], ◌∷◌, ◌++◌, map, length, get_or}
use Rattle.std.proofs.Common.{add-zero, zero-add, add-one, arith, sym, ap, ap₂, ◌∙◌, subst, append-nil, append_assoc, length-append}
use Rattle.std.proofs.Math.Option.{Option, none, some}
use Rattle.std.proofs.lemmas.List.{length-map}
use Rattle.std.proofs.Math.Seq.{get_or-append_seam, append_snoc}
use Rattle.model.specs.Modules.{Module, Act, Call, Update, Mode, each}
use Rattle.timing.specs.SlotLaws.{Each}
use Rattle.timing.specs.Code.{drivers_of, begins_of}
use Rattle.prescribed.specs.Tables.{mode_rows, table_of}
use Rattle.layout.specs.Rows.{rows, names}
use Rattle.layout.specs.Plain.{driver_cells, struct_of}
use Rattle.layout.specs.Cells.{rows-cell, rows-first}
use Rattle.emit.specs.Rows.{guard_by, act_by, map_act}
use Rattle.emit.specs.Held.{HoldsActs, HoldsMode, HoldsModes}
use Rattle.accepted.specs.Lists.{each_at, each_first}
use Rattle.accepted.specs.TableRefers.{begins-as-many}
use Rattle.refusals.specs.Activities.{activities_in}
use Rattle.refusals.specs.Draft as D
use Rattle.sheets.specs.Sheets.{Sheet, cap}
use Rattle.sheets.specs.Held.{acts_of, act_cells, guard_code, head_cells, frames, Within, ArraysHold, PlansHold}
use Rattle.sheets.specs.Pieces.{drivers-outside, acts-outside, calls_of, renewals_of, frames-short, length-frames, each_last}

-- ---- rows of activities

abbrev no_act : Act ℕ
no_act = record { frequency = 0; guard = none; what = 0 }

guard-back : (guard : Option ℕ) → guard_by (guard_code guard) ≡ guard
guard-back none = refl
guard-back (some g) = ap guard_by (add-one g)

wide-acts : (acts : List (Act ℕ)) (i : ℕ) → i < length acts → length (act_cells (get_or acts i no_act)) ≤ 3
wide-acts acts i h = omega arith

act-at : (acts : List (Act ℕ)) (k : ℕ) → k < length acts → act_by (rows 3 768 act_cells acts) k ≡ get_or acts k no_act
act-at acts k h =
    let a = get_or acts k no_act in
    let f = rows-first 3 768 act_cells no_act acts (wide-acts acts) k h (omega arith) in
    let g = rows-cell 3 768 act_cells no_act acts (wide-acts acts) k h 1 (omega arith) in
    let w = rows-cell 3 768 act_cells no_act acts (wide-acts acts) k h 2 (omega arith) in
    rw (f, g, w, guard-back a.guard) refl

acts-hold : {A : Type 0} (number : A → ℕ) (before : List (Act ℕ)) (list : List (Act A)) (behind : List (Act ℕ))
    → HoldsActs number (rows 3 768 act_cells (before ++ (map (map_act number) list ++ behind))) (length before) list
acts-hold number before [] behind = tt
acts-hold number before (a ∷ list) behind =
    let x = map_act number a in
    let rest = map (map_act number) list ++ behind in
    let e : (before ++ (x ∷ [])) ++ rest ≡ before ++ (x ∷ rest) = append_snoc before x rest in
    let l : length (before ++ (x ∷ [])) ≡ length before + 1 = length-append before (x ∷ []) in
    let k : length before < length (before ++ (x ∷ rest)) = omega (arith, length-append before (x ∷ rest)) in (
      act-at (before ++ (x ∷ rest)) (length before) k ∙ get_or-append_seam before x rest no_act,
      subst (λ (n : ℕ). HoldsActs number (rows 3 768 act_cells (before ++ (x ∷ rest))) n list) l
          (subst (λ (all : List (Act ℕ)). HoldsActs number (rows 3 768 act_cells all) (length (before ++ (x ∷ []))) list) e (acts-hold number (before ++ (x ∷ [])) list behind)),
    )

-- ---- rows of modes

frame_at : (row : ℕ) (before : List Mode) (m : Mode) (behind : List Mode)
    → get_or (frames row (before ++ (m ∷ behind))) (length before) [] ≡ m.period ∷ length m.calls ∷ length m.updates ∷ length m.switches ∷ (row + length (each acts_of before)) ∷ []
unfolding frames
frame_at row [] m behind = ap (λ (n : ℕ). m.period ∷ length m.calls ∷ length m.updates ∷ length m.switches ∷ n ∷ []) (sym (add-zero row))
frame_at row (n ∷ before) m behind =
    let e : row + length (acts_of n) + length (each acts_of before) ≡ row + length (acts_of n ++ each acts_of before) = omega (arith, length-append (acts_of n) (each acts_of before)) in
    frame_at (row + length (acts_of n)) before m behind ∙ ap (λ (k : ℕ). m.period ∷ length m.calls ∷ length m.updates ∷ length m.switches ∷ k ∷ []) e

each-split : {A B : Type 0} (f : A → List B) (xs : List A) (x : A) (ys : List A) → each f (xs ++ (x ∷ ys)) ≡ each f xs ++ (f x ++ each f ys)
each-split f [] x ys = refl
each-split f (y ∷ xs) x ys = ap (λ l. f y ++ l) (each-split f xs x ys) ∙ sym (append_assoc (f y) (each f xs) (f x ++ each f ys))

module _ (before : List Mode) (m : Mode) (behind : List Mode) (few : activities_in m ≤ 32) where
  abbrev whole : List Mode
  whole = before ++ (m ∷ behind)

  abbrev fore : List (Act ℕ)
  fore = each acts_of before

  abbrev hind : List (Act ℕ)
  hind = each acts_of behind

  here : length before < length (frames 0 whole)
  here = omega (arith, length-frames 0 whole, length-append before (m ∷ behind))

  wide : (i : ℕ) → i < length (frames 0 whole) → length (get_or (frames 0 whole) i []) ≤ 5
  wide i h = each_at (λ cells. length cells ≤ 5) [] (frames 0 whole) i (frames-short 0 whole) h

  cell : (j : ℕ) → j < 5 → get_or (rows 5 40 (λ cells. cells) (frames 0 whole)) (length before * 5 + j) 0 ≡ get_or (m.period ∷ length m.calls ∷ length m.updates ∷ length m.switches ∷ (0 + length fore) ∷ []) j 0
  cell j h = rows-cell 5 40 (λ cells. cells) [] (frames 0 whole) wide (length before) here j h ∙ ap (λ (l : List ℕ). get_or l j 0) (frame_at 0 before m behind)

  first_cell : get_or (rows 5 40 (λ cells. cells) (frames 0 whole)) (length before * 5) 0 ≡ m.period
  first_cell = rows-first 5 40 (λ cells. cells) [] (frames 0 whole) wide (length before) here (omega arith) ∙ ap (λ (l : List ℕ). get_or l 0 0) (frame_at 0 before m behind)

  -- the activities of the mode, kind by kind
  calls_at : each acts_of whole ≡ fore ++ (calls_of m ++ ((renewals_of m ++ m.switches) ++ hind))
  calls_at = each-split acts_of before m behind ∙ ap (λ (l : List (Act ℕ)). fore ++ l) (append_assoc (calls_of m) (renewals_of m ++ m.switches) hind)

  updates-at : each acts_of whole ≡ (fore ++ calls_of m) ++ (renewals_of m ++ (m.switches ++ hind))
  updates-at =
      calls_at ∙ ap (λ (l : List (Act ℕ)). fore ++ (calls_of m ++ l)) (append_assoc (renewals_of m) m.switches hind)
      ∙ sym (append_assoc fore (calls_of m) (renewals_of m ++ (m.switches ++ hind)))

  switches-at : each acts_of whole ≡ ((fore ++ calls_of m) ++ renewals_of m) ++ (map (map_act (λ target. target)) m.switches ++ hind)
  switches-at =
      updates-at ∙ sym (append_assoc (fore ++ calls_of m) (renewals_of m) (m.switches ++ hind))
      ∙ ap (λ (l : List (Act ℕ)). ((fore ++ calls_of m) ++ renewals_of m) ++ (l ++ hind)) (sym (same m.switches))
    where
      same : (list : List (Act ℕ)) → map (map_act (λ target. target)) list ≡ list
      same [] = refl
      same (a ∷ list) = ap (λ (l : List (Act ℕ)). a ∷ l) (same list)

  mode-holds : HoldsMode (rows 5 40 (λ cells. cells) (frames 0 whole)) (rows 3 768 act_cells (each acts_of whole)) (length before) m
  mode-holds =
      let c = length-append fore (calls_of m) in
      let d = length-append (fore ++ calls_of m) (renewals_of m) in
      let n = length-map m.calls (map_act (λ c. c.task)) in
      let u = length-map m.updates (map_act {B = ℕ} (λ u. 0)) in
      let e : length (fore ++ calls_of m) ≡ length fore + length m.calls = omega arith in
      let g : length ((fore ++ calls_of m) ++ renewals_of m) ≡ length fore + length m.calls + length m.updates = omega arith in
      record {
        row = length fore;
        few = few;
        period-cell = first_cell;
        calls-cell = cell 1 (omega arith);
        updates-cell = cell 2 (omega arith);
        switches-cell = cell 3 (omega arith);
        row-cell = cell 4 (omega arith) ∙ zero-add (length fore);
        calls-rows =
            subst (λ (all : List (Act ℕ)). HoldsActs (λ c. c.task) (rows 3 768 act_cells all) (length fore) m.calls) (sym calls_at)
            (acts-hold (λ c. c.task) fore m.calls ((renewals_of m ++ m.switches) ++ hind));
        updates-rows =
            subst (λ (k : ℕ). HoldsActs (λ u. 0) (rows 3 768 act_cells (each acts_of whole)) k m.updates) e
            (subst (λ (all : List (Act ℕ)). HoldsActs (λ u. 0) (rows 3 768 act_cells all) (length (fore ++ calls_of m)) m.updates) (sym updates-at)
            (acts-hold (λ u. 0) (fore ++ calls_of m) m.updates (m.switches ++ hind)));
        switches-rows =
            subst (λ (k : ℕ). HoldsActs (λ target. target) (rows 3 768 act_cells (each acts_of whole)) k m.switches) g
            (subst (λ (all : List (Act ℕ)). HoldsActs (λ target. target) (rows 3 768 act_cells all) (length ((fore ++ calls_of m) ++ renewals_of m)) m.switches) (sym switches-at)
            (acts-hold (λ target. target) ((fore ++ calls_of m) ++ renewals_of m) m.switches hind));
      }

modes-hold : (before ms : List Mode) → Each (λ m. activities_in m ≤ 32) ms
    → HoldsModes (rows 5 40 (λ cells. cells) (frames 0 (before ++ ms))) (rows 3 768 act_cells (each acts_of (before ++ ms))) (length before) ms
modes-hold before [] few = tt
modes-hold before (m ∷ ms) few =
    let l : length (before ++ (m ∷ [])) ≡ length before + 1 = length-append before (m ∷ []) in (
      mode-holds before m ms few.0,
      subst (λ (k : ℕ). HoldsModes (rows 5 40 (λ cells. cells) (frames 0 (before ++ (m ∷ ms)))) (rows 3 768 act_cells (each acts_of (before ++ (m ∷ ms)))) k ms) l
          (subst (λ (all : List Mode). HoldsModes (rows 5 40 (λ cells. cells) (frames 0 all)) (rows 3 768 act_cells (each acts_of all)) (length (before ++ (m ∷ []))) ms) (append_snoc before m ms)
          (modes-hold (before ++ (m ∷ [])) ms few.1)),
    )

-- ---- the whole module

named-rows : (ms : List Mode) (begins : List ℕ) → length begins ≡ length ms → map (λ m. m.name) (mode_rows ms begins) ≡ map (λ m. m.name) ms
named-rows [] begins e = refl
named-rows (m ∷ ms) [] e = absurd (omega arith)
named-rows (m ∷ ms) (b ∷ begins) e = ap (λ (l : List (List ℕ)). m.name ∷ l) (named-rows ms begins (omega arith))

-- what is held of a module that is read to its end: all but where its modes' code begins
pub record Whole (M : Module) (h : Sheet) : Type 0 where
  pub driver-rows : h.drivers ≡ (struct_of (table_of M)).driver_rows
  pub guard-rows : h.guards ≡ (struct_of (table_of M)).guard_rows
  pub mode-names : h.names ≡ (struct_of (table_of M)).mode_names
  pub mode-rows : h.heads ≡ rows 3 24 head_cells M.modes
  pub modes-held : HoldsModes h.modes h.acts 0 M.modes
  pub tasks-told : h.plan.filled.tasks ≡ length M.tasks
  pub drivers-told : h.plan.filled.drivers ≡ length (drivers_of M)
  pub guards-told : h.plan.filled.guards ≡ length M.guards
  pub modes-told : h.plan.filled.modes ≡ length M.modes

pub plans-end : {s : List ℕ} (draft : D.Draft) (h : Sheet) → PlansHold s false draft h → Within false draft → length draft.built.tasks ≤ 288 → Each (λ m. activities_in m ≤ 32) draft.built.modes → Whole draft.built h
unfolding struct_of table_of drivers_of
plans-end draft h p w tasks few =
    let a = p.arrays w in
    let M = draft.built in
    let n = w.few-drivers in
    let d = ap length (drivers-outside draft) in
    record {
      driver-rows = a.drivers ∙ ap (rows 12 3456 driver_cells) (drivers-outside draft);
      guard-rows = a.guards;
      mode-names = a.names ∙ ap (names 8) (sym (named-rows M.modes (begins_of M) (begins-as-many M)));
      mode-rows = a.heads;
      modes-held =
          subst (λ (l : List ℕ). HoldsModes l h.acts 0 M.modes) (sym a.modes)
          (subst (λ (l : List ℕ). HoldsModes (rows 5 40 (λ cells. cells) (frames 0 M.modes)) l 0 M.modes) (sym (a.acts ∙ ap (rows 3 768 act_cells) (acts-outside draft)))
          (modes-hold [] M.modes few));
      tasks-told = ap (λ f. f.tasks) p.filled ∙ omega arith;
      drivers-told = ap (λ f. f.drivers) p.filled ∙ omega arith;
      guards-told = ap (λ f. f.guards) p.filled ∙ omega (arith, w.few-guards);
      modes-told = ap (λ f. f.modes) p.filled ∙ omega (arith, w.few-modes);
    }
