-- The code of an accepted module: every number in an instruction names what is there, and every distance is a time (document 01, 'The code').
use Prim.Native.Nat.{ℕ, zero, suc, ◌+◌, ◌-◌, ◌≤◌, ◌<◌}
use native.Mathlib.Omega.{arith}
use Rattle.std.specs.Prelude.{◌≡◌, Bool, get_or}
use Rattle.std.proofs.Math.Path.{refl}
use Rattle.std.proofs.Common.{ap}
use Rattle.std.proofs.Math.Bool.{true, false}
use Rattle.std.proofs.Math.Option.{Option, none, some}
use mathlib.Core.List.{List, [], ◌∷◌, map}
use Rattle.std.proofs.Math.ListN.{length, length-append}
use Rattle.std.proofs.lemmas.List.{length-map}
use Rattle.std.proofs.Math.Dec.{ltb}
use borrow.Author.Tests.{ltb-true}
use Rattle.model.specs.Rooms.{period_room}
use Rattle.model.specs.Modules.{Module, Mode, Task, Act, Call, each}
use Rattle.model.specs.Instructions.{Instr, nop, future, call, release, iff, jump, return, switch, updates, releases}
use Rattle.timing.specs.Slots.{closing, opening}
use Rattle.timing.specs.SlotLaws.{Each, each_keep}
use Rattle.timing.specs.InstantLaws.{next-after}
use Rattle.timing.specs.Rules.{no_mode, next_instant}
use Rattle.timing.specs.Accepted.{Accepted, ModeFits, CallFits, UpdateFits, Guarded, Leads}
use Rattle.timing.specs.Code.{Piece, ◌⊕◌, fixed, guarded, pieces, terminating, Driven, driven_from, driven_updates, driven_calls, updating, switching, releasing, front, await, back, instants_from, instants_of, first_or, later_blocks, mode_code, mode_driver_count, code_from, code_of, begins_from, begins_of, terminates_from, mode_drivers, drivers_of}
use Rattle.accepted.specs.Lists.{each_append, each_map}

-- what an instruction may hold, by the number of instructions, drivers, guards, tasks and modes
module _ (size drivers : ℕ) (M : Module) where
  abbrev pub Good : Instr → Type 0
  Good (nop marker) = marker ≤ 2
  Good (future pc delay) = (pc < size) × (0 < delay) × (delay ≤ period_room)
  Good (call driver) = driver < drivers
  Good (release task) = task < length M.tasks
  Good (iff guard pc) = (guard < length M.guards) × (pc < size)
  Good (jump pc) = pc < size
  Good return = Unit {0}
  Good (switch mode) = mode < length M.modes

  -- a piece that stands inside the code, with something behind it; one that may stand last
  abbrev Inside : Piece → Type 0
  Inside p = (pc : ℕ) → pc + length (p pc) < size → Each Good (p pc)

  abbrev Last : Piece → Type 0
  Last p = (pc : ℕ) → pc + length (p pc) ≤ size → Each Good (p pc)

  abbrev Some : Piece → Type 0
  Some p = (pc : ℕ) → 0 < length (p pc)

  inside_both : (p q : Piece) → Inside p → Inside q → Inside (p ⊕ q)
  inside_both p q a b pc l =
      let n = length-append (p pc) (q (pc + length (p pc))) in
      each_append Good (p pc) (q (pc + length (p pc))) (a pc (omega (arith, n, l))) (b (pc + length (p pc)) (omega (arith, n, l)))

  last-behind : (p q : Piece) → Inside p → Last q → Some q → Last (p ⊕ q)
  last-behind p q a b more pc l =
      let n = length-append (p pc) (q (pc + length (p pc))) in
      let m = more (pc + length (p pc)) in
      each_append Good (p pc) (q (pc + length (p pc))) (a pc (omega (arith, n, l, m))) (b (pc + length (p pc)) (omega (arith, n, l)))

  last-both : (p q : Piece) → Last p → Last q → Last (p ⊕ q)
  last-both p q a b pc l =
      let n = length-append (p pc) (q (pc + length (p pc))) in
      each_append Good (p pc) (q (pc + length (p pc))) (a pc (omega (arith, n, l))) (b (pc + length (p pc)) (omega (arith, n, l)))

  some-behind : (p q : Piece) → Some q → Some (p ⊕ q)
  some-behind p q more pc = let n = length-append (p pc) (q (pc + length (p pc))) in let m = more (pc + length (p pc)) in omega (arith, n, m)

  -- ---- activities

  guarded-inside : (g : Option ℕ) (body : List Instr) → ((k : ℕ) → g ≡ some k → k < length M.guards) → Each Good body → Inside (guarded g body)
  guarded-inside none body h b pc l = b
  guarded-inside (some k) body h b pc l = ((h k refl, l), b)

  pieces-inside : {A : Type 0} (body : A → List Instr) (acts : List (Act A)) → Each (λ a. Guarded M a) acts → Each (λ a. Each Good (body a.what)) acts → Inside (pieces body acts)
  pieces-inside body [] g b = λ pc l. tt
  pieces-inside body (a ∷ acts) g b = inside_both (guarded a.guard (body a.what)) (pieces body acts) (guarded-inside a.guard (body a.what) g.0 b.0) (pieces-inside body acts g.1 b.1)

  driven-each : {A : Type 0} (C : Act A → Type 0) (D : Act (Driven A) → Type 0) (high : ℕ) → ((n : ℕ) (a : Act A) → n < high → C a → D (record { frequency = a.frequency; guard = a.guard; what = record { driver = n; does = a.what } }))
      → (n : ℕ) (acts : List (Act A)) → n + length acts ≤ high → Each C acts → Each D (driven_from n acts)
  driven-each C D high f n [] l h = tt
  driven-each C D high f n (a ∷ acts) l h = (f n a (omega arith) h.0, driven-each C D high f (n + 1) acts (omega arith) h.1)

  terminating-good : (acts : List (Act Call)) → Each (λ a. a.what.task < drivers) acts → Each Good (terminating acts)
  terminating-good [] h = tt
  terminating-good (a ∷ acts) h = (h.0, terminating-good acts h.1)

  -- ---- blocks

  module _ (n : ℕ) (m : Mode) (F : ModeFits M m) (enough : n + mode_driver_count m ≤ drivers) (tasks : length M.tasks ≤ drivers) where
    front-inside : (t : ℕ) → Inside (front n m t)
    unfolding front
    front-inside t =
        let ups = closing m.period t (driven_updates n m) in
        let outs = closing m.period t m.switches in
        let ends = closing m.period t m.calls in
        let up-guards : Each (λ a. Guarded M a) ups = each_keep (λ a. Guarded M a) _ (driven_updates n m) (driven-each (UpdateFits M) (λ a. Guarded M a) drivers (λ k a l f. f.guard) n m.updates (omega arith) F.updates) in
        let up-good : Each (λ a. Each Good (updating a.what)) ups = each_keep (λ a. Each Good (updating a.what)) _ (driven_updates n m) (driven-each (UpdateFits M) (λ a. Each Good (updating a.what)) drivers (λ k a l f. (l, tt)) n m.updates (omega arith) F.updates) in
        let out-guards : Each (λ a. Guarded M a) outs = each_keep (λ a. Guarded M a) _ m.switches F.guarded in
        let out-good : Each (λ a. Each Good (switching a.what)) outs = each_keep (λ a. Each Good (switching a.what)) _ m.switches (each_map (Leads m.period (length M.modes) m.calls) (λ a. Each Good (switching a.what)) (λ a f. (f.target, tt)) m.switches F.leads) in
        let end-good : Each Good (terminating ends) = terminating-good ends (each_keep (λ a. a.what.task < drivers) _ m.calls (each_map (CallFits M) (λ a. a.what.task < drivers) (λ a f. let l = f.task in omega (arith, l, tasks)) m.calls F.calls)) in
        let one = fixed (nop 1 ∷ []) in
        let two = fixed (nop 2 ∷ []) in
        inside_both (fixed (terminating ends)) (one ⊕ (pieces updating ups ⊕ (two ⊕ pieces switching outs))) (λ pc l. end-good)
        (inside_both one (pieces updating ups ⊕ (two ⊕ pieces switching outs)) (λ pc l. (omega arith, tt))
        (inside_both (pieces updating ups) (two ⊕ pieces switching outs) (pieces-inside updating ups up-guards up-good)
        (inside_both two (pieces switching outs) (λ pc l. (omega arith, tt)) (pieces-inside switching outs out-guards out-good))))

    back_inside : (t distance : ℕ) → 0 < distance → distance ≤ period_room → Inside (back n m t distance)
    unfolding back
    back_inside t distance lo hi =
        let calls = opening m.period t (driven_calls n m) in
        let at = n + length m.updates in
        let call-guards : Each (λ a. Guarded M a) calls = each_keep (λ a. Guarded M a) _ (driven_calls n m) (driven-each (CallFits M) (λ a. Guarded M a) drivers (λ k a l f. f.guard) at m.calls (omega arith) F.calls) in
        let call-good : Each (λ a. Each Good (releasing a.what)) calls = each_keep (λ a. Each Good (releasing a.what)) _ (driven_calls n m) (driven-each (CallFits M) (λ a. Each Good (releasing a.what)) drivers (λ k a l f. (l, (f.task, tt))) at m.calls (omega arith) F.calls) in
        inside_both (pieces releasing calls) (await distance) (pieces-inside releasing calls call-guards call-good) (λ pc l. ((l, lo, hi), (tt, tt)))

    -- instants go on, inside the period
    abbrev Onward : ℕ → List ℕ → Type 0
    Onward t [] = t < m.period
    Onward t (next ∷ ts) = (t < next) × (next < m.period) × Onward next ts

    onward : (most t : ℕ) → t < m.period → Onward t (instants_from most m t)
    unfolding instants_from
    onward zero t l = l
    onward (suc most) t l = by (ltb (next_instant m t) m.period) refl (λ k. onward most (next_instant m t) k)
      where
        by : (b : Bool) → ltb (next_instant m t) m.period ≡ b → (next_instant m t < m.period → Onward (next_instant m t) (instants_from most m (next_instant m t))) → Onward t (elim b as (λ x. List ℕ) [ true ↦ next_instant m t ∷ instants_from most m (next_instant m t) | false ↦ [] ])
        by true e on = let k = ltb-true _ _ e in (next-after m t l, k, on k)
        by false e on = l

    distance-fits : (t : ℕ) (ts : List ℕ) → Onward t ts → (0 < first_or m.period ts - t) × (first_or m.period ts - t ≤ period_room)
    distance-fits t [] h = let p = F.period in (omega arith, omega (arith, p))
    distance-fits t (next ∷ ts) h = let p = F.period in let a = h.0 in let b = h.1 in (omega (arith, a), omega (arith, b, p))

    later-some : (begin : ℕ) (ts : List ℕ) → Some (later_blocks n m begin ts)
    unfolding later_blocks
    later-some begin [] = some-behind (front n m m.period) (fixed (jump begin ∷ [])) (λ pc. omega arith)
    later-some begin (t ∷ ts) =
        let distance = first_or m.period ts - t in
        some-behind (front n m t) (back n m t distance ⊕ later_blocks n m begin ts) (some-behind (back n m t distance) (later_blocks n m begin ts) (later-some begin ts))

    later_last : (begin : ℕ) → begin < size → (t : ℕ) (ts : List ℕ) → Onward t ts → Last (later_blocks n m begin ts)
    unfolding later_blocks
    later_last begin b t [] h = last-behind (front n m m.period) (fixed (jump begin ∷ [])) (front-inside m.period) (λ pc l. (b, tt)) (λ pc. omega arith)
    later_last begin b t (next ∷ ts) h =
        let distance = first_or m.period ts - next in
        let d = distance-fits next ts h.2 in
        last-behind (front n m next) (back n m next distance ⊕ later_blocks n m begin ts) (front-inside next)
        (last-behind (back n m next distance) (later_blocks n m begin ts) (back_inside next distance d.0 d.1) (later_last begin b next ts h.2) (later-some begin ts))
        (some-behind (back n m next distance) (later_blocks n m begin ts) (later-some begin ts))

    pub mode-some : Some (mode_code n m)
    unfolding mode_code
    mode-some begin = some-behind (back n m 0 (first_or m.period (instants_of m))) (later_blocks n m begin (instants_of m)) (later-some begin (instants_of m)) begin

    mode-last : Last (mode_code n m)
    unfolding mode_code instants_of
    mode-last begin l =
        let ts = instants_from m.period m 0 in
        let distance = first_or m.period ts in
        let on = onward m.period 0 F.lasting.lasts in
        let d = distance-fits 0 ts on in
        let more = some-behind (back n m 0 distance) (later_blocks n m begin ts) (later-some begin ts) begin in
        last-behind (back n m 0 distance) (later_blocks n m begin ts) (back_inside 0 distance (omega (arith, d.0)) (omega (arith, d.1))) (later_last begin (omega (arith, more, l)) 0 ts on) (later-some begin ts) begin l

  -- ---- all modes

  abbrev pub drivers_from : List Mode → ℕ
  drivers_from [] = 0
  drivers_from (m ∷ ms) = mode_driver_count m + drivers_from ms

  modes-last : (n : ℕ) (ms : List Mode) → Each (ModeFits M) ms → n + drivers_from ms ≤ drivers → length M.tasks ≤ drivers → Last (code_from n ms)
  unfolding code_from
  modes-last n [] h l t = λ pc k. tt
  modes-last n (m ∷ ms) h l t = last-both (mode_code n m) (code_from (n + mode_driver_count m) ms) (mode-last n m h.0 (omega arith) t) (modes-last (n + mode_driver_count m) ms h.1 (omega arith) t)

  -- where each mode begins an instruction stands
  begins-good : (n : ℕ) (ms : List Mode) (pc : ℕ) → Each (ModeFits M) ms → n + drivers_from ms ≤ drivers → length M.tasks ≤ drivers → pc + length (code_from n ms pc) ≤ size → Each (λ begin. begin < size) (begins_from n ms pc)
  unfolding code_from begins_from
  begins-good n [] pc h d t l = tt
  begins-good n (m ∷ ms) pc h d t l =
      let k = length-append (mode_code n m pc) (code_from (n + mode_driver_count m) ms (pc + length (mode_code n m pc))) in
      let s = mode-some n m h.0 (omega arith) t pc in
      (omega (arith, k, s, l), begins-good (n + mode_driver_count m) ms (pc + length (mode_code n m pc)) h.1 (omega arith) t (omega (arith, k, l)))

-- ---- of the whole module

terminates-length : (k : ℕ) (tasks : List Task) → length (terminates_from k tasks) ≡ length tasks
terminates-length k [] = refl
terminates-length k (task ∷ tasks) = ap suc (terminates-length (k + 1) tasks)

module _ (M : Module) where
  mode-drivers : (size drivers : ℕ) (ms : List Mode) → length (each mode_drivers ms) ≡ drivers_from size drivers M ms
  mode-drivers size drivers [] = refl
  mode-drivers size drivers (m ∷ ms) =
      let e = mode-drivers size drivers ms in
      let a = length-append (mode_drivers m) (each mode_drivers ms) in
      let b = length-append (map (λ a. updates a.what.source a.what.target) m.updates) (map (λ a. releases a.what.task a.what.sources) m.calls) in
      let c = length-map m.updates (λ a. updates a.what.source a.what.target) in
      let d = length-map m.calls (λ a. releases a.what.task a.what.sources) in
      omega (arith, e, a, b, c, d)

  abbrev pub driver_count : ℕ
  driver_count = length (drivers_of M)

  pub drivers-count : (size drivers : ℕ) → driver_count ≡ length M.tasks + drivers_from size drivers M M.modes
  unfolding drivers_of
  drivers-count size drivers =
      let a = length-append (terminates_from 0 M.tasks) (each mode_drivers M.modes) in
      let b = terminates-length 0 M.tasks in
      let c = mode-drivers size drivers M.modes in
      omega (arith, a, b, c)

  pub every-mode : (ms : List Mode) → ((k : ℕ) → k < length ms → ModeFits M (get_or ms k no_mode)) → Each (ModeFits M) ms
  every-mode [] h = tt
  every-mode (m ∷ ms) h = (h 0 (omega arith), every-mode ms (λ k l. h (suc k) (omega arith)))

  pub code-good : Accepted M → Each (Good (length (code_of M)) driver_count M) (code_of M)
  unfolding code_of
  code-good W =
      let size = length (code_of M) in
      let d = drivers-count size driver_count in
      modes-last size driver_count M (length M.tasks) M.modes (every-mode M.modes W.modes) (omega (arith, d)) (omega (arith, d)) 0 (omega arith)

  pub begins-in : Accepted M → Each (λ begin. begin < length (code_of M)) (begins_of M)
  unfolding code_of begins_of
  begins-in W =
      let size = length (code_of M) in
      let d = drivers-count size driver_count in
      begins-good size driver_count M (length M.tasks) M.modes 0 (every-mode M.modes W.modes) (omega (arith, d)) (omega (arith, d)) (omega arith)
