-- What the code shows of a run, and the laws of its loop: each step leaves the rest of the run.
use Prim.Native.Nat.{ℕ, zero, suc, ◌+◌, ◌-◌, ◌≤◌, ◌<◌}
use native.Mathlib.Omega.{arith}
use Rattle.std.proofs.Math.Numerals.{add-one}
use Rattle.std.specs.Prelude.{◌≡◌, Bool, cond, length, get_or, drop, Option, Some, None, Result, Ok, Err}
use Rattle.std.proofs.Math.Path.{refl, sym, ap}
use Rattle.std.proofs.Common.{◌∙◌, drop_of_length-le, drop-cons}
use Rattle.std.proofs.Math.Bool.{true, false}
use Rattle.std.proofs.Math.Option as M
use Rattle.std.proofs.Math.Option.{none, some}
use mathlib.Core.List.{List, [], ◌∷◌}
use Rattle.std.proofs.Math.Dec.{ltb}
use borrow.Author.Tests.{ltb-true, ltb-false, lt-ltb, le-ltb}
use Rattle.model.specs.Instructions.{Instr, nop, future, call, release, iff, jump, return, switch}
use Rattle.guards.specs.Tabs.{length-tab, within-tab}
use Rattle.machine.specs.Boards.{Board}
use Rattle.machine.specs.Instructions as I
use Rattle.machine.specs.Instructions.{Res, ok, bad, Halt, Run, Tally, counted, step, exec, go_on, only, leave}
use Rattle.machine.specs.Store.{Store, store_ops, reaction}
use Rattle.steps.specs.declared.Core.{Core}
use Rattle.steps.specs.declared.Future.{Future}
use Rattle.steps.specs.declared.Halted.{Halted}
use Rattle.steps.specs.declared.Fault.{Fault}
use Rattle.steps.specs.declared.Fault.TheVariants as F
use Rattle.steps.specs.declared.Row.{Row}
use Rattle.steps.specs.Rows.{reactive, instr_by, row_of}
use Rattle.steps.specs.Steps.{Ending, After, Next, Ended, store_of, tasks_of, promise_of, fault_by, halted_by, halted_of, goes, promised, returned, settled, Stepped, stepped, obey, step_of}
use Rattle.react.specs.declared.Ran.{Ran}

-- How a run ended; where it returned, also the ports and the number of instructions.
pub record Shown : Type 0 where
  pub ending : Ending
  pub ports : List ℕ
  pub steps : ℕ

abbrev pub shows : Result Ran Fault → List ℕ → Shown
shows (Ok ran) ports = record { ending = Ok ran.halted; ports = ports; steps = ran.steps }
shows (Err fault) ports = record { ending = Err fault; ports = ports; steps = 0 }

abbrev pub shown_res : List ℕ → ℕ → Res (Halt Store) → Shown
shown_res before steps (ok halt) = record { ending = Ok (halted_by halt); ports = halt.store.ports; steps = steps }
shown_res before steps (bad fault) = record { ending = Err (fault_by fault); ports = before; steps = 0 }

-- `before`: what the ports hold after a fault
abbrev pub shown : List ℕ → Run Store → Shown
shown before run = shown_res before run.tally.steps run.res

-- what stands in the code's hands when its loop is left
abbrev pub closes : List ℕ → Ending → ℕ → List ℕ → Shown
closes before (Ok halted) steps ports = record { ending = Ok halted; ports = ports; steps = steps }
closes before (Err fault) steps ports = record { ending = Err fault; ports = before; steps = 0 }

abbrev pub closing : List ℕ → Result Ran Fault → List ℕ → Shown
closing before (Ok ran) ports = closes before (Ok ran.halted) ran.steps ports
closing before (Err fault) ports = closes before (Err fault) 0 ports

-- what comes after an instruction, where the code goes on, returns or faults
abbrev pub follows : Result (Option Halted) Fault → Core → After
follows (Ok None) core = Next core
follows (Ok (Some halted)) core = Ended (Ok halted)
follows (Err fault) core = Ended (Err fault)

-- a fault is shown as its ending
fault-shown : (before : List ℕ) (fault : I.Fault) (steps : ℕ) (ports : List ℕ) → shown_res before steps (bad fault) ≡ closes before (Err (fault_by fault)) steps ports
fault-shown before fault steps ports = refl

abbrev pub obeyed : ℕ → Tally
obeyed steps = record { steps = steps; begun = 0; ended = 0 }

module _ (b : Board) (aside : List ℕ) (before : List ℕ) where
  abbrev at : ℕ → List Instr → ℕ → M.Option I.Future → Tally → Store → Shown
  at most rest mode u n store = shown before (exec (store_ops b aside) b.begins b.code most rest mode u n store)

  -- of the tally only the steps are shown
  steps-alone : (most : ℕ) (rest : List Instr) (mode : ℕ) (u : M.Option I.Future) (n o : Tally) (store : Store) → n.steps ≡ o.steps → at most rest mode u n store ≡ at most rest mode u o store
  unfolding exec
  steps-alone zero rest mode u n o store same = refl
  steps-alone (suc most) [] mode u n o store same = refl
  steps-alone (suc most) (nop marker ∷ rest) mode u n o store same = steps-alone most rest mode u (step n) (step o) store (ap suc same)
  steps-alone (suc most) (future pc delay ∷ rest) mode none n o store same = steps-alone most rest mode (some (record { pc = pc; delay = delay })) (step n) (step o) store (ap suc same)
  steps-alone (suc most) (future pc delay ∷ rest) mode (some promised) n o store same = refl
  steps-alone (suc most) (call driver ∷ rest) mode u n o store same =
      go ((store_ops b aside).drive driver store) (steps-alone most rest mode u (counted 0 ((store_ops b aside).ending driver store) n) (counted 0 ((store_ops b aside).ending driver store) o))
    where
      go : (res : Res Store)
          → ((after : Store) → suc n.steps ≡ suc o.steps → at most rest mode u (counted 0 ((store_ops b aside).ending driver store) n) after ≡ at most rest mode u (counted 0 ((store_ops b aside).ending driver store) o) after)
          → shown before (go_on res (λ after. exec (store_ops b aside) b.begins b.code most rest mode u (counted 0 ((store_ops b aside).ending driver store) n) after))
          ≡ shown before (go_on res (λ after. exec (store_ops b aside) b.begins b.code most rest mode u (counted 0 ((store_ops b aside).ending driver store) o) after))
      go (ok after) on = on after (ap suc same)
      go (bad fault) on = refl
  steps-alone (suc most) (release task ∷ rest) mode u n o store same = go ((store_ops b aside).begin task store) (steps-alone most rest mode u (counted 1 0 n) (counted 1 0 o))
    where
      go : (res : Res Store) → ((after : Store) → suc n.steps ≡ suc o.steps → at most rest mode u (counted 1 0 n) after ≡ at most rest mode u (counted 1 0 o) after)
          → shown before (go_on res (λ after. exec (store_ops b aside) b.begins b.code most rest mode u (counted 1 0 n) after))
          ≡ shown before (go_on res (λ after. exec (store_ops b aside) b.begins b.code most rest mode u (counted 1 0 o) after))
      go (ok after) on = on after (ap suc same)
      go (bad fault) on = refl
  steps-alone (suc most) (iff guard other ∷ rest) mode u n o store same =
      steps-alone most (cond ((store_ops b aside).test guard store) rest (drop other b.code)) mode u (step n) (step o) store (ap suc same)
  steps-alone (suc most) (jump pc ∷ rest) mode u n o store same = steps-alone most (drop pc b.code) mode u (step n) (step o) store (ap suc same)
  steps-alone (suc most) (return ∷ rest) mode none n o store same = refl
  steps-alone (suc most) (return ∷ rest) mode (some promised) n o store same = ap (λ (k : ℕ). shown_res before (suc k) (ok (record { mode = mode; future = promised; store = store }))) same
  steps-alone (suc most) (switch target ∷ rest) mode u n o store same =
      steps-alone most (drop (get_or b.begins target 0) b.code) target u (step n) (step o) store (ap suc same)

  -- what is left of a run from a core and its ports on
  abbrev pub runs : ℕ → ℕ → Core → List ℕ → Shown
  runs most steps core ports = at most (drop core.pc b.code) core.mode (promise_of core.future) (obeyed steps) (store_of core.tasks ports)

  abbrev pub onward : ℕ → ℕ → After → List ℕ → Shown
  onward most steps (Next core) ports = runs most steps core ports
  onward most steps (Ended ending) ports = closes before ending steps ports

  abbrev pub onward_from : ℕ → ℕ → Stepped → Shown
  onward_from most steps s = onward most steps s.after s.ports

  module _ (most steps : ℕ) (core : Core) (ports : List ℕ) where
    abbrev behind : Core
    behind = goes (suc core.pc) core

    abbrev started : Instr → Shown
    started i = at (suc most) (i ∷ drop (suc core.pc) b.code) core.mode (promise_of core.future) (obeyed steps) (store_of core.tasks ports)

    -- one instruction, and then the rest
    one : (i : Instr) → started i ≡ onward_from most (suc steps) (obey b aside i behind ports)
    unfolding exec
    one (nop marker) = refl
    one (future pc delay) = go core.future
      where
        go : (held : Option Future) → shown before (only (promise_of held) (exec (store_ops b aside) b.begins b.code most (drop (suc core.pc) b.code) core.mode (some (record { pc = pc; delay = delay })) (step (obeyed steps)) (store_of core.tasks ports)))
            ≡ onward most (suc steps) (promised pc delay behind held) ports
        go (Some held) = refl
        go None = refl
    one (call driver) = go ((store_ops b aside).drive driver (store_of core.tasks ports))
      where
        go : (res : Res Store)
            → shown before (go_on res (λ after. exec (store_ops b aside) b.begins b.code most (drop (suc core.pc) b.code) core.mode (promise_of core.future) (counted 0 ((store_ops b aside).ending driver (store_of core.tasks ports)) (obeyed steps)) after))
            ≡ onward_from most (suc steps) (settled behind ports res)
        go (ok after) = steps-alone most (drop (suc core.pc) b.code) core.mode (promise_of core.future) (counted 0 ((store_ops b aside).ending driver (store_of core.tasks ports)) (obeyed steps)) (obeyed (suc steps)) after refl
        go (bad fault) = fault-shown before fault (suc steps) ports
    one (release task) = go ((store_ops b aside).begin task (store_of core.tasks ports))
      where
        go : (res : Res Store)
            → shown before (go_on res (λ after. exec (store_ops b aside) b.begins b.code most (drop (suc core.pc) b.code) core.mode (promise_of core.future) (counted 1 0 (obeyed steps)) after))
            ≡ onward_from most (suc steps) (settled behind ports res)
        go (ok after) = steps-alone most (drop (suc core.pc) b.code) core.mode (promise_of core.future) (counted 1 0 (obeyed steps)) (obeyed (suc steps)) after refl
        go (bad fault) = fault-shown before fault (suc steps) ports
    one (iff guard other) = go ((store_ops b aside).test guard (store_of core.tasks ports))
      where
        go : (test : Bool) → at most (cond test (drop (suc core.pc) b.code) (drop other b.code)) core.mode (promise_of core.future) (step (obeyed steps)) (store_of core.tasks ports)
            ≡ onward most (suc steps) (Next (cond test behind (goes other behind))) ports
        go true = refl
        go false = refl
    one (jump pc) = refl
    one return = go core.future
      where
        go : (held : Option Future) → shown before (leave (promise_of held) (step (obeyed steps)) core.mode (store_of core.tasks ports))
            ≡ onward most (suc steps) (returned behind held) ports
        go (Some held) = refl
        go None = refl
    one (switch target) = refl

    pub stepped-on : runs (suc most) steps core ports ≡ onward_from most (suc steps) (step_of b aside core ports)
    unfolding step_of exec
    stepped-on = go (ltb core.pc (length b.code)) refl
      where
        go : (within : Bool) → ltb core.pc (length b.code) ≡ within
            → runs (suc most) steps core ports ≡ onward_from most (suc steps) (cond within (obey b aside (get_or b.code core.pc (nop 0)) (goes (core.pc + 1) core) ports) (stepped (Ended (Err F.Wild)) ports))
        go true within = rw (drop-cons b.code core.pc (nop 0) (ltb-true _ _ within), add-one core.pc) (one (get_or b.code core.pc (nop 0)))
        go false past = rw (drop_of_length-le b.code {i = core.pc} (ltb-false _ _ past)) refl

  -- ---- the loop: `steps` of `n` are obeyed, and what is left is the whole
  module _ (whole : Shown) (n steps : ℕ) (core : Core) (ports : List ℕ) (left : whole ≡ runs (n - steps) steps core ports) where
    next : steps < n → (after : After) (held : List ℕ) → stepped after held ≡ step_of b aside core ports → whole ≡ onward (n - (steps + 1)) (steps + 1) after held
    next within after held same =
        let count : n - steps ≡ suc (n - (steps + 1)) = omega arith in
        left ∙ ap (λ (k : ℕ). runs k steps core ports) count ∙ stepped-on (n - (steps + 1)) steps core ports
        ∙ ap (λ (s : Stepped). onward_from (n - (steps + 1)) (suc steps) s) (sym same) ∙ ap (λ (k : ℕ). onward (n - (steps + 1)) k after held) (sym (add-one steps))

    pub goes_on : steps < n → (then : Core) (held : List ℕ) → stepped (Next then) held ≡ step_of b aside core ports → whole ≡ runs (n - (steps + 1)) (steps + 1) then held
    goes_on within then held same = next within (Next then) held same

    pub ends : steps < n → (ending : Ending) (held : List ℕ) → stepped (Ended ending) held ≡ step_of b aside core ports → closes before ending (steps + 1) held ≡ whole
    ends within ending held same = sym (next within (Ended ending) held same)

    pub over : n ≤ steps → (held : List ℕ) → closes before (Err F.Wild) 0 held ≡ whole
    unfolding exec
    over done held = let count : n - steps ≡ 0 = omega arith in sym (left ∙ ap (λ (k : ℕ). runs k steps core ports) count)

-- a return: with no future it is fault 42
abbrev pub leaving : Core → Option Future → Ending
leaving core (Some held) = Ok (halted_of held core)
leaving core None = Err F.Astray

pub leaves : (pc : ℕ) (core : Core) (ports : List ℕ) (held : Option Future) → stepped (Ended (leaving core held)) ports ≡ stepped (returned (goes pc core) held) ports
leaves pc core ports (Some held) = refl
leaves pc core ports None = refl

-- ---- the same over rows: a turn of the loop obeys the row where the core stands, or faults behind the last one
module _ (n : ℕ) (code drivers guards modes tasks aside before : List ℕ) (whole : Shown) (steps : ℕ) (core : Core) (ports : List ℕ)
    (left : whole ≡ runs (reactive n code drivers guards modes tasks) aside before (n - steps) steps core ports) (within : steps < n) where
  abbrev obeys : Row → Stepped
  obeys row = obey (reactive n code drivers guards modes tasks) aside (instr_by row.opcode row.first row.second) (goes (core.pc + 1) core) ports

  fetched : (row : Row) → row ≡ row_of code core.pc → core.pc < n → obeys row ≡ step_of (reactive n code drivers guards modes tasks) aside core ports
  unfolding step_of
  fetched row is here = rw (is, length-tab, lt-ltb _ _ here, within-tab _ _ _ _ here) refl

  pub row_on : (row : Row) → row ≡ row_of code core.pc → core.pc < n → (then : Core) (held : List ℕ) → stepped (Next then) held ≡ obeys row
      → whole ≡ runs (reactive n code drivers guards modes tasks) aside before (n - (steps + 1)) (steps + 1) then held
  row_on row is here then held same = goes_on (reactive n code drivers guards modes tasks) aside before whole n steps core ports left within then held (same ∙ fetched row is here)

  pub row_ends : (row : Row) → row ≡ row_of code core.pc → core.pc < n → (ending : Ending) (held : List ℕ) → stepped (Ended ending) held ≡ obeys row
      → closes before ending (steps + 1) held ≡ whole
  row_ends row is here ending held same = ends (reactive n code drivers guards modes tasks) aside before whole n steps core ports left within ending held (same ∙ fetched row is here)

  pub row-none : n ≤ core.pc → closes before (Err F.Wild) (steps + 1) ports ≡ whole
  unfolding step_of
  row-none past = ends (reactive n code drivers guards modes tasks) aside before whole n steps core ports left within (Err F.Wild) ports (rw (length-tab, le-ltb _ _ past) refl)

-- a reaction is a run from its first instruction, of as many instructions as the code holds
abbrev pub standing : ℕ → ℕ → Store → Core
standing mode pc store = record { pc = pc; mode = mode; future = None; tasks = tasks_of store }

pub whole_run : (b : Board) (aside before : List ℕ) (n mode pc : ℕ) (store : Store) → length b.code ≡ n
    → runs b aside before n 0 (standing mode pc store) store.ports ≡ shown before (reaction b aside mode pc store)
unfolding reaction
whole_run b aside before n mode pc store size = rw (← size) refl
