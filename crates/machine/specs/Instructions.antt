-- The instructions (document 01, 'The code' and 'The machine'; the TDL report's table), obeyed over any store of ports and tasks.
use Rattle.std.specs.Prelude.{ℕ, zero, suc, ◌+◌, Bool, cond, List, [], ◌∷◌, get_or, drop}
use Rattle.std.proofs.Math.Option.{Option, none, some}
use Rattle.model.specs.Instructions.{Instr, nop, future, call, release, iff, jump, return, switch}

-- Faults: 40 terminating an unfinished task; 41 no return, or running past the end; 42 return with no future, or a second future; 43 releasing a task that is out.
pub data Fault : Type 0 where
  late : ℕ → Fault
  wild : Fault
  astray : Fault
  clash : Fault

-- a result, or a fault
pub data Res (A : Type 0) : Type 0 where
  ok : A → Res A
  bad : Fault → Res A

-- What the machine can do to a store: test a guard, call a driver, release a task. `ending` is 1 where a driver terminates a task that is out.
pub record Ops (S : Type 0) : Type 0 where
  pub test : ℕ → S → Bool
  pub drive : ℕ → S → Res S
  pub begin : ℕ → S → Res S
  pub ending : ℕ → S → ℕ

-- Where the next reaction begins, and how long until then.
pub record Future : Type 0 where
  pub pc : ℕ
  pub delay : ℕ

-- Instructions obeyed, tasks released, tasks terminated that were out.
pub record Tally : Type 0 where
  pub steps : ℕ
  pub begun : ℕ
  pub ended : ℕ

-- nothing counted
abbrev pub no_tally : Tally
no_tally = record { steps = 0; begun = 0; ended = 0 }

-- an instruction counted, with its releases and terminations
abbrev pub counted : ℕ → ℕ → Tally → Tally
counted releases terminations n = record { steps = suc n.steps; begun = n.begun + releases; ended = n.ended + terminations }

-- an instruction counted
abbrev pub step : Tally → Tally
step n = record { steps = suc n.steps; begun = n.begun; ended = n.ended }

-- A reaction that returned: the mode, what comes next, and the store.
pub record Halt (S : Type 0) : Type 0 where
  pub mode : ℕ
  pub future : Future
  pub store : S

-- how a reaction ends, and what it counted
pub record Run (S : Type 0) : Type 0 where
  pub res : Res (Halt S)
  pub tally : Tally

-- a fault before any further instruction
abbrev pub fail : {S : Type 0} → Fault → Run S
fail fault = record { res = bad fault; tally = no_tally }

-- on with the store, or the fault
abbrev pub go_on : {S : Type 0} → Res S → (S → Run S) → Run S
go_on (ok store) next = next store
go_on (bad fault) next = fail fault

-- a future: obeyed where none is noted yet, else 42
abbrev pub only : {S : Type 0} → Option Future → Run S → Run S
only none run = run
only (some promised) run = fail astray

-- a return: the future that was noted, or 42
abbrev pub leave : {S : Type 0} → Option Future → Tally → ℕ → S → Run S
leave none n mode store = fail astray
leave (some promised) n mode store = record { res = ok (record { mode = mode; future = promised; store = store }); tally = n }

module _ {S : Type 0} (O : Ops S) (begins : List ℕ) (code : List Instr) where
  -- At most `most` instructions, the rest of the code from the next one on; the mode; the future; what is obeyed so far.
  unfoldable pub exec : ℕ → List Instr → ℕ → Option Future → Tally → S → Run S
  exec zero rest mode u n s = fail wild
  exec (suc most) [] mode u n s = fail wild
  exec (suc most) (nop marker ∷ rest) mode u n s = exec most rest mode u (step n) s
  exec (suc most) (future pc delay ∷ rest) mode u n s = only u (exec most rest mode (some (record { pc = pc; delay = delay })) (step n) s)
  exec (suc most) (call driver ∷ rest) mode u n s = go_on (O.drive driver s) (λ after. exec most rest mode u (counted 0 (O.ending driver s) n) after)
  exec (suc most) (release task ∷ rest) mode u n s = go_on (O.begin task s) (λ after. exec most rest mode u (counted 1 0 n) after)
  exec (suc most) (iff guard other ∷ rest) mode u n s = exec most (cond (O.test guard s) rest (drop other code)) mode u (step n) s
  exec (suc most) (jump pc ∷ rest) mode u n s = exec most (drop pc code) mode u (step n) s
  exec (suc most) (return ∷ rest) mode u n s = leave u (step n) mode s
  exec (suc most) (switch target ∷ rest) mode u n s = exec most (drop (get_or begins target 0) code) target u (step n) s
