-- One reaction of the machine over standings is one instant of the rules.
use Prim.Native.Nat.{ℕ, ◌+◌, ◌-◌}
use Rattle.std.specs.Prelude.{◌≡◌}
use Rattle.std.proofs.Math.Option.{none}
use Rattle.std.proofs.Math.ListN.{length, drop}
use Rattle.model.specs.Modules.{Module}
use Rattle.timing.specs.Slots.{opening}
use Rattle.timing.specs.Rules as R
use Rattle.timing.specs.Rules.{Store, Outcome, well, late, Place, mode_at, next_instant, chosen, terminations, sensed, entered, turned, after_ends, instant}
use Rattle.timing.specs.Code.{code_of, begins_of}
use Rattle.machine.specs.Instructions as E
use Rattle.machine.specs.Instructions.{Fault, Res, ok, bad, Halt, Run, no_tally, step, exec}
use Rattle.timing.specs.Stands.{stand_ops}
use Rattle.timing.specs.Syncs.{at, first_distance, begin_block, Sync}
use Rattle.timing.specs.Outs.{Quiet}

module _ (M : Module) where
  -- One reaction over standings, from the instruction at pc on: at most as many instructions as the code holds.
  abbrev pub reacting : ℕ → ℕ → Store → Run Store
  reacting mode pc s = exec (stand_ops M) (begins_of M) (code_of M) (length (code_of M)) (drop pc (code_of M)) mode none no_tally s

  -- The machine stopped where the rules are, and waits for their next instant.
  pub record Follows (w : Place) (z : Halt Store) : Type 0 where
    pub same-mode : z.mode ≡ w.mode
    pub same_store : z.store ≡ w.store
    pub sync : Sync M w.mode w.time z.future.pc
    pub delay : z.future.delay ≡ next_instant (mode_at M w.mode) w.time - w.time
    pub quiet : Quiet M w.mode w.time w.store

  abbrev pub Agrees : Outcome Place → Res (Halt Store) → Type 0
  Agrees (well w) (ok z) = Follows w z
  Agrees (well w) (bad fault) = ⊥
  Agrees (late task) (ok z) = ⊥
  Agrees (late task) (bad fault) = fault ≡ E.late task

  -- what the begin block of mode j comes to
  abbrev pub begin_halt : ℕ → Store → Halt Store
  begin_halt j s = record { mode = j; future = record { pc = at M j + length (begin_block M j); delay = first_distance M j }; store = R.releases M (opening (mode_at M j).period 0 (mode_at M j).calls) s }
