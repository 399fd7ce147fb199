-- Laws: what lies aside means something only while its task's finished bit is set: a reaction is the same whatever stands aside for tasks that are not finished.
use Prim.Native.Nat.{ℕ, zero, suc}
use Rattle.std.proofs.Common.{arith, sym, ◌∙◌, eqb-true}
use Rattle.std.specs.Prelude.{◌≡◌, Bool, true, false, cond, get_or, drop, length, eqb}
use Rattle.std.proofs.Math.Path.{refl, ap}
use Rattle.std.proofs.Math.Option.{Option, none, some}
use mathlib.Core.List.{List, [], ◌∷◌}
use Rattle.std.proofs.lemmas.Bool.{eqb-false}
use Rattle.model.specs.Modules.{place}
use Rattle.model.specs.Instructions.{Instr, nop, future, call, release, iff, jump, return, switch, Driver, updates, releases, terminates}
use Rattle.machine.specs.Words.{has, parted}
use Rattle.machine.specs.WordLaws.{part_same, part-other}
use Rattle.machine.specs.Boards.{Board}
use Rattle.machine.specs.Instructions.{Future, Tally, no_tally, counted, step, Run, only, go_on, exec}
use Rattle.machine.specs.Store.{Store, lot_of, driven, ended, ending_by, driver_at, released, store_ops, reaction}
use Rattle.machine.specs.NoTrace.{runs}
use Rattle.machine.specs.AsideLaws.{SameFinished, results_of}

module _ (b : Board) (aside other : List ℕ) where
  -- a task less is finished
  fewer : (finished task : ℕ) → (SameFinished b aside other) finished → (SameFinished b aside other) (parted finished task)
  fewer finished task same k is = go (eqb k task) refl
    where
      go : (here : Bool) → eqb k task ≡ here → results_of b other k ≡ results_of b aside k
      go true at =
          let gone : has (parted finished task) k ≡ false = ap (has (parted finished task)) (eqb-true k task at) ∙ part_same finished task in
          let z : ◌≡◌ {A = ℕ} 0 1 = ap (λ (y : Bool). cond {A = ℕ} y 0 1) (sym is ∙ gone) in
          absurd (omega arith)
      go false apart = same k (sym (part-other finished task k (eqb-false k task apart)) ∙ is)

  abbrev Same : ℕ → List Instr → ℕ → Option Future → Tally → Store → Type 0
  Same most rest mode u n s = (SameFinished b aside other) s.finished → runs b other most rest mode u n s ≡ runs b aside most rest mode u n s

  run-same : (most : ℕ) (rest : List Instr) (mode : ℕ) (u : Option Future) (n : Tally) (s : Store) → Same most rest mode u n s
  unfolding exec
  run-same zero rest mode u n s same = refl
  run-same (suc most) [] mode u n s same = refl
  run-same (suc most) (nop marker ∷ rest) mode u n s same = run-same most rest mode u (step n) s same
  run-same (suc most) (future pc delay ∷ rest) mode u n s same = ap (only u) (run-same most rest mode (some (record { pc = pc; delay = delay })) (step n) s same)
  run-same (suc most) (call driver ∷ rest) mode u n s same = go (driver_at b aside driver) (run-same most rest mode u)
    where
      on : List ℕ → Driver → Run Store
      on results d = go_on (driven b results d s) (λ after. runs b results most rest mode u (counted 0 (ending_by b results d s) n) after)

      go : (d : Driver) → ((k : Tally) (after : Store) → Same most rest mode u k after) → on other d ≡ on aside d
      go (updates source target) later = later (counted 0 0 n) _ same
      go (releases task sources) later = later (counted 0 0 n) _ same
      go (terminates task) later = by (has s.out task) (has s.finished task) refl
        where
          ending : List ℕ → Bool → Bool → Run Store
          ending results out finished = go_on (ended b results task s out finished) (λ after. runs b results most rest mode u (counted 0 (cond out 1 0) n) after)

          handed : List ℕ → Store
          handed results = record { ports = place (lot_of b aside task).outputs results s.ports; out = parted s.out task; waiting = s.waiting; finished = parted s.finished task }

          by : (out finished : Bool) → has s.finished task ≡ finished → ending other out finished ≡ ending aside out finished
          by false finished is = later (counted 0 0 n) s same
          by true false is = refl
          by true true is = ap (λ (results : List ℕ). runs b other most rest mode u (counted 0 1 n) (handed results)) (same task is) ∙ later (counted 0 1 n) (handed (results_of b aside task)) (fewer s.finished task same)
  run-same (suc most) (release task ∷ rest) mode u n s same = go (has s.out task) (run-same most rest mode u (counted 1 0 n))
    where
      on : List ℕ → Bool → Run Store
      on results out = go_on (released b results task s out) (λ after. runs b results most rest mode u (counted 1 0 n) after)

      go : (out : Bool) → ((after : Store) → Same most rest mode u (counted 1 0 n) after) → on other out ≡ on aside out
      go true later = refl
      go false later = later _ same
  run-same (suc most) (iff guard else ∷ rest) mode u n s same = run-same most (cond ((store_ops b aside).test guard s) rest (drop else b.code)) mode u (step n) s same
  run-same (suc most) (jump pc ∷ rest) mode u n s same = run-same most (drop pc b.code) mode u (step n) s same
  run-same (suc most) (return ∷ rest) mode u n s same = refl
  run-same (suc most) (switch target ∷ rest) mode u n s same = run-same most (drop (get_or b.begins target 0) b.code) target u (step n) s same

  -- A reaction reads what lies aside of finished tasks alone.
  pub reads-finished-only : (mode pc : ℕ) (s : Store) → (SameFinished b aside other) s.finished → reaction b other mode pc s ≡ reaction b aside mode pc s
  unfolding reaction
  reads-finished-only mode pc s = run-same (length b.code) (drop pc b.code) mode none no_tally s
