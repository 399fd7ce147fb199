-- Results show in ports only by a termination: a reaction that terminates no task that is out is the same whatever stands aside.
use Prim.Native.Nat.{ℕ, zero, suc, ◌+◌, ◌≤◌}
use native.Mathlib.Omega.{arith}
use Rattle.std.specs.Prelude.{◌≡◌, refl, Bool, true, false, cond, get_or, drop, length}
use Rattle.std.proofs.Math.Option.{Option, none, some}
use mathlib.Core.List.{List, [], ◌∷◌}
use Rattle.model.specs.Instructions.{Instr, nop, future, call, release, iff, jump, return, switch, Driver, updates, releases, terminates}
use Rattle.machine.specs.Words.{has}
use Rattle.machine.specs.Boards.{Board}
use Rattle.machine.specs.Instructions.{Res, ok, bad, Future, Tally, no_tally, counted, step, Halt, Run, go_on, exec}
use Rattle.machine.specs.Store.{Store, driven, ended, ending_by, driver_at, released, store_ops, reaction}
use Rattle.machine.specs.NoTrace.{Calm, runs}

-- A run that returned has ended no fewer tasks than before.
abbrev Grown : ℕ → ℕ → Res (Halt Store) → Type 0
Grown before after (ok halt) = before ≤ after
Grown before after (bad fault) = Unit {0}

weaker : (low before after : ℕ) (res : Res (Halt Store)) → low ≤ before → Grown before after res → Grown low after res
weaker low before after (ok halt) less grown = omega arith
weaker low before after (bad fault) less grown = tt

never : (before after : ℕ) (res : Res (Halt Store)) → Grown (before + 1) after res → Calm before after res → ⊥
never before after (ok halt) grown calm = omega arith
never before after (bad fault) grown calm = calm

shift : (before after : ℕ) (res : Res (Halt Store)) → Calm before after res → Calm (before + 0) after res
shift before after (ok halt) calm = omega arith
shift before after (bad fault) calm = calm

module _ (b : Board) (aside : List ℕ) where
  grows : (most : ℕ) (rest : List Instr) (mode : ℕ) (u : Option Future) (n : Tally) (s : Store) → Grown n.ended ((runs b aside) most rest mode u n s).tally.ended ((runs b aside) most rest mode u n s).res
  unfolding exec
  grows zero rest mode u n s = tt
  grows (suc most) [] mode u n s = tt
  grows (suc most) (nop marker ∷ rest) mode u n s = grows most rest mode u (step n) s
  grows (suc most) (future pc delay ∷ rest) mode none n s = grows most rest mode (some (record { pc = pc; delay = delay })) (step n) s
  grows (suc most) (future pc delay ∷ rest) mode (some promised) n s = tt
  grows (suc most) (call driver ∷ rest) mode u n s = go ((store_ops b aside).drive driver s) ((store_ops b aside).ending driver s) (λ ends. grows most rest mode u (counted 0 ends n))
    where
      go : (res : Res Store) (ends : ℕ)
          → ((ends : ℕ) (after : Store) → Grown (n.ended + ends) ((runs b aside) most rest mode u (counted 0 ends n) after).tally.ended ((runs b aside) most rest mode u (counted 0 ends n) after).res)
          → Grown n.ended (go_on res (λ after. (runs b aside) most rest mode u (counted 0 ends n) after)).tally.ended (go_on res (λ after. (runs b aside) most rest mode u (counted 0 ends n) after)).res
      go (ok after) ends on = weaker n.ended (n.ended + ends) _ ((runs b aside) most rest mode u (counted 0 ends n) after).res (omega arith) (on ends after)
      go (bad fault) ends on = tt
  grows (suc most) (release task ∷ rest) mode u n s = go ((store_ops b aside).begin task s) (grows most rest mode u (counted 1 0 n))
    where
      go : (res : Res Store) → ((after : Store) → Grown (n.ended + 0) ((runs b aside) most rest mode u (counted 1 0 n) after).tally.ended ((runs b aside) most rest mode u (counted 1 0 n) after).res)
          → Grown n.ended (go_on res (λ after. (runs b aside) most rest mode u (counted 1 0 n) after)).tally.ended (go_on res (λ after. (runs b aside) most rest mode u (counted 1 0 n) after)).res
      go (ok after) on = weaker n.ended (n.ended + 0) _ ((runs b aside) most rest mode u (counted 1 0 n) after).res (omega arith) (on after)
      go (bad fault) on = tt
  grows (suc most) (iff guard other ∷ rest) mode u n s = grows most (cond ((store_ops b aside).test guard s) rest (drop other b.code)) mode u (step n) s
  grows (suc most) (jump pc ∷ rest) mode u n s = grows most (drop pc b.code) mode u (step n) s
  grows (suc most) (return ∷ rest) mode none n s = tt
  grows (suc most) (return ∷ rest) mode (some promised) n s = omega arith
  grows (suc most) (switch target ∷ rest) mode u n s = grows most (drop (get_or b.begins target 0) b.code) target u (step n) s

module _ (b : Board) (aside other : List ℕ) where
  abbrev Same : ℕ → List Instr → ℕ → Option Future → Tally → Store → Type 0
  Same most rest mode u n s =
      Calm n.ended (runs b aside most rest mode u n s).tally.ended (runs b aside most rest mode u n s).res → runs b other most rest mode u n s ≡ runs b aside most rest mode u n s

  calm-same : (most : ℕ) (rest : List Instr) (mode : ℕ) (u : Option Future) (n : Tally) (s : Store) → Same most rest mode u n s
  unfolding exec
  calm-same zero rest mode u n s calm = absurd calm
  calm-same (suc most) [] mode u n s calm = absurd calm
  calm-same (suc most) (nop marker ∷ rest) mode u n s calm = calm-same most rest mode u (step n) s calm
  calm-same (suc most) (future pc delay ∷ rest) mode none n s calm = calm-same most rest mode (some (record { pc = pc; delay = delay })) (step n) s calm
  calm-same (suc most) (future pc delay ∷ rest) mode (some promised) n s calm = absurd calm
  calm-same (suc most) (call driver ∷ rest) mode u n s calm = go (driver_at b aside driver) (calm-same most rest mode u) calm
    where
      on : List ℕ → Driver → Run Store
      on results d = go_on (driven b results d s) (λ after. runs b results most rest mode u (counted 0 (ending_by b results d s) n) after)

      go : (d : Driver) → ((k : Tally) (after : Store) → Same most rest mode u k after) → Calm n.ended (on aside d).tally.ended (on aside d).res → on other d ≡ on aside d
      go (updates source target) later calm = later (counted 0 0 n) _ (shift _ _ (on aside (updates source target)).res calm)
      go (releases task sources) later calm = later (counted 0 0 n) _ (shift _ _ (on aside (releases task sources)).res calm)
      go (terminates task) later calm = by (has s.out task) (has s.finished task) calm
        where
          ending : List ℕ → Bool → Bool → Run Store
          ending results out finished = go_on (ended b results task s out finished) (λ after. runs b results most rest mode u (counted 0 (cond out 1 0) n) after)

          by : (out finished : Bool) → Calm n.ended (ending aside out finished).tally.ended (ending aside out finished).res → ending other out finished ≡ ending aside out finished
          by false finished calm = later (counted 0 0 n) s (shift _ _ (ending aside false finished).res calm)
          by true false calm = absurd calm
          by true true calm = absurd (never n.ended _ (ending aside true true).res (grows b aside most rest mode u (counted 0 1 n) _) calm)
  calm-same (suc most) (release task ∷ rest) mode u n s calm = go (has s.out task) (calm-same most rest mode u (counted 1 0 n)) calm
    where
      on : List ℕ → Bool → Run Store
      on results out = go_on (released b results task s out) (λ after. runs b results most rest mode u (counted 1 0 n) after)

      go : (out : Bool) → ((after : Store) → Same most rest mode u (counted 1 0 n) after) → Calm n.ended (on aside out).tally.ended (on aside out).res → on other out ≡ on aside out
      go true later calm = absurd calm
      go false later calm = later _ (shift _ _ (on aside false).res calm)
  calm-same (suc most) (iff guard else ∷ rest) mode u n s calm = calm-same most (cond ((store_ops b aside).test guard s) rest (drop else b.code)) mode u (step n) s calm
  calm-same (suc most) (jump pc ∷ rest) mode u n s calm = calm-same most (drop pc b.code) mode u (step n) s calm
  calm-same (suc most) (return ∷ rest) mode none n s calm = absurd calm
  calm-same (suc most) (return ∷ rest) mode (some promised) n s calm = refl
  calm-same (suc most) (switch target ∷ rest) mode u n s calm = calm-same most (drop (get_or b.begins target 0) b.code) target u (step n) s calm

  -- A reaction that returned and terminated no task that was out: nothing of what stands aside shows.
  pub no-trace : (mode pc : ℕ) (s : Store) → Calm 0 (reaction b aside mode pc s).tally.ended (reaction b aside mode pc s).res → reaction b other mode pc s ≡ reaction b aside mode pc s
  unfolding reaction
  no-trace mode pc s calm = calm-same (length b.code) (drop pc b.code) mode none no_tally s calm
