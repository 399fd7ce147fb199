-- The machine's operations on its words are the rules' on their standings.
use Rattle.std.specs.Prelude.{ℕ, zero, suc, ◌+◌, ◌-◌, ◌*◌, ◌≤◌, ◌<◌, ◌≡◌, ◌⊎◌, Bool, true, false, cond, List, [], ◌∷◌, ◌++◌, map, length, get_or, set, take, drop}
use Rattle.std.proofs.Common.{arith, sym, ◌∙◌, ap, ap₂, subst, inl, inr, get_or-take}
use Rattle.std.proofs.Math.Path.{refl}
use Rattle.std.proofs.Math.Option.{Option, none, some}
use Rattle.model.specs.Rooms.{port_room, task_room}
use Rattle.model.specs.Values.{holds, says, operand_word, word_of, no_guard, no_operand}
use Rattle.model.specs.Modules.{Module, Mode, Task, Act, Call, Update, each, place, copy_to}
use Rattle.model.specs.Instructions.{Instr, call, release, iff, Driver, updates, releases, terminates, no_driver}
use Rattle.model.specs.declared.Value.{Value}
use Rattle.model.specs.declared.Value.TheVariants.{Int, Flag}
use Rattle.model.specs.declared.Operand.{Operand}
use Rattle.model.specs.declared.Operand.TheVariants.{Port, Fixed}
use Rattle.model.specs.declared.Function.{Function}
use Rattle.model.specs.declared.Function.TheVariants.{IsTrue, IsFalse, Less, Equal}
use Rattle.model.specs.declared.Guard.{Guard}
use Rattle.timing.specs.SlotLaws.{Each}
use Rattle.timing.specs.Rules as R
use Rattle.timing.specs.Rules.{Standing, idle, ready, running, done, inputs_of, outputs_of, no_mode}
use Rattle.timing.specs.Code.{drivers_of, terminates_from, mode_drivers, code_of, begins_of}
use Rattle.timing.specs.Accepted.{Accepted, ModeFits, CallFits, UpdateFits, GuardFits, OperandFits, SecondFits, ports}
use Rattle.machine.specs.Words.{has, joined, parted}
use Rattle.machine.specs.Boards.{Board, Lot}
use Rattle.machine.specs.Instructions as E
use Rattle.machine.specs.Instructions.{Res, ok, bad, Ops, Future, Tally, Run, exec}
use Rattle.machine.specs.Store.{Store, part, lot_of, ended, released, driven, ending_by, store_ops, with_ports}
use Rattle.timing.specs.Stands as S
use Rattle.timing.specs.Standings.{is_out}
use Rattle.timing.specs.Stands.{stand_ops}
use Rattle.bridge.specs.Boards.{board, board-code, board-driver, board-guard, board-begin, board-lot}
use Rattle.bridge.specs.Carried.{all_drop, Both, Keeps, Same, runs}
use Rattle.bridge.specs.Sane.{Sane, code-sane}
use Rattle.bridge.specs.Views.{take-set, take-place, take-copy, stand_of, Fitting, fitting-done, tasks, results_of, row_of, stand_at, standings, view, Neat, stands_at, begun-tasks, ended-tasks, begun-neat, ended-neat}
-- ---- every driver names what is there

use Rattle.bridge.specs.Kept.{DriverFits, Good}

module _ (M : Module) where
  none-fits : (DriverFits M) no_driver
  none-fits = go (ports M) refl
    where
      go : (n : ℕ) → ports M ≡ n → (ports M ≡ 0) ⊎ (0 < ports M)
      go zero e = inl e
      go (suc n) e = inr (omega arith)

  ends-fit : (k : ℕ) (ts : List Task) → k + length ts ≤ tasks M → Each (DriverFits M) (terminates_from k ts)
  ends-fit k [] h = tt
  ends-fit k (t ∷ ts) h = (omega arith, ends-fit (k + 1) ts (omega arith))

  each_append : {A : Type 0} (C : A → Type 0) (l r : List A) → Each C l → Each C r → Each C (l ++ r)
  each_append C [] r h k = k
  each_append C (a ∷ l) r h k = (h.0, each_append C l r h.1 k)

  updates-fit : (acts : List (Act Update)) → Each (UpdateFits M) acts → Each (DriverFits M) (map (λ a. updates a.what.source a.what.target) acts)
  updates-fit [] h = tt
  updates-fit (a ∷ acts) h = (inr h.0.source, updates-fit acts h.1)

  calls-fit : (acts : List (Act Call)) → Each (CallFits M) acts → Each (DriverFits M) (map (λ a. releases a.what.task a.what.sources) acts)
  calls-fit [] h = tt
  calls-fit (a ∷ acts) h = ((h.0.task, h.0.sources), calls-fit acts h.1)

  modes-fit : (ms : List Mode) → ((k : ℕ) → k < length ms → ModeFits M (get_or ms k no_mode)) → Each (DriverFits M) (each mode_drivers ms)
  modes-fit [] h = tt
  modes-fit (m ∷ ms) h =
      each_append (DriverFits M) (mode_drivers m) (each mode_drivers ms)
      (each_append (DriverFits M) (map (λ a. updates a.what.source a.what.target) m.updates) (map (λ a. releases a.what.task a.what.sources) m.calls)
      (updates-fit m.updates (h 0 (omega arith)).updates) (calls-fit m.calls (h 0 (omega arith)).calls))
      (modes-fit ms (λ k l. h (suc k) (omega arith)))

  at : {A : Type 0} (C : A → Type 0) (d : A) → C d → (l : List A) → Each C l → (k : ℕ) → C (get_or l k d)
  at C d c [] h k = c
  at C d c (a ∷ l) h zero = h.0
  at C d c (a ∷ l) h (suc k) = at C d c l h.1 k

  pub driver-fits : Accepted M → (d : ℕ) → (DriverFits M) (get_or (drivers_of M) d no_driver)
  unfolding drivers_of
  driver-fits W d =
      at (DriverFits M) no_driver none-fits (terminates_from 0 M.tasks ++ each mode_drivers M.modes)
      (each_append (DriverFits M) (terminates_from 0 M.tasks) (each mode_drivers M.modes) (ends-fit 0 M.tasks (omega arith)) (modes-fit M.modes W.modes)) d

  -- ---- guards
  operand_same : (ps : List ℕ) (operand : Operand) → OperandFits M operand → operand_word ps operand ≡ operand_word (take (ports M) ps) operand
  operand_same ps (Port p) h = sym (get_or-take (ports M) ps p 0 h)
  operand_same ps (Fixed value) h = refl

  pub guard-same : (ps : List ℕ) (guard : Guard) → GuardFits M guard → holds ps guard ≡ holds (take (ports M) ps) guard
  unfolding holds
  guard-same ps guard fits = go guard.function refl
    where
      a : operand_word ps guard.first ≡ operand_word (take (ports M) ps) guard.first
      a = operand_same ps guard.first fits.first

      go : (f : Function) → guard.function ≡ f
          → says guard.function (operand_word ps guard.first) (operand_word ps guard.second) ≡ says guard.function (operand_word (take (ports M) ps) guard.first) (operand_word (take (ports M) ps) guard.second)
      go IsTrue e = rw (e, a) refl
      go IsFalse e = rw (e, a) refl
      go Less e = let s : SecondFits M Less guard.second = rw e at fits.second in rw (e, a, operand_same ps guard.second s) refl
      go Equal e = let s : SecondFits M Equal guard.second = rw e at fits.second in rw (e, a, operand_same ps guard.second s) refl

  guard-at : (guards : List Guard) → Each (GuardFits M) guards → (g : ℕ) → g < length guards → GuardFits M (get_or guards g no_guard)
  guard-at [] h g l = absurd (omega arith)
  guard-at (x ∷ guards) h zero l = h.0
  guard-at (x ∷ guards) h (suc g) l = guard-at guards h.1 g (omega arith)

  -- ---- the operations
  module _ (W : Accepted M) (aside : List ℕ) where
    abbrev shown : Store → R.Store
    shown s = view M aside s

    abbrev Kept : Res Store → Res R.Store → Type 0
    Kept = Both shown (Good M W aside)

    abbrev b : Board
    b = board M

    abbrev stood : List ℕ → List Standing → R.Store
    stood ps l = record { ports = ps; tasks = l }

    updated : (source target : ℕ) (s : Store) → (DriverFits M) (updates source target) → (Good M W aside) s → Kept (driven b aside (updates source target) s) (S.driven M (updates source target) (shown s))
    updated source target s fits good = (go fits, good)
      where
        ps : List ℕ
        ps = s.ports

        n : ℕ
        n = ports M

        nothing : n ≡ 0 → set (take n ps) target (get_or (take n ps) source 0) ≡ take n (set ps target (get_or ps source 0))
        nothing e = rw e refl

        same : source < n → set (take n ps) target (get_or (take n ps) source 0) ≡ take n (set ps target (get_or ps source 0))
        same h = ap (λ (x : ℕ). set (take n ps) target x) (get_or-take n ps source 0 h) ∙ sym (take-set n ps target (get_or ps source 0))

        go : (n ≡ 0) ⊎ (source < n) → stood (set (take n ps) target (get_or (take n ps) source 0)) (shown s).tasks ≡ stood (take n (set ps target (get_or ps source 0))) (shown s).tasks
        go (inl e) = ap (λ (l : List ℕ). stood l (shown s).tasks) (nothing e)
        go (inr h) = ap (λ (l : List ℕ). stood l (shown s).tasks) (same h)

    copied : (task : ℕ) (sources : List ℕ) (s : Store) → (DriverFits M) (releases task sources) → (Good M W aside) s → Kept (driven b aside (releases task sources) s) (S.driven M (releases task sources) (shown s))
    copied task sources s fits good = (
      ap (λ (l : List ℕ). stood l (shown s).tasks)
          (sym (take-copy (ports M) (lot_of b aside task).inputs sources s.ports fits.1 ∙ ap (λ (x : Lot). copy_to x.inputs sources (take (ports M) s.ports)) (board-lot M task fits.0))),
      good,
    )

    standing : (task : ℕ) (s : Store) → task < tasks M → S.standing M (shown s) task ≡ stand_at M aside s.out s.waiting s.finished task
    standing task s l = stands_at M aside s.out s.waiting s.finished task l

    terminated : (task : ℕ) (s : Store) → task < tasks M → (Good M W aside) s → Kept (driven b aside (terminates task) s) (S.driven M (terminates task) (shown s))
    terminated task s l good = rw (standing task s l) (go (has s.out task) refl (has s.waiting task) refl (has s.finished task) refl)
      where
        results : part aside (task * port_room) (lot_of b aside task).results ≡ row_of M aside task
        results = ap (λ (x : Lot). part aside (task * port_room) x.results) (board-lot M task l)

        outs : (lot_of b aside task).outputs ≡ outputs_of M task
        outs = ap (λ (x : Lot). x.outputs) (board-lot M task l)

        go : (x : Bool) → has s.out task ≡ x → (y : Bool) → has s.waiting task ≡ y → (z : Bool) → has s.finished task ≡ z
            → Kept (ended b aside task s x z) (S.res_of (R.ended M task (shown s) (stand_of x y z (row_of M aside task))))
        go false o y w z f = (refl, good)
        go true o true w false f = refl
        go true o false w false f = refl
        go true o true w true f =
            let q = (fitting-done (has s.out task) (has s.waiting task) (rw f at (good.fits task))).1 in
            let c : ◌≡◌ {A = ℕ} 0 1 = cc in absurd (omega arith)
        go true o false w true f = (
          ap₂ stood
              (sym (take-place (ports M) (lot_of b aside task).outputs (part aside (task * port_room) (lot_of b aside task).results) s.ports
              ∙ ap₂ (λ (i : ℕ) (r : List ℕ). place i r (take (ports M) s.ports)) outs results))
              (ended-tasks M aside s.out s.waiting s.finished task l W.few-tasks),
          ended-neat M aside s.out s.waiting s.finished task l W.few-tasks good f,
        )

    begun : (task : ℕ) (s : Store) → task < tasks M → (Good M W aside) s → Kept (released b aside task s (has s.out task)) (S.begun_by M task (shown s) (S.standing M (shown s) task))
    begun task s l good = rw (standing task s l) (go (has s.out task) refl (has s.waiting task) (has s.finished task))
      where
        go : (x : Bool) → has s.out task ≡ x → (y z : Bool) → Kept (released b aside task s x) (S.begun_by M task (shown s) (stand_of x y z (row_of M aside task)))
        go true o true z = refl
        go true o false true = refl
        go true o false false = refl
        go false o y z = (
          ap (λ (q : List Standing). stood (take (ports M) s.ports) q) (begun-tasks M aside s.out s.waiting s.finished task l W.few-tasks),
          begun-neat M aside s.out s.waiting s.finished task l W.few-tasks good o,
        )

    drive : (d : Driver) (s : Store) → (DriverFits M) d → (Good M W aside) s → Kept (driven b aside d s) (S.driven M d (shown s))
    drive (updates source target) s fits good = updated source target s fits good
    drive (releases task sources) s fits good = copied task sources s fits good
    drive (terminates task) s fits good = terminated task s fits good

    ending : (d : Driver) (s : Store) → (DriverFits M) d → ending_by b aside d s ≡ S.ending_by M d (shown s)
    ending (updates source target) s fits = refl
    ending (releases task sources) s fits = refl
    ending (terminates task) s fits = rw (standing task s fits) (go (has s.out task) (has s.waiting task) (has s.finished task))
      where
        go : (x y z : Bool) → cond x 1 0 ≡ is_out (stand_of x y z (row_of M aside task))
        go false y z = refl
        go true true z = refl
        go true false true = refl
        go true false false = refl

    pub keeps : Keeps shown (Good M W aside) (store_ops b aside) (stand_ops M) (Sane M)
    keeps =
        record {
          tests = λ guard other s q good. ap (holds s.ports) (board-guard M W guard) ∙ guard-same s.ports (get_or M.guards guard no_guard) (guard-at M.guards W.guards guard q);
          drives = λ driver s q good. rw (board-driver M driver) (drive (get_or (drivers_of M) driver no_driver) s (driver-fits W driver) good);
          begins = λ task s q good. begun task s q good;
          endings = λ driver s q good. rw (board-driver M driver) (ending (get_or (drivers_of M) driver no_driver) s (driver-fits W driver));
        }

    -- ---- a reaction
    pub reacts-same : (most : ℕ) (pc mode : ℕ) (u : Option Future) (n : Tally) (s : Store) → (Good M W aside) s
        → Same shown (Good M W aside) (exec (store_ops b aside) b.begins (code_of M) most (drop pc (code_of M)) mode u n s) (exec (stand_ops M) (begins_of M) (code_of M) most (drop pc (code_of M)) mode u n (shown s))
    reacts-same most pc mode u n s good =
        runs shown (Good M W aside) (store_ops b aside) (stand_ops M) (Sane M) keeps b.begins (begins_of M) (board-begin M) (code_of M) (code-sane M W) most (drop pc (code_of M)) mode u n s
        (all_drop (Sane M) pc (code_of M) (code-sane M W)) good
