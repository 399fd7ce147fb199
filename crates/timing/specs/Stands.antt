-- The machine's instructions over the rules' own store: tasks by their standings, drivers and guards of the module.
use Rattle.std.specs.Prelude.{ℕ, ◌≡◌, refl, Bool, true, false, cond, List, [], ◌∷◌, get_or, set}
use Rattle.model.specs.Values.{holds, no_guard}
use Rattle.model.specs.Modules.{Module, Act, Call, Update, copy_to}
use Rattle.model.specs.Instructions.{Driver, updates, releases, terminates, no_driver}
use Rattle.timing.specs.Rules as R
use Rattle.timing.specs.Rules.{Standing, idle, ready, running, done, Store, Outcome, well, late, inputs_of, passes}
use Rattle.timing.specs.Standings.{is_out}
use Rattle.timing.specs.Code.{drivers_of}
use Rattle.machine.specs.Instructions as E
use Rattle.machine.specs.Instructions.{Res, ok, bad, clash, Ops}

-- what the rules say, as the machine's result
abbrev pub res_of : {A : Type 0} → Outcome A → Res A
res_of (well a) = ok a
res_of (late task) = bad (E.late task)

module _ (M : Module) where
  abbrev pub with_ports : Store → List ℕ → Store
  with_ports s ports = record { ports = ports; tasks = s.tasks }

  abbrev pub standing : Store → ℕ → Standing
  standing s task = get_or s.tasks task idle

  abbrev pub driven : Driver → Store → Res Store
  driven (updates source target) s = ok (with_ports s (set s.ports target (get_or s.ports source 0)))
  driven (releases task sources) s = ok (with_ports s (copy_to (inputs_of M task) sources s.ports))
  driven (terminates task) s = res_of (R.ended M task s (standing s task))

  abbrev pub ending_by : Driver → Store → ℕ
  ending_by (updates source target) s = 0
  ending_by (releases task sources) s = 0
  ending_by (terminates task) s = is_out (standing s task)

  abbrev pub begun_by : ℕ → Store → Standing → Res Store
  begun_by task s idle = ok (record { ports = s.ports; tasks = set s.tasks task ready })
  begun_by task s ready = bad clash
  begun_by task s running = bad clash
  begun_by task s (done results) = bad clash

  abbrev pub driver_at : ℕ → Driver
  driver_at driver = get_or (drivers_of M) driver no_driver

  abbrev pub stand_ops : Ops Store
  stand_ops =
      record {
        test = λ guard s. holds s.ports (get_or M.guards guard no_guard);
        drive = λ driver s. driven (driver_at driver) s;
        begin = λ task s. begun_by task s (standing s task);
        ending = λ driver s. ending_by (driver_at driver) s;
      }

  -- an activity after the other, each if its guard holds
  abbrev pub acts : {A : Type 0} → (A → Store → Store) → List (Act A) → Store → Store
  acts f [] s = s
  acts f (a ∷ rest) s = acts f rest (cond (passes M a.guard s.ports) (f a.what s) s)

  abbrev pub update : Update → Store → Store
  update u s = with_ports s (R.updated M u s.ports)

  pub acts-updates : (rest : List (Act Update)) (s : Store) → acts update rest s ≡ with_ports s (R.updates M rest s.ports)
  acts-updates [] s = refl
  acts-updates (a ∷ rest) s = go (passes M a.guard s.ports) (λ v. acts-updates rest v)
    where
      go : (y : Bool) → ((v : Store) → acts update rest v ≡ with_ports v (R.updates M rest v.ports))
          → acts update rest (cond y (update a.what s) s) ≡ with_ports s (R.updates M rest (cond y (R.updated M a.what s.ports) s.ports))
      go true on = on (update a.what s)
      go false on = on s

  pub acts-releases : (rest : List (Act Call)) (s : Store) → acts (R.begun M) rest s ≡ R.releases M rest s
  acts-releases [] s = refl
  acts-releases (a ∷ rest) s = acts-releases rest (cond (passes M a.guard s.ports) (R.begun M a.what s) s)
