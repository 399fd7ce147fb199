-- The module of an accepted text is within the rooms, so that the arrays behind its last item are its table's.
use Rattle.std.specs.Prelude.{ℕ, zero, suc, ◌+◌, ◌*◌, ◌≤◌, ◌<◌, ◌≡◌, refl, true, false, List, [], ◌∷◌, ◌++◌, map, length, get_or}
use Rattle.std.proofs.Common.{arith, sym, ap, ◌∙◌, subst, append-nil, length-append, of_z}
use Rattle.std.proofs.Math.Option.{Option, none, some}
use Rattle.std.proofs.lemmas.List.{length-map}
use Rattle.std.specs.Int.{w32}
use Rattle.std.proofs.Math.Facts.{Fits-of_z}
use Rattle.model.specs.declared.Value.TheVariants.{Int, Flag}
use Rattle.model.specs.declared.Operand.{Operand}
use Rattle.model.specs.declared.Operand.TheVariants as O
use Rattle.model.specs.declared.Function.{Function}
use Rattle.model.specs.declared.Function.TheVariants.{IsTrue, IsFalse, Less, Equal}
use Rattle.model.specs.declared.Guard.{Guard}
use Rattle.model.specs.Bytes.{same, place_in}
use Rattle.model.specs.Modules.{Module, Task, no_task, Act, Call, Update, Mode, each}
use Rattle.model.specs.Instructions.{Driver, updates, releases, terminates}
use Rattle.text.specs.Items.{syntax_of}
use Rattle.timing.specs.SlotLaws.{Each, each-zip}
use Rattle.timing.specs.Accepted.{ports, Guarded, OperandFits, SecondFits, GuardFits, CallFits, UpdateFits, Leads, Accepted}
use Rattle.timing.specs.Accepted as A
use Rattle.timing.specs.Code.{terminates_from, mode_drivers}
use Rattle.prescribed.specs.Tables.{argument_of, guard_row}
use Rattle.layout.specs.Plain.{driver_cells, argument_cells, guard_cells}
use Rattle.emit.specs.Rows.{map_act}
use Rattle.refusals.specs.Verdicts.{Fine}
use Rattle.refusals.specs.Activities.{activities_in}
use Rattle.refusals.specs.Texts.{verdict_of, module_of}
use Rattle.accepted.specs.Lists.{each_append, each_map, each-mapped, each_at}
use Rattle.accepted.specs.CodeFits.{every-mode}
use Rattle.accepted.specs.NamesFit.{ModeNames, names-fit}
use Rattle.accepted.specs.TaskPorts.{tasks-told, told-few-inputs}
use Rattle.accepted.specs.GuardRoom.{activities-room}
use Rattle.accepted.specs.Accepts.{accepted}
use Rattle.accepted.specs.Folds.{all_rows, last_env}
use Rattle.sheets.specs.Sheets.{Sheet}
use Rattle.sheets.specs.Held.{drivers_in, acts_of, acts_in, act_cells, guard_code, Fits, ModeFits, Within, PlansHold}
use Rattle.sheets.specs.Pieces.{fore_drivers, updates_of, releases_of, calls_of, renewals_of, drivers-outside, acts-outside, length-terminates}
use Rattle.sheets.specs.Frequencies.{Rare, RareIn, rare}
use Rattle.sheets.specs.Whole.{Whole, plans-end}

abbrev Small : ℕ → Type 0
Small cell = cell ≤ 4294967295

-- ---- as many rows as activities

busy-drivers : (ms : List Mode) → Each (λ m. activities_in m ≤ 32) ms → length (each mode_drivers ms) ≤ 32 * length ms
busy-drivers [] h = omega arith
busy-drivers (m ∷ ms) h =
    let n = busy-drivers ms h.1 in
    let b = h.0 in
    omega (arith, n, b, length-append (mode_drivers m) (each mode_drivers ms), length-append (updates_of m) (releases_of m), length-map m.updates (λ a. updates a.what.source a.what.target), length-map m.calls (λ a. releases a.what.task a.what.sources))

busy-acts : (ms : List Mode) → Each (λ m. activities_in m ≤ 32) ms → length (each acts_of ms) ≤ 32 * length ms
busy-acts [] h = omega arith
busy-acts (m ∷ ms) h =
    let n = busy-acts ms h.1 in
    let b = h.0 in
    omega (arith, n, b, length-append (acts_of m) (each acts_of ms), length-append (calls_of m) (renewals_of m ++ m.switches), length-append (renewals_of m) m.switches, length-map m.calls (map_act (λ c. c.task)), length-map m.updates (map_act {B = ℕ} (λ u. 0)))

-- ---- each row fits

abbrev DriverFits : Driver → Type 0
DriverFits d = Fits 12 (driver_cells d)

abbrev ActFits : Act ℕ → Type 0
ActFits a = Fits 3 (act_cells a)

terminates-fit : (k : ℕ) (tasks : List Task) → k + length tasks ≤ 32 → Each DriverFits (terminates_from k tasks)
terminates-fit k [] l = tt
terminates-fit k (t ∷ tasks) l = (record { short = omega arith; small = (omega arith, (omega arith, tt)) }, terminates-fit (k + 1) tasks (omega arith))

guard_small : (guard : Option ℕ) (n : ℕ) → ((g : ℕ) → guard ≡ some g → g < n) → n ≤ 256 → Small (guard_code guard)
guard_small none n h l = omega arith
guard_small (some g) n h l = let k = h g refl in omega arith

module _ (M : Module) (W : Accepted M) (few : Each (λ t. length t.inputs ≤ 8) M.tasks) where
  release-fits : (a : Act Call) → CallFits M a → DriverFits (releases a.what.task a.what.sources)
  release-fits a f =
      let n = W.few-tasks in
      let p = W.few-ports in
      let m = each_at (λ (t : Task). length t.inputs ≤ 8) no_task M.tasks a.what.task few f.task in
      let e = f.as_many in
      let t = f.task in
      record {
        short = omega arith;
        small = (omega arith, (omega arith, (omega arith, each_map (λ q. q < ports M) Small (λ q l. omega arith) a.what.sources f.sources)));
      }

  update-fits : (a : Act Update) → UpdateFits M a → DriverFits (updates a.what.source a.what.target)
  update-fits a f =
      let p = W.few-ports in
      let x = f.source in
      let y = f.target in
      record { short = omega arith; small = (omega arith, (omega arith, (omega arith, (omega arith, tt)))) }

  drivers-fit : (ms : List Mode) → Each (A.ModeFits M) ms → Each DriverFits (each mode_drivers ms)
  drivers-fit [] h = tt
  drivers-fit (m ∷ ms) h =
      each_append DriverFits (mode_drivers m) (each mode_drivers ms)
      (each_append DriverFits (updates_of m) (releases_of m)
      (each-mapped DriverFits (λ (a : Act Update). updates a.what.source a.what.target) m.updates
      (each_map (UpdateFits M) (λ a. DriverFits (updates a.what.source a.what.target)) update-fits m.updates h.0.updates))
      (each-mapped DriverFits (λ (a : Act Call). releases a.what.task a.what.sources) m.calls
      (each_map (CallFits M) (λ a. DriverFits (releases a.what.task a.what.sources)) release-fits m.calls h.0.calls)))
      (drivers-fit ms h.1)

  act-fits : {A : Type 0} (number : A → ℕ) (a : Act A) → Rare a → Guarded M a → number a.what ≤ 4294967295 → ActFits (map_act number a)
  act-fits number a r g n =
      let f : a.frequency ≤ 64 = r in
      record { short = omega arith; small = (omega arith, (guard_small a.guard (length M.guards) g W.few-guards, (n, tt))) }

  call-act : (a : Act Call) → CallFits M a → Rare a → ActFits (map_act (λ c. c.task) a)
  call-act a f r = let n = W.few-tasks in let t = f.task in act-fits (λ c. c.task) a r f.guard (omega arith)

  update-act : (a : Act Update) → UpdateFits M a → Rare a → ActFits (map_act (λ u. 0) a)
  update-act a f r = act-fits (λ u. 0) a r f.guard (omega arith)

  switches-fit : (period : ℕ) (calls : List (Act Call)) (list : List (Act ℕ)) → Each (λ a. Guarded M a) list → Each (Leads period (length M.modes) calls) list → Each Rare list → Each ActFits list
  switches-fit period calls [] g l r = tt
  switches-fit period calls (a ∷ list) g l r =
      let n = W.few-modes in
      let t = l.0.target in
      (act-fits (λ target. target) a r.0 g.0 (omega arith), switches-fit period calls list g.1 l.1 r.1)

  acts-fit : (ms : List Mode) → Each (A.ModeFits M) ms → Each RareIn ms → Each ActFits (each acts_of ms)
  acts-fit [] h r = tt
  acts-fit (m ∷ ms) h r =
      each_append ActFits (acts_of m) (each acts_of ms)
      (each_append ActFits (calls_of m) (renewals_of m ++ m.switches)
      (each-mapped ActFits (map_act (λ c. c.task)) m.calls (each-zip (CallFits M) Rare (λ a. ActFits (map_act (λ c. c.task) a)) call-act m.calls h.0.calls r.0.calls))
      (each_append ActFits (renewals_of m) m.switches
      (each-mapped ActFits (map_act (λ u. 0)) m.updates (each-zip (UpdateFits M) Rare (λ a. ActFits (map_act (λ u. 0) a)) update-act m.updates h.0.updates r.0.updates))
      (switches-fit m.period m.calls m.switches h.0.guarded h.0.leads r.0.switches)))
      (acts-fit ms h.1 r.1)

  -- ---- guards

  argument-fits : (o : Operand) → OperandFits M o → Fits 2 (argument_cells (argument_of o))
  argument-fits (O.Port p) h = let n = W.few-ports in record { short = omega arith; small = (omega arith, (omega arith, tt)) }
  argument-fits (O.Fixed (Int number)) h = let f : of_z w32 number < 4294967296 = (Fits-of_z h).fits in record { short = omega arith; small = (omega arith, (omega arith, tt)) }
  argument-fits (O.Fixed (Flag true)) h = record { short = omega arith; small = (omega arith, (omega arith, tt)) }
  argument-fits (O.Fixed (Flag false)) h = record { short = omega arith; small = (omega arith, (omega arith, tt)) }

  one-fits : (n : ℕ) (a : List ℕ) → n ≤ 4 → Fits 2 a → Fits 6 (n ∷ 1 ∷ (a ++ []))
  one-fits n a l f =
      let s = f.short in
      record { short = omega (arith, length-append a []); small = (omega arith, (omega arith, each_append Small a [] f.small tt)) }

  two-fit : (n : ℕ) (a b : List ℕ) → n ≤ 4 → Fits 2 a → Fits 2 b → Fits 6 (n ∷ 2 ∷ (a ++ (b ++ [])))
  two-fit n a b l f g =
      let s = f.short in
      let t = g.short in
      record { short = omega (arith, length-append a (b ++ []), length-append b []); small = (omega arith, (omega arith, each_append Small a (b ++ []) f.small (each_append Small b [] g.small tt))) }

  guard-by : (f : Function) (a b : Operand) → OperandFits M a → SecondFits M f b → Fits 6 (guard_cells (guard_row (record { function = f; first = a; second = b })))
  unfolding place_in same
  guard-by IsTrue a b p q = one-fits 0 (argument_cells (argument_of a)) (omega arith) (argument-fits a p)
  guard-by IsFalse a b p q = one-fits 1 (argument_cells (argument_of a)) (omega arith) (argument-fits a p)
  guard-by Less a b p q = two-fit 2 (argument_cells (argument_of a)) (argument_cells (argument_of b)) (omega arith) (argument-fits a p) (argument-fits b q)
  guard-by Equal a b p q = two-fit 3 (argument_cells (argument_of a)) (argument_cells (argument_of b)) (omega arith) (argument-fits a p) (argument-fits b q)

  guards-fit : Each (λ g. Fits 6 (guard_cells (guard_row g))) M.guards
  guards-fit = each_map (GuardFits M) (λ g. Fits 6 (guard_cells (guard_row g))) (λ g h. guard-by g.function g.first g.second h.first h.second) M.guards W.guards

-- ---- the whole

pub accepted-within : (s : List ℕ) → syntax_of s ≡ none → verdict_of s ≡ Fine → Within false (last_env s).draft
accepted-within s e v =
    let draft = (last_env s).draft in
    let M = module_of s in
    let W = accepted s e v in
    let busy = activities-room s e v in
    let few = told-few-inputs 0 (all_rows s) M.tasks (tasks-told s e v) in
    let fit = every-mode M M.modes W.modes in
    let t = W.few-tasks in
    let m = W.few-modes in
    let bd = busy-drivers M.modes busy in
    let ba = busy-acts M.modes busy in
    let n : length (drivers_in false draft) ≤ 288 =
    omega (arith, ap length (drivers-outside draft), length-append (terminates_from 0 M.tasks) (each mode_drivers M.modes), length-terminates 0 M.tasks) in
    let k : length (acts_in false draft) ≤ 256 = omega (arith, ap length (acts-outside draft)) in
    record {
      few-drivers = n;
      few-acts = k;
      few-guards = W.few-guards;
      few-modes = W.few-modes;
      drivers =
          subst (Each DriverFits) (sym (drivers-outside draft))
          (each_append DriverFits (terminates_from 0 M.tasks) (each mode_drivers M.modes) (terminates-fit 0 M.tasks (omega arith)) (drivers-fit M W few M.modes fit));
      acts = subst (Each ActFits) (sym (acts-outside draft)) (acts-fit M W few M.modes fit (rare s e v));
      guards = guards-fit M W few;
      modes = each-zip ModeNames (A.ModeFits M) ModeFits (λ x p q. let l = q.period in record { name = p.short; period = omega arith }) M.modes (names-fit s e v).modes-named fit;
    }

-- what the arrays hold behind the last item of an accepted text
pub accepted-whole : (s : List ℕ) → syntax_of s ≡ none → verdict_of s ≡ Fine → (h : Sheet) → PlansHold s false (last_env s).draft h → Whole (module_of s) h
accepted-whole s e v h p =
    let W = accepted s e v in
    let t = W.few-tasks in
    plans-end (last_env s).draft h p (accepted-within s e v) (omega arith) (activities-room s e v)
