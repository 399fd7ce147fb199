-- Laws: what one instruction of each opcode does (document 01, 'The code' and 'The machine'), for any table, any store and whatever was obeyed before it.
use Rattle.std.specs.Prelude.{ℕ, suc, ◌+◌, ◌*◌, ◌≤◌, ◌<◌, ◌≡◌, true, false, cond, length, get_or, set, drop}
use Rattle.std.proofs.Math.Path.{refl, ap}
use Rattle.std.proofs.Common.{sym, ◌∙◌, ap₂, add-one, drop_of_length-le, drop-cons}
use Rattle.std.proofs.Math.Bool.{Bool}
use Rattle.std.proofs.Math.Option.{Option, none, some}
use mathlib.Core.List.{List, ◌∷◌}
use Rattle.model.specs.Rooms.{port_room}
use Rattle.model.specs.Values.{holds, no_guard}
use Rattle.model.specs.Modules.{place, copy_to}
use Rattle.model.specs.Instructions.{Instr, nop, future, call, release, iff, jump, return, switch, Driver, updates, releases, terminates, no_driver}
use Rattle.machine.specs.Words.{has, joined, parted}
use Rattle.machine.specs.Boards.{Board}
use Rattle.machine.specs.Instructions.{late, wild, astray, clash, ok, Future, Tally, no_tally, counted, step, Run, fail, only, leave, go_on, exec}
use Rattle.machine.specs.Store.{Store, part, lot_of, driven, ended, ending_by, released, store_ops, reaction}
use Rattle.machine.specs.Calls.{State, came_to, sensed, reacted}

-- A reaction under way: the place of the next instruction, the mode, the future noted so far, what is counted so far, the store.
pub record Point : Type 0 where
  pub pc : ℕ
  pub mode : ℕ
  pub future : Option Future
  pub tally : Tally
  pub store : Store

-- The instruction at a point's place.
pub record At (b : Board) (p : Point) (i : Instr) : Type 0 where
  pub inside : p.pc < length b.code
  pub is : get_or b.code p.pc return ≡ i

-- The instruction at a point's place calls this driver.
pub record Calls (b : Board) (p : Point) (d : Driver) : Type 0 where
  pub driver : ℕ
  pub at : At b p (call driver)
  pub is : get_or b.drivers driver no_driver ≡ d

module _ (b : Board) (aside : List ℕ) where
  -- how a reaction ends that goes on from a point with at most `most` instructions
  abbrev pub goes : ℕ → Point → Run Store
  goes most p = exec (store_ops b aside) b.begins b.code most (drop p.pc b.code) p.mode p.future p.tally p.store

  -- A reaction begins with no future and nothing counted, and may obey as many instructions as the code holds.
  pub reaction-begins : (mode pc : ℕ) (s : Store) → reaction b aside mode pc s ≡ goes (length b.code) (record { pc = pc; mode = mode; future = none; tally = no_tally; store = s })
  unfolding reaction
  reaction-begins mode pc s = refl

  -- Where all that the budget allows is obeyed: fault 41.
  pub obeys-no-more : (p : Point) → goes 0 p ≡ fail wild
  unfolding exec
  obeys-no-more p = refl

  -- Past the end of the code: fault 41.
  pub obeys-past-end : (most : ℕ) (p : Point) → length b.code ≤ p.pc → goes (suc most) p ≡ fail wild
  unfolding exec
  obeys-past-end most p past = rw (drop_of_length-le b.code past) refl

  module _ (most : ℕ) (p : Point) where
    abbrev run : List Instr → Run Store
    run rest = exec (store_ops b aside) b.begins b.code (suc most) rest p.mode p.future p.tally p.store

    -- the code from the point on: its instruction, and what stands behind it
    here : (i : Instr) → At b p i → goes (suc most) p ≡ run (i ∷ drop (p.pc + 1) b.code)
    here i at = ap run (drop-cons b.code p.pc return at.inside ∙ ap₂ (λ (j : Instr) (n : ℕ). j ∷ drop n b.code) at.is (sym (add-one p.pc)))

    -- 0 nop marker: on to the next instruction.
    pub obeys-nop : (marker : ℕ) → At b p (nop marker)
        → goes (suc most) p ≡ goes most (record { pc = p.pc + 1; mode = p.mode; future = p.future; tally = step p.tally; store = p.store })
    unfolding exec
    obeys-nop marker at = here (nop marker) at

    -- 1 future pc, delay: noted. A second future: fault 42.
    pub obeys-future : (pc delay : ℕ) → At b p (future pc delay)
        → (p.future ≡ none → goes (suc most) p ≡ goes most (record { pc = p.pc + 1; mode = p.mode; future = some (record { pc = pc; delay = delay }); tally = step p.tally; store = p.store }))
        × ((earlier : Future) → p.future ≡ some earlier → goes (suc most) p ≡ fail astray)
    unfolding exec
    obeys-future pc delay at =
        let next : Run Store = goes most (record { pc = p.pc + 1; mode = p.mode; future = some (record { pc = pc; delay = delay }); tally = step p.tally; store = p.store }) in
        (λ none_yet. here (future pc delay) at ∙ ap (λ (u : Option Future). only u next) none_yet, λ earlier noted. here (future pc delay) at ∙ ap (λ (u : Option Future). only u next) noted)

    -- what a call of a driver comes to
    driving : (d : Driver) → Calls b p d
        → goes (suc most) p
        ≡ go_on (driven b aside d p.store) (λ after. goes most (record { pc = p.pc + 1; mode = p.mode; future = p.future; tally = counted 0 (ending_by b aside d p.store) p.tally; store = after }))
    unfolding exec
    driving d calls =
        here (call calls.driver) calls.at
        ∙ ap (λ (x : Driver). go_on (driven b aside x p.store) (λ after. goes most (record { pc = p.pc + 1; mode = p.mode; future = p.future; tally = counted 0 (ending_by b aside x p.store) p.tally; store = after })))
        calls.is

    -- 2 call driver. Driver 3: the source port's word goes to the actuator's port.
    pub obeys-call-update : (source target : ℕ) → Calls b p (updates source target)
        → goes (suc most) p
        ≡ goes most (record {
          pc = p.pc + 1;
          mode = p.mode;
          future = p.future;
          tally = counted 0 0 p.tally;
          store = record { ports = set p.store.ports target (get_or p.store.ports source 0); out = p.store.out; waiting = p.store.waiting; finished = p.store.finished };
        })
    obeys-call-update source target calls = driving (updates source target) calls

    -- Driver 4: the source ports' words go to the task's inputs.
    pub obeys-call-inputs : (task : ℕ) (sources : List ℕ) → Calls b p (releases task sources)
        → goes (suc most) p
        ≡ goes most (record {
          pc = p.pc + 1;
          mode = p.mode;
          future = p.future;
          tally = counted 0 0 p.tally;
          store = record { ports = copy_to (lot_of b aside task).inputs sources p.store.ports; out = p.store.out; waiting = p.store.waiting; finished = p.store.finished };
        })
    obeys-call-inputs task sources calls = driving (releases task sources) calls

    -- Driver 5, of a task that is not out: nothing happens.
    -- Of one that is out and finished: its results go to its outputs, it is not out any more, and a termination is counted.
    -- Of one that is out and not finished: fault 40 with its number.
    pub obeys-call-terminate : (task : ℕ) → Calls b p (terminates task)
        → (has p.store.out task ≡ false → goes (suc most) p ≡ goes most (record { pc = p.pc + 1; mode = p.mode; future = p.future; tally = counted 0 0 p.tally; store = p.store }))
        × ((has p.store.out task ≡ true → has p.store.finished task ≡ true
        → goes (suc most) p
        ≡ goes most (record {
          pc = p.pc + 1;
          mode = p.mode;
          future = p.future;
          tally = counted 0 1 p.tally;
          store = record {
            ports = place (lot_of b aside task).outputs (part aside (task * port_room) (lot_of b aside task).results) p.store.ports;
            out = parted p.store.out task;
            waiting = p.store.waiting;
            finished = parted p.store.finished task;
          };
        }))
        × (has p.store.out task ≡ true → has p.store.finished task ≡ false → goes (suc most) p ≡ fail (late task)))
    obeys-call-terminate task calls =
        let does = driving (terminates task) calls in
        (λ away. does ∙ ap₂ by away refl, (λ out finished. does ∙ ap₂ by out finished, λ out unfinished. does ∙ ap₂ by out unfinished))
      where
        by : Bool → Bool → Run Store
        by out finished =
            go_on (ended b aside task p.store out finished) (λ after. goes most (record { pc = p.pc + 1; mode = p.mode; future = p.future; tally = counted 0 (cond out 1 0) p.tally; store = after }))

    -- 3 release task: it is out and waits to be handed out, and a release is counted. Of a task that is out: fault 43.
    pub obeys-release : (task : ℕ) → At b p (release task)
        → (has p.store.out task ≡ false
        → goes (suc most) p
        ≡ goes most (record {
          pc = p.pc + 1;
          mode = p.mode;
          future = p.future;
          tally = counted 1 0 p.tally;
          store = record { ports = p.store.ports; out = joined p.store.out task; waiting = joined p.store.waiting task; finished = p.store.finished };
        }))
        × (has p.store.out task ≡ true → goes (suc most) p ≡ fail clash)
    unfolding exec
    obeys-release task at = (λ away. here (release task) at ∙ ap by away, λ out. here (release task) at ∙ ap by out)
      where
        by : Bool → Run Store
        by out = go_on (released b aside task p.store out) (λ after. goes most (record { pc = p.pc + 1; mode = p.mode; future = p.future; tally = counted 1 0 p.tally; store = after }))

    -- 4 if guard, else pc: on to the next instruction if the guard holds by the ports as they are, else to the pc.
    pub obeys-if : (guard other : ℕ) → At b p (iff guard other)
        → goes (suc most) p
        ≡ goes most (record {
          pc = cond (holds p.store.ports (get_or b.guards guard no_guard)) (p.pc + 1) other;
          mode = p.mode;
          future = p.future;
          tally = step p.tally;
          store = p.store;
        })
    unfolding exec
    obeys-if guard other at = here (iff guard other) at ∙ go (holds p.store.ports (get_or b.guards guard no_guard))
      where
        from : List Instr → Run Store
        from rest = exec (store_ops b aside) b.begins b.code most rest p.mode p.future (step p.tally) p.store

        go : (holds : Bool) → from (cond holds (drop (p.pc + 1) b.code) (drop other b.code)) ≡ from (drop (cond holds (p.pc + 1) other) b.code)
        go true = refl
        go false = refl

    -- 5 jump pc: on at the pc.
    pub obeys-jump : (pc : ℕ) → At b p (jump pc) → goes (suc most) p ≡ goes most (record { pc = pc; mode = p.mode; future = p.future; tally = step p.tally; store = p.store })
    unfolding exec
    obeys-jump pc at = here (jump pc) at

    -- 6 return: the reaction ends with the future that is noted. With none: fault 42.
    pub obeys-return : At b p return
        → ((noted : Future) → p.future ≡ some noted → goes (suc most) p ≡ record { res = ok (record { mode = p.mode; future = noted; store = p.store }); tally = step p.tally })
        × (p.future ≡ none → goes (suc most) p ≡ fail astray)
    unfolding exec
    obeys-return at = (λ noted is. here return at ∙ ap by is, λ none-noted. here return at ∙ ap by none-noted)
      where
        by : Option Future → Run Store
        by u = leave u (step p.tally) p.mode p.store

    -- 7 switch mode: on at the mode's begin, in that mode.
    pub obeys-switch : (mode : ℕ) → At b p (switch mode)
        → goes (suc most) p ≡ goes most (record { pc = get_or b.begins mode 0; mode = mode; future = p.future; tally = step p.tally; store = p.store })
    unfolding exec
    obeys-switch mode at = here (switch mode) at

-- A start, and a due tick, is one reaction from the place at which the machine stands: the answer is what it counted, or its fault.
pub reacted-begins : (b : Board) (m : State) (count : ℕ) (words : List ℕ)
    → let run = goes b m.aside (length b.code) (record { pc = m.pc; mode = m.mode; future = none; tally = no_tally; store = sensed words m.store }) in
    reacted b m count words ≡ came_to m count run.tally run.res
unfolding reacted reaction
reacted-begins b m count words = refl
