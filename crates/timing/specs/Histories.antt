-- Whatever is called, in any order: a dock on the module's code answers and stands as the rules say.
use Rattle.std.specs.Prelude.{ℕ, ◌≡◌, List, map}
use Rattle.std.proofs.Math.Option.{Option, none, some}
use Rattle.model.specs.Modules.{Module}
use Rattle.timing.specs.Accepted.{Accepted}
use Rattle.timing.specs.Calls.{Ask, View, Said, remains, replies, comes}
use Rattle.machine.specs.Instructions as E
use Rattle.machine.specs.Instructions.{Res, ok, bad, Halt, Tally}
use Rattle.timing.specs.Syncs.{Sync}
use Rattle.timing.specs.Outs.{Quiet}
use Rattle.timing.specs.Docks.{reply_to, Dock, Told, answers, leaves}

-- the fault that stopped it: 40
abbrev pub stop_of : Option ℕ → Option E.Fault
stop_of none = none
stop_of (some task) = some (E.late task)

module _ (M : Module) where
  -- The dock that shows what the rules say, waiting at pc.
  abbrev pub shadow : View → ℕ → Dock
  shadow v pc = record { clock = v.clock; remaining = remains M v.place; mode = v.place.mode; pc = pc; store = v.place.store; stopped = stop_of v.stopped }

  -- The invariant between calls.
  pub record Waiting (v : View) (pc : ℕ) : Type 0 where
    pub sync : Sync M v.place.mode v.place.time pc
    pub quiet : Quiet M v.place.mode v.place.time v.place.store

  -- One call on both sides.
  pub record Both (a : Said) (b : Told) : Type 0 where
    pub pc : ℕ
    pub says : reply_to b.answer ≡ some a.reply
    pub shows : b.dock ≡ shadow a.view pc
    pub waiting : Waiting a.view pc

module _ (M : Module) (W : Accepted M) where
  -- What a history shows: the same answers, and the dock that shows the rules' view.
  pub record Alike (asks : List Ask) (v : View) (d : Dock) : Type 0 where
    pub same-answers : map reply_to (answers M asks d) ≡ map some (replies M asks v)
    pub pc : ℕ
    pub same_view : leaves M asks d ≡ shadow M (comes M asks v) pc
    pub waiting : Waiting M (comes M asks v) pc
