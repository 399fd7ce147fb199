-- The machine and the timing rules side by side: at every place of a history, and over one call more.
use Rattle.std.specs.Prelude.{ℕ, refl, Bool, true, false, cond, List, [], ◌∷◌, ◌++◌}
use Rattle.std.proofs.Common.{arith, sym, ◌∙◌, ap, subst}
use Rattle.std.proofs.Math.Path.{◌≡◌}
use Rattle.std.proofs.Math.Option.{Option, none, some}
use Rattle.model.specs.Clock.{Instant, early, due, missed, judged, elapsed, fits}
use Rattle.model.specs.Modules.{Module}
use Rattle.timing.specs.Rules as R
use Rattle.timing.specs.Calls as C
use Rattle.timing.specs.Calls.{Ask, Reply, reacted, fell, View, ask, started, comes, remains}
use Rattle.timing.specs.Accepted.{Accepted}
use Rattle.timing.specs.Docks.{Answer, ticking, turning, finishing, reply_to, Dock, asked}
use Rattle.timing.specs.Histories.{shadow, Waiting, Both}
use Rattle.timing.proofs.Histories.{call-both, start-both}
use Rattle.machine.specs.declared.Reaction.{Reaction}
use Rattle.machine.specs.declared.Reaction.TheVariants.{Obeyed, Idle, Refused, Late, Fault}
use Rattle.machine.specs.Boards.{Board}
use Rattle.machine.specs.Instructions as E
use Rattle.machine.specs.Instructions.{Res, ok, bad, Halt, Tally}
use Rattle.machine.specs.Store.{Store, reaction}
use Rattle.machine.specs.Calls as K
use Rattle.machine.specs.Calls.{State, Ticked, stopped_by, faulted, came_to, sensed, reading_types, by_instant, tick}
use Rattle.bridge.specs.Docked.{Asked, asks, dock_of, Held}
use Rattle.bridge.specs.Faithful.{machine_leaves, Started, begun}

-- ---- which answer a reply stands for

-- ---- side by side

module _ (M : Module) (W : Accepted M) where
  -- a machine that shows what the rules show
  pub record Beside (m : State) (v : View) : Type 0 where
    pub pc : ℕ
    pub shown : dock_of M m ≡ shadow M v pc
    pub waiting : Waiting M v pc
    pub held : Held M m

  -- a call on both sides: the answer is the reply, and they stay side by side
  pub record Called (a : Ask) (m : State) (v : View) : Type 0 where
    pub says : reply_to (asks M a m).answer ≡ some (ask M a v).reply
    pub then : Beside (asks M a m).state (ask M a v).view
