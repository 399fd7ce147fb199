-- The order of finishing does not show (document 02, R-13), for the machine: what it shows rests on the readings of the due ticks and on the results, not on when between two due ticks a task is handed out and finished.
use Rattle.std.specs.Prelude.{ℕ, ◌≡◌, refl, List, [], ◌∷◌, map}
use Rattle.std.proofs.Common.{sym, ◌∙◌, ap, ap₂}
use Rattle.std.proofs.Math.Option.{Option, none, some}
use Rattle.model.specs.Modules.{Module}
use Rattle.timing.specs.Rules.{Standing}
use Rattle.timing.specs.Calls.{Ask, Reply, waits, reacted, refused, fell, given, taken, View, ask, started, comes}
use Rattle.timing.specs.Accepted.{Accepted}
use Rattle.timing.specs.Standings.{which_out}
use Rattle.timing.specs.Orders.{Shown, showing, logged, dues, due_log, Keeps}
use Rattle.timing.proofs.OrderFree.{order-free}
use Rattle.timing.specs.Docks.{reply_to, Dock}
use Rattle.machine.specs.Calls.{State}
use Rattle.bridge.specs.Docked.{asks, dock_of}
use Rattle.bridge.specs.Faithful.{machine_leaves, Started, begun}
use Rattle.bridge.specs.Beside.{Beside}
use Rattle.bridge.specs.Promises.{machine_at}

-- what a machine shows: mode, ports, and which tasks are out
pub record Seen : Type 0 where
  pub mode : ℕ
  pub ports : List ℕ
  pub out : List ℕ

abbrev pub plain : Shown → Seen
plain s = record { mode = s.mode; ports = s.ports; out = s.out }

-- what is seen behind each reaction
abbrev pub noted_by : Reply → Seen → List Seen → List Seen
noted_by waits now log = log
noted_by reacted now log = now ∷ log
noted_by (refused number) now log = log
noted_by (fell task) now log = log
noted_by (given task) now log = log
noted_by taken now log = log

abbrev pub noted : Option Reply → Seen → List Seen → List Seen
noted none now log = log
noted (some reply) now log = noted_by reply now log

module _ (M : Module) where
  abbrev pub seen_in : State → Seen
  seen_in m = record { mode = m.mode; ports = (dock_of M m).store.ports; out = which_out (dock_of M m).store.tasks }

  -- what a machine shows behind each of its reactions
  abbrev pub machine_log : List Ask → State → List Seen
  machine_log [] m = []
  machine_log (a ∷ rest) m = noted (reply_to (asks M a m).answer) (seen_in (asks M a m).state) (machine_log rest (asks M a m).state)

module _ (M : Module) (W : Accepted M) where
  module _ (readings : ℕ → List ℕ) (results : ℕ → ℕ → List ℕ) (count : ℕ) (types₀ words₀ : List ℕ) (S : Started M W count types₀ words₀) where
    pub record SameShown (first other : List Ask) : Type 0 where
      pub same-now : seen_in M (machine_at M W count types₀ words₀ S first) ≡ seen_in M (machine_at M W count types₀ words₀ S other)
      pub same_log : machine_log M first (begun M W count types₀ words₀) ≡ machine_log M other (begun M W count types₀ words₀)
