-- Histories that meet the premises of the theorems on histories: computed, so that none of them speaks of nothing.
use Rattle.std.specs.Prelude.{ℕ, ◌+◌, ◌≡◌, refl, Bool, true, List, [], ◌∷◌, map, eqb}
use Rattle.std.proofs.Common.{arith}
use Rattle.std.proofs.Math.Option.{none}
use Rattle.model.specs.Bytes.{bytes}
use Rattle.model.specs.Values.{int}
use Rattle.model.specs.Clock.{fits}
use Rattle.model.specs.Modules.{Module, port_starts}
use Rattle.timing.specs.Slots.{spans}
use Rattle.timing.specs.Rules.{next_instant, entered, instant}
use Rattle.timing.specs.Calls.{Ask, tick, next, finish, ask, started}
use Rattle.timing.specs.Lates.{Prompt}
use Rattle.timing.specs.Causes.{Vary, Calm, NoTrace}
use Rattle.timing.proofs.Causes.{no-trace}
use Rattle.timing.specs.Orders.{dues, due_log, Keeps, SameRun}
use Rattle.timing.proofs.OrderFree.{order-free}

-- two tasks, one of them twice a period, and an update
two_tasks : Module
two_tasks =
    record {
      name = bytes "M";
      sensors = record { name = bytes "bikes"; type = int; getter = bytes "g" } ∷ [];
      actuators = record { name = bytes "sign"; type = int; start = 0; setter = bytes "f" } ∷ [];
      tasks = record { name = bytes "count"; function = bytes "c"; inputs = int ∷ []; outputs = record { name = bytes "o"; type = int; start = 10 } ∷ [] }
          ∷ record { name = bytes "watch"; function = bytes "w"; inputs = int ∷ []; outputs = record { name = bytes "o"; type = int; start = 20 } ∷ [] }
          ∷ [];
      guards = [];
      modes = record {
        name = bytes "m";
        start = true;
        period = 10;
        calls = record { frequency = 1; guard = none; what = record { task = 0; sources = 0 ∷ [] } } ∷ record { frequency = 2; guard = none; what = record { task = 1; sources = 0 ∷ [] } } ∷ [];
        updates = record { frequency = 1; guard = none; what = record { source = 3; target = 1 } } ∷ [];
        switches = [];
      } ∷ [];
    }

-- instant n reads 6 + n, the start 6
readings : ℕ → List ℕ
readings n = (n + 6) ∷ []

-- a task that was released at instant n gives 2 n + its number
results : ℕ → ℕ → List ℕ
results n task = (n + n + task) ∷ []

abbrev ticked : ℕ → ℕ → Ask
ticked count word = tick count (int ∷ []) (word ∷ [])

abbrev gives : ℕ → ℕ → Ask
gives task word = finish task (int ∷ []) (word ∷ [])

early : List Ask
early = next ∷ gives 0 0 ∷ next ∷ gives 1 1 ∷ ticked 5 7 ∷ next ∷ gives 1 3 ∷ ticked 10 8 ∷ []

-- idle ticks, refused calls, a missed instant; task 1 first, and task 0 only after the first due tick
tardy : List Ask
tardy =
    ticked 2 99 ∷ gives 1 4 ∷ next ∷ next ∷ ticked 3 99 ∷ gives 1 1 ∷ ticked 6 99 ∷ ticked 5 7
    ∷ ticked 7 0 ∷ next ∷ gives 1 3 ∷ gives 0 0 ∷ next ∷ ticked 10 8 ∷ next ∷ []

keeps-early : Keeps two_tasks readings results early (started two_tasks 0 (6 ∷ [])) 0 (λ j. 0)
unfolding two_tasks readings results early started ask entered instant next_instant spans port_starts fits
keeps-early = (tt, (refl, (tt, (refl, (refl, (tt, (refl, (refl, tt))))))))

keeps-tardy : Keeps two_tasks readings results tardy (started two_tasks 0 (6 ∷ [])) 0 (λ j. 0)
unfolding two_tasks readings results tardy started ask entered instant next_instant spans port_starts fits
keeps-tardy = (tt, (tt, (tt, (tt, (tt, (refl, (tt, (refl, (tt, (tt, (refl, (refl, (tt, (refl, (tt, tt)))))))))))))))

same-dues : dues two_tasks early (started two_tasks 0 (6 ∷ [])) ≡ dues two_tasks tardy (started two_tasks 0 (6 ∷ []))
unfolding two_tasks early tardy started ask entered instant next_instant spans port_starts fits
same-dues = refl

-- they show the same after each due tick
alike : SameRun two_tasks (started two_tasks 0 (6 ∷ [])) early tardy
alike = order-free two_tasks readings results 0 (6 ∷ []) early tardy keeps-early keeps-tardy same-dues

-- the tasks released at each: task 1 at the first, both at the second
released-then : map (λ shown. shown.released) (due_log two_tasks tardy (started two_tasks 0 (6 ∷ []))) ≡ (1 ∷ []) ∷ (0 ∷ 1 ∷ []) ∷ []
unfolding two_tasks tardy started ask entered instant next_instant spans port_starts fits
released-then = refl

-- every task finished in time
prompt-early : Prompt two_tasks early (started two_tasks 0 (6 ∷ []))
unfolding two_tasks early started ask entered instant next_instant spans port_starts fits
prompt-early = (tt, (tt, (tt, (tt, ((λ d. (refl, tt)), (tt, (tt, ((λ d. (refl, (refl, tt))), tt))))))))

-- task 0's result shows nowhere at 5, where only a slot of task 1 ends
only_first : ℕ → Bool
only_first j = eqb j 0

up-to-five : ℕ → List Ask
up-to-five word = next ∷ gives 0 word ∷ next ∷ gives 1 1 ∷ ticked 5 7 ∷ []

vary-then : Vary two_tasks only_first (up-to-five 50) (up-to-five 77)
unfolding only_first up-to-five two_tasks fits
vary-then = (tt, ((refl, refl, λ h. let z : ◌≡◌ {A = ℕ} 0 1 = cc in absurd (omega arith)), (tt, ((refl, refl, λ h. refl), ((refl, refl, refl), tt)))))

calm-then : Calm two_tasks only_first (up-to-five 50) (started two_tasks 0 (6 ∷ []))
unfolding only_first up-to-five two_tasks started ask entered instant next_instant spans port_starts fits
calm-then = (tt, (tt, (tt, (tt, ((λ h. (refl, tt)), tt)))))

no-trace-then : NoTrace two_tasks only_first (up-to-five 50) (up-to-five 77) (started two_tasks 0 (6 ∷ [])) (started two_tasks 0 (6 ∷ []))
no-trace-then = no-trace two_tasks only_first (up-to-five 50) (up-to-five 77) (started two_tasks 0 (6 ∷ [])) vary-then calm-then
