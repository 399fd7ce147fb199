-- Which tasks the machine releases (document 01, 'What time does'): at the start those that wait then, at a reaction those that wait now and did not before.
use Rattle.std.specs.Prelude.{ℕ, ◌<◌, ◌≡◌, refl, ◌≢◌, Bool, true, false, ◌&&◌, ◌||◌, not, List, [], ◌∷◌, ◌++◌, length, get_or, set, eqb}
use Rattle.std.proofs.Common.{arith, sym, ◌∙◌, ap, subst, length-set, get_or-set_same, get_or-set_other, eqb-true}
use Rattle.std.proofs.Math.Decide.{ℕ_discrete}
use Rattle.std.proofs.Math.Option.{some}
use Rattle.std.proofs.lemmas.Bool.{eqb-false}
use Rattle.model.specs.Modules.{Module, Task, Act, Call}
use Rattle.timing.specs.SlotLaws.{Each}
use Rattle.timing.specs.Rules.{Standing, idle, ready, running, done, Store, well, sensed, terminations}
use Rattle.timing.specs.Calls.{Ask, reacted, View, beginning, ask, started, comes}
use Rattle.timing.specs.Accepted.{Accepted}
use Rattle.timing.specs.Orders.{among}
use Rattle.timing.specs.Standings.{split, terminated, beginning-idle}
use Rattle.timing.specs.Ticks.{meaning, next_time}
use Rattle.timing.specs.Lates.{ending_next}
use Rattle.timing.specs.Changes.{Ending, not-out, handed-over, ending}
use Rattle.timing.specs.Tasks.{Idle, AllIdle}
use Rattle.timing.specs.PortLaws.{mapped}
use Rattle.timing.specs.Released.{readied, beginning_there, updated_at, releases-ready, released-only, start-came}
use Rattle.timing.specs.Held.{Held}
use Rattle.timing.proofs.Held.{start-held, held-comes, next-held}
use Rattle.timing.proofs.Counts.{terms-count, begun-known, same-many, start-many}
use Rattle.timing.specs.Docks.{reply_to}
use Rattle.bridge.specs.Docked.{asks}
use Rattle.bridge.specs.Faithful.{Started}
use Rattle.bridge.specs.Sources.{each_in}
use Rattle.bridge.specs.Promises.{standing_in, machine_at, view_at}

-- released and not yet handed out
abbrev pub waits : Standing → Bool
waits idle = false
waits ready = true
waits running = false
waits (done results) = false
