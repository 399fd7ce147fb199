-- Behind the first mode's begin nothing is declared: from there on no item puts anything into the arrays.
use Rattle.std.specs.Prelude.{ℕ, zero, suc, ◌≡◌, refl, Bool, true, false, List, ltb}
use Rattle.std.proofs.Common.{arith, ltb-true}
use Rattle.std.proofs.Math.Option.{none}
use Rattle.text.specs.declared.State.{State}
use Rattle.text.specs.declared.State.TheVariants as Q
use Rattle.text.specs.declared.Item.{Item}
use Rattle.text.specs.declared.Item.TheVariants as I
use Rattle.text.proofs.PartsLaws.{unsaid}
use Rattle.text.specs.Items.{item_at, goes, onto, items_in, items_from, refused_or}
use Rattle.timing.specs.SlotLaws.{Each}
use Rattle.accepted.specs.Steps.{Comes, module-begins, module-section, constant, sensor, actuator, task-begins, task-section, input, output, task-ends, mode-begins, mode-section, activity, guard-alone, guard, guard-arg, guard-last, invoke-alone, invoke, arg, arg-last, update, switch, mode-ends, module-ends, text-ends, item-comes}
use Rattle.ports.specs.Boards.{placed_by}
use Rattle.ports.specs.Parts.{Still}

-- a state in a mode, behind one, or behind the module
abbrev pub late : State → Bool
late Q.Begin = false
late (Q.Module k) = ltb 5 k
late (Q.Task k) = false
late (Q.Mode k) = true
late (Q.Act k) = true
late (Q.Guarded k) = true
late (Q.GuardArgs k) = true
late Q.Args = true
late Q.Finish = true

-- an item that puts nothing into the arrays, and such a state behind it where it goes on
record Later (item : Item) (state : State) : Type 0 where
  still : Still item
  later : goes item ≡ true → late state ≡ true

comes-later : {s : List ℕ} {q p : State} {at next : ℕ} {item : Item} → Comes s q at item p next → late q ≡ true → Later item p
unfolding placed_by
comes-later (module-begins name) e = absurd (unsaid e)
comes-later (module-section k w h b) e = absurd (omega (arith, ltb-true 5 k e))
comes-later (constant name value) e = absurd (unsaid e)
comes-later (sensor typ name getter) e = absurd (unsaid e)
comes-later (actuator typ name value setter) e = absurd (unsaid e)
comes-later (task-begins k name h) e = absurd (omega (arith, ltb-true 5 k e))
comes-later (task-section k w h) e = absurd (unsaid e)
comes-later (input typ name) e = absurd (unsaid e)
comes-later (output typ name value) e = absurd (unsaid e)
comes-later (task-ends k name) e = absurd (unsaid e)
comes-later (mode-begins k start begin name digits milli h) e = record { still = record { same = λ s rows b. refl }; later = λ g. refl }
comes-later (mode-section k w h b) e = record { still = record { same = λ s rows b. refl }; later = λ g. refl }
comes-later (activity k begin digits h) e = record { still = record { same = λ s rows b. refl }; later = λ g. refl }
comes-later (guard-alone k name) e = record { still = record { same = λ s rows b. refl }; later = λ g. refl }
comes-later (guard k name count h) e = record { still = record { same = λ s rows b. refl }; later = λ g. refl }
comes-later (guard-arg k port h) e = record { still = record { same = λ s rows b. refl }; later = λ g. refl }
comes-later (guard-last k port h) e = record { still = record { same = λ s rows b. refl }; later = λ g. refl }
comes-later (invoke-alone name d) e = record { still = record { same = λ s rows b. refl }; later = λ g. refl }
comes-later (invoke name count d h) e = record { still = record { same = λ s rows b. refl }; later = λ g. refl }
comes-later (arg port h) e = record { still = record { same = λ s rows b. refl }; later = λ g. refl }
comes-later (arg-last port h) e = record { still = record { same = λ s rows b. refl }; later = λ g. refl }
comes-later (update name source d) e = record { still = record { same = λ s rows b. refl }; later = λ g. refl }
comes-later (switch k name d u v) e = record { still = record { same = λ s rows b. refl }; later = λ g. refl }
comes-later (mode-ends k) e = record { still = record { same = λ s rows b. refl }; later = λ g. refl }
comes-later (module-ends k) e = record { still = record { same = λ s rows b. refl }; later = λ g. refl }
comes-later text-ends e = record { still = record { same = λ s rows b. refl }; later = λ g. refl }

-- nor does a refusal
unless-refused : (item : Item) (state : State) → (refused_or item none ≡ none → Later item state) → Later item state
unfolding placed_by
unless-refused (I.Module name) p f = f refl
unless-refused I.Section p f = f refl
unless-refused (I.Constant name value) p f = f refl
unless-refused (I.Sensor typ name getter) p f = f refl
unless-refused (I.Actuator typ name value setter) p f = f refl
unless-refused (I.TaskBegin name) p f = f refl
unless-refused (I.Input typ name) p f = f refl
unless-refused (I.Output typ name value) p f = f refl
unless-refused (I.TaskEnd name) p f = f refl
unless-refused (I.ModeBegin start at name digits milli) p f = f refl
unless-refused (I.Activity kind at digits) p f = f refl
unless-refused (I.Guard name count) p f = f refl
unless-refused (I.GuardArg port) p f = f refl
unless-refused (I.Invoke task count) p f = f refl
unless-refused (I.Arg port) p f = f refl
unless-refused (I.Update name source) p f = f refl
unless-refused (I.Switch name) p f = f refl
unless-refused I.ModeEnd p f = f refl
unless-refused I.ModuleEnd p f = f refl
unless-refused I.End p f = f refl
unless-refused (I.No number at) p f = record { still = record { same = λ s rows b. refl }; later = λ g. absurd (unsaid g) }

late-in : (fuel : ℕ) (s : List ℕ) (q : State) (at : ℕ) → late q ≡ true → Each Still (items_in fuel s q at)
unfolding items_in
late-in zero s q at e = tt
late-in (suc fuel) s q at e =
    let now = unless-refused (item_at s q at).item (item_at s q at).state (λ r. comes-later (item-comes s q at r) e) in
    by (goes (item_at s q at).item) now.still (λ g. late-in fuel s (item_at s q at).state (item_at s q at).next (now.later g)) refl
  where
    by : (b : Bool) → Still (item_at s q at).item → (goes (item_at s q at).item ≡ true → Each Still (items_in fuel s (item_at s q at).state (item_at s q at).next)) → goes (item_at s q at).item ≡ b
        → Each Still (onto b (item_at s q at).item (items_in fuel s (item_at s q at).state (item_at s q at).next))
    by true h on e = (h, on e)
    by false h on e = (h, tt)

-- no item from such a state on puts anything into the arrays
pub late-items : (s : List ℕ) (q : State) (at : ℕ) → late q ≡ true → Each Still (items_from s q at)
late-items s q at e = late-in _ s q at e
