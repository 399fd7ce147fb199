-- The machine's store seen as the rules' store: the module's ports, and each task's standing by its three bits.
use Rattle.std.specs.Prelude.{ℕ, zero, suc, ◌+◌, ◌-◌, ◌*◌, ◌≤◌, ◌<◌, ◌≡◌, Bool, true, cond, List, [], ◌∷◌, ◌++◌, length, get_or, set, take}
use Rattle.std.proofs.Common.{arith, sym, ◌∙◌, ap, ap₂, subst, get_or-take}
use Rattle.std.proofs.Math.Decide.{ℕ_discrete, dec_lt}
use Rattle.std.proofs.Math.Path.{refl}
use Rattle.std.proofs.Math.Bool.{false}
use Rattle.std.proofs.Math.Option.{Option, none, some}
use Rattle.model.specs.Rooms.{port_room, task_room}
use Rattle.model.specs.Modules.{Module, no_task, place, copy_to}
use Rattle.timing.specs.SlotLaws.{Each}
use Rattle.timing.specs.Rules as R
use Rattle.timing.specs.Rules.{Standing, idle, ready, running, done}
use Rattle.timing.specs.Accepted.{Accepted, ports}
use Rattle.machine.specs.Words.{has, joined, parted}
use Rattle.machine.specs.WordLaws.{join-same, join-other, part_same, part-other}
use Rattle.machine.specs.Store.{Store, part}
use Rattle.bridge.specs.Tabulated.{tab, get_or-tab, get_or_past, set-tab}

-- ---- a part of the ports

pub take-set : {A : Type 0} (n : ℕ) (l : List A) (i : ℕ) (x : A) → take n (set l i x) ≡ set (take n l) i x
take-set zero l i x = refl
take-set (suc n) [] i x = refl
take-set (suc n) (a ∷ l) zero x = refl
take-set (suc n) (a ∷ l) (suc i) x = ap (λ (r : List _). a ∷ r) (take-set n l i x)

pub take-place : (n at : ℕ) (words l : List ℕ) → take n (place at words l) ≡ place at words (take n l)
take-place n at [] l = refl
take-place n at (w ∷ words) l = take-place n (at + 1) words (set l at w) ∙ ap (place (at + 1) words) (take-set n l at w)

pub take-copy : (n at : ℕ) (sources l : List ℕ) → Each (λ p. p < n) sources → take n (copy_to at sources l) ≡ copy_to at sources (take n l)
take-copy n at [] l h = refl
take-copy n at (p ∷ sources) l h =
    take-copy n (at + 1) sources (set l at (get_or l p 0)) h.1
    ∙ ap (copy_to (at + 1) sources) (take-set n l at (get_or l p 0) ∙ ap (λ (x : ℕ). set (take n l) at x) (sym (get_or-take n l p 0 h.0)))

-- ---- standings

abbrev pub stand_of : Bool → Bool → Bool → List ℕ → Standing
stand_of false waiting finished results = idle
stand_of true true finished results = ready
stand_of true false true results = done results
stand_of true false false results = running

-- who waits or is finished is out, and not both
abbrev pub Fitting : Bool → Bool → Bool → Type 0
Fitting false false false = Unit {0}
Fitting false false true = ⊥
Fitting false true finished = ⊥
Fitting true true true = ⊥
Fitting true true false = Unit {0}
Fitting true false finished = Unit {0}

pub fitting-idle : (waiting finished : Bool) → Fitting false waiting finished → (waiting ≡ false) × (finished ≡ false)
fitting-idle false false n = (refl, refl)
fitting-idle false true n = absurd n
fitting-idle true finished n = absurd n

pub fitting-done : (out waiting : Bool) → Fitting out waiting true → (out ≡ true) × (waiting ≡ false)
fitting-done false false n = absurd n
fitting-done false true n = absurd n
fitting-done true false n = (refl, refl)
fitting-done true true n = absurd n

module _ (M : Module) where
  abbrev pub tasks : ℕ
  tasks = length M.tasks

  abbrev pub results_of : ℕ → ℕ
  results_of k = length (get_or M.tasks k no_task).outputs

  -- the results of task k that are stored aside
  abbrev pub row_of : List ℕ → ℕ → List ℕ
  row_of aside k = part aside (k * port_room) (results_of k)

  abbrev pub stand_at : List ℕ → ℕ → ℕ → ℕ → ℕ → Standing
  stand_at aside out waiting finished k = stand_of (has out k) (has waiting k) (has finished k) (row_of aside k)

  unfoldable pub standings : List ℕ → ℕ → ℕ → ℕ → List Standing
  standings aside out waiting finished = tab (stand_at aside out waiting finished) tasks

  abbrev pub view : List ℕ → Store → R.Store
  view aside s = record { ports = take (ports M) s.ports; tasks = standings aside s.out s.waiting s.finished }

  -- the words of tasks fit one another, and only tasks are out
  pub record Neat (out waiting finished : ℕ) : Type 0 where
    pub fits : (k : ℕ) → Fitting (has out k) (has waiting k) (has finished k)
    pub within : (k : ℕ) → has out k ≡ true → k < tasks

  module _ (aside : List ℕ) (out waiting finished : ℕ) where
    pub stands_at : (k : ℕ) → k < tasks → get_or (standings aside out waiting finished) k idle ≡ stand_at aside out waiting finished k
    unfolding standings
    stands_at k h = get_or-tab (stand_at aside out waiting finished) tasks k idle h

    module _ (N : Neat out waiting finished) where
      -- also past the last task
      pub stands : (k : ℕ) → get_or (standings aside out waiting finished) k idle ≡ stand_at aside out waiting finished k
      unfolding standings
      stands k = go (has out k) refl
        where
          none-there : has out k ≡ false → stand_at aside out waiting finished k ≡ idle
          none-there e = rw e refl

          past : (tasks ≤ k) → get_or (tab (stand_at aside out waiting finished) tasks) k idle ≡ idle
          past l = get_or_past (stand_at aside out waiting finished) tasks k idle l

          split : Dec (k < tasks) → has out k ≡ false → get_or (tab (stand_at aside out waiting finished) tasks) k idle ≡ stand_at aside out waiting finished k
          split (yes l) e = get_or-tab (stand_at aside out waiting finished) tasks k idle l
          split (no l) e = past (omega arith) ∙ sym (none-there e)

          go : (y : Bool) → has out k ≡ y → get_or (tab (stand_at aside out waiting finished) tasks) k idle ≡ stand_at aside out waiting finished k
          go true e = get_or-tab (stand_at aside out waiting finished) tasks k idle (N.within k e)
          go false e = split (dec_lt k tasks) e

    -- ---- one task changed

    module _ (k : ℕ) (l : k < tasks) (few : tasks ≤ task_room) where
      pub begun-tasks : set (standings aside out waiting finished) k ready ≡ standings aside (joined out k) (joined waiting k) finished
      unfolding standings
      begun-tasks =
          set-tab (stand_at aside out waiting finished) (stand_at aside (joined out k) (joined waiting k) finished) tasks k ready
          (rw (join-same out k (omega arith), join-same waiting k (omega arith)) refl) (λ j h. rw (join-other out k j h, join-other waiting k j h) refl) l

      pub ended-tasks : set (standings aside out waiting finished) k idle ≡ standings aside (parted out k) waiting (parted finished k)
      unfolding standings
      ended-tasks =
          set-tab (stand_at aside out waiting finished) (stand_at aside (parted out k) waiting (parted finished k)) tasks k idle
          (rw (part_same out k) refl) (λ j h. rw (part-other out k j h, part-other finished k j h) refl) l

      pub handed-tasks : has out k ≡ true → has finished k ≡ false → set (standings aside out waiting finished) k running ≡ standings aside out (parted waiting k) finished
      unfolding standings
      handed-tasks o f =
          set-tab (stand_at aside out waiting finished) (stand_at aside out (parted waiting k) finished) tasks k running
          (rw (o, part_same waiting k, f) refl) (λ j h. rw (part-other waiting k j h) refl) l

      module _ (N : Neat out waiting finished) where
        pub begun-neat : has out k ≡ false → Neat (joined out k) (joined waiting k) finished
        begun-neat e = record { fits = λ j. go j (ℕ_discrete j k); within = λ j. in-range j (ℕ_discrete j k) }
          where
            go : (j : ℕ) → Dec (j ≡ k) → Fitting (has (joined out k) j) (has (joined waiting k) j) (has finished j)
            go j (yes h) =
                let f : has finished k ≡ false = (fitting-idle (has waiting k) (has finished k) (rw e at (N.fits k))).1 in
                rw (h, join-same out k (omega arith), join-same waiting k (omega arith), f) tt
            go j (no h) = rw (join-other out k j h, join-other waiting k j h) (N.fits j)

            in-range : (j : ℕ) → Dec (j ≡ k) → has (joined out k) j ≡ true → j < tasks
            in-range j (yes h) q = omega arith
            in-range j (no h) q = N.within j (sym (join-other out k j h) ∙ q)

        pub ended-neat : has finished k ≡ true → Neat (parted out k) waiting (parted finished k)
        ended-neat e = record { fits = λ j. go j (ℕ_discrete j k); within = λ j. in-range j (ℕ_discrete j k) }
          where
            go : (j : ℕ) → Dec (j ≡ k) → Fitting (has (parted out k) j) (has waiting j) (has (parted finished k) j)
            go j (yes h) =
                let w : has waiting k ≡ false = (fitting-done (has out k) (has waiting k) (rw e at (N.fits k))).1 in
                rw (h, part_same out k, part_same finished k, w) tt
            go j (no h) = rw (part-other out k j h, part-other finished k j h) (N.fits j)

            in-range : (j : ℕ) → Dec (j ≡ k) → has (parted out k) j ≡ true → j < tasks
            in-range j (yes h) q = let z : has (parted out k) j ≡ false = rw h (part_same out k) in let y : ◌≡◌ {A = ℕ} 0 1 = cc in absurd (omega arith)
            in-range j (no h) q = N.within j (sym (part-other out k j h) ∙ q)

        pub handed-neat : has out k ≡ true → Neat out (parted waiting k) finished
        handed-neat e = record { fits = λ j. go j (ℕ_discrete j k); within = N.within }
          where
            go : (j : ℕ) → Dec (j ≡ k) → Fitting (has out j) (has (parted waiting k) j) (has finished j)
            go j (yes h) = rw (h, part_same waiting k, e) tt
            go j (no h) = rw (part-other waiting k j h) (N.fits j)

        pub finished-neat : has out k ≡ true → has waiting k ≡ false → Neat out waiting (joined finished k)
        finished-neat e w = record { fits = λ j. go j (ℕ_discrete j k); within = N.within }
          where
            go : (j : ℕ) → Dec (j ≡ k) → Fitting (has out j) (has waiting j) (has (joined finished k) j)
            go j (yes h) = rw (h, join-same finished k (omega arith), e, w) tt
            go j (no h) = rw (join-other finished k j h) (N.fits j)
