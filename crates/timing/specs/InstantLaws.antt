-- The laws of a mode's instants.
use Rattle.std.specs.Prelude.{ℕ, zero, suc, ◌≤◌, ◌<◌, ◌≡◌, refl, Bool, true, false, List, [], ◌∷◌, ltb}
use Rattle.std.proofs.Common.{arith, ◌∙◌, ltb-true, ltb-false}
use Rattle.model.specs.Modules.{Mode}
use Rattle.timing.specs.Slots.{soonest}
use Rattle.timing.specs.SlotLaws.{Each, AllFit, Midst, Lasts, soonest-le, soonest-after, soonest-same, midst, lasting}
use Rattle.timing.specs.Rules.{next_instant}
use Rattle.timing.specs.Code.{instants_from, first_or}

-- A mode that lasts, in which every invocation's slots fit.
pub record Lasting (m : Mode) : Type 0 where
  pub lasts : 0 < m.period
  pub calls-fit : AllFit m.period m.calls

-- up to the invocations' slot ends, and the updates'
abbrev by_calls : Mode → ℕ → ℕ
by_calls m t = soonest m.period t m.calls m.period

abbrev by_updates : Mode → ℕ → ℕ
by_updates m t = soonest m.period t m.updates (by_calls m t)

pub next-calls : (m : Mode) (t : ℕ) → next_instant m t ≤ by_calls m t
unfolding next_instant
next-calls m t = let b = soonest-le m.period t m.updates (by_calls m t) in let c = soonest-le m.period t m.switches (by_updates m t) in omega arith

pub next_le : (m : Mode) (t : ℕ) → next_instant m t ≤ m.period
next_le m t = let a = soonest-le m.period t m.calls m.period in let b = next-calls m t in omega arith

pub next-after : (m : Mode) (t : ℕ) → t < m.period → t < next_instant m t
unfolding next_instant
next-after m t h = soonest-after m.period t m.switches _ (soonest-after m.period t m.updates _ (soonest-after m.period t m.calls _ h))

pub next-same : (m : Mode) (t v : ℕ) → t ≤ v → v < next_instant m t → next_instant m v ≡ next_instant m t
unfolding next_instant
next-same m t v le h =
    let a : by_updates m t ≤ by_calls m t = soonest-le m.period t m.updates (by_calls m t) in
    let b : soonest m.period t m.switches (by_updates m t) ≤ by_updates m t = soonest-le m.period t m.switches (by_updates m t) in
    let e1 : by_calls m v ≡ by_calls m t = soonest-same m.period t v m.calls m.period le (omega arith) in
    let e2 : soonest m.period v m.updates (by_calls m t) ≡ by_updates m t = soonest-same m.period t v m.updates (by_calls m t) le (omega arith) in
    rw (e1, e2) (soonest-same m.period t v m.switches (by_updates m t) le h)

-- What the invocations do up to the next instant, and at it.
pub at_next : (m : Mode) (t v : ℕ) → t < m.period → next_instant m t ≡ v → Each (Midst m.period t v) m.calls
at_next m t v h e = let a = next-after m t h in let b = next-calls m t in midst m.period t v m.calls m.period (omega arith) (omega arith)

pub till-next : (m : Mode) (t v : ℕ) → t ≤ v → v < next_instant m t → Each (Lasts m.period t v) m.calls
till-next m t v le h = let b = next-calls m t in lasting m.period t v m.calls m.period le (omega arith)

-- The first of the instants after t is the next.
pub first-instant : (most : ℕ) (m : Mode) (t : ℕ) → 0 < most → first_or m.period (instants_from most m t) ≡ next_instant m t
unfolding instants_from
first-instant zero m t h = absurd (omega arith)
first-instant (suc most) m t h = go (ltb (next_instant m t) m.period) refl
  where
    go : (y : Bool) → ltb (next_instant m t) m.period ≡ y → first_or m.period (instants_from (suc most) m t) ≡ next_instant m t
    go true e = rw (e, instants_from)
    go false e = let b = ltb-false (next_instant m t) m.period e in let c = next_le m t in rw (e, instants_from) (omega arith)

-- An instant of the list, and those behind it.
pub instants-cons : (q : ℕ) (m : Mode) (since t : ℕ) (ts : List ℕ) → t ∷ ts ≡ instants_from q m since
    → (n : ℕ) × (q ≡ suc n) × (t ≡ next_instant m since) × (next_instant m since < m.period) × (ts ≡ instants_from n m t)
unfolding instants_from
instants-cons zero m since t ts e = let z : ◌≡◌ {A = ℕ} 0 1 = cc in absurd (omega arith)
instants-cons (suc n) m since t ts e = go (ltb (next_instant m since) m.period) refl
  where
    go : (y : Bool) → ltb (next_instant m since) m.period ≡ y
        → (i : ℕ) × (suc n ≡ suc i) × (t ≡ next_instant m since) × (next_instant m since < m.period) × (ts ≡ instants_from i m t)
    go true b =
        let f : t ∷ ts ≡ next_instant m since ∷ instants_from n m (next_instant m since) = e ∙ rw (b, instants_from) in
        let g : t ≡ next_instant m since = cc in
        (n, refl, g, ltb-true (next_instant m since) m.period b, rw g (cc))
    go false b = let f : t ∷ ts ≡ [] = e ∙ rw (b, instants_from) in let z : ◌≡◌ {A = ℕ} 0 1 = cc in absurd (omega arith)
