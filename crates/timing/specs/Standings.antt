-- The laws of standings: what a termination leaves, and which task is handed out.
use Rattle.std.specs.Prelude.{ℕ, zero, suc, ◌+◌, ◌≡◌, refl, ◌≢◌, List, [], ◌∷◌, map, get_or, set}
use Rattle.std.proofs.Common.{arith, get_or-set_other}
use Rattle.std.proofs.Math.Option.{some}
use Rattle.model.specs.Modules.{Module, Task, Act, Call, place}
use Rattle.timing.specs.Rules.{Standing, idle, ready, running, done, Store, Outcome, well, late, outputs_of, ended, terminations}
use Rattle.timing.specs.Calls.{lowest, beginning}

-- a task is out from its release to the end of its slot; which are out; how many
abbrev pub is_out : Standing → ℕ
is_out idle = 0
is_out ready = 1
is_out running = 1
is_out (done results) = 1

-- the tasks that are out
abbrev pub which_out : List Standing → List ℕ
which_out [] = []
which_out (x ∷ l) = is_out x ∷ which_out l

-- how many count
abbrev pub how_many : (Standing → ℕ) → List Standing → ℕ
how_many counts [] = 0
how_many counts (x ∷ l) = counts x + how_many counts l

-- how many tasks are out
abbrev pub how_many_out : List Standing → ℕ
how_many_out l = how_many is_out l

-- The task that is handed out is one released and not yet handed out.
pub found : (n t : ℕ) (l : List Standing) → lowest n l ≡ some t → (i : ℕ) × (t ≡ n + i) × (get_or l i idle ≡ ready)
found n t [] e = let z : ◌≡◌ {A = ℕ} 0 1 = cc in absurd (omega arith)
found n t (ready ∷ l) e = let h : n ≡ t = cc in (0, omega arith, refl)
found n t (idle ∷ l) e = let (i, a, b) = found (suc n) t l e in (suc i, omega arith, b)
found n t (running ∷ l) e = let (i, a, b) = found (suc n) t l e in (suc i, omega arith, b)
found n t (done x ∷ l) e = let (i, a, b) = found (suc n) t l e in (suc i, omega arith, b)

pub handed-ready : (t : ℕ) (l : List Standing) → lowest 0 l ≡ some t → get_or l t idle ≡ ready
handed-ready t l e = let (i, a, b) = found 0 t l e in let q : t ≡ i = omega arith in rw q b

-- No task is out at the beginning.
pub beginning-idle : (M : Module) (j : ℕ) → get_or (beginning M).tasks j idle ≡ idle
beginning-idle M j = go M.tasks j
  where
    go : (tasks : List Task) (i : ℕ) → get_or (map (λ (task : Task). idle) tasks) i idle ≡ idle
    go [] i = refl
    go (t ∷ tasks) zero = refl
    go (t ∷ tasks) (suc i) = go tasks i

set-idle : (l : List Standing) (t : ℕ) → get_or (set l t idle) t idle ≡ idle
set-idle [] t = refl
set-idle (x ∷ l) zero = refl
set-idle (x ∷ l) (suc t) = set-idle l t

module _ (M : Module) where
  -- A termination that comes about leaves its task idle, and the others as they were.
  pub terminated : (t : ℕ) (s v : Store) → ended M t s (get_or s.tasks t idle) ≡ well v → (j : ℕ) → (get_or v.tasks t idle ≡ idle) × ((j ≢ t) → get_or v.tasks j idle ≡ get_or s.tasks j idle)
  terminated t s v q j = go (get_or s.tasks t idle) refl
    where
      go : (x : Standing) → get_or s.tasks t idle ≡ x → (get_or v.tasks t idle ≡ idle) × ((j ≢ t) → get_or v.tasks j idle ≡ get_or s.tasks j idle)
      go idle e = let h : s ≡ v = cc (rw e at q) in (rw (← h) e, λ ne. rw (← h) refl)
      go ready e = let z : ◌≡◌ {A = ℕ} 0 1 = cc (rw e at q) in absurd (omega arith)
      go running e = let z : ◌≡◌ {A = ℕ} 0 1 = cc (rw e at q) in absurd (omega arith)
      go (done x) e =
          let h : record { ports = place (outputs_of M t) x s.ports; tasks = set s.tasks t idle } ≡ v = cc (rw e at q) in
          (rw (← h) (set-idle s.tasks t), λ ne. rw (← h) (get_or-set_other s.tasks t j idle idle ne))

  abbrev one : Act Call → Store → Outcome Store
  one a s = ended M a.what.task s (get_or s.tasks a.what.task idle)

  -- Terminations that come about: the first, then the others.
  pub split : (a : Act Call) (rest : List (Act Call)) (s v : Store) → terminations M (a ∷ rest) s ≡ well v → (w : Store) × (one a s ≡ well w) × (terminations M rest w ≡ well v)
  split a rest s v q = go (one a s) refl
    where
      go : (x : Outcome Store) → one a s ≡ x → (w : Store) × (one a s ≡ well w) × (terminations M rest w ≡ well v)
      go (well w) e = (w, e, rw e at q)
      go (late x) e = let z : ◌≡◌ {A = ℕ} 0 1 = cc (rw e at q) in absurd (omega arith)
