-- How the names and the ports go by the tests of the code.
use Prim.Native.Nat.{ℕ, suc, ◌+◌, ◌-◌, ◌*◌, ◌/◌, ◌≤◌, ◌<◌, min}
use Rattle.std.specs.Prelude.{◌≡◌, refl, List, [], ◌∷◌, ◌++◌, Bool, true, false, length, get_or, take, drop}
use Rattle.std.proofs.Common.{sym, ap, append-nil, add-one}
use native.Mathlib.Omega.{arith}
use borrow.Author.Tests.{lt-ltb, le-ltb}
use Rattle.lines.specs.Buffers.{Said}
use Rattle.naming.specs.Names.{name_of, among_of, input_in, output_in, has_of, owner_from, outputs_of, input_of, task_port_of, port_of}

pub name-there : (names : List ℕ) (row begin end size : ℕ) → row < length names / 33 → begin ≡ row * 33 + 1 → size ≡ min (get_or names (row * 33) 0) 32 → end ≡ begin + size → take (end - begin) (drop begin names) ≡ name_of names row
unfolding name_of
name-there names row begin end size h b s e =
    let n : end - begin ≡ size = omega arith in
    rw (n, s, b) (simp (lt-ltb _ _ h))

pub name-none : (names : List ℕ) (row : ℕ) → length names / 33 ≤ row → name_of names row ≡ []
unfolding name_of
name-none names row h = simp (le-ltb _ _ h)

-- the first task that has the port
module _ (rows : List ℕ) (number : ℕ) where
  pub owner-begins : (many : ℕ) → owner_from rows number 0 many ≡ owner_from rows number 0 (many - 0)
  owner-begins many = ap (owner_from rows number 0) (omega arith)

  pub owner_here : (k many : ℕ) → k < many → has_of rows number k ≡ true → owner_from rows number k (many - k) ≡ k
  unfolding owner_from
  owner_here k many h e = let n : many - k ≡ suc (many - (k + 1)) = omega arith in rw n (simp e)

  pub owner-on : (k many : ℕ) → k < many → has_of rows number k ≡ false → owner_from rows number k (many - k) ≡ owner_from rows number (k + 1) (many - (k + 1))
  unfolding owner_from
  owner-on k many h e = let n : many - k ≡ suc (many - (k + 1)) = omega arith in rw n (simp e)

  pub owner-none : (k many : ℕ) → many ≡ k → owner_from rows number k (many - k) ≡ k
  unfolding owner_from
  owner-none k many e = let n : many - k ≡ 0 = omega arith in rw n

pub outputs-on : (rows : List ℕ) (n : ℕ) → outputs_of rows (n + 1) ≡ outputs_of rows n + get_or rows (4 * n + 3) 0
unfolding outputs_of
outputs-on rows n = rw (add-one n)

pub outputs-none : (rows : List ℕ) → outputs_of rows 0 ≡ 0
unfolding outputs_of
outputs-none rows = refl

pub outputs-more : (rows : List ℕ) (n sum cell wide : ℕ) → sum ≡ outputs_of rows n → cell ≡ get_or rows (4 * n + 3) 0 → wide ≡ cell → sum + wide ≡ outputs_of rows (n + 1)
outputs-more rows n sum cell wide s e w = rw (outputs-on rows n, ← s, ← e, w)

-- what was said is what the other name of it says
pub said-is : {out xs ys then : List ℕ} {at next : ℕ} → xs ≡ ys → Said out at xs then next → Said out at ys then next
said-is e s = rw (← e) s

-- the test of a port, by the cells that the code reads
pub among-is : (number first many f m : ℕ) (t u : Bool) → f ≡ first → m ≡ many → t ≡ among_of number f m → t ≡ u → among_of number first many ≡ u
among-is number first many f m t u a b e h = cc

module _ (rows : List ℕ) (number task : ℕ) where
  pub has-input : input_in rows number task ≡ true → has_of rows number task ≡ true
  unfolding has_of
  has-input i = rw i

  pub has_other : input_in rows number task ≡ false → has_of rows number task ≡ output_in rows number task
  unfolding has_of
  has_other i = rw i

-- a task's port by what the tests found
module _ (task_names output_names rows : List ℕ) (number task : ℕ) where
  pub task-input : (first place : ℕ) → input_in rows number task ≡ true → first ≡ get_or rows (4 * task) 0 → place ≡ number - first → name_of task_names (2 * task) ++ input_of place ≡ task_port_of task_names output_names rows number task
  unfolding task_port_of
  task-input first place i f p = rw (p, f, i)

  pub task-output : (first place before wide : ℕ) → input_in rows number task ≡ false → output_in rows number task ≡ true → first ≡ get_or rows (4 * task + 2) 0 → place ≡ number - first → before ≡ outputs_of rows task → wide ≡ place → name_of task_names (2 * task) ++ (46 ∷ name_of output_names (before + wide)) ≡ task_port_of task_names output_names rows number task
  unfolding task_port_of
  task-output first place before wide i o f p b w = rw (w, b, p, f, i, o)

  pub task-neither : input_in rows number task ≡ false → output_in rows number task ≡ false → name_of task_names (2 * task) ≡ task_port_of task_names output_names rows number task
  unfolding task_port_of
  task-neither i o = rw (i, o) (sym (append-nil (name_of task_names (2 * task))))

-- a port by the tests of its number
module _ (sensor_names actuator_names task_names output_names rows : List ℕ) (sensors actuators tasks number : ℕ) where
  pub port-sensor : (wide : ℕ) → number < sensors → wide ≡ number → name_of sensor_names (2 * wide) ≡ port_of sensor_names actuator_names task_names output_names rows sensors actuators tasks number
  unfolding port_of
  port-sensor wide h w = rw (w, lt-ltb number sensors h)

  pub port-actuator : (wide : ℕ) → sensors ≤ number → number - sensors < actuators → wide ≡ number - sensors → name_of actuator_names (2 * wide) ≡ port_of sensor_names actuator_names task_names output_names rows sensors actuators tasks number
  unfolding port_of
  port-actuator wide h l w = rw (w, le-ltb number sensors h, lt-ltb (number - sensors) actuators l)

  pub port-task : (task : ℕ) → sensors ≤ number → actuators ≤ number - sensors → task ≡ owner_from rows number 0 tasks → task_port_of task_names output_names rows number task ≡ port_of sensor_names actuator_names task_names output_names rows sensors actuators tasks number
  unfolding port_of
  port-task task h l k = rw (k, le-ltb number sensors h, le-ltb (number - sensors) actuators l)
