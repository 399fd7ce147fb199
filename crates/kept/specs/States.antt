-- A state in two numbers: which it is, and its section.
use Rattle.std.specs.Prelude.{ℕ, ◌+◌, ◌*◌, ◌/◌, ◌%◌, ◌<◌, ◌≡◌}
use Rattle.std.proofs.Common.{arith}
use Rattle.text.specs.declared.State.{State}
use Rattle.text.specs.declared.State.TheVariants as Q
use Rattle.kept.specs.Rows.{state_of}

abbrev pub which_of : State → ℕ
which_of Q.Begin = 0
which_of (Q.Module k) = 1
which_of (Q.Task k) = 2
which_of (Q.Mode k) = 3
which_of (Q.Act k) = 4
which_of (Q.Guarded k) = 5
which_of (Q.GuardArgs k) = 6
which_of Q.Args = 7
which_of Q.Finish = 8

abbrev pub section_of : State → ℕ
section_of Q.Begin = 0
section_of (Q.Module k) = k
section_of (Q.Task k) = k
section_of (Q.Mode k) = k
section_of (Q.Act k) = k
section_of (Q.Guarded k) = k
section_of (Q.GuardArgs k) = k
section_of Q.Args = 0
section_of Q.Finish = 0

-- the number of a state: which it is, and in front of that its section
abbrev pub number_of : State → ℕ
number_of q = section_of q * 16 + which_of q

pub which-small : (q : State) → which_of q < 16
which-small Q.Begin = omega arith
which-small (Q.Module k) = omega arith
which-small (Q.Task k) = omega arith
which-small (Q.Mode k) = omega arith
which-small (Q.Act k) = omega arith
which-small (Q.Guarded k) = omega arith
which-small (Q.GuardArgs k) = omega arith
which-small Q.Args = omega arith
which-small Q.Finish = omega arith

-- a number with both of a state's is the state's
pub state-by : (q : State) (n : ℕ) → n % 16 ≡ which_of q → n / 16 % 256 ≡ section_of q → state_of n ≡ q
unfolding state_of
state-by Q.Begin n w k = rw w
state-by (Q.Module j) n w k = rw (w, k)
state-by (Q.Task j) n w k = rw (w, k)
state-by (Q.Mode j) n w k = rw (w, k)
state-by (Q.Act j) n w k = rw (w, k)
state-by (Q.Guarded j) n w k = rw (w, k)
state-by (Q.GuardArgs j) n w k = rw (w, k)
state-by Q.Args n w k = rw w
state-by Q.Finish n w k = rw w

-- a state is that of its number, a section being a byte
pub number-state : (q : State) → section_of q < 256 → state_of (number_of q) ≡ q
number-state q h = state-by q (number_of q) (omega (arith, which-small q)) (omega (arith, which-small q, h))
