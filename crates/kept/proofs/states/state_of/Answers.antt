use Rattle.kept.specs.KeptLaws.{beyond, state-last}
use mathlib.Core.Path.{sym}
use Rattle.kept.specs.Rows.{state_of}
use native.Mathlib.Omega.{arith}
use Rattle.kept.proofs.states.state_of.Goals as goal

pub returns-in-0 : goal.returns-in-0
unfolding state_of
returns-in-0 c = rw c.in-0.is

pub returns-in-1 : goal.returns-in-1
unfolding state_of
returns-in-1 c = rw c.in-1.is

pub returns-in-2 : goal.returns-in-2
unfolding state_of
returns-in-2 c = rw c.in-2.is

pub returns-in-3 : goal.returns-in-3
unfolding state_of
returns-in-3 c = rw c.in-3.is

pub returns-in-4 : goal.returns-in-4
unfolding state_of
returns-in-4 c = rw c.in-4.is

pub returns-in-5 : goal.returns-in-5
unfolding state_of
returns-in-5 c = rw c.in-5.is

pub returns-in-6 : goal.returns-in-6
unfolding state_of
returns-in-6 c = rw c.in-6.is

pub returns-in-7 : goal.returns-in-7
unfolding state_of
returns-in-7 c = rw c.in-7.is

pub returns-in_default : goal.returns-in_default
returns-in_default c = sym (state-last _ (beyond 7 (beyond 6 (beyond 5 (beyond 4 (beyond 3 (beyond 2 (beyond 1 (beyond 0 (omega arith) c.in_default.in_default-own.rest.0.0.0.0.0.0.0.1) c.in_default.in_default-own.rest.0.0.0.0.0.0.1) c.in_default.in_default-own.rest.0.0.0.0.0.1) c.in_default.in_default-own.rest.0.0.0.0.1) c.in_default.in_default-own.rest.0.0.0.1) c.in_default.in_default-own.rest.0.0.1) c.in_default.in_default-own.rest.0.1) c.in_default.in_default-own.rest.1))
