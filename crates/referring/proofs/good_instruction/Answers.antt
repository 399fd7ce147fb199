use mathlib.Core.Path.{refl}
use borrow.Author.Tests.{ne_eqb, lt-ltb, le-ltb}
use Rattle.referring.specs.Rows.{good_instruction_in}
use Rattle.referring.proofs.good_instruction.Goals as goal

pub returns-in-1 : goal.returns-in-1
unfolding good_instruction_in
returns-in-1 c = rw c.in-1.is refl

pub returns-in-2 : goal.returns-in-2
unfolding good_instruction_in
returns-in-2 c = rw c.in-2.is refl

pub returns-in-3 : goal.returns-in-3
unfolding good_instruction_in
returns-in-3 c = rw c.in-3.is refl

pub returns-then-first-guards : goal.returns-then-first-guards
unfolding good_instruction_in
returns-then-first-guards c = rw (c.in-4.is, lt-ltb _ _ c.if-first-guards.true) refl

pub returns-else-first-guards : goal.returns-else-first-guards
unfolding good_instruction_in
returns-else-first-guards c = rw (c.in-4.is, le-ltb _ _ c.if-first-guards.false) refl

pub returns-in-5 : goal.returns-in-5
unfolding good_instruction_in
returns-in-5 c = rw c.in-5.is refl

pub returns-in-7 : goal.returns-in-7
unfolding good_instruction_in
returns-in-7 c = rw c.in-7.is refl

pub returns-in_default : goal.returns-in_default
unfolding good_instruction_in
returns-in_default c = rw (ne_eqb _ 1 c.in_default.in_default-own.rest.0.0.0.0.0.1, ne_eqb _ 2 c.in_default.in_default-own.rest.0.0.0.0.1, ne_eqb _ 3 c.in_default.in_default-own.rest.0.0.0.1, ne_eqb _ 4 c.in_default.in_default-own.rest.0.0.1, ne_eqb _ 5 c.in_default.in_default-own.rest.0.1, ne_eqb _ 7 c.in_default.in_default-own.rest.1) refl
