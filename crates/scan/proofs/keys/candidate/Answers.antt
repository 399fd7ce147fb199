use mathlib.Core.Path.{refl}
use lib.Dec.{lit<}
use Rattle.std.proofs.Common.{rules, tests}
use Rattle.text.specs.Words.{keywords}
use Rattle.text.specs.Tokens.{key_tokens}
use Rattle.scan.specs.KeyMarks.{marked}
use Rattle.scan.proofs.keys.candidate.Goals as goal

pub returns-in-359 : goal.returns-in-359
unfolding marked keywords key_tokens
returns-in-359 c = (0, lit< tt, rw c.in-359.is, refl, refl)

pub returns-in-301 : goal.returns-in-301
unfolding marked keywords key_tokens
returns-in-301 c = (1, lit< tt, rw c.in-301.is, refl, refl)

pub returns-in-391 : goal.returns-in-391
unfolding marked keywords key_tokens
returns-in-391 c = (2, lit< tt, rw c.in-391.is, refl, refl)

pub returns-in-354 : goal.returns-in-354
unfolding marked keywords key_tokens
returns-in-354 c = (3, lit< tt, rw c.in-354.is, refl, refl)

pub returns-in-357 : goal.returns-in-357
unfolding marked keywords key_tokens
returns-in-357 c = (4, lit< tt, rw c.in-357.is, refl, refl)

pub returns-in-325 : goal.returns-in-325
unfolding marked keywords key_tokens
returns-in-325 c = (5, lit< tt, rw c.in-325.is, refl, refl)

pub returns-in-363 : goal.returns-in-363
unfolding marked keywords key_tokens
returns-in-363 c = (6, lit< tt, rw c.in-363.is, refl, refl)

pub returns-in-335 : goal.returns-in-335
unfolding marked keywords key_tokens
returns-in-335 c = (7, lit< tt, rw c.in-335.is, refl, refl)

pub returns-in-364 : goal.returns-in-364
unfolding marked keywords key_tokens
returns-in-364 c = (8, lit< tt, rw c.in-364.is, refl, refl)

pub returns-in-329 : goal.returns-in-329
unfolding marked keywords key_tokens
returns-in-329 c = (9, lit< tt, rw c.in-329.is, refl, refl)

pub returns-in-355 : goal.returns-in-355
unfolding marked keywords key_tokens
returns-in-355 c = (10, lit< tt, rw c.in-355.is, refl, refl)

pub returns-in-375 : goal.returns-in-375
unfolding marked keywords key_tokens
returns-in-375 c = (11, lit< tt, rw c.in-375.is, refl, refl)

pub returns-in-352 : goal.returns-in-352
unfolding marked keywords key_tokens
returns-in-352 c = (12, lit< tt, rw c.in-352.is, refl, refl)

pub returns-in-367 : goal.returns-in-367
unfolding marked keywords key_tokens
returns-in-367 c = (13, lit< tt, rw c.in-367.is, refl, refl)

pub returns-in-368 : goal.returns-in-368
unfolding marked keywords key_tokens
returns-in-368 c = (14, lit< tt, rw c.in-368.is, refl, refl)

pub returns-in-372 : goal.returns-in-372
unfolding marked keywords key_tokens
returns-in-372 c = (15, lit< tt, rw c.in-372.is, refl, refl)

pub returns-in-343 : goal.returns-in-343
unfolding marked keywords key_tokens
returns-in-343 c = (16, lit< tt, rw c.in-343.is, refl, refl)

pub returns-in-366 : goal.returns-in-366
unfolding marked keywords key_tokens
returns-in-366 c = (17, lit< tt, rw c.in-366.is, refl, refl)

pub returns-in-338 : goal.returns-in-338
unfolding marked keywords key_tokens
returns-in-338 c = (18, lit< tt, rw c.in-338.is, refl, refl)

pub returns-in-370 : goal.returns-in-370
unfolding marked keywords key_tokens
returns-in-370 c = (19, lit< tt, rw c.in-370.is, refl, refl)

pub returns-in-360 : goal.returns-in-360
unfolding marked keywords key_tokens
returns-in-360 c = (20, lit< tt, rw c.in-360.is, refl, refl)

pub returns-in-339 : goal.returns-in-339
unfolding marked keywords key_tokens
returns-in-339 c = (21, lit< tt, rw c.in-339.is, refl, refl)

pub returns-in_default : goal.returns-in_default
unfolding marked
returns-in_default c = search (rules, tests)
