use mathlib.Core.Path.{refl}
use Rattle.std.proofs.Common.{rules, tests}
use Rattle.text.specs.Tokens.{sign_token}
use Rattle.scan.specs.Others as law
use Rattle.scan.proofs.sign.Goals as goal

pub returns-in-123 : goal.returns-in-123
unfolding sign_token
returns-in-123 c = law.sign-is 123 (record { unlettered = refl; uncounted = refl; uncolon = refl }) c.in-123.is

pub returns-in-125 : goal.returns-in-125
unfolding sign_token
returns-in-125 c = law.sign-is 125 (record { unlettered = refl; uncounted = refl; uncolon = refl }) c.in-125.is

pub returns-in-91 : goal.returns-in-91
unfolding sign_token
returns-in-91 c = law.sign-is 91 (record { unlettered = refl; uncounted = refl; uncolon = refl }) c.in-91.is

pub returns-in-93 : goal.returns-in-93
unfolding sign_token
returns-in-93 c = law.sign-is 93 (record { unlettered = refl; uncounted = refl; uncolon = refl }) c.in-93.is

pub returns-in-40 : goal.returns-in-40
unfolding sign_token
returns-in-40 c = law.sign-is 40 (record { unlettered = refl; uncounted = refl; uncolon = refl }) c.in-40.is

pub returns-in-41 : goal.returns-in-41
unfolding sign_token
returns-in-41 c = law.sign-is 41 (record { unlettered = refl; uncounted = refl; uncolon = refl }) c.in-41.is

pub returns-in-59 : goal.returns-in-59
unfolding sign_token
returns-in-59 c = law.sign-is 59 (record { unlettered = refl; uncounted = refl; uncolon = refl }) c.in-59.is

pub returns-in-61 : goal.returns-in-61
unfolding sign_token
returns-in-61 c = law.sign-is 61 (record { unlettered = refl; uncounted = refl; uncolon = refl }) c.in-61.is

pub returns-in-46 : goal.returns-in-46
unfolding sign_token
returns-in-46 c = law.sign-is 46 (record { unlettered = refl; uncounted = refl; uncolon = refl }) c.in-46.is

pub returns-in-44 : goal.returns-in-44
unfolding sign_token
returns-in-44 c = law.sign-is 44 (record { unlettered = refl; uncounted = refl; uncolon = refl }) c.in-44.is

pub returns-in-45 : goal.returns-in-45
unfolding sign_token
returns-in-45 c = law.sign-is 45 (record { unlettered = refl; uncounted = refl; uncolon = refl }) c.in-45.is

pub returns-in_default : goal.returns-in_default
unfolding sign_token
returns-in_default c = search (rules, tests)
