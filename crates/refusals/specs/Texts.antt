-- What a text without 2 and 3 is refused for, the leftmost of 4 to 12; and what an accepted text means.
use Rattle.std.specs.Prelude.{ℕ, List, []}
use Rattle.text.specs.declared.Item.{Item}
use Rattle.text.specs.Items.{items_of}
use Rattle.model.specs.Modules.{Module}
use Rattle.refusals.specs.declared.Row.{Row}
use Rattle.refusals.specs.Verdicts.{Verdict}
use Rattle.refusals.specs.Checks.{Check, first}
use Rattle.refusals.specs.Declarations.{rows_after}
use Rattle.refusals.specs.Rules.{Env, nothing, rules_from, env_after}

-- by the items of a text: what it declares, what it must keep, and what is known behind it
abbrev pub declared_by : List ℕ → List Item → List Row
declared_by s items = rows_after s [] items

-- the checks of items, in text order
abbrev pub rules_by : List ℕ → List Item → List Check
rules_by s items = rules_from s (declared_by s items) nothing items

-- what is known behind items, from nothing on
abbrev pub env_by : List ℕ → List Item → Env
env_by s items = env_after s (declared_by s items) nothing items

-- all rules of a text, in text order
abbrev pub all_rules : List ℕ → List Check
all_rules s = rules_by s (items_of s)

-- the answer of the rules 4 to 12
abbrev pub verdict_of : List ℕ → Verdict
verdict_of s = first (all_rules s)

-- the module that a text describes
abbrev pub module_of : List ℕ → Module
module_of s = (env_by s (items_of s)).draft.built
