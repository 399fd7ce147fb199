use Rattle.names.specs.Walking.{Walking}
use Rattle.names.specs.Index.{key_of, chain_of, indexed, head_in, Indexed}
use Rattle.std.proofs.Common.{◌≡◌, ℕ, ◌+◌, ◌-◌, ◌<◌, ◌≤◌, List}
use Rattle.names.proofs.chained.Given as goal

abbrev pub invariant-loop-link : goal.invariant-loop-link
invariant-loop-link l = (0 < l.link)
    × ((s word : List ℕ) → Indexed s l.cells → l.n ≤ indexed l.cells → l.key ≡ key_of word → l.head ≡ head_in l.cells (chain_of l.scope word) → Walking s l.scope word l.cells l.link)

abbrev pub decreases-loop-link : goal.decreases-loop-link
decreases-loop-link l = l.n + 1 - l.link
