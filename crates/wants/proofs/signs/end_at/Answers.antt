use Rattle.std.proofs.Common.{arith}
use Rattle.wants.specs.Given.{ends-at, ends-behind}
use Rattle.wants.proofs.signs.end_at.Goals as goal

pub returns-in-len1-up : goal.returns-in-len1-up
returns-in-len1-up c =
    let rest = c.in_ok-rest.ensures.lookup.0 in
    ends-at c.in_ok-sign.ensures (record { bytes = rest.2; size = rest.3 }) c.in-len1-up.len_at_least c.if-first-sign.true

pub returns-in-32 : goal.returns-in-32
returns-in-32 c =
    let rest = c.in_ok-rest.ensures.lookup.0 in
    ends-behind c.in_ok-sign.ensures (record { bytes = rest.2; size = rest.3 }) c.in-32.len_at_least (omega arith) c.if-second-sign.true
