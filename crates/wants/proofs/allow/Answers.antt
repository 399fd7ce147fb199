use Rattle.wants.specs.Given.{refused-told}
use Rattle.wants.proofs.allow.Goals as goal

pub returns-else-allowed : goal.returns-else-allowed
returns-else-allowed c = rw (c.if-allowed.false, refused-told c.args.found, c.refusal.ensures)
