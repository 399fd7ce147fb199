use Rattle.std.proofs.Common.{arith, ◌∙◌}
use Rattle.writing.specs.Wrote.{wrote_as, quad_bytes}
use Rattle.writing.proofs.numbers.Out.whole_quad.Goals as goal

pub returns : goal.returns
returns c = wrote_as (c.to_be_bytes.ensures ∙ quad_bytes c.args.number (omega arith)) c.put_whole.ensures
