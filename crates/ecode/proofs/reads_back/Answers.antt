use mathlib.Core.Path.{◌∙◌}
use Rattle.file.specs.Files.{decode}
use Rattle.ecode.specs.Sound.{back_read, back-refused}
use Rattle.ecode.proofs.reads_back.Goals as goal

pub returns-in_default : goal.returns-in_default
returns-in_default c = back-refused c.args.t.now (decode c.args.bytes.now) c.read-back.result c.in_default.field-0 c.read-back.ensures.answer c.in_default.is

pub returns : goal.returns
returns c = c.same_tables.ensures ∙ back_read c.args.t.now (decode c.args.bytes.now) c.read-back.result c.read-back.ensures.answer c.in-Read.is
