use Rattle.std.proofs.Common.{◌∙◌, refl}
use Rattle.std.proofs.Math.Bool.{and_assoc}
use Rattle.comparing.specs.Same.{pointwise-same}
use Rattle.comparing.specs.Alike.{alike, alike_counts, alike_names, alike_ports, alike_rows}
use Rattle.comparing.proofs.same_tables.Goals as goal

pub returns : goal.returns
unfolding alike alike_counts alike_names alike_ports alike_rows
returns c = c.eq.ensures ∙ simp (pointwise-same, and_assoc) refl
