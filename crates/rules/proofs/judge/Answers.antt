use Rattle.std.proofs.Common.{sym, ◌∙◌}
use Rattle.std.proofs.Math.Path.{refl}
use Rattle.names.specs.Index.{empty_table}
use Rattle.rules.specs.Going.{judges-no, judges-fine}
use Rattle.rules.proofs.judge.Goals as goal

pub fold-outcome-requires : goal.fold-outcome-requires
unfolding empty_table
fold-outcome-requires c = record { no_names = refl; long-rates = refl; long-tasks = refl; long-aims = refl }

pub returns-then-is_err : goal.returns-then-is_err
unfolding empty_table
returns-then-is_err c = λ kept. judges-no c.fold-outcome.new.cells c.fold-outcome.result (sym c.is_err.ensures.value ∙ c.if-is_err.true) (c.fold-outcome.ensures kept)

pub returns-else-is_err : goal.returns-else-is_err
returns-else-is_err c = λ kept. judges-fine c.fold-outcome.new.cells c.fold-outcome.result (sym c.is_err.ensures.value ∙ c.if-is_err.false) (c.fold-outcome.ensures kept)
