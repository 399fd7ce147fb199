use Rattle.std.proofs.Common.{arith, ap, sym, ◌∙◌}
use Rattle.std.proofs.Math.Dec.{eqb}
use borrow.Author.Tests.{eq-eqb, ne_eqb}
use Rattle.writing.specs.Wrote.{wrote-both, wrote_of, wrote-none}
use Rattle.writing.specs.Cells.{byte_of, pair_of, sources_in, driver_at}
use Rattle.writing.proofs.drivers.driver.Goals as goal

pub returns-in-3 : goal.returns-in-3
unfolding driver_at
returns-in-3 c = rw (ap (λ t. eqb t 3) (sym c.at32-tag.ensures) ∙ eq-eqb c.at32-tag.result 3 c.in-3.is) (wrote-both (wrote_of byte_of c.at32-tag.ensures c.byte.ensures) (wrote-both (wrote_of pair_of c.at32.ensures c.pair.ensures) (wrote_of pair_of c.at32-target.ensures c.pair-in-3.ensures)))

pub returns-in-4 : goal.returns-in-4
unfolding driver_at
returns-in-4 c = rw (ap (λ t. eqb t 3) (sym c.at32-tag.ensures) ∙ ne_eqb c.at32-tag.result 3 (λ q. omega arith), ap (λ t. eqb t 4) (sym c.at32-tag.ensures) ∙ eq-eqb c.at32-tag.result 4 c.in-4.is) (wrote-both (wrote_of byte_of c.at32-tag.ensures c.byte.ensures) (wrote-both (wrote_of pair_of c.at32-target.ensures c.pair-in-4.ensures) (wrote_of (sources_in _ _) c.at32-in-4.ensures c.sources.ensures)))

pub returns-in_default : goal.returns-in_default
unfolding driver_at
returns-in_default c = rw (ap (λ t. eqb t 3) (sym c.at32-tag.ensures) ∙ ne_eqb c.at32-tag.result 3 (λ q. omega arith), ap (λ t. eqb t 4) (sym c.at32-tag.ensures) ∙ ne_eqb c.at32-tag.result 4 (λ q. omega arith)) (wrote-both (wrote_of byte_of c.at32-tag.ensures c.byte.ensures) (wrote-both (wrote_of pair_of c.at32-target.ensures c.pair-in_default.ensures) (wrote-none _)))
