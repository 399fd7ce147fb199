use Rattle.fields.specs.TakingLaws as law
use Rattle.reading.specs.Stages as to
use Rattle.reading.specs.Tabled.{takes-rest}
use Rattle.reading.proofs.filling.rest.Goals as goal

pub returns-in_err-t : goal.returns-in_err-t
unfolding to.store_drivers to.store_guards to.store_modes to.store_code
returns-in_err-t c = law.takes-exit _ _ _ c.from_residual.ensures.1 (takes-rest (law.takes-lens {l = to.rest_of c.args.t.now} (λ m. (0, m.driver_rows)) to.put_drivers c.in_err-t.ensures.takes) law.takes_out law.takes_out law.takes_out)

pub returns-in_err-t-2 : goal.returns-in_err-t-2
unfolding to.store_drivers to.store_guards to.store_modes to.store_code
returns-in_err-t-2 c = law.takes-exit _ _ _ c.from_residual-in_err-t-2.ensures.1 (takes-rest (law.takes-lens {l = to.rest_of c.args.t.now} (λ m. (0, m.driver_rows)) to.put_drivers c.in_ok-t.ensures.takes) (law.takes-lens (λ m. (0, m.guard_rows)) to.put_guards c.in_err-t-2.ensures.takes) law.takes_out law.takes_out)

pub returns-in_err-t-3 : goal.returns-in_err-t-3
unfolding to.store_drivers to.store_guards to.store_modes to.store_code
returns-in_err-t-3 c = law.takes-exit _ _ _ c.from_residual-in_err-t-3.ensures.1 (takes-rest (law.takes-lens {l = to.rest_of c.args.t.now} (λ m. (0, m.driver_rows)) to.put_drivers c.in_ok-t.ensures.takes) (law.takes-lens (λ m. (0, m.guard_rows)) to.put_guards c.in_ok-t-2.ensures.takes) (law.takes-lens (λ m. (0, (m.mode_names, m.mode_rows))) to.put_modes c.in_err-t-3.ensures.takes) law.takes_out)

pub returns-in_err-t-4 : goal.returns-in_err-t-4
unfolding to.store_drivers to.store_guards to.store_modes to.store_code
returns-in_err-t-4 c = law.takes-exit _ _ _ c.from_residual-in_err-t-4.ensures.1 (takes-rest (law.takes-lens {l = to.rest_of c.args.t.now} (λ m. (0, m.driver_rows)) to.put_drivers c.in_ok-t.ensures.takes) (law.takes-lens (λ m. (0, m.guard_rows)) to.put_guards c.in_ok-t-2.ensures.takes) (law.takes-lens (λ m. (0, (m.mode_names, m.mode_rows))) to.put_modes c.in_ok-t-3.ensures.takes) (law.takes-lens (λ m. (0, m.code)) to.put_code c.in_err-t-4.ensures.takes))

pub returns : goal.returns
unfolding to.store_drivers to.store_guards to.store_modes to.store_code
returns c = takes-rest (law.takes-lens {l = to.rest_of c.args.t.now} (λ m. (0, m.driver_rows)) to.put_drivers c.in_ok-t.ensures.takes) (law.takes-lens (λ m. (0, m.guard_rows)) to.put_guards c.in_ok-t-2.ensures.takes) (law.takes-lens (λ m. (0, (m.mode_names, m.mode_rows))) to.put_modes c.in_ok-t-3.ensures.takes) (law.takes-lens (λ m. (0, m.code)) to.put_code c.in_ok-t-4.ensures.takes)
