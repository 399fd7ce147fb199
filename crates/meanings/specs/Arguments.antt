-- A guard's argument without a dot is told by one look at its name: it may be a constant or a sensor.
use Prim.Native.Nat.{ℕ, zero, suc, ◌≤◌, ◌<◌}
use Rattle.std.proofs.Common.{arith}
use Rattle.std.specs.Prelude.{◌≡◌, List, false}
use Rattle.std.proofs.Math.Path.{refl}
use borrow.Author.Tests.{ne_eqb}
use Rattle.text.specs.declared.Name.{Name}
use Rattle.text.specs.declared.Port.{Port}
use Rattle.refusals.specs.declared.Row.{Row}
use Rattle.refusals.specs.Names.{module_scope, unknown, meaning, named}
use Rattle.refusals.specs.Ports.{port_named, argument_named}

-- the port that is a name without a dot
abbrev pub plain_port : Name → Port
plain_port name = record { first = name; second = name; dotted = false }

-- where there is no dot, nothing behind it counts
pub argument-undotted : (s : List ℕ) (rows : List Row) (port : Port) → port.dotted ≡ false → argument_named s rows (plain_port port.first) ≡ argument_named s rows port
unfolding argument_named port_named
argument-undotted s rows port plain = simp plain

module _ (s : List ℕ) (rows : List Row) (port : Port) (plain : port.dotted ≡ false) {row : Row} (found : row ≡ meaning s rows module_scope port.first) where
  pub argument-found : row.sort < 2 → row ≡ argument_named s rows port
  unfolding argument_named port_named named
  argument-found h = by row.sort refl
    where
      by : (sort : ℕ) → row.sort ≡ sort → row ≡ argument_named s rows port
      by zero e = simp (plain, ← found, e)
      by (suc zero) e = simp (plain, ← found, e)
      by (suc (suc sort)) e = absurd (omega (arith, h, e))

  pub argument-none : 2 ≤ row.sort → unknown ≡ argument_named s rows port
  unfolding argument_named port_named named
  argument-none h = simp (plain, ← found, ne_eqb row.sort 0 (λ z. omega (arith, h, z)), ne_eqb row.sort 1 (λ z. omega (arith, h, z)))
