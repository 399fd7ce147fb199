-- Later readings enter only later (document 01, 'The machine'): the readings of a tick that is not due are checked and not taken.
use Rattle.std.specs.Prelude.{ℕ, ◌-◌, ◌≡◌, ◌≢◌, Bool, true, false, cond, List, ltb, eqb}
use Rattle.std.proofs.Math.Path.{refl}
use Rattle.std.proofs.Common.{ne_eqb}
use Rattle.model.specs.Clock.{early, due, missed, judged, elapsed, fits}
use Rattle.machine.specs.Boards.{Board}
use Rattle.machine.specs.Calls as K
use Rattle.machine.specs.Calls.{State, by_instant, reading_types}

module _ (b : Board) (m : State) (count : ℕ) (words other : List ℕ) where
  deaf-instant : (gone left : ℕ) → gone ≢ left → by_instant b m count words (judged gone left) ≡ by_instant b m count other (judged gone left)
  deaf-instant gone left n = go (ltb gone left)
    where
      go : (y : Bool) → by_instant b m count words (cond y (early (left - gone)) (cond (eqb gone left) due missed)) ≡ by_instant b m count other (cond y (early (left - gone)) (cond (eqb gone left) due missed))
      go true = refl
      go false = rw (ne_eqb gone left n) refl

  pub deaf : (types types₁ : List ℕ) → fits (reading_types b) types words ≡ fits (reading_types b) types₁ other → (elapsed m.clock count ≢ m.remaining) → K.tick b m count types words ≡ K.tick b m count types₁ other
  unfolding K.tick
  deaf types types₁ f n = rw (f, deaf-instant (elapsed m.clock count) m.remaining n) refl
