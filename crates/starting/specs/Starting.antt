-- What a start on a table's arrays answers (document 01, 'The machine').
use Rattle.std.specs.Prelude.{ℕ, ◌≡◌, refl, Bool, true, false, List}
use Rattle.std.proofs.Common.{arith, sym, ap, ◌∙◌}
use Rattle.file.specs.Tables.{Table}
use Rattle.file.specs.Files.{sound}
use Rattle.tables.specs.declared.Table.{Table as Plain}
use Rattle.layout.specs.Plain.{struct_of}
use Rattle.machine.specs.declared.Reaction.TheVariants.{Refused}
use Rattle.machine.specs.Starts.{start_on, start, no_machine}
use Rattle.emachine.specs.declared.Ticked.{Ticked}
use Rattle.emachine.specs.Machines.{board_in, ticked_on}
use Rattle.boards.specs.Starts.{start-as}
use Rattle.ecode.specs.Sound.{Holds, sound_in, sound-holds, holds-sound}

-- The definition's start on the sound table that the arrays hold, or 30 and the empty machine where they hold none.
pub record Started (p : Plain) (count : ℕ) (types words : List ℕ) (r : Ticked) : Type 0 where
  pub begun : (u : Table) → sound u ≡ true → struct_of u ≡ p → r ≡ ticked_on p (start u count types words)
  pub refused : (Holds p → ⊥) → r ≡ ticked_on p (record { answer = Refused 30; state = no_machine })

-- arrays that are judged unsound hold no table
none-held : (p : Plain) → sound_in p ≡ false → Holds p → ⊥
none-held p fails held =
    let clash : true ≡ false = sym (holds-sound p held) ∙ fails in
    let z : ◌≡◌ {A = ℕ} 0 1 = cc in
    omega arith

module _ (p : Plain) (count : ℕ) (types words : List ℕ) where
  -- a start by the verdict is the start
  pub started : (r : Ticked) → r ≡ ticked_on p (start_on (sound_in p) (board_in p) count types words) → Started p count types words r
  started r is = go (sound_in p) refl is
    where
      go : (verdict : Bool) → sound_in p ≡ verdict → r ≡ ticked_on p (start_on verdict (board_in p) count types words) → Started p count types words r
      go true judged served =
          record {
            begun = λ u is-sound stands.
                served ∙ ap (λ (q : Plain). ticked_on p (start_on true (board_in q) count types words)) (sym stands) ∙ ap (ticked_on p) (start-as u count types words is-sound);
            refused = λ none. absurd (none (sound-holds p judged));
          }
      go false judged served =
          record {
            begun = λ u is-sound stands. absurd (none-held p judged (record { table = u; good = is-sound; is = stands }));
            refused = λ none. served;
          }

  -- no second answer fits
  pub started-once : (one other : Ticked) → Started p count types words one → Started p count types words other → one ≡ other
  started-once one other f g = go (sound_in p) refl
    where
      go : (verdict : Bool) → sound_in p ≡ verdict → one ≡ other
      go true judged =
          let held = sound-holds p judged in
          f.begun held.table held.good held.is ∙ sym (g.begun held.table held.good held.is)
      go false judged = f.refused (none-held p judged) ∙ sym (g.refused (none-held p judged))
