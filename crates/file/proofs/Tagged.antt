-- How a driver, a guard's argument and an instruction are read, by their first byte: laws for the reader's code.
use Rattle.std.specs.Prelude.{◌≡◌, refl, List, ℕ, ◌≤◌, ◌<◌}
use Rattle.std.proofs.Common.{sym, ◌∙◌}
use Rattle.std.proofs.Math.Path.{ap}
use borrow.Author.Tests.{ne_eqb, lt-ltb, le-ltb}
use Rattle.codec.specs.Readings.{Reading, got, no, and_then}
use Rattle.codec.specs.Numbers.{byte}
use Rattle.codec.proofs.Readings.{and_then-as}
use Rattle.codec.proofs.Sequences.{dep-on, dep-no, dep-out, dep-got}
use Rattle.codec.proofs.Views.{shape_on, shape-no, shape-got, check-no, check-fails, check-got}
use Rattle.codec.proofs.Tags.{enum-no, enum-fails, enum-got}
use Rattle.file.specs.Code.{DriverTag, driver_tag, DriverRest, driver_rest, driver_of, driver, ArgumentTag, argument_tag, ArgumentRest, argument_rest, argument_of, argument, word, forms_of, triple, instr_by, instruction}
use Rattle.file.proofs.CodeLaws.{driver-known, argument-known}

-- ---- drivers

module _ (bs : List ℕ) where
  pub driver-no : {e : ℕ} → byte.get bs ≡ no e → driver.get bs ≡ no e
  unfolding driver
  driver-no p = shape-no _ _ _ (dep-no _ _ _ (enum-no _ _ _ _ p))

  pub driver-bad : {n : ℕ} {r : List ℕ} → byte.get bs ≡ got n r → (n ≡ 3 → ⊥) → (n ≡ 4 → ⊥) → (n ≡ 5 → ⊥) → driver.get bs ≡ no 23
  unfolding driver
  driver-bad {n} p x y z =
      let u = ne_eqb 3 n (λ q. x (sym q)) in
      let v = ne_eqb 4 n (λ q. y (sym q)) in
      let w = ne_eqb 5 n (λ q. z (sym q)) in
      shape-no _ _ _ (dep-no _ _ _ (enum-fails _ _ _ _ p (rw (u, v, w) refl)))

  pub driver-on : (tag : DriverTag) {r : List ℕ} → byte.get bs ≡ got (driver_tag tag) r
      → driver.get bs ≡ and_then ((driver_rest tag).get r) (λ x s. got (driver_of tag x) s)
  unfolding driver
  driver-on tag {r} p =
      shape_on _ _ _ bs ∙ ap (λ (m : Reading ((tag : DriverTag) × DriverRest tag)). and_then m (λ x s. got (driver_of x.0 x.1) s)) (dep-on _ _ _ (enum-got _ _ _ _ driver-known tag p))
      ∙ and_then-as {B = (tag : DriverTag) × DriverRest tag} (λ x. (tag, x)) (λ x. driver_of x.0 x.1) ((driver_rest tag).get r)

  -- ---- a guard's arguments

  pub argument-no : {e : ℕ} → byte.get bs ≡ no e → argument.get bs ≡ no e
  unfolding argument
  argument-no p = shape-no _ _ _ (dep-no _ _ _ (enum-no _ _ _ _ p))

  pub argument-bad : {n : ℕ} {r : List ℕ} → byte.get bs ≡ got n r → (n ≡ 0 → ⊥) → (n ≡ 1 → ⊥) → argument.get bs ≡ no 23
  unfolding argument
  argument-bad {n} p x y =
      let u = ne_eqb 0 n (λ q. x (sym q)) in
      let v = ne_eqb 1 n (λ q. y (sym q)) in
      shape-no _ _ _ (dep-no _ _ _ (enum-fails _ _ _ _ p (rw (u, v) refl)))

  pub argument-on : (tag : ArgumentTag) {r : List ℕ} → byte.get bs ≡ got (argument_tag tag) r
      → argument.get bs ≡ and_then ((argument_rest tag).get r) (λ x s. got (argument_of tag x) s)
  unfolding argument
  argument-on tag {r} p =
      shape_on _ _ _ bs ∙ ap (λ (m : Reading ((tag : ArgumentTag) × ArgumentRest tag)). and_then m (λ x s. got (argument_of x.0 x.1) s)) (dep-on _ _ _ (enum-got _ _ _ _ argument-known tag p))
      ∙ and_then-as {B = (tag : ArgumentTag) × ArgumentRest tag} (λ x. (tag, x)) (λ x. argument_of x.0 x.1) ((argument_rest tag).get r)

  -- ---- instructions

  pub instruction-no : {e : ℕ} → byte.get bs ≡ no e → instruction.get bs ≡ no e
  unfolding instruction triple
  instruction-no p = shape-no _ _ _ (dep-no _ _ _ (check-no _ _ _ p))

  pub instruction-bad : {o : ℕ} {r : List ℕ} → byte.get bs ≡ got o r → 8 ≤ o → instruction.get bs ≡ no 23
  unfolding instruction triple
  instruction-bad {o} p h = shape-no _ _ _ (dep-no _ _ _ (check-fails _ _ _ p (le-ltb o 8 h)))

  module _ (o : ℕ) (r : List ℕ) (opcode : byte.get bs ≡ got o r) (known : o < 8) where
    pub first-no : {e : ℕ} → (word (forms_of o).0).get r ≡ no e → instruction.get bs ≡ no e
    unfolding instruction triple
    first-no p = shape-no _ _ _ (dep-out _ _ _ (check-got _ _ _ opcode (lt-ltb o 8 known)) (dep-no _ _ _ p))

    pub second-no : {f e : ℕ} {s : List ℕ} → (word (forms_of o).0).get r ≡ got f s → (word (forms_of o).1).get s ≡ no e → instruction.get bs ≡ no e
    unfolding instruction triple
    second-no p q = shape-no _ _ _ (dep-out _ _ _ (check-got _ _ _ opcode (lt-ltb o 8 known)) (dep-out _ _ _ p q))

    pub instruction-got : {f g : ℕ} {s t : List ℕ} → (word (forms_of o).0).get r ≡ got f s → (word (forms_of o).1).get s ≡ got g t
        → instruction.get bs ≡ got (instr_by o f g) t
    unfolding instruction triple
    instruction-got p q = shape-got _ _ _ (dep-got _ _ _ (check-got _ _ _ opcode (lt-ltb o 8 known)) (dep-got _ _ _ p q))
