-- The item of a row by its kind.
use Rattle.std.specs.Prelude.{ℕ, ◌-◌, ◌%◌, ◌≤◌, ◌<◌, Bool, true, false, ◌≡◌, refl, List, eqb, get_or}
use Rattle.std.proofs.Common.{sym, subst, arith, le-ltb, eqb-true}
use Rattle.std.proofs.lemmas.Bool.{eqb-false}
use Rattle.text.specs.declared.Item.{Item}
use Rattle.text.specs.declared.Item.TheVariants as I
use Rattle.text.specs.Items.{goes}
use Rattle.kept.specs.Rows.{name_at, port_at, literal_at, declaration_of, act_of, item_of, fields_in}
use Rattle.kept.specs.KeptLaws.{act-last}

module _ (row : List ℕ) where
  pub kind-module : get_or row 0 0 ≡ 0 → item_of (fields_in row) ≡ I.Module (name_at row 5)
  unfolding item_of declaration_of
  kind-module e = rw e

  pub kind-section : get_or row 0 0 ≡ 1 → item_of (fields_in row) ≡ I.Section
  unfolding item_of declaration_of
  kind-section e = rw e

  pub kind-constant : get_or row 0 0 ≡ 2 → item_of (fields_in row) ≡ I.Constant (name_at row 5) (literal_at row 7)
  unfolding item_of declaration_of
  kind-constant e = rw e

  pub kind-sensor : get_or row 0 0 ≡ 3 → item_of (fields_in row) ≡ I.Sensor (name_at row 5) (name_at row 7) (name_at row 9)
  unfolding item_of declaration_of
  kind-sensor e = rw e

  pub kind-actuator : get_or row 0 0 ≡ 4 → item_of (fields_in row) ≡ I.Actuator (name_at row 5) (name_at row 7) (literal_at row 9) (name_at row 14)
  unfolding item_of declaration_of
  kind-actuator e = rw e

  pub kind-task : get_or row 0 0 ≡ 5 → item_of (fields_in row) ≡ I.TaskBegin (name_at row 5)
  unfolding item_of declaration_of
  kind-task e = rw e

  pub kind-input : get_or row 0 0 ≡ 6 → item_of (fields_in row) ≡ I.Input (name_at row 5) (name_at row 7)
  unfolding item_of declaration_of
  kind-input e = rw e

  pub kind-output : get_or row 0 0 ≡ 7 → item_of (fields_in row) ≡ I.Output (name_at row 5) (name_at row 7) (literal_at row 9)
  unfolding item_of declaration_of
  kind-output e = rw e

  pub kind-task-end : get_or row 0 0 ≡ 8 → item_of (fields_in row) ≡ I.TaskEnd (name_at row 5)
  unfolding item_of declaration_of
  kind-task-end e = rw e

  pub kind-mode : get_or row 0 0 ≡ 9 → item_of (fields_in row) ≡ I.ModeBegin (eqb (get_or row 7 0) 1) (get_or row 8 0) (name_at row 5) (name_at row 9) (eqb (get_or row 11 0) 1)
  unfolding item_of act_of
  kind-mode e = rw e

  pub kind-activity : get_or row 0 0 ≡ 10 → item_of (fields_in row) ≡ I.Activity (get_or row 7 0 % 256) (get_or row 8 0) (name_at row 5)
  unfolding item_of act_of
  kind-activity e = rw e

  pub kind-guard : get_or row 0 0 ≡ 11 → item_of (fields_in row) ≡ I.Guard (name_at row 5) (get_or row 7 0)
  unfolding item_of act_of
  kind-guard e = rw e

  pub kind-guard-arg : get_or row 0 0 ≡ 12 → item_of (fields_in row) ≡ I.GuardArg (port_at row 5)
  unfolding item_of act_of
  kind-guard-arg e = rw e

  pub kind-invoke : get_or row 0 0 ≡ 13 → item_of (fields_in row) ≡ I.Invoke (name_at row 5) (get_or row 7 0)
  unfolding item_of act_of
  kind-invoke e = rw e

  pub kind-arg : get_or row 0 0 ≡ 14 → item_of (fields_in row) ≡ I.Arg (port_at row 5)
  unfolding item_of act_of
  kind-arg e = rw e

  pub kind-update : get_or row 0 0 ≡ 15 → item_of (fields_in row) ≡ I.Update (name_at row 5) (port_at row 7)
  unfolding item_of act_of
  kind-update e = rw e

  pub kind-switch : get_or row 0 0 ≡ 16 → item_of (fields_in row) ≡ I.Switch (name_at row 5)
  unfolding item_of act_of
  kind-switch e = rw e

  pub kind-mode-end : get_or row 0 0 ≡ 17 → item_of (fields_in row) ≡ I.ModeEnd
  unfolding item_of act_of
  kind-mode-end e = rw e

  pub kind-module-end : get_or row 0 0 ≡ 18 → item_of (fields_in row) ≡ I.ModuleEnd
  unfolding item_of act_of
  kind-module-end e = rw e

  pub kind-end : get_or row 0 0 ≡ 19 → item_of (fields_in row) ≡ I.End
  unfolding item_of act_of
  kind-end e = rw e

  pub kind-no : 19 < get_or row 0 0 → item_of (fields_in row) ≡ I.No (get_or row 7 0 % 256) (get_or row 8 0)
  unfolding item_of
  kind-no h = rw (le-ltb (get_or row 0 0) 9 (omega arith)) (act-last (get_or row 0 0 - 9) (fields_in row) (omega arith))

-- ---- what holds of every kind

beyond-or : (P : ℕ → Type 0) (k n : ℕ) → k ≤ n → P k → (k < n → P n) → P n
beyond-or P k n h here further = by (eqb n k) refl
  where
    by : (b : Bool) → eqb n k ≡ b → P n
    by true e = subst P (sym (eqb-true n k e)) here
    by false e = further (omega (arith, eqb-false n k e))

pub by_kind : (P : ℕ → Type 0) → P 0 → P 1 → P 2 → P 3 → P 4 → P 5 → P 6 → P 7 → P 8 → P 9 → P 10 → P 11 → P 12 → P 13 → P 14 → P 15 → P 16 → P 17 → P 18 → P 19 → ((n : ℕ) → 19 < n → P n) → (n : ℕ) → P n
by_kind P p0 p1 p2 p3 p4 p5 p6 p7 p8 p9 p10 p11 p12 p13 p14 p15 p16 p17 p18 p19 other n = beyond-or P 0 n (omega arith) p0 (λ h0. beyond-or P 1 n (omega arith) p1 (λ h1. beyond-or P 2 n (omega arith) p2 (λ h2. beyond-or P 3 n (omega arith) p3 (λ h3. beyond-or P 4 n (omega arith) p4 (λ h4. beyond-or P 5 n (omega arith) p5 (λ h5. beyond-or P 6 n (omega arith) p6 (λ h6. beyond-or P 7 n (omega arith) p7 (λ h7. beyond-or P 8 n (omega arith) p8 (λ h8. beyond-or P 9 n (omega arith) p9 (λ h9. beyond-or P 10 n (omega arith) p10 (λ h10. beyond-or P 11 n (omega arith) p11 (λ h11. beyond-or P 12 n (omega arith) p12 (λ h12. beyond-or P 13 n (omega arith) p13 (λ h13. beyond-or P 14 n (omega arith) p14 (λ h14. beyond-or P 15 n (omega arith) p15 (λ h15. beyond-or P 16 n (omega arith) p16 (λ h16. beyond-or P 17 n (omega arith) p17 (λ h17. beyond-or P 18 n (omega arith) p18 (λ h18. beyond-or P 19 n (omega arith) p19 (λ h19. other n (omega arith)))))))))))))))))))))

-- what holds of each kind with its item holds of a row
pub each-kind : (row : List ℕ) (P : ℕ → Item → Type 0)
    → P 0 (I.Module (name_at row 5))
    → P 1 I.Section
    → P 2 (I.Constant (name_at row 5) (literal_at row 7))
    → P 3 (I.Sensor (name_at row 5) (name_at row 7) (name_at row 9))
    → P 4 (I.Actuator (name_at row 5) (name_at row 7) (literal_at row 9) (name_at row 14))
    → P 5 (I.TaskBegin (name_at row 5))
    → P 6 (I.Input (name_at row 5) (name_at row 7))
    → P 7 (I.Output (name_at row 5) (name_at row 7) (literal_at row 9))
    → P 8 (I.TaskEnd (name_at row 5))
    → P 9 (I.ModeBegin (eqb (get_or row 7 0) 1) (get_or row 8 0) (name_at row 5) (name_at row 9) (eqb (get_or row 11 0) 1))
    → P 10 (I.Activity (get_or row 7 0 % 256) (get_or row 8 0) (name_at row 5))
    → P 11 (I.Guard (name_at row 5) (get_or row 7 0))
    → P 12 (I.GuardArg (port_at row 5))
    → P 13 (I.Invoke (name_at row 5) (get_or row 7 0))
    → P 14 (I.Arg (port_at row 5))
    → P 15 (I.Update (name_at row 5) (port_at row 7))
    → P 16 (I.Switch (name_at row 5))
    → P 17 I.ModeEnd
    → P 18 I.ModuleEnd
    → P 19 I.End
    → ((n : ℕ) → 19 < n → P n (I.No (get_or row 7 0 % 256) (get_or row 8 0)))
    → P (get_or row 0 0) (item_of (fields_in row))
each-kind row P p0 p1 p2 p3 p4 p5 p6 p7 p8 p9 p10 p11 p12 p13 p14 p15 p16 p17 p18 p19 other =
    by_kind (λ (n : ℕ). get_or row 0 0 ≡ n → P n (item_of (fields_in row)))
    (λ e. rw (kind-module row e) p0)
    (λ e. rw (kind-section row e) p1)
    (λ e. rw (kind-constant row e) p2)
    (λ e. rw (kind-sensor row e) p3)
    (λ e. rw (kind-actuator row e) p4)
    (λ e. rw (kind-task row e) p5)
    (λ e. rw (kind-input row e) p6)
    (λ e. rw (kind-output row e) p7)
    (λ e. rw (kind-task-end row e) p8)
    (λ e. rw (kind-mode row e) p9)
    (λ e. rw (kind-activity row e) p10)
    (λ e. rw (kind-guard row e) p11)
    (λ e. rw (kind-guard-arg row e) p12)
    (λ e. rw (kind-invoke row e) p13)
    (λ e. rw (kind-arg row e) p14)
    (λ e. rw (kind-update row e) p15)
    (λ e. rw (kind-switch row e) p16)
    (λ e. rw (kind-mode-end row e) p17)
    (λ e. rw (kind-module-end row e) p18)
    (λ e. rw (kind-end row e) p19)
    (λ n h e. rw (kind-no row (rw e h)) (other n h))
    (get_or row 0 0)
    refl

-- items follow a row of a kind below the end's, and none another
pub kind-goes : (row : List ℕ) → get_or row 0 0 ≤ 18 → goes (item_of (fields_in row)) ≡ true
kind-goes row =
    each-kind row (λ (n : ℕ) (item : Item). n ≤ 18 → goes item ≡ true)
    (λ h. refl) (λ h. refl) (λ h. refl) (λ h. refl) (λ h. refl) (λ h. refl) (λ h. refl) (λ h. refl) (λ h. refl) (λ h. refl) (λ h. refl) (λ h. refl) (λ h. refl) (λ h. refl) (λ h. refl) (λ h. refl) (λ h. refl) (λ h. refl) (λ h. refl) (λ h. absurd (omega arith))
    (λ n l h. absurd (omega arith))

pub kind-stops : (row : List ℕ) → 18 < get_or row 0 0 → goes (item_of (fields_in row)) ≡ false
kind-stops row =
    each-kind row (λ (n : ℕ) (item : Item). 18 < n → goes item ≡ false)
    (λ h. absurd (omega arith)) (λ h. absurd (omega arith)) (λ h. absurd (omega arith)) (λ h. absurd (omega arith)) (λ h. absurd (omega arith)) (λ h. absurd (omega arith)) (λ h. absurd (omega arith)) (λ h. absurd (omega arith)) (λ h. absurd (omega arith)) (λ h. absurd (omega arith)) (λ h. absurd (omega arith)) (λ h. absurd (omega arith)) (λ h. absurd (omega arith)) (λ h. absurd (omega arith)) (λ h. absurd (omega arith)) (λ h. absurd (omega arith)) (λ h. absurd (omega arith)) (λ h. absurd (omega arith)) (λ h. absurd (omega arith)) (λ h. refl)
    (λ n l h. refl)
