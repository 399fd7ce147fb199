-- Tests of numbers one after the other, where the numbers stand for the parts of a list.
use Rattle.std.specs.Prelude.{ℕ, suc, ◌+◌, ◌<◌, ◌≡◌, refl, Bool, true, false, cond, ◌&&◌, List, [], ◌∷◌, length, get_or}
use Rattle.std.proofs.Common.{add-zero, zero-add, arith, sym, ap, ap₂, ◌∙◌}
use Rattle.file.specs.Tables.{ModeRow}
use Rattle.file.specs.Parts.{all_in}
use Rattle.file.specs.References.{start_modes}
use Rattle.referring.specs.Rows.{every_from, every, sum_from}

pub cond-and : (a b : Bool) → cond a b false ≡ a && b
cond-and true b = refl
cond-and false b = refl

pub and-true : (a : Bool) → (a && true) ≡ a
and-true true = refl
and-true false = refl

pub and_assoc : (a b c : Bool) → (a && (b && c)) ≡ ((a && b) && c)
and_assoc true b c = refl
and_assoc false b c = refl

every-list : {A : Type 0} (good : A → Bool) (d : A) (test : ℕ → Bool) (at : ℕ) (xs : List A) → ((k : ℕ) → k < length xs → test (at + k) ≡ good (get_or xs k d))
    → every_from test at (length xs) ≡ all_in good xs
unfolding every_from all_in
every-list good d test at [] same = refl
every-list good d test at (x ∷ xs) same =
    let here : test at ≡ good x = ap test (sym (add-zero at)) ∙ same 0 (omega arith) in
    let on = every-list good d test (at + 1) xs (λ k within. let next : at + 1 + k ≡ at + suc k = omega arith in ap test next ∙ same (suc k) (omega arith)) in
    cond-and (test at) _ ∙ ap₂ ◌&&◌ here on

-- a test of every number is a test of every part
pub every-part : {A : Type 0} (good : A → Bool) (d : A) (test : ℕ → Bool) (xs : List A) → ((k : ℕ) → k < length xs → test k ≡ good (get_or xs k d))
    → every test (length xs) ≡ all_in good xs
every-part good d test xs same = every-list good d test 0 xs (λ k within. ap test (zero-add k) ∙ same k within)

starts-list : (d : ModeRow) (value : ℕ → ℕ) (at : ℕ) (modes : List ModeRow) → ((k : ℕ) → k < length modes → value (at + k) ≡ (get_or modes k d).start)
    → sum_from value at (length modes) ≡ start_modes modes
unfolding sum_from
starts-list d value at [] same = refl
starts-list d value at (m ∷ modes) same =
    let here : value at ≡ m.start = ap value (sym (add-zero at)) ∙ same 0 (omega arith) in
    let on = starts-list d value (at + 1) modes (λ k within. let next : at + 1 + k ≡ at + suc k = omega arith in ap value next ∙ same (suc k) (omega arith)) in
    ap₂ ◌+◌ here on

-- the marks of the modes add up to the number of start modes
pub starts-part : (d : ModeRow) (value : ℕ → ℕ) (modes : List ModeRow) → ((k : ℕ) → k < length modes → value k ≡ (get_or modes k d).start)
    → sum_from value 0 (length modes) ≡ start_modes modes
starts-part d value modes same = starts-list d value 0 modes (λ k within. ap value (zero-add k) ∙ same k within)
