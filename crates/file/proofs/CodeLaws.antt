-- Drivers, guards, modes and code are lawful: each tag is found by its number, and each record stands under its shape both ways.
use Rattle.std.specs.Prelude.{◌≡◌, refl, true, ℕ, zero, suc, ◌<◌}
use Rattle.std.proofs.Common.{sym, ap, ◌∙◌, arith, ltb-true, eqb-true}
use Rattle.std.proofs.Math.Option.{some}
use Rattle.codec.specs.Codecs.{Lawful}
use Rattle.codec.specs.Tags.{numbered}
use Rattle.codec.proofs.Numbers.{byte-lawful, be-lawful}
use Rattle.codec.proofs.Sequences.{dep-ok, dep-lawful}
use Rattle.codec.proofs.Views.{check-ok, check-lawful, shape-lawful}
use Rattle.codec.proofs.Tags.{enum-lawful}
use Rattle.codec.proofs.Lists.{list-lawful}
use Rattle.model.specs.Instructions.{Instr, nop, future, call, release, iff, jump, return, switch, Driver, updates, releases, terminates}
use Rattle.file.specs.Tables.{Argument, port, fixed}
use Rattle.file.specs.Code.{DriverTag, updating, releasing, terminating, driver_tag, driver_tags, DriverRest, driver_rest, driver_parts, driver_of, driver, drivers, ArgumentTag, of_port, of_value, argument_tag, argument_tags, ArgumentRest, argument_rest, argument_parts, argument_of, argument, guard, guards, mode, modes, Form, unused, no_argument, fits_form, forms_of, word, triple, triple_of, instr_by, instruction, code}
use Rattle.file.proofs.Parts.{count-lawful, type-lawful, value-lawful}
use Rattle.file.proofs.Names.{name-lawful}

-- ---- drivers

pub driver-known : (tag : DriverTag) → numbered driver_tag driver_tags (driver_tag tag) ≡ some tag
driver-known updating = refl
driver-known releasing = refl
driver-known terminating = refl

pub driver-one : (d : Driver) → driver_of (driver_parts d).0 (driver_parts d).1 ≡ d
driver-one (updates source target) = refl
driver-one (releases t sources) = refl
driver-one (terminates t) = refl

pub driver-two : (tag : DriverTag) (x : DriverRest tag) → ◌≡◌ {A = (tag : DriverTag) × DriverRest tag} (driver_parts (driver_of tag x)) (tag, x)
driver-two updating x = refl
driver-two releasing x = refl
driver-two terminating x = refl

pub driver_rest-lawful : (tag : DriverTag) → Lawful (driver_rest tag)
unfolding driver_rest
driver_rest-lawful updating = dep-lawful _ _ _ (be-lawful 2) (λ p. be-lawful 2)
driver_rest-lawful releasing = dep-lawful _ _ _ (be-lawful 2) (λ t. list-lawful _ _ (count-lawful 1 _) (be-lawful 2))
driver_rest-lawful terminating = be-lawful 2

pub driver-lawful : Lawful driver
unfolding driver
driver-lawful =
    shape-lawful _ _ _ driver-one (λ x h. driver-two x.0 x.1)
    (dep-lawful _ _ _ (enum-lawful _ _ _ _ driver-known byte-lawful) driver_rest-lawful)

pub drivers-lawful : Lawful drivers
unfolding drivers
drivers-lawful = list-lawful _ _ (count-lawful 2 _) driver-lawful

-- ---- guards

pub argument-known : (tag : ArgumentTag) → numbered argument_tag argument_tags (argument_tag tag) ≡ some tag
argument-known of_port = refl
argument-known of_value = refl

pub argument-one : (a : Argument) → argument_of (argument_parts a).0 (argument_parts a).1 ≡ a
argument-one (port p) = refl
argument-one (fixed t word) = refl

pub argument-two : (tag : ArgumentTag) (x : ArgumentRest tag) → ◌≡◌ {A = (tag : ArgumentTag) × ArgumentRest tag} (argument_parts (argument_of tag x)) (tag, x)
argument-two of_port p = refl
argument-two of_value x = refl

pub argument_rest-lawful : (tag : ArgumentTag) → Lawful (argument_rest tag)
unfolding argument_rest
argument_rest-lawful of_port = be-lawful 2
argument_rest-lawful of_value = dep-lawful _ _ _ type-lawful value-lawful

pub argument-lawful : Lawful argument
unfolding argument
argument-lawful =
    shape-lawful _ _ _ argument-one (λ x h. argument-two x.0 x.1)
    (dep-lawful _ _ _ (enum-lawful _ _ _ _ argument-known byte-lawful) argument_rest-lawful)

pub guard-lawful : Lawful guard
unfolding guard
guard-lawful =
    shape-lawful _ _ _ (λ g. refl) (λ x h. refl)
    (dep-lawful _ _ _ name-lawful (λ f. list-lawful _ _ (count-lawful 1 _) argument-lawful))

pub guards-lawful : Lawful guards
unfolding guards
guards-lawful = list-lawful _ _ (count-lawful 2 _) guard-lawful

-- ---- modes

pub mode-lawful : Lawful mode
unfolding mode
mode-lawful =
    shape-lawful _ _ _ (λ m. refl) (λ x h. refl)
    (dep-lawful _ _ _ name-lawful
    (λ n. dep-lawful _ _ _ (check-lawful _ _ _ byte-lawful)
    (λ s. dep-lawful _ _ _ (check-lawful _ _ _ (be-lawful 4)) (λ p. be-lawful 4))))

pub modes-lawful : Lawful modes
unfolding modes
modes-lawful = list-lawful _ _ (count-lawful 2 _) mode-lawful

-- ---- code

pub instr-one : (i : Instr) → instr_by (triple_of i).0 (triple_of i).1.0 (triple_of i).1.1 ≡ i
instr-one (nop m) = refl
instr-one (future pc d) = refl
instr-one (call d) = refl
instr-one (release t) = refl
instr-one (iff g pc) = refl
instr-one (jump pc) = refl
instr-one return = refl
instr-one (switch m) = refl

-- the opcodes with one argument
one_argument : (o f s : ℕ) → fits_form unused s ≡ true → ◌≡◌ {A = ℕ × (ℕ × ℕ)} (o, (f, no_argument)) (o, (f, s))
one_argument o f s h = ap (λ (x : ℕ). (o, (f, x))) (sym (eqb-true s no_argument h))

pub triple-named : (o f s : ℕ) → o < 8 → fits_form (forms_of o).0 f ≡ true → fits_form (forms_of o).1 s ≡ true → triple_of (instr_by o f s) ≡ (o, (f, s))
triple-named zero f s l h g = one_argument 0 f s g
triple-named (suc zero) f s l h g = refl
triple-named (suc (suc zero)) f s l h g = one_argument 2 f s g
triple-named (suc (suc (suc zero))) f s l h g = one_argument 3 f s g
triple-named (suc (suc (suc (suc zero)))) f s l h g = refl
triple-named (suc (suc (suc (suc (suc zero))))) f s l h g = one_argument 5 f s g
triple-named (suc (suc (suc (suc (suc (suc zero)))))) f s l h g = ap (λ (x : ℕ). (6, (x, no_argument))) (sym (eqb-true f no_argument h)) ∙ one_argument 6 f s g
triple-named (suc (suc (suc (suc (suc (suc (suc zero))))))) f s l h g = one_argument 7 f s g
triple-named (suc (suc (suc (suc (suc (suc (suc (suc o)))))))) f s l h g = absurd (omega arith)

pub instr-two : (x : ℕ × (ℕ × ℕ)) → triple.ok x ≡ true → triple_of (instr_by x.0 x.1.0 x.1.1) ≡ x
unfolding triple word
instr-two x h =
    let (o, w) = dep-ok _ _ _ x.0 x.1 h in
    let (f, s) = dep-ok _ _ _ x.1.0 x.1.1 w in
    triple-named x.0 x.1.0 x.1.1 (ltb-true _ _ (check-ok _ _ _ _ o).0) (check-ok _ _ _ _ f).0 (check-ok _ _ _ _ s).0

pub word-lawful : (form : Form) → Lawful (word form)
unfolding word
word-lawful form = check-lawful _ _ _ (be-lawful 4)

pub triple-lawful : Lawful triple
unfolding triple
triple-lawful = dep-lawful _ _ _ (check-lawful _ _ _ byte-lawful) (λ opcode. dep-lawful _ _ _ (word-lawful _) (λ first. word-lawful _))

pub instruction-lawful : Lawful instruction
unfolding instruction
instruction-lawful = shape-lawful _ _ _ instr-one instr-two triple-lawful

pub code-lawful : Lawful code
unfolding code
code-lawful = list-lawful _ _ (count-lawful 2 _) instruction-lawful
