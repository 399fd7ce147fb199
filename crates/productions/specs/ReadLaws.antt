-- What is read of each production is what the text's definition says of it.
use Rattle.std.specs.Prelude.{ℕ, ◌<◌, ◌≡◌, refl, List, Ok, Err, Bool, true, false, cond}
use Rattle.std.proofs.Common.{arith, eqb-true, ne_eqb}
use Rattle.text.specs.declared.Token.{Token}
use Rattle.text.specs.declared.Token.TheVariants as T
use Rattle.text.specs.declared.Lexed.{Lexed}
use Rattle.text.specs.declared.Name.{Name}
use Rattle.text.specs.declared.Literal.{Literal}
use Rattle.text.specs.declared.Literal.TheVariants.{Truth, Number, Named}
use Rattle.text.specs.declared.Refusal.{Refusal}
use Rattle.text.specs.declared.ReadLiteral.{ReadLiteral}
use Rattle.text.specs.declared.State.TheVariants as Q
use Rattle.text.specs.Tokens.{token_at, code_of, is, stands}
use Rattle.text.specs.Expect.{from, got, want, want_any, name_of, closed}
use Rattle.text.specs.WantLaws.{want-took, any-took, any-stuck}
use Rattle.text.specs.Productions.{literal_at, truth_at, minus_at, number_at, named_at, module_at, constant_at, sensor_at, actuator_at, task_at, input_at, output_at, task_end_at}
use Rattle.wants.specs.Given.{taken, refused, want_of, want-of, see, behind-name, behind-refusal}
use Rattle.productions.specs.Read.{closed_of, literal_by, literal_of, module_of, constant_of, sensor_of, actuator_of, task_of, input_of, output_of, task_end_of}

-- ---- the first token, which is found

pub found-is : (s : List ℕ) (at : ℕ) (t : Token) → want_of t (token_at s at) ≡ want t s (from at)
found-is s at t = want-of s at (token_at s at) refl t

-- a token that stands at a place
pub here : (s : List ℕ) (at : ℕ) (t : Token) → is t (token_at s at) ≡ true → want t s (from at) ≡ got 0 (token_at s at).start (token_at s at).end
here s at t e = want-took s (from at) (token_at s at) refl refl t e

-- any that is not the end
pub any-here : (s : List ℕ) (at : ℕ) (t : Token) → code_of t < 36 → is t (token_at s at) ≡ true → want_any s (from at) ≡ got 0 (token_at s at).start (token_at s at).end
any-here s at t h e = any-took s (from at) (token_at s at) refl refl (omega (arith, h, eqb-true _ _ e))

-- ---- values

module _ (s : List ℕ) where
  pub literal-behind-name : (name : Name) → literal_at s (taken name) ≡ literal_at s (from name.end)
  unfolding literal_at truth_at minus_at number_at named_at want want_any
  literal-behind-name name = refl

  -- a value that was read
  abbrev pub value_of : Literal → ℕ → ℕ → ReadLiteral
  value_of literal start end = record { bad = 0; start = start; end = end; literal = literal }

  abbrev pub no_value : Literal → Refusal → ReadLiteral
  no_value literal r = record { bad = r.number; start = r.at; end = r.at; literal = literal }

  pub see-literal : {P : Type 0} (at : ℕ)
      → ((literal : Literal) (start end : ℕ) → literal_of s at ≡ Ok (literal, end) → literal_at s (from at) ≡ value_of literal start end → P)
      → ((r : Refusal) → (r.number ≡ 0 → ⊥) → (literal : Literal) → literal_of s at ≡ Err r → literal_at s (from at) ≡ no_value literal r → P)
      → P
  unfolding literal_by literal_at truth_at minus_at number_at named_at
  see-literal {P} at took gone = truth (is T.KeyTrue found) refl
    where
      found : Lexed
      found = token_at s at

      name : is T.KeyTrue found ≡ false → is T.KeyFalse found ≡ false → is T.Minus found ≡ false → is T.Number found ≡ false → P
      name a b c d = see T.Name s at
          (λ name e. took (Named name) name.start name.end (simp (a, b, c, d, found-is s at, e)) (simp (a, b, c, d, e)))
          (λ r z e. gone r z (Named (name_of (refused r))) (simp (a, b, c, d, found-is s at, e, ne_eqb _ _ z)) (simp (a, b, c, d, e)))

      number : is T.KeyTrue found ≡ false → is T.KeyFalse found ≡ false → is T.Minus found ≡ false → (v : Bool) → is T.Number found ≡ v → P
      number a b c true d = took (Number found.start (record { start = found.start; end = found.end }) false) found.start found.end (simp (a, b, c, d, found-is s at, here s at T.Number d)) (simp (a, b, c, d, here s at T.Number d))
      number a b c false d = name a b c d

      minus : is T.KeyTrue found ≡ false → is T.KeyFalse found ≡ false → (v : Bool) → is T.Minus found ≡ v → P
      minus a b true c = see T.Number s found.end
          (λ digits e. took (Number found.start digits true) digits.start digits.end (simp (a, b, c, e)) (simp (a, b, c, here s at T.Minus c, behind-name s (record { start = found.start; end = found.end }), e)))
          (λ r z e. gone r z (Number found.start (name_of (refused r)) true) (simp (a, b, c, e, ne_eqb _ _ z)) (simp (a, b, c, here s at T.Minus c, behind-name s (record { start = found.start; end = found.end }), e)))
      minus a b false c = number a b c (is T.Number found) refl

      falsehood : is T.KeyTrue found ≡ false → (v : Bool) → is T.KeyFalse found ≡ v → P
      falsehood a true b = took (Truth found.start false) found.start found.end (simp (a, b)) (simp (a, b, any-here s at T.KeyFalse (omega arith) b))
      falsehood a false b = minus a b (is T.Minus found) refl

      truth : (v : Bool) → is T.KeyTrue found ≡ v → P
      truth true a = took (Truth found.start true) found.start found.end (simp a) (simp (a, any-here s at T.KeyTrue (omega arith) a))
      truth false a = falsehood a (is T.KeyFalse found) refl

  -- behind a refusal
  module _ (r : Refusal) (z : r.number ≡ 0 → ⊥) where
    pub record NoValue (v : ReadLiteral) : Type 0 where
      pub bad : v.bad ≡ r.number
      pub start : v.start ≡ r.at
      pub end : v.end ≡ r.at

    neither : {v w : ReadLiteral} (b : Bool) → NoValue v → NoValue w → NoValue (cond b v w)
    neither true p q = p
    neither false p q = q

    pub literal-gone : NoValue (literal_at s (refused r))
    unfolding literal_at truth_at minus_at number_at named_at
    literal-gone =
        let any = any-stuck s (refused r) z in
        let stuck = behind-refusal s r z in
        neither (stands T.KeyTrue s r.at) (rw any (record { bad = refl; start = refl; end = refl })) (
        neither (stands T.KeyFalse s r.at) (rw any (record { bad = refl; start = refl; end = refl })) (
        neither (stands T.Minus s r.at) (simp stuck (record { bad = refl; start = refl; end = refl })) (
        neither (stands T.Number s r.at) (simp stuck (record { bad = refl; start = refl; end = refl })) (
        simp stuck (record { bad = refl; start = refl; end = refl })))))

-- ---- the module

pub module-told : (s : List ℕ) (at : ℕ) → closed_of (Q.Module 1) (module_of s at) ≡ module_at s (from at)
unfolding module_of module_at closed
module-told s at =
    see T.KeyModule s at (λ word e. simp (e, behind-name s word) (
    see T.Name s word.end (λ name f. simp (f, behind-name s name) (
    see T.LeftBrace s name.end (λ last g. simp g)
    (λ r z e. simp (e, ne_eqb _ _ z))))
    (λ r z e. simp (e, behind-refusal s r z, ne_eqb _ _ z))))
    (λ r z e. simp (e, behind-refusal s r z, ne_eqb _ _ z))

pub constant-told : (s : List ℕ) (at : ℕ) → closed_of (Q.Module 2) (constant_of s (token_at s at)) ≡ constant_at s (from at)
unfolding constant_of constant_at closed
constant-told s at = simp (found-is s at) (
    see T.Name s at (λ name e. simp (e, behind-name s name) (
    see T.Equals s name.end (λ equals f. simp (f, literal-behind-name s equals) (
    see-literal s equals.end (λ value start end g h. simp (g, h, behind-name s (record { start = start; end = end })) (
    see T.Semicolon s end (λ last i. simp i)
    (λ r z e. simp (e, ne_eqb _ _ z))))
    (λ r z value e f. simp (e, f, behind-refusal s r z, ne_eqb _ _ z))))
    (λ r z e. let v = literal-gone s r z in simp (e, v.bad, v.start, v.end, behind-refusal s r z, ne_eqb _ _ z))))
    (λ r z e. let v = literal-gone s r z in simp (e, behind-refusal s r z, v.bad, v.start, v.end, ne_eqb _ _ z)))

pub sensor-told : (s : List ℕ) (at : ℕ) → closed_of (Q.Module 3) (sensor_of s (token_at s at)) ≡ sensor_at s (from at)
unfolding sensor_of sensor_at closed
sensor-told s at = simp (found-is s at) (
    see T.Name s at (λ type e. simp (e, behind-name s type) (
    see T.Name s type.end (λ name f. simp (f, behind-name s name) (
    see T.KeyUses s name.end (λ uses g. simp (g, behind-name s uses) (
    see T.Name s uses.end (λ getter h. simp (h, behind-name s getter) (
    see T.Semicolon s getter.end (λ last i. simp i)
    (λ r z e. simp (e, ne_eqb _ _ z))))
    (λ r z e. simp (e, behind-refusal s r z, ne_eqb _ _ z))))
    (λ r z e. simp (e, behind-refusal s r z, ne_eqb _ _ z))))
    (λ r z e. simp (e, behind-refusal s r z, ne_eqb _ _ z))))
    (λ r z e. simp (e, behind-refusal s r z, ne_eqb _ _ z)))

pub actuator-told : (s : List ℕ) (at : ℕ) → closed_of (Q.Module 4) (actuator_of s (token_at s at)) ≡ actuator_at s (from at)
unfolding actuator_of actuator_at closed
actuator-told s at = simp (found-is s at) (
    see T.Name s at (λ type e. simp (e, behind-name s type) (
    see T.Name s type.end (λ name f. simp (f, behind-name s name) (
    see T.Becomes s name.end (λ becomes g. simp (g, literal-behind-name s becomes) (
    see-literal s becomes.end (λ value start end h i. simp (h, i, behind-name s (record { start = start; end = end })) (
    see T.KeyUses s end (λ uses j. simp (j, behind-name s uses) (
    see T.Name s uses.end (λ setter k. simp (k, behind-name s setter) (
    see T.Semicolon s setter.end (λ last l. simp l)
    (λ r z e. simp (e, ne_eqb _ _ z))))
    (λ r z e. simp (e, behind-refusal s r z, ne_eqb _ _ z))))
    (λ r z e. simp (e, behind-refusal s r z, ne_eqb _ _ z))))
    (λ r z value e f. simp (e, f, behind-refusal s r z, ne_eqb _ _ z))))
    (λ r z e. let v = literal-gone s r z in simp (e, v.bad, v.start, v.end, behind-refusal s r z, ne_eqb _ _ z))))
    (λ r z e. let v = literal-gone s r z in simp (e, behind-refusal s r z, v.bad, v.start, v.end, ne_eqb _ _ z))))
    (λ r z e. let v = literal-gone s r z in simp (e, behind-refusal s r z, v.bad, v.start, v.end, ne_eqb _ _ z)))

-- ---- a task

pub task-told : (s : List ℕ) (at : ℕ) → closed_of (Q.Task 1) (task_of s (token_at s at)) ≡ task_at s (from at)
unfolding task_of task_at closed
task-told s at = simp (found-is s at) (
    see T.KeyTask s at (λ word e. simp (e, behind-name s word) (
    see T.Name s word.end (λ name f. simp (f, behind-name s name) (
    see T.LeftBrace s name.end (λ last g. simp g)
    (λ r z e. simp (e, ne_eqb _ _ z))))
    (λ r z e. simp (e, behind-refusal s r z, ne_eqb _ _ z))))
    (λ r z e. simp (e, behind-refusal s r z, ne_eqb _ _ z)))

pub input-told : (s : List ℕ) (at : ℕ) → closed_of (Q.Task 2) (input_of s (token_at s at)) ≡ input_at s (from at)
unfolding input_of input_at closed
input-told s at = simp (found-is s at) (
    see T.Name s at (λ type e. simp (e, behind-name s type) (
    see T.Name s type.end (λ name f. simp (f, behind-name s name) (
    see T.Semicolon s name.end (λ last g. simp g)
    (λ r z e. simp (e, ne_eqb _ _ z))))
    (λ r z e. simp (e, behind-refusal s r z, ne_eqb _ _ z))))
    (λ r z e. simp (e, behind-refusal s r z, ne_eqb _ _ z)))

pub output-told : (s : List ℕ) (at : ℕ) → closed_of (Q.Task 3) (output_of s (token_at s at)) ≡ output_at s (from at)
unfolding output_of output_at closed
output-told s at = simp (found-is s at) (
    see T.Name s at (λ type e. simp (e, behind-name s type) (
    see T.Name s type.end (λ name f. simp (f, behind-name s name) (
    see T.Becomes s name.end (λ becomes g. simp (g, literal-behind-name s becomes) (
    see-literal s becomes.end (λ value start end h i. simp (h, i, behind-name s (record { start = start; end = end })) (
    see T.Semicolon s end (λ last j. simp j)
    (λ r z e. simp (e, ne_eqb _ _ z))))
    (λ r z value e f. simp (e, f, behind-refusal s r z, ne_eqb _ _ z))))
    (λ r z e. let v = literal-gone s r z in simp (e, v.bad, v.start, v.end, behind-refusal s r z, ne_eqb _ _ z))))
    (λ r z e. let v = literal-gone s r z in simp (e, behind-refusal s r z, v.bad, v.start, v.end, ne_eqb _ _ z))))
    (λ r z e. let v = literal-gone s r z in simp (e, behind-refusal s r z, v.bad, v.start, v.end, ne_eqb _ _ z)))

pub task-end-told : (s : List ℕ) (at : ℕ) → closed_of (Q.Module 5) (task_end_of s (token_at s at)) ≡ task_end_at s (from at)
unfolding task_end_of task_end_at closed
task-end-told s at = simp (found-is s at) (
    see T.KeyUses s at (λ uses e. simp (e, behind-name s uses) (
    see T.Name s uses.end (λ name f. simp (f, behind-name s name) (
    see T.Semicolon s name.end (λ semicolon g. simp (g, behind-name s semicolon) (
    see T.RightBrace s semicolon.end (λ last h. simp h)
    (λ r z e. simp (e, ne_eqb _ _ z))))
    (λ r z e. simp (e, behind-refusal s r z, ne_eqb _ _ z))))
    (λ r z e. simp (e, behind-refusal s r z, ne_eqb _ _ z))))
    (λ r z e. simp (e, behind-refusal s r z, ne_eqb _ _ z)))
