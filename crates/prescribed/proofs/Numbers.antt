-- No other refusal exists (document 01, 'When the compiler says no'): each is one of 1 to 14, at a byte of the text or at its end.
use Rattle.std.specs.Prelude.{ℕ, ◌≡◌, List}
use Rattle.std.proofs.Common.{arith, sym}
use Rattle.std.proofs.Math.Option.{some}
use Rattle.text.proofs.ItemsLaws.{syntax-refused}
use Rattle.grammar.proofs.Syntax.{syntax-only}
use Rattle.refusals.specs.Verdicts.{one-refusal}
use Rattle.refusals.proofs.RulesOrder.{cause-listed}
use Rattle.prescribed.specs.Compiled.{Refused}
use Rattle.prescribed.specs.Compiles.{Compiling, refused, compile_of}
use Rattle.prescribed.specs.Answers.{answered}
use Rattle.prescribed.specs.Acceptance.{Answers, long, unreadable, broken, overfull, roomless, accepted}
use Rattle.prescribed.proofs.Acceptance.{answers}
use Rattle.prescribed.specs.Numbers.{Listed}

module _ (text : List ℕ) (room : ℕ) where
  same : {n a number at : ℕ} → Listed text n a → answered (refused n a) ≡ Refused number at → Listed text number at
  same {n} {a} {number} {at} l e =
      let (p, q) = one-refusal e in
      rw (← p, ← q) l

  listed : {c : Compiling} → Answers text room c → (number at : ℕ) → answered c ≡ Refused number at → Listed text number at
  listed (long x) number at e = same (record { least = omega arith; most = omega arith; inside = omega arith }) e
  listed (unreadable r s j) number at e =
      let w = syntax-refused text r.number r.offset (sym (syntax-only text (some r) j)) in
      same (record { least = omega arith; most = omega arith; inside = omega arith }) e
  listed (broken n t r l) number at e =
      let w = cause-listed text n t l.0 in
      same (record { least = omega (arith, w.0); most = omega (arith, w.1); inside = w.2 }) e
  listed (overfull r u c) number at e = same (record { least = omega arith; most = omega arith; inside = omega arith }) e
  listed (roomless r u c f) number at e = same (record { least = omega arith; most = omega arith; inside = omega arith }) e
  listed (accepted r u c f) number at e = let z : ◌≡◌ {A = ℕ} 0 1 = cc in absurd (omega arith)

  -- every refusal is one of 1 to 14, its place at most the text's length
  pub refusal-numbers : (number at : ℕ) → answered (compile_of text room) ≡ Refused number at → Listed text number at
  refusal-numbers number at e = listed (answers text room) number at e
