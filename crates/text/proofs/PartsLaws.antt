-- Values and ports go forward, and their parts stand in text order.
use Rattle.std.specs.Prelude.{ℕ, ◌≤◌, ◌≡◌, List, Bool, true, false, cond}
use Rattle.std.proofs.Math.Path.{refl}
use native.Mathlib.Omega.{arith}
use Rattle.text.specs.declared.Token.TheVariants as T
use Rattle.text.specs.declared.Got.{Got}
use Rattle.text.specs.declared.Port.{Port}
use Rattle.text.specs.declared.ReadPort.{ReadPort}
use Rattle.text.specs.declared.Literal.{Literal}
use Rattle.text.specs.declared.Literal.TheVariants.{Truth, Number, Named}
use Rattle.text.specs.declared.ReadLiteral.{ReadLiteral}
use Rattle.text.specs.Tokens.{stands}
use Rattle.text.specs.Expect.{want}
use Rattle.text.specs.ExpectLaws.{Kept}
use Rattle.text.proofs.ExpectLaws.{want-follows, any-follows, want_kept, any-kept}
use Rattle.text.specs.Productions.{truth_at, minus_at, number_at, named_at, literal_at, port_at}
use Rattle.text.specs.Laid.{PortLaid, LiteralLaid}
-- ---- values

use Rattle.text.specs.PartsLaws.{LiteralGood, PortGood}

pub literal-wide : (low high low' high' : ℕ) (literal : Literal) → low' ≤ low → high ≤ high' → LiteralLaid low high literal → LiteralLaid low' high' literal
literal-wide low high low' high' (Truth at truth) h k l = omega arith
literal-wide low high low' high' (Number at digits minus) h k l = omega arith
literal-wide low high low' high' (Named name) h k l = omega arith

cond-literal : {s : List ℕ} {at : ℕ} {g : Got} {x y : ReadLiteral} (b : Bool) → LiteralGood s at g x → LiteralGood s at g y → LiteralGood s at g (cond b x y)
cond-literal true p q = p
cond-literal false p q = q

-- a reading with its parts named once more
again : {s : List ℕ} {at : ℕ} {g : Got} → Kept s at g → Kept s at (record { bad = g.bad; start = g.start; end = g.end })
again f = record { on = f.on; out = f.out }

module _ (s : List ℕ) (at : ℕ) (g : Got) (f : Kept s at g) where
  truth-good : (truth : Bool) → LiteralGood s at g (truth_at s g truth)
  unfolding truth_at
  truth-good truth = record {
    follows = λ z. let a = any-follows z in record { fine = a.fine; some = omega arith; high = a.high; laid = omega arith };
    kept = again (any-kept f);
  }

  minus-good : LiteralGood s at g (minus_at s g)
  unfolding minus_at
  minus-good = record {
    follows = λ z. let b = want-follows T.Number refl z in let a = want-follows T.Minus refl b.fine in record { fine = a.fine; some = omega arith; high = b.high; laid = omega arith };
    kept = again (want_kept T.Number (want_kept T.Minus f));
  }

  number-good : LiteralGood s at g (number_at s g)
  unfolding number_at
  number-good = record {
    follows = λ z. let a = want-follows T.Number refl z in record { fine = a.fine; some = omega arith; high = a.high; laid = omega arith };
    kept = again (want_kept T.Number f);
  }

  named-good : LiteralGood s at g (named_at s g)
  unfolding named_at
  named-good = record {
    follows = λ z. let a = want-follows T.Name refl z in record { fine = a.fine; some = omega arith; high = a.high; laid = omega arith };
    kept = again (want_kept T.Name f);
  }

  pub literal-good : LiteralGood s at g (literal_at s g)
  unfolding literal_at
  literal-good =
      cond-literal (stands T.KeyTrue s g.end) (truth-good true) (
      cond-literal (stands T.KeyFalse s g.end) (truth-good false) (
      cond-literal (stands T.Minus s g.end) minus-good (
      cond-literal (stands T.Number s g.end) number-good named-good)))

-- ---- ports

pub port-wide : (low high low' high' : ℕ) (port : Port) → low' ≤ low → high ≤ high' → PortLaid low high port → PortLaid low' high' port
port-wide low high low' high' port h k l =
    let first = l.first in
    record { first = omega arith; second = λ d. let second = l.second d in omega arith }

cond-port : {s : List ℕ} {at : ℕ} {g : Got} {x y : ReadPort} (b : Bool) → PortGood s at g x → PortGood s at g y → PortGood s at g (cond b x y)
cond-port true p q = p
cond-port false p q = q

pub unsaid : false ≡ true → ⊥
unsaid e = let z : ◌≡◌ {A = ℕ} 0 1 = cc in omega arith

pub port-good : (s : List ℕ) (at : ℕ) (g : Got) → Kept s at g → PortGood s at g (port_at s g)
unfolding port_at
port-good s at g f =
    cond-port (stands T.Dot s (want T.Name s g).end)
    (record {
      follows = λ z.
          let c = want-follows T.Name refl z in
          let b = want-follows T.Dot refl c.fine in
          let a = want-follows T.Name refl b.fine in
          record { fine = a.fine; some = omega arith; high = c.high; laid = record { first = omega arith; second = λ d. omega arith } };
      kept = again (want_kept T.Name (want_kept T.Dot (want_kept T.Name f)));
    })
    (record {
      follows = λ z.
          let a = want-follows T.Name refl z in
          record { fine = a.fine; some = omega arith; high = a.high; laid = record { first = omega arith; second = λ d. absurd (unsaid d) } };
      kept = again (want_kept T.Name f);
    })
