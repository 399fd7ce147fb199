-- Laws of checks: no second answer is leftmost; and how a list of rules answers part by part.
use Rattle.std.specs.Prelude.{ℕ, ◌≡◌, refl, List, [], ◌∷◌, ◌++◌, Bool, true, false, cond, Ok, Err}
use Rattle.std.proofs.Common.{sym, ap, ◌∙◌, inl, inr, arith}
use Rattle.refusals.specs.Verdicts.{Verdict, Fine, No}
use Rattle.refusals.specs.Checks.{Check, Precedes, Leftmost, first, is_fine}

-- ---- no second answer fits

one_place : (n a m b : ℕ) → Precedes n a m b → Precedes m b n a → (n ≡ m) × (a ≡ b)
one_place n a m b (inl h) (inl k) = absurd (omega arith)
one_place n a m b (inl h) (inr k) = absurd (omega arith)
one_place n a m b (inr h) (inl k) = absurd (omega arith)
one_place n a m b (inr h) (inr k) = (omega arith, omega arith)

pub leftmost-unique : (cs : List Check) (v w : Verdict) → Leftmost cs v → Leftmost cs w → v ≡ w
leftmost-unique cs (Ok x) (Ok y) p q = refl
leftmost-unique cs (Ok x) (Err r) p q = absurd (p r.number r.at q.0)
leftmost-unique cs (Err r) (Ok y) p q = absurd (q r.number r.at p.0)
leftmost-unique cs (Err r) (Err other) p q =
    let e = one_place r.number r.at other.number other.at (p.1 other.number other.at q.0) (q.1 r.number r.at p.0) in
    rw (e.0, e.1)

-- ---- part by part

-- the first answer, or where it is fine the second
abbrev pub or_else : Verdict → Verdict → Verdict
or_else (Ok fine) w = w
or_else (Err r) w = Err r

pub first-append : (cs ds : List Check) → first (cs ++ ds) ≡ or_else (first cs) (first ds)
unfolding first
first-append [] ds = refl
first-append (c ∷ cs) ds = go c.broken (first-append cs ds)
  where
    go : (b : Bool) → first (cs ++ ds) ≡ or_else (first cs) (first ds) → cond b (No c.number c.at) (first (cs ++ ds)) ≡ or_else (cond b (No c.number c.at) (first cs)) (first ds)
    go true e = refl
    go false e = e

-- none in the first part: the second decides
pub first_on : (cs ds : List Check) → first cs ≡ Fine → first (cs ++ ds) ≡ first ds
first_on cs ds e = first-append cs ds ∙ rw e

or-stop : (v w : Verdict) → is_fine v ≡ false → or_else v w ≡ v
or-stop (Ok fine) w e = let z : ◌≡◌ {A = ℕ} 0 1 = cc in absurd (omega arith)
or-stop (Err r) w e = refl

-- one in the first part decides
pub first-stop : (cs ds : List Check) → is_fine (first cs) ≡ false → first (cs ++ ds) ≡ first cs
first-stop cs ds e = first-append cs ds ∙ or-stop (first cs) (first ds) e

-- how a function that asks part by part answers for the whole
pub part-ends : {v : Verdict} (cs ds : List Check) → v ≡ first cs → is_fine v ≡ false → v ≡ first (cs ++ ds)
part-ends {v} cs ds e f = e ∙ sym (first-stop cs ds (ap is_fine (sym e) ∙ f))

pub part-goes : {v w : Verdict} (cs ds : List Check) → w ≡ first cs → w ≡ Fine → v ≡ first ds → v ≡ first (cs ++ ds)
part-goes {v} {w} cs ds e f g = g ∙ sym (first_on cs ds (sym e ∙ f))

-- ---- what a fine answer says of its parts

fine-both : (v w : Verdict) → or_else v w ≡ Fine → (v ≡ Fine) × (w ≡ Fine)
fine-both (Ok fine) w e = (refl, e)
fine-both (Err r) w e = let z : ◌≡◌ {A = ℕ} 0 1 = cc in absurd (omega arith)

pub fine-parts : (cs ds : List Check) → first (cs ++ ds) ≡ Fine → (first cs ≡ Fine) × (first ds ≡ Fine)
fine-parts cs ds e = fine-both (first cs) (first ds) (sym (first-append cs ds) ∙ e)

pub fine-one : (c : Check) (cs : List Check) → first (c ∷ cs) ≡ Fine → (c.broken ≡ false) × (first cs ≡ Fine)
unfolding first
fine-one c cs e = go c.broken refl e
  where
    go : (b : Bool) → c.broken ≡ b → cond b (No c.number c.at) (first cs) ≡ Fine → (c.broken ≡ false) × (first cs ≡ Fine)
    go true p q = let z : ◌≡◌ {A = ℕ} 0 1 = cc in absurd (omega arith)
    go false p q = (p, q)
