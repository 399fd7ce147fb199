-- Where the rules stand in text order, the first that is broken is the leftmost. Keys put offsets first, then numbers.
use Rattle.std.specs.Prelude.{ℕ, ◌+◌, ◌*◌, ◌≤◌, ◌≡◌, refl, List, [], ◌∷◌, ◌++◌, Bool, true, false, cond, ltb, Ok, Err}
use Rattle.std.proofs.Common.{ap, inl, inr, ⊎_elim, arith, ltb-true, ltb-false}
use Rattle.refusals.specs.Verdicts.{Verdict, No}
use Rattle.refusals.specs.Checks.{Check, check, Cause, Precedes, Leftmost, first}

abbrev pub key : ℕ → ℕ → ℕ
key number at = at * 32 + number

abbrev pub key_of : Check → ℕ
key_of c = key c.number c.at

-- a number of the table's rows 4 to 12
abbrev pub OfTable : ℕ → Type 0
OfTable number = (4 ≤ number) × (number ≤ 12)

-- the keys rise from lo up to hi
abbrev pub Chain : ℕ → List Check → ℕ → Type 0
Chain lo [] hi = lo ≤ hi
Chain lo (c ∷ cs) hi = (lo ≤ key_of c) × OfTable c.number × Chain (key_of c) cs hi

precedes : (n a m b : ℕ) → OfTable n → OfTable m → key n a ≤ key m b → Precedes n a m b
precedes n a m b h k e = go (ltb a b) refl
  where
    go : (t : Bool) → ltb a b ≡ t → Precedes n a m b
    go true q = inl (ltb-true a b q)
    go false q = let r = ltb-false a b q in inr (omega arith, omega arith)

chain-up : (lo hi : ℕ) (cs : List Check) → Chain lo cs hi → lo ≤ hi
chain-up lo hi [] h = h
chain-up lo hi (c ∷ cs) h = let k = chain-up (key_of c) hi cs h.2 in omega arith

-- what is broken in a chain has its key in it, and a number of the table
pub inside : (lo hi : ℕ) (cs : List Check) → Chain lo cs hi → (n a : ℕ) → Cause cs n a → (lo ≤ key n a) × OfTable n × (key n a ≤ hi)
unfolding Cause
inside lo hi [] h n a e = absurd e
inside lo hi (c ∷ cs) h n a (inl e) =
    let x = ap (λ (c : Check). c.number) e in
    let y = ap (λ (c : Check). c.at) e in
    let k = chain-up (key_of c) hi cs h.2 in
    (omega (arith, x, y, h.0), (omega (arith, x, h.1.0), omega (arith, x, h.1.1)), omega (arith, x, y, k))
inside lo hi (c ∷ cs) h n a (inr e) = let z = inside (key_of c) hi cs h.2 n a e in (omega (arith, z.0, h.0), z.1, z.2)

not-both : {b : Bool} → b ≡ false → b ≡ true → ⊥
not-both p q = let z : ◌≡◌ {A = ℕ} 0 1 = cc in omega arith

-- a rule that is kept adds no cause
kept : (c : Check) (cs : List Check) (v : Verdict) → c.broken ≡ false → Leftmost cs v → Leftmost (c ∷ cs) v
unfolding Cause
kept c cs (Ok fine) e r = λ n a. ⊎_elim (λ p. not-both e (ap (λ (c : Check). c.broken) p)) (r n a)
kept c cs (Err r) e l = (inr l.0, λ m b. ⊎_elim (λ p. absurd (not-both e (ap (λ (c : Check). c.broken) p))) (l.1 m b))

pub chain-leftmost : (lo hi : ℕ) (cs : List Check) → Chain lo cs hi → Leftmost cs (first cs)
unfolding first Cause
chain-leftmost lo hi [] h = λ n a e. e
chain-leftmost lo hi (c ∷ cs) h = go c.broken refl (chain-leftmost (key_of c) hi cs h.2)
  where
    here : c.broken ≡ true → (m b : ℕ) → Cause (c ∷ cs) m b → Precedes c.number c.at m b
    here e m b = ⊎_elim (λ p. inr (ap (λ (c : Check). c.at) p, omega (arith, ap (λ (c : Check). c.number) p))) (λ p. let z = inside (key_of c) hi cs h.2 m b p in precedes c.number c.at m b h.1 z.1 z.0)

    go : (t : Bool) → c.broken ≡ t → Leftmost cs (first cs) → Leftmost (c ∷ cs) (cond t (No c.number c.at) (first cs))
    go true e r = (inl (ap (check c.number c.at) e), here e)
    go false e r = kept c cs (first cs) e r

chain-down : (lo mid hi : ℕ) (cs : List Check) → lo ≤ mid → Chain mid cs hi → Chain lo cs hi
chain-down lo mid hi [] h k = omega arith
chain-down lo mid hi (c ∷ cs) h k = (omega (arith, k.0), k.1, k.2)

pub chain-append : (lo mid hi : ℕ) (cs ds : List Check) → Chain lo cs mid → Chain mid ds hi → Chain lo (cs ++ ds) hi
chain-append lo mid hi [] ds h k = chain-down lo mid hi ds h k
chain-append lo mid hi (c ∷ cs) ds h k = (h.0, h.1, chain-append (key_of c) mid hi cs ds h.2 k)
