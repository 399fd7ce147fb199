-- One of a few values is lawful where its number is, and each value is found by its number. How it is read, and its bounds.
use Rattle.std.specs.Prelude.{◌≡◌, List, [], ◌∷◌, Bool, true, false, ℕ, eqb}
use Rattle.std.proofs.Math.Path.{refl}
use Rattle.std.proofs.Common.{sym, ap, ◌∙◌, arith, eqb-true}
use Rattle.std.proofs.Math.Option.{none, some}
use Rattle.codec.specs.Readings.{got, no}
use Rattle.codec.specs.Codecs.{Codec, Lawful, Bounded}
use Rattle.codec.specs.Views.{view_get, when_true}
use Rattle.codec.specs.Tags.{or_else, numbered, enum}
use Rattle.codec.proofs.Views.{view-lawful, view-bounded}

pub numbered-same : {A : Type 0} (number : A → ℕ) (xs : List A) (n : ℕ) (b : A) → numbered number xs n ≡ some b → number b ≡ n
numbered-same number [] n b e = absurd (let z : ◌≡◌ {A = ℕ} 0 1 = cc in omega arith)
numbered-same number (a ∷ xs) n b e = go (eqb (number a) n) refl (λ q. numbered-same number xs n b q) e
  where
    go : (t : Bool) → eqb (number a) n ≡ t → (numbered number xs n ≡ some b → number b ≡ n) → or_else (when_true t a) (numbered number xs n) ≡ some b → number b ≡ n
    go true p f q = let r : a ≡ b = cc in ap number (sym r) ∙ eqb-true (number a) n p
    go false p f q = f q

module _ {A : Type 0} (c : Codec ℕ) (e : ℕ) (number : A → ℕ) (all : List A) where
  pub enum_same : (n : ℕ) (a : A) → c.ok n ≡ true → numbered number all n ≡ some a → (number a ≡ n) × (true ≡ true)
  enum_same n a h p = (numbered-same number all n a p, refl)

  pub enum-no : {bs : List ℕ} {n : ℕ} → c.get bs ≡ no n → (enum c e number all).get bs ≡ no n
  unfolding enum view_get
  enum-no p = rw p refl

  pub enum-fails : {bs r : List ℕ} {n : ℕ} → c.get bs ≡ got n r → numbered number all n ≡ none → (enum c e number all).get bs ≡ no e
  unfolding enum view_get
  enum-fails p q = rw (p, q) refl

  pub enum-bounded : {P : ℕ → Type 0} {n : ℕ} → P e → Bounded P n c → Bounded P n (enum c e number all)
  unfolding enum
  enum-bounded h f = view-bounded c e number (numbered number all) (λ a. true) h f

  module _ (known : (a : A) → numbered number all (number a) ≡ some a) where
    pub enum-lawful : Lawful c → Lawful (enum c e number all)
    unfolding enum
    enum-lawful f = view-lawful c e number (numbered number all) (λ a. true) f (λ a h. known a) enum_same

    pub enum-got : {bs r : List ℕ} (a : A) → c.get bs ≡ got (number a) r → (enum c e number all).get bs ≡ got a r
    unfolding enum view_get
    enum-got a p = rw (p, known a) refl
