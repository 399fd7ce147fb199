-- What is read next, by the token that stands there.
use Rattle.std.specs.Prelude.{ℕ, ◌<◌, ◌≤◌, ◌≡◌, List, true, false}
use borrow.Author.Tests.{eq-eqb, ne_eqb, lt-ltb, le-ltb}
use Rattle.text.specs.declared.Token.{Token}
use Rattle.text.specs.declared.Token.TheVariants as T
use Rattle.text.specs.declared.Lexed.{Lexed}
use Rattle.text.specs.declared.Got.{Got}
use Rattle.text.specs.declared.State.{State}
use Rattle.text.specs.declared.Item.{Item}
use Rattle.text.specs.declared.Item.TheVariants.{No}
use Rattle.text.specs.Tokens.{token_at, code_of, is}
use Rattle.text.specs.Expect.{got, refusal, want, want_any, spells, want_word, read, closed}

module _ (l : Lexed) where
  pub refusal-two : is T.Bad l ≡ true → refusal l ≡ got 2 l.start l.start
  unfolding refusal
  refusal-two e = simp e

  pub refusal-three : is T.Bad l ≡ false → refusal l ≡ got 3 l.start l.start
  unfolding refusal
  refusal-three e = simp e

-- behind a refusal
module _ (s : List ℕ) (g : Got) (n : g.bad ≡ 0 → ⊥) where
  pub want-stuck : (t : Token) → want t s g ≡ g
  unfolding want
  want-stuck t = simp (ne_eqb _ _ n)

  pub any-stuck : want_any s g ≡ g
  unfolding want_any
  any-stuck = simp (ne_eqb _ _ n)

-- behind what was read: l is the next token
module _ (s : List ℕ) (g : Got) (l : Lexed) (b : g.bad ≡ 0) (p : l ≡ token_at s g.end) where
  pub want-took : (t : Token) → is t l ≡ true → want t s g ≡ got 0 l.start l.end
  unfolding want
  want-took t e = simp (← p, eq-eqb _ _ b, e)

  pub want-refused : (t : Token) → is t l ≡ false → want t s g ≡ refusal l
  unfolding want
  want-refused t e = simp (← p, eq-eqb _ _ b, e)

  pub any-took : code_of l.token < 36 → want_any s g ≡ got 0 l.start l.end
  unfolding want_any
  any-took h = simp (← p, eq-eqb _ _ b, lt-ltb _ _ h)

  pub any-refused : 36 ≤ code_of l.token → want_any s g ≡ refusal l
  unfolding want_any
  any-refused h = simp (← p, eq-eqb _ _ b, le-ltb _ _ h)

-- a given word: n is the name that was read
module _ (word s : List ℕ) (g n : Got) (p : n ≡ want T.Name s g) where
  pub word-stuck : (n.bad ≡ 0 → ⊥) → want_word word s g ≡ n
  unfolding want_word
  word-stuck z = simp (← p, ne_eqb _ _ z)

  pub word-took : n.bad ≡ 0 → spells s n.start n.end word ≡ true → want_word word s g ≡ n
  unfolding want_word
  word-took z e = simp (← p, eq-eqb _ _ z, e)

  pub word-refused : n.bad ≡ 0 → spells s n.start n.end word ≡ false → want_word word s g ≡ got 3 n.start n.start
  unfolding want_word
  word-refused z e = simp (← p, eq-eqb _ _ z, e)

module _ (item : Item) (state : State) (last : Got) where
  pub closed-took : last.bad ≡ 0 → closed item state last ≡ read item state last.end
  unfolding closed
  closed-took z = simp (eq-eqb _ _ z)

  pub closed-refused : (last.bad ≡ 0 → ⊥) → closed item state last ≡ read (No last.bad last.start) state last.end
  unfolding closed
  closed-refused n = simp (ne_eqb _ _ n)
