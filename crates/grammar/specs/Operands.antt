-- The values, ports and arguments of a production go along the grammar, and are the ones that it reads there.
use Rattle.std.specs.Prelude.{ℕ, ◌≡◌, ◌↔◌, List, [], ◌∷◌, ◌++◌, true, false}
use Rattle.text.specs.declared.Token.TheVariants as T
use Rattle.text.specs.declared.Got.{Got}
use Rattle.text.specs.declared.Port as P
use Rattle.text.specs.declared.State.{State}
use Rattle.text.specs.declared.Item.{Item}
use Rattle.text.specs.declared.Item.TheVariants as I
use Rattle.text.specs.declared.ReadItem.{ReadItem}
use Rattle.text.specs.declared.ReadPort.{ReadPort}
use Rattle.text.specs.declared.ReadLiteral.{ReadLiteral}
use Rattle.text.specs.Expect.{read}
use Rattle.text.specs.Productions.{past_literal, past_port}
use Rattle.text.specs.Items.{goes, refuse}
use Rattle.grammar.specs.Expressions.{Letter, Expression, ◌⊙◌, reads, Word}
use Rattle.grammar.specs.Making.{is_a, letter_at, value_in, past_value, port_in}
use Rattle.grammar.specs.Grammar.{Module}
use Rattle.grammar.specs.Judgement.{letters, tokens_of, Judged}
use Rattle.grammar.specs.Firsts.{firsts}
use Rattle.grammar.specs.Readings.{Ready, Goes}
use Rattle.grammar.specs.States.{Known}
use Rattle.grammar.specs.Taken.{bare}

-- what was read: an item as the grammar reads it, behind which the grammar is known again; the grammar's refusal; or the end of a word, read as nothing else
pub data Reads (s : List ℕ) (outs : List Item) : ReadItem → Type 0 where
  on : {item : Item} {state : State} {next : ℕ} {q : Expression} → goes item ≡ true → Known state q → Ready Module s (outs ++ (bare item ∷ [])) (firsts q) next → Reads s outs (read item state next)
  out : {number at : ℕ} {state : State} {next : ℕ} → Judged Module s (refuse number at) → Reads s outs (read (I.No number at) state next)
  ends : {state : State} {next : ℕ} → ((items : List Item) → Word Module (letters s (tokens_of s)) items ↔ items ≡ outs ++ (I.End ∷ [])) → Reads s outs (read I.End state next)

-- a value inside what is read as an item: what was taken, and the literal that it is
pub record Valued (s : List ℕ) (outs : List Item) (make : List Letter → Item) (x k : Expression) (g : Got) (r : ReadLiteral) : Type 0 where
  pub took : List Letter
  pub goes : Goes Module s outs (firsts (reads (λ u. make (took ++ u)) x ⊙ k)) (past_literal r)
  pub value : r.bad ≡ 0 → (u : List Letter) → value_in (took ++ u) ≡ r.literal
  pub past : r.bad ≡ 0 → (u : List Letter) → past_value (took ++ u) ≡ u
  pub back : r.bad ≡ 0 → g.bad ≡ 0

-- a port so
pub record Ported (s : List ℕ) (outs : List Item) (make : List Letter → Item) (x k : Expression) (g : Got) (r : ReadPort) : Type 0 where
  pub took : List Letter
  pub goes : Goes Module s outs (firsts (reads (λ u. make (took ++ u)) x ⊙ k)) (past_port r)
  pub port : r.bad ≡ 0 → (u : List Letter) → is_a T.Dot (letter_at 0 u) ≡ false → port_in (took ++ u) ≡ r.port
  pub back : r.bad ≡ 0 → g.bad ≡ 0

-- a port that is an item
pub record Argued (s : List ℕ) (outs : List Item) (make : P.Port → Item) (k : Expression) (g : Got) (r : ReadPort) : Type 0 where
  pub item : Item
  pub is : r.bad ≡ 0 → item ≡ make r.port
  pub goes : Goes Module s (outs ++ (item ∷ [])) (firsts k) (past_port r)
