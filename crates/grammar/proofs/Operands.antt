-- The values, ports and arguments of a production go along the grammar, and are the ones that it reads there.
use Rattle.std.specs.Prelude.{ℕ, ◌≡◌, List, [], ◌∷◌, ◌++◌, Bool, true, false, cond, eqb, ltb}
use Rattle.std.proofs.Math.Path.{refl}
use Rattle.std.proofs.Common.{ap, eqb-true}
use Rattle.std.proofs.lemmas.Bool.{eqb-false}
use Rattle.text.specs.declared.Token.{Token}
use Rattle.text.specs.declared.Token.TheVariants as T
use Rattle.text.specs.declared.Got.{Got}
use Rattle.text.specs.declared.Port as P
use Rattle.text.specs.declared.Literal.TheVariants.{Truth}
use Rattle.text.specs.declared.State.{State}
use Rattle.text.specs.declared.Item.{Item}
use Rattle.text.specs.declared.Item.TheVariants as I
use Rattle.text.specs.declared.ReadPort.{ReadPort}
use Rattle.text.specs.declared.ReadLiteral.{ReadLiteral}
use Rattle.text.specs.Tokens.{token_at, code_of, stands}
use Rattle.text.specs.Expect.{want, want_any, closed}
use Rattle.text.proofs.ExpectLaws.{any-follows}
use Rattle.text.specs.WantLaws.{closed-took, closed-refused}
use Rattle.text.specs.Productions.{truth_at, minus_at, number_at, named_at, literal_at, port_at}
use Rattle.text.specs.Items.{refused_at, goes}
use Rattle.grammar.specs.Expressions.{Letter, kind, Expression, nothing, one, ◌⊙◌, reads}
use Rattle.grammar.specs.Making.{value_in, past_value, port_in, as_section, with_count}
use Rattle.grammar.specs.Grammar.{lit, name, opt, Value, Port, Module}
use Rattle.grammar.specs.Judgement.{letter}
use Rattle.grammar.specs.Firsts.{firsts, past}
use Rattle.grammar.specs.Readings.{Goes, want-goes, any-goes, keep, lose, fork, none-goes, after-goes, chain, chained, taken, group-goes, last_goes}
use Rattle.grammar.specs.States.{Known, finishes}
use Rattle.grammar.specs.Taken.{bare, back, name-eq, start-eq, any-start-eq, not-other}
use Rattle.grammar.specs.Operands.{Argued, Ported, Reads, Valued, on, out}

pub pick : {A : Type 0} (P : A → Type 0) (b : Bool) {x y : A} → (b ≡ true → P x) → (b ≡ false → P y) → P (cond b x y)
pick P true p q = p refl
pick P false p q = q refl

module _ {s : List ℕ} {outs : List Item} where
  pub closed-reads : (item made : Item) {state : State} {last : Got} {q : Expression} → goes item ≡ true → Known state q → (last.bad ≡ 0 → made ≡ bare item) → Goes Module s (outs ++ (made ∷ [])) (firsts q) last → Reads s outs (closed item state last)
  closed-reads item made {state} {last} {q} g k m h = by (eqb last.bad 0) refl
    where
      by : (b : Bool) → eqb last.bad 0 ≡ b → Reads s outs (closed item state last)
      by true e = let z = eqb-true _ _ e in rw (closed-took item state last z) (on g k (rw (m z) at (h.on z)))
      by false e = let n = eqb-false _ _ e in rw (closed-refused item state last n) (out (h.out n))

  pub refused-reads : {g : Got} → g.bad ≡ 0 → Goes Module s outs [] g → Reads s outs (refused_at s g)
  unfolding refused_at with_count
  refused-reads {g} z h = closed-reads I.Section I.Section refl finishes (λ e. refl) (none-goes h z)

  pub section-goes : (t : Token) (k : Expression) {g : Got} → ltb (code_of t) 36 ≡ true → stands t s g.end ≡ true → Goes Module s outs (firsts (reads as_section (one (kind t)) ⊙ k)) g → Goes Module s (outs ++ (I.Section ∷ [])) (firsts k) (want_any s g)
  unfolding firsts
  section-goes t k c e h = after-goes (I.Section ∷ []) (any-goes t (λ l. reads (λ u. as_section (l ∷ u)) nothing ⊙ k) c e h)

  -- ---- values
  pub literal-goes : (make : List Letter → Item) (x k : Expression) {g : Got} → Goes Module s outs (firsts (reads make (Value ⊙ x) ⊙ k)) g → Valued s outs make x k g (literal_at s g)
  unfolding lit literal_at truth_at minus_at number_at named_at Value firsts keep lose chain chained taken value_in past_value
  literal-goes make x k {g} h =
      let l = letter s (token_at s g.end) in
      fork (λ (r : ReadLiteral). Valued s outs make x k g r) T.KeyTrue h (λ e p. record {
        took = l ∷ [];
        goes = any-goes T.KeyTrue (λ m. reads (λ u. make (m ∷ u)) x ⊙ k) refl e p;
        value = λ z u. rw e (ap (λ (n : ℕ). Truth n true) (any-start-eq s T.KeyTrue g refl e z));
        past = λ z u. rw (not-other s T.KeyTrue T.Minus g.end refl e);
        back = λ z. (any-follows z).fine;
      }) (λ a h.
      fork (λ (r : ReadLiteral). Valued s outs make x k g r) T.KeyFalse h (λ e p. record {
        took = l ∷ [];
        goes = any-goes T.KeyFalse (λ m. reads (λ u. make (m ∷ u)) x ⊙ k) refl e p;
        value = λ z u. rw (a, e) (ap (λ (n : ℕ). Truth n false) (any-start-eq s T.KeyFalse g refl e z));
        past = λ z u. rw (not-other s T.KeyFalse T.Minus g.end refl e);
        back = λ z. (any-follows z).fine;
      }) (λ b h.
      fork (λ (r : ReadLiteral). Valued s outs make x k g r) T.Minus h (λ e p. record {
        took = taken (T.Minus ∷ T.Number ∷ []) s g;
        goes = group-goes (T.Minus ∷ T.Number ∷ []) make x k refl p;
        value = λ z u. (let y = back s T.Number (want T.Minus s g) z in let i = start-eq s T.Minus g y in let j = name-eq s T.Number (want T.Minus s g) z in rw (a, b, e) (cc));
        past = λ z u. rw e;
        back = λ z. back s T.Minus g (back s T.Number (want T.Minus s g) z);
      }) (λ c h.
      fork (λ (r : ReadLiteral). Valued s outs make x k g r) T.Number h (λ e p. record {
        took = l ∷ [];
        goes = want-goes T.Number (λ m. reads (λ u. make (m ∷ u)) x ⊙ k) refl p;
        value = λ z u. (let i = start-eq s T.Number g z in let j = name-eq s T.Number g z in rw (a, b, c, e) (cc));
        past = λ z u. rw c;
        back = λ z. back s T.Number g z;
      }) (λ d h. record {
        took = l ∷ [];
        goes = want-goes T.Name (λ m. reads (λ u. make (m ∷ u)) x ⊙ k) refl h;
        value = λ z u. (let j = name-eq s T.Name g z in rw (a, b, c, d) (cc));
        past = λ z u. rw c;
        back = λ z. back s T.Name g z;
      }))))

  -- ---- ports
  pub port-goes : (make : List Letter → Item) (k : Expression) {g : Got} → Goes Module s outs (firsts (reads make (Port ⊙ lit ";") ⊙ k)) g → Ported s outs make (lit ";") k g (port_at s g)
  unfolding lit port_at Port firsts keep lose chain chained taken port_in
  port-goes make k {g} h =
      let l = letter s (token_at s g.end) in
      let n = want T.Name s g in
      fork (λ (r : ReadPort). Ported s outs make (lit ";") k g r) T.Dot (want-goes T.Name (λ m. reads (λ u. make (m ∷ u)) (opt (lit "." ⊙ name) ⊙ lit ";") ⊙ k) refl h) (λ e p. record {
        took = l ∷ taken (T.Dot ∷ T.Name ∷ []) s n;
        goes = group-goes (T.Dot ∷ T.Name ∷ []) (λ u. make (l ∷ u)) (lit ";") k refl p;
        port = λ z u d. (let y = back s T.Dot n (back s T.Name (want T.Dot s n) z) in let i = name-eq s T.Name g y in let j = name-eq s T.Name (want T.Dot s n) z in rw e (cc));
        back = λ z. back s T.Name g (back s T.Dot n (back s T.Name (want T.Dot s n) z));
      }) (λ e p. record {
        took = l ∷ [];
        goes = p;
        port = λ z u d. (let i = name-eq s T.Name g z in rw d (cc));
        back = λ z. back s T.Name g z;
      })

  -- what follows an argument is no dot
  pub arg-goes : (make : P.Port → Item) (k : Expression) {g : Got} → ((i : Item) → keep T.Dot (past (i ∷ []) (firsts k)) ≡ []) → ((i : Item) → lose T.Dot (past (i ∷ []) (firsts k)) ≡ past (i ∷ []) (firsts k)) →
      Goes Module s outs (firsts (reads (λ ts. make (port_in ts)) Port ⊙ k)) g → Argued s outs make k g (port_at s g)
  unfolding lit port_at Port firsts keep lose chain chained taken port_in
  arg-goes make k {g} a b h =
      let l = letter s (token_at s g.end) in
      let n = want T.Name s g in
      fork (λ (r : ReadPort). Argued s outs make k g r) T.Dot (want-goes T.Name (λ m. reads (λ u. make (port_in (m ∷ u))) (opt (lit "." ⊙ name)) ⊙ k) refl h) (λ e p. record {
        item = make (port_in (l ∷ (letter s (token_at s n.end) ∷ (letter s (token_at s (want T.Dot s n).end) ∷ []))));
        is = λ z. (let y = back s T.Dot n (back s T.Name (want T.Dot s n) z) in let i = name-eq s T.Name g y in let j = name-eq s T.Name (want T.Dot s n) z in rw e (cc));
        goes = last_goes T.Name (λ u. make (port_in (l ∷ (letter s (token_at s n.end) ∷ u)))) k refl (want-goes T.Dot (λ m. reads (λ u. make (port_in (l ∷ (m ∷ u)))) name ⊙ k) refl (rw (a (make (port_in (l ∷ [])))) at p));
      }) (λ e p. record {
        item = make (port_in (l ∷ []));
        is = λ z. (let i = name-eq s T.Name g z in cc);
        goes = after-goes (make (port_in (l ∷ [])) ∷ []) (rw (b (make (port_in (l ∷ [])))) at p);
      })
