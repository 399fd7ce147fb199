-- The productions of modes and activities go along the grammar, and their items are the ones that it reads there.
use Rattle.std.specs.Prelude.{ℕ, ◌≡◌, List, [], ◌∷◌, ◌++◌, Bool}
use Rattle.std.proofs.Math.Path.{refl}
use Rattle.std.proofs.Common.{◌∙◌}
use Rattle.std.proofs.Math.Bool.{true, false}
use Rattle.model.specs.Bytes.{bytes, same}
use Rattle.text.specs.declared.Token.TheVariants as T
use Rattle.text.specs.declared.Got.{Got}
use Rattle.text.specs.declared.Item.{Item}
use Rattle.text.specs.declared.Item.TheVariants as I
use Rattle.text.specs.declared.ReadItem.{ReadItem}
use Rattle.text.specs.Tokens.{token_at, stands}
use Rattle.text.specs.Expect.{want, want_any, want_word, either}
use Rattle.text.proofs.ExpectLaws.{word-follows}
use Rattle.text.specs.Productions.{past_port, port_at, mode_of, mode_at, activity_at, guard_at, guard_arg_at, invoke_at, arg_at, update_at, switch_at}
use Rattle.grammar.specs.Expressions.{Letter, Expression, ◌⊙◌, many, reads}
use Rattle.grammar.specs.Making.{as_mode_begin, as_activity, as_guard, as_guard_arg, as_invoke, as_arg, as_update, as_switch, with_count}
use Rattle.grammar.specs.Grammar.{lit, word, name, number, opt, list_of, Port, Arg, Guard, Act, Invoke, Update, Switch, Unit, Module}
use Rattle.grammar.specs.Judgement.{letter}
use Rattle.grammar.specs.Firsts.{firsts, past}
use Rattle.grammar.specs.Readings.{Goes, want-goes, any-goes, word-goes, either-goes, keep, lose, fork, chain, chained, taken, chain-goes, group-goes, last_goes}
use Rattle.grammar.specs.States.{switches, updates, invocations, mode_tail, Does, in-act, guarded, in-guard, in-call, mode-1, mode-2, mode-3, mode-4}
use Rattle.grammar.specs.Taken.{took, back, name-eq, start-eq, chain_back, any-start-eq, not-dot, begin-eq, unit-fine}
use Rattle.grammar.specs.Operands.{Reads}
use Rattle.grammar.proofs.Operands.{closed-reads, port-goes, arg-goes}

module _ {s : List ℕ} {outs : List Item} where
  -- ---- activities

  pub activity-reads : (k : ℕ) (c : Expression) {g : Got} → Does k c → Goes Module s outs (firsts (reads (as_activity k) (lit "[" ⊙ word "freq" ⊙ lit "=" ⊙ number ⊙ lit "]") ⊙ opt Guard ⊙ c)) g → Reads s outs (activity_at s k g)
  unfolding lit activity_at firsts chain chained taken with_count
  activity-reads k c {g} d h =
      let q = opt Guard ⊙ c in
      let b = want T.LeftBracket s g in
      let w = want_word (bytes "freq") s b in
      let e = want T.Equals s w in
      let n = want T.Number s e in
      let l = letter s (token_at s g.end) in
      let m = letter s (token_at s b.end) in
      let a = want-goes T.LeftBracket (λ l. reads (λ u. as_activity k (l ∷ u)) (word "freq" ⊙ lit "=" ⊙ number ⊙ lit "]") ⊙ q) refl h in
      let f = word-goes (bytes "freq") (λ m. reads (λ u. as_activity k (l ∷ (m ∷ u))) (lit "=" ⊙ number ⊙ lit "]") ⊙ q) a in
      closed-reads _ _ refl (in-act k c d)
      (λ z.
      let y = back s T.RightBracket n z in
      let x = back s T.Equals w (back s T.Number e y) in
      let i = start-eq s T.LeftBracket g (word-follows (bytes "freq") x).fine in
      let j = name-eq s T.Number e y in
      cc)
      (last_goes T.RightBracket (λ u. as_activity k (l ∷ (m ∷ (taken (T.Equals ∷ T.Number ∷ []) s w ++ u)))) q refl (group-goes (T.Equals ∷ T.Number ∷ []) (λ u. as_activity k (l ∷ (m ∷ u))) (lit "]") q refl f))

  pub guard-reads : (k : ℕ) (c : Expression) {g : Got} → Does k c → Goes Module s outs (firsts (Guard ⊙ c)) g → Reads s outs (guard_at s k g)
  unfolding lit list_of guard_at Guard Port firsts chain chained keep lose with_count
  guard-reads k c {g} d h =
      let w = want T.KeyIf s g in
      let n = want T.Name s w in
      let p = want T.LeftParen s n in
      let q = list_of (reads as_guard_arg Arg) ⊙ lit ")" ⊙ lit "then" ⊙ c in
      let f = want-goes T.LeftParen (λ l. q) refl (last_goes T.Name as_guard (lit "(" ⊙ q) refl (want-goes T.KeyIf (λ l. reads as_guard name ⊙ lit "(" ⊙ q) refl h)) in
      fork (λ (r : ReadItem). Reads s outs r) T.RightParen f
      (λ e a. closed-reads _ _ refl (guarded k c d) (λ z. let i = name-eq s T.Name w (chain_back s (T.LeftParen ∷ T.RightParen ∷ T.KeyThen ∷ []) n z) in cc) (chain-goes (T.RightParen ∷ T.KeyThen ∷ []) c refl a))
      (λ e a. closed-reads _ _ refl (in-guard k c d) (λ z. let i = name-eq s T.Name w (back s T.LeftParen n z) in cc) a)

  pub guard-arg-reads : (k : ℕ) (c : Expression) {g : Got} → Does k c → Goes Module s outs (firsts (reads as_guard_arg Arg ⊙ many (lit "," ⊙ reads as_guard_arg Arg) ⊙ lit ")" ⊙ lit "then" ⊙ c)) g → Reads s outs (guard_arg_at s k g)
  unfolding lit guard_arg_at firsts chain chained keep lose past with_count
  guard-arg-reads k c {g} d h =
      let q = many (lit "," ⊙ reads as_guard_arg Arg) ⊙ lit ")" ⊙ lit "then" ⊙ c in
      let p = arg-goes I.GuardArg q (λ i. refl) (λ i. refl) h in
      fork (λ (r : ReadItem). Reads s outs r) T.Comma p.goes
      (λ e a. closed-reads _ _ refl (in-guard k c d) (λ z. p.is (back s T.Comma _ z)) (want-goes T.Comma (λ l. reads as_guard_arg Arg ⊙ q) refl a))
      (λ e a. closed-reads _ _ refl (guarded k c d) (λ z. p.is (chain_back s (T.RightParen ∷ T.KeyThen ∷ []) _ z)) (chain-goes (T.RightParen ∷ T.KeyThen ∷ []) c refl a))

  pub invoke-reads : {g : Got} → Goes Module s outs (firsts (Invoke ⊙ many (Act 2 ⊙ Invoke) ⊙ invocations)) g → Reads s outs (invoke_at s g)
  unfolding lit list_of invoke_at Invoke Port firsts chain chained keep lose with_count
  invoke-reads {g} h =
      let k = many (Act 2 ⊙ Invoke) ⊙ invocations in
      let n = want T.Name s g in
      let q = list_of (reads as_arg Port) ⊙ lit ")" ⊙ lit ";" ⊙ k in
      fork (λ (r : ReadItem). Reads s outs r) T.RightParen (want-goes T.LeftParen (λ l. q) refl (last_goes T.Name as_invoke (lit "(" ⊙ q) refl h))
      (λ e a. closed-reads _ _ refl mode-2 (λ z. let i = name-eq s T.Name g (chain_back s (T.LeftParen ∷ T.RightParen ∷ T.Semicolon ∷ []) n z) in cc) (chain-goes (T.RightParen ∷ T.Semicolon ∷ []) k refl a))
      (λ e a. closed-reads _ _ refl in-call (λ z. let i = name-eq s T.Name g (back s T.LeftParen n z) in cc) a)

  pub arg-reads : {g : Got} → Goes Module s outs (firsts (reads as_arg Port ⊙ many (lit "," ⊙ reads as_arg Port) ⊙ lit ")" ⊙ lit ";" ⊙ many (Act 2 ⊙ Invoke) ⊙ invocations)) g → Reads s outs (arg_at s g)
  unfolding lit arg_at firsts chain chained keep lose past with_count
  arg-reads {g} h =
      let k = many (Act 2 ⊙ Invoke) ⊙ invocations in
      let q = many (lit "," ⊙ reads as_arg Port) ⊙ lit ")" ⊙ lit ";" ⊙ k in
      let p = arg-goes I.Arg q (λ i. refl) (λ i. refl) h in
      fork (λ (r : ReadItem). Reads s outs r) T.Comma p.goes
      (λ e a. closed-reads _ _ refl in-call (λ z. p.is (back s T.Comma _ z)) (want-goes T.Comma (λ l. reads as_arg Port ⊙ q) refl a))
      (λ e a. closed-reads _ _ refl mode-2 (λ z. p.is (chain_back s (T.RightParen ∷ T.Semicolon ∷ []) _ z)) (chain-goes (T.RightParen ∷ T.Semicolon ∷ []) k refl a))

  pub update-reads : {g : Got} → Goes Module s outs (firsts (Update ⊙ many (Act 3 ⊙ Update) ⊙ updates)) g → Reads s outs (update_at s g)
  unfolding lit update_at Update firsts chain chained taken with_count
  update-reads {g} h =
      let k = many (Act 3 ⊙ Update) ⊙ updates in
      let n = want T.Name s g in
      let b = want T.Becomes s n in
      let f = taken (T.Name ∷ T.Becomes ∷ []) s g in
      let v = port-goes (λ u. as_update (f ++ u)) k (group-goes (T.Name ∷ T.Becomes ∷ []) as_update (Port ⊙ lit ";") k refl h) in
      closed-reads _ _ refl mode-3
      (λ z.
      let c = took s T.Semicolon (past_port (port_at s b)) z in
      let y = c.0 in
      let i = name-eq s T.Name g (back s T.Becomes n (v.back y)) in
      let j = v.port y (letter s (token_at s (port_at s b).end) ∷ []) (not-dot s (past_port (port_at s b)) z) in
      cc)
      (last_goes T.Semicolon (λ u. as_update (f ++ (v.took ++ u))) k refl v.goes)

  pub switch-reads : {g : Got} → Goes Module s outs (firsts (Switch ⊙ many (Act 4 ⊙ Switch) ⊙ switches)) g → Reads s outs (switch_at s g)
  unfolding lit switch_at Switch firsts chain chained with_count
  switch-reads {g} h =
      let k = many (Act 4 ⊙ Switch) ⊙ switches in
      let n = want T.Name s g in
      closed-reads _ (as_switch (letter s (token_at s g.end) ∷ [])) refl mode-4 (λ z. let i = name-eq s T.Name g (back s T.Semicolon n z) in cc)
      (want-goes T.Semicolon (λ l. k) refl (last_goes T.Name as_switch (lit ";" ⊙ k) refl h))

  -- ---- mode
  mode-of-reads : (start : Bool) (at : ℕ) (make : List Letter → Item) {g : Got} →
      (g.bad ≡ 0 → (a b c d e f h i : Letter) → make (a ∷ (b ∷ (c ∷ (d ∷ (e ∷ (f ∷ (h ∷ (i ∷ [])))))))) ≡ I.ModeBegin start at (record { start = a.start; end = a.end }) (record { start = e.start; end = e.end }) (same f.bytes (bytes "ms"))) →
      Goes Module s outs (firsts (reads make mode_tail ⊙ invocations)) g → Reads s outs (mode_of s start at g)
  unfolding lit mode_of mode_tail Unit firsts chain chained taken with_count
  mode-of-reads start at make {g} m h =
      let n = want T.Name s g in
      let b = want T.LeftBracket s n in
      let w = want_word (bytes "period") s b in
      let e = want T.Equals s w in
      let d = want T.Number s e in
      let u = either (want_word (bytes "ms") s d) (want_word (bytes "us") s d) in
      let c = want T.RightBracket s u in
      let l₁ = letter s (token_at s g.end) in
      let l₂ = letter s (token_at s n.end) in
      let l₃ = letter s (token_at s b.end) in
      let l₄ = letter s (token_at s w.end) in
      let l₅ = letter s (token_at s e.end) in
      let l₆ = letter s (token_at s d.end) in
      let l₇ = letter s (token_at s u.end) in
      let l₈ = letter s (token_at s c.end) in
      let h₁ = group-goes (T.Name ∷ T.LeftBracket ∷ []) make (word "period" ⊙ lit "=" ⊙ number ⊙ Unit ⊙ lit "]" ⊙ lit "{") invocations refl h in
      let h₂ = word-goes (bytes "period") (λ l. reads (λ v. make (l₁ ∷ (l₂ ∷ (l ∷ v)))) (lit "=" ⊙ number ⊙ Unit ⊙ lit "]" ⊙ lit "{") ⊙ invocations) h₁ in
      let h₃ = group-goes (T.Equals ∷ T.Number ∷ []) (λ v. make (l₁ ∷ (l₂ ∷ (l₃ ∷ v)))) (Unit ⊙ lit "]" ⊙ lit "{") invocations refl h₂ in
      let h₄ = either-goes (bytes "ms") (bytes "us") (λ l. reads (λ v. make (l₁ ∷ (l₂ ∷ (l₃ ∷ (l₄ ∷ (l₅ ∷ (l ∷ v))))))) (lit "]" ⊙ lit "{") ⊙ invocations) h₃ in
      let h₅ = group-goes (T.RightBracket ∷ []) (λ v. make (l₁ ∷ (l₂ ∷ (l₃ ∷ (l₄ ∷ (l₅ ∷ (l₆ ∷ v))))))) (lit "{") invocations refl h₄ in
      closed-reads _ _ refl mode-1
      (λ z.
      let x = unit-fine s d (back s T.RightBracket u (back s T.LeftBrace c z)) in
      let y = (word-follows (bytes "period") (back s T.Equals w (back s T.Number e x.0))).fine in
      let k = back s T.LeftBracket n y in
      m (back s T.Name g k) l₁ l₂ l₃ l₄ l₅ l₆ l₇ l₈ ∙ begin-eq (name-eq s T.Name g k) (name-eq s T.Number e x.0) x.1)
      (last_goes T.LeftBrace (λ v. make (l₁ ∷ (l₂ ∷ (l₃ ∷ (l₄ ∷ (l₅ ∷ (l₆ ∷ (l₇ ∷ v)))))))) invocations refl h₅)

  pub start-reads : {g : Got} → stands T.KeyStart s g.end ≡ true → Goes Module s outs (firsts (reads as_mode_begin (lit "start" ⊙ lit "mode" ⊙ mode_tail) ⊙ invocations)) g → Reads s outs (mode_at s g)
  unfolding lit mode_at firsts as_mode_begin
  start-reads {g} p h =
      let w = want_any s g in
      let l = letter s (token_at s g.end) in
      let m = letter s (token_at s w.end) in
      rw p (mode-of-reads true w.start (λ u. as_mode_begin (l ∷ (m ∷ u)))
      (λ z a b c d e f h i. rw (p, any-start-eq s T.KeyStart g refl p (back s T.KeyMode w z)))
      (want-goes T.KeyMode (λ m. reads (λ u. as_mode_begin (l ∷ (m ∷ u))) mode_tail ⊙ invocations) refl (any-goes T.KeyStart (λ l. reads (λ u. as_mode_begin (l ∷ u)) (lit "mode" ⊙ mode_tail) ⊙ invocations) refl p h)))

  pub mode-reads : {g : Got} → stands T.KeyStart s g.end ≡ false → Goes Module s outs (firsts (reads as_mode_begin (lit "mode" ⊙ mode_tail) ⊙ invocations)) g → Reads s outs (mode_at s g)
  unfolding lit mode_at firsts as_mode_begin
  mode-reads {g} p h =
      let l = letter s (token_at s g.end) in
      rw p (mode-of-reads false (want T.KeyMode s g).start (λ u. as_mode_begin (l ∷ u))
      (λ z a b c d e f h i. rw (p, start-eq s T.KeyMode g z))
      (want-goes T.KeyMode (λ l. reads (λ u. as_mode_begin (l ∷ u)) mode_tail ⊙ invocations) refl h))
