-- What is read of guards, arguments and what activities do is what the text's definition says of it.
use Rattle.std.specs.Prelude.{ℕ, ◌≡◌, refl, List, Ok, Err, Bool, true, false, cond}
use Rattle.std.proofs.Common.{ne_eqb}
use Rattle.text.specs.declared.Token.{Token}
use Rattle.text.specs.declared.Token.TheVariants as T
use Rattle.text.specs.declared.Name.{Name}
use Rattle.text.specs.declared.Port.{Port}
use Rattle.text.specs.declared.Got.{Got}
use Rattle.text.specs.declared.Refusal.{Refusal}
use Rattle.text.specs.declared.ReadPort.{ReadPort}
use Rattle.text.specs.declared.State.{State}
use Rattle.text.specs.declared.State.TheVariants as Q
use Rattle.text.specs.declared.Item.{Item}
use Rattle.text.specs.declared.Item.TheVariants as I
use Rattle.text.specs.declared.ReadItem.{ReadItem}
use Rattle.text.specs.Tokens.{token_at, is, stands}
use Rattle.text.specs.Expect.{from, got, want, name_of, closed}
use Rattle.text.specs.Productions.{past_port, port_at, count_at, guard_at, guard_arg_at, invoke_at, arg_at, update_at, switch_at}
use Rattle.wants.specs.Given.{taken, refused, see, behind-name, behind-refusal, ◌>>=◌}
use Rattle.productions.specs.Read.{Reads, closed_of, port_by, whole_of, listed_of, call_of, named_of, condition_of, invocation_of, guard_of, invoke_of, last_of, argument_of, guard_arg_of, arg_of, update_of, switch_of}
use Rattle.productions.specs.Read.{port_of as port_read}
use Rattle.productions.specs.ReadLaws.{found-is, here}

-- ---- ports

module _ (s : List ℕ) where
  pub port-behind-name : (name : Name) → port_at s (taken name) ≡ port_at s (from name.end)
  unfolding port_at want
  port-behind-name name = refl

  abbrev pub no_port : Refusal → Bool → ReadPort
  no_port r dotted = record { bad = r.number; start = r.at; end = r.at; port = record { first = name_of (refused r); second = name_of (refused r); dotted = dotted } }

  pub see-port : {P : Type 0} (at : ℕ)
      → ((port : Port) (start end : ℕ) → port_read s at ≡ Ok (port, token_at s end) → port_at s (from at) ≡ record { bad = 0; start = start; end = end; port = port } → P)
      → ((r : Refusal) → (r.number ≡ 0 → ⊥) → (port : Port) → port_read s at ≡ Err r → port_at s (from at) ≡ record { bad = r.number; start = r.at; end = r.at; port = port } → P)
      → P
  unfolding port_read port_by port_at
  see-port {P} at took gone = see T.Name s at (λ name e. by name e (is T.Dot (token_at s name.end)) refl) (λ r z e. out r z e (stands T.Dot s r.at) refl)
    where
      dot : Name → Name
      dot name = record { start = (token_at s name.end).start; end = (token_at s name.end).end }

      by : (name : Name) → want T.Name s (from at) ≡ taken name → (b : Bool) → is T.Dot (token_at s name.end) ≡ b → P
      by name e true q = see T.Name s (token_at s name.end).end
          (λ second f. took (record { first = name; second = second; dotted = true }) second.start second.end (simp (e, q, f)) (simp (e, q, behind-name s name, here s name.end T.Dot q, behind-name s (dot name), f)))
          (λ r z f. gone r z (record { first = name; second = name_of (refused r); dotted = true }) (simp (e, q, f, ne_eqb _ _ z)) (simp (e, q, behind-name s name, here s name.end T.Dot q, behind-name s (dot name), f)))
      by name e false q = took (record { first = name; second = name; dotted = false }) name.start name.end (simp (e, q)) (simp (e, q))

      out : (r : Refusal) → (r.number ≡ 0 → ⊥) → want T.Name s (from at) ≡ refused r → (b : Bool) → stands T.Dot s r.at ≡ b → P
      out r z e b q = gone r z (record { first = name_of (refused r); second = name_of (refused r); dotted = b }) (simp (e, ne_eqb _ _ z)) (simp (e, q, behind-refusal s r z) (same b))
        where
          same : (b : Bool) → cond b (no_port r true) (no_port r false) ≡ no_port r b
          same true = refl
          same false = refl

  module _ (r : Refusal) (z : r.number ≡ 0 → ⊥) where
    pub record NoPort (v : ReadPort) : Type 0 where
      pub bad : v.bad ≡ r.number
      pub start : v.start ≡ r.at
      pub end : v.end ≡ r.at

    neither : {v w : ReadPort} (b : Bool) → NoPort v → NoPort w → NoPort (cond b v w)
    neither true p q = p
    neither false p q = q

    pub port-gone : NoPort (port_at s (refused r))
    unfolding port_at
    port-gone = simp (behind-refusal s r z) (neither (stands T.Dot s r.at) (record { bad = refl; start = refl; end = refl }) (record { bad = refl; start = refl; end = refl }))

pub update-told : (s : List ℕ) (at : ℕ) → closed_of (Q.Mode 3) (update_of s (token_at s at)) ≡ update_at s (from at)
unfolding update_of update_at closed
update-told s at = simp (found-is s at) (
    see T.Name s at (λ actuator e. simp (e, behind-name s actuator) (
    see T.Becomes s actuator.end (λ becomes f. simp (f, port-behind-name s becomes) (
    see-port s becomes.end (λ source start end g h. simp (g, h, found-is s end, behind-name s (record { start = start; end = end })) (
    see T.Semicolon s end (λ last i. simp i)
    (λ r z e. simp (e, ne_eqb _ _ z))))
    (λ r z port e f. simp (e, f, behind-refusal s r z, ne_eqb _ _ z))))
    (λ r z e. let v = port-gone s r z in simp (e, v.bad, v.start, v.end, behind-refusal s r z, ne_eqb _ _ z))))
    (λ r z e. let v = port-gone s r z in simp (e, behind-refusal s r z, v.bad, v.start, v.end, ne_eqb _ _ z)))

pub switch-told : (s : List ℕ) (at : ℕ) → closed_of (Q.Mode 4) (switch_of s (token_at s at)) ≡ switch_at s (from at)
unfolding switch_of switch_at closed
switch-told s at = simp (found-is s at) (
    see T.Name s at (λ mode e. simp (e, behind-name s mode) (
    see T.Semicolon s mode.end (λ last f. simp f)
    (λ r z e. simp (e, ne_eqb _ _ z))))
    (λ r z e. simp (e, behind-refusal s r z, ne_eqb _ _ z)))

-- ---- calls: a name, "(" and how many arguments follow

-- what was read of a head: its name, and its "(" or the refusal
pub data Head (head : Reads (Name × ℕ)) (name paren : Got) : Type 0 where
  opened : (n : Name) (start end : ℕ) → head ≡ Ok (n, end) → name ≡ taken n → paren ≡ got 0 start end → Head head name paren
  missed : (r : Refusal) → (r.number ≡ 0 → ⊥) → head ≡ Err r → paren ≡ refused r → Head head name paren

module _ (s : List ℕ) (item : Name → ℕ → Item) (last more : State) (closing : Token) where
  -- the call as the text's definition reads it
  abbrev pub call_at : Got → Got → ReadItem
  call_at name paren =
      cond (stands T.RightParen s paren.end)
      (closed (item (name_of name) 0) last (want closing s (want T.RightParen s paren)))
      (closed (item (name_of name) (count_at s paren.end)) more paren)

  -- and as it is read
  abbrev pub call_read : Reads (Name × ℕ) → ReadItem
  call_read head = let call = call_of s head closing in closed_of (cond call.0 last more) (call.1 >>= λ c. Ok (item c.name c.count, c.next))

  pub call-told : {head : Reads (Name × ℕ)} {name paren : Got} → Head head name paren → call_read head ≡ call_at name paren
  unfolding call_of whole_of listed_of closed
  call-told {head} {name} {paren} (opened n start end e f g) = by (is T.RightParen (token_at s end)) refl
    where
      left : Name
      left = record { start = start; end = end }

      close : Name
      close = record { start = (token_at s end).start; end = (token_at s end).end }

      by : (b : Bool) → is T.RightParen (token_at s end) ≡ b → call_read head ≡ call_at name paren
      by true q = simp (e, f, g, q, behind-name s left, here s end T.RightParen q, behind-name s close) (
          see closing s (token_at s end).end (λ last h. simp h)
          (λ r z h. simp (h, ne_eqb _ _ z)))
      by false q = simp (e, f, g, q)
  call-told {head} {name} {paren} (missed r z e g) = by (is T.RightParen (token_at s r.at)) refl
    where
      by : (b : Bool) → is T.RightParen (token_at s r.at) ≡ b → call_read head ≡ call_at name paren
      by true q = simp (e, g, q, behind-refusal s r z, ne_eqb _ _ z)
      by false q = simp (e, g, q, ne_eqb _ _ z)

pub guard-told : (s : List ℕ) (k at : ℕ) → guard_of s k (token_at s at) ≡ guard_at s k (from at)
unfolding guard_of guard_at condition_of named_of
guard-told s k at = call-told s I.Guard (Q.Guarded k) (Q.GuardArgs k) T.KeyThen head
  where
    head : Head (condition_of s (token_at s at)) (want T.Name s (want T.KeyIf s (from at))) (want T.LeftParen s (want T.Name s (want T.KeyIf s (from at))))
    head =
        see T.KeyIf s at (λ word e.
        see T.Name s word.end (λ name f.
        see T.LeftParen s name.end (λ paren g. opened name paren.start paren.end (simp (found-is s at, e, f, g)) (simp (e, behind-name s word, f)) (simp (e, behind-name s word, f, behind-name s name, g)))
        (λ r z g. missed r z (simp (found-is s at, e, f, g, ne_eqb _ _ z)) (simp (e, behind-name s word, f, behind-name s name, g))))
        (λ r z f. missed r z (simp (found-is s at, e, f, ne_eqb _ _ z)) (simp (e, behind-name s word, f, behind-refusal s r z))))
        (λ r z e. missed r z (simp (found-is s at, e, ne_eqb _ _ z)) (simp (e, behind-refusal s r z)))

pub invoke-told : (s : List ℕ) (at : ℕ) → invoke_of s (token_at s at) ≡ invoke_at s (from at)
unfolding invoke_of invoke_at invocation_of named_of
invoke-told s at = call-told s I.Invoke (Q.Mode 2) Q.Args T.Semicolon head
  where
    head : Head (invocation_of s (token_at s at)) (want T.Name s (from at)) (want T.LeftParen s (want T.Name s (from at)))
    head =
        see T.Name s at (λ name e.
        see T.LeftParen s name.end (λ paren f. opened name paren.start paren.end (simp (found-is s at, e, f)) e (simp (e, behind-name s name, f)))
        (λ r z f. missed r z (simp (found-is s at, e, f, ne_eqb _ _ z)) (simp (e, behind-name s name, f))))
        (λ r z e. missed r z (simp (found-is s at, e, ne_eqb _ _ z)) (simp (e, behind-refusal s r z)))

-- ---- arguments

module _ (s : List ℕ) (item : Port → Item) (more last : State) (closing : Token) (at : ℕ) where
  abbrev pub arg_as : ReadPort → ReadItem
  arg_as arg =
      cond (stands T.Comma s arg.end)
      (closed (item arg.port) more (want T.Comma s (past_port arg)))
      (closed (item arg.port) last (want closing s (want T.RightParen s (past_port arg))))

  abbrev pub arg_read : ReadItem
  arg_read = let arg = argument_of s at closing in closed_of (cond arg.0 more last) (arg.1 >>= λ part. Ok (item part.0, part.1))

  pub argument-told : arg_read ≡ arg_as (port_at s (from at))
  unfolding argument_of last_of closed
  argument-told = see-port s at (λ port start end e f. by port start end e f (is T.Comma (token_at s end)) refl) (λ r z port e f. out r z port e f (is T.Comma (token_at s r.at)) refl)
    where
      by : (port : Port) (start end : ℕ) → port_read s at ≡ Ok (port, token_at s end) → port_at s (from at) ≡ record { bad = 0; start = start; end = end; port = port }
          → (b : Bool) → is T.Comma (token_at s end) ≡ b → arg_read ≡ arg_as (port_at s (from at))
      by port start end e f true q = simp (e, f, q, behind-name s (record { start = start; end = end }), here s end T.Comma q)
      by port start end e f false q = simp (e, f, q, behind-name s (record { start = start; end = end }), found-is s end) (
          see T.RightParen s end (λ paren g. simp (g, behind-name s paren) (
          see closing s paren.end (λ last h. simp h)
          (λ r z h. simp (h, ne_eqb _ _ z))))
          (λ r z g. simp (g, behind-refusal s r z, ne_eqb _ _ z)))

      out : (r : Refusal) → (r.number ≡ 0 → ⊥) → (port : Port) → port_read s at ≡ Err r → port_at s (from at) ≡ record { bad = r.number; start = r.at; end = r.at; port = port }
          → (b : Bool) → is T.Comma (token_at s r.at) ≡ b → arg_read ≡ arg_as (port_at s (from at))
      out r z port e f true q = simp (e, f, q, behind-refusal s r z, ne_eqb _ _ z)
      out r z port e f false q = simp (e, f, q, behind-refusal s r z, ne_eqb _ _ z)

pub guard-arg-told : (s : List ℕ) (k at : ℕ) → guard_arg_of s k at ≡ guard_arg_at s k (from at)
unfolding guard_arg_of guard_arg_at
guard-arg-told s k at = argument-told s I.GuardArg (Q.GuardArgs k) (Q.Guarded k) T.KeyThen at

pub arg-told : (s : List ℕ) (at : ℕ) → arg_of s at ≡ arg_at s (from at)
unfolding arg_of arg_at
arg-told s at = argument-told s I.Arg Q.Args (Q.Mode 2) T.Semicolon at
