-- Every production reads an item whose parts stand in text order, behind its place and inside the text; or it refuses there.
use Rattle.std.specs.Prelude.{ℕ, ◌≤◌, ◌<◌, List, Bool, cond, length}
use Rattle.std.proofs.Math.Path.{◌≡◌, refl}
use Rattle.std.proofs.Math.Bool.{true, false}
use native.Mathlib.Omega.{arith}
use borrow.Author.Tests.{eqb-true, eqb-false}
use Rattle.std.proofs.Math.Dec.{eqb}
use Rattle.text.specs.declared.Token.TheVariants as T
use Rattle.text.specs.declared.Got.{Got}
use Rattle.text.specs.declared.State.{State}
use Rattle.text.specs.declared.Item.{Item}
use Rattle.text.specs.declared.Item.TheVariants as I
use Rattle.text.specs.declared.ReadItem.{ReadItem}
use Rattle.text.specs.Tokens.{stands}
use Rattle.text.specs.Expect.{want, read, closed}
use Rattle.text.specs.ExpectLaws.{Refused, Kept}
use Rattle.text.proofs.ExpectLaws.{want-follows, any-follows, word-follows, either-follows, want_kept, any-kept, word_kept, either-kept}
use Rattle.text.specs.Productions.{past_literal, literal_at, port_at, module_at, constant_at, sensor_at, actuator_at, task_at, input_at, output_at, task_end_at, period, freq, ms, us, mode_of, mode_at, activity_at, guard_at, guard_arg_at, invoke_at, arg_at, update_at, switch_at}
use Rattle.text.proofs.PartsLaws.{unsaid, literal-wide, literal-good, port-wide, port-good}
use Rattle.text.specs.Items.{goes}
use Rattle.text.specs.Laid.{Laid}
use Rattle.text.specs.ProductionsLaws.{Good, Onward}

pub cond-good : {s : List ℕ} {at : ℕ} {x y : ReadItem} (b : Bool) → Good s at x → Good s at y → Good s at (cond b x y)
cond-good true p q = p
cond-good false p q = q

module _ (s : List ℕ) (at : ℕ) (item : Item) (state : State) (last : Got) where
  -- a refusal
  out-good : Refused at (length s) last.bad last.start → Good s at (read (I.No last.bad last.start) state last.end)
  out-good r = record {
    on = λ z. absurd (unsaid z);
    no = λ number offset e. let a : last.bad ≡ number = cc in let b : last.start ≡ offset = cc in omega arith;
    end = λ e. let z : ◌≡◌ {A = ℕ} 0 1 = cc in absurd (omega arith);
  }

  on-good : goes item ≡ true → Onward at (length s) (read item state last.end) → Good s at (read item state last.end)
  on-good g o = record {
    on = λ z. o;
    no = λ number offset e. absurd (unsaid (rw e at g));
    end = λ e. absurd (unsaid (rw e at g));
  }

  pub closed-good : goes item ≡ true → Kept s at last → (last.bad ≡ 0 → (at < last.end) × Laid at last.end item) → Good s at (closed item state last)
  unfolding closed
  closed-good g f l = by (eqb last.bad 0) refl
    where
      by : (b : Bool) → eqb last.bad 0 ≡ b → Good s at (cond b (read item state last.end) (read (I.No last.bad last.start) state last.end))
      by true e = let z = eqb-true _ _ e in on-good g (record { ahead = (l z).0; inside = (f.on z).1; laid = (l z).1 })
      by false e = out-good (f.out (λ z. eqb-false _ _ e z))

  pub end-good : Kept s at last → (last.bad ≡ 0 → last.end ≡ length s) → Good s at (closed I.End state last)
  unfolding closed
  end-good f l = by (eqb last.bad 0) refl
    where
      by : (b : Bool) → eqb last.bad 0 ≡ b → Good s at (cond b (read I.End state last.end) (read (I.No last.bad last.start) state last.end))
      by true e = record {
        on = λ z. absurd (unsaid z);
        no = λ number offset q. let z : ◌≡◌ {A = ℕ} 0 1 = cc in absurd (omega arith);
        end = λ q. l (eqb-true _ _ e);
      }
      by false e = out-good (f.out (λ z. eqb-false _ _ e z))

module _ (s : List ℕ) (at : ℕ) (g : Got) (f : Kept s at g) where
  pub module-good : Good s at (module_at s g)
  unfolding module_at
  module-good = closed-good s at _ _ _ refl (want_kept T.LeftBrace (want_kept T.Name (want_kept T.KeyModule f))) (λ z.
      let c = want-follows T.LeftBrace refl z in
      let b = want-follows T.Name refl c.fine in
      let a = want-follows T.KeyModule refl b.fine in
      let o = f.on a.fine in
      omega arith)

  pub constant-good : Good s at (constant_at s g)
  unfolding constant_at
  constant-good =
      let name = want T.Name s g in
      let value = literal_at s (want T.Equals s name) in
      let last = want T.Semicolon s (past_literal value) in
      let v = literal-good s at _ (want_kept T.Equals (want_kept T.Name f)) in
      closed-good s at _ _ _ refl (want_kept T.Semicolon v.kept) (λ z.
      let d = want-follows T.Semicolon refl z in
      let c = v.follows d.fine in
      let b = want-follows T.Equals refl c.fine in
      let a = want-follows T.Name refl b.fine in
      let o = f.on a.fine in
      (omega arith, (omega arith, literal-wide _ _ name.end last.end value.literal (omega arith) (omega arith) c.laid)))

  pub sensor-good : Good s at (sensor_at s g)
  unfolding sensor_at
  sensor-good = closed-good s at _ _ _ refl (want_kept T.Semicolon (want_kept T.Name (want_kept T.KeyUses (want_kept T.Name (want_kept T.Name f))))) (λ z.
      let e = want-follows T.Semicolon refl z in
      let d = want-follows T.Name refl e.fine in
      let c = want-follows T.KeyUses refl d.fine in
      let b = want-follows T.Name refl c.fine in
      let a = want-follows T.Name refl b.fine in
      let o = f.on a.fine in
      omega arith)

  pub actuator-good : Good s at (actuator_at s g)
  unfolding actuator_at
  actuator-good =
      let name = want T.Name s (want T.Name s g) in
      let value = literal_at s (want T.Becomes s name) in
      let setter = want T.Name s (want T.KeyUses s (past_literal value)) in
      let v = literal-good s at _ (want_kept T.Becomes (want_kept T.Name (want_kept T.Name f))) in
      closed-good s at _ _ _ refl (want_kept T.Semicolon (want_kept T.Name (want_kept T.KeyUses v.kept))) (λ z.
      let m = want-follows T.Semicolon refl z in
      let l = want-follows T.Name refl m.fine in
      let k = want-follows T.KeyUses refl l.fine in
      let d = v.follows k.fine in
      let c = want-follows T.Becomes refl d.fine in
      let b = want-follows T.Name refl c.fine in
      let a = want-follows T.Name refl b.fine in
      let o = f.on a.fine in
      (omega arith, (omega arith, omega arith, literal-wide _ _ name.end setter.start value.literal (omega arith) (omega arith) d.laid, omega arith)))

  pub task-good : Good s at (task_at s g)
  unfolding task_at
  task-good = closed-good s at _ _ _ refl (want_kept T.LeftBrace (want_kept T.Name (want_kept T.KeyTask f))) (λ z.
      let c = want-follows T.LeftBrace refl z in
      let b = want-follows T.Name refl c.fine in
      let a = want-follows T.KeyTask refl b.fine in
      let o = f.on a.fine in
      omega arith)

  pub input-good : Good s at (input_at s g)
  unfolding input_at
  input-good = closed-good s at _ _ _ refl (want_kept T.Semicolon (want_kept T.Name (want_kept T.Name f))) (λ z.
      let c = want-follows T.Semicolon refl z in
      let b = want-follows T.Name refl c.fine in
      let a = want-follows T.Name refl b.fine in
      let o = f.on a.fine in
      omega arith)

  pub output-good : Good s at (output_at s g)
  unfolding output_at
  output-good =
      let name = want T.Name s (want T.Name s g) in
      let value = literal_at s (want T.Becomes s name) in
      let last = want T.Semicolon s (past_literal value) in
      let v = literal-good s at _ (want_kept T.Becomes (want_kept T.Name (want_kept T.Name f))) in
      closed-good s at _ _ _ refl (want_kept T.Semicolon v.kept) (λ z.
      let k = want-follows T.Semicolon refl z in
      let d = v.follows k.fine in
      let c = want-follows T.Becomes refl d.fine in
      let b = want-follows T.Name refl c.fine in
      let a = want-follows T.Name refl b.fine in
      let o = f.on a.fine in
      (omega arith, (omega arith, omega arith, literal-wide _ _ name.end last.end value.literal (omega arith) (omega arith) d.laid)))

  pub task-end-good : Good s at (task_end_at s g)
  unfolding task_end_at
  task-end-good = closed-good s at _ _ _ refl (want_kept T.RightBrace (want_kept T.Semicolon (want_kept T.Name (want_kept T.KeyUses f)))) (λ z.
      let d = want-follows T.RightBrace refl z in
      let c = want-follows T.Semicolon refl d.fine in
      let b = want-follows T.Name refl c.fine in
      let a = want-follows T.KeyUses refl b.fine in
      let o = f.on a.fine in
      omega arith)

  mode-of-good : (start : Bool) (begin : ℕ) (word : Got) → Kept s at word → (word.bad ≡ 0 → (at ≤ begin) × (begin ≤ word.end)) → Good s at (mode_of s start begin word)
  unfolding mode_of
  mode-of-good start begin word w o =
      let number = want_kept T.Number (want_kept T.Equals (word_kept period (want_kept T.LeftBracket (want_kept T.Name w)))) in
      closed-good s at _ _ _ refl (want_kept T.LeftBrace (want_kept T.RightBracket (either-kept (word_kept ms number) (word_kept us number)))) (λ z.
      let k = want-follows T.LeftBrace refl z in
      let j = want-follows T.RightBracket refl k.fine in
      let i = either-follows (word-follows ms) (word-follows us) j.fine in
      let e = want-follows T.Number refl i.fine in
      let d = want-follows T.Equals refl e.fine in
      let c = word-follows period d.fine in
      let b = want-follows T.LeftBracket refl c.fine in
      let a = want-follows T.Name refl b.fine in
      let p = o a.fine in
      omega arith)

  pub mode-good : Good s at (mode_at s g)
  unfolding mode_at
  mode-good =
      cond-good (stands T.KeyStart s g.end)
      (mode-of-good true _ _ (want_kept T.KeyMode (any-kept f)) (λ z.
      let b = want-follows T.KeyMode refl z in
      let a = any-follows b.fine in
      let o = f.on a.fine in
      omega arith))
      (mode-of-good false _ _ (want_kept T.KeyMode f) (λ z.
      let a = want-follows T.KeyMode refl z in
      let o = f.on a.fine in
      omega arith))

  pub activity-good : (k : ℕ) → Good s at (activity_at s k g)
  unfolding activity_at
  activity-good k = closed-good s at _ _ _ refl (want_kept T.RightBracket (want_kept T.Number (want_kept T.Equals (word_kept freq (want_kept T.LeftBracket f))))) (λ z.
      let e = want-follows T.RightBracket refl z in
      let d = want-follows T.Number refl e.fine in
      let c = want-follows T.Equals refl d.fine in
      let b = word-follows freq c.fine in
      let a = want-follows T.LeftBracket refl b.fine in
      let o = f.on a.fine in
      omega arith)

  pub guard_good : (k : ℕ) → Good s at (guard_at s k g)
  unfolding guard_at
  guard_good k =
      let paren = want_kept T.LeftParen (want_kept T.Name (want_kept T.KeyIf f)) in
      cond-good (stands T.RightParen s (want T.LeftParen s (want T.Name s (want T.KeyIf s g))).end)
      (closed-good s at _ _ _ refl (want_kept T.KeyThen (want_kept T.RightParen paren)) (λ z.
      let e = want-follows T.KeyThen refl z in
      let d = want-follows T.RightParen refl e.fine in
      let c = want-follows T.LeftParen refl d.fine in
      let b = want-follows T.Name refl c.fine in
      let a = want-follows T.KeyIf refl b.fine in
      let o = f.on a.fine in
      omega arith))
      (closed-good s at _ _ _ refl paren (λ z.
      let c = want-follows T.LeftParen refl z in
      let b = want-follows T.Name refl c.fine in
      let a = want-follows T.KeyIf refl b.fine in
      let o = f.on a.fine in
      omega arith))

  pub guard-arg-good : (k : ℕ) → Good s at (guard_arg_at s k g)
  unfolding guard_arg_at
  guard-arg-good k =
      let p = port-good s at g f in
      cond-good (stands T.Comma s (port_at s g).end)
      (closed-good s at _ _ _ refl (want_kept T.Comma p.kept) (λ z.
      let b = want-follows T.Comma refl z in
      let a = p.follows b.fine in
      let o = f.on a.fine in
      (omega arith, port-wide _ _ _ _ _ (omega arith) (omega arith) a.laid)))
      (closed-good s at _ _ _ refl (want_kept T.KeyThen (want_kept T.RightParen p.kept)) (λ z.
      let c = want-follows T.KeyThen refl z in
      let b = want-follows T.RightParen refl c.fine in
      let a = p.follows b.fine in
      let o = f.on a.fine in
      (omega arith, port-wide _ _ _ _ _ (omega arith) (omega arith) a.laid)))

  pub invoke-good : Good s at (invoke_at s g)
  unfolding invoke_at
  invoke-good =
      let paren = want_kept T.LeftParen (want_kept T.Name f) in
      cond-good (stands T.RightParen s (want T.LeftParen s (want T.Name s g)).end)
      (closed-good s at _ _ _ refl (want_kept T.Semicolon (want_kept T.RightParen paren)) (λ z.
      let d = want-follows T.Semicolon refl z in
      let c = want-follows T.RightParen refl d.fine in
      let b = want-follows T.LeftParen refl c.fine in
      let a = want-follows T.Name refl b.fine in
      let o = f.on a.fine in
      omega arith))
      (closed-good s at _ _ _ refl paren (λ z.
      let b = want-follows T.LeftParen refl z in
      let a = want-follows T.Name refl b.fine in
      let o = f.on a.fine in
      omega arith))

  pub arg-good : Good s at (arg_at s g)
  unfolding arg_at
  arg-good =
      let p = port-good s at g f in
      cond-good (stands T.Comma s (port_at s g).end)
      (closed-good s at _ _ _ refl (want_kept T.Comma p.kept) (λ z.
      let b = want-follows T.Comma refl z in
      let a = p.follows b.fine in
      let o = f.on a.fine in
      (omega arith, port-wide _ _ _ _ _ (omega arith) (omega arith) a.laid)))
      (closed-good s at _ _ _ refl (want_kept T.Semicolon (want_kept T.RightParen p.kept)) (λ z.
      let c = want-follows T.Semicolon refl z in
      let b = want-follows T.RightParen refl c.fine in
      let a = p.follows b.fine in
      let o = f.on a.fine in
      (omega arith, port-wide _ _ _ _ _ (omega arith) (omega arith) a.laid)))

  pub update-good : Good s at (update_at s g)
  unfolding update_at
  update-good =
      let p = port-good s at _ (want_kept T.Becomes (want_kept T.Name f)) in
      closed-good s at _ _ _ refl (want_kept T.Semicolon p.kept) (λ z.
      let d = want-follows T.Semicolon refl z in
      let c = p.follows d.fine in
      let b = want-follows T.Becomes refl c.fine in
      let a = want-follows T.Name refl b.fine in
      let o = f.on a.fine in
      (omega arith, (omega arith, port-wide _ _ _ _ _ (omega arith) (omega arith) c.laid)))

  pub switch-good : Good s at (switch_at s g)
  unfolding switch_at
  switch-good = closed-good s at _ _ _ refl (want_kept T.Semicolon (want_kept T.Name f)) (λ z.
      let b = want-follows T.Semicolon refl z in
      let a = want-follows T.Name refl b.fine in
      let o = f.on a.fine in
      omega arith)
