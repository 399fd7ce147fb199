-- Items advance: each goes on behind its place and inside the text with its parts in order, is a refusal 2 or 3 there, or is the end.
use Rattle.std.specs.Prelude.{ℕ, ◌≤◌, ◌<◌, ◌≡◌, List, Bool, true, false, cond, length, eqb, ltb}
use Rattle.std.proofs.Math.Path.{refl}
use Rattle.std.proofs.Common.{arith, eqb-true}
use Rattle.std.proofs.lemmas.Bool.{eqb-false}
use Rattle.text.specs.declared.Token.TheVariants as T
use Rattle.text.specs.declared.Got.{Got}
use Rattle.text.specs.declared.State.{State}
use Rattle.text.specs.declared.State.TheVariants as Q
use Rattle.text.specs.declared.Item.TheVariants as I
use Rattle.text.specs.Tokens.{token_at, code_at, is, stands}
use Rattle.text.proofs.TokensLaws.{token-in}
use Rattle.text.specs.Expect.{got, from, refusal, want, want_any}
use Rattle.text.specs.ExpectLaws.{Refused, Kept}
use Rattle.text.proofs.ExpectLaws.{want-follows, any-follows, refusal-bad, from-kept, refusal-kept, want_kept, any-kept}
use Rattle.text.specs.Items.{refused_at, section_of, portion_of, part_of, declaration_at, section_at, module_body_at, task_port_at, portion_at, task_body_at, head_at, part_at, mode_body_at, target_at, act_at, finish_at, item_at, goes}
use Rattle.text.specs.Laid.{Laid}
use Rattle.text.specs.ProductionsLaws.{Good}
use Rattle.text.proofs.ProductionsLaws.{cond-good, closed-good, end-good, module-good, constant-good, sensor-good, actuator-good, task-good, input-good, output-good, task-end-good, mode-good, activity-good, guard_good, guard-arg-good, invoke-good, arg-good, update-good, switch-good}

-- the end is read at the text's length
want-end : (s : List ℕ) (at : ℕ) (g : Got) → Kept s at g → g.bad ≡ 0 → (want T.End s g).bad ≡ 0 → (want T.End s g).end ≡ length s
unfolding want
want-end s at g f b z = by (eqb g.bad 0) refl (is T.End (token_at s g.end)) refl z
  where
    by : (b : Bool) → eqb g.bad 0 ≡ b → (d : Bool) → is T.End (token_at s g.end) ≡ d → (cond b (cond d (got 0 (token_at s g.end).start (token_at s g.end).end) (refusal (token_at s g.end))) g).bad ≡ 0 → (cond b (cond d (got 0 (token_at s g.end).start (token_at s g.end).end) (refusal (token_at s g.end))) g).end ≡ length s
    by false e d q z = absurd (eqb-false _ _ e z)
    by true e false q z = absurd (refusal-bad _ z)
    by true e true q z =
        let t = token-in s g.end (f.on (eqb-true _ _ e)).1 in
        let l = t.last (eqb-true (code_at s g.end) 36 q) in
        omega (arith, l, t.up, t.high)

module _ (s : List ℕ) (at : ℕ) (g : Got) (f : Kept s at g) (b : g.bad ≡ 0) where
  refused-good : Good s at (refused_at s g)
  unfolding refused_at
  refused-good = closed-good s at _ _ _ refl (refusal-kept s b f) (λ z. absurd (refusal-bad _ z))

  -- a section's keyword
  any-good : ((want_any s g).bad ≡ 0) → at < (want_any s g).end
  any-good z = let a = any-follows z in let o = f.on b in omega arith

  brace-good : ((want T.RightBrace s g).bad ≡ 0) → at < (want T.RightBrace s g).end
  brace-good z = let a = want-follows T.RightBrace refl z in let o = f.on b in omega arith

  declaration-good : (k : ℕ) → Good s at (declaration_at s k g)
  unfolding declaration_at
  declaration-good k =
      cond-good (eqb k 2) (constant-good s at g f) (
      cond-good (eqb k 3) (sensor-good s at g f) (
      cond-good (eqb k 4) (actuator-good s at g f) refused-good))

  section-good : (k w : ℕ) → Good s at (section_at s k w g)
  unfolding section_at
  section-good k w =
      cond-good (ltb w k) refused-good (
      cond-good (eqb w 5) (task-good s at g f) (
      cond-good (eqb w 6) (mode-good s at g f) (
      cond-good (eqb w 7) (closed-good s at _ _ _ refl (want_kept T.RightBrace f) (λ z. (brace-good z, brace-good z))) (
      closed-good s at _ _ _ refl (any-kept f) (λ z. (any-good z, any-good z))))))

  module-body-good : (k : ℕ) → Good s at (module_body_at s k g)
  unfolding module_body_at
  module-body-good k = cond-good (stands T.Name s g.end) (declaration-good k) (section-good k (section_of (code_at s g.end)))

  task-port-good : (k : ℕ) → Good s at (task_port_at s k g)
  unfolding task_port_at
  task-port-good k =
      cond-good (eqb k 2) (input-good s at g f) (
      cond-good (eqb k 3) (output-good s at g f) refused-good)

  portion-good : (k w : ℕ) → Good s at (portion_at s k w g)
  unfolding portion_at
  portion-good k w =
      cond-good (ltb w k) refused-good (
      cond-good (eqb w 4) (task-end-good s at g f) (
      closed-good s at _ _ _ refl (any-kept f) (λ z. (any-good z, any-good z))))

  task-body-good : (k : ℕ) → Good s at (task_body_at s k g)
  unfolding task_body_at
  task-body-good k = cond-good (stands T.Name s g.end) (task-port-good k) (portion-good k (portion_of (code_at s g.end)))

  head-good : (k : ℕ) → Good s at (head_at s k g)
  unfolding head_at
  head-good k = cond-good (eqb k 1) refused-good (activity-good s at g f k)

  part-good : (k w : ℕ) → Good s at (part_at s k w g)
  unfolding part_at
  part-good k w =
      cond-good (ltb w k) refused-good (
      cond-good (eqb w 5) (closed-good s at _ _ _ refl (want_kept T.RightBrace f) (λ z. (brace-good z, brace-good z))) (
      closed-good s at _ _ _ refl (any-kept f) (λ z. (any-good z, any-good z))))

  mode-body-good : (k : ℕ) → Good s at (mode_body_at s k g)
  unfolding mode_body_at
  mode-body-good k = cond-good (stands T.LeftBracket s g.end) (head-good k) (part-good k (part_of (code_at s g.end)))

  target-good : (k : ℕ) → Good s at (target_at s k g)
  unfolding target_at
  target-good k =
      cond-good (eqb k 2) (invoke-good s at g f) (
      cond-good (eqb k 3) (update-good s at g f) (switch-good s at g f))

  act-good : (k : ℕ) → Good s at (act_at s k g)
  unfolding act_at
  act-good k = cond-good (stands T.KeyIf s g.end) (guard_good s at g f k) (target-good k)

  finish-good : Good s at (finish_at s g)
  unfolding finish_at
  finish-good = end-good s at I.End Q.Finish _ (want_kept T.End f) (λ z. want-end s at g f b z)

pub item-good : (s : List ℕ) (state : State) (at : ℕ) → at ≤ length s → Good s at (item_at s state at)
unfolding item_at
item-good s state at h = by state (from-kept s at h)
  where
    by : (state : State) → Kept s at (from at) → Good s at (item_at s state at)
    by Q.Begin f = module-good s at _ f
    by (Q.Module k) f = module-body-good s at _ f refl k
    by (Q.Task k) f = task-body-good s at _ f refl k
    by (Q.Mode k) f = mode-body-good s at _ f refl k
    by (Q.Act k) f = act-good s at _ f refl k
    by (Q.Guarded k) f = target-good s at _ f refl k
    by (Q.GuardArgs k) f = guard-arg-good s at _ f k
    by Q.Args f = arg-good s at _ f
    by Q.Finish f = finish-good s at _ f refl

module _ (s : List ℕ) (state : State) (at : ℕ) (h : at ≤ length s) where
  -- an item that goes on is at least a byte of the text
  pub item-ahead : goes (item_at s state at).item ≡ true → (at < (item_at s state at).next) × ((item_at s state at).next ≤ length s)
  item-ahead e = let o = (item-good s state at h).on e in (o.ahead, o.inside)

  -- its parts stand in text order
  pub item-laid : goes (item_at s state at).item ≡ true → Laid at (item_at s state at).next (item_at s state at).item
  item-laid e = ((item-good s state at h).on e).laid

  -- a refusal is 2 or 3, at or behind the place and inside the text
  pub item-no : (number offset : ℕ) → (item_at s state at).item ≡ I.No number offset → Refused at (length s) number offset
  item-no = (item-good s state at h).no

  -- the end is read at the text's length
  pub item-end : (item_at s state at).item ≡ I.End → (item_at s state at).next ≡ length s
  item-end = (item-good s state at h).end
