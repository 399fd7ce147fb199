-- The items of a text, one behind the other, and what they say of it, in turns.
use Prim.Native.Nat.{ℕ, zero, suc, ◌+◌, ◌-◌, ◌≤◌, ◌<◌}
use Rattle.std.proofs.Math.Path.{◌≡◌, refl}
use Rattle.std.proofs.Common.{sym, ap, ◌∙◌}
use Rattle.std.specs.Prelude.{List, [], ◌∷◌, Bool}
use Rattle.std.proofs.Math.Bool.{true, false}
use Rattle.std.proofs.Math.Option.{Option, none, some}
use native.Mathlib.Omega.{arith}
use Rattle.std.proofs.Math.ListN.{length}
use Rattle.text.specs.declared.State.{State}
use Rattle.text.specs.declared.State.TheVariants as Q
use Rattle.text.specs.declared.Item.{Item}
use Rattle.text.specs.declared.Item.TheVariants as I
use Rattle.text.specs.declared.ReadItem.{ReadItem}
use Rattle.text.specs.Items.{item_at, goes, items_in, items_from, items_of, Refusal, refuse, refused_or, refused_in, syntax_of}
use Rattle.text.proofs.PartsLaws.{unsaid}
use Rattle.text.specs.ExpectLaws.{Refused}
use Rattle.text.proofs.Advance.{item-ahead, item-no}
use Rattle.text.specs.ItemsLaws.{Ends, at-end, at-refusal, onward}

module _ (fuel : ℕ) (s : List ℕ) (state : State) (at : ℕ) where
  in_on : goes (item_at s state at).item ≡ true → items_in (suc fuel) s state at ≡ (item_at s state at).item ∷ items_in fuel s (item_at s state at).state (item_at s state at).next
  unfolding items_in
  in_on e = simp e

  in-stop : goes (item_at s state at).item ≡ false → items_in (suc fuel) s state at ≡ (item_at s state at).item ∷ []
  unfolding items_in
  in-stop e = simp e

-- more fuel than bytes changes nothing
enough : (f g : ℕ) (s : List ℕ) (state : State) (at : ℕ) → at ≤ length s → length s < at + f → length s < at + g → items_in f s state at ≡ items_in g s state at
enough zero g s state at o h k = absurd (omega arith)
enough (suc f) zero s state at o h k = absurd (omega arith)
enough (suc f) (suc g) s state at o h k = by (goes (item_at s state at).item) refl (λ m n. enough f g s _ _ n (omega (arith, m)) (omega (arith, m)))
  where
    by : (b : Bool) → goes (item_at s state at).item ≡ b → (at < (item_at s state at).next → (item_at s state at).next ≤ length s → items_in f s (item_at s state at).state (item_at s state at).next ≡ items_in g s (item_at s state at).state (item_at s state at).next) → items_in (suc f) s state at ≡ items_in (suc g) s state at
    by false e on = in-stop f s state at e ∙ sym (in-stop g s state at e)
    by true e on = let w = item-ahead s state at o e in in_on f s state at e ∙ ap (λ (l : List Item). (item_at s state at).item ∷ l) (on w.0 w.1) ∙ sym (in_on g s state at e)

module _ (s : List ℕ) (state : State) (at : ℕ) (h : at ≤ length s) where
  less : length s + 1 - at ≡ suc (length s - at)
  less = omega arith

  pub from_on : goes (item_at s state at).item ≡ true → items_from s state at ≡ (item_at s state at).item ∷ items_from s (item_at s state at).state (item_at s state at).next
  from_on e =
      let w = item-ahead s state at h e in
      rw less (in_on _ s state at e ∙ ap (λ (l : List Item). (item_at s state at).item ∷ l) (enough _ _ s _ _ w.1 (omega (arith, w.0, w.1)) (omega (arith, w.0, w.1))))

  pub from-stop : goes (item_at s state at).item ≡ false → items_from s state at ≡ (item_at s state at).item ∷ []
  from-stop e = rw less (in-stop _ s state at e)

-- only the end and a refusal do not go on
ends-here : (item : Item) → goes item ≡ false → Ends (item ∷ [])
ends-here (I.Module name) e = absurd (unsaid (sym e))
ends-here I.Section e = absurd (unsaid (sym e))
ends-here (I.Constant name value) e = absurd (unsaid (sym e))
ends-here (I.Sensor typ name getter) e = absurd (unsaid (sym e))
ends-here (I.Actuator typ name value setter) e = absurd (unsaid (sym e))
ends-here (I.TaskBegin name) e = absurd (unsaid (sym e))
ends-here (I.Input typ name) e = absurd (unsaid (sym e))
ends-here (I.Output typ name value) e = absurd (unsaid (sym e))
ends-here (I.TaskEnd name) e = absurd (unsaid (sym e))
ends-here (I.ModeBegin start at name digits milli) e = absurd (unsaid (sym e))
ends-here (I.Activity kind at digits) e = absurd (unsaid (sym e))
ends-here (I.Guard name count) e = absurd (unsaid (sym e))
ends-here (I.GuardArg port) e = absurd (unsaid (sym e))
ends-here (I.Invoke task count) e = absurd (unsaid (sym e))
ends-here (I.Arg port) e = absurd (unsaid (sym e))
ends-here (I.Update actuator source) e = absurd (unsaid (sym e))
ends-here (I.Switch name) e = absurd (unsaid (sym e))
ends-here I.ModeEnd e = absurd (unsaid (sym e))
ends-here I.ModuleEnd e = absurd (unsaid (sym e))
ends-here I.End e = at-end
ends-here (I.No number offset) e = at-refusal number offset

-- whatever the fuel, if it is more than the bytes left, the items end in the end or a refusal: fuel never cuts them off
pub items-end : (fuel : ℕ) (s : List ℕ) (state : State) (at : ℕ) → at ≤ length s → length s < at + fuel → Ends (items_in fuel s state at)
items-end zero s state at o h = absurd (omega arith)
items-end (suc fuel) s state at o h = by (goes (item_at s state at).item) refl (λ m n. items-end fuel s _ _ n (omega (arith, m)))
  where
    by : (b : Bool) → goes (item_at s state at).item ≡ b → (at < (item_at s state at).next → (item_at s state at).next ≤ length s → Ends (items_in fuel s (item_at s state at).state (item_at s state at).next)) → Ends (items_in (suc fuel) s state at)
    by false e on = rw (in-stop fuel s state at e) (ends-here _ e)
    by true e on = let w = item-ahead s state at o e in rw (in_on fuel s state at e) (onward _ e (on w.0 w.1))

pub text-ends : (s : List ℕ) → Ends (items_of s)
text-ends s = items-end _ s Q.Begin 0 (omega arith) (omega arith)

-- ---- what was refused
-- only a refusal refuses
passes : (item : Item) (answer : Option Refusal) → goes item ≡ true → refused_or item answer ≡ answer
passes (I.Module name) answer e = refl
passes I.Section answer e = refl
passes (I.Constant name value) answer e = refl
passes (I.Sensor typ name getter) answer e = refl
passes (I.Actuator typ name value setter) answer e = refl
passes (I.TaskBegin name) answer e = refl
passes (I.Input typ name) answer e = refl
passes (I.Output typ name value) answer e = refl
passes (I.TaskEnd name) answer e = refl
passes (I.ModeBegin start at name digits milli) answer e = refl
passes (I.Activity kind at digits) answer e = refl
passes (I.Guard name count) answer e = refl
passes (I.GuardArg port) answer e = refl
passes (I.Invoke task count) answer e = refl
passes (I.Arg port) answer e = refl
passes (I.Update actuator source) answer e = refl
passes (I.Switch name) answer e = refl
passes I.ModeEnd answer e = refl
passes I.ModuleEnd answer e = refl
passes I.End answer e = refl
passes (I.No number at) answer e = absurd (unsaid e)

-- a turn of a loop over items: r is what was read
module _ (s : List ℕ) (state : State) (at : ℕ) (r : ReadItem) (h : at ≤ length s) (p : r ≡ item_at s state at) where
  pub turn_on : goes r.item ≡ true → refused_in (items_from s state at) ≡ refused_in (items_from s r.state r.next)
  unfolding refused_in
  turn_on e = let g : goes (item_at s state at).item ≡ true = rw p at e in rw (from_on s state at h g, p) (passes (item_at s state at).item _ g)

  pub turn-ahead : goes r.item ≡ true → (at < r.next) × (r.next ≤ length s)
  turn-ahead e = rw p (item-ahead s state at h (rw p at e))

  pub turn_end : r.item ≡ I.End → refused_in (items_from s state at) ≡ none
  unfolding refused_in
  turn_end e = let g : (item_at s state at).item ≡ I.End = rw p at e in rw (from-stop s state at h (rw g), g)

  pub turn-no : (number offset : ℕ) → r.item ≡ I.No number offset → refused_in (items_from s state at) ≡ refuse number offset
  unfolding refused_in
  turn-no number offset e = let g : (item_at s state at).item ≡ I.No number offset = rw p at e in rw (from-stop s state at h (rw g), g)

-- ---- the whole text

-- a refusal as an item
abbrev as_item : Option Refusal → Item
as_item none = I.End
as_item (some refusal) = I.No refusal.number refusal.offset

-- an item that does not go on, and refuses, is that refusal
stops : (item : Item) (number offset : ℕ) → goes item ≡ false → refused_or item none ≡ refuse number offset → item ≡ I.No number offset
stops item number offset g e = by (ends-here item g) g e
  where
    by : {item : Item} → Ends (item ∷ []) → goes item ≡ false → refused_or item none ≡ refuse number offset → item ≡ I.No number offset
    by at-end g e = let z : ◌≡◌ {A = ℕ} 0 1 = cc in absurd (omega arith)
    by (at-refusal n at) g e = ap as_item e
    by (onward item h r) g e = absurd (unsaid (sym g ∙ h))

module _ (s : List ℕ) (number offset : ℕ) where
  in-none : (state : State) (at : ℕ) → refused_in (items_in zero s state at) ≡ none
  unfolding refused_in items_in
  in-none state at = refl

  -- a refusal that items from a place on give is 2 or 3, at or behind the place and inside the text
  in-refused : (fuel : ℕ) (state : State) (at : ℕ) → at ≤ length s → refused_in (items_in fuel s state at) ≡ refuse number offset → Refused at (length s) number offset
  unfolding refused_in
  in-refused zero state at h e = let n = in-none state at in let z : ◌≡◌ {A = ℕ} 0 1 = cc in absurd (omega arith)
  in-refused (suc fuel) state at h e = by (goes (item_at s state at).item) refl (λ n w. in-refused fuel _ _ n w)
    where
      by : (b : Bool) → goes (item_at s state at).item ≡ b → ((item_at s state at).next ≤ length s → refused_in (items_in fuel s (item_at s state at).state (item_at s state at).next) ≡ refuse number offset → Refused (item_at s state at).next (length s) number offset) → Refused at (length s) number offset
      by false g on = item-no s state at h number offset (stops (item_at s state at).item number offset g (rw (in-stop fuel s state at g) at e))
      by true g on =
          let a = item-ahead s state at h g in
          let w = rw (in_on fuel s state at g) at e in
          let r = on a.1 (sym (passes (item_at s state at).item _ g) ∙ w) in
          omega arith

  pub syntax-refused : syntax_of s ≡ refuse number offset → Refused 0 (length s) number offset
  syntax-refused e = in-refused _ Q.Begin 0 (omega arith) e
