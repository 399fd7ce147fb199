-- The tasks out by the ones of the machine's word are those that the rules say are out.
use Rattle.std.specs.Prelude.{ℕ, zero, suc, ◌+◌, ◌≤◌, ◌≡◌, refl, Bool, true, false, cond, List}
use Rattle.std.proofs.Common.{arith, sym, ◌∙◌, ap}
use Rattle.model.specs.Modules.{Module}
use Rattle.timing.specs.Rules.{Standing}
use Rattle.timing.specs.Calls.{View}
use Rattle.timing.specs.Accepted.{Accepted}
use Rattle.timing.specs.Standings.{is_out, how_many, how_many_out}
use Rattle.machine.specs.Words.{has, count_from}
use Rattle.machine.specs.Calls.{State, tasks_out}
use Rattle.bridge.specs.Tabulated.{tab}
use Rattle.bridge.specs.Views.{stand_of, tasks, stand_at, standings}
use Rattle.bridge.specs.Beside.{Beside}
use Rattle.bridge.proofs.Promises.{tasks-same}

abbrev bit : Bool → ℕ
bit y = cond y 1 0

out-bit : (out waiting finished : Bool) (row : List ℕ) → is_out (stand_of out waiting finished row) ≡ bit out
out-bit false waiting finished row = refl
out-bit true true finished row = refl
out-bit true false true row = refl
out-bit true false false row = refl

-- one place of the word more
one_more : (n k word : ℕ) → count_from (suc n) k word ≡ bit (has word k) + count_from n (k + 1) word
unfolding count_from
one_more n k word = go (has word k) (count_from n (k + 1) word)
  where
    go : (y : Bool) (c : ℕ) → cond y (c + 1) c ≡ bit y + c
    go true c = omega arith
    go false c = omega arith

-- from a place on that none has
none_more : (n k word : ℕ) → ((j : ℕ) → k ≤ j → has word j ≡ false) → count_from n k word ≡ 0
unfolding count_from
none_more zero k word h = refl
none_more (suc n) k word h =
    let here : bit (has word k) ≡ 0 = ap bit (h k (omega arith)) in
    let more = one_more n k word in
    let rest = none_more n (k + 1) word (λ j l. h j (omega arith)) in
    omega arith

counted : (n m k word : ℕ) (f : ℕ → Standing) → m ≤ n → ((j : ℕ) → is_out (f j) ≡ bit (has word (k + j))) → ((j : ℕ) → k + m ≤ j → has word j ≡ false) → how_many is_out (tab f m) ≡ count_from n k word
unfolding tab
counted n zero k word f l s h = sym (none_more n k word (λ j g. h j (omega arith)))
counted zero (suc m) k word f l s h = absurd (omega arith)
counted (suc n) (suc m) k word f l s h =
    let at : k + 0 ≡ k = omega arith in
    let here : is_out (f 0) ≡ bit (has word k) = rw at at (s 0) in
    let rest = counted n m (k + 1) word (λ i. f (suc i)) (omega arith) (λ j. s (suc j) ∙ ap (λ (i : ℕ). bit (has word i)) (omega arith)) (λ j g. h j (omega arith)) in
    let more = one_more n k word in
    omega arith

pub out-counted : (M : Module) (W : Accepted M) (m : State) (v : View) → Beside M W m v → how_many_out v.place.store.tasks ≡ tasks_out m
unfolding standings
out-counted M W m v b =
    let few = W.few-tasks in
    let word = m.store.out in
    ap how_many_out (sym (tasks-same M W m v b))
    ∙ counted 64 (tasks M) 0 word (stand_at M m.aside word m.store.waiting m.store.finished) (omega arith)
    (λ j. out-bit (has word j) (has m.store.waiting j) (has m.store.finished j) _ ∙ ap (λ (i : ℕ). bit (has word i)) (omega arith))
    (λ j l. past j (has word j) refl l)
  where
    past : (j : ℕ) (y : Bool) → has m.store.out j ≡ y → 0 + tasks M ≤ j → y ≡ false
    past j false e l = refl
    past j true e l = let h = b.held.neat.within j e in absurd (omega arith)
