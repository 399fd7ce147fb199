use Rattle.std.specs.Prelude.{ℕ, ◌+◌, ◌<◌, ◌≡◌, List, length}
use mathlib.Core.Path.{refl, sym, ap, ◌∙◌}
use mathlib.Core.Logic.{◌⊎◌, inl, inr}
use Rattle.text.specs.declared.Lexed.{Lexed}
use native.Mathlib.Omega.{arith}
use borrow.Author.Tests.{eqb-false}
use Rattle.text.specs.declared.Token.TheVariants as T
use Rattle.text.specs.Tokens.{token_at, code_of}
use Rattle.text.specs.Productions.{count_at, commas_from}
use Rattle.text.proofs.CountLaws as law
use Rattle.wants.proofs.Others.{other_code}
use Rattle.productions.proofs.lists.counted.Goals as goal

-- a name or a dot is passed over
passed-code : (l : Lexed) → (l.token ≡ T.Name) ⊎ (l.token ≡ T.Dot) → code_of l.token < 36
passed-code l (inl e) = omega (arith, ap code_of e)
passed-code l (inr e) = omega (arith, ap code_of e)

passed : (s : List ℕ) (i n : ℕ) (l : Lexed) → i < length s → l ≡ token_at s i → (l.token ≡ T.Name) ⊎ (l.token ≡ T.Dot) → n + commas_from s i ≡ n + commas_from s l.end
passed s i n l h p (inl e) = law.count-name _ _ _ _ h p refl _ (ap code_of e)
passed s i n l h p (inr e) = law.count-dot _ _ _ _ h p refl _ (ap code_of e)

pub loop-i-init : goal.loop-i-init
unfolding count_at
loop-i-init c = (omega arith, refl)

pub returns-in_default : goal.returns-in_default
returns-in_default c =
    sym (c.loop-i.invariant.1 ∙ law.count-out _ _ _ _ c.loop-i-test.true c.list_token-next.ensures refl _ (eqb-false _ _ (other_code T.Comma c.list_token-next.result.token c.in_default.not-Comma)) (eqb-false _ _ (other_code T.Name c.list_token-next.result.token c.in_default.not-Name)) (eqb-false _ _ (other_code T.Dot c.list_token-next.result.token c.in_default.not-Dot)))

pub loop-i-smaller-in-Comma : goal.loop-i-smaller-in-Comma
loop-i-smaller-in-Comma c =
    let ahead = law.count-ahead _ _ _ _ c.loop-i-test.true c.list_token-next.ensures refl (omega (arith, ap code_of c.in-Comma.is)) in
    omega (arith, ahead)

pub loop-i-preserved-in-Comma : goal.loop-i-preserved-in-Comma
loop-i-preserved-in-Comma c =
    let ahead = law.count-ahead _ _ _ _ c.loop-i-test.true c.list_token-next.ensures refl (omega (arith, ap code_of c.in-Comma.is)) in
    (omega (arith, ahead), c.loop-i.invariant.1 ∙ law.count-comma _ _ _ _ c.loop-i-test.true c.list_token-next.ensures refl _ (ap code_of c.in-Comma.is))

pub loop-i-smaller : goal.loop-i-smaller
loop-i-smaller c =
    let ahead = law.count-ahead _ _ _ _ c.loop-i-test.true c.list_token-next.ensures refl (passed-code c.list_token-next.result c.in-Name.is) in
    omega (arith, ahead)

pub loop-i-preserved : goal.loop-i-preserved
loop-i-preserved c =
    let ahead = law.count-ahead _ _ _ _ c.loop-i-test.true c.list_token-next.ensures refl (passed-code c.list_token-next.result c.in-Name.is) in
    (omega (arith, ahead), c.loop-i.invariant.1 ∙ passed _ _ _ c.list_token-next.result c.loop-i-test.true c.list_token-next.ensures c.in-Name.is)

pub returns : goal.returns
returns c = sym (c.loop-i.invariant.1 ∙ law.count-end c.args.s.now _ _ c.loop-i-test.false)
