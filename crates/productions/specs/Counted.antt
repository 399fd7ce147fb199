-- Arguments are counted from behind their first name on.
use Rattle.std.specs.Prelude.{ℕ, ◌<◌, ◌≡◌, refl, List, true}
use Rattle.std.proofs.Common.{ap, arith, eqb-true}
use Rattle.text.specs.declared.Token.TheVariants as T
use Rattle.text.specs.declared.Lexed.{Lexed}
use Rattle.text.specs.Tokens.{token_at, code_at, code_of, is}
use Rattle.text.proofs.TokensLaws.{token-here}
use Rattle.text.specs.Productions.{count_at}
use Rattle.text.proofs.CountLaws.{count-name}

pub past-name : (s : List ℕ) (at : ℕ) (found : Lexed) → found ≡ token_at s at → is T.Name found ≡ true → count_at s at ≡ count_at s found.end
unfolding count_at
past-name s at found p e =
    let name : code_of found.token ≡ 0 = eqb-true _ _ e in
    let small : code_at s at < 36 = omega (arith, name, ap (λ (l : Lexed). code_of l.token) p) in
    count-name s at found (code_of found.token) (token-here s at small).place p refl 1 name
