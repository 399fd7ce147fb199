-- What productions are made of. A reading sticks: behind a refusal nothing more is read.
-- A working definition: crate grammar proves that what is refused, and what is read, is the grammar's.
use Rattle.std.specs.Prelude.{ℕ, List, Bool, cond, eqb, ltb}
use Rattle.std.proofs.Math.Seq.{slice}
use Rattle.model.specs.Bytes.{same}
use Rattle.text.specs.declared.Token.{Token}
use Rattle.text.specs.declared.Token.TheVariants as T
use Rattle.text.specs.declared.Lexed.{Lexed}
use Rattle.text.specs.declared.Got.{Got}
use Rattle.text.specs.declared.Name.{Name}
use Rattle.text.specs.declared.State.{State}
use Rattle.text.specs.declared.Item.{Item}
use Rattle.text.specs.declared.Item.TheVariants.{No}
use Rattle.text.specs.declared.ReadItem.{ReadItem}
use Rattle.text.specs.Tokens.{token_at, code_of, is}

-- a token that was taken, or a refusal
abbrev pub got : ℕ → ℕ → ℕ → Got
got bad start end = record { bad = bad; start = start; end = end }

-- the beginning of a reading at a place
abbrev pub from : ℕ → Got
from at = got 0 at at

-- 2 where the bytes start no token, 3 for a token, or the end, that is not allowed here
unfoldable pub refusal : Lexed → Got
refusal lexed = got (cond (is T.Bad lexed) 2 3) lexed.start lexed.start

-- the next token where it may stand, else its refusal
abbrev pub allow : Bool → Lexed → Got → Got
allow allowed next g =
    let fine = cond allowed (got 0 next.start next.end) (refusal next) in
    cond (eqb g.bad 0) fine g

-- the next token, which must be t
unfoldable pub want : Token → List ℕ → Got → Got
want t s g =
    let next = token_at s g.end in
    allow (is t next) next g

-- the next token, whichever it is, but not the end
unfoldable pub want_any : List ℕ → Got → Got
want_any s g =
    let next = token_at s g.end in
    allow (ltb (code_of next.token) (code_of T.End)) next g

-- whether the bytes from start up to end are a word
abbrev pub spells : List ℕ → ℕ → ℕ → List ℕ → Bool
spells s start end word = same (slice start end s) word

-- the next token, which must be the name `word`; another name there is 3
unfoldable pub want_word : List ℕ → List ℕ → Got → Got
want_word word s g =
    let name = want T.Name s g in
    let fine = cond (spells s name.start name.end word) name (got 3 name.start name.start) in
    cond (eqb name.bad 0) fine name

-- the first of two readings that is not refused
abbrev pub either : Got → Got → Got
either a b = cond (eqb a.bad 0) a b

-- the bytes of a token as a name
abbrev pub name_of : Got → Name
name_of g = record { start = g.start; end = g.end }

-- an item, the state behind it and the next place
abbrev pub read : Item → State → ℕ → ReadItem
read item state next = record { item = item; state = state; next = next }

-- the item of a production whose last token is `last`, and the state behind it
unfoldable pub closed : Item → State → Got → ReadItem
closed item state last = cond (eqb last.bad 0) (read item state last.end) (read (No last.bad last.start) state last.end)
