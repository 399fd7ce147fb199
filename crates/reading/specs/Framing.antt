-- What the reader answers, step by step: length, version, table, bytes left over, references.
use Rattle.std.specs.Prelude.{ℕ, ◌≡◌, refl, Bool, true, false, List, [], ◌∷◌, eqb, length, Result, Ok, Err}
use Rattle.std.proofs.Common.{arith, sym, subst, ◌∙◌, eq-eqb, ne_eqb}
use Rattle.std.proofs.Math.Path.{ap}
use Rattle.std.proofs.Math.Bool.{cond}
use Rattle.codec.specs.Readings.{Reading, got, no}
use Rattle.codec.specs.Codecs.{Bytes, Codec, Lawful}
use Rattle.codec.proofs.Codecs.{bytes-behind}
use Rattle.codec.specs.Numbers.{byte_get, byte, be}
use Rattle.file.specs.Tables.{Table}
use Rattle.file.specs.References.{good_references}
use Rattle.file.specs.Files.{table, table_by, known_version, read, refused, judged, versioned, framed, decode}
use Rattle.layout.specs.Plain.{struct_of, blank}
use Rattle.fields.specs.Taking.{Takes}
use Rattle.referring.specs.Rows.{good_in}
use Rattle.referring.specs.Agreement.{good-is}
use Rattle.tables.specs.declared.Table.{Table as Plain}
use Rattle.reading.specs.Readings.{result_of}
use Rattle.reading.specs.Joining.{taken-got, taken-no}
use Rattle.reading.specs.Tabled.{table-fine}

-- what is left of bytes is bytes
pub bytes-left : {A : Type 0} (c : Codec A) {bs rest : List ℕ} {a : A} → Lawful c → Bytes bs → c.get bs ≡ got a rest → Bytes rest
bytes-left c {bs} {rest} {a} law h p = bytes-behind (c.put a) rest (subst Bytes (law.back bs a rest h p).0 h)

-- ---- the length of the rest

module _ (bs : List ℕ) where
  pub decode-short : {e : ℕ} → (be 4).get bs ≡ no e → decode bs ≡ refused 20
  unfolding decode
  decode-short p = ap framed p

  pub decode-wrong : {n : ℕ} {rest : List ℕ} → (be 4).get bs ≡ got n rest → (n ≡ length rest → ⊥) → decode bs ≡ refused 20
  unfolding decode
  decode-wrong {n} {rest} p h = ap framed p ∙ ap (λ (b : Bool). cond b (versioned rest) (refused 20)) (ne_eqb n (length rest) h)

  pub decode-on : {n : ℕ} {rest : List ℕ} → (be 4).get bs ≡ got n rest → n ≡ length rest → decode bs ≡ versioned rest
  unfolding decode
  decode-on {n} {rest} p h = ap framed p ∙ ap (λ (b : Bool). cond b (versioned rest) (refused 20)) (eq-eqb n (length rest) h)

-- ---- the version

pub versioned-none : (bs : List ℕ) {e : ℕ} → byte.get bs ≡ no e → versioned bs ≡ refused 20
unfolding byte byte_get
versioned-none [] p = refl
versioned-none (b ∷ rest) p = absurd (let z : ◌≡◌ {A = ℕ} 0 1 = cc in omega arith)

pub versioned-other : (bs : List ℕ) {v : ℕ} {rest : List ℕ} → byte.get bs ≡ got v rest → (v ≡ 1 → ⊥) → versioned bs ≡ refused 21
unfolding byte byte_get known_version
versioned-other [] p h = absurd (let z : ◌≡◌ {A = ℕ} 0 1 = cc in omega arith)
versioned-other (b ∷ rest) {v} p h =
    let e : b ≡ v = cc in
    ap (λ (t : Bool). cond t (judged ((table_by b).get rest)) (refused 21)) (ap (λ (x : ℕ). eqb x 1) e ∙ ne_eqb v 1 h)

pub versioned-on : (bs : List ℕ) {v : ℕ} {behind : List ℕ} → byte.get bs ≡ got v behind → v ≡ 1 → versioned bs ≡ judged (table.get behind)
unfolding byte byte_get known_version table_by
versioned-on [] p h = absurd (let z : ◌≡◌ {A = ℕ} 0 1 = cc in omega arith)
versioned-on (b ∷ rest) {v} {behind} p h =
    let e : b ≡ v = cc in
    let f : rest ≡ behind = cc in
    ap (λ (t : Bool). cond t (judged (table.get rest)) (refused 21)) (eq-eqb b 1 (e ∙ h)) ∙ ap (λ (l : List ℕ). judged (table.get l)) f

-- ---- the table

judged-left : (t : Table) (rest : List ℕ) → (length rest ≡ 0 → ⊥) → judged (got t rest) ≡ refused 22
judged-left t [] h = absurd (h refl)
judged-left t (b ∷ rest) h = refl

judged-end : (t : Table) (rest : List ℕ) → length rest ≡ 0 → judged (got t rest) ≡ cond (good_references t) (read t) (refused 24)
judged-end t [] h = refl
judged-end t (b ∷ rest) h = absurd (omega arith)

module _ {bs : List ℕ} where
  pub judged-no : {e : ℕ} → Takes table (λ x old. struct_of x) (got blank bs) (no e) → Err (record { number = e }) ≡ result_of (judged (table.get bs))
  judged-no t = ap (λ (m : Reading Table). result_of (judged m)) (sym (taken-no t))

  module _ {rest : List ℕ} {l : Plain} (t : Takes table (λ x old. struct_of x) (got blank bs) (got l rest)) where
    -- bytes left over
    pub judged-over : (length rest ≡ 0 → ⊥) → Err (record { number = 22 }) ≡ result_of (judged (table.get bs))
    judged-over h =
        let r = taken-got t in
        ap result_of (sym (ap judged r.reads ∙ judged-left r.part rest h))

    module _ (whole : Bytes bs) (end : length rest ≡ 0) where
      referred : (b : Bool) → good_in l ≡ b → judged (table.get bs) ≡ cond b (read (taken-got t).part) (refused 24)
      referred b e =
          let r = taken-got t in
          let x = r.part in
          ap judged r.reads ∙ judged-end x rest end
          ∙ ap (λ (z : Bool). cond z (read x) (refused 24)) (sym (good-is x (table-fine x rest whole r.reads)) ∙ ap good_in (sym r.holds) ∙ e)

      pub judged-bad : good_in l ≡ false → Err (record { number = 24 }) ≡ result_of (judged (table.get bs))
      judged-bad e = ap result_of (sym (referred false e))

      pub judged-good : good_in l ≡ true → Ok l ≡ result_of (judged (table.get bs))
      judged-good e = ap Ok (taken-got t).holds ∙ ap result_of (sym (referred true e))
