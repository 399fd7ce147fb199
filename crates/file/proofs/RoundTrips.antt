-- Reading what was written gives the same table; writing what was read gives the same bytes.
use Rattle.std.specs.Prelude.{◌≡◌, refl, List, [], ◌∷◌, ◌++◌, Bool, true, false, cond, ℕ, ◌^◌, ◌<◌, eqb, length}
use Rattle.std.proofs.Common.{sym, ap, ap₂, ◌∙◌, subst, append-nil, arith, eqb-true, eq-eqb}
use Rattle.codec.specs.Readings.{Reading, got, no}
use Rattle.codec.specs.Codecs.{Bytes}
use Rattle.codec.specs.Numbers.{be}
use Rattle.codec.proofs.Codecs.{bytes-behind, and_left, and_right, and_both}
use Rattle.codec.proofs.Numbers.{be-ok, be-lawful}
use Rattle.file.specs.Tables.{Table}
use Rattle.file.specs.References.{good_references}
use Rattle.file.specs.Files.{version_of, known_version, table_by, body, encode, Answer, read, refused, judged, versioned, framed, decode, sound}
use Rattle.file.proofs.Files.{table_by-lawful}
use Rattle.file.proofs.Bounds.{body-room}

-- ---- versions: a table is written in a version that is known, and read in the version that it is written in

own-version : (t : Table) → known_version (version_of t) ≡ true
unfolding known_version version_of
own-version t = refl

same_version : (version : ℕ) (t : Table) → known_version version ≡ true → version ≡ version_of t
unfolding known_version version_of
same_version version t h = eqb-true version 1 h

-- ---- reading undoes writing

framed-on : (bs : List ℕ) → framed (got (length bs) bs) ≡ versioned bs
framed-on bs = rw (eq-eqb (length bs) (length bs) refl)

judged-on : {t : Table} {m : Reading Table} → m ≡ got t [] → good_references t ≡ true → judged m ≡ read t
judged-on p q = rw p (rw q refl)

versioned-on : (version : ℕ) (rest : List ℕ) {t : Table} → known_version version ≡ true → (table_by version).get rest ≡ got t [] → good_references t ≡ true
    → versioned (version ∷ rest) ≡ read t
versioned-on version rest h p q = rw h (judged-on p q)

pub decode-encode : (t : Table) → sound t ≡ true → decode (encode t) ≡ read t
unfolding decode encode sound body
decode-encode t h =
    let fits = and_left _ _ h in
    let c = table_by (version_of t) in
    let l : length (body t) < 256 ^ 4 = let p = body-room t fits in omega arith in
    ap framed ((be-lawful 4).there (length (body t)) (body t) (be-ok 4 _ l)) ∙ framed-on (body t)
    ∙ versioned-on (version_of t) (c.put t) (own-version t) (ap c.get (sym (append-nil (c.put t))) ∙ (table_by-lawful (version_of t)).there t [] fits) (and_right (c.ok t) _ h)

-- ---- writing undoes reading

cond-read : (b : Bool) (a : Answer) (e : ℕ) {t : Table} → cond b a (refused e) ≡ read t → (b ≡ true) × (a ≡ read t)
cond-read true a e p = (refl, p)
cond-read false a e p = absurd (let z : ◌≡◌ {A = ℕ} 0 1 = cc in omega arith)

judged-read : (m : Reading Table) {t : Table} → judged m ≡ read t → (m ≡ got t []) × (good_references t ≡ true)
judged-read (no e) p = absurd (let z : ◌≡◌ {A = ℕ} 0 1 = cc in omega arith)
judged-read (got u []) {t} p =
    let (q, r) = cond-read (good_references u) _ _ p in
    let i : u ≡ t = cc in
    (ap (λ (x : Table). got x []) i, ap good_references (sym i) ∙ q)
judged-read (got u (x ∷ r)) p = absurd (let z : ◌≡◌ {A = ℕ} 0 1 = cc in omega arith)

versioned-read : (bs : List ℕ) {t : Table} → Bytes bs → versioned bs ≡ read t → (bs ≡ body t) × (sound t ≡ true)
unfolding body sound
versioned-read [] h p = absurd (let z : ◌≡◌ {A = ℕ} 0 1 = cc in omega arith)
versioned-read (version ∷ rest) {t} h p =
    let (known, q) = cond-read (known_version version) _ _ p in
    let (g, r) = judged-read ((table_by version).get rest) q in
    let v = same_version version t known in
    let (b, k) = (table_by-lawful version).back rest t [] (bytes-behind (version ∷ []) rest h) g in (
      ap₂ (λ (x : ℕ) (l : List ℕ). x ∷ l) v (b ∙ append-nil ((table_by version).put t) ∙ ap (λ (x : ℕ). (table_by x).put t) v),
      and_both (ap (λ (x : ℕ). (table_by x).ok t) (sym v) ∙ k) r,
    )

framed-read : (m : Reading ℕ) {t : Table} → framed m ≡ read t → (rest : List ℕ) × (m ≡ got (length rest) rest) × (versioned rest ≡ read t)
framed-read (no e) p = absurd (let z : ◌≡◌ {A = ℕ} 0 1 = cc in omega arith)
framed-read (got n rest) p =
    let (q, r) = cond-read (eqb n (length rest)) _ _ p in
    (rest, ap (λ (x : ℕ). got x rest) (eqb-true n (length rest) q), r)

pub encode-decode : (bs : List ℕ) (t : Table) → Bytes bs → decode bs ≡ read t → (encode t ≡ bs) × (sound t ≡ true)
unfolding encode decode
encode-decode bs t h e =
    let (rest, p, q) = framed-read ((be 4).get bs) e in
    let (u, v) = (be-lawful 4).back bs (length rest) rest h p in
    let (w, s) = versioned-read rest (bytes-behind ((be 4).put (length rest)) rest (subst Bytes u h)) q in
    (sym (u ∙ ap (λ (l : List ℕ). (be 4).put (length l) ++ l) w), s)
