-- One byte and a number of k bytes are lawful, and how they are read.
use Rattle.std.specs.Prelude.{◌≡◌, refl, List, [], ◌∷◌, ◌++◌, true, ℕ, zero, suc, ◌+◌, ◌*◌, ◌-◌, ◌/◌, ◌%◌, ◌^◌, ◌≤◌, ◌<◌, ltb, length, get_or, drop}
use Rattle.std.proofs.Common.{ap, ◌∙◌, subst, arith, add-one, mul-le-mul_right, suc-mul, mod-lt, div-add-mod', mod-eq_of_lt, add-zero, div-lt_iff_lt-mul, le_refl, le_of_eq, length-drop, drop-cons, ltb-true, lt-ltb}
use Rattle.std.proofs.Math.Numerals.{towards_suc}
use Rattle.std.proofs.Math.Nat.{one-le-pow, mul-add-div_right, mul-add-mod_self_right, div-eq_of_lt, pow-succ'}
use Rattle.codec.specs.Readings.{got, no}
use Rattle.codec.specs.Codecs.{Bytes, Lawful, Bounded}
use Rattle.codec.specs.Numbers.{byte_get, byte, be_put, be_get, be}
use Rattle.codec.proofs.Readings.{got_same, and_then-got, and_then-no}
use Rattle.codec.proofs.Codecs.{no_bytes, bytes-both, bytes-behind}

-- ---- one byte

pub byte-back : (bs : List ℕ) (a : ℕ) (r : List ℕ) → Bytes bs → byte_get bs ≡ got a r → (bs ≡ a ∷ r) × (ltb a 256 ≡ true)
unfolding byte_get
byte-back [] a r h e = absurd (let z : ◌≡◌ {A = ℕ} 0 1 = cc in omega arith)
byte-back (b ∷ s) a r h e =
    let (p, q) = got_same e in
    (cc, lt-ltb a 256 (subst (λ (y : ℕ). y < 256) p (h.below 0)))

pub byte-whole : (n : ℕ) → ltb n 256 ≡ true → Bytes (n ∷ [])
byte-whole n h = record { below = go }
  where
    go : (i : ℕ) → get_or (n ∷ []) i 0 < 256
    go zero = ltb-true n 256 h
    go (suc i) = omega arith

pub byte-lawful : Lawful byte
unfolding byte byte_get
byte-lawful = record { there = λ a r h. refl; whole = byte-whole; back = byte-back }

byte_get-refuses : (P : ℕ → Type 0) → P 22 → (bs : List ℕ) (e : ℕ) → byte_get bs ≡ no e → P e
unfolding byte_get
byte_get-refuses P h [] e p = let q : 22 ≡ e = cc in subst P q h
byte_get-refuses P h (b ∷ bs) e p = absurd (let z : ◌≡◌ {A = ℕ} 0 1 = cc in omega arith)

pub byte-bounded : {P : ℕ → Type 0} → P 22 → Bounded P 1 byte
unfolding byte
byte-bounded {P} h = record { room = λ a g. le_refl 1; number = byte_get-refuses P h }

-- the byte at a place of a text
pub byte_at : (s : List ℕ) (at : ℕ) → at < length s → byte.get (drop at s) ≡ got (get_or s at 0) (drop (at + 1) s)
unfolding byte byte_get
byte_at s at h = rw (drop-cons s at 0 h, add-one) refl

pub byte-missing : (s : List ℕ) (at : ℕ) → length s ≤ at → byte.get (drop at s) ≡ no 22
unfolding byte byte_get
byte-missing s at h = go (drop at s) (omega (arith, length-drop at s))
  where
    go : (bs : List ℕ) → length bs ≡ 0 → byte_get bs ≡ no 22
    go [] e = refl
    go (x ∷ bs) e = absurd (omega arith)

-- ---- a number of k bytes

pow_pos : (k : ℕ) → 0 < 256 ^ k
pow_pos k = one-le-pow k 256 (omega arith)

below : (x m l : ℕ) → x < 256 → l < m → x * m + l < 256 * m
below x m l h g = omega (arith, mul-le-mul_right m h, suc-mul x m)

pub be-there : (k n : ℕ) (r : List ℕ) → n < 256 ^ k → be_get k (be_put k n ++ r) ≡ got n r
unfolding byte_get
be-there zero n r h = ap (λ (x : ℕ). got x r) (omega arith)
be-there (suc k) n r h = rw (be-there k (n % 256 ^ k) r (mod-lt n (pow_pos k)), div-add-mod' n (256 ^ k)) refl

pub be-back : (k : ℕ) (bs : List ℕ) (n : ℕ) (r : List ℕ) → Bytes bs → be_get k bs ≡ got n r → (bs ≡ be_put k n ++ r) × (n < 256 ^ k)
be-back zero bs n r h e = let (p, q) = got_same e in (q, omega (arith, p))
be-back (suc k) bs n r h e =
    let (high, s, p, q) = and_then-got (byte_get bs) _ e in
    let (low, t, u, v) = and_then-got (be_get k s) _ q in
    let (i, j) = got_same v in
    let m = byte-back bs high s h p in
    let w = be-back k s low t (bytes-behind (high ∷ []) s (subst Bytes m.0 h)) u in
    let d : (high * 256 ^ k + low) / 256 ^ k ≡ high = mul-add-div_right (pow_pos k) high low ∙ rw (div-eq_of_lt w.1) (add-zero high) in
    let f : (high * 256 ^ k + low) % 256 ^ k ≡ low = mul-add-mod_self_right high (256 ^ k) low ∙ mod-eq_of_lt w.1 in
    subst (λ (y : ℕ). (bs ≡ (y / 256 ^ k) ∷ (be_put k (y % 256 ^ k) ++ r)) × (y < 256 ^ suc k)) i (
      rw (d, f) (m.0 ∙ ap (λ (z : List ℕ). high ∷ z) (w.0 ∙ ap (λ (z : List ℕ). be_put k low ++ z) j)),
      rw pow-succ' (below high (256 ^ k) low (ltb-true _ _ m.1) w.1),
    )

pub be-whole : (k n : ℕ) → n < 256 ^ k → Bytes (be_put k n)
be-whole zero n h = no_bytes
be-whole (suc k) n h =
    bytes-both (byte-whole (n / 256 ^ k) (lt-ltb _ _ ((div-lt_iff_lt-mul (pow_pos k)).1 (rw (← pow-succ') h))))
    (be-whole k (n % 256 ^ k) (mod-lt n (pow_pos k)))

pub be-lawful : (k : ℕ) → Lawful (be k)
unfolding be
be-lawful k =
    record {
      there = λ n r h. be-there k n r (ltb-true _ _ h);
      whole = λ n h. be-whole k n (ltb-true _ _ h);
      back = λ bs n r h e. let m = be-back k bs n r h e in (m.0, lt-ltb _ _ m.1);
    }

be_put-length : (k n : ℕ) → length (be_put k n) ≡ k
be_put-length zero n = refl
be_put-length (suc k) n = ap suc (be_put-length k (n % 256 ^ k))

pub be-length : (k n : ℕ) → length ((be k).put n) ≡ k
unfolding be
be-length k n = be_put-length k n

be_get-refuses : (P : ℕ → Type 0) → P 22 → (k : ℕ) (bs : List ℕ) (e : ℕ) → be_get k bs ≡ no e → P e
be_get-refuses P h zero bs e p = absurd (let z : ◌≡◌ {A = ℕ} 0 1 = cc in omega arith)
be_get-refuses P h (suc k) bs e p =
    and_then-no P (byte_get bs) _ (byte_get-refuses P h bs)
    (λ high r. and_then-no P (be_get k r) _ (be_get-refuses P h k r) (λ low s f q. absurd (let z : ◌≡◌ {A = ℕ} 0 1 = cc in omega arith))) e p

pub be-bounded : {P : ℕ → Type 0} → P 22 → (k : ℕ) → Bounded P k (be k)
unfolding be
be-bounded {P} h k = record { room = λ n g. le_of_eq (be_put-length k n); number = be_get-refuses P h k }

pub be-ok : (k n : ℕ) → n < 256 ^ k → (be k).ok n ≡ true
unfolding be
be-ok k n h = lt-ltb _ _ h

pub be-below : (k n : ℕ) → (be k).ok n ≡ true → n < 256 ^ k
unfolding be
be-below k n h = ltb-true _ _ h

be-short : (k : ℕ) (bs : List ℕ) → length bs < k → be_get k bs ≡ no 22
unfolding byte_get
be-short zero bs h = absurd (omega arith)
be-short (suc k) [] h = refl
be-short (suc k) (x ∷ bs) h = rw (be-short k bs (omega arith)) refl

-- the number at a place of a text
pub be-missing : (k : ℕ) (s : List ℕ) (at : ℕ) → length s - at < k → (be k).get (drop at s) ≡ no 22
unfolding be
be-missing k s at h = be-short k (drop at s) (simp length-drop h)

-- one byte as a number
pub be1-byte : (bs : List ℕ) → (be 1).get bs ≡ byte.get bs
unfolding be byte byte_get
be1-byte [] = refl
be1-byte (x ∷ bs) = ap (λ (v : ℕ). got v bs) (omega arith)

pub be2-at : (s : List ℕ) (at : ℕ) → at + 2 ≤ length s
    → (be 2).get (drop at s) ≡ got (get_or s at 0 * 256 + get_or s (at + 1) 0) (drop (at + 2) s)
unfolding be byte_get
be2-at s at h =
    simp towards_suc
    (rw (drop-cons s at 0 (omega arith), drop-cons s (suc at) 0 (omega arith))
    (ap (λ (v : ℕ). got v (drop (suc (suc at)) s)) (omega arith)))

pub be4-at : (s : List ℕ) (at : ℕ) → at + 4 ≤ length s
    → (be 4).get (drop at s)
    ≡ got (get_or s at 0 * 16777216 + (get_or s (at + 1) 0 * 65536 + (get_or s (at + 2) 0 * 256 + get_or s (at + 3) 0))) (drop (at + 4) s)
unfolding be byte_get
be4-at s at h =
    simp towards_suc
    (rw (drop-cons s at 0 (omega arith), drop-cons s (suc at) 0 (omega arith), drop-cons s (suc (suc at)) 0 (omega arith), drop-cons s (suc (suc (suc at))) 0 (omega arith))
    (ap (λ (v : ℕ). got v (drop (suc (suc (suc (suc at)))) s)) (omega arith)))
