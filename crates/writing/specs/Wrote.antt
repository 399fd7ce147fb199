-- Bytes put into a buffer that knows the place of the next byte.
use Rattle.std.specs.Prelude.{ℕ, zero, suc, ◌+◌, ◌-◌, ◌%◌, ◌≤◌, ◌<◌, ◌≡◌, List, [], ◌∷◌, ◌++◌, length, take, drop, get_or}
use Rattle.std.proofs.Common.{Fits, w8, arith, ap, ap₂, sym, subst, ◌∙◌, append_assoc, length-take-le, length-drop, get_or-drop, take-append-drop, take-suc}
use Rattle.std.proofs.lemmas.Slice.{take-put_mid, drop-put_mid}
use borrow.Rule.Slice.PartMut.{put_mid}
use Rattle.std.proofs.Math.Path.{refl}
use Rattle.std.proofs.Math.Seq.{take-add}
use Rattle.std.proofs.lemmas.Nat.{be_bytes_4}
use Rattle.std.specs.Int.{to_be_bytes, w32}
use Rattle.writing.specs.declared.Arrays.{Arrays}
use Rattle.writing.specs.declared.numbers.Out.{Out}
use Rattle.layout.specs.Filling.{stored}
use Rattle.writing.specs.Puts.{Puts, parts, stored_cut, stored-fits, puts_none, puts-both, puts-more, puts-begin, puts-length}
use Rattle.writing.specs.Cells.{TaskArrays, byte_of, pair_of, quad_of, letters_in}

-- some bytes were put: into the same buffer, the place of the next byte then behind them
pub record Wrote (before : Out) (bytes : List ℕ) (after : Out) : Type 0 where
  pub puts : Puts before.buffer.now before.at bytes after.buffer.now after.at
  pub same_buffer : after.buffer.ghost_name ≡ before.buffer.ghost_name

-- ---- laws

pub wrote-both : {l m n : Out} {a b : List ℕ} → Wrote l a m → Wrote m b n → Wrote l (a ++ b) n
wrote-both p q = record { puts = puts-both p.puts q.puts; same_buffer = q.same_buffer ∙ p.same_buffer }

pub wrote-none : (l : Out) → Wrote l [] l
wrote-none l = record { puts = puts_none; same_buffer = refl }

-- bytes that are known by another name
pub wrote_as : {l m : Out} {a b : List ℕ} → a ≡ b → Wrote l a m → Wrote l b m
wrote_as {l} {m} e p = subst (λ (x : List ℕ). Wrote l x m) e p

-- a number that is known by another name
pub wrote_of : {l m : Out} {x y : ℕ} (f : ℕ → List ℕ) → x ≡ y → Wrote l (f x) m → Wrote l (f y) m
wrote_of f e p = wrote_as (ap f e) p

-- the first and the next of some parts
pub wrote-begin : (part : ℕ → List ℕ) (l : Out) → Wrote l (parts part 0) l
wrote-begin part l = record { puts = puts-begin part; same_buffer = refl }

pub wrote-more : {l m n : Out} (part : ℕ → List ℕ) (k : ℕ) → Wrote l (parts part k) m → Wrote m (part k) n → Wrote l (parts part (k + 1)) n
wrote-more part k p q = record { puts = puts-more part p.puts q.puts refl; same_buffer = q.same_buffer ∙ p.same_buffer }

-- bytes that a buffer has room for, written over a part of it
pub wrote_whole : (l : List ℕ) (at n : ℕ) (bytes part : List ℕ) → at + length bytes ≤ length l → n ≡ length bytes → part ≡ bytes → Puts l at bytes (put_mid at n l part) (at + length bytes)
wrote_whole l at n bytes part fits size same =
    let long : length part ≡ n = ap length same ∙ sym size in
    let end : at + length bytes ≡ at + length part = omega (arith, size, long) in
    let front = take-put_mid at n l part (at + length bytes) end (omega arith) in
    let rest = drop-put_mid at n l part (at + length bytes) (omega arith) (omega arith) long in
    record {
      is =
          sym (take-append-drop (at + length bytes) (put_mid at n l part)) ∙ ap₂ (λ (x y : List ℕ). x ++ y) (front ∙ ap (λ (x : List ℕ). take at l ++ x) same) rest
          ∙ append_assoc (take at l) bytes (drop (at + length bytes) l) ∙ sym (stored-fits l at bytes fits);
      goes = omega arith;
    }

-- where the bytes have room: the place behind them, in a buffer as long as before
pub wrote-room : {l m : Out} {bytes : List ℕ} → Wrote l bytes m → l.at + length bytes ≤ length l.buffer.now → (m.at ≡ l.at + length bytes) × (length m.buffer.now ≡ length l.buffer.now)
wrote-room p fits = (omega (arith, p.puts.goes), puts-length p.puts)

-- some bytes part by part: the bytes up to the next place
pub wrote_next : {l m n : Out} (bytes : List ℕ) (i j : ℕ) → i ≤ j → Wrote l (take i bytes) m → Wrote m (take (j - i) (drop i bytes)) n → Wrote l (take j bytes) n
wrote_next bytes i j h p q =
    let e : i + (j - i) ≡ j = omega arith in
    wrote_as (sym (take-add i (j - i) bytes) ∙ ap (λ (k : ℕ). take k bytes) e) (wrote-both p q)

pub part-length : (bytes : List ℕ) (i j : ℕ) → i ≤ j → j ≤ length bytes → length (take (j - i) (drop i bytes)) ≡ j - i
part-length bytes i j h fits = length-take-le (j - i) (drop i bytes) (omega (arith, length-drop i bytes))

-- and one byte more
pub wrote_one : {l m n : Out} (bytes : List ℕ) (k : ℕ) → k < length bytes → Wrote l (take k bytes) m → Wrote m (get_or bytes k 0 ∷ []) n → Wrote l (take (k + 1) bytes) n
wrote_one bytes k held p q =
    let e : k + 1 ≡ suc k = omega arith in
    wrote_as (sym (ap (λ (n : ℕ). take n bytes) e ∙ take-suc bytes k 0 held)) (wrote-both p q)

-- as many bytes as a buffer has room for
pub wrote_cut : {l m : List ℕ} {at next room : ℕ} (bytes : List ℕ) → room ≡ length l - at → room ≤ length bytes → Puts l at (take room bytes) m next → Puts l at bytes m next
wrote_cut {l} {m} {at} {next} {room} bytes e few p =
    let size = length-take-le room bytes few in
    record {
      is = p.is ∙ ap (λ (n : ℕ). stored l at (take n bytes)) e ∙ sym (stored_cut l at bytes);
      goes = omega (arith, p.goes, size);
    }

-- letters that the cells hold
pub letters_held : (names : List ℕ) (first n : ℕ) → first + n ≤ length names → ((i : ℕ) → Fits w8 (get_or names i 0)) → take n (drop first names) ≡ letters_in names first n
unfolding parts byte_of
letters_held names first zero fits small = refl
letters_held names first (suc n) fits small =
    let held : n < length (drop first names) = omega (arith, length-drop first names) in
    let x : get_or (drop first names) n 0 ≡ get_or names (first + n) 0 = simp get_or-drop in
    let s = small (first + n) in
    let low : get_or names (first + n) 0 ≡ get_or names (first + n) 0 % 256 = omega (arith, s) in
    take-suc (drop first names) n 0 held ∙ ap₂ (λ (a : List ℕ) (b : ℕ). a ++ (b ∷ [])) (letters_held names first n (omega arith) small) (x ∙ low)

-- ---- the arrays that hold a table's tasks
abbrev pub tasks_of : Arrays → TaskArrays
tasks_of t =
    record { names = t.task_names.now; output_names = t.output_names.now; types = t.types.now; starts = t.starts.now; rows = t.task_rows.now }

-- ---- the bytes of a number, as the code has them

quad_small : (n i : ℕ) → get_or (quad_of n) i 0 < 256
unfolding quad_of pair_of byte_of
quad_small n zero = omega arith
quad_small n (suc zero) = omega arith
quad_small n (suc (suc zero)) = omega arith
quad_small n (suc (suc (suc zero))) = omega arith
quad_small n (suc (suc (suc (suc i)))) = omega arith

pub quad_bytes : (n : ℕ) → n < 4294967296 → to_be_bytes w32 n ≡ quad_of n
unfolding quad_of pair_of byte_of
quad_bytes n small = be_bytes_4 (quad_of n) n refl (quad_small n) (omega arith)
