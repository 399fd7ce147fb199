-- The front of a buffer in which a file was put together is that file.
use Prim.Native.Nat.{ℕ, ◌+◌, ◌-◌, ◌%◌, ◌≤◌, ◌<◌, min}
use Rattle.std.proofs.Common.{◌∙◌, length-take, length-take-le, take_at, drop_at}
use native.Mathlib.Omega.{arith}
use Rattle.std.specs.Prelude.{◌≡◌, refl}
use Rattle.std.proofs.Math.Path.{sym, ap, ap₂}
use mathlib.Core.List.{List, ◌++◌, append_assoc}
use Rattle.std.proofs.Math.ListN.{length, take, drop, length-append}
use Rattle.std.proofs.lemmas.List.Edits.{sets-eq}
use Rattle.tables.specs.declared.Table.{Table as Plain}
use Rattle.layout.specs.Filling.{stored, length-stored}
use Rattle.writing.specs.Puts.{stored_cut, stored-fits}
use Rattle.writing.specs.Cells.{byte_of, pair_of, quad_of}
use Rattle.filing.specs.Whole.{body_of, framed, file_of, Filed}

-- ---- the file

quad-length : (n : ℕ) → length (quad_of n) ≡ 4
unfolding quad_of pair_of byte_of
quad-length n = refl

module _ (before : List ℕ) (t : Plain) (after : List ℕ) (next : ℕ) (filed : Filed before t after next) (room : 4 ≤ length before) (most : length before < 4294967296) where
  abbrev shown : List ℕ
  shown = take (length before - 4) (body_of t)

  shown-length : length shown ≡ min (length (body_of t)) (length before - 4)
  shown-length = length-take (length before - 4) (body_of t) ∙ omega arith

  pub next-is : next ≡ 4 + length shown
  next-is = let l = shown-length in omega (arith, filed.goes)

  pub file-length : length (file_of (length before) t) ≡ next
  unfolding file_of framed
  file-length = length-append (quad_of (length shown)) shown ∙ omega (arith, quad-length (length shown), next-is)

  pub filed-front : after ≡ file_of (length before) t ++ drop next before
  unfolding file_of framed
  filed-front =
      let l = shown-length in
      let n = next-is in
      let m : (next - 4) % 4294967296 ≡ length shown = omega arith in
      let q = quad-length (length shown) in
      let inner : List ℕ = take 4 before ++ (shown ++ drop (4 + length shown) before) in
      let e : stored before 4 (body_of t) ≡ inner = stored_cut before 4 (body_of t) ∙ stored-fits before 4 shown (omega arith) in
      let f : length inner ≡ length before = ap length (sym e) ∙ length-stored before 4 (body_of t) in
      let four : 0 + length (quad_of (length shown)) ≡ 4 = omega arith in
      filed.is ∙ ap₂ (λ (a : List ℕ) (k : ℕ). stored a 0 (quad_of k)) e m
      ∙ stored-fits inner 0 (quad_of (length shown)) (omega arith)
      ∙ ap (λ (k : ℕ). quad_of (length shown) ++ drop k inner) four
      ∙ ap (λ (x : List ℕ). quad_of (length shown) ++ x) (drop_at (take 4 before) (shown ++ drop (4 + length shown) before) 4 (length-take-le 4 before room))
      ∙ ap (λ (k : ℕ). quad_of (length shown) ++ (shown ++ drop k before)) (sym n) ∙ sym (append_assoc (quad_of (length shown)) shown (drop next before))

  filed-take : take next after ≡ file_of (length before) t
  filed-take = ap (λ (x : List ℕ). take next x) filed-front ∙ take_at (file_of (length before) t) (drop next before) next file-length

-- the file in a buffer that has room for the longest
pub longest : {before after : List ℕ} {t : Plain} {next : ℕ} → Filed before t after next → length before ≡ 71364 → take next after ≡ file_of 71364 t
longest {before} {after} {t} {next} filed size =
    filed-take before t after next filed (omega arith) (omega arith) ∙ ap (λ (n : ℕ). file_of n t) size
