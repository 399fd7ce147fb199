-- Which texts are accepted, in words apart from the definition's text: each answer with its cause, in document 01's order ('When the compiler says no').
use Rattle.std.specs.Prelude.{ℕ, ◌≤◌, ◌<◌, ◌≡◌, Bool, true, false, cond, List, length, ltb, Ok, Err}
use Rattle.std.proofs.Common.{arith, sym, ◌∙◌, ap, ltb-true, ltb-false}
use Rattle.std.proofs.Math.Path.{refl}
use Rattle.std.proofs.Math.Option.{Option, none, some}
use Rattle.model.specs.Rooms.{text_room, code_room}
use Rattle.text.specs.declared.Item.{Item}
use Rattle.text.specs.Items.{Refusal, syntax_of}
use Rattle.grammar.specs.Expressions.{Word}
use Rattle.grammar.specs.Grammar.{Module}
use Rattle.grammar.specs.Judgement.{tokens_of, letters, Judged}
use Rattle.grammar.specs.Judgement as J
use Rattle.grammar.specs.JudgementLaws.{judged-once}
use Rattle.grammar.proofs.Syntax.{syntax-judged, syntax-free}
use Rattle.refusals.specs.Verdicts.{Verdict, No, one-refusal}
use Rattle.refusals.specs.Checks.{Leftmost}
use Rattle.refusals.specs.ChecksLaws.{leftmost-unique}
use Rattle.refusals.proofs.RulesOrder.{verdict-leftmost}
use Rattle.refusals.specs.Texts.{all_rules, verdict_of, module_of}
use Rattle.timing.specs.Code.{code_of}
use Rattle.prescribed.specs.Compiles.{Compiling, file, refused, file_of, in_room, by_verdict, by_syntax, compile_of}
use Rattle.prescribed.specs.Acceptance.{Accepts, Answers, Readable, Unbroken, long, unreadable, broken, overfull, roomless, accepted}

pub free : {text : List ℕ} → Readable text → syntax_of text ≡ none
free {text} r = (syntax-free text).1 r.is-module

module _ (text : List ℕ) (room : ℕ) where
  -- ---- the compiler's answer has its cause

  by-room : Readable text → Unbroken text → length (code_of (module_of text)) ≤ code_room → (b : Bool) → ltb room (length (file_of (module_of text))) ≡ b
      → Answers text room (cond b (refused 14 (length text)) (file (file_of (module_of text))))
  by-room r u c true e = roomless r u c (ltb-true _ _ e)
  by-room r u c false e = accepted r u c (ltb-false _ _ e)

  by_code : Readable text → Unbroken text → (b : Bool) → ltb code_room (length (code_of (module_of text))) ≡ b
      → Answers text room (cond b (refused 13 (length text)) (in_room (length text) room (file_of (module_of text))))
  by_code r u true e = overfull r u (ltb-true _ _ e)
  by_code r u false e = by-room r u (ltb-false _ _ e) _ refl

  by-verdict : Readable text → (v : Verdict) → Leftmost (all_rules text) v → Answers text room (by_verdict text room v)
  by-verdict r (Ok fine) l = by_code r l _ refl
  by-verdict r (Err b) l = broken b.number b.at r l

  by-syntax : length text ≤ text_room → (o : Option Refusal) → syntax_of text ≡ o → Answers text room (by_syntax text room o)
  by-syntax s (some r) e = unreadable r s (rw e at (syntax-judged text))
  by-syntax s none e = by-verdict (record { short = s; is-module = (syntax-free text).0 e }) (verdict_of text) (verdict-leftmost text)

  by_length : (b : Bool) → ltb text_room (length text) ≡ b → Answers text room (cond b (refused 1 0) (by_syntax text room (syntax_of text)))
  by_length true e = long (ltb-true _ _ e)
  by_length false e = by-syntax (ltb-false _ _ e) _ refl

  pub answers : Answers text room (compile_of text room)
  unfolding compile_of
  answers = by_length _ refl

  -- ---- and no second answer has one
  never : {C : Type 0} {m n : ℕ} → m < n → n ≤ m → C
  never h g = absurd (omega arith)

  clash : {C : Type 0} {r : Refusal} → Judged Module text (some r) → (items : List Item) × Word Module (letters text (tokens_of text)) items → C
  clash p q = let e = judged-once Module text p (J.accepted q.0 q.1) in let z : ◌≡◌ {A = ℕ} 0 1 = cc in absurd (omega arith)

  one : (number at other there : ℕ) → Leftmost (all_rules text) (No number at) → Leftmost (all_rules text) (No other there) → refused number at ≡ refused other there
  one number at other there p q =
      let e : No number at ≡ No other there = leftmost-unique (all_rules text) (No number at) (No other there) p q in
      let (a, b) = one-refusal e in
      cc

  same-refusal : (r q : Refusal) → Judged Module text (some r) → Judged Module text (some q) → refused r.number r.offset ≡ refused q.number q.offset
  same-refusal r q e f = let i = judged-once Module text e f in let s : r ≡ q = cc in ap (λ (x : Refusal). refused x.number x.offset) s

  pub answers-once : {a b : Compiling} → Answers text room a → Answers text room b → a ≡ b
  answers-once (long x) (long y) = refl
  answers-once (long x) (unreadable q s e) = never x s
  answers-once (long x) (broken n t r l) = never x r.short
  answers-once (long x) (overfull r u c) = never x r.short
  answers-once (long x) (roomless r u c f) = never x r.short
  answers-once (long x) (accepted r u c f) = never x r.short
  answers-once (unreadable q s e) (long y) = never y s
  answers-once (unreadable q s e) (unreadable p t f) = same-refusal q p e f
  answers-once (unreadable q s e) (broken n t r l) = clash e r.is-module
  answers-once (unreadable q s e) (overfull r u c) = clash e r.is-module
  answers-once (unreadable q s e) (roomless r u c f) = clash e r.is-module
  answers-once (unreadable q s e) (accepted r u c f) = clash e r.is-module
  answers-once (broken n t r l) (long y) = never y r.short
  answers-once (broken n t r l) (unreadable p s f) = clash f r.is-module
  answers-once (broken n t r l) (broken m v q k) = one n t m v l k
  answers-once (broken n t r l) (overfull q u c) = absurd (u n t l.0)
  answers-once (broken n t r l) (roomless q u c f) = absurd (u n t l.0)
  answers-once (broken n t r l) (accepted q u c f) = absurd (u n t l.0)
  answers-once (overfull r u c) (long y) = never y r.short
  answers-once (overfull r u c) (unreadable p s f) = clash f r.is-module
  answers-once (overfull r u c) (broken m v q k) = absurd (u m v k.0)
  answers-once (overfull r u c) (overfull q w d) = refl
  answers-once (overfull r u c) (roomless q w d f) = never c d
  answers-once (overfull r u c) (accepted q w d f) = never c d
  answers-once (roomless r u c g) (long y) = never y r.short
  answers-once (roomless r u c g) (unreadable p s f) = clash f r.is-module
  answers-once (roomless r u c g) (broken m v q k) = absurd (u m v k.0)
  answers-once (roomless r u c g) (overfull q w d) = never d c
  answers-once (roomless r u c g) (roomless q w d f) = refl
  answers-once (roomless r u c g) (accepted q w d f) = never g f
  answers-once (accepted r u c g) (long y) = never y r.short
  answers-once (accepted r u c g) (unreadable p s f) = clash f r.is-module
  answers-once (accepted r u c g) (broken m v q k) = absurd (u m v k.0)
  answers-once (accepted r u c g) (overfull q w d) = never d c
  answers-once (accepted r u c g) (roomless q w d f) = never f g
  answers-once (accepted r u c g) (accepted q w d f) = refl

  pub accepts : (content : List ℕ) → compile_of text room ≡ file content → (Accepts text room) content
  accepts content e = go answers e
    where
      go : {a : Compiling} → Answers text room a → a ≡ file content → (Accepts text room) content
      go (long x) q = let z : ◌≡◌ {A = ℕ} 0 1 = cc in absurd (omega arith)
      go (unreadable r s f) q = let z : ◌≡◌ {A = ℕ} 0 1 = cc in absurd (omega arith)
      go (broken n t r l) q = let z : ◌≡◌ {A = ℕ} 0 1 = cc in absurd (omega arith)
      go (overfull r u c) q = let z : ◌≡◌ {A = ℕ} 0 1 = cc in absurd (omega arith)
      go (roomless r u c f) q = let z : ◌≡◌ {A = ℕ} 0 1 = cc in absurd (omega arith)
      go (accepted r u c f) q =
          let i : file_of (module_of text) ≡ content = cc in
          record { readable = r; unbroken = u; code_fits = c; is = sym i; fits = rw (← i) f }

  pub accepted-so : (content : List ℕ) → (Accepts text room) content → compile_of text room ≡ file content
  accepted-so content a =
      let g : length (file_of (module_of text)) ≤ room = rw a.is at a.fits in
      answers-once answers (accepted a.readable a.unbroken a.code_fits g) ∙ ap file (sym a.is)
