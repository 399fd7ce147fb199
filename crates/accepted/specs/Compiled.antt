-- A file that the compiler writes is read back as the table of the text's module, which is accepted.
use Rattle.std.specs.Prelude.{ℕ, ◌≡◌, List, true}
use Rattle.std.proofs.Math.Path.{ap}
use Rattle.std.proofs.Common.{◌∙◌}
use Rattle.file.specs.Files.{decode, read, sound}
use Rattle.file.proofs.RoundTrips.{decode-encode}
use Rattle.timing.specs.Accepted.{Accepted}
use Rattle.refusals.specs.Verdicts.{Fine}
use Rattle.refusals.specs.ChecksLaws.{leftmost-unique}
use Rattle.refusals.proofs.RulesOrder.{verdict-leftmost}
use Rattle.refusals.specs.Texts.{all_rules, verdict_of, module_of}
use Rattle.prescribed.specs.Tables.{table_of}
use Rattle.prescribed.specs.Compiles.{file, file_of, compile_of}
use Rattle.prescribed.specs.Acceptance.{Unbroken}
use Rattle.prescribed.proofs.Acceptance.{free, accepts}
use Rattle.timing.specs.PortsAfter.{Aimed}
use Rattle.accepted.specs.Accepts.{accepted}
use Rattle.accepted.specs.Aims.{aimed}
use Rattle.accepted.specs.TableSound.{table-sound}

-- no rule of 4 to 12 has a cause: the verdict is fine
pub unbroken-fine : (text : List ℕ) → Unbroken text → verdict_of text ≡ Fine
unbroken-fine text h = leftmost-unique (all_rules text) (verdict_of text) Fine (verdict-leftmost text) h

module _ (text : List ℕ) (room : ℕ) (content : List ℕ) (written : compile_of text room ≡ file content) where
  pub compiled-accepted : Accepted (module_of text)
  compiled-accepted = let a = accepts text room content written in accepted text (free a.readable) (unbroken-fine text a.unbroken)

  pub compiled-aimed : Aimed (module_of text)
  compiled-aimed = let a = accepts text room content written in aimed text (free a.readable) (unbroken-fine text a.unbroken)

  pub compiled-sound : sound (table_of (module_of text)) ≡ true
  compiled-sound = let a = accepts text room content written in table-sound text (free a.readable) (unbroken-fine text a.unbroken) a.code_fits

  pub compiled-reads : decode content ≡ read (table_of (module_of text))
  unfolding file_of
  compiled-reads = let a = accepts text room content written in ap decode a.is ∙ decode-encode (table_of (module_of text)) compiled-sound
