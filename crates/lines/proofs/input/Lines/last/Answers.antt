use Rattle.std.proofs.Common.{[], Some}
use Rattle.lines.specs.Inputs.{Going}
use Rattle.lines.specs.InputsLaws.{going-first, going-more, going-gives, look-gives, within, found-unread, more-unread, never-more}
use Rattle.lines.proofs.input.Lines.last.Goals as goal

pub returns-in-More-clause-gives : goal.returns-in-More-clause-gives
returns-in-More-clause-gives c =
    let first = c.in-More.ensures in
    let look = c.step-in-More.ensures in
    let old = c.args.self.now in
    let mid = c.step.new.self in
    let new = c.step-in-More.new.self in
    let step = c.step-in-More.result in
    let passed = more-unread old mid first.looks in
    let last = never-more mid new step passed.0 look.looks in
    λ input found shown.
    let going : Going input input old mid 1 = going-more (going-first input old) (passed.1 input) first.room first.same_reference in
    going-gives found going (look-gives step last (found-unread mid new step last look.looks input) look.room look.same_reference found shown)

pub returns-in_default : goal.returns-in_default
returns-in_default c =
    let look = c.step.ensures in
    let last = c.in_default.not-More in
    let old = c.args.self.now in
    let new = c.step.new.self in
    record {
      within = within (Some []) (Some []) old new c.step.result last look.looks;
      gives = λ input. look-gives c.step.result last (found-unread old new c.step.result last look.looks input) look.room look.same_reference;
    }
