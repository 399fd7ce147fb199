use Rattle.std.proofs.Common.{sym, ◌∙◌, arith}
use Rattle.build.proofs.ByKind.{declaring-kind, declares-none, declares-one}
use Rattle.build.proofs.rows.declaring.Goals as goal

pub returns-in_default : goal.returns-in_default
returns-in_default c row e = sym (declaring-kind row ∙ rw e (sym (declares-none c.args.kind (λ low high. omega arith))))

pub returns-in_default-2 : goal.returns-in_default-2
returns-in_default-2 c row e = sym (declaring-kind row ∙ rw e (sym (declares-none c.args.kind (λ low high. omega arith))))

pub returns-in-2-to-7 : goal.returns-in-2-to-7
returns-in-2-to-7 c row e = sym (declaring-kind row ∙ rw e (sym (declares-one c.args.kind (omega arith) (omega arith) (λ eight. omega arith))))

pub returns-in-2-to-7-2 : goal.returns-in-2-to-7-2
returns-in-2-to-7-2 c row e = sym (declaring-kind row ∙ rw e (sym (declares-one c.args.kind (omega arith) (omega arith) (λ eight. omega arith))))
