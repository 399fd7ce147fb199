use Rattle.std.proofs.Common.{refl, arith}
use Rattle.model.specs.Instructions.{call, switch, release}
use Rattle.emit.proofs.Emission.{called, follows, single}
use Rattle.emit.proofs.activities.Kind.body.Goals as goal

pub returns-in-Termination-clause-code : goal.returns-in-Termination-clause-code
returns-in-Termination-clause-code c = rw c.in-Termination.is (called refl (omega arith) (single (call _) c.put.ensures.code))

pub returns-in-Update-clause-code : goal.returns-in-Update-clause-code
returns-in-Update-clause-code c = rw c.in-Update.is (called refl (omega arith) (single (call _) c.put-in-Update.ensures.code))

pub returns-in-Switch-clause-code : goal.returns-in-Switch-clause-code
returns-in-Switch-clause-code c = rw c.in-Switch.is (called refl (omega arith) (single (switch _) c.put-in-Switch.ensures.code))

pub returns-in-Release-clause-code : goal.returns-in-Release-clause-code
returns-in-Release-clause-code c =
    rw c.in-Release.is (called refl (omega arith) (follows (single (call _) c.put-in-Release.ensures.code) (single (release _) c.put-in-Release-2.ensures.code)))
