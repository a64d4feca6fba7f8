-- A reading out of range ends the walk; after any other it goes on, and at the end all readings are walked.
use Rattle.std.proofs.Common.{rules}
use Rattle.laws.proofs.Walked.{walk_refuses, walk_goes_on, walk_ends}
use Rattle.readings.proofs.walk.Goals as goal

pub returns-in_err-a : goal.returns-in_err-a
returns-in_err-a c =
    let refused = walk_refuses c.args.readings.now c.loop-x.x-index c.loop-x-test.true {t = c.pass.result} c.loop-x.invariant (search rules) c.in_err-a.was in
    search rules

pub loop-x-preserved : goal.loop-x-preserved
loop-x-preserved c = walk_goes_on c.args.readings.now c.loop-x.x-index c.loop-x-test.true {t = c.pass.result} c.loop-x.invariant (search rules) c.in_ok-a.was

pub returns : goal.returns
returns c = (walk_ends c.args.readings.now c.loop-x.invariant c.loop-x-test.false).1
