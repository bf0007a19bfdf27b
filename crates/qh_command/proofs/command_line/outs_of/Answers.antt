-- The outputs so far are those of the words.
use Rattle.std.proofs.{Common.◌≡◌, Common.arith, Common.map, lemmas.Grind.common_steps}
use Rattle.qh_command.specs.contract.CommandLine.{word_of}
use Rattle.qh_command.proofs.CommandLines.{word_at}
use Rattle.qh_command.proofs.command_line.outs_of.Goals as goal

pub returns-in_default-out_of-clause-fault : goal.returns-in_default-out_of-clause-fault
returns-in_default-out_of-clause-fault c = λ outs h.
    let told : map word_of outs ≡ map (λ w. w.now) c.in-Some.names.now = rw c.in-Some.is at h in
    let w = word_at outs c.in-Some.names.now c.loop-name.name-index _ told c.loop-name-test.true in
    c.in_default-out_of.ensures.none w.0 w.1

pub loop-name-preserved : goal.loop-name-preserved
loop-name-preserved c = grind (arith, common_steps)
