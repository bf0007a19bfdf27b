use Rattle.std.proofs.Common.{◌≡◌, map, take}
use Rattle.qh_command.specs.contract.CommandLine.{word_of}
use Rattle.qh_command.proofs.command_line.outs_of.Given as goal

-- the words before this one are those of the outputs so far
abbrev pub invariant-loop-name : goal.invariant-loop-name
invariant-loop-name l = map word_of l.outs.items ≡ map (λ w. w.now) (take l.name-index l.names)
