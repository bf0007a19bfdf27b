use Rattle.std.proofs.Common.{rules, ap, map}
use Rattle.clap.specs.declared.builder.value_parser.ValueParser.TheVariants.{Names}
use Rattle.qh_command.proofs.command_line.outs_arg.Goals as goal

pub returns-clause-rule : goal.returns-clause-rule
returns-clause-rule c = (Names c.as_slice.result, ap (map (λ w. w.now)) c.as_slice.ensures, search rules)
