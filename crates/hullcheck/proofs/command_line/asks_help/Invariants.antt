-- The remaining words request help if all words do.
use Rattle.qh_model.proofs.Common.{◌≡◌, drop, map, list_any, string_bytes}
use Rattle.hullcheck.specs.contract.CommandLine.{is_help}
use Rattle.hullcheck.proofs.command_line.asks_help.Given as goal

abbrev pub invariant-loop-word : goal.invariant-loop-word
invariant-loop-word l = list_any is_help (map string_bytes (drop l.word-index l.rest)) ≡ list_any is_help (map string_bytes l.rest)
