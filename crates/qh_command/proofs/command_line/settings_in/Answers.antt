use Rattle.qh_model.proofs.Common.{◌≡◌, ◌∙◌, ap, refl, true, map, List, string_bytes, IfOk-weaker}
use Rattle.std.proofs.lemmas.Result.{IfErr-weaker}
use Rattle.clap.specs.Words.{Text, app_of, found_of, is_simple, is_simple_and_free}
use Rattle.clap.specs.declared.builder.value_parser.ValueParser.{ValueParser}
use Rattle.clap.proofs.OnLiterals.{clap_on_literals}
use Rattle.qh_command.specs.contract.CommandLine.{IsProgram, program}
use Rattle.qh_command.proofs.CommandLines.{found_in, refusal, unfound}
use Rattle.qh_command.proofs.command_line.settings_in.Goals as goal

simple : (from outs : ValueParser) → is_simple (program from outs) ≡ true
unfolding clap_on_literals
simple from outs = refl

free : (from outs : ValueParser) → is_simple_and_free (program from outs) ≡ true
unfolding clap_on_literals
free from outs = refl

pub returns-in-Ok-try_get_matches_from-clause-settings : goal.returns-in-Ok-try_get_matches_from-clause-settings
returns-in-Ok-try_get_matches_from-clause-settings c =
    let is : IsProgram (app_of c.in-Ok.command) = c.in-Ok.ensures in
    let words : List Text = map string_bytes c.args.words.now in
    let found = found_of c.in-Ok-try_get_matches_from.matches in
    let rows = (c.in-Ok-try_get_matches_from.ensures.matches (ap is_simple is.4 ∙ simple is.0 is.1)).0 in
    IfOk-weaker c.settings_from.result _ _
    (λ s h. (app_of c.in-Ok.command, is, found_in (app_of c.in-Ok.command) words found rows s h))
    c.settings_from.ensures.found

pub returns-in-Ok-try_get_matches_from-clause-fault : goal.returns-in-Ok-try_get_matches_from-clause-fault
returns-in-Ok-try_get_matches_from-clause-fault c =
    let is : IsProgram (app_of c.in-Ok.command) = c.in-Ok.ensures in
    let words : List Text = map string_bytes c.args.words.now in
    let found = found_of c.in-Ok-try_get_matches_from.matches in
    let rows = (c.in-Ok-try_get_matches_from.ensures.matches (ap is_simple is.4 ∙ simple is.0 is.1)).0 in
    IfErr-weaker c.settings_from.result _ _ (λ f h. unfound (app_of c.in-Ok.command) words found is rows f h) c.settings_from.ensures.fault

pub returns-in-Err-clause-fault : goal.returns-in-Err-clause-fault
returns-in-Err-clause-fault c =
    let is : IsProgram (app_of c.in-Ok.command) = c.in-Ok.ensures in
    let words : List Text = map string_bytes c.args.words.now in
    refusal (app_of c.in-Ok.command) words c.in-Err.error is
    (c.in-Err.ensures.kinds (ap is_simple_and_free is.4 ∙ free is.0 is.1)) c.in-Err.ensures.passes c.refused.result
    c.refused.ensures
