use Rattle.std.proofs.{Common.◌∙◌, Common.ap, Common.ap₂, lemmas.Result.IfOk-weaker}
use Rattle.clap.specs.{Simple.app_of_fields, Words.with_rule}
use Rattle.qh_command.proofs.command_line.command.Goals as goal

pub returns : goal.returns
returns c =
    let from = c.from_arg.ensures.rule in
    let outs = c.outs_arg.ensures.rule in
    IfOk-weaker c.arg-5.result _ _ (λ cmd h. (
      from.0,
      outs.0,
      from.1,
      outs.1,
      h.shape c.outs_arg.ensures.local
          ∙ ap₂ with_rule (c.in_ok-arg-4.ensures.shape c.number_arg-2.ensures.local
          ∙ ap₂ with_rule (c.in_ok-arg-3.ensures.shape c.number_arg.ensures.local
          ∙ ap₂ with_rule (c.in_ok-arg-2.ensures.shape c.from_arg.ensures.local
          ∙ ap₂ with_rule (c.in_ok-arg.ensures.shape c.version_arg.ensures.local
          ∙ ap₂ with_rule (ap app_of_fields c.override_help.ensures ∙ c.new.ensures.app) c.version_arg.ensures.rule) from.2)
          c.number_arg.ensures.rule) c.number_arg-2.ensures.rule) outs.2,
    )) c.arg-5.ensures
