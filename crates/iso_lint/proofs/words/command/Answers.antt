use Rattle.std.proofs.Common.{rules, ap, ap₂, ◌∙◌, ◌≡◌, false}
use Rattle.std.proofs.lemmas.Result.{IfOk-weaker}
use Rattle.clap.specs.Words.{rule_of, with_rule}
use Rattle.clap.specs.Simple.{app_of_fields}
use Rattle.iso_session_core.specs.Words.{file_rule, no_name}
use Rattle.iso_lint.proofs.words.command.Goals as goal

pub returns : goal.returns
returns c =
    let file : rule_of c.action-file.result ≡ file_rule = search rules in
    let local : c.action-file.result.global ≡ false = search rules in
    let start = ap app_of_fields c.no_binary_name.ensures ∙ ap no_name c.new-2.ensures.app in
    IfOk-weaker c.arg.result _ _ (λ command h. h.shape local ∙ ap₂ with_rule start file) c.arg.ensures
