use Rattle.std.proofs.Common.{rules, ap, ap₂, ◌∙◌, ◌≡◌, false}
use Rattle.std.proofs.lemmas.Result.{IfOk-weaker}
use Rattle.clap.specs.Words.{rule_of, with_rule}
use Rattle.clap.specs.Simple.{app_of_fields}
use Rattle.iso_session_core.specs.Words.{no_name}
use Rattle.iso_toplevel_core.specs.Words.{file_allowed}
use Rattle.iso_toplevel_core.proofs.words.command.Goals as goal

pub returns : goal.returns
returns c =
    let file : rule_of c.action-file.result ≡ file_allowed = search rules in
    let local : c.action-file.result.global ≡ false = search rules in
    let start = ap app_of_fields c.no_binary_name.ensures ∙ ap no_name c.new-2.ensures.app in
    let budget = c.in_ok-arg.ensures.shape c.option.ensures.local ∙ ap₂ with_rule start c.option.ensures.rule in
    let cells = c.in_ok-arg-2.ensures.shape c.option-2.ensures.local ∙ ap₂ with_rule budget c.option-2.ensures.rule in
    let frames = c.in_ok-arg-3.ensures.shape c.option-3.ensures.local ∙ ap₂ with_rule cells c.option-3.ensures.rule in
    let engine = c.in_ok-arg-4.ensures.shape c.option-4.ensures.local ∙ ap₂ with_rule frames c.option-4.ensures.rule in
    IfOk-weaker c.arg-5.result _ _ (λ command h. h.shape local ∙ ap₂ with_rule engine file) c.arg-5.ensures
