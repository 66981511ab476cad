use Rattle.std.proofs.Common.{◌∙◌, ap, sym, map, take}
use Rattle.std.proofs.lemmas.List.{take-map}
use Rattle.std.specs.List.{slice_get}
use Rattle.iso_token.specs.Shows.{shown}
use Rattle.iso_lint.specs.Faults as spec
use Rattle.iso_lint.proofs.FaultLemmas.{fault_is}
use Rattle.iso_lint.proofs.faults.fault_behind.Goals as goal

pub returns : goal.returns
returns c =
    let s = c.args.settings.now in
    let n = c.args.count in
    let items = c.as_slice-tokens.ensures.value in
    let token = c.token_at-token.ensures ∙ ap (λ ts. slice_get (map shown ts) n) items in
    let start = c.start_or.ensures ∙ ap (λ t. spec.start_or t c.unwrap_or.result) token ∙ ap (spec.start_or (slice_get (map shown c.args.part.now.tokens.items) n)) c.unwrap_or.ensures in
    let expected = c.in_ok-expected_behind.ensures ∙ ap (λ ts. spec.expected_behind s (map shown (take n ts))) items ∙ ap (spec.expected_behind s) (sym (take-map shown n c.args.part.now.tokens.items)) in
    fault_is _ _ _ _ _ _ _ _ start token c.is_some.ensures expected
