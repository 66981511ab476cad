use Rattle.std.proofs.Common.{◌∙◌, ap}
use Rattle.iso_lint.specs.Faults as spec
use Rattle.iso_lint.specs.Cuts.{part_with}
use Rattle.iso_lint.proofs.BoundaryLemmas.{if_ok}
use Rattle.iso_lint.proofs.FaultLemmas.{boundary_known}
use Rattle.iso_lint.proofs.faults.fault_in.Goals as goal

pub returns : goal.returns
returns c =
    let s = c.args.settings.now in
    let part = part_with c.args.part.now s in
    let boundary = boundary_known s c.as_slice-tokens.result.now c.args.part.now.tokens.items c.in_ok-boundary.boundary c.as_slice-tokens.ensures.value c.in_ok-boundary.ensures.boundary in
    if_ok c.fault_behind.result _ _ (λ f is. is ∙ ap (spec.fault_behind c.args.size part) boundary) c.fault_behind.ensures
