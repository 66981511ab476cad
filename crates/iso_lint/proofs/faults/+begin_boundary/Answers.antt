use Rattle.std.proofs.Common.{◌≡◌, ℕ, Bool, true, false, map, take, ap, sym, ◌∙◌, arith}
use Rattle.std.proofs.lemmas.List.{take-map}
use Rattle.iso_lint.specs.Completions as completions
use Rattle.iso_token.specs.Shows.{shown}
use Rattle.iso_lint.proofs.BoundaryLemmas.{near, far_up, far_down, if_ok, middle}
use Rattle.iso_lint.proofs.faults.+begin_boundary.Goals as goal

pub returns-then-saturating_sub-lt2-clause-boundary : goal.returns-then-saturating_sub-lt2-clause-boundary
returns-then-saturating_sub-lt2-clause-boundary t c = λ turns fuel. near turns _ c.args.low c.args.high (omega (arith, c.saturating_sub.ensures))

pub returns-then-branch-clause-boundary : goal.returns-then-branch-clause-boundary
returns-then-branch-clause-boundary t c =
    let s = c.args.settings.now in
    let ts = c.args.tokens.now in
    let n = middle c.args.low c.args.high in
    let p : ℕ → Bool = λ k. completions.begins_clause s (take k (map shown ts)) in
    let holds : p n ≡ true = ap (completions.begins_clause s) (take-map shown n ts) ∙ sym c.in_ok-begins_clause.ensures ∙ c.if-branch.true in
    if_ok c.begin_boundary.result _ _ (λ k h turns fuel. far_up turns p c.args.low c.args.high k (omega (arith, c.saturating_sub.ensures)) fuel holds h) c.begin_boundary.ensures.boundary

pub returns-else-branch-clause-boundary : goal.returns-else-branch-clause-boundary
returns-else-branch-clause-boundary t c =
    let s = c.args.settings.now in
    let ts = c.args.tokens.now in
    let n = middle c.args.low c.args.high in
    let p : ℕ → Bool = λ k. completions.begins_clause s (take k (map shown ts)) in
    let fails : p n ≡ false = ap (completions.begins_clause s) (take-map shown n ts) ∙ sym c.in_ok-begins_clause.ensures ∙ c.if-branch.false in
    if_ok c.begin_boundary-else-branch.result _ _ (λ k h turns fuel. far_down turns p c.args.low c.args.high k (omega (arith, c.saturating_sub.ensures)) fuel fails h) c.begin_boundary-else-branch.ensures.boundary
