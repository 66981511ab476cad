-- The procedures so far, and those that the goals left call, are all of them; and what is left gets smaller.
use Rattle.std.proofs.Common.{◌≡◌, ◌++◌, reverse, flat_map, sum_by}
use Rattle.iso_model.specs.Terms.TermOf.{term_of}
use Rattle.iso_model.specs.Terms.Sizes.{size}
use Rattle.iso_lint_core.specs.Calls.{called}
use Rattle.iso_lint_core.specs.KeyViews.{keys_view}
use Rattle.iso_lint_core.proofs.calls.add_called.Given as goal

abbrev pub invariant-loop-next : goal.invariant-loop-next
invariant-loop-next l = keys_view l.keys.items ++ flat_map (λ t. called (term_of t.now)) (reverse l.left.items)
    ≡ keys_view l.fn.keys.items ++ called (term_of l.fn.goal)

abbrev pub decreases-loop-next : goal.decreases-loop-next
decreases-loop-next l = sum_by (λ t. size (term_of t.now)) l.left.items
