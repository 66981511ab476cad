use Rattle.std.proofs.Common.{[], ◌∷◌, ◌++◌, sym, ap, ◌∙◌}
use Rattle.iso_compile.proofs.BodyLemmas.{adds_here, adds_jump, continues_within, right_more}
use Rattle.iso_compile.proofs.bodies.add.Goals.{then-top-behind+in_ok-push, else-top-behind}
use Rattle.iso_compile.proofs.bodies.add.Goals as goal

pub returns-clause-adds : goal.returns-clause-adds
returns-clause-adds c plan = elim c.if-top-behind.branch [
  | then-top-behind+in_ok-push w ↦ adds_jump c.args.instruction c.args.behind (ap (λ v. v.items) w.code-is ∙ w.in_ok-push.ensures.items) c.in_ok-push-2.ensures.items
  | else-top-behind w ↦ adds_here c.args.instruction c.args.behind (continues_within c.requires.2) (sym c.top.ensures ∙ w.if-top-behind.false) (c.in_ok-push-2.ensures.items ∙ ap (λ v. v.items ++ c.args.instruction ∷ []) w.code-is)
]

pub returns-clause-right : goal.returns-clause-right
returns-clause-right c plan before right = elim c.if-top-behind.branch [
  | then-top-behind+in_ok-push w ↦ right_more plan _ _ c.in_ok-push-2.ensures.items (right_more plan _ _ (ap (λ v. v.items) w.code-is ∙ w.in_ok-push.ensures.items) before (record { marked = tt; behind = tt })) right
  | else-top-behind w ↦ right_more plan _ _ (c.in_ok-push-2.ensures.items ∙ ap (λ v. v.items ++ c.args.instruction ∷ []) w.code-is) before right
]
