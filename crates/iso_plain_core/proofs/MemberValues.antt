-- Where words have their values under a substitution, goals that members stand for have them too.
use Rattle.std.proofs.Common.{◌≡◌, ℕ, List, ◌∷◌, refl, ap, ap₂, sym, ◌∙◌}
use Rattle.iso_model.specs.Terms.Trees.{Tree}
use Rattle.iso_model.specs.Terms.Substitutions.{Subst, apply}
use Rattle.iso_model.specs.Search.Bodies.{Body, Run, And, Or, If, Choose, map_body}
use Rattle.iso_model.specs.Search.Walker.{Member}
use Rattle.iso_model.specs.Search.RunLaws.Sameness.{SameList, same_cut, same_failure, same_leave, same_gathering}
use Rattle.iso_model.proofs.Search.RunLaws.SameSteps.{put_alike}
use Rattle.iso_store_core.specs.Presents.{Present}
use Rattle.iso_program.specs.Values.{HasValues}
use Rattle.iso_plain_core.specs.Nodes.{IsTree, runs, cuts, joins, branches, commits, chooses}
use Rattle.iso_plain_core.specs.Standing.{IsMember, a_body, a_cut, a_failure, an_end, a_template, IsGoalWord}
use Rattle.iso_prep.specs.declared.bodies.Node.{Node}
use Rattle.iso_plain_core.specs.declared.members.Link.{Link}

module _ {W : Type 0} {p q : Present W} {u : Subst} (h : HasValues p q u) where
  -- a word's term has its value
  pub word_value : (w : W) (t : Tree) → IsGoalWord p w t → apply q.substitution t ≡ apply u t
  word_value w t is = ap (apply q.substitution) (is.1 ∙ sym (h.words.terms w is.0)) ∙ h.means w is.0 ∙ ap (apply u) (sym is.1)

  body_value : {nodes : List (Node W)} {i : ℕ} {b : Body} → IsTree (IsGoalWord p) nodes i b → map_body q.substitution b ≡ map_body u b
  body_value (runs {g = w} {t = t} at is) = ap Run (word_value w t is)
  body_value (cuts at) = refl
  body_value (joins at front back some x y) = ap₂ And (body_value x) (body_value y)
  body_value (branches at front back some x y) = ap₂ Or (body_value x) (body_value y)
  body_value (commits at front back some x y) = ap₂ If (body_value x) (body_value y)
  body_value (chooses at front middle back some also x y z) =
      let first = body_value x in
      let second = body_value y in
      let third = body_value z in
      λ i. Choose (first i) (second i) (third i)

  template_value : {nodes : List (Node W)} {i : ℕ} {t : Tree} → IsTree (IsGoalWord p) nodes i (Run t) → apply q.substitution t ≡ apply u t
  template_value (runs {g = w} {t = t} at is) = word_value w t is

  -- a member before others
  pub member_value : (nodes : List (Node W)) (f : Link) (m : Member) (ms : List Member) → IsMember p nodes f m → SameList q.substitution u ms ms → SameList q.substitution u (m ∷ ms) (m ∷ ms)
  member_value nodes f m ms (a_body {b = b} asks body) same = put_alike q.substitution u ms ms b b f.height (body_value body) same
  member_value nodes f m ms (a_cut asks) same = same_cut same
  member_value nodes f m ms (a_failure asks) same = same_failure same
  member_value nodes f m ms (an_end asks) same = same_leave same
  member_value nodes f m ms (a_template asks body) same = same_gathering (template_value body) same
