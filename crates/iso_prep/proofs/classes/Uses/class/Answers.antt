use Rattle.std.proofs.Common.{◌≡◌, ap, sym, ◌∙◌, subst, Some, option_map}
use Rattle.iso_model.specs.Terms.TermOf.{term_of}
use Rattle.iso_prep.specs.Uses.{AreUsesOf}
use Rattle.iso_prep.proofs.KeptLemmas.{class_kept}
use Rattle.iso_prep.proofs.classes.Uses.class.Goals as goal

pub returns-in-Some : goal.returns-in-Some
returns-in-Some c =
    let us = c.self.inside.uses.items in
    let p = c.args.self.now in
    let head = term_of c.in-Some.field-0.now in
    let is : p.head ≡ Some head = ap (λ q. q.head) (sym c.self.view_is) ∙ sym c.head.ensures ∙ ap (option_map (λ h. term_of h.now)) c.in-Some.is in
    class_kept us c.args.variable c.index.result.now head p c.class.result is (subst (AreUsesOf us) c.self.view_is c.self.invariant) c.requires c.index.ensures c.class.ensures
