use Rattle.std.proofs.Common.{◌≡◌, Bool, true, false, not, Option, Some, None, Ok, refl, sym, ap, ◌∙◌, subst, if◌then◌else◌, MatchBool, arith}
use Rattle.iso_model.specs.Terms.Trees.{Tree}
use Rattle.iso_model.specs.Terms.Unification.{unifier_of}
use Rattle.iso_model.specs.Search.Library.{differ}
use Rattle.iso_model.proofs.OnTerms.UnifierLemmas.{unifier_of_some, unifier_of_none}
use Rattle.iso_store_core.specs.Presents.{Present, IsUnification, meaning}
use Rattle.iso_store_core.proofs.ArgumentLemmas.{argument-is}
use Rattle.iso_lib_core.specs.declared.outcomes.Reply.TheVariants.{Fail, Done}
use Rattle.iso_lib_core.specs.Replies.{IsReply}
use Rattle.iso_lib.proofs.equations.differ.Goals as goal

-- nothing is bound, whether there was a unifier or none
differs_by : {W : Type 0} (p q r : Present W) (a b : Tree) (equal : Bool) → IsUnification p r a b equal → q ≡ p → IsReply p q (differ (unifier_of a b)) (Ok (if not equal then Done else Fail))
differs_by p q r a b true h same = rw (unifier_of_some h.1) tt
differs_by p q r a b false h same = rw (unifier_of_none a b h) same

pub returns-clause-replies : goal.returns-clause-replies
returns-clause-replies g c = λ t are.
    let p = g.S.Store.present c.args.store.now in
    let unified = subst (λ (x : Present _). IsUnification x (g.S.Store.present c.unify.new.self) (meaning x c.index-arguments-0.result) (meaning x c.index-arguments-1.result) c.in_ok-equal.equal) c.mark-mark.ensures.present c.in_ok-equal.ensures.unified in
    let left = argument-is p c.args.arguments.now t 0 c.index-arguments-0.result are (omega arith) c.index-arguments-0.is in
    let right = argument-is p c.args.arguments.now t 1 c.index-arguments-1.result are (omega arith) c.index-arguments-1.is in
    let values = rw (left, right) at unified in
    let stood = c.in_ok-equal.ensures.marks c.mark-mark.result p c.mark-mark.ensures.stands in
    rw c.tested.ensures (differs_by p (g.S.Store.present c.forget.new.self) (g.S.Store.present c.unify.new.self) _ _ c.in_ok-equal.equal values (c.forget.ensures.present ∙ c.undo.ensures.back p stood))
