use Rattle.std.proofs.Common.{◌≡◌, ◌∙◌, sym, ap, Some, refl}
use Rattle.iso_model.specs.Terms.Trees.{Tree}
use Rattle.iso_model.specs.Terms.Copies.{copy_from}
use Rattle.iso_model.specs.Search.Databases.{Key, key_of}
use Rattle.iso_model.specs.Search.BuiltIns.{is_built_in}
use Rattle.iso_model.specs.Search.Errors.{key}
use Rattle.iso_model.specs.Search.Additions.{head_of}
use Rattle.iso_prep.specs.Preparations.{Preparation}
use Rattle.iso_program.specs.Kept.{IsReady}
use Rattle.iso_program.proofs.ClauseLemmas.{few_arguments}
use Rattle.iso_program.proofs.PrepareLemmas.{head_there, head_is_term, head_key, ready_terms, addition, built_in_refused, one_tree}
use Rattle.iso_program.proofs.clauses.kept.Goals as goal

-- the head that was read is the clause's, and so is its key
head_read : (t : Tree) (p : Preparation) (h : Tree) → IsReady p t → p.head ≡ Some h → h ≡ head_of (copy_from t 0)
head_read t p h r is = one_tree (sym is ∙ head_there t p r)

key_read : (t : Tree) (p : Preparation) (r : IsReady p t) (h : Tree) (k : Key) → p.head ≡ Some h → key_of h ≡ Some k → k ≡ r.key
key_read t p r h k is named = let both : Some k ≡ Some r.key = sym named ∙ ap key_of (head_read t p h r is) ∙ head_key t p r in cc both

pub invariant_of-checked-clause-terms : goal.invariant_of-checked-clause-terms
invariant_of-checked-clause-terms c = ready_terms c.requires.0 c.args.prepared c.requires.1

pub check_user-requires : goal.check_user-requires
check_user-requires c =
    let t = c.requires.0 in
    let is = head_read t c.args.prepared _ c.requires.1 c.head.ensures in
    few_arguments (head_of (copy_from t 0)) (key c.in-Some.name.now c.in-Some.arity) (head_is_term t c.args.prepared c.requires.1) (ap key_of (sym is) ∙ c.in-Some.ensures)

pub returns-in_err-check_user : goal.returns-in_err-check_user
returns-in_err-check_user c = λ t r.
    (let k = key c.in-Some.name.now c.in-Some.arity in
    built_in_refused t c.args.prepared r (key c.args.by.now 1) k _ _ (key_read t c.args.prepared r _ k c.head.ensures c.in-Some.ensures) c.from_residual.ensures.1 c.in_err-check_user.ensures)

pub returns : goal.returns
returns c = λ t r.
    (let k = key c.in-Some.name.now c.in-Some.arity in
    let same = key_read t c.args.prepared r _ k c.head.ensures c.in-Some.ensures in
    addition t c.args.prepared r _ refl (ap is_built_in (sym same) ∙ c.in_ok-check_user.ensures))
