use Rattle.std.proofs.Common.{◌≡◌, ◌+◌, ap, ◌∙◌, arith}
use Rattle.iso_model.specs.Terms.Copies.{renamed}
use Rattle.iso_model.specs.Search.Databases as databases
use Rattle.iso_model.specs.Search.Storages.{clause_cost}
use Rattle.iso_model.proofs.OnTerms.UnifierLemmas.{substitution_twice}
use Rattle.iso_store_core.specs.Presents.{Present, Makes}
use Rattle.iso_store_core.proofs.RetainLemmas.{takes_after, takes_then, takes_copy}
use Rattle.iso_store_core.specs.Retaining.{Takes}
use Rattle.iso_program.specs.Kept.{IsClause, clause_term}
use Rattle.iso_storage.proofs.ShownLemmas.{made_here, two_arguments, heads_apart, bodies_unified}
use Rattle.iso_storage.proofs.shown.unify_clause.Given.{Over}
use Rattle.iso_storage.proofs.shown.unify_clause.Goals.{After-renew, In_ok-shown}
use Rattle.iso_storage.proofs.shown.unify_clause.Goals as goal

-- the clause was made
module _ (g : Over) (k : databases.Clause) where
  copied : (c : After-renew g) → IsClause g.C.OfClause.keeps (g.S.Store.names c.args.store.now) c.args.clause.now k → Takes g.S.Store c.args.store.now c.renew.new.self (clause_cost k)
  copied c is = takes_after (c.forget.ensures.present ∙ c.mark-mark.ensures.present) (takes_copy (clause_cost k) (clause_term k) (omega arith) (c.renew.ensures.cells (clause_term k) (rw (c.as_slice.ensures.value, c.forget.ensures.names, c.mark-mark.ensures.names) is.whole)))

  made : (c : In_ok-shown g) → IsClause g.C.OfClause.keeps (g.S.Store.names c.args.store.now) c.args.clause.now k
      → Makes (g.S.Store.present c.args.store.now) (g.S.Store.present c.renew.new.self) c.in_ok-shown.shown (renamed (g.S.Store.present c.args.store.now).next (clause_term k))
  made c is = made_here k (c.forget.ensures.present ∙ c.mark-mark.ensures.present) (c.in_ok-shown.ensures.made (clause_term k) (rw (c.as_slice.ensures.value, c.forget.ensures.names, c.mark-mark.ensures.names) is.whole))

pub returns-in_err-shown-clause-cells : goal.returns-in_err-shown-clause-cells
returns-in_err-shown-clause-cells g c = λ k is. copied g k (goal.at.returns-in_err-shown-clause-cells g c).After-renew is

pub arg-shown_head-requires-clause-word : goal.arg-shown_head-requires-clause-word
arg-shown_head-requires-clause-word g c = let h = c.requires.clause in (made g h.0 (goal.at.arg-shown_head-requires-clause-word g c).In_ok-shown h.1).holds

pub arg-shown_head-requires-clause-index : goal.arg-shown_head-requires-clause-index
arg-shown_head-requires-clause-index g c = let h = c.requires.clause in two_arguments 0 h.0 (made g h.0 (goal.at.arg-shown_head-requires-clause-index g c).In_ok-shown h.1) (omega arith)

pub arg-shown_body-requires-clause-word : goal.arg-shown_body-requires-clause-word
arg-shown_body-requires-clause-word g c = let h = c.requires.clause in (made g h.0 (goal.at.arg-shown_body-requires-clause-word g c).In_ok-shown h.1).holds

pub arg-shown_body-requires-clause-index : goal.arg-shown_body-requires-clause-index
arg-shown_body-requires-clause-index g c = let h = c.requires.clause in two_arguments 1 h.0 (made g h.0 (goal.at.arg-shown_body-requires-clause-index g c).In_ok-shown h.1) (omega arith)

pub unify-requires-clause-first : goal.unify-requires-clause-first
unify-requires-clause-first g c =
    let h = c.requires.clause in
    (made g h.0 (goal.at.unify-requires-clause-first g c).In_ok-shown h.1).words.stand c.args.head c.requires.head

pub returns-in_err-unify-clause-cells : goal.returns-in_err-unify-clause-cells
returns-in_err-unify-clause-cells g c = λ k is. takes_then (copied g k (goal.at.returns-in_err-unify-clause-cells g c).After-renew is) c.unify.ensures.cells

pub returns-then-not-branch-clause-unifies : goal.returns-then-not-branch-clause-unifies
returns-then-not-branch-clause-unifies g c = λ k is.
    (let here = made g k (goal.at.returns-then-not-branch-clause-unifies g c).In_ok-shown is in
    let own = substitution_twice c.mark-mark.ensures.substitution in
    heads_apart (g.S.Store.present c.args.store.now) (g.S.Store.present c.renew.new.self) c.args.head c.args.body c.in_ok-shown.shown k here own c.requires.head c.requires.body c.arg-shown_head.result c.arg-shown_head.ensures.value
    (rw c.if-not-branch.true at c.in_ok-unify.ensures.unified))

pub returns-then-not-branch-clause-cells : goal.returns-then-not-branch-clause-cells
returns-then-not-branch-clause-cells g c = λ k is. takes_then (copied g k (goal.at.returns-then-not-branch-clause-cells g c).After-renew is) c.unify.ensures.cells

pub unify-requires-2-clause-first : goal.unify-requires-2-clause-first
unify-requires-2-clause-first g c =
    let h = c.requires.clause in
    let met = rw c.if-not-branch.false at c.in_ok-unify.ensures.unified in
    (met.2).words.stand c.args.body ((made g h.0 (goal.at.unify-requires-2-clause-first g c).In_ok-shown h.1).words.stand c.args.body c.requires.body)

pub returns-clause-unifies : goal.returns-clause-unifies
returns-clause-unifies g c = λ k is.
    (let p = g.S.Store.present c.args.store.now in
    let r = g.S.Store.present c.renew.new.self in
    let here = made g k (goal.at.returns-clause-unifies g c).In_ok-shown is in
    let own = substitution_twice c.mark-mark.ensures.substitution in
    let next : r.next ≡ p.next + k.variables = c.in_ok-shown.ensures.numbers.next ∙ ap (λ (q : Present _). q.next + c.args.clause.now.variables) (c.forget.ensures.present ∙ c.mark-mark.ensures.present) ∙ ap (λ n. p.next + n) is.variables in
    let met = rw c.if-not-branch.false at c.in_ok-unify.ensures.unified in
    bodies_unified p r c.args.head c.args.body c.in_ok-shown.shown k here own c.requires.head c.requires.body c.arg-shown_head.result c.arg-shown_head.ensures.value
    c.arg-shown_body.result c.arg-shown_body.ensures.holds c.arg-shown_body.ensures.value next (g.S.Store.present c.unify.new.self) (g.S.Store.present c.unify-2.new.self) met.0 met.1 met.2 c.unify-2.result c.unify-2.ensures.unified)

pub returns-clause-cells : goal.returns-clause-cells
returns-clause-cells g c = λ k is. takes_then (takes_then (copied g k (goal.at.returns-clause-cells g c).After-renew is) c.unify.ensures.cells) c.unify-2.ensures.cells
