use Rattle.std.proofs.Common.{length, arith, sym, subst, ◌∙◌}
use Rattle.std.proofs.lemmas.Bool.{eqb-false}
use Rattle.iso_store_core.specs.Presents.{meaning}
use Rattle.iso_search.specs.Settles.{MeetsRow}
use Rattle.iso_search_core.specs.Bodies.{most}
use Rattle.iso_search.specs.declared.search.Search.{Search}
use Rattle.iso_model.specs.Search.Walker.{with_rights}
use Rattle.iso_search_core.specs.Offers.{rows_in, rights_of, goal_arguments}
use Rattle.iso_search_core.specs.declared.choices.Left.TheVariants as left
use Rattle.iso_search_core.proofs.BodyCosts.{left_higher, below_most}
use Rattle.iso_search_core.proofs.GoalLemmas.{positive}
use Rattle.iso_search.proofs.NewestLemmas.{lists_same, pushed_cost}
use Rattle.iso_search.proofs.Moves.Offer.{pushed_some, rows_few, kept_few}
use Rattle.iso_search.proofs.search.Search.push_offers.Goals as goal

pub returns-clause-meets : goal.returns-clause-meets
returns-clause-meets g c = λ s made h done.
    (let e = c.args.self.now in
    let new = c.push_choice.new.self in
    let told = c.push_choice.ensures in
    let t = meaning (g.S.Store.present e.store) c.args.goal in
    let some = positive (length (rows_in c.args.offers)) (λ none. eqb-false _ 0 (sym c.is_empty.ensures ∙ c.if-is_empty.false) none) in
    subst (λ (x : Search _ _ _ _ _ _ _ _ _ _). MeetsRow g.S.Store g.L.Lists x c.args.goal (with_rights (goal_arguments t) (rights_of made t c.args.offers) s.list s) c.args.place) (sym told.same)
    (pushed_some g.S.Store g.L.Lists e c.args.goal s c.args.place h made c.args.offers c.requires.rows new.store new.choices (g.met.L.Lists.all e.lists) (g.met.L.Lists.top e.lists) some told.present told.rest.marks told.rest.names (told.gains done)))

pub returns-clause-kept : goal.returns-clause-kept
returns-clause-kept g c = λ s h. c.push_choice.ensures.refused s h.ahead

pub returns-clause-over : goal.returns-clause-over
returns-clause-over g c = λ refused.
    (let full = c.push_choice.ensures.full refused in
    (full.0, full.1, positive (length (rows_in c.args.offers)) (λ none. eqb-false _ 0 (sym c.is_empty.ensures ∙ c.if-is_empty.false) none)))

pub returns-clause-costs : goal.returns-clause-costs
returns-clause-costs g c =
    let e = c.args.self.now in
    let told = c.push_choice.ensures in
    let all = pushed_cost g.L.Lists e c.push_choice.new.self (left.Offered c.args.goal c.args.offers) c.args.place c.push_choice.result (lists_same told.same) told.gains told.full told.kept in
    let few = rows_few (meaning (g.S.Store.present e.store) c.args.goal) c.args.offers c.requires.rows (kept_few c.args.offers) in
    let later = left_higher most (length (rows_in c.args.offers)) (g.L.Lists.cost e.lists c.args.place) (below_most (length (rows_in c.args.offers)) few) in
    omega (arith, all, later)
