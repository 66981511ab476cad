use Rattle.std.proofs.Common.{arith, sym, ◌∙◌}
use Rattle.iso_model.specs.Search.Storages.{largest_head}
use Rattle.iso_store_core.proofs.RetainLemmas.{takes_on, takes_most, takes_same}
use Rattle.iso_storage.proofs.MatchingLemmas.{one_matched, one_passed, first_head}
use Rattle.iso_storage.proofs.matching.matching.Goals as goal

pub clause-requires : goal.clause-requires
clause-requires g c =
    let h = c.requires.clauses in
    let m = c.loop-number.invariant.matched h.0 h.1 h.2 h.3 in
    let left = c.in-Some.ensures.left (g.S.Store.names c.args.store.now) m.kept m.others m.gives m.are m.few in
    (left.kept, left.stands)

pub loop-number-preserved : goal.loop-number-preserved
loop-number-preserved g c =
    let names = g.S.Store.names c.args.store.now in
    let p = g.S.Store.present c.args.store.now in
    let before = c.loop-number.invariant in
    let stood = c.in_ok-matches.ensures.rest.marks c.mark-mark.result p before.stands in
    record {
      matched = λ ks cs gives are.
          (let m = before.matched ks cs gives are in
          let left = c.in-Some.ensures.left names m.kept m.others m.gives m.are m.few in
          let answer = (rw (before.names, before.present) at c.in_ok-matches.ensures.unifies) left.first (rw (c.clause.ensures left.kept left.stands) left.clause) in
          one_passed m left (sym answer ∙ c.if-matches.false));
      present = c.undo.ensures.back p stood;
      names = c.undo.ensures.names ∙ c.in_ok-matches.ensures.rest.names ∙ before.names;
      stands = c.undo.ensures.stands p stood;
      older = before.older;
      marks = λ k q h. c.undo.ensures.marks k q (before.older k q h) (c.in_ok-matches.ensures.rest.marks k q (before.marks k q h));
    }

pub loop-number-preserved-in-Continue-branch-2 : goal.loop-number-preserved-in-Continue-branch-2
loop-number-preserved-in-Continue-branch-2 g c =
    let names = g.S.Store.names c.args.store.now in
    let p = g.S.Store.present c.args.store.now in
    let before = c.loop-number.invariant in
    let stood = c.in_ok-matches.ensures.rest.marks c.mark-mark.result p before.stands in
    record {
      matched = λ ks cs gives are.
          (let m = before.matched ks cs gives are in
          let left = c.in-Some.ensures.left names m.kept m.others m.gives m.are m.few in
          let answer = (rw (before.names, before.present) at c.in_ok-matches.ensures.unifies) left.first (rw (c.clause.ensures left.kept left.stands) left.clause) in
          rw c.in_ok-push.ensures.items (one_matched m left (sym answer ∙ c.if-matches.true)));
      present = c.undo.ensures.back p stood;
      names = c.undo.ensures.names ∙ c.in_ok-matches.ensures.rest.names ∙ before.names;
      stands = c.undo.ensures.stands p stood;
      older = before.older;
      marks = λ k q h. c.undo.ensures.marks k q (before.older k q h) (c.in_ok-matches.ensures.rest.marks k q (before.marks k q h));
    }

pub returns-in_err-matches-clause-cells : goal.returns-in_err-matches-clause-cells
returns-in_err-matches-clause-cells g c = λ ks cs gives are.
    (let names = g.S.Store.names c.args.store.now in
    let before = c.loop-number.invariant in
    let m = before.matched ks cs gives are in
    let left = c.in-Some.ensures.left names m.kept m.others m.gives m.are m.few in
    takes_most (largest_head cs) (let few = first_head m left in omega (arith, few)) (takes_on (takes_same 0 before.present) ((rw before.names at c.unifies.ensures.cells) left.first (rw (c.clause.ensures left.kept left.stands) left.clause))))
