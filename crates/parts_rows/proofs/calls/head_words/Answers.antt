use Rattle.iso_model.specs.Terms.TermOf.{term_of}
use Rattle.parts_rows.proofs.Made.{met-holds, met-goal}
use Rattle.parts_rows.proofs.calls.head_words.Goals as goal

pub unify_head-requires-clause-exact : goal.unify_head-requires-clause-exact
unify_head-requires-clause-exact g c = rw c.as_slice.ensures.value c.in_ok-pattern.pattern.exact

pub unify_head-requires-clause-head : goal.unify_head-requires-clause-head
unify_head-requires-clause-head g c =
    (term_of c.args.head.now, rw c.as_slice.ensures.value c.in_ok-pattern.ensures.pattern, c.requires.fits, c.requires.places)

pub returns-then-branch-clause-words : goal.returns-then-branch-clause-words
returns-then-branch-clause-words g c =
    met-holds (g.S.Store.present c.pattern.new.self) (g.S.Store.present c.unify_head.new.self) c.args.goal (term_of c.args.head.now) 2 c.unify_head.new.words.items c.in_ok-unify_head.field-0 c.if-branch.true
    (c.in_ok-unify_head.ensures.met (term_of c.args.head.now) (rw c.as_slice.ensures.value c.in_ok-pattern.ensures.pattern))

pub returns-then-branch-clause-goal : goal.returns-then-branch-clause-goal
returns-then-branch-clause-goal g c =
    met-goal (g.S.Store.present c.pattern.new.self) (g.S.Store.present c.unify_head.new.self) c.args.goal (term_of c.args.head.now) 2 c.unify_head.new.words.items c.in_ok-unify_head.field-0 c.if-branch.true
    (rw c.in_ok-pattern.ensures.present c.requires.goal) (c.in_ok-unify_head.ensures.met (term_of c.args.head.now) (rw c.as_slice.ensures.value c.in_ok-pattern.ensures.pattern))
