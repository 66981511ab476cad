use Rattle.std.proofs.Common.{◌∙◌, arith, rules, ap, Err}
use Rattle.iso_search.specs.EngineStates.{cost}
use Rattle.iso_store_core.specs.Presents.{meaning}
use Rattle.iso_search_core.proofs.BodyCosts.{whole_paid}
use Rattle.iso_search.proofs.AheadLemmas.{remains_ahead}
use Rattle.iso_search.proofs.Moves.Fault.{goal_throws}
use Rattle.iso_search.proofs.Moves.Output.{wrote_none, wrote_some, raised_is, raised_now}
use Rattle.iso_search.proofs.Moves.Word.{slice_are}
use Rattle.iso_search.proofs.search.Search.write_goal.Goals as goal

pub output-requires-clause-arguments : goal.output-requires-clause-arguments
output-requires-clause-arguments g c = (slice_are c.as_slice-arguments.ensures.value c.requires.arguments).hold

pub output-requires-clause-count : goal.output-requires-clause-count
output-requires-clause-count g c = (slice_are c.as_slice-arguments.ensures.value c.requires.arguments).count ∙ c.requires.writes.1.arity_is

pub coming-self-requires : goal.coming-self-requires
coming-self-requires g c = let s = c.requires.writes in (s.0.list, s.1.ahead.chain)

pub returns-then-is_empty-clause-written : goal.returns-then-is_empty-clause-written
returns-then-is_empty-clause-written g c = λ s h.
    (let are = slice_are c.as_slice-arguments.ensures.value c.requires.arguments in
    let is = c.in-Ok.ensures.written (meaning (g.S.Store.present c.args.self.now.store) c.args.goal) are in
    wrote_none g.S.Store g.L.Lists c.args.self.now c.args.row c.args.goal s c.args.place h c.coming-self.result
    (c.coming-self.ensures.behind s.list h.ahead.chain) c.in-Ok.bytes is (search rules) c.coming-self.ensures.awake)

pub returns-then-is_empty-clause-falls : goal.returns-then-is_empty-clause-falls
returns-then-is_empty-clause-falls g c = λ w less.
    (whole_paid c.args.self.now.steps w (cost g.L.Lists (record c.args.self.now { now = c.coming-self.result })) (omega (arith, less, c.coming-self.ensures.cost)))

pub returns-else-is_empty-clause-written : goal.returns-else-is_empty-clause-written
returns-else-is_empty-clause-written g c = λ s h.
    (let are = slice_are c.as_slice-arguments.ensures.value c.requires.arguments in
    let is = c.in-Ok.ensures.written (meaning (g.S.Store.present c.args.self.now.store) c.args.goal) are in
    wrote_some g.S.Store g.L.Lists c.args.self.now c.args.row c.args.goal s c.args.place h c.coming-self.result
    (c.coming-self.ensures.behind s.list h.ahead.chain) c.in-Ok.bytes is (search rules))

pub returns-else-is_empty-clause-falls : goal.returns-else-is_empty-clause-falls
returns-else-is_empty-clause-falls g c = λ w less.
    (whole_paid c.args.self.now.steps w (cost g.L.Lists (record c.args.self.now { now = c.coming-self.result })) (omega (arith, less, c.coming-self.ensures.cost)))

pub behind_fault-requires : goal.behind_fault-requires
behind_fault-requires g c = λ ball is.
    (let e = c.args.self.now in
    let t = meaning (g.S.Store.present e.store) c.args.goal in
    let are = slice_are c.as_slice-arguments.ensures.value c.requires.arguments in
    (raised_is c.args.row t e.ops c.in-Err.fault (c.in-Err.ensures.written t are) ball is).1)

pub returns-in-Err-clause-written : goal.returns-in-Err-clause-written
returns-in-Err-clause-written g c = λ s h.
    (let e = c.args.self.now in
    let new = c.behind_fault.new.self in
    let t = meaning (g.S.Store.present e.store) c.args.goal in
    let are = slice_are c.as_slice-arguments.ensures.value c.requires.arguments in
    let throws = goal_throws g.S.Store g.L.Lists c.behind_fault.ensures.throws in
    throws.goes _ (λ ball is engine awake.
    raised_now g.S.Store g.L.Lists e c.args.row c.args.goal s c.args.place h new ball (raised_is c.args.row t e.ops c.in-Err.fault (c.in-Err.ensures.written t are) ball is).0 (engine s h.ahead) awake))

pub returns-in-Err-clause-kept : goal.returns-in-Err-clause-kept
returns-in-Err-clause-kept g c = λ s h.
    (goal_throws g.S.Store g.L.Lists c.behind_fault.ensures.throws).kept s
    (remains_ahead g.S.Store g.L.Lists c.args.self.now s c.args.place h.ahead)

pub returns-in-Err-clause-falls : goal.returns-in-Err-clause-falls
returns-in-Err-clause-falls g c =
    (goal_throws g.S.Store g.L.Lists c.behind_fault.ensures.throws).falls

pub returns-in-Err-clause-frames : goal.returns-in-Err-clause-frames
returns-in-Err-clause-frames g c =
    (goal_throws g.S.Store g.L.Lists c.behind_fault.ensures.throws).frames ⊥

pub returns-in-Err-clause-met : goal.returns-in-Err-clause-met
returns-in-Err-clause-met g c =
    (goal_throws g.S.Store g.L.Lists c.behind_fault.ensures.throws).met (λ full. absurd (c.in-Err.ensures.full (ap Err full)))
