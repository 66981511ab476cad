use Rattle.std.proofs.Common.{◌-◌, ◌∙◌, List, Some, ◌++◌, length, refl, subst, sym, arith}
use Rattle.iso_search_core.specs.Bodies.{most}
use Rattle.iso_search_core.proofs.BodyCosts.{below_words, cost_above, cost_higher}
use Rattle.iso_instructions.specs.declared.instructions.Code.{Code}
use Rattle.iso_clause_code.specs.Keeping.{KeepsCode}
use Rattle.iso_environments.specs.Entered.{clause_members}
use Rattle.iso_environments.specs.Stacks.{stack}
use Rattle.iso_frames.specs.Frames.{Chain}
use Rattle.iso_machine.specs.Lists.{cost_at}
use Rattle.iso_machine.proofs.EnterLemmas.{fact_list}
use Rattle.iso_machine.specs.Wholes.{whole_list}
use Rattle.iso_machine.specs.LastCalls.{CallsAlone}
use Rattle.iso_machine.proofs.entering.begin.Goals as goal

pub returns-then-is_fact-clause-list : goal.returns-then-is_fact-clause-list
returns-then-is_fact-clause-list g c = λ p names d below environment ms words has list.
    let keeps : KeepsCode names c.as_ref.result.now d =
    subst (λ (code : Code). KeepsCode names code d) (sym c.as_ref.ensures) has.keeps in
    fact_list g.S.Cells.atom_word c.args.lists.now below environment words has c.args.mark list
    (c.is_fact.ensures.body names d keeps c.if-is_fact.true)

pub returns-then-is_fact-clause-cost : goal.returns-then-is_fact-clause-cost
returns-then-is_fact-clause-cost g c =
    let up = cost_above most (cost_at c.args.lists.now c.args.put.now.behind) in
    omega (arith, up)

pub returns-clause-list : goal.returns-clause-list
returns-clause-list g c = λ p names d below environment ms words has list.
    let a = g.S.Cells.atom_word in
    let old = c.args.lists.now in
    let nodes = old.nodes.items in
    let there = c.in_ok-place.ensures.list a p nodes below environment names d ms (c.as_slice.ensures ∙ words) has
    list in
    whole_list a (record old { frames = c.push_clause.new.frames })
    (subst (λ (ws : List g.row.S-Word.Denot). Chain a p (stack nodes c.push_clause.new.frames.items ws)
    (Some c.in_ok-place.place) (clause_members p environment c.args.mark d ++ ms)) c.as_slice.ensures there)

pub returns-clause-cost : goal.returns-clause-cost
returns-clause-cost g c =
    let cost = c.in_ok-place.ensures.cost in
    let body = c.args.code.now.value.body in
    let many = body.ok.0 in
    let room = body.ok.1 in
    let small = body.small in
    let few = below_words (length body.items - 1) (omega (arith, many, room, small)) in
    let up = cost_higher most (length body.items - 1) (cost_at c.args.lists.now c.args.put.now.behind) (omega (arith, few)) in
    omega (arith, cost, up)

pub returns-then-is_one_call-clause-last : goal.returns-then-is_one_call-clause-last
returns-then-is_one_call-clause-last g c = λ done. (
  c.if-last.true,
  refl,
  subst (λ (code : Code). CallsAlone code) c.as_ref-then-last.ensures (c.is_one_call.ensures.alone c.if-is_one_call.true),
)
