-- A number that gives no clause is passed over; one that does is the next.
use Rattle.std.proofs.Common.{◌≡◌, ◌<◌, ◌≤◌, ◌+◌, ℕ, ◌∙◌, sym, subst, take, drop, length, get_or, arith, Some, None, ap, refl, true, is_some, []}
use Rattle.std.proofs.lemmas.List.{length-take, get_or-take, drop_all}
use Rattle.iso_clauses.specs.Blocks.{Ids, ids_from}
use Rattle.iso_clauses.specs.Slots.{given, clause_at}
use Rattle.iso_clauses.specs.Stepping.{Steps}
use Rattle.iso_clauses.proofs.ViewLemmas.{length-ids_from, given-passes, given-steps}
use Rattle.iso_clauses.proofs.views.step.Goals as goal

-- there are as many numbers as the view has positions
long : (b : Ids) (outer end : ℕ) → outer ≤ length b.front → end ≤ outer + length b.back → length (take end (ids_from b outer)) ≡ end
long b outer end h k = omega (arith, length-take end (ids_from b outer), length-ids_from b outer h)

pub returns-then-is_given-clause-steps : goal.returns-then-is_given-clause-steps
returns-then-is_given-clause-steps g c =
    let view = c.args.view in
    let slots = c.args.slots.now in
    let whole = ids_from c.args.block.now view.outer in
    let numbers = take view.end whole in
    let next = c.loop-next.next in
    let inside : next < length numbers = omega (arith, long c.args.block.now view.outer view.end c.requires.outer c.requires.end, c.loop-next-test.true) in
    let is : c.at-id.result ≡ get_or numbers next c.at-id.result = c.at-id.ensures ∙ sym (get_or-take view.end whole next c.at-id.result c.loop-next-test.true) in
    let here : is_some (clause_at slots view.made c.at-id.result) ≡ true = sym c.is_given.ensures ∙ c.if-is_given.true in
    subst (λ cs. Steps cs (Some c.at-id.result) (given slots view.made (drop (next + 1) numbers))) c.loop-next.invariant.1 (given-steps slots view.made numbers next c.at-id.result inside is here)

pub loop-next-preserved : goal.loop-next-preserved
loop-next-preserved g c =
    let view = c.args.view in
    let slots = c.args.slots.now in
    let whole = ids_from c.args.block.now view.outer in
    let numbers = take view.end whole in
    let next = c.loop-next.next in
    let inside : next < length numbers = omega (arith, long c.args.block.now view.outer view.end c.requires.outer c.requires.end, c.loop-next-test.true) in
    let is : c.at-id.result ≡ get_or numbers next c.at-id.result = c.at-id.ensures ∙ sym (get_or-take view.end whole next c.at-id.result c.loop-next-test.true) in
    (omega (arith, c.loop-next.invariant.0), given-passes slots view.made numbers next c.at-id.result inside is (sym c.is_given.ensures ∙ c.if-is_given.false) ∙ c.loop-next.invariant.1)

pub returns-clause-steps : goal.returns-clause-steps
returns-clause-steps g c =
    let view = c.args.view in
    let slots = c.args.slots.now in
    let numbers = take view.end (ids_from c.args.block.now view.outer) in
    let next = c.loop-next.next in
    let past : length numbers ≤ next = omega (arith, long c.args.block.now view.outer view.end c.requires.outer c.requires.end, c.loop-next-test.false) in
    let rest : given slots view.made (drop next numbers) ≡ [] = ap (given slots view.made) (drop_all next numbers past) in
    subst (λ cs. Steps cs None (given slots view.made (drop next numbers))) c.loop-next.invariant.1 (subst (λ cs. Steps cs None cs) (sym rest) (refl, refl))

pub returns-then-is_given-clause-falls : goal.returns-then-is_given-clause-falls
returns-then-is_given-clause-falls g c = (let later = c.loop-next.invariant.0 in let inside = c.loop-next-test.true in omega (arith, later, inside))
