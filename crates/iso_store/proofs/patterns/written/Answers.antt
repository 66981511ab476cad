use Rattle.std.proofs.Common.{rules, ◌≡◌, [], ◌∷◌, length, map, ap, sym, ◌∙◌, arith, length-append}
use Rattle.iso_model.specs.Terms.Trees.{Variable}
use Rattle.iso_model.specs.Terms.Building.{with_steps}
use Rattle.iso_model.specs.Terms.Substitutions.{apply}
use Rattle.iso_store_core.specs.Patterns.{part_step}
use Rattle.iso_store.specs.Writing.{placed_by, terms_left}
use Rattle.iso_store_core.proofs.AtomLemmas.{keeps-then}
use Rattle.iso_store.proofs.PatternLemmas.{left-push, size-popped, pattern-written}
use Rattle.iso_store.proofs.patterns.written.Goals as goal

pub loop-next-smaller : goal.loop-next-smaller
loop-next-smaller g c =
    let popped = size-popped c.pop.new.self.items c.loop-next.left.items c.in-Some.next c.in-Some.ensures.items in
    let less = c.in_ok-write_next.ensures.load in
    omega arith

pub loop-next-preserved : goal.loop-next-preserved
loop-next-preserved g c =
    let s = placed_by c.args.places in
    let names = g.S.Primitives.names c.loop-next.store in
    let popped = left-push c.pop.new.self.items c.loop-next.left.items c.in-Some.next c.in-Some.ensures.items in
    let so = c.loop-next.invariant in
    let many = ap length c.in-Some.ensures.items ∙ length-append c.pop.new.self.items (c.in-Some.next ∷ []) in
    record {
      named = c.in_ok-write_next.ensures.named;
      exact = c.in_ok-write_next.ensures.exact (rw many at so.exact);
      steps = c.in_ok-write_next.ensures.written ∙ sym (ap (λ ts. with_steps (map (part_step names Variable) c.loop-next.parts.items) (map (apply s) ts)) popped) ∙ so.steps;
      present = c.write_next.ensures.present ∙ so.present;
      names = keeps-then _ _ _ so.names c.write_next.ensures.names;
      marks = λ m q h. c.write_next.ensures.marks m q (so.marks m q h);
    }

pub returns-clause-pattern : goal.returns-clause-pattern
returns-clause-pattern g c =
    let s = placed_by c.args.places in
    let names = g.S.Primitives.names c.loop-next.store in
    let none : c.loop-next.left.items ≡ [] = search rules in
    let steps = ap (λ ts. with_steps (map (part_step names Variable) c.loop-next.parts.items) (map (apply s) (terms_left ts))) (sym none) ∙ c.loop-next.invariant.steps in
    pattern-written names c.loop-next.parts.items c.reverse.new.self.items _ c.loop-next.invariant.named steps c.reverse.ensures.items
