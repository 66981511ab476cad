use Rattle.std.proofs.Common.{[], ◌∷◌, ◌++◌, map, ap, ◌∙◌}
use Rattle.iso_model.specs.Terms.TermOf.{term_of}
use Rattle.iso_compile.specs.Emitted.{part_of, block_of}
use Rattle.iso_compile.specs.Emitting.{all_placed, without_voids}
use Rattle.iso_compile.proofs.CellLemmas.{few_atomic_cells}
use Rattle.iso_compile.proofs.GoalLemmas.{atomic_parts, atomic_blocks}
use Rattle.iso_compile.proofs.VoidLemmas.{none_marked, once_again}
use Rattle.iso_compile.proofs.goals.compile_atomic.Goals as goal

pub returns-clause-met : goal.returns-clause-met
returns-clause-met c =
    let places = c.args.plan.now.places in
    let p = c.in_ok-part.part in
    once_again places (p ∷ []) c.part_in.new.met.items c.forget.new.met.items (c.part_in.ensures.many ∙ c.requires.met.many)
    (c.in_ok-part.ensures.marks (all_placed places) [] (none_marked places c.args.met.now.items c.requires.met))
    (c.forget.ensures ∙ ap (without_voids c.part_in.new.met.items) (c.as_slice.ensures.value ∙ c.in_ok-push.ensures.items ∙ ap (λ xs. xs ++ p ∷ []) c.new-parts.ensures.items))

pub returns-clause-cells : goal.returns-clause-cells
returns-clause-cells c =
    let p = c.in_ok-part.part in
    few_atomic_cells (term_of c.args.term.now) (part_of p) (map part_of c.push.new.self.items) (map block_of c.new.result.items) c.requires.atomic c.in_ok-part.ensures.part
    (ap (map part_of) (c.in_ok-push.ensures.items ∙ ap (λ xs. xs ++ p ∷ []) c.new-parts.ensures.items)) (ap (map block_of) c.new.ensures.items)

pub returns-clause-parts_are : goal.returns-clause-parts_are
returns-clause-parts_are c =
    let p = c.in_ok-part.part in
    atomic_parts c.args.plan.now.registers (term_of c.args.term.now) (part_of p) (map part_of c.push.new.self.items) c.requires.atomic c.in_ok-part.ensures.part
    (ap (map part_of) (c.in_ok-push.ensures.items ∙ ap (λ xs. xs ++ p ∷ []) c.new-parts.ensures.items))

pub returns-clause-blocks_are : goal.returns-clause-blocks_are
returns-clause-blocks_are c = atomic_blocks c.args.plan.now.registers _ (term_of c.args.term.now) (map block_of c.new.result.items) c.requires.atomic (ap (map block_of) c.new.ensures.items)
