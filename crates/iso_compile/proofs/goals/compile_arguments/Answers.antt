use Rattle.std.proofs.Common.{refl, ◌≡◌, ◌+◌, ◌++◌, ap, ap₂, sym, subst, ◌∙◌, map, length}
use Rattle.iso_model.specs.Terms.TermOf.{row_of}
use Rattle.iso_compile.specs.TermCode.{deep, tops, parts, blocks}
use Rattle.iso_compile.specs.Emitted.{part_of, block_of, all_parts, Marks}
use Rattle.iso_compile.specs.Emitting.{all_placed, without_voids}
use Rattle.iso_compile.proofs.VoidLemmas.{none_marked, twice_again}
use Rattle.iso_compile.proofs.CellLemmas.{few_cells}
use Rattle.iso_compile.proofs.RegisterLemmas.{arguments_within}
use Rattle.iso_compile.proofs.ShapeLemmas.{row_shaped}
use Rattle.iso_compile.proofs.GoalLemmas.{makes, own_marks}
use Rattle.iso_compile.proofs.goals.compile_arguments.Goals as goal

pub returns-clause-makes : goal.returns-clause-makes
returns-clause-makes c =
    let ts = row_of c.args.arguments.now in
    let r = c.registers-register.result in
    let m = c.in_ok-parts.next in
    makes r m ts (map block_of c.emit.new.self.code.items) (map part_of c.in_ok-parts.parts.items) c.in_ok-parts.ensures.behind
    (ap (λ s. s.code) c.in_ok-emit.ensures.made ∙ ap (λ xs. map block_of xs ++ blocks r m ts) c.new.ensures.items) c.in_ok-parts.ensures.parts

pub returns-clause-parts_are : goal.returns-clause-parts_are
returns-clause-parts_are c = c.in_ok-parts.ensures.parts ∙ ap (λ r. parts r (row_of c.args.arguments.now)) c.registers-register.ensures

pub returns-clause-blocks_are : goal.returns-clause-blocks_are
returns-clause-blocks_are c =
    let ts = row_of c.args.arguments.now in
    let r = c.registers-register.result in
    let m = c.in_ok-parts.next in
    let low = c.registers-register.ensures in
    ap (λ s. s.code) c.in_ok-emit.ensures.made ∙ ap (λ xs. map block_of xs ++ blocks r m ts) c.new.ensures.items
    ∙ ap₂ (λ a b. blocks a b ts) low (c.in_ok-parts.ensures.behind ∙ ap (λ a. a + tops ts) low)

pub returns-clause-registers : goal.returns-clause-registers
returns-clause-registers c =
    let ts = row_of c.args.arguments.now in
    let r = c.registers-register.result in
    let m = c.in_ok-parts.next in
    let blocks_are = ap (λ s. s.code) c.in_ok-emit.ensures.made ∙ ap (λ xs. map block_of xs ++ blocks r m ts) c.new.ensures.items in
    let next : c.emit.new.self.next ≡ m + deep ts = ap (λ s. s.next) c.in_ok-emit.ensures.made in
    arguments_within c.args.plan.now.registers r m c.emit.new.self.next ts (record { blocks = c.emit.new.self.code; parts = c.in_ok-parts.parts; registers = c.emit.new.self.next }) (row_shaped c.args.arguments.now) c.registers-register.ensures c.in_ok-parts.ensures.behind next refl blocks_are
    c.in_ok-parts.ensures.parts

pub returns-clause-cells : goal.returns-clause-cells
returns-clause-cells c =
    let ts = row_of c.args.arguments.now in
    let r = c.registers-register.result in
    let m = c.in_ok-parts.next in
    few_cells r m c.args.arguments.now (map part_of c.in_ok-parts.parts.items) (map block_of c.emit.new.self.code.items) c.in_ok-parts.ensures.parts
    (ap (λ s. s.code) c.in_ok-emit.ensures.made ∙ ap (λ xs. map block_of xs ++ blocks r m ts) c.new.ensures.items)

pub returns-clause-met : goal.returns-clause-met
returns-clause-met c =
    let places = c.args.plan.now.places in
    let ps = c.in_ok-parts.parts.items in
    let before = subst (λ v. Marks places ps c.args.met.now.items v.items) (sym c.replace.ensures.value) c.in_ok-parts.ensures.marks in
    let list = c.emit.new.self.met in
    twice_again places ps (all_parts c.emit.new.self.code.items) list.items c.forget.new.met.items c.forget_blocks.new.met.items (c.emit.ensures.many ∙ ap (λ v. length v.items) c.replace.ensures.value ∙ c.parts_in.ensures.many ∙ c.requires.many)
    (c.in_ok-emit.ensures.marks (all_placed places) ps (own_marks places ps c.args.met.now.items c.replace.result.items c.new.result.items (none_marked places c.args.met.now.items c.requires) c.new.ensures.items before))
    (c.forget.ensures ∙ ap₂ without_voids (ap (λ v. v.items) c.swap.ensures.x_after) c.as_slice.ensures.value)
    (c.forget_blocks.ensures ∙ ap (λ bs. without_voids c.forget.new.met.items (all_parts bs)) c.as_slice-2.ensures.value)
