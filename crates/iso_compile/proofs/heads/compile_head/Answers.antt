use Rattle.std.proofs.Common.{◌≡◌, ◌+◌, ◌≤◌, ◌++◌, ap, ◌∙◌, map, arith}
use Rattle.iso_model.specs.Terms.Trees.{count}
use Rattle.iso_model.specs.Terms.TermOf.{row_of}
use Rattle.iso_compile.specs.Heads.{head_blocks}
use Rattle.iso_compile.specs.Emitted.{get_of, block_of, part_of, part_got}
use Rattle.iso_compile.specs.Emitting.{none_met}
use Rattle.iso_compile.specs.TermCode.{deep}
use Rattle.iso_compile.proofs.CellLemmas.{few_head_cells}
use Rattle.iso_compile.proofs.RegisterLemmas.{head_within}
use Rattle.iso_compile.proofs.ShapeLemmas.{row_shaped}
use Rattle.iso_compile.proofs.HeadCodeLemmas.{meets, first_marks, parts_got}
use Rattle.iso_compile.proofs.heads.compile_head.Goals as goal

pub returns-clause-blocks : goal.returns-clause-blocks
returns-clause-blocks c =
    let ts = row_of c.args.arguments.now in
    ap (λ s. s.code) c.in_ok-emit_head.ensures.made ∙ ap (λ xs. map block_of xs ++ head_blocks 0 c.registers.result ts) c.new.ensures.items ∙ ap (λ m. head_blocks 0 m ts) c.registers.ensures

pub returns-clause-meets : goal.returns-clause-meets
returns-clause-meets c =
    let ts = row_of c.args.arguments.now in
    let m = c.registers.result in
    let room : count ts ≤ m = omega (arith, c.requires, c.registers.ensures) in
    meets m ts (map get_of c.in_ok-gets.gets.items) (map block_of c.emit_head.new.self.code.items) c.in_ok-gets.ensures.made
    (ap (λ s. s.code) c.in_ok-emit_head.ensures.made ∙ ap (λ xs. map block_of xs ++ head_blocks 0 m ts) c.new.ensures.items) room

pub returns-clause-marks : goal.returns-clause-marks
returns-clause-marks c =
    let places = c.args.plan.now.places in
    let gs = map part_got c.in_ok-gets.gets.items in
    c.in_ok-emit_head.ensures.marks (none_met places) gs
    (first_marks places gs c.in_ok-met.met.items c.gets_of.new.met.items c.new.result.items c.variables.result c.variables.ensures (c.in_ok-met.ensures.items_if_clones_equal (λ y same. same)) c.new.ensures.items
    c.in_ok-gets.ensures.marks)

pub returns-clause-registers : goal.returns-clause-registers
returns-clause-registers c =
    let ts = row_of c.args.arguments.now in
    let m = c.registers.result in
    let e = ap (λ s. s.code) c.in_ok-emit_head.ensures.made ∙ ap (λ xs. map block_of xs ++ head_blocks 0 m ts) c.new.ensures.items in
    let next : c.emit_head.new.self.next ≡ m + deep ts = ap (λ s. s.next) c.in_ok-emit_head.ensures.made in
    head_within c.args.plan.now.registers m c.emit_head.new.self.next ts (map block_of c.emit_head.new.self.code.items) (row_shaped c.args.arguments.now) c.requires c.registers.ensures next e

pub returns-clause-cells : goal.returns-clause-cells
returns-clause-cells c =
    let m = c.registers.result in
    few_head_cells m c.args.arguments.now (map get_of c.in_ok-gets.gets.items) (map part_of (map part_got c.in_ok-gets.gets.items)) (map block_of c.emit_head.new.self.code.items) c.in_ok-gets.ensures.made
    (parts_got c.in_ok-gets.gets.items) (ap (λ s. s.code) c.in_ok-emit_head.ensures.made ∙ ap (λ xs. map block_of xs ++ head_blocks 0 m (row_of c.args.arguments.now)) c.new.ensures.items)
