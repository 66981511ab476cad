use Rattle.std.proofs.Common.{max, map, ap, ap₂, ◌∙◌}
use Rattle.std.specs.List.{All}
use Rattle.iso_compile.specs.Emitted.{part_of, block_of}
use Rattle.iso_code.specs.declared.operands.Arguments.{Arguments}
use Rattle.iso_code.specs.declared.loading.Side.TheVariants.{Goal}
use Rattle.iso_code.specs.Loading.{IsFrom, IsLoaded, behind_operands, behind_blocks}
use Rattle.iso_code.proofs.LoadLemmas.{zip_weaker, operand_kept}
use Rattle.iso_code.proofs.FormLemmas.{all_unmapped, within_from, within_parts}
use Rattle.iso_code.proofs.LoadedLemmas.{arguments_loaded}
use Rattle.iso_code.proofs.loading.load_arguments.Goals as goal

pub load_operands-requires : goal.load_operands-requires
load_operands-requires g c =
    let code = c.args.arguments.now in
    let low = c.args.low in
    rw c.as_slice.ensures.value (all_unmapped (IsFrom low) part_of code.parts.items (within_from low code.registers (map part_of code.parts.items) c.requires.parts))

pub load_blocks-requires : goal.load_blocks-requires
load_blocks-requires g c =
    let code = c.args.arguments.now in
    let low = c.args.low in
    rw c.as_slice-2.ensures.value (all_unmapped (λ b. All (IsFrom low) b.parts) block_of code.blocks.items (within_parts low code.registers (map block_of code.blocks.items) c.requires.blocks))

pub returns-clause-loaded : goal.returns-clause-loaded
returns-clause-loaded g c = λ above full.
    let low = c.args.low in
    let code = c.args.arguments.now in
    let old = g.S.Store.names c.load_operands.new.store in
    let new = g.S.Store.names c.load_blocks.new.store in
    let a : Arguments = record { blocks = c.in_ok-blocks.blocks; operands = c.in_ok-operands.operands; compounds = c.max.result } in
    let among = c.in_ok-among.ensures ∙ ap behind_operands c.as_slice-3.ensures.value in
    let inside = c.in_ok-inside.ensures ∙ ap behind_blocks c.as_slice-4.ensures.value in
    arguments_loaded new low code a c.requires above full
    (zip_weaker (IsLoaded old low Goal) (IsLoaded new low Goal) (operand_kept old new c.load_blocks.ensures.rest.names low Goal) code.parts.items c.in_ok-operands.operands.items
    (rw c.as_slice.ensures.value at c.in_ok-operands.ensures.loaded))
    (rw c.as_slice-2.ensures.value at c.in_ok-blocks.ensures.loaded)
    (c.max.ensures ∙ ap₂ max among inside)
