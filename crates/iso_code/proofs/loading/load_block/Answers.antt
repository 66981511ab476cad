use Rattle.std.proofs.Common.{rules, ◌≡◌, Some, slice_get, refl, ap, ◌∙◌}
use Rattle.std.specs.String.{string_bytes}
use Rattle.std.specs.List.{list_any}
use Rattle.iso_compile.specs.Emitted.{part_of}
use Rattle.iso_code.specs.Loading.{IsFrom, IsLoaded, is_wide}
use Rattle.iso_code.proofs.LoadLemmas.{zip_weaker, operand_kept}
use Rattle.iso_code.proofs.FormLemmas.{all_unmapped}
use Rattle.iso_code.proofs.loading.load_block.Goals as goal

pub load_operands-requires : goal.load_operands-requires
load_operands-requires g c = rw c.as_slice.ensures.value (all_unmapped (IsFrom c.args.low) part_of c.args.block.now.parts.items c.requires)

pub returns-clause-loaded : goal.returns-clause-loaded
returns-clause-loaded g c =
    let old = g.S.Store.names c.load_operands.new.store in
    let new = g.S.Store.names c.intern.new.self in
    let low = c.args.low in
    let name : slice_get new c.in_ok-name.name ≡ Some (string_bytes c.args.block.now.name) = search rules in
    let operands = rw c.as_slice.ensures.value at c.in_ok-operands.ensures.loaded in
    record {
      register = c.load_register.ensures;
      name = name;
      operands = zip_weaker (IsLoaded old low c.args.side) (IsLoaded new low c.args.side) (operand_kept old new c.intern.ensures.names low c.args.side)
          c.args.block.now.parts.items c.in_ok-operands.operands.items operands;
      inner = refl;
      wide = c.are_wide-wide.ensures ∙ ap (list_any is_wide) c.as_slice-2.ensures.value;
      pair = rw c.as_slice-3.ensures.value at c.pair_of-pair.ensures;
    }
