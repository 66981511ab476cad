use Rattle.std.proofs.Common.{rules, ◌≡◌, length}
use Rattle.std.specs.String.{string_bytes}
use Rattle.iso_model.proofs.OnTerms.SeenRows.{row_load-arguments}
use Rattle.iso_lib_core.proofs.VariantLemmas.{signs_compound}
use Rattle.iso_lib_core.proofs.variants.write_first.Goals as goal

pub returns-in_ok-push-in-Compound-2-clause-signs :
    goal.returns-in_ok-push-in-Compound-2-clause-signs
returns-in_ok-push-in-Compound-2-clause-signs c =
    let text : string_bytes c.in_ok-clone-in-Compound.field-0 ≡ string_bytes c.in-Compound.name = search rules in
    let many : c.len.result ≡ length c.in-Compound.arguments.items = search rules in
    signs_compound c.args.pieces.now.items c.push-in-Compound.new.self.items c.args.rows.now.items c.push-in-Compound-2.new.self.items c.as_slice.result c.args.term.now c.in-Compound.name
    c.in_ok-clone-in-Compound.field-0 c.in-Compound.arguments c.len.result c.in_ok-push-in-Compound.ensures.items text many c.in_ok-push-in-Compound-2.ensures.items c.as_slice.ensures.value c.in-Compound.is

pub returns-in_ok-push-in-Compound-2-clause-load :
    goal.returns-in_ok-push-in-Compound-2-clause-load
returns-in_ok-push-in-Compound-2-clause-load c =
    row_load-arguments c.args.rows.now.items _ c.as_slice.result c.in_ok-push-in-Compound-2.ensures.items c.args.term.now c.in-Compound.name c.in-Compound.arguments c.in-Compound.is c.as_slice.ensures.value
