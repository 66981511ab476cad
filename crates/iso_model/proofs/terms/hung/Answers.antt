use Rattle.std.proofs.Common.{◌≡◌, ◌-◌, ◌<◌, length, slice_get, Some, vec_len, refl, ◌∙◌, arith}
use Rattle.std.proofs.lemmas.Bool.Decides.{nat_tests}
use Rattle.std.proofs.lemmas.Option.{get_or_from_slice_get}
use Rattle.std.specs.Vec.{with_item}
use Rattle.iso_model.specs.declared.terms.Term.TheVariants.{Var}
use Rattle.iso_model.proofs.OnTerms.Hanging.{light_size-push, light_size-compound, light_size-hung}
use Rattle.iso_model.proofs.terms.hung.Goals as goal

pub returns-then-is_empty : goal.returns-then-is_empty
returns-then-is_empty c =
    let compound = light_size-compound c.args.name c.args.arguments in
    rw c.remove_last.ensures (light_size-push _ _ compound.0 compound.1)

pub clear-requires : goal.clear-requires
clear-requires c =
    let i = c.len-last.result - 1 in
    let place : slice_get c.args.others.items i ≡ Some (Var 0) = rw c.len-last.ensures c.requires in
    c.replace.ensures.value ∙ c.index_mut-2.ensures.value ∙ get_or_from_slice_get c.args.others.items i (Var 0) c.index_mut-2.result.now place

pub returns : goal.returns
returns c =
    let size = c.args.others.ok.0 in
    let same = c.len-last.ensures in
    let filled = c.args.arguments.ok.0 in
    let some : 0 < length c.args.arguments.items = grind (arith, nat_tests) in
    let first = c.replace-first.ensures.value ∙ c.index_mut.ensures.value in
    let hanging = with_item c.args.others (c.len-last.result - 1) c.replace.new.dest in
    rw c.replace-2.ensures.after
    (light_size-hung (c.len-last.result - 1) (vec_len c.args.others - 1) c.args.name c.args.arguments hanging c.args.others.items c.replace-first.new.dest c.replace.new.dest c.index_mut.result.now
    (omega arith) (omega arith) (omega arith) some (c.replace.ensures.after ∙ first) refl)
