use Rattle.std.proofs.Common.{◌≡◌, ◌&&◌, ◌∙◌, sym, true, arith}
use Rattle.iso_model.specs.Terms.Arguments.{argument}
use Rattle.iso_model.specs.Terms.Types.{is_atom}
use Rattle.iso_store_core.proofs.ArgumentLemmas.{argument-is}
use Rattle.iso_text.proofs.ConcatLemmas.{joined_parted}
use Rattle.iso_text.proofs.concat.joined_parts.Goals as goal

pub returns-then-are_atoms-clause-parted : goal.returns-then-are_atoms-clause-parted
returns-then-are_atoms-clause-parted g c = λ t are.
    let p = g.S.Store.present c.args.store.now in
    let first = argument-is p c.args.arguments.now t 0 c.index-arguments-0.result are (omega arith) c.index-arguments-0.is in
    let second = argument-is p c.args.arguments.now t 1 c.index-arguments-1.result are (omega arith) c.index-arguments-1.is in
    let atoms : (is_atom (argument 0 t) && is_atom (argument 1 t)) ≡ true =
    (λ i. is_atom (sym first i) && is_atom (sym second i)) ∙ sym c.are_atoms.ensures ∙ c.if-are_atoms.true in
    joined_parted t c.in_ok-joined_once.field-0 (sym are.count ∙ c.requires.count) atoms c.in_ok-joined_once.ensures
