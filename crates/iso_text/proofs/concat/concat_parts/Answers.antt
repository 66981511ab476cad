use Rattle.std.proofs.Common.{◌∙◌, sym, subst, arith}
use Rattle.iso_model.specs.Search.Settlements.{Settled}
use Rattle.iso_model.specs.declared.kinds.AtomPart.TheVariants.{Concat}
use Rattle.iso_model.specs.Terms.Arguments.{argument}
use Rattle.iso_model.specs.Search.AtomParts.{concat_settled, concat_key, with_atom, joined}
use Rattle.iso_store_core.specs.Presents.{meaning}
use Rattle.iso_store_core.proofs.ArgumentLemmas.{argument-is}
use Rattle.iso_lib_core.proofs.CheckLemmas.{handed_on}
use Rattle.iso_text.specs.Parts.{IsParted}
use Rattle.iso_text.proofs.ConcatLemmas.{concat_same, check_refused, after_first}
use Rattle.iso_text.proofs.concat.concat_parts.Goals as goal

pub returns-in_err-see_atom-2-clause-parted : goal.returns-in_err-see_atom-2-clause-parted
returns-in_err-see_atom-2-clause-parted g c = λ t are.
    let p = g.S.Store.present c.args.store.now in
    let first = argument-is p c.args.arguments.now t 0 c.index-arguments-0.result are (omega arith) c.index-arguments-0.is in
    let second = argument-is p c.args.arguments.now t 1 c.index-arguments-1.result are (omega arith) c.index-arguments-1.is in
    let whole = argument-is p c.args.arguments.now t 2 c.index-arguments-2.result are (omega arith) c.index-arguments-2.is in
    let a = meaning p c.index-arguments-0.result in
    let b = meaning p c.index-arguments-1.result in
    let w = meaning p c.index-arguments-2.result in
    let left = after_first t a b w first second whole (sym c.are_too_few.ensures ∙ c.if-are_too_few.false) c.in_ok-see_atom.ensures in
    let e = c.in_err-see_atom-2.field-0.0 in
    handed_on (IsParted Concat t (concat_settled (argument 0 t) (argument 1 t) (argument 2 t))) c.from_residual-in_err-see_atom-2.result e c.from_residual-in_err-see_atom-2.ensures.1
    (check_refused t _ b (with_atom w concat_key (joined a b w)) e left c.in_err-see_atom-2.ensures)

pub returns-in_err-see_atom-3-clause-parted : goal.returns-in_err-see_atom-3-clause-parted
returns-in_err-see_atom-3-clause-parted g c = λ t are.
    let p = g.S.Store.present c.args.store.now in
    let first = argument-is p c.args.arguments.now t 0 c.index-arguments-0.result are (omega arith) c.index-arguments-0.is in
    let second = argument-is p c.args.arguments.now t 1 c.index-arguments-1.result are (omega arith) c.index-arguments-1.is in
    let whole = argument-is p c.args.arguments.now t 2 c.index-arguments-2.result are (omega arith) c.index-arguments-2.is in
    let a = meaning p c.index-arguments-0.result in
    let b = meaning p c.index-arguments-1.result in
    let w = meaning p c.index-arguments-2.result in
    let left = after_first t a b w first second whole (sym c.are_too_few.ensures ∙ c.if-are_too_few.false) c.in_ok-see_atom.ensures in
    let e = c.in_err-see_atom-3.field-0.0 in
    handed_on (IsParted Concat t (concat_settled (argument 0 t) (argument 1 t) (argument 2 t))) c.from_residual-in_err-see_atom-3.result e c.from_residual-in_err-see_atom-3.ensures.1
    (check_refused t _ w (joined a b w) e (left ∙ c.in_ok-see_atom-2.ensures (with_atom w concat_key (joined a b w))) c.in_err-see_atom-3.ensures)

pub returns-clause-parted : goal.returns-clause-parted
returns-clause-parted g c = λ t are.
    let p = g.S.Store.present c.args.store.now in
    let first = argument-is p c.args.arguments.now t 0 c.index-arguments-0.result are (omega arith) c.index-arguments-0.is in
    let second = argument-is p c.args.arguments.now t 1 c.index-arguments-1.result are (omega arith) c.index-arguments-1.is in
    let whole = argument-is p c.args.arguments.now t 2 c.index-arguments-2.result are (omega arith) c.index-arguments-2.is in
    let same = concat_same t (meaning p c.index-arguments-0.result) (meaning p c.index-arguments-1.result) (meaning p c.index-arguments-2.result) first second whole
    (sym c.are_too_few.ensures ∙ c.if-are_too_few.false) c.in_ok-see_atom.ensures c.in_ok-see_atom-2.ensures c.in_ok-see_atom-3.ensures in
    subst (λ (s : Settled). IsParted Concat t s c.joined_parts.result) (sym same) (c.joined_parts.ensures.parted t are)
