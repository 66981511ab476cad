use Rattle.std.proofs.Common.{◌≡◌, ◌||◌, Vec, Global, map, false, sym, ap, ◌∙◌, arith}
use Rattle.std.specs.List.{list_any}
use Rattle.iso_atoms.specs.Texts.{text_at}
use Rattle.iso_atoms.specs.declared.Atom.{Atom}
use Rattle.iso_model.specs.Terms.Types.{is_variable}
use Rattle.iso_model.specs.Terms.Arguments.{argument}
use Rattle.iso_model.specs.Search.Settings.{op_settled, op_set, set_names, with_texts, has_unbound}
use Rattle.iso_model.specs.declared.kinds.Setting.TheVariants.{Op}
use Rattle.iso_store_core.specs.Presents.{meaning}
use Rattle.iso_store_core.proofs.ArgumentLemmas.{argument-is}
use Rattle.iso_lib.specs.Settlements.{IsSettled, with_settings}
use Rattle.iso_lib_core.proofs.CheckLemmas.{handed_on}
use Rattle.iso_lib.proofs.SettlementLemmas.{refused_settled, unset_settled, op_after}
use Rattle.iso_lib.proofs.operators.op.Goals as goal

pub returns-in_err-names-clause-settled : goal.returns-in_err-names-clause-settled
returns-in_err-names-clause-settled g c = λ t are w.
    let p = g.S.Store.present c.args.store.now in
    let text = text_at (g.S.Store.names c.args.store.now) in
    let priority = argument-is p c.args.arguments.now t 0 c.index-arguments-0.result are (omega arith) c.index-arguments-0.is in
    let specifier = argument-is p c.args.arguments.now t 1 c.index-arguments-1.result are (omega arith) c.index-arguments-1.is in
    let names = argument-is p c.args.arguments.now t 2 c.index-arguments-2.result are (omega arith) c.index-arguments-2.is in
    let world = with_settings w c.args.ops.now w.flags in
    let n = c.in_ok-priority.priority in
    let s = text c.in_ok-specifier.specifier in
    let words = map (meaning p) c.in_ok-words.words.items in
    let unbound = ap (map (meaning p)) c.as_slice.ensures.value ∙ c.in_ok-parts.ensures.elements in
    let bound : (is_variable (meaning p c.index-arguments-0.result) || (is_variable (meaning p c.index-arguments-1.result) || has_unbound (meaning p c.index-arguments-2.result))) ≡ false =
    (λ i. is_variable (meaning p c.index-arguments-0.result) || (is_variable (meaning p c.index-arguments-1.result) || (list_any is_variable (sym unbound i) || is_variable (sym c.in_ok-parts.ensures.tail i))))
    ∙ sym c.are_unbound.ensures ∙ c.if-are_unbound.false in
    let same = (λ i. op_settled (sym priority i) (sym specifier i) (sym names i) world)
    ∙ op_after (meaning p c.index-arguments-0.result) (meaning p c.index-arguments-1.result) (meaning p c.index-arguments-2.result) world n s words bound c.in_ok-priority.ensures.passes c.in_ok-specifier.ensures.passes c.in_ok-words.ensures.passes
    ∙ ap (λ ts. with_texts ts (λ texts. op_set world (set_names n s texts c.args.ops.now))) (sym (ap (map (meaning p)) c.as_slice-2.ensures.value)) in
    let e = c.in_err-names.field-0.0 in
    let settled = op_settled (argument 0 t) (argument 1 t) (argument 2 t) world in
    handed_on (IsSettled w c.args.ops.now w.flags Op t settled) c.from_residual-in_err-names.result e c.from_residual-in_err-names.ensures.1
    (refused_settled (Vec Atom Global) w c.args.ops.now w.flags Op t settled (with_texts (map (meaning p) c.as_slice-2.result.now)) (λ names goes_on. goes_on (map text names.items))
    (λ texts. op_set world (set_names n s texts c.args.ops.now)) e same c.in_err-names.ensures.passes)

pub returns-in_err-set_names-clause-settled : goal.returns-in_err-set_names-clause-settled
returns-in_err-set_names-clause-settled g c = λ t are w.
    let p = g.S.Store.present c.args.store.now in
    let text = text_at (g.S.Store.names c.args.store.now) in
    let priority = argument-is p c.args.arguments.now t 0 c.index-arguments-0.result are (omega arith) c.index-arguments-0.is in
    let specifier = argument-is p c.args.arguments.now t 1 c.index-arguments-1.result are (omega arith) c.index-arguments-1.is in
    let names = argument-is p c.args.arguments.now t 2 c.index-arguments-2.result are (omega arith) c.index-arguments-2.is in
    let world = with_settings w c.args.ops.now w.flags in
    let n = c.in_ok-priority.priority in
    let s = text c.in_ok-specifier.specifier in
    let words = map (meaning p) c.in_ok-words.words.items in
    let unbound = ap (map (meaning p)) c.as_slice.ensures.value ∙ c.in_ok-parts.ensures.elements in
    let bound : (is_variable (meaning p c.index-arguments-0.result) || (is_variable (meaning p c.index-arguments-1.result) || has_unbound (meaning p c.index-arguments-2.result))) ≡ false =
    (λ i. is_variable (meaning p c.index-arguments-0.result) || (is_variable (meaning p c.index-arguments-1.result) || (list_any is_variable (sym unbound i) || is_variable (sym c.in_ok-parts.ensures.tail i))))
    ∙ sym c.are_unbound.ensures ∙ c.if-are_unbound.false in
    let same = (λ i. op_settled (sym priority i) (sym specifier i) (sym names i) world)
    ∙ op_after (meaning p c.index-arguments-0.result) (meaning p c.index-arguments-1.result) (meaning p c.index-arguments-2.result) world n s words bound c.in_ok-priority.ensures.passes c.in_ok-specifier.ensures.passes c.in_ok-words.ensures.passes
    ∙ ap (λ ts. with_texts ts (λ texts. op_set world (set_names n s texts c.args.ops.now))) (sym (ap (map (meaning p)) c.as_slice-2.ensures.value))
    ∙ c.in_ok-names.ensures.passes (λ texts. op_set world (set_names n s texts c.args.ops.now))
    ∙ ap (λ names. op_set world (set_names n s (map text names) c.args.ops.now)) (sym c.as_slice-3.ensures.value) in
    let e = c.in_err-set_names.field-0.0 in
    let settled = op_settled (argument 0 t) (argument 1 t) (argument 2 t) world in
    handed_on (IsSettled w c.set_names.new.ops w.flags Op t settled) c.from_residual-in_err-set_names.result e c.from_residual-in_err-set_names.ensures.1
    (unset_settled w world c.set_names.new.ops c.set_names.new.ops w.flags Op t settled (set_names n s (map text c.as_slice-3.result.now) c.args.ops.now) e same c.in_err-set_names.ensures.set)
