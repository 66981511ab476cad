use Rattle.std.proofs.Common.{◌-◌, length, take, drop, sym, subst}
use Rattle.std.specs.List.{All}
use Rattle.iso_model.specs.Search.Replies.{Answer}
use Rattle.iso_store_core.specs.Retaining.{Takes}
use Rattle.iso_lib_core.specs.Cells.{made_for}
use Rattle.iso_instructions.specs.Steps.{IsStepThere}
use Rattle.iso_environments.proofs.AnswerLemmas.{no_other, is_arithmetic, is_first, is_below, part_hold, is_now, compare_now, is_answered, is_said, compare_answered}
use Rattle.iso_environments.proofs.answering.answer.Goals as goal

pub evaluate-requires-clause-left : goal.evaluate-requires-clause-left
evaluate-requires-clause-left g c =
    let f = c.index-frames-rest.result in
    let code = c.in-Clause.code in
    let level = c.in-Clause.field-1 in
    let h = is_first g.S.Cells.atom_word c.requires.arithmetic.2 c.requires.arithmetic.3 f code level c.deref.result.now
    c.deref-2.result.now c.index.result.now c.index-frames-rest.is c.in-Clause.is c.deref.ensures c.deref-2.ensures
    c.index.ensures in
    let names = g.S.Store.names c.args.store.now in
    let named = g.met.S.Cells.named c.args.store.now in
    (is_now h names named c.in-Is.left c.in-Is.steps c.in-Is.is).inside

pub evaluate-requires-clause-steps : goal.evaluate-requires-clause-steps
evaluate-requires-clause-steps g c =
    let f = c.index-frames-rest.result in
    let code = c.in-Clause.code in
    let level = c.in-Clause.field-1 in
    let h = is_first g.S.Cells.atom_word c.requires.arithmetic.2 c.requires.arithmetic.3 f code level c.deref.result.now
    c.deref-2.result.now c.index.result.now c.index-frames-rest.is c.in-Clause.is c.deref.ensures c.deref-2.ensures
    c.index.ensures in
    let names = g.S.Store.names c.args.store.now in
    let named = g.met.S.Cells.named c.args.store.now in
    let base = f.top - c.deref.result.now.variables in
    let many = length (take (f.top - base) (drop base c.args.words.now)) in
    subst (All (IsStepThere (length names) many)) (sym c.as_slice.ensures.value)
    (is_now h names named c.in-Is.left c.in-Is.steps c.in-Is.is).ready.inside

pub evaluate-requires-clause-environment : goal.evaluate-requires-clause-environment
evaluate-requires-clause-environment g c =
    let f = c.index-frames-rest.result in
    let code = c.in-Clause.code in
    let level = c.in-Clause.field-1 in
    let h = is_first g.S.Cells.atom_word c.requires.arithmetic.2 c.requires.arithmetic.3 f code level c.deref.result.now
    c.deref-2.result.now c.index.result.now c.index-frames-rest.is c.in-Clause.is c.deref.ensures c.deref-2.ensures
    c.index.ensures in
    let names = g.S.Store.names c.args.store.now in
    let named = g.met.S.Cells.named c.args.store.now in
    part_hold h names named

pub compare-requires-clause-steps : goal.compare-requires-clause-steps
compare-requires-clause-steps g c =
    let f = c.index-frames-rest.result in
    let code = c.in-Clause.code in
    let level = c.in-Clause.field-1 in
    let h = is_first g.S.Cells.atom_word c.requires.arithmetic.2 c.requires.arithmetic.3 f code level c.deref.result.now
    c.deref-2.result.now c.index.result.now c.index-frames-rest.is c.in-Clause.is c.deref.ensures c.deref-2.ensures
    c.index.ensures in
    let names = g.S.Store.names c.args.store.now in
    let named = g.met.S.Cells.named c.args.store.now in
    let base = f.top - c.deref.result.now.variables in
    let many = length (take (f.top - base) (drop base c.args.words.now)) in
    subst (All (IsStepThere (length names) many)) (sym c.as_slice-in-Compare.ensures.value)
    (compare_now h names named c.in-Compare.comparison c.in-Compare.steps c.in-Compare.is).ready.inside

pub compare-requires-clause-environment : goal.compare-requires-clause-environment
compare-requires-clause-environment g c =
    let f = c.index-frames-rest.result in
    let code = c.in-Clause.code in
    let level = c.in-Clause.field-1 in
    let h = is_first g.S.Cells.atom_word c.requires.arithmetic.2 c.requires.arithmetic.3 f code level c.deref.result.now
    c.deref-2.result.now c.index.result.now c.index-frames-rest.is c.in-Clause.is c.deref.ensures c.deref-2.ensures
    c.index.ensures in
    let names = g.S.Store.names c.args.store.now in
    let named = g.met.S.Cells.named c.args.store.now in
    part_hold h names named

pub unreachable-requires-in_default-index : goal.unreachable-requires-in_default-index
unreachable-requires-in_default-index g c =
    let f = c.index-frames-rest.result in
    let code = c.in-Clause.code in
    let level = c.in-Clause.field-1 in
    no_other c.index.result.now
    (is_arithmetic g.S.Cells.atom_word c.requires.arithmetic.2 c.requires.arithmetic.3 f code level c.deref.result.now
    c.deref-2.result.now c.index.result.now c.index-frames-rest.is c.in-Clause.is c.deref.ensures c.deref-2.ensures
    c.index.ensures)
    c.in_default-index.not-Is c.in_default-index.not-Compare

pub returns-in-Is-clause-replies : goal.returns-in-Is-clause-replies
returns-in-Is-clause-replies g c nodes all list =
    let f = c.index-frames-rest.result in
    let code = c.in-Clause.code in
    let level = c.in-Clause.field-1 in
    let h = is_first g.S.Cells.atom_word list c.requires.arithmetic.3 f code level c.deref.result.now
    c.deref-2.result.now c.index.result.now c.index-frames-rest.is c.in-Clause.is c.deref.ensures c.deref-2.ensures
    c.index.ensures in
    let names = g.S.Store.names c.args.store.now in
    let named = g.met.S.Cells.named c.args.store.now in
    is_answered h names named c.in-Is.left c.in-Is.steps c.in-Is.is c.as_slice.result.now c.as_slice.ensures.value
    c.evaluate.result c.evaluate.ensures.replies

pub returns-in-Is-clause-places : goal.returns-in-Is-clause-places
returns-in-Is-clause-places g c nodes all list =
    let f = c.index-frames-rest.result in
    let code = c.in-Clause.code in
    let level = c.in-Clause.field-1 in
    is_below g.S.Cells.atom_word list c.requires.arithmetic.3 f code level c.deref.result.now
    c.deref-2.result.now c.index.result.now c.index-frames-rest.is c.in-Clause.is c.deref.ensures c.deref-2.ensures
    c.index.ensures

pub returns-in-Is-clause-cells : goal.returns-in-Is-clause-cells
returns-in-Is-clause-cells g c nodes all term mark behind x list first of_row =
    let f = c.index-frames-rest.result in
    let code = c.in-Clause.code in
    let level = c.in-Clause.field-1 in
    let h = is_first g.S.Cells.atom_word list c.requires.arithmetic.3 f code level c.deref.result.now
    c.deref-2.result.now c.index.result.now c.index-frames-rest.is c.in-Clause.is c.deref.ensures c.deref-2.ensures
    c.index.ensures in
    let names = g.S.Store.names c.args.store.now in
    let named = g.met.S.Cells.named c.args.store.now in
    let takes = λ (a : Answer). Takes g.S.Store c.args.store.now c.evaluate.new.store (made_for a) in
    is_said h names named c.in-Is.left c.in-Is.steps c.in-Is.is c.as_slice.result.now c.as_slice.ensures.value takes
    c.evaluate.ensures.cells term mark behind x first of_row

pub returns-in-Compare-clause-replies : goal.returns-in-Compare-clause-replies
returns-in-Compare-clause-replies g c nodes all list =
    let f = c.index-frames-rest.result in
    let code = c.in-Clause.code in
    let level = c.in-Clause.field-1 in
    let h = is_first g.S.Cells.atom_word list c.requires.arithmetic.3 f code level c.deref.result.now
    c.deref-2.result.now c.index.result.now c.index-frames-rest.is c.in-Clause.is c.deref.ensures c.deref-2.ensures
    c.index.ensures in
    let names = g.S.Store.names c.args.store.now in
    let named = g.met.S.Cells.named c.args.store.now in
    compare_answered h names named c.in-Compare.comparison c.in-Compare.steps c.in-Compare.is
    c.as_slice-in-Compare.result.now c.as_slice-in-Compare.ensures.value c.compare.result c.compare.ensures.replies

pub returns-in-Compare-clause-places : goal.returns-in-Compare-clause-places
returns-in-Compare-clause-places g c nodes all list =
    let f = c.index-frames-rest.result in
    let code = c.in-Clause.code in
    let level = c.in-Clause.field-1 in
    is_below g.S.Cells.atom_word list c.requires.arithmetic.3 f code level c.deref.result.now
    c.deref-2.result.now c.index.result.now c.index-frames-rest.is c.in-Clause.is c.deref.ensures c.deref-2.ensures
    c.index.ensures
