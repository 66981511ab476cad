use Rattle.std.proofs.Common.{◌+◌, pos, map, drop, ap, ap₂, ◌∙◌, arith}
use Rattle.iso_atoms.specs.Texts.{text_at}
use Rattle.iso_ops.specs.Operators.{asked_op}
use Rattle.iso_model.specs.Search.Settings.{set_names, set_next}
use Rattle.iso_store_core.proofs.AtomLemmas.{text-is}
use Rattle.iso_lib.specs.Settlements.{AreSet}
use Rattle.iso_lib_core.proofs.CheckLemmas.{handed_on, map_left}
use Rattle.iso_lib.proofs.SettlementLemmas.{set_raised}
use Rattle.iso_lib.proofs.operators.set_names.Goals as goal

pub returns-in_err-set_name-clause-set : goal.returns-in_err-set_name-clause-set
returns-in_err-set_name-clause-set g c =
    let texts = g.S.Store.names c.args.store.now in
    let names = map (text_at texts) c.args.names.now in
    let p = c.args.priority in
    let s = text_at texts c.args.specifier in
    let k = c.loop-place.place in
    let copy = c.loop-place.copy in
    let a = c.index-names-place.result in
    let others = set_names p s (drop (k + 1) names) in
    let next = ap (λ xs. set_names p s xs copy) (map_left (text_at texts) c.args.names.now k a c.loop-place-test.true c.index-names-place.is) in
    let named = text-is texts a c.text-name.result.now c.text-name.ensures in
    let specified = text-is texts c.args.specifier c.text-specifier.result.now c.text-specifier.ensures in
    let same = c.loop-place.invariant.set ∙ next ∙ ap₂ (λ n v. set_next others n copy (asked_op (pos p) v n copy)) named specified in
    let e = c.in_err-set_name.field-0.0 in
    handed_on (AreSet (set_names p s names c.args.ops.now) c.args.ops.now) c.from_residual-in_err-set_name.result e c.from_residual-in_err-set_name.ensures.1
    (set_raised (λ goes_on. set_next goes_on c.text-name.result.now copy (asked_op (pos p) c.text-specifier.result.now c.text-name.result.now copy)) (set_names p s names c.args.ops.now) others c.set_name.new.ops c.args.ops.now e same c.in_err-set_name.ensures)

pub loop-place-preserved : goal.loop-place-preserved
loop-place-preserved g c =
    let texts = g.S.Store.names c.args.store.now in
    let names = map (text_at texts) c.args.names.now in
    let p = c.args.priority in
    let s = text_at texts c.args.specifier in
    let k = c.loop-place.place in
    let test = c.loop-place-test.true in
    let copy = c.loop-place.copy in
    let a = c.index-names-place.result in
    let others = set_names p s (drop (k + 1) names) in
    let next = ap (λ xs. set_names p s xs copy) (map_left (text_at texts) c.args.names.now k a test c.index-names-place.is) in
    let named = text-is texts a c.text-name.result.now c.text-name.ensures in
    let specified = text-is texts c.args.specifier c.text-specifier.result.now c.text-specifier.ensures in
    record {
      within = omega (arith, test);
      set = c.loop-place.invariant.set ∙ next ∙ ap₂ (λ n v. set_next others n copy (asked_op (pos p) v n copy)) named specified ∙ c.in_ok-set_name.ensures others;
    }
