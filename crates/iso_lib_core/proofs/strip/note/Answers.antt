use Rattle.std.proofs.Common.{◌≡◌, ◌+◌, [], map, drop, sym, ap, ◌∙◌, arith}
use Rattle.std.proofs.lemmas.List.{drop_all, length-map}
use Rattle.iso_store_core.specs.Presents.{meaning}
use Rattle.iso_lib_core.proofs.CheckLemmas.{keys_left}
use Rattle.iso_lib_core.proofs.StripLemmas.{with_variables, variables_added, variables_more}
use Rattle.iso_lib_core.proofs.strip.note.Goals as goal

pub loop-variable-preserved : goal.loop-variable-preserved
loop-variable-preserved g c =
    let p = g.S.Store.present c.args.store.now in
    let words = c.as_slice-variable-items.result.now in
    let k = c.loop-variable.variable-index in
    let left = keys_left p words k c.variable-item.result c.loop-variable-test.true c.variable-item.is in
    let more = variables_more (map (meaning p) words) k (meaning p c.variable-item.result) c.loop-variable.bound left in
    record {
      added = ap (λ vs. with_variables vs (drop (k + 1) (map (meaning p) words))) c.in_ok-note_variable.ensures.numbers
          ∙ more ∙ c.loop-variable.invariant.added;
    }

pub returns : goal.returns
returns g c =
    let p = g.S.Store.present c.args.store.now in
    let words = c.as_slice-variable-items.result.now in
    let k = c.loop-variable.variable-index in
    let over = c.loop-variable-test.false in
    let long = length-map words (meaning p) in
    let none : drop k (map (meaning p) words) ≡ [] = drop_all k (map (meaning p) words) (omega (arith, over, long)) in
    let bound = c.args.bound.now in
    record {
      numbers =
          ap (with_variables c.loop-variable.bound) (sym none) ∙ c.loop-variable.invariant.added
          ∙ ap (with_variables bound) (ap (map (meaning p)) c.as_slice-variable-items.ensures.value ∙ c.in_ok-variables.ensures.variables)
          ∙ variables_added bound (meaning p c.args.word);
    }
