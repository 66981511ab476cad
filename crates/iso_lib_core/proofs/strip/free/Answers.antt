use Rattle.std.proofs.Common.{◌≡◌, ◌++◌, [], map, drop, sym, ap, ◌∙◌, arith}
use Rattle.std.proofs.lemmas.List.{append-nil, drop_all, length-map}
use Rattle.std.specs.List.{filter}
use Rattle.iso_store_core.specs.Presents.{meaning}
use Rattle.iso_lib_core.specs.Stripping.{is_free}
use Rattle.iso_model.specs.Terms.Variables.{variables}
use Rattle.iso_lib_core.proofs.CheckLemmas.{keys_left}
use Rattle.iso_lib_core.proofs.StripLemmas.{filtered_more, free_variables_of}
use Rattle.iso_lib_core.proofs.strip.free.Goals as goal

pub loop-variable-preserved : goal.loop-variable-preserved
loop-variable-preserved g c =
    let p = g.S.Store.present c.args.store.now in
    let words = c.as_slice-variable-items.result.now in
    let k = c.loop-variable.variable-index in
    record {
      hold = c.in_ok-push_free.ensures.hold;
      free = filtered_more (is_free c.args.bound.now) (map (meaning p) c.loop-variable.free.items) (map (meaning p) c.push_free.new.free.items) (map (meaning p) words) k (meaning p c.variable-item.result)
          c.in_ok-push_free.ensures.free (keys_left p words k c.variable-item.result c.loop-variable-test.true c.variable-item.is) c.loop-variable.invariant.free;
    }

pub returns-clause-free : goal.returns-clause-free
returns-clause-free g c =
    let p = g.S.Store.present c.args.store.now in
    let words = c.as_slice-variable-items.result.now in
    let k = c.loop-variable.variable-index in
    let over = c.loop-variable-test.false in
    let long = length-map words (meaning p) in
    let free = map (meaning p) c.loop-variable.free.items in
    let bound = c.args.bound.now in
    let none : drop k (map (meaning p) words) ≡ [] = drop_all k (map (meaning p) words) (omega (arith, over, long)) in
    sym (append-nil free) ∙ ap (λ ts. free ++ filter (is_free bound) ts) (sym none) ∙ c.loop-variable.invariant.free
    ∙ ap (filter (is_free bound)) (ap (map (meaning p)) c.as_slice-variable-items.ensures.value ∙ c.in_ok-variables.ensures.variables)
    ∙ free_variables_of bound (variables (meaning p c.args.word))
