use Rattle.std.proofs.Common.{◌+◌, ◌||◌, map, drop, sym, ap, ◌∙◌}
use Rattle.std.specs.List.{list_any}
use Rattle.iso_model.specs.Terms.Types.{is_variable}
use Rattle.iso_store_core.specs.Presents.{meaning}
use Rattle.iso_lib_core.proofs.CheckLemmas.{keys_left}
use Rattle.iso_lib_core.proofs.unbound.has_unbound.Goals as goal

pub returns-then-is_unbound-clause-unbound : goal.returns-then-is_unbound-clause-unbound
returns-then-is_unbound-clause-unbound g c =
    let p = g.S.Store.present c.args.store.now in
    let words = c.args.words.now in
    let k = c.loop-word.word-index in
    let others = list_any is_variable (drop (k + 1) (map (meaning p) words)) in
    sym (c.loop-word.invariant.none ∙ ap (list_any is_variable) (keys_left p words k c.word-item.result c.loop-word-test.true c.word-item.is)
    ∙ ap (λ b. b || others) (sym c.is_unbound.ensures.unbound ∙ c.if-is_unbound.true))

pub loop-word-preserved : goal.loop-word-preserved
loop-word-preserved g c =
    let p = g.S.Store.present c.args.store.now in
    let words = c.args.words.now in
    let k = c.loop-word.word-index in
    let others = list_any is_variable (drop (k + 1) (map (meaning p) words)) in
    record {
      none = c.loop-word.invariant.none ∙ ap (list_any is_variable) (keys_left p words k c.word-item.result c.loop-word-test.true c.word-item.is)
          ∙ ap (λ b. b || others) (sym c.is_unbound.ensures.unbound ∙ c.if-is_unbound.false);
      each_once = λ some. c.is_unbound.ensures.each_once;
    }
