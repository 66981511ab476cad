use Rattle.std.proofs.Common.{◌+◌, take, drop, map, true, false, refl, sym, subst, ◌∙◌, arith}
use Rattle.iso_model.specs.Terms.Trees.{row}
use Rattle.iso_model.specs.Terms.Unifiers.{NeverEqual}
use Rattle.iso_model.specs.Search.Walker.{repeated}
use Rattle.iso_store_core.specs.Presents.{Holds, meaning, IsUnification}
use Rattle.iso_store_core.proofs.RetainLemmas.{takes_on, takes_most, takes_none, takes_same}
use Rattle.iso_lib_core.proofs.TogetherLemmas.{together_none, together_next, together_never, taken_so, whole_at}
use Rattle.iso_lib_core.proofs.collecting.unify_all.Goals as goal

pub loop-other-init : goal.loop-other-init
loop-other-init g c =
    let p = g.S.Store.present c.args.store.now in
    record { unified = together_none p (meaning p c.args.word); cells = takes_same 0 refl; names = refl; marks = λ m q h. h }

pub loop-other-preserved : goal.loop-other-preserved
loop-other-preserved g c =
    let p = g.S.Store.present c.args.store.now in
    let m = g.S.Store.present c.loop-other.store in
    let q = g.S.Store.present c.unify.new.self in
    let i = c.loop-other.invariant in
    let k = c.loop-other.other-index in
    let ts = map (meaning p) c.args.others.now in
    let v = c.other-item.result in
    let w = c.args.word in
    let test = c.loop-other-test.true in
    let holds : Holds p v = subst (λ x. Holds p x) (sym c.other-item.is) (c.requires.others k v test) in
    let one : IsUnification m q (meaning m w) (meaning m v) true = rw c.if-not-branch.false at c.in_ok-unify.ensures.unified in
    record {
      unified = subst (λ us. IsUnification p q (repeated (meaning p w) us) (row us) true) (taken_so (meaning p) c.args.others.now k v test c.other-item.is)
          (together_next p m q w v (take k ts) c.requires.word holds i.unified one);
      cells = takes_most 0 (omega arith) (takes_on i.cells (takes_none 0 c.unify.ensures.cells));
      names = c.unify.ensures.names ∙ i.names;
      marks = λ m q h. c.unify.ensures.marks m q (i.marks m q h);
    }

pub returns-then-not-branch-clause-unified : goal.returns-then-not-branch-clause-unified
returns-then-not-branch-clause-unified g c =
    let p = g.S.Store.present c.args.store.now in
    let m = g.S.Store.present c.loop-other.store in
    let q = g.S.Store.present c.unify.new.self in
    let k = c.loop-other.other-index in
    let ts = map (meaning p) c.args.others.now in
    let v = c.other-item.result in
    let w = c.args.word in
    let test = c.loop-other-test.true in
    let holds : Holds p v = subst (λ x. Holds p x) (sym c.other-item.is) (c.requires.others k v test) in
    let never : IsUnification m q (meaning m w) (meaning m v) false = rw c.if-not-branch.true at c.in_ok-unify.ensures.unified in
    subst (λ us. NeverEqual (repeated (meaning p w) us) (row us)) (whole_at (meaning p) c.args.others.now k v test c.other-item.is)
    (together_never p m q w v (take k ts) (drop (k + 1) ts) c.requires.word holds c.loop-other.invariant.unified never)
