use Rattle.iso_model.specs.Terms.Trees.{Tree}
use Rattle.std.proofs.Common.{◌≡◌, ◌+◌, List, sym, subst, arith}
use Rattle.iso_model.specs.Terms.Lists.{list_of}
use Rattle.iso_store_core.specs.Presents.{Present}
use Rattle.iso_store_core.specs.Retaining.{Takes}
use Rattle.iso_store_core.proofs.RetainLemmas.{takes_on, takes_most}
use Rattle.iso_model.specs.Terms.Sizes.{size}
use Rattle.iso_lib_core.specs.Collecting.{CopiesSolutions}
use Rattle.iso_lib_core.specs.Groupings.{solutions_of}
use Rattle.iso_lib_core.proofs.MeetLemmas.{met_then, unifier_there, never_there, made_there}
use Rattle.iso_lib_core.proofs.collecting.meet_group.Goals as goal

-- the copies, as the slices have them
copied_slices : {W : Type 0} (p m : Present W) (l : Tree) (ws is us vs : List W) → us ≡ ws → vs ≡ is → CopiesSolutions p m l ws is → CopiesSolutions p m l us vs
copied_slices p m l ws is us vs first second h = subst (λ xs. CopiesSolutions p m l us xs) (sym second) (subst (λ xs. CopiesSolutions p m l xs is) (sym first) h)

pub returns-clause-met : goal.returns-clause-met
returns-clause-met g c =
    let p = g.S.Store.present c.args.store.now in
    let m = g.S.Store.present c.copy_solutions.new.store in
    let q = g.S.Store.present c.meet_copied.new.store in
    let l = list_of (solutions_of c.args.group) in
    let us = c.as_slice-witnesses.result.now in
    let vs = c.as_slice-items.result.now in
    let copied = copied_slices p m l _ _ us vs c.as_slice-witnesses.ensures.value c.as_slice-items.ensures.value c.in_ok-copied.ensures.copied in
    met_then p m q c.args.by.witness c.args.by.result c.args.by.sorts c.args.group us vs copied c.requires.witness c.requires.result c.meet_copied.result c.meet_copied.ensures.collected

pub returns-clause-cells : goal.returns-clause-cells
returns-clause-cells g c = λ u h.
    let p = g.S.Store.present c.args.store.now in
    let m = g.S.Store.present c.copy_solutions.new.store in
    let q = g.S.Store.present c.meet_copied.new.store in
    let l = list_of (solutions_of c.args.group) in
    let us = c.as_slice-witnesses.result.now in
    let vs = c.as_slice-items.result.now in
    let copied = copied_slices p m l _ _ us vs c.as_slice-witnesses.ensures.value c.as_slice-items.ensures.value c.in_ok-copied.ensures.copied in
    let there = unifier_there p m q c.args.by.witness c.args.by.result c.args.by.sorts c.args.group us vs copied c.requires.witness c.requires.result u h in
    let made = made_there p m q c.args.by.witness c.args.by.result c.args.by.sorts c.args.group us vs copied c.requires.witness c.requires.result u in
    subst (λ n. Takes g.S.Store c.args.store.now c.meet_copied.new.store (size l + n)) made (takes_on c.copy_solutions.ensures.cells (c.meet_copied.ensures.cells u there))

pub returns-clause-unmet : goal.returns-clause-unmet
returns-clause-unmet g c = λ h.
    let p = g.S.Store.present c.args.store.now in
    let m = g.S.Store.present c.copy_solutions.new.store in
    let q = g.S.Store.present c.meet_copied.new.store in
    let l = list_of (solutions_of c.args.group) in
    let us = c.as_slice-witnesses.result.now in
    let vs = c.as_slice-items.result.now in
    let copied = copied_slices p m l _ _ us vs c.as_slice-witnesses.ensures.value c.as_slice-items.ensures.value c.in_ok-copied.ensures.copied in
    let never = never_there p m q c.args.by.witness c.args.by.result c.args.by.sorts c.args.group us vs copied c.requires.witness c.requires.result h in
    takes_most _ (omega arith) (takes_on c.copy_solutions.ensures.cells (c.meet_copied.ensures.unmet never))
