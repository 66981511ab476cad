use Rattle.std.proofs.Common.{ap, ◌∙◌, codes}
use Rattle.iso_model.specs.Terms.TermOf.{term_of}
use Rattle.iso_model.specs.Search.Bodies.{two}
use Rattle.iso_lib_core.proofs.PairedLemmas.{last_taken, both_left}
use Rattle.iso_lib_core.proofs.groups.Group.into_list.Goals as goal

pub loop-witness-preserved : goal.loop-witness-preserved
loop-witness-preserved c =
    let ws = c.loop-witness.witnesses.items in
    let vs = c.pop.new.self.items in
    let ts = c.loop-witness.items.items in
    let us = c.pop-in-Some.new.self.items in
    let i = c.loop-witness.invariant in
    let left = both_left ws vs ts us c.in-Some.witness c.in-Some-pop.item c.in-Some.ensures.items c.in-Some-pop.ensures.items i.whole in
    record {
      whole = left;
      list = last_taken ws vs ts us c.in-Some.witness c.in-Some-pop.item (term_of c.loop-witness.list) (term_of c.in_ok-list.list) c.in-Some.ensures.items c.in-Some-pop.ensures.items left
          (c.in_ok-list.ensures ∙ ap (λ x. two (codes ".") x (term_of c.loop-witness.list)) c.in_ok-pair.ensures) ∙ i.list;
    }
