use Rattle.std.proofs.Common.{subst, sym, arith}
use Rattle.std.specs.List.{All}
use Rattle.iso_model.specs.Terms.TermOf.{term_of}
use Rattle.iso_lib_core.specs.Collecting.{HasArgument}
use Rattle.iso_lib_core.proofs.PairedLemmas.{copied_have}
use Rattle.iso_lib_core.proofs.collecting.copy_solutions.Goals as goal

pub arguments_at-requires : goal.arguments_at-requires
arguments_at-requires g c =
    let p = g.S.Store.present c.args.store.now in
    let q = g.S.Store.present c.copied_few.new.store in
    let made = c.in_ok-list.ensures.made in
    let words = c.in_ok-pairs.field-0.elements.items in
    record {
      words = subst (λ ws. All (λ w. HasArgument q 0 w) ws) (sym c.as_slice.ensures.value)
          (copied_have p q c.args.group c.in_ok-list.list (term_of c.in_ok-solutions.solutions) 0 words (omega arith) c.in_ok-solutions.ensures made.substitution made.term c.in_ok-pairs.ensures.hold
          c.in_ok-pairs.ensures.elements);
    }

pub arguments_at-requires-2 : goal.arguments_at-requires-2
arguments_at-requires-2 g c =
    let p = g.S.Store.present c.args.store.now in
    let q = g.S.Store.present c.copied_few.new.store in
    let made = c.in_ok-list.ensures.made in
    let words = c.in_ok-pairs.field-0.elements.items in
    record {
      words = subst (λ ws. All (λ w. HasArgument q 1 w) ws) (sym c.as_slice-2.ensures.value)
          (copied_have p q c.args.group c.in_ok-list.list (term_of c.in_ok-solutions.solutions) 1 words (omega arith) c.in_ok-solutions.ensures made.substitution made.term c.in_ok-pairs.ensures.hold
          c.in_ok-pairs.ensures.elements);
    }
