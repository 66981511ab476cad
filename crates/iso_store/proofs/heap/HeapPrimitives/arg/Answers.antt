use Rattle.std.proofs.Common.{take, sym, ap, ◌∙◌, arith}
use Rattle.iso_store_core.specs.Arguments.{arity, argument}
use Rattle.iso_store.specs.declared.heap_cells.HeapWord.TheVariants.{Structure}
use Rattle.iso_store.specs.HeapNumbers.{word_before}
use Rattle.iso_store.proofs.HeapReads.{end_arity, compound_arity}
use Rattle.iso_store.proofs.HeldWords.{argument-held, argument-unbound}
use Rattle.iso_store.proofs.heap.HeapPrimitives.arg.Goals as goal

pub unreachable-requires : goal.unreachable-requires
unreachable-requires c =
    let now = c.args.self.now in
    let none = ap arity (sym c.walked.ensures.same) ∙ end_arity (take now.named now.atoms) now.area.low now.next now.is_heap c.walked.result c.walked.ensures.holds c.walked.ensures.end c.in_default.not-Structure in
    let below = c.requires.index in
    omega arith

pub functor-count-requires-clause-index : goal.functor-count-requires-clause-index
functor-count-requires-clause-index c = word_before (take c.args.self.now.named c.args.self.now.atoms) c.args.self.now.area.low (Structure c.in-Structure.place) c.in-Structure.ensures.holds

pub overflow_sub-place : goal.overflow_sub-place
overflow_sub-place c =
    let now = c.args.self.now in
    let size = ap arity (sym c.in-Structure.ensures.same) ∙ compound_arity (take now.named now.atoms) now.area.low now.next now.is_heap c.in-Structure.place c.functor-count.result.0 c.functor-count.result.1 c.functor-count.ensures in
    let below = c.requires.index in
    omega arith

pub held-requires : goal.held-requires
held-requires c =
    let within = word_before (take c.args.self.now.named c.args.self.now.atoms) c.args.self.now.area.low (Structure c.in-Structure.place) c.in-Structure.ensures.holds in
    omega arith

pub returns-in-Some-clause-holds : goal.returns-in-Some-clause-holds
returns-in-Some-clause-holds c =
    let now = c.args.self.now in
    let names = take now.named now.atoms in
    let size = ap arity (sym c.in-Structure.ensures.same) ∙ compound_arity names now.area.low now.next now.is_heap c.in-Structure.place c.functor-count.result.0 c.functor-count.result.1 c.functor-count.ensures in
    let below = c.requires.index in
    (argument-held names now.area.low now.next now.is_heap c.in-Structure.place c.functor-count.result.0 c.functor-count.result.1 c.args.index c.in-Some.word c.functor-count.ensures (omega arith) (sym c.in-Some.ensures)).0

pub returns-in-Some-clause-value : goal.returns-in-Some-clause-value
returns-in-Some-clause-value c =
    let now = c.args.self.now in
    let names = take now.named now.atoms in
    let size = ap arity (sym c.in-Structure.ensures.same) ∙ compound_arity names now.area.low now.next now.is_heap c.in-Structure.place c.functor-count.result.0 c.functor-count.result.1 c.functor-count.ensures in
    let below = c.requires.index in
    (argument-held names now.area.low now.next now.is_heap c.in-Structure.place c.functor-count.result.0 c.functor-count.result.1 c.args.index c.in-Some.word c.functor-count.ensures (omega arith) (sym c.in-Some.ensures)).1 ∙ ap (argument c.args.index) c.in-Structure.ensures.same

pub returns-in-None-clause-holds : goal.returns-in-None-clause-holds
returns-in-None-clause-holds c =
    let now = c.args.self.now in
    let names = take now.named now.atoms in
    let size = ap arity (sym c.in-Structure.ensures.same) ∙ compound_arity names now.area.low now.next now.is_heap c.in-Structure.place c.functor-count.result.0 c.functor-count.result.1 c.functor-count.ensures in
    let below = c.requires.index in
    (argument-unbound names now.area.low now.next now.is_heap c.in-Structure.place c.functor-count.result.0 c.functor-count.result.1 c.args.index c.functor-count.ensures (omega arith) (sym c.in-None.ensures)).0

pub returns-in-None-clause-value : goal.returns-in-None-clause-value
returns-in-None-clause-value c =
    let now = c.args.self.now in
    let names = take now.named now.atoms in
    let size = ap arity (sym c.in-Structure.ensures.same) ∙ compound_arity names now.area.low now.next now.is_heap c.in-Structure.place c.functor-count.result.0 c.functor-count.result.1 c.functor-count.ensures in
    let below = c.requires.index in
    (argument-unbound names now.area.low now.next now.is_heap c.in-Structure.place c.functor-count.result.0 c.functor-count.result.1 c.args.index c.functor-count.ensures (omega arith) (sym c.in-None.ensures)).1 ∙ ap (argument c.args.index) c.in-Structure.ensures.same
