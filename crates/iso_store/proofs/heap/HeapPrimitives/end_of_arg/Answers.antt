use Rattle.std.proofs.Common.{◌-◌, slice_get, take, sym, ap, ◌∙◌, arith}
use Rattle.iso_store_core.specs.Arguments.{arity, argument}
use Rattle.iso_store_core.specs.Presents.{meaning}
use Rattle.iso_store.specs.declared.heap_cells.HeapWord.TheVariants.{Structure, Var}
use Rattle.iso_store.specs.HeapNumbers.{word_before}
use Rattle.iso_store.specs.HeapStores.{is_word}
use Rattle.iso_store.specs.HeapTerms.{made_term}
use Rattle.iso_store.proofs.HeapBuilt.{as_present}
use Rattle.iso_store.proofs.EndLemmas.{heap-end-made, unheld-end}
use Rattle.iso_store.proofs.HeldWords.{argument-held, argument-unbound}
use Rattle.iso_store.proofs.HeapInstructionLemmas.{made-arity, made-functor}
use Rattle.iso_store.proofs.heap.HeapPrimitives.end_of_arg.Goals as goal

pub unreachable-requires : goal.unreachable-requires
unreachable-requires c =
    let now = c.args.self.now in
    let none = made-arity (take now.named now.atoms) now.area.low now.next now.is_heap c.args.compound c.requires.word c.in_default.not-Structure in
    let size = c.requires.arity in
    let below = c.requires.index in
    omega arith

pub overflow_sub-at-2 : goal.overflow_sub-at-2
overflow_sub-at-2 c =
    let now = c.args.self.now in
    let names = take now.named now.atoms in
    let found = made-functor names now.area.low now.next now.is_heap c.in-Structure.place c.args.count (ap (is_word names now.area.low) (sym c.in-Structure.is) ∙ c.requires.word) (ap (λ w. arity (made_term names now.area.low w)) (sym c.in-Structure.is) ∙ c.requires.arity) in
    let room = (now.is_heap.functor c.in-Structure.place found.0 c.args.count found.1).room in
    omega arith

pub held-requires : goal.held-requires
held-requires c =
    let now = c.args.self.now in
    let names = take now.named now.atoms in
    let within = word_before names now.area.low (Structure c.in-Structure.place) (ap (is_word names now.area.low) (sym c.in-Structure.is) ∙ c.requires.word) in
    omega arith

pub walked-requires : goal.walked-requires
walked-requires c =
    let now = c.args.self.now in
    let names = take now.named now.atoms in
    let found = made-functor names now.area.low now.next now.is_heap c.in-Structure.place c.args.count (ap (is_word names now.area.low) (sym c.in-Structure.is) ∙ c.requires.word) (ap (λ w. arity (made_term names now.area.low w)) (sym c.in-Structure.is) ∙ c.requires.arity) in
    (argument-held names now.area.low now.next now.is_heap c.in-Structure.place found.0 c.args.count c.args.index c.in-Some.word found.1 c.requires.index (sym c.in-Some.ensures)).0

pub returns-in-Some-clause-value : goal.returns-in-Some-clause-value
returns-in-Some-clause-value c =
    let now = c.args.self.now in
    let names = take now.named now.atoms in
    let found = made-functor names now.area.low now.next now.is_heap c.in-Structure.place c.args.count (ap (is_word names now.area.low) (sym c.in-Structure.is) ∙ c.requires.word) (ap (λ w. arity (made_term names now.area.low w)) (sym c.in-Structure.is) ∙ c.requires.arity) in
    c.walked.ensures.same
    ∙ (argument-held names now.area.low now.next now.is_heap c.in-Structure.place found.0 c.args.count c.args.index c.in-Some.word found.1 c.requires.index (sym c.in-Some.ensures)).1
    ∙ ap (λ w. argument c.args.index (meaning (as_present now) w)) (sym c.in-Structure.is)

pub returns-in-Some-clause-made : goal.returns-in-Some-clause-made
returns-in-Some-clause-made c =
    let now = c.args.self.now in
    heap-end-made (take now.named now.atoms) now.area.low now.next now.is_heap c.walked.result c.walked.ensures.holds c.walked.ensures.end

pub returns-in-None-clause-holds : goal.returns-in-None-clause-holds
returns-in-None-clause-holds c =
    let now = c.args.self.now in
    let names = take now.named now.atoms in
    let found = made-functor names now.area.low now.next now.is_heap c.in-Structure.place c.args.count (ap (is_word names now.area.low) (sym c.in-Structure.is) ∙ c.requires.word) (ap (λ w. arity (made_term names now.area.low w)) (sym c.in-Structure.is) ∙ c.requires.arity) in
    (argument-unbound names now.area.low now.next now.is_heap c.in-Structure.place found.0 c.args.count c.args.index found.1 c.requires.index (sym c.in-None.ensures)).0

pub returns-in-None-clause-value : goal.returns-in-None-clause-value
returns-in-None-clause-value c =
    let now = c.args.self.now in
    let names = take now.named now.atoms in
    let found = made-functor names now.area.low now.next now.is_heap c.in-Structure.place c.args.count (ap (is_word names now.area.low) (sym c.in-Structure.is) ∙ c.requires.word) (ap (λ w. arity (made_term names now.area.low w)) (sym c.in-Structure.is) ∙ c.requires.arity) in
    (argument-unbound names now.area.low now.next now.is_heap c.in-Structure.place found.0 c.args.count c.args.index found.1 c.requires.index (sym c.in-None.ensures)).1 ∙ ap (λ w. argument c.args.index (meaning (as_present now) w)) (sym c.in-Structure.is)

pub returns-in-None-clause-made : goal.returns-in-None-clause-made
returns-in-None-clause-made c =
    let now = c.args.self.now in
    let names = take now.named now.atoms in
    let found = made-functor names now.area.low now.next now.is_heap c.in-Structure.place c.args.count (ap (is_word names now.area.low) (sym c.in-Structure.is) ∙ c.requires.word) (ap (λ w. arity (made_term names now.area.low w)) (sym c.in-Structure.is) ∙ c.requires.arity) in
    let place = c.in-Structure.place - (c.args.count - c.args.index) in
    heap-end-made names now.area.low now.next now.is_heap (Var place)
    (argument-unbound names now.area.low now.next now.is_heap c.in-Structure.place found.0 c.args.count c.args.index found.1 c.requires.index (sym c.in-None.ensures)).0
    (unheld-end (slice_get now.area.low place) (sym c.in-None.ensures))

pub returns-in-None-clause-end : goal.returns-in-None-clause-end
returns-in-None-clause-end c =
    unheld-end (slice_get c.args.self.now.area.low (c.in-Structure.place - (c.args.count - c.args.index))) (sym c.in-None.ensures)
