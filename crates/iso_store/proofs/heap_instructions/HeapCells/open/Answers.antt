use Rattle.std.proofs.Common.{◌≡◌, ◌≢◌, ℕ, take, sym, ap, ◌∙◌, slice_get, ◌⊎◌, inl, inr, false}
use Rattle.std.proofs.lemmas.Bool.{false≢true, eq-eqb, eqb-true}
use Rattle.iso_atoms.specs.Texts.{text_at}
use Rattle.iso_cells.specs.Opening.{is_compound}
use Rattle.iso_model.specs.Terms.Trees.{Variable}
use Rattle.iso_store_core.specs.Presents.{meaning}
use Rattle.iso_store.proofs.HeapBuilt.{as_present}
use Rattle.iso_store.proofs.HeapNames.{first-kept}
use Rattle.iso_store.proofs.HeapReads.{shows_variable, unbound_cell-is}
use Rattle.iso_store.proofs.HeapInstructionLemmas.{compound-missed, compound-other, compound-read, leaf-missed}
use Rattle.iso_store.proofs.heap_instructions.HeapCells.open.Goals.{else-eq-via-then-eq+else-arity-count, else-eq-via-else-eq}
use Rattle.iso_store.proofs.heap_instructions.HeapCells.open.Goals as goal

pub returns-in-Var : goal.returns-in-Var
returns-in-Var c =
    let now = c.args.self.now in
    let found = unbound_cell-is (slice_get now.area.low c.in-Var.place) c.in-Var.ensures.holds c.in-Var.ensures.end in
    (c.in-Var.ensures.holds, sym c.in-Var.ensures.same, (found.0, shows_variable (take now.named now.atoms) now.area.low now.next now.is_heap c.in-Var.place found.0 found.1))

pub returns-then-arity-count : goal.returns-then-arity-count
returns-then-arity-count c =
    let now = c.args.self.now in (
      c.in-Structure.ensures.holds,
      sym c.in-Structure.ensures.same,
      compound-read (take now.named now.atoms) now.area.low now.next now.is_heap c.in-Structure.place c.functor-found.result.0 c.functor-found.result.1 c.functor-found.ensures now.atoms (first-kept now.atoms now.named) now.area.capacity c.args.name c.args.count (eqb-true c.functor-found.result.0 c.args.name (sym c.eq.ensures ∙ c.if-eq.true)) c.if-arity-count.true,
    )

-- a compound of another name, or of another number of arguments
missed : (c : goal.Joined-else-eq) → (c.functor-found.result.0 ≢ c.args.name) ⊎ (c.functor-found.result.1 ≢ c.args.count)
    → (is_compound (text_at c.args.self.now.atoms c.args.name) c.args.count (meaning (as_present c.args.self.now) c.args.word) ≡ false) × ((x : ℕ) → meaning (as_present c.args.self.now) c.args.word ≢ Variable x)
missed c differ =
    let now = c.args.self.now in
    let names = take now.named now.atoms in
    let f = c.functor-found.result.0 in
    let n = c.functor-found.result.1 in
    let same = sym c.in-Structure.ensures.same in (
      ap (is_compound (text_at now.atoms c.args.name) c.args.count) same ∙ compound-missed names now.area.low now.next now.is_heap c.in-Structure.place f n c.functor-found.ensures now.atoms (first-kept now.atoms now.named) c.args.name c.args.count now.each_once c.requires.name differ,
      λ x is. compound-other names now.area.low now.next now.is_heap c.in-Structure.place f n c.functor-found.ensures x (sym same ∙ is),
    )

pub returns-else-eq : goal.returns-else-eq
returns-else-eq c =
    elim c.else-eq.branch [
      | else-eq-via-then-eq+else-arity-count w ↦ missed c (inr w.if-arity-count.false)
      | else-eq-via-else-eq w ↦ missed c (inl (λ same. false≢true (sym w.if-eq.false ∙ c.eq.ensures ∙ eq-eqb c.functor-found.result.0 c.args.name same)))
    ]

pub returns-in-Int : goal.returns-in-Int
returns-in-Int c =
    let now = c.args.self.now in
    leaf-missed (take now.named now.atoms) now.area.low now.next now.is_heap c.walked.result _ (text_at now.atoms c.args.name) c.args.count c.walked.ensures.holds c.in-Int.is c.walked.ensures.same
