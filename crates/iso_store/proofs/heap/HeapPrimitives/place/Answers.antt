use Rattle.std.proofs.Common.{take, ap, sym, ◌∙◌, ◌≡◌, ℕ, Some, inl, inr, ◌⊎◌}
use Rattle.iso_store.specs.declared.heap_cells.HeapWord.{HeapWord}
use Rattle.iso_store.specs.declared.heap_cells.HeapWord.TheVariants.{Var, Structure, Boxed}
use Rattle.iso_store.proofs.HeapReads.{end_is_variable, number_place}
use Rattle.iso_store.proofs.heap.HeapPrimitives.place.Goals as goal

same-place : (w : HeapWord) (place a : ℕ) → (w ≡ Var place) ⊎ ((w ≡ Structure place) ⊎ (w ≡ Boxed place)) → w ≡ Var a → place ≡ a
same-place w place a (inl is) here = let both : Var place ≡ Var a = sym is ∙ here in cc
same-place w place a (inr (inl is)) here = let both : Structure place ≡ Var a = sym is ∙ here in absurd (cc)
same-place w place a (inr (inr is)) here = let both : Boxed place ≡ Var a = sym is ∙ here in absurd (cc)

pub returns-in-Var-clause-variable : goal.returns-in-Var-clause-variable
returns-in-Var-clause-variable c n is =
    let now = c.args.self.now in
    let found = end_is_variable (take now.named now.atoms) now.area.low now.next now.is_heap c.walked.result n c.walked.ensures.holds c.walked.ensures.end (c.walked.ensures.same ∙ is) in
    let place = same-place c.walked.result c.in-Var.place found.0 c.in-Var.is found.1 in
    ap Some (place ∙ sym (number_place (take now.named now.atoms) now.area.low now.next now.is_heap n found.0 found.2))

pub returns-in-Var-2-clause-variable : goal.returns-in-Var-2-clause-variable
returns-in-Var-2-clause-variable c n is =
    let now = c.args.self.now in
    let found = end_is_variable (take now.named now.atoms) now.area.low now.next now.is_heap c.walked.result n c.walked.ensures.holds c.walked.ensures.end (c.walked.ensures.same ∙ is) in
    let place = same-place c.walked.result c.in-Var.place found.0 c.in-Var.is found.1 in
    ap Some (place ∙ sym (number_place (take now.named now.atoms) now.area.low now.next now.is_heap n found.0 found.2))

pub returns-in-Var-3-clause-variable : goal.returns-in-Var-3-clause-variable
returns-in-Var-3-clause-variable c n is =
    let now = c.args.self.now in
    let found = end_is_variable (take now.named now.atoms) now.area.low now.next now.is_heap c.walked.result n c.walked.ensures.holds c.walked.ensures.end (c.walked.ensures.same ∙ is) in
    let place = same-place c.walked.result c.in-Var.place found.0 c.in-Var.is found.1 in
    ap Some (place ∙ sym (number_place (take now.named now.atoms) now.area.low now.next now.is_heap n found.0 found.2))
