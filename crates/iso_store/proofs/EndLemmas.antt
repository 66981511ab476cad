-- Words at the end of their bindings: what stands for a compound was made as one.
use Rattle.std.proofs.Common.{◌≡◌, ℕ, ◌<◌, List, length, map, true, false, refl, ap, sym, ◌∙◌, arith, Option, Some, None, Vec, Global, inl, inr}
use Rattle.std.specs.List.{slice_get}
use Rattle.std.proofs.lemmas.List.{length-map}
use Rattle.std.proofs.lemmas.Option.{slice_get_cases, slice_get_within}
use Rattle.iso_model.specs.Terms.Substitutions.{Subst, apply}
use Rattle.iso_store.specs.declared.heap_cells.HeapWord.{HeapWord}
use Rattle.iso_store.specs.declared.heap_cells.HeapWord.TheVariants.{Var, Structure, Int, Boxed, Atom}
use Rattle.iso_store.specs.declared.heap_cells.Cell.{Cell}
use Rattle.iso_store.specs.declared.heap_cells.Cell.TheVariants.{Unbound, Bound, Argument, Functor, Wide, Entry}
use Rattle.iso_store.specs.FlatCells.{held_word}
use Rattle.iso_store.specs.declared.nodes.Node.{Node}
use Rattle.iso_store.specs.declared.nodes.Node.TheVariants as node
use Rattle.iso_store_core.specs.Arguments.{arity}
use Rattle.iso_store_core.specs.Presents.{Present, Holds, meaning, Binds}
use Rattle.iso_store.specs.HeapTerms.{made_term, heap_substitution}
use Rattle.iso_store.specs.HeapStores.{bound_word, is_word, IsHeap, next_word}
use Rattle.iso_store.specs.HeapLemmas.{place_term-unbound, place_term-wide, place_term-functor, terms_before, before-length}
use Rattle.iso_store.specs.NodeTerms.{term_at, substitution_of}
use Rattle.iso_store.specs.NodeStores.{is_bound, IsStore}
use Rattle.iso_store.specs.NodeLemmas.{term_at-variable, term_at-integer, term_at-atom, term_at-compound}
use Rattle.iso_store.specs.Unifying.{IsCompound}
use Rattle.iso_store.proofs.Bound.{binds-meaning}
use Rattle.iso_store.proofs.HeapReads.{unbound_cell-is, functor_cell, wide_cell, shows_variable, shows_wide, compound_arity}
use Rattle.iso_store.proofs.NodeReads.{end_variable, shows_integer, shows_atom, shows_compound, row-applied-count}
use Rattle.iso_store.proofs.UnifyLemmas.{compound-arity, count-row}

-- The word end is at the end of the bindings of the other, and was made with n arguments.
pub record IsEnd {W : Type 0} (p : Present W) (word end : W) (n : ℕ) : Type 0 where
  pub holds : Holds p end
  pub same : meaning p end ≡ meaning p word
  pub made : arity (p.term end) ≡ n

-- of a compound
pub begin-end : {W : Type 0} (p : Present W) (word end : W) (n : ℕ) → IsCompound n (meaning p word) → Holds p end → meaning p end ≡ meaning p word → arity (p.term end) ≡ arity (meaning p word) → IsEnd p word end n
begin-end p word end n compound holds same made = record { holds = holds; same = same; made = made ∙ compound-arity n (meaning p word) compound }

-- bindings don't change it
pub end-kept : {W : Type 0} {p q : Present W} {s : Subst} (word end : W) (n : ℕ) → Binds p q s → Holds p word → IsEnd p word end n → IsEnd q word end n
end-kept {W} {p} {q} {s} word end n bound holds is = record {
  holds = bound.words.stand end is.holds;
  same = binds-meaning bound end is.holds ∙ ap (apply s) is.same ∙ sym (binds-meaning bound word holds);
  made = ap arity (bound.words.terms end is.holds) ∙ is.made;
}

-- of cells
pub unheld-end : (o : Option Cell) → held_word o ≡ None → bound_word o ≡ None
unheld-end None h = refl
unheld-end (Some (Unbound n)) h = refl
unheld-end (Some (Bound n w)) h = absurd (cc)
unheld-end (Some (Argument w)) h = absurd (cc)
unheld-end (Some (Functor f n)) h = refl
unheld-end (Some (Wide z)) h = refl
unheld-end (Some (Entry p)) h = refl

pub heap-end-made : (names : List (List ℕ)) (cs : List Cell) (next : ℕ) → IsHeap names cs next → (w : HeapWord) → is_word names cs w ≡ true → next_word cs w ≡ None
    → arity (made_term names cs w) ≡ arity (apply (heap_substitution names cs) (made_term names cs w))
heap-end-made names cs next heap (Var a) holds end =
    let found = unbound_cell-is (slice_get cs a) holds end in
    ap arity (place_term-unbound names cs a found.0 found.1) ∙ sym (ap arity (shows_variable names cs next heap a found.0 found.1))
heap-end-made names cs next heap (Structure p) holds end =
    let found = functor_cell (slice_get cs p) holds in
    let within = slice_get_within cs p _ found.2 in
    ap arity (place_term-functor names cs p found.0 found.1 found.2)
    ∙ count-row (terms_before names cs p found.1)
    ∙ before-length names cs p found.1 (heap.functor p found.0 found.1 found.2).room within
    ∙ sym (compound_arity names cs next heap p found.0 found.1 found.2)
heap-end-made names cs next heap (Int z) holds end = refl
heap-end-made names cs next heap (Boxed p) holds end =
    let found = wide_cell (slice_get cs p) holds in
    ap arity (place_term-wide names cs p found.0 found.1) ∙ sym (ap arity (shows_wide names cs next heap p found.0 found.1))
heap-end-made names cs next heap (Atom x) holds end = refl

-- of nodes
module _ (names : List (List ℕ)) (cs : List Node) (es : List ℕ) (next : ℕ) (store : IsStore names cs es next) (w : ℕ) where
  node-compound-made : (f : ℕ) (ws : Vec ℕ Global) → slice_get cs w ≡ Some (node.Compound f ws) → arity (term_at names cs w) ≡ arity (apply (substitution_of names cs es) (term_at names cs w))
  node-compound-made f ws there =
      ap arity (term_at-compound names cs w f ws there (store.arguments w f ws there))
      ∙ count-row (map (term_at names cs) ws.items)
      ∙ length-map ws.items (term_at names cs)
      ∙ sym (ap arity (shows_compound names cs es next store w f ws there) ∙ row-applied-count (substitution_of names cs es) (term_at names cs) ws.items)

  node-end : (x : Node) → slice_get cs w ≡ Some x → is_bound (slice_get cs w) ≡ false → arity (term_at names cs w) ≡ arity (apply (substitution_of names cs es) (term_at names cs w))
  node-end (node.Var n b) there end = ap arity (term_at-variable names cs w n b there) ∙ sym (ap arity (end_variable names cs es next store w end n b there))
  node-end (node.Int z) there end = ap arity (term_at-integer names cs w z there) ∙ sym (ap arity (shows_integer names cs es next store w z there))
  node-end (node.Atom a) there end = ap arity (term_at-atom names cs w a there) ∙ sym (ap arity (shows_atom names cs es next store w a there))
  node-end (node.Compound f ws) there end = node-compound-made f ws there

  pub node-end-made : w < length cs → is_bound (slice_get cs w) ≡ false → arity (term_at names cs w) ≡ arity (apply (substitution_of names cs es) (term_at names cs w))
  node-end-made within end =
      elim ((slice_get_cases cs w).1) [
        | inl found ↦ node-end found.0 found.2 end
        | inr past ↦ let beyond = past.0 in absurd (omega arith)
      ]

  -- what was made with arguments has them
  node-made : (x : Node) (i : ℕ) → slice_get cs w ≡ Some x → i < arity (term_at names cs w) → i < arity (apply (substitution_of names cs es) (term_at names cs w))
  node-made (node.Var n b) i there below = let none = ap arity (term_at-variable names cs w n b there) in absurd (omega arith)
  node-made (node.Int z) i there below = let none = ap arity (term_at-integer names cs w z there) in absurd (omega arith)
  node-made (node.Atom a) i there below = let none = ap arity (term_at-atom names cs w a there) in absurd (omega arith)
  node-made (node.Compound f ws) i there below = let same = node-compound-made f ws there in omega arith

  pub node-made-index : (i : ℕ) → w < length cs → i < arity (term_at names cs w) → i < arity (apply (substitution_of names cs es) (term_at names cs w))
  node-made-index i within below =
      elim ((slice_get_cases cs w).1) [
        | inl found ↦ node-made found.0 i found.2 below
        | inr past ↦ let beyond = past.0 in absurd (omega arith)
      ]
