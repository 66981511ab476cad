-- The arguments of a compound that are words.
use Rattle.std.proofs.Common.{◌≡◌, ℕ, suc, zero, ◌+◌, ◌<◌, List, [], ◌∷◌, ◌++◌, length, map, get_or, true, refl, ap, ap₂, sym, ◌∙◌, arith, length-append, Some}
use Rattle.std.specs.List.{slice_get, All}
use Rattle.std.proofs.lemmas.List.{length-map, get_or-map}
use Rattle.iso_model.specs.Terms.Trees.{Tree, End}
use Rattle.iso_store.specs.declared.heap_cells.HeapWord.{HeapWord}
use Rattle.iso_store.specs.declared.heap_cells.HeapWord.TheVariants.{Structure}
use Rattle.iso_store.specs.declared.heap_cells.Piece.TheVariants.{Word}
use Rattle.iso_store.specs.declared.heap_cells.Cell.{Cell}
use Rattle.iso_store.specs.declared.heap_cells.Cell.TheVariants.{Argument}
use Rattle.iso_store.specs.HeapStores.{is_argument, is_word, IsHeap}
use Rattle.iso_store.specs.HeapBuilds.{ArePushed, piece_term}
use Rattle.iso_store.specs.HeapLemmas.{place_term-argument, made_term-more}
use Rattle.iso_store.specs.HeapNumbers.{word_before}

slice_get-behind : (cs ds : List Cell) (i k : ℕ) → i ≡ length cs + k → slice_get (cs ++ ds) i ≡ slice_get ds k
slice_get-behind [] ds i k h = let same : i ≡ k = omega arith in ap (slice_get ds) same
slice_get-behind (c ∷ cs) ds zero k h = absurd (omega arith)
slice_get-behind (c ∷ cs) ds (suc i) k h = slice_get-behind cs ds i k (omega arith)

argument-at : (ws : List HeapWord) (k : ℕ) (d : HeapWord) → k < length ws → slice_get (map Argument ws) k ≡ Some (Argument (get_or ws k d))
argument-at [] k d h = absurd (omega arith)
argument-at (w ∷ ws) zero d h = refl
argument-at (w ∷ ws) (suc k) d h = argument-at ws k d (omega arith)

pub list-ext : (xs ys : List Tree) → length xs ≡ length ys → ((k : ℕ) → k < length xs → get_or xs k End ≡ get_or ys k End) → xs ≡ ys
list-ext [] [] h same = refl
list-ext [] (y ∷ ys) h same = absurd (omega arith)
list-ext (x ∷ xs) [] h same = absurd (omega arith)
list-ext (x ∷ xs) (y ∷ ys) h same = ap₂ (λ z zs. z ∷ zs) (same 0 (omega arith)) (list-ext xs ys (omega arith) (λ k below. same (suc k) (omega arith)))

-- words are pushed as arguments
pub words-pushed : (names : List (List ℕ)) (first next : ℕ) (cs : List Cell) (ws : List HeapWord) → IsHeap names (cs ++ map Argument ws) next → All (λ w. is_word names cs w ≡ true) ws → ArePushed names first cs (cs ++ map Argument ws) (map Word ws)
words-pushed names first next cs ws heap holds =
    let many = length-map ws Word in
    let at : (k : ℕ) → k < length (map Word ws) → slice_get (cs ++ map Argument ws) (length cs + k) ≡ Some (Argument (get_or ws k (Structure 0))) =
    λ k below. slice_get-behind cs (map Argument ws) (length cs + k) k refl ∙ argument-at ws k (Structure 0) (omega arith) in
    record {
      size = let both = length-append cs (map Argument ws) in let all = length-map ws Argument in omega arith;
      arguments = λ k below. ap is_argument (at k below);
      terms = λ k d below.
          let w = get_or ws k (Structure 0) in
          let less : k < length ws = omega arith in
          place_term-argument names (cs ++ map Argument ws) (length cs + k) w (at k below) (heap.argument (length cs + k) w (at k below)).1
          ∙ made_term-more names cs (map Argument ws) w (word_before names cs w (holds k (Structure 0) less))
          ∙ ap (piece_term names first cs) (sym (get_or-map Word ws k (Structure 0) d less));
    }
