-- A cell that comes, and a name, give a word for a term.
use Rattle.std.proofs.Common.{◌≡◌, ℕ, ℤ, ◌+◌, ◌<◌, ◌≤◌, List, [], ◌∷◌, ◌++◌, length, map, take, get_or, true, false, refl, ap, sym, ◌∙◌, subst, arith, length-append, Bool, ◌||◌}
use Rattle.std.specs.List.{list_any, All}
use Rattle.std.proofs.lemmas.List.{take_all, take_more, length-map, map-append, append_assoc}
use Rattle.std.proofs.lemmas.List.Folds.{list_any-append}
use Rattle.iso_atoms.specs.Texts.{KeepsTexts}
use Rattle.iso_model.specs.Terms.Trees.{Variable, Integer}
use Rattle.iso_store.specs.declared.heap_cells.HeapWord.{HeapWord}
use Rattle.iso_store.specs.declared.heap_cells.HeapWord.TheVariants.{Var, Structure, Int, Boxed, Atom}
use Rattle.iso_store.specs.declared.heap_cells.Cell.{Cell}
use Rattle.iso_store.specs.declared.heap_cells.Cell.TheVariants.{Unbound, Argument, Wide}
use Rattle.iso_store_core.specs.declared.patterns.Part.{Part}
use Rattle.iso_store_core.specs.Presents.{Makes}
use Rattle.iso_store.specs.Writing.{IsPlace, picked}
use Rattle.iso_store.specs.HeapStores.{is_variable_cell, is_functor, is_wide, has_cell_number, is_word, IsHeap, MayCome, present_of_heap}
use Rattle.iso_store.specs.Slices.{slice_get-last, slice_get-append}
use Rattle.iso_store.specs.HeapLemmas.{place_term-unbound, place_term-wide, made_term-more}
use Rattle.iso_store.specs.HeapNumbers.{word_before}
use Rattle.iso_store.proofs.Picked.{picked-few}
use Rattle.iso_store.proofs.HeapPushes.{word-more, substitution-more}
use Rattle.iso_store.proofs.HeapNames.{first-kept}

-- all names keep those that were there
pub all-kept : (names : List (List ℕ)) (named all : ℕ) → all ≡ length names → KeepsTexts (take named names) (take all names)
all-kept names named all whole =
    subst (KeepsTexts (take named names)) (sym (take_all all names (omega arith))) (first-kept names named)

-- a variable
pub variable-makes : (names : List (List ℕ)) (cs : List Cell) (next limit n : ℕ) → IsHeap names cs next → MayCome names cs next (Unbound n)
    → Makes (present_of_heap names cs next limit) (present_of_heap names (cs ++ Unbound n ∷ []) next limit) (Var (length cs)) (Variable n)
variable-makes names cs next limit n heap may =
    let last = slice_get-last cs (Unbound n) in
    record {
      words = record {
        stand = word-more names cs next heap (Unbound n) may;
        terms = λ w h. made_term-more names cs (Unbound n ∷ []) w (word_before names cs w h);
      };
      substitution = substitution-more names cs next heap (Unbound n) may;
      holds = ap is_variable_cell last;
      term = place_term-unbound names (cs ++ Unbound n ∷ []) (length cs) n last;
    }

-- an integer of more than 64 bits
pub wide-makes : (names : List (List ℕ)) (cs : List Cell) (next limit : ℕ) (z : ℤ) → IsHeap names cs next
    → Makes (present_of_heap names cs next limit) (present_of_heap names (cs ++ Wide z ∷ []) next limit) (Boxed (length cs)) (Integer z)
wide-makes names cs next limit z heap =
    let last = slice_get-last cs (Wide z) in
    record {
      words = record {
        stand = word-more names cs next heap (Wide z) tt;
        terms = λ w h. made_term-more names cs (Wide z ∷ []) w (word_before names cs w h);
      };
      substitution = substitution-more names cs next heap (Wide z) tt;
      holds = ap is_wide last;
      term = place_term-wide names (cs ++ Wide z ∷ []) (length cs) z last;
    }

-- a word that stood stands behind more cells
pub word-along : (names : List (List ℕ)) (cs ds : List Cell) (w : HeapWord) → is_word names cs w ≡ true → is_word names (cs ++ ds) w ≡ true
word-along names cs ds (Var a) h = ap is_variable_cell (slice_get-append cs ds a (word_before names cs (Var a) h)) ∙ h
word-along names cs ds (Structure p) h = ap is_functor (slice_get-append cs ds p (word_before names cs (Structure p) h)) ∙ h
word-along names cs ds (Int z) h = h
word-along names cs ds (Boxed p) h = ap is_wide (slice_get-append cs ds p (word_before names cs (Boxed p) h)) ∙ h
word-along names cs ds (Atom a) h = h

-- an argument more
pub word-pushed : (cs now new : List Cell) (us vs : List HeapWord) (w : HeapWord) → now ≡ cs ++ map Argument us → new ≡ now ++ Argument w ∷ [] → vs ≡ us ++ w ∷ [] → new ≡ cs ++ map Argument vs
word-pushed cs now new us vs w before more longer =
    more ∙ ap (λ xs. xs ++ Argument w ∷ []) before ∙ append_assoc cs (map Argument us) (Argument w ∷ [])
    ∙ ap (λ xs. cs ++ xs) (sym (map-append Argument us (w ∷ [])) ∙ ap (map Argument) (sym longer))

pub argument-pushed : (cs now new : List Cell) (ws : List HeapWord) (k : ℕ) (w : HeapWord) → now ≡ cs ++ map Argument (take k ws) → new ≡ now ++ Argument w ∷ [] → k < length ws → get_or ws k w ≡ w → new ≡ cs ++ map Argument (take (k + 1) ws)
argument-pushed cs now new ws k w before more below is =
    word-pushed cs now new (take k ws) (take (k + 1) ws) w before more (take_more ws k w below ∙ ap (λ v. take k ws ++ v ∷ []) is)

pub argument-holds : (names : List (List ℕ)) (cs now : List Cell) (ws : List HeapWord) (k : ℕ) (w : HeapWord) (ds : List Cell) → now ≡ cs ++ ds → All (λ v. is_word names cs v ≡ true) ws → k < length ws → get_or ws k w ≡ w → is_word names now w ≡ true
argument-holds names cs now ws k w ds before all below is =
    ap (λ xs. is_word names xs w) before ∙ word-along names cs ds w (subst (λ v. is_word names cs v ≡ true) is (all k w below))

-- no more than there are places
pub places-pushed : (ws : List HeapWord) (ks : List Part) → All (IsPlace (length ws)) ks → (cs ds : List Cell) (n : ℕ) → n ≤ length ks → ds ≡ cs ++ map Argument (picked ws (take n ks)) → length ds ≤ length cs + length ks
places-pushed ws ks places cs ds n within pushed =
    let long = ap length pushed ∙ length-append cs (map Argument (picked ws (take n ks))) in
    omega (arith, picked-few ws ks n places within, length-map (picked ws (take n ks)) Argument)

-- no variable comes
pub taken-more : (cs : List Cell) (c : Cell) (n : ℕ) → has_cell_number n c ≡ false → list_any (has_cell_number n) (cs ++ c ∷ []) ≡ list_any (has_cell_number n) cs
taken-more cs c n h =
    list_any-append (has_cell_number n) cs (c ∷ []) ∙ ap (λ b. list_any (has_cell_number n) cs || (b || false)) h ∙ or_none (list_any (has_cell_number n) cs)
  where
    or_none : (b : Bool) → b || false ≡ b
    or_none true = refl
    or_none false = refl
