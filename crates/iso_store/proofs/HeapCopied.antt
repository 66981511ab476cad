-- Copies that are made in a heap.
use Rattle.std.proofs.Common.{◌≡◌, ℕ, zero, suc, ◌+◌, ◌<◌, ◌≤◌, List, [], ◌∷◌, ◌++◌, length, map, get_or, true, false, refl, ap, sym, ◌∙◌, arith, ◌-◌, length-append}
use Rattle.std.specs.List.{list_any}
use Rattle.std.proofs.lemmas.Bool.{lt-ltb}
use Rattle.std.proofs.lemmas.List.{append_assoc, get_or_append_left, get_or-map, length-map, map-append}
use Rattle.iso_model.specs.Terms.Trees.{Tree, Variable, Integer, Name, Apply, End, More}
use Rattle.iso_model.specs.Terms.Variables.{occurs, is_in, variables, variable_count}
use Rattle.iso_model.specs.Terms.Sizes.{size}
use Rattle.iso_model.specs.Terms.Copies.{copy_from, numbers_from}
use Rattle.iso_model.proofs.OnTerms.VariableLemmas.{listed_occurring}
use Rattle.iso_model.proofs.OnTerms.CopyLemmas.{variables_of_copy}
use Rattle.iso_store.specs.declared.heap_cells.HeapWord.{HeapWord}
use Rattle.iso_store.specs.declared.heap_cells.Piece.{Piece}
use Rattle.iso_store.specs.declared.heap_cells.Piece.TheVariants.{Word, Variable as Place}
use Rattle.iso_store.specs.declared.heap_cells.Cell.{Cell}
use Rattle.iso_store.specs.HeapTerms.{made_term}
use Rattle.iso_store.specs.HeapStores.{has_cell_number, is_word, IsHeap}
use Rattle.iso_store.specs.HeapBuilds.{is_piece, known_pieces, piece_term}
use Rattle.iso_store.specs.HeapUntouched.{known-made}
use Rattle.iso_store.proofs.Gathering.{length-numbers_from}
use Rattle.iso_store.proofs.VariableCells.{among-numbers, variables-many}
use Rattle.iso_store.proofs.HeapBuilt.{copied-one}

-- the terms of the places, where the variables have the numbers from first on
pub places-known : (names : List (List ℕ)) (first : ℕ) (cs : List Cell) (j k : ℕ) → map (piece_term names first cs) (map Place (numbers_from j k)) ≡ map Variable (numbers_from (first + j) k)
places-known names first cs j zero = refl
places-known names first cs j (suc k) =
    let next : first + (j + 1) ≡ first + j + 1 = omega arith in
    ap (λ us. Variable (first + j) ∷ us) (places-known names first cs (j + 1) k ∙ ap (λ m. map Variable (numbers_from m k)) next)

pub places-hold : (names : List (List ℕ)) (cs : List Cell) (count j k : ℕ) → j + k ≤ count → (i : ℕ) (d : Piece) → i < length (map Place (numbers_from j k)) → is_piece names cs count (get_or (map Place (numbers_from j k)) i d) ≡ true
places-hold names cs count j zero le i d below = absurd (omega arith)
places-hold names cs count j (suc k) le zero d below = lt-ltb j count (omega arith)
places-hold names cs count j (suc k) le (suc i) d below = places-hold names cs count (j + 1) k (omega arith) i d (omega arith)

-- ---- what is known
pub known-length : (count : ℕ) (ws : List HeapWord) → length (known_pieces count ws) ≡ count + length ws
known-length count ws =
    let all = length-append (map Place (numbers_from 0 count)) (map Word ws) in
    let variables = length-map (numbers_from 0 count) Place in
    let numbers = length-numbers_from 0 count in
    let words = length-map ws Word in
    omega arith

pub known-pushed : (count : ℕ) (ws : List HeapWord) (w : HeapWord) → known_pieces count (ws ++ w ∷ []) ≡ known_pieces count ws ++ Word w ∷ []
known-pushed count ws w =
    ap (λ ps. map Place (numbers_from 0 count) ++ ps) (map-append Word ws (w ∷ [])) ∙ sym (append_assoc (map Place (numbers_from 0 count)) (map Word ws) (Word w ∷ []))

places-at : (j k i : ℕ) (d : Piece) → i < k → get_or (map Place (numbers_from j k)) i d ≡ Place (j + i)
places-at j zero i d below = absurd (omega arith)
places-at j (suc k) zero d below = ap Place (omega arith)
places-at j (suc k) (suc i) d below =
    let here : j + 1 + i ≡ j + suc i = omega arith in
    places-at (j + 1) k i d (omega arith) ∙ ap Place here

pub known-variable : (count : ℕ) (ws : List HeapWord) (k : ℕ) (d : Piece) → k < count → Place k ≡ get_or (known_pieces count ws) k d
known-variable count ws k d below =
    let long = length-map (numbers_from 0 count) Place ∙ length-numbers_from 0 count in
    sym (get_or_append_left (map Place (numbers_from 0 count)) (map Word ws) d k (omega arith) ∙ places-at 0 count k d below ∙ ap Place (omega arith))

behind : (xs ys : List Piece) (i : ℕ) (d : Piece) → get_or (xs ++ ys) (length xs + i) d ≡ get_or ys i d
behind [] ys i d = ap (λ k. get_or ys k d) (omega arith)
behind (x ∷ xs) ys i d = let at : suc (length xs) + i ≡ suc (length xs + i) = omega arith in ap (λ k. get_or (x ∷ (xs ++ ys)) k d) at ∙ behind xs ys i d

pub known-word : (count : ℕ) (ws : List HeapWord) (k : ℕ) (w : HeapWord) (d : Piece) → count ≤ k → k < count + length ws → w ≡ get_or ws (k - count) w → Word w ≡ get_or (known_pieces count ws) k d
known-word count ws k w d above below is =
    let long = length-map (numbers_from 0 count) Place ∙ length-numbers_from 0 count in
    let at : k ≡ length (map Place (numbers_from 0 count)) + (k - count) = omega arith in
    let here = ap (λ i. get_or (known_pieces count ws) i d) at ∙ behind (map Place (numbers_from 0 count)) (map Word ws) (k - count) d ∙ get_or-map Word ws (k - count) w d (omega arith) in
    ap Word is ∙ sym here

-- a copy that is a variable is that of the first number
pub copied-variable : (t : Tree) (n m : ℕ) → Variable m ≡ copy_from t n → (m ≡ n) × (variable_count t ≡ 1) × (size t ≡ 1)
copied-variable (Variable x) n m is = (let same : Variable m ≡ Variable n = is ∙ copied-one x n in let number : m ≡ n = cc in (number, refl, refl))
copied-variable (Integer z) n m is = absurd (cc)
copied-variable (Name a) n m is = absurd (cc)
copied-variable (Apply f ts) n m is = absurd (cc)
copied-variable End n m is = absurd (cc)
copied-variable (More t ts) n m is = absurd (cc)

-- a cell comes for each variable of a copy
pub copied-many : (names : List (List ℕ)) (cs es whole : List Cell) (next low : ℕ) (heap : IsHeap names whole next) (w : HeapWord) (t : Tree) → whole ≡ cs ++ es → is_word names whole w ≡ true → made_term names whole w ≡ copy_from t low → ((n : ℕ) → low ≤ n → list_any (has_cell_number n) cs ≡ false) → variable_count t ≤ length es
copied-many names cs es whole next low heap w t is holds made none =
    variables-many low (variable_count t) cs es (λ k below.
    let listed : is_in (low + k) (variables (copy_from t low)) ≡ true = ap (is_in (low + k)) (variables_of_copy t low) ∙ among-numbers low (variable_count t) k below in
    let occurs-here : occurs (low + k) (made_term names whole w) ≡ true = ap (occurs (low + k)) made ∙ sym (listed_occurring (copy_from t low) (low + k)) ∙ listed in
    ap (list_any (has_cell_number (low + k))) (sym is) ∙ known-made names whole next heap w holds (low + k) occurs-here) none
