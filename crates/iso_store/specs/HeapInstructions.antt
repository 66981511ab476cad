-- What a machine's instructions leave at the end of a heap: the arguments of a compound that is made.
use Rattle.std.proofs.Common.{◌≡◌, ℕ, ◌+◌, ◌-◌, ◌<◌, ◌≤◌, List, [], length, take, length-take, nat_lt, ap, arith, true}
use Rattle.std.proofs.lemmas.Bool.{ltb-true}
use Rattle.std.proofs.lemmas.List.{get_or-take}
use Rattle.iso_atoms.specs.Texts.{text_at}
use Rattle.std.specs.List.{slice_get, slice_index_or}
use Rattle.iso_model.specs.Terms.Trees.{Tree, Variable, Integer, Name, Apply, End, More}
use Rattle.iso_store.specs.declared.heap_cells.Cell.{Cell}
use Rattle.iso_store.specs.HeapStores.{is_argument}
use Rattle.iso_store.specs.HeapLemmas.{place_term}

-- The last cells, as many as there are terms, are arguments of these terms.
pub record AreLast (names : List (List ℕ)) (cs : List Cell) (ts : List Tree) : Type 0 where
  pub room : length ts ≤ length cs
  pub arguments : (k : ℕ) → k < length ts → is_argument (slice_get cs (length cs - length ts + k)) ≡ true
  pub terms : (k : ℕ) → k < length ts → place_term names cs (length cs - length ts + k) ≡ slice_index_or ts k End

-- no cell is one of none
pub none-last : (names : List (List ℕ)) (cs : List Cell) → AreLast names cs []
none-last names cs = record {
  room = omega arith;
  arguments = λ k below. absurd (omega arith);
  terms = λ k below. absurd (omega arith);
}

-- An atom that is known has its name among all.
pub atom-named : (known : ℕ) (names : List (List ℕ)) (n : ℕ) → nat_lt n (length (take known names)) ≡ true
    → (n < length names) × (Name (text_at (take known names) n) ≡ Name (text_at names n))
atom-named known names n holds =
    let inside : n < length (take known names) = ltb-true n (length (take known names)) holds in
    (omega (arith, inside, length-take known names), ap Name (get_or-take known names n [] (omega (arith, inside, length-take known names))))

-- the term is an integer or an atom
abbrev pub IsConstant : Tree → Type 0
IsConstant (Variable n) = ⊥
IsConstant (Integer z) = Unit {0}
IsConstant (Name a) = Unit {0}
IsConstant (Apply f ts) = ⊥
IsConstant End = ⊥
IsConstant (More t ts) = ⊥
