-- Words that stand for the arguments of a term.
use Rattle.std.proofs.Common.{◌≡◌, ◌<◌, ℕ, zero, suc, List, [], ◌∷◌, length, get_or, map, refl, sym, ap, ◌∙◌, arith}
use Rattle.std.specs.List.{All}
use Rattle.iso_model.specs.Terms.Trees.{Tree, Apply, count, row}
use Rattle.iso_store_core.specs.Presents.{Present, Holds, meaning}
use Rattle.iso_store_core.specs.Arguments.{argument, arguments, member}
use Rattle.iso_store_core.specs.ArgumentWords.{AreArguments}

-- the word at a place stands for the argument there
pub argument-is : {W : Type 0} (p : Present W) (words : List W) (t : Tree) (k : ℕ) (w : W) → AreArguments p words t → k < length words → w ≡ get_or words k w → meaning p w ≡ argument k t
argument-is p words t k w are below is = ap (meaning p) is ∙ are.values k w below

row-count : {W : Type 0} (f : W → Tree) (ws : List W) → length ws ≡ count (row (map f ws))
row-count f [] = refl
row-count f (w ∷ ws) = let more = row-count f ws in omega (arith, more)

row-member : {W : Type 0} (f : W → Tree) (ws : List W) (k : ℕ) (d : W) → k < length ws → f (get_or ws k d) ≡ member k (row (map f ws))
row-member f [] k d below = absurd (omega (arith, below))
row-member f (w ∷ ws) zero d below = refl
row-member f (w ∷ ws) (suc k) d below = row-member f ws k d (omega (arith, below))

-- words whose values are the arguments of a term
pub words-are : {W : Type 0} (p : Present W) (ws : List W) (t : Tree) → All (λ w. Holds p w) ws → row (map (meaning p) ws) ≡ arguments t → AreArguments p ws t
words-are p ws t hold is = record {
  count = row-count (meaning p) ws ∙ ap count is;
  hold = hold;
  values = λ k d below. row-member (meaning p) ws k d below ∙ ap (member k) is;
}

-- a term with these arguments
abbrev pub applied-to : {W : Type 0} → Present W → List W → Tree
applied-to p ws = Apply [] (row (map (meaning p) ws))

pub are-applied : {W : Type 0} (p : Present W) (ws : List W) → All (λ w. Holds p w) ws → AreArguments p ws (applied-to p ws)
are-applied p ws hold = words-are p ws (applied-to p ws) hold refl
