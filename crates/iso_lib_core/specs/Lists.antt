-- Lists in a store.
use Rattle.std.specs.Prelude.{◌≡◌, ℕ, Bool, List, [], ◌∷◌, true, false, map, Option, Some, None}
use Rattle.std.specs.Str.{bytes_eq}
use Rattle.iso_model.specs.Terms.Trees.{Tree, Apply, End, More, row}
use Rattle.iso_model.specs.Terms.Lists.{dot, is_pair, list_of}
use Rattle.iso_store_core.specs.Presents.{Present, Holds, meaning, KeepsWords}

-- whether the term is a compound of this name and two arguments
abbrev pub is_pair_named : List ℕ → Tree → Bool
is_pair_named name (Apply f (More t (More u End))) = bytes_eq f name
is_pair_named name t = false

-- The words stand for the two arguments of a compound of this name; without them the term is none.
abbrev pub IsPairNamed : {W : Type 0} → Present W → List ℕ → Tree → Option (W × W) → Type 0
IsPairNamed p name t (Some ws) = Holds p ws.0 × Holds p ws.1 × (t ≡ Apply name (row (meaning p ws.0 ∷ meaning p ws.1 ∷ [])))
IsPairNamed p name t None = is_pair_named name t ≡ false

-- The words stand for the element that the term begins with and for what stands behind it; without them it is no
-- element before another term.
abbrev pub IsPairOf : {W : Type 0} → Present W → Tree → Option (W × W) → Type 0
IsPairOf p t (Some ws) = Holds p ws.0 × Holds p ws.1 × (t ≡ Apply dot (row (meaning p ws.0 ∷ meaning p ws.1 ∷ [])))
IsPairOf p t None = is_pair t ≡ false

-- The word came for a term which has this value, and no binding changed.
pub record Comes {W : Type 0} (p q : Present W) (w : W) (t : Tree) : Type 0 where
  pub words : KeepsWords p q
  pub substitution : q.substitution ≡ p.substitution
  pub holds : q.holds w ≡ true
  pub value : meaning q w ≡ t

-- The word came for the list of what the words stand for.
abbrev pub MakesList : {W : Type 0} → Present W → Present W → List W → W → Type 0
MakesList p q ws list = Comes p q list (list_of (map (meaning p) ws))
