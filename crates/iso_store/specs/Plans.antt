-- Plans of terms: parts as those of patterns, where the terms of the places are those that are known so far. These
-- are some terms to begin with, and then each compound that a part makes.
use Rattle.std.specs.Prelude.{◌≡◌, ℕ, ◌-◌, List, [], ◌∷◌, ◌++◌, length, map, drop}
use Rattle.iso_atoms.specs.Texts.{text_at}
use Rattle.iso_model.specs.Terms.Trees.{Tree, Apply, row}
use Rattle.iso_model.specs.Terms.Building.{with_step}
use Rattle.iso_store_core.specs.declared.patterns.Part.{Part}
use Rattle.iso_store_core.specs.declared.patterns.Part.TheVariants.{Variable as Place, Integer as Number, Atom, Compound}
use Rattle.iso_store_core.specs.Presents.{Present}
use Rattle.iso_store_core.specs.Patterns.{IsNamed, part_step, at_places}
use Rattle.iso_store.specs.Writing.{IsReady}

-- What the parts so far make.
pub record Sketch : Type 0 where
  -- the terms that wait to be arguments
  pub terms : List Tree
  -- the terms that are known
  pub known : List Tree

-- before the first part
abbrev pub start : List Tree → Sketch
start known = record { terms = []; known = known }

-- where these words wait and are known
abbrev pub sketch_of : {W : Type 0} → Present W → List W → List W → Sketch
sketch_of p words known = record { terms = map p.term words; known = map p.term known }

-- where these are the names of the atoms
module _ (names : List (List ℕ)) where
  -- what the part makes known, where these terms wait
  abbrev pub made_known : Part → List Tree → List Tree
  made_known (Place k) ts = []
  made_known (Number z) ts = []
  made_known (Atom a) ts = []
  made_known (Compound a n) ts = Apply (text_at names a) (row (drop (length ts - n) ts)) ∷ []

  -- after one part more
  abbrev pub with_part : Part → Sketch → Sketch
  with_part k s = record { terms = with_step (part_step names (at_places s.known) k) s.terms; known = s.known ++ made_known k s.terms }

  -- after these parts
  abbrev pub after_plan : List Part → Sketch → Sketch
  after_plan [] s = s
  after_plan (k ∷ ks) s = after_plan ks (with_part k s)

  -- each part can be done when it comes
  abbrev pub AreReady : List Part → Sketch → Type 0
  AreReady [] s = Unit {0}
  AreReady (k ∷ ks) s = IsNamed names k × IsReady (length s.known) (length s.terms) k × AreReady ks (with_part k s)

-- The parts make this one term, where these terms are known to begin with.
pub record IsPlan (names : List (List ℕ)) (known : List Tree) (parts : List Part) (t : Tree) : Type 0 where
  pub ready : AreReady names parts (start known)
  pub term : (after_plan names parts (start known)).terms ≡ t ∷ []
