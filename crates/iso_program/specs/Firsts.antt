-- What the outermost parts of patterns show of terms.
use Rattle.std.specs.Prelude.{◌≡◌, ◌≢◌, ℕ, ◌+◌, ◌<◌, List, ◌∷◌, length, Option, Some, None, MatchOption, true}
use Rattle.iso_atoms.specs.Texts.{text_at, EachOnce}
use Rattle.iso_model.specs.Terms.Trees.{Tree, Variable, Integer, Name, Apply, More, row, count}
use Rattle.iso_model.specs.Terms.Sorts.{is_term}
use Rattle.iso_store_core.specs.Arguments.{arity, argument}
use Rattle.iso_store_core.specs.Presents.{Present, meaning}
use Rattle.iso_store_core.specs.Shapes.{IsShape}
use Rattle.iso_store_core.specs.declared.patterns.Part.{Part}
use Rattle.iso_store_core.specs.declared.patterns.Part.TheVariants.{Variable as Place, Integer as Number, Atom, Compound}
use Rattle.iso_store_core.specs.declared.shapes.Shape.{Shape}
use Rattle.iso_store_core.specs.declared.shapes.Shape.TheVariants as shape

-- the part is the outermost one of the term, where these are the names of the atoms
abbrev pub IsTop : List (List ℕ) → Part → Tree → Type 0
IsTop names (Place k) t = t ≡ Variable k
IsTop names (Number z) t = t ≡ Integer z
IsTop names (Atom a) t = (a < length names) × (t ≡ Name (text_at names a))
IsTop names (Compound a n) t = (a < length names) × (ts : List Tree) × (t ≡ Apply (text_at names a) (row ts)) × (length ts ≡ n)

-- A compound whose first argument has this outermost part.
pub record HasFirst (names : List (List ℕ)) (k : Part) (t : Tree) : Type 0 where
  pub name : List ℕ
  pub first : Tree
  pub others : Tree
  pub is : t ≡ Apply name (More first others)
  pub top : IsTop names k first

-- A compound whose first argument has this shape, where these are the names of the atoms.
pub record ShowsFirst (names : List (List ℕ)) (shape : Shape) (t : Tree) : Type 0 where
  pub name : List ℕ
  pub arguments : Tree
  pub is : t ≡ Apply name arguments
  pub some : 0 < count arguments
  pub shows : IsShape names shape (argument 0 t)
  pub term : is_term (argument 0 t) ≡ true
  pub once : EachOnce names

-- the word, where there is one, stands for the first argument of the call; there is none where it has no argument
abbrev pub IsFirstArgument : {W : Type 0} → Present W → Option W → Tree → Type 0
IsFirstArgument p None t = arity t ≡ 0
IsFirstArgument p (Some w) t = (0 < arity t) × (argument 0 t ≡ meaning p w)

-- the term has no first argument
abbrev pub HasNoFirst : Tree → Type 0
HasNoFirst t = (f : List ℕ) (u us : Tree) → t ≡ Apply f (More u us) → ⊥

-- its first argument is a variable, if it has one
abbrev pub HasFreeFirst : Tree → Type 0
HasFreeFirst t = (f : List ℕ) (u us : Tree) → t ≡ Apply f (More u us) → (n : ℕ) × (u ≡ Variable n)

-- The part, where there is one, is the outermost one of the head's first argument, where these are the names of the
-- atoms. Else the head has no argument.
abbrev pub IsFirstOf : List (List ℕ) → Option Part → Tree → Type 0
IsFirstOf names first head = MatchOption first (HasNoFirst head) (λ k. HasFirst names k head)

-- the part takes more terms than these
abbrev pub TakesMore : Part → ℕ → Type 0
TakesMore (Compound a n) count = count < n
TakesMore k count = ⊥

-- of so many terms the part leaves the first ones, so many, as they are
abbrev pub Leaves : Part → ℕ → ℕ → Type 0
Leaves (Compound a n) count left = count ≡ left + n
Leaves k count left = count ≡ left

-- the first of the terms has this outermost part
abbrev pub Shows : List (List ℕ) → Part → List Tree → Type 0
Shows names k ts = (u : Tree) × (us : List Tree) × (ts ≡ u ∷ us) × IsTop names k u

-- the shape is that of no term which the part can be made
abbrev pub Differs : Shape → Part → Type 0
Differs (shape.Var n) k = ⊥
Differs s (Place k) = ⊥
Differs (shape.Int y) (Number z) = y ≢ z
Differs (shape.Atom a) (Atom b) = a ≢ b
Differs (shape.Compound f m) (Compound g n) = (f ≡ g) → (m ≡ n) → ⊥
Differs s k = Unit {0}
