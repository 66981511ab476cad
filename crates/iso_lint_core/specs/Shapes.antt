-- What a term is at its top, and with which arguments.
use Rattle.std.specs.Prelude.{◌≡◌, ◌≤◌, ◌⊎◌, ℕ, List, length}
use Rattle.iso_model.specs.Terms.Trees.{Tree, Variable, Integer, Name, Apply, End, More, row}
use Rattle.iso_model.specs.Terms.TermOf.{term_of}
use Rattle.iso_model.specs.Search.Bodies.{one, two}
use Rattle.iso_lint_core.specs.declared.shapes.Shape.{Shape}
use Rattle.iso_lint_core.specs.declared.shapes.Shape.TheVariants as shape

-- the term with this name and these three arguments
abbrev pub three : List ℕ → Tree → Tree → Tree → Tree
three f t u v = Apply f (More t (More u (More v End)))

-- The term is a compound of this name with so many arguments, none or more than three.
pub record IsOther (name : List ℕ) (arity : ℕ) (t : Tree) : Type 0 where
  pub arguments : List Tree
  pub is : t ≡ Apply name (row arguments)
  pub count : length arguments ≡ arity
  pub other : (arity ≡ 0) ⊎ (4 ≤ arity)

-- the term is of this shape
abbrev pub IsShape : Shape → Tree → Type 0
IsShape shape.Variable t = (number : ℕ) × (t ≡ Variable number)
IsShape (shape.Integer value) t = t ≡ Integer value
IsShape (shape.Atom name) t = t ≡ Name name.now
IsShape (shape.One name x) t = t ≡ one name.now (term_of x.now)
IsShape (shape.Two name x y) t = t ≡ two name.now (term_of x.now) (term_of y.now)
IsShape (shape.Three name x y z) t = t ≡ three name.now (term_of x.now) (term_of y.now) (term_of z.now)
IsShape (shape.Other name arity) t = IsOther name.now arity t
