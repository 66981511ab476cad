-- Groups of solutions, as the code has them (ISO/IEC 13211-1:1995, 8.10.2).
use Rattle.std.specs.Prelude.{◌≡◌, ℕ, zero, suc, List, [], ◌∷◌, ◌++◌, length}
use Rattle.iso_model.specs.declared.terms.Term.{Term}
use Rattle.iso_model.specs.Terms.Trees.{Tree}
use Rattle.iso_model.specs.Terms.TermOf.{term_of}
use Rattle.iso_model.specs.Search.Groups.{pair}
use Rattle.iso_lib_core.specs.declared.groups.Group.{Group}

-- a solution: its witness and its item
abbrev pub solution_of : (Term × Term) → Tree
solution_of s = pair (term_of s.0) (term_of s.1)

-- solutions with these witnesses and these items
abbrev pub paired : List Term → List Term → List Tree
paired (w ∷ ws) (t ∷ ts) = pair (term_of w) (term_of t) ∷ paired ws ts
paired [] ts = []
paired (w ∷ ws) [] = []

-- the solutions of a group
abbrev pub solutions_of : Group → List Tree
solutions_of g = paired g.witnesses.items g.items.items

-- it has an item for each witness
abbrev pub IsWhole : Group → Type 0
IsWhole g = length g.witnesses.items ≡ length g.items.items

-- the item comes to the group at this place; a new group, where the place is that behind the others
abbrev pub put_at : {X : Type 0} → ℕ → X → List (List X) → List (List X)
put_at n p [] = (p ∷ []) ∷ []
put_at zero p (g ∷ gs) = (g ++ p ∷ []) ∷ gs
put_at (suc n) p (g ∷ gs) = g ∷ put_at n p gs
