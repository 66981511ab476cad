-- What a program proves: the relation of Provability, said of the program's terms alone.
use Rattle.std.specs.Prelude.{List, ◌∷◌, codes}
use Rattle.iso_model.specs.Terms.Trees.{Tree, Name}
use Rattle.iso_model.specs.Terms.Substitutions.{Subst, apply}
use Rattle.iso_model.specs.Search.Bodies.{two}
use Rattle.iso_model.specs.Search.Additions.{head_of, body_of}

-- the term is one of these
pub data IsOneOf (t : Tree) : List Tree → Type 0 where
  here : {ts : List Tree} → IsOneOf t (t ∷ ts)
  there : {u : Tree} {ts : List Tree} → IsOneOf t ts → IsOneOf t (u ∷ ts)

-- The program proves `true`; a conjunction, where it proves both parts; and an instance of a clause's head, where it
-- proves the same instance of its body. It proves nothing else.
pub data ProvedBy (program : List Tree) : Tree → Type 0 where
  by_true : ProvedBy program (Name (codes "true"))
  by_both : {a b : Tree} → ProvedBy program a → ProvedBy program b → ProvedBy program (two (codes ",") a b)
  by_head : {c : Tree} (s : Subst) → IsOneOf c program → ProvedBy program (apply s (body_of c)) → ProvedBy program (apply s (head_of c))
