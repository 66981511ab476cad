-- What the clauses of a database prove, said without any search: the least relation of the textbooks on definite
-- clauses (Lloyd, Foundations of Logic Programming, chapter 2; Apt, From Logic Programming to Prolog, chapter 4).
use Rattle.std.specs.Prelude.{◌≡◌, List, ◌∷◌, Some, codes}
use Rattle.iso_model.specs.Terms.Trees.{Tree, Name}
use Rattle.iso_model.specs.Terms.Substitutions.{Subst, apply}
use Rattle.iso_model.specs.Search.Bodies.{two, body_term}
use Rattle.iso_model.specs.Search.Databases.{Clause, Procedures, Key, key_of, clauses_at}

-- the clause is one of these
pub data Among (c : Clause) : List Clause → Type 0 where
  first : {cs : List Clause} → Among c (c ∷ cs)
  later : {d : Clause} {cs : List Clause} → Among c cs → Among c (d ∷ cs)

-- The clause is one of those of the procedure that its head names.
pub record HasClause (ps : Procedures) (c : Clause) : Type 0 where
  pub key : Key
  pub clauses : List Clause
  pub head : key_of c.head ≡ Some key
  pub at : clauses_at ps key ≡ Some clauses
  pub among : Among c clauses

-- The clauses prove `true`; a conjunction, where they prove both parts; and an instance of a clause's head, where
-- they prove the same instance of its body. They prove nothing else.
pub data Proves (ps : Procedures) : Tree → Type 0 where
  proves_true : Proves ps (Name (codes "true"))
  proves_both : {a b : Tree} → Proves ps a → Proves ps b → Proves ps (two (codes ",") a b)
  proves_head : {c : Clause} (s : Subst) → HasClause ps c → Proves ps (apply s (body_term c.body)) → Proves ps (apply s c.head)
