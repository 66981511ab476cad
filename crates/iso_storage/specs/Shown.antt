-- A clause is shown: its head and its body, as terms with new variables, are unified with two terms.
use Rattle.std.specs.Prelude.{◌≡◌, ◌+◌, [], ◌∷◌, Bool, MatchBool}
use Rattle.iso_model.specs.Terms.Trees.{Tree, row}
use Rattle.iso_model.specs.Terms.Substitutions.{Subst, apply, compose}
use Rattle.iso_model.specs.Terms.Unifiers.{Unifier, NeverEqual}
use Rattle.iso_model.specs.Terms.Copies.{renamed}
use Rattle.iso_model.specs.Search.Databases.{Clause}
use Rattle.iso_model.specs.Search.Storages.{clause_row}
use Rattle.iso_store_core.specs.Presents.{Present}
use Rattle.iso_program.specs.Values.{HasValues}

-- The head and the body of the clause, with new variables, were unified with these two terms, and the words have
-- their values under the unifier.
pub record MeetsClause {W : Type 0} (p q : Present W) (h b : Tree) (c : Clause) : Type 0 where
  pub unifier : Subst
  pub is : Unifier (row (h ∷ b ∷ [])) (apply p.substitution (renamed p.next (clause_row c))) unifier
  pub values : HasValues p q (compose p.substitution unifier)
  pub next : q.next ≡ p.next + c.variables

-- they were, or can't be
abbrev pub UnifiesClause : {W : Type 0} → Present W → Present W → Tree → Tree → Clause → Bool → Type 0
UnifiesClause p q h b c answer = MatchBool answer (MeetsClause p q h b c) (NeverEqual (row (h ∷ b ∷ [])) (apply p.substitution (renamed p.next (clause_row c))))
