-- Laws of what is prepared.
use Rattle.std.specs.Prelude.{◌≡◌, true, Ok, IfSome}
use Rattle.iso_model.specs.Terms.Trees.{Tree}
use Rattle.iso_model.specs.Terms.Copies.{copy_from}
use Rattle.iso_model.specs.Terms.Sorts.{is_term}
use Rattle.iso_model.specs.Search.Bodies.{converted, body_term}
use Rattle.iso_model.specs.Search.Additions.{prepared}
use Rattle.iso_prep.specs.Preparations.{Preparation, PreparesClause, PreparesGoal}

-- The head, where there is one, and the body are terms.
pub record HasTerms (p : Preparation) : Type 0 where
  pub head : IfSome p.head (λ head. is_term head ≡ true)
  pub body : is_term (body_term p.body) ≡ true

-- What is prepared of a clause or a goal that is a term has terms.
abbrev pub PreparedAreTerms : Type 0
PreparedAreTerms =
    (t : Tree) (p : Preparation) → is_term t ≡ true
    → (PreparesClause (λ q. q) t (prepared t) (Ok p) → HasTerms p) × (PreparesGoal (λ q. q) t (converted (copy_from t 0)) (Ok p) → HasTerms p)
