-- What the terms of a text are, and the goals that it keeps.
use Rattle.std.specs.Prelude.{◌≡◌, ℕ, true, List, [], ◌∷◌}
use Rattle.iso_model.specs.Terms.Trees.{arities_fit}
use Rattle.iso_model.specs.Terms.TermOf.{term_of}
use Rattle.iso_model.specs.Terms.Copies.{IsNumbered}
use Rattle.iso_model.specs.Session.Directives as model
use Rattle.iso_session_core.specs.Progress.{IsCount}
use Rattle.iso_session_core.specs.declared.directives.Kept.{Kept}
use Rattle.iso_session_core.specs.declared.terms.TextTerm.{TextTerm}
use Rattle.iso_session_core.specs.declared.terms.TextTerm.TheVariants as text

-- what the term is that a Rust value tells of
abbrev pub text_term_of : TextTerm → model.TextTerm
text_term_of text.Clause = model.AClause
text_term_of (text.Directive goal) = model.Directive (term_of goal.now)
text_term_of (text.Initialization goal) = model.Initialization (term_of goal.now)
text_term_of text.PassedOver = model.PassedOver

-- the goal of a directive is well formed, and its variables are numbered in the order of their first occurrence
abbrev pub GoalFits : TextTerm → Type 0
GoalFits (text.Directive goal) = (arities_fit (term_of goal.now) ≡ true) × IsNumbered (term_of goal.now)
GoalFits (text.Initialization goal) = (arities_fit (term_of goal.now) ≡ true) × IsNumbered (term_of goal.now)
GoalFits other = Unit {0}

-- These are the kept goals, each by its place as it is counted; each is well formed, and its variables are numbered
-- in the order of their first occurrence.
abbrev pub AreKept : List Kept → List model.Kept → Type 0
AreKept [] [] = Unit {0}
AreKept (x ∷ xs) (g ∷ gs) = IsCount x.number g.place × (term_of x.goal ≡ g.goal) × (arities_fit (term_of x.goal) ≡ true) × IsNumbered (term_of x.goal) × AreKept xs gs
AreKept xs gs = ⊥

-- Of the goals that are kept now P holds.
pub record Keeps (kept : List Kept) (P : List model.Kept → Type 0) : Type 0 where
  pub goals : List model.Kept
  pub are : AreKept kept goals
  pub does : P goals
