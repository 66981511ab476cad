-- How much there is left to look at.
use Rattle.std.specs.Prelude.{ℕ, ◌+◌, List, [], ◌∷◌}
use Rattle.std.specs.Borrow.{Bor}
use Rattle.iso_model.specs.declared.terms.Term.{Term}
use Rattle.iso_model.specs.Terms.TermOf.{term_of}
use Rattle.iso_model.specs.Terms.Sizes.{size}

-- the sizes of the terms
abbrev pub terms_load : List (Bor Term) → ℕ
terms_load [] = 0
terms_load (t ∷ ts) = size (term_of t.now) + terms_load ts
