-- What variables, integers and atoms are as terms.
use Rattle.std.proofs.Common.{◌≡◌, ℕ, ℤ, ap, sym, ◌∙◌, String, Global}
use Rattle.std.specs.String.{string_bytes}
use Rattle.iso_model.specs.declared.terms.Term.TheOpen.{Term-F}
use Rattle.iso_model.specs.declared.terms.Term.TheVariants.{Var, Int, Atom, rolls-Var, rolls-Int, rolls-Atom}
use Rattle.iso_model.specs.declared.terms.Term.TheFolds.{fold-roll-Term}
use Rattle.iso_model.specs.Terms.Trees.{Tree, Variable, Integer, Name}
use Rattle.iso_model.specs.Terms.TermOf.{term_of, term_step}

pub term_of_variable : (n : ℕ) → term_of (Var n) ≡ Variable n
term_of_variable n = ap term_of (sym (rolls-Var n)) ∙ fold-roll-Term Tree term_step (Term-F.Var n)

pub term_of_integer : (z : ℤ) → term_of (Int z) ≡ Integer z
term_of_integer z = ap term_of (sym (rolls-Int z)) ∙ fold-roll-Term Tree term_step (Term-F.Int z)

pub term_of_atom : (a : String Global) → term_of (Atom a) ≡ Name (string_bytes a)
term_of_atom a = ap term_of (sym (rolls-Atom a)) ∙ fold-roll-Term Tree term_step (Term-F.Atom a)
