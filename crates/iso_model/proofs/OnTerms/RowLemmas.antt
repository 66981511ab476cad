-- How many terms a list of terms has, and what that says of a compound.
use Rattle.std.proofs.Common.{◌≡◌, List, [], ◌∷◌, length, refl, ap, arith, Bool, true, false, ◌&&◌, nat_le, sym, ◌∙◌, String, Vec, Global}
use Rattle.std.specs.String.{string_bytes}
use Rattle.iso_model.specs.declared.terms.Term.{Term}
use Rattle.iso_model.specs.declared.terms.Term.TheOpen.{Term-F}
use Rattle.iso_model.specs.declared.terms.Term.TheVariants.{Compound, rolls-Compound}
use Rattle.iso_model.specs.declared.terms.Term.TheFolds.{fold-roll-Term}
use Rattle.iso_model.specs.Terms.Trees.{Tree, Apply, count, arities_fit}
use Rattle.iso_model.specs.Terms.TermOf.{term_of, row_of, term_step}

pub count_row_of : (ts : List Term) → count (row_of ts) ≡ length ts
count_row_of [] = refl
count_row_of (t ∷ ts) = omega (arith, count_row_of ts)

tests_both : (a b c : Bool) → a && (b && c) ≡ (a && b) && c
tests_both true b c = refl
tests_both false b c = refl

pub term_of_compound : (f : String Global) (v : Vec Term Global) → term_of (Compound f v) ≡ Apply (string_bytes f) (row_of v.items)
term_of_compound f v = ap term_of (sym (rolls-Compound f v)) ∙ fold-roll-Term Tree term_step (Term-F.Compound f v)

-- a compound by the test of its arity
pub arities_of : (t : Term) (f : String Global) (v : Vec Term Global) (b : Bool) → t ≡ Compound f v → b ≡ nat_le 1 (length v.items) && nat_le (length v.items) 255 → arities_fit (term_of t) ≡ b && arities_fit (row_of v.items)
arities_of t f v b is e =
    rw (is, term_of_compound f v, count_row_of v.items, e) (tests_both (nat_le 1 (length v.items)) (nat_le (length v.items) 255) (arities_fit (row_of v.items)))
