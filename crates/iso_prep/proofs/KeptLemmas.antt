-- What is kept of a clause and its variables is what the definitions say of them.
use Rattle.std.proofs.Common.{◌≡◌, ℕ, ◌<◌, List, get_or, sym, ap, ◌∙◌, subst, Option, Some, None, option_map}
use Rattle.std.specs.Borrow.{Bor}
use Rattle.iso_model.specs.declared.terms.Term.{Term}
use Rattle.iso_model.specs.Terms.TermOf.{term_of}
use Rattle.std.proofs.lemmas.Option.{get_or_from_slice_get}
use Rattle.iso_model.specs.Terms.Trees.{Tree}
use Rattle.iso_prep.specs.declared.classes.Class.{Class}
use Rattle.iso_prep.specs.declared.uses.Use.{Use}
use Rattle.iso_prep.specs.Classes.{class_of, goals_of}
use Rattle.iso_prep.specs.Conversions.{IsConverted}
use Rattle.iso_prep.specs.Preparations.{Preparation}
use Rattle.iso_prep.specs.Assembling.{preparation_of}
use Rattle.iso_prep.specs.Readings.{read}
use Rattle.iso_prep.specs.Uses.{AreUses, AreUsesOf, head_or_end, use_of}
use Rattle.iso_prep.proofs.ClassLemmas.{class_by, class_of_use}
use Rattle.iso_prep.proofs.ReadLemmas.{read_is_body}

-- how a variable is used
pub use_kept : (us : List Use) (x : ℕ) (u : Use) (p : Preparation) → AreUsesOf us p → x < p.variables → u ≡ get_or us x u → u ≡ use_of x (head_or_end p.head) (goals_of p.body)
use_kept us x u p uses below item = item ∙ get_or_from_slice_get us x (use_of x (head_or_end p.head) (goals_of p.body)) u (uses.each x below)

-- the class of a variable of a clause
pub class_kept : (us : List Use) (x : ℕ) (u : Use) (head : Tree) (p : Preparation) (r : Class) → p.head ≡ Some head → AreUsesOf us p → x < p.variables → u ≡ get_or us x u → r ≡ class_by u
    → r ≡ class_of x p.head (goals_of p.body)
class_kept us x u head p r is uses below item class =
    class ∙ ap class_by (use_kept us x u p uses below item ∙ ap (λ o. use_of x (head_or_end o) (goals_of p.body)) is) ∙ class_of_use x head (goals_of p.body)
    ∙ ap (λ o. class_of x o (goals_of p.body)) (sym is)

-- the uses that were found are those of what is prepared
pub uses_found : (h : Option Tree) (t : Tree) (n : ℕ) (us : List Use) (p : Preparation) → IsConverted t → preparation_of h t n ≡ p → AreUses us n (head_or_end h) (goals_of (read t)) → AreUsesOf us p
uses_found h t n us p is view uses = subst (AreUsesOf us) view (subst (λ b. AreUses us n (head_or_end h) (goals_of b)) (read_is_body t is) uses)

pub referred : (o : Option (Bor Term)) (h : Option Term) → option_map (λ b. b.now) o ≡ h → option_map (λ b. term_of b.now) o ≡ option_map term_of h
referred None h e = ap (option_map term_of) e
referred (Some b) h e = ap (option_map term_of) e
