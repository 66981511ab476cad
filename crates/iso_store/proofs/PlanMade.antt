-- Words for what a plan makes.
use Rattle.std.proofs.Common.{◌≡◌, ℕ, ◌+◌, ◌-◌, List, [], ◌∷◌, ◌++◌, length, map, get_or, refl, ap, ap₂, sym, ◌∙◌, subst, arith, length-append}
use Rattle.std.specs.List.{All}
use Rattle.std.proofs.lemmas.List.{length-map, append-nil}
use Rattle.iso_model.specs.Terms.Trees.{Tree, Variable}
use Rattle.iso_model.specs.Terms.Variables.{variables, variable_count}
use Rattle.iso_model.specs.Terms.Substitutions.{Subst, apply}
use Rattle.iso_model.specs.Terms.Copies.{place_of, copy_from, numbers_from}
use Rattle.iso_model.proofs.OnTerms.CopyLemmas.{places, distinct_from_distinct}
use Rattle.iso_store_core.specs.declared.patterns.Part.{Part}
use Rattle.iso_store_core.specs.declared.patterns.Part.TheVariants.{Variable as Place, Integer as Number, Atom, Compound}
use Rattle.iso_store_core.specs.Presents.{Present, Holds, meaning, KeepsWords, Makes, Gathers}
use Rattle.iso_store.specs.Plans.{Sketch, IsPlan, sketch_of, made_known, with_part}
use Rattle.iso_store.proofs.PlanLemmas.{is-plan-applied}
use Rattle.iso_store.proofs.Gathering.{keeps-none, keeps-then, terms-kept, gathers-more, gathers-length}

pub gathers-kept : {W : Type 0} {p q : Present W} (ws : List W) → KeepsWords p q → q.substitution ≡ p.substitution → All (Holds p) ws → Gathers p q ws (map p.term ws)
gathers-kept ws keeps same hold = record {
  words = keeps;
  substitution = same;
  hold = λ k d below. keeps.stand (get_or ws k d) (hold k d below);
  terms = terms-kept keeps ws hold;
}

pub gathers-then : {W : Type 0} {p q r : Present W} {ws us : List W} {ts vs : List Tree} → Gathers p q ws ts → Gathers q r us vs → Gathers p r us vs
gathers-then first second = record { words = keeps-then first.words second.words; substitution = second.substitution ∙ first.substitution; hold = second.hold; terms = second.terms }

last-term : {W : Type 0} (f : W → Tree) (ws : List W) (ts : List Tree) (t : Tree) (w : W) → map f ws ≡ ts ++ t ∷ [] → w ≡ get_or ws (length ts) w → f w ≡ t
last-term f [] [] t w is here = let no : [] ≡ t ∷ [] = is in cc
last-term f [] (u ∷ ts) t w is here = let no : [] ≡ u ∷ (ts ++ t ∷ []) = is in cc
last-term f (v ∷ ws) [] t w is here = let all : f v ∷ map f ws ≡ t ∷ [] = is in let head : f v ≡ t = cc in ap f here ∙ head
last-term f (v ∷ ws) (u ∷ ts) t w is here = let all : f v ∷ map f ws ≡ u ∷ (ts ++ t ∷ []) = is in let rest : map f ws ≡ ts ++ t ∷ [] = cc in last-term f ws ts t w rest here

-- the last word is known too
pub gathers-known : {W : Type 0} {p q : Present W} (known ws : List W) (ts : List Tree) (t : Tree) (w : W) → All (Holds p) known → Gathers p q ws (ts ++ t ∷ []) → w ≡ get_or ws (length ws - 1) w → Gathers p q (known ++ w ∷ []) (map p.term known ++ t ∷ [])
gathers-known {W} {p} {q} known ws ts t w hold so last =
    let size = gathers-length so ∙ length-append ts (t ∷ []) in
    let place : length ws - 1 ≡ length ts = omega arith in
    let here : w ≡ get_or ws (length ts) w = last ∙ ap (λ k. get_or ws k w) place in
    let made : Makes q q w t = record {
      words = keeps-none q;
      substitution = refl;
      holds = subst (Holds q) (sym last) (so.hold (length ws - 1) w (omega arith));
      term = last-term q.term ws ts t w so.terms here;
    } in
    gathers-more (gathers-kept known so.words so.substitution hold) made

pub none-made : (names : List (List ℕ)) (k : Part) (ts : List Tree) → ((f n : ℕ) → k ≡ Compound f n → ⊥) → made_known names k ts ≡ []
none-made names (Place j) ts none = refl
none-made names (Number z) ts none = refl
none-made names (Atom a) ts none = refl
none-made names (Compound f n) ts none = absurd (none f n refl)

pub gathers-none : {W : Type 0} {p q : Present W} (names : List (List ℕ)) (k : Part) (known : List W) (ts : List Tree) → ((f n : ℕ) → k ≡ Compound f n → ⊥) → KeepsWords p q → q.substitution ≡ p.substitution → All (Holds p) known
    → Gathers p q known (map p.term known ++ made_known names k ts)
gathers-none {W} {p} {q} names k known ts none keeps same hold =
    subst (Gathers p q known) (sym (ap (λ us. map p.term known ++ us) (none-made names k ts none) ∙ append-nil (map p.term known))) (gathers-kept known keeps same hold)

-- the words so far are those of the sketch so far
pub sketch-is : {W : Type 0} {p q : Present W} (s : Sketch) (ws known : List W) → Gathers p q ws s.terms → Gathers p q known s.known → sketch_of q ws known ≡ s
sketch-is s ws known so also = ap₂ (λ ts us. record { terms = ts; known = us }) so.terms also.terms

-- one part more
module _ {W : Type 0} {p q r : Present W} (names : List (List ℕ)) (s : Sketch) (ws known us : List W) (so : Gathers p q ws s.terms) (also : Gathers p q known s.known) (k : Part) where
  pub words-more : Gathers q r us (with_part names k (sketch_of q ws known)).terms → Gathers p r us (with_part names k s).terms
  words-more made = gathers-then so (subst (λ x. Gathers q r us (with_part names k x).terms) (sketch-is s ws known so also) made)

  pub known-more : Gathers q r us (with_part names k (sketch_of q ws known)).known → Gathers p r us (with_part names k s).known
  known-more made = gathers-then also (subst (λ x. Gathers q r us (with_part names k x).known) (sketch-is s ws known so also) made)

-- words for new variables, from this number on, are for what the variables of the term become in its copy
pub copied-known : (t : Tree) (n k : ℕ) → k ≡ variable_count t → map (apply (λ x. Variable (n + place_of x (variables t)))) (map Variable (variables t)) ≡ map Variable (numbers_from n k)
copied-known t n k same =
    let numbers = places n (variables t) (distinct_from_distinct [] t tt) ∙ ap (numbers_from n) (sym same) in
    renamed-list (variables t) ∙ ap (map Variable) numbers
  where
    renamed-list : (vs : List ℕ) → map (apply (λ x. Variable (n + place_of x (variables t)))) (map Variable vs) ≡ map Variable (map (λ x. n + place_of x (variables t)) vs)
    renamed-list [] = refl
    renamed-list (v ∷ vs) = ap (λ us. Variable (n + place_of v (variables t)) ∷ us) (renamed-list vs)

-- the plan of a term is one of its copy, where the words for new variables are known
pub plan-of-copy : {W : Type 0} {q r : Present W} (names : List (List ℕ)) (t : Tree) (known : List W) (ks : List Part) (first next k : ℕ) → IsPlan names (map Variable (variables t)) ks t
    → Gathers q r known (map Variable (numbers_from first k)) → k ≡ variable_count t → first ≡ next → IsPlan names (map r.term known) ks (copy_from t next)
plan-of-copy {W} {q} {r} names t known ks first next k plan so size number =
    let fresh : Subst = λ x. Variable (next + place_of x (variables t)) in
    let same = copied-known t next k size ∙ ap (λ n. map Variable (numbers_from n k)) (sym number) ∙ sym so.terms in
    subst (λ us. IsPlan names us ks (copy_from t next)) same (is-plan-applied names fresh (map Variable (variables t)) ks t plan)

-- the same where the known terms are its new variables
pub plan-copied : (names : List (List ℕ)) (t : Tree) (known : List Tree) (ks : List Part) (next k : ℕ) → IsPlan names (map Variable (variables t)) ks t → known ≡ map Variable (numbers_from next k) → k ≡ variable_count t → IsPlan names known ks (copy_from t next)
plan-copied names t known ks next k plan is size =
    let fresh : Subst = λ x. Variable (next + place_of x (variables t)) in
    let same = copied-known t next k size ∙ sym is in
    subst (λ us. IsPlan names us ks (copy_from t next)) same (is-plan-applied names fresh (map Variable (variables t)) ks t plan)

pub variables-many : {W : Type 0} (p : Present W) (t : Tree) (ws : List W) → map (meaning p) ws ≡ map Variable (variables t) → length ws ≡ variable_count t
variables-many p t ws list = sym (length-map ws (meaning p)) ∙ ap length list ∙ length-map (variables t) Variable
