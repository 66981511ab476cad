-- What arithmetic in line comes to.
use Rattle.std.proofs.Common.{◌≡◌, ◌&&◌, ℕ, ℤ, List, [], ◌∷◌, ◌++◌, length, map, true, false, Ok, Err, codes, refl, sym, ap, subst, ◌∙◌}
use Rattle.std.proofs.lemmas.Bool.{false≢true, eq-eqb, or_left, or_right}
use Rattle.std.proofs.lemmas.List.{append-nil}
use Rattle.iso_model.specs.Terms.Trees.{Tree, Variable, Integer, Name, Apply, End, More}
use Rattle.iso_model.specs.declared.terms.Term.{Term}
use Rattle.iso_model.specs.Terms.TermOf.{row_of}
use Rattle.iso_model.specs.Terms.Variables.{occurs}
use Rattle.iso_model.specs.Terms.Substitutions.{Subst, apply}
use Rattle.iso_model.specs.Terms.Copies.{renamed}
use Rattle.iso_model.specs.Search.Arithmetic.{Value, value}
use Rattle.iso_model.specs.Search.Bodies.{two}
use Rattle.iso_model.specs.Search.Errors.{Key, key}
use Rattle.iso_model.specs.Search.Library.{library_answer, equate_integer, tested, compares, comparison_name, with_value_of}
use Rattle.iso_model.specs.Search.Replies.{Answer}
use Rattle.iso_model.specs.declared.kinds.Comparison.{Comparison}
use Rattle.iso_model.specs.declared.kinds.Comparison.TheVariants as comparison
use Rattle.iso_model.specs.declared.kinds.Library.TheVariants as library
use Rattle.iso_compile.specs.Table as table
use Rattle.iso_compile.specs.TermCode.{part}
use Rattle.iso_compile.specs.Tasks.{is_atomic}
use Rattle.iso_compile.specs.Emitted.{part_of}
use Rattle.iso_compile.specs.Expressions.{Step, Take, One, Two, step_of, on_value, done, is_known, steps_of}
use Rattle.iso_compile.specs.Evaluations.{with_one, with_two, evaluated, compared, OccursIn, OccurIn, is_in_line}
use Rattle.iso_compile.specs.declared.expressions.Step as written
use Rattle.iso_compile.specs.declared.instructions.Part as parts
use Rattle.iso_compile.proofs.ExpressionLemmas as expressions

part_value : (next : ℕ) (s : Subst) (t : Tree) → is_atomic t ≡ true → apply s (table.part_term next (λ r. End) (part 0 t)) ≡ apply s (renamed next t)
part_value next s (Variable x) atomic = refl
part_value next s (Integer z) atomic = refl
part_value next s (Name a) atomic = refl
part_value next s (Apply f ts) atomic = absurd (false≢true atomic)
part_value next s End atomic = absurd (false≢true atomic)
part_value next s (More t ts) atomic = absurd (false≢true atomic)

one_value : (v : Value) (k : Key) (go : ℤ → Answer) → with_one (on_value v (λ z. Ok (z ∷ []))) k go ≡ with_value_of v k go
one_value (Ok z) k go = refl
one_value (Err e) k go = refl

two_values : (v w : Value) (k : Key) (go : ℤ → ℤ → Answer) → with_two (on_value v (λ x. on_value w (λ y. Ok (y ∷ x ∷ [])))) k go ≡ with_value_of v k (λ x. with_value_of w k (go x))
two_values (Ok x) (Ok y) k go = refl
two_values (Ok x) (Err e) k go = refl
two_values (Err e) w k go = refl

-- the value of an expression alone, behind others
alone : (t : Tree) → is_known t ≡ true → (next : ℕ) (s : Subst) (zs : List ℤ) → done next s (steps_of t) zs ≡ on_value (value (apply s (renamed next t))) (λ z. Ok (z ∷ zs))
alone t known next s zs = ap (λ ks. done next s ks zs) (sym (append-nil (steps_of t))) ∙ expressions.evaluated t known next s [] zs

is_evaluated : (next : ℕ) (s : Subst) (l r : Tree) → is_atomic l ≡ true → is_known r ≡ true → evaluated next s (part 0 l) (steps_of r) ≡ library_answer library.Is (apply s (renamed next (two (codes "is") l r)))
is_evaluated next s l r atomic known =
    let k : Key = key (codes "is") 2 in
    ap (λ o. with_one o k (equate_integer (apply s (table.part_term next (λ r. End) (part 0 l))))) (alone r known next s [])
    ∙ one_value (value (apply s (renamed next r))) k (equate_integer (apply s (table.part_term next (λ r. End) (part 0 l))))
    ∙ ap (λ t. with_value_of (value (apply s (renamed next r))) k (equate_integer t)) (part_value next s l atomic)

are_compared : (c : Comparison) (next : ℕ) (s : Subst) (l r : Tree) → is_known l ≡ true → is_known r ≡ true
    → compared c next s (steps_of l ++ steps_of r) ≡ library_answer (library.Compare c) (apply s (renamed next (two (comparison_name c) l r)))
are_compared c next s l r left right =
    let k : Key = key (comparison_name c) 2 in
    let v : Value = value (apply s (renamed next l)) in
    let w : Value = value (apply s (renamed next r)) in
    ap (λ o. with_two o k (λ x y. tested (compares c x y)))
    (expressions.evaluated l left next s (steps_of r) [] ∙ expressions.on_same v (λ x. done next s (steps_of r) (x ∷ [])) (λ x. on_value w (λ y. Ok (y ∷ x ∷ []))) (λ x. alone r right next s (x ∷ [])))
    ∙ two_values v w k (λ x y. tested (compares c x y))

pub is_comes : (p : parts.Part) (ks : List written.Step) (l r : Tree) → is_atomic l ≡ true → part_of p ≡ part 0 l → is_known r ≡ true → map step_of ks ≡ steps_of r → (next : ℕ) (s : Subst)
    → evaluated next s (part_of p) (map step_of ks) ≡ library_answer library.Is (apply s (renamed next (two (codes "is") l r)))
is_comes p ks l r atomic is known made next s = rw (is, made) (is_evaluated next s l r atomic known)

pub compare_comes : (c : Comparison) (ks : List written.Step) (l r : Tree) → is_known l ≡ true → is_known r ≡ true → map step_of ks ≡ steps_of l ++ steps_of r → (next : ℕ) (s : Subst)
    → compared c next s (map step_of ks) ≡ library_answer (library.Compare c) (apply s (renamed next (two (comparison_name c) l r)))
compare_comes c ks l r left right made next s = rw made (are_compared c next s l r left right)

-- ---- variables

-- a variable or a constant of the term
pub part_occurs : (t u : Tree) → ((x : ℕ) → occurs x u ≡ true → occurs x t ≡ true) → OccursIn t (part 0 u)
part_occurs t (Variable x) within = within x (eq-eqb x x refl)
part_occurs t (Integer z) within = tt
part_occurs t (Name a) within = tt
part_occurs t (Apply f ts) within = tt
part_occurs t End within = tt
part_occurs t (More u us) within = tt

occur_append : (t : Tree) (ks js : List Step) → OccurIn t ks → OccurIn t js → OccurIn t (ks ++ js)
occur_append t [] js h k = k
occur_append t (Take p ∷ ks) js h k = (h.0, occur_append t ks js h.1 k)
occur_append t (One f ∷ ks) js h k = occur_append t ks js h k
occur_append t (Two f ∷ ks) js h k = occur_append t ks js h k

-- the steps of an expression of the term
pub steps_occur : (t u : Tree) → ((x : ℕ) → occurs x u ≡ true → occurs x t ≡ true) → OccurIn t (steps_of u)
steps_occur t (Variable x) within = (within x (eq-eqb x x refl), tt)
steps_occur t (Integer z) within = (tt, tt)
steps_occur t (Apply f (More u End)) within =
    occur_append t (steps_of u) (One f ∷ [])
    (steps_occur t u (λ x is. within x (or_left (occurs x u) (occurs x End) is))) tt
steps_occur t (Apply f (More u (More v End))) within =
    occur_append t (steps_of u) (steps_of v ++ Two f ∷ [])
    (steps_occur t u (λ x is. within x (or_left (occurs x u) (occurs x (More v End)) is)))
    (occur_append t (steps_of v) (Two f ∷ [])
    (steps_occur t v (λ x is. within x (or_right (occurs x u) (occurs x (More v End))
    (or_left (occurs x v) (occurs x End) is)))) tt)
steps_occur t u within = tt

-- the sides of a goal of two arguments
left_occurs : (f : List ℕ) (l r : Tree) (x : ℕ) → occurs x l ≡ true → occurs x (two f l r) ≡ true
left_occurs f l r x is = or_left (occurs x l) (occurs x (More r End)) is

right_occurs : (f : List ℕ) (l r : Tree) (x : ℕ) → occurs x r ≡ true → occurs x (two f l r) ≡ true
right_occurs f l r x is = or_right (occurs x l) (occurs x (More r End)) (or_left (occurs x r) (occurs x End) is)

pub is_occurs : (p : parts.Part) (l r : Tree) → part_of p ≡ part 0 l → OccursIn (two (codes "is") l r) (part_of p)
is_occurs p l r is =
    subst (OccursIn (two (codes "is") l r)) (sym is)
    (part_occurs (two (codes "is") l r) l (left_occurs (codes "is") l r))

pub right_occur : (f : List ℕ) (ks : List written.Step) (l r : Tree) → map step_of ks ≡ steps_of r
    → OccurIn (two f l r) (map step_of ks)
right_occur f ks l r made =
    subst (OccurIn (two f l r)) (sym made) (steps_occur (two f l r) r (right_occurs f l r))

pub both_occur : (f : List ℕ) (ks : List written.Step) (l r : Tree) → map step_of ks ≡ steps_of l ++ steps_of r
    → OccurIn (two f l r) (map step_of ks)
both_occur f ks l r made =
    subst (OccurIn (two f l r)) (sym made)
    (occur_append (two f l r) (steps_of l) (steps_of r) (steps_occur (two f l r) l (left_occurs f l r))
    (steps_occur (two f l r) r (right_occurs f l r)))

-- goals of other than two arguments are not in line
pub others_in_line : (f : List ℕ) (ts : List Term) → (length ts ≡ 2 → ⊥) → is_in_line (Apply f (row_of ts)) ≡ false
others_in_line f [] other = refl
others_in_line f (t ∷ []) other = refl
others_in_line f (t ∷ u ∷ []) other = absurd (other refl)
others_in_line f (t ∷ u ∷ v ∷ ts) other = refl

-- a comparison is in line where both sides are known
pub comparison_in_line : (c : Comparison) (l r : Tree) → is_in_line (two (comparison_name c) l r) ≡ (is_known l && is_known r)
comparison_in_line comparison.Equal l r = refl
comparison_in_line comparison.Unequal l r = refl
comparison_in_line comparison.Less l r = refl
comparison_in_line comparison.AtMost l r = refl
comparison_in_line comparison.Greater l r = refl
comparison_in_line comparison.AtLeast l r = refl
