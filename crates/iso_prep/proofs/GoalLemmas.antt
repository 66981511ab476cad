-- The goals of a body, gone through part by part.
use Rattle.std.proofs.Common.{◌≡◌, List, [], ◌∷◌, ◌++◌, refl, sym, ap, ◌∙◌, append_assoc}
use Rattle.std.proofs.lemmas.List.{append-nil}
use Rattle.std.specs.Borrow.{Bor}
use Rattle.iso_model.specs.declared.terms.Term.{Term}
use Rattle.iso_model.specs.Terms.Trees.{Tree}
use Rattle.iso_model.specs.Terms.TermOf.{term_of}
use Rattle.iso_model.specs.Search.Bodies as bodies
use Rattle.iso_model.specs.Search.Bodies.{Body, Run, two, either}
use Rattle.iso_prep.specs.declared.connectives.Connective.{Connective}
use Rattle.iso_prep.specs.declared.connectives.Connective.TheVariants as connective
use Rattle.iso_prep.specs.Connectives.{text_of, join_of}
use Rattle.iso_prep.specs.Classes.{goals_of}
use Rattle.iso_prep.specs.Readings.{read}
use Rattle.iso_prep.specs.Uses.{goals_left, goal_terms}

goals_either : (a b : Body) → goals_of (either a b) ≡ goals_of a ++ goals_of b
goals_either bodies.Cut b = refl
goals_either (Run t) b = refl
goals_either (bodies.And x y) b = refl
goals_either (bodies.Or x y) b = refl
goals_either (bodies.If x y) b = sym (append_assoc (goals_of x) (goals_of y) (goals_of b))
goals_either (bodies.Choose x y z) b = refl

pub goals_joined : (k : Connective) (a b : Body) → goals_of (join_of k a b) ≡ goals_of a ++ goals_of b
goals_joined connective.And a b = refl
goals_joined connective.Or a b = goals_either a b
goals_joined connective.If a b = refl

pub read_joint : (k : Connective) (a b : Tree) → read (two (text_of k) a b) ≡ join_of k (read a) (read b)
read_joint connective.And a b = refl
read_joint connective.Or a b = refl
read_joint connective.If a b = refl

goals_push : (ts : List (Bor Term)) (t : Bor Term) → goals_left (ts ++ t ∷ []) ≡ goals_of (read (term_of t.now)) ++ goals_left ts
goals_push [] t = sym (append-nil (goals_of (read (term_of t.now))))
goals_push (u ∷ ts) t = ap (λ gs. gs ++ goals_of (read (term_of u.now))) (goals_push ts t) ∙ append_assoc (goals_of (read (term_of t.now))) (goals_left ts) (goals_of (read (term_of u.now)))

goal_terms-push : (ts : List (Bor Term)) (t : Bor Term) → goal_terms (ts ++ t ∷ []) ≡ goal_terms ts ++ term_of t.now ∷ []
goal_terms-push [] t = refl
goal_terms-push (u ∷ ts) t = ap (λ gs. term_of u.now ∷ gs) (goal_terms-push ts t)

-- a control construct's parts are left
module _ (k : Connective) (t : Term) (xs ys zs : List (Bor Term)) (first second : Bor Term) (is : term_of t ≡ two (text_of k) (term_of first.now) (term_of second.now)) (one : ys ≡ xs ++ second ∷ []) (other : zs ≡ ys ++ first ∷ []) where
  pub goals_whole : goals_of (read (term_of t)) ≡ goals_of (read (term_of first.now)) ++ goals_of (read (term_of second.now))
  goals_whole = ap (λ u. goals_of (read u)) is ∙ ap goals_of (read_joint k (term_of first.now) (term_of second.now)) ∙ goals_joined k (read (term_of first.now)) (read (term_of second.now))

  pub goals_parts : goals_left zs ≡ goals_of (read (term_of t)) ++ goals_left xs
  goals_parts =
      ap goals_left other ∙ goals_push ys first ∙ ap (λ gs. goals_of (read (term_of first.now)) ++ gs) (ap goals_left one ∙ goals_push xs second)
      ∙ sym (append_assoc (goals_of (read (term_of first.now))) (goals_of (read (term_of second.now))) (goals_left xs)) ∙ ap (λ gs. gs ++ goals_left xs) (sym goals_whole)

-- a goal was appended
pub goal_appended : (xs ys : List (Bor Term)) (g : Bor Term) (b : Body) (left : List Tree) → ys ≡ xs ++ g ∷ [] → b ≡ Run (term_of g.now) → goal_terms ys ++ left ≡ goal_terms xs ++ (goals_of b ++ left)
goal_appended xs ys g b left more is =
    ap (λ gs. gs ++ left) (ap goal_terms more ∙ goal_terms-push xs g) ∙ append_assoc (goal_terms xs) (term_of g.now ∷ []) left ∙ ap (λ c. goal_terms xs ++ (goals_of c ++ left)) (sym is)

-- the last part was taken
module _ (xs ys : List (Bor Term)) (x : Bor Term) (more : ys ≡ xs ++ x ∷ []) where
  pub goals_popped : goals_left ys ≡ goals_of (read (term_of x.now)) ++ goals_left xs
  goals_popped = ap goals_left more ∙ goals_push xs x
