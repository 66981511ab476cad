-- What is left to do of a copy, as steps.
use Rattle.std.proofs.Common.{◌≡◌, ℕ, ◌+◌, ◌*◌, ◌<◌, List, [], ◌∷◌, ◌++◌, map, refl, ap, ap₂, sym, ◌∙◌, arith, append_assoc, zero-add, codes, None, String, Vec, Global}
use Rattle.std.specs.Borrow.{Bor}
use Rattle.iso_model.specs.declared.terms.Term.{Term}
use Rattle.iso_model.specs.declared.terms.Term.TheVariants.{Var, Compound}
use Rattle.iso_model.specs.Terms.Trees.{Tree, Variable, Integer, Name, Apply, End, More, row}
use Rattle.std.specs.String.{string_bytes}
use Rattle.iso_model.proofs.OnTerms.RowLemmas.{term_of_compound}
use Rattle.iso_model.specs.Terms.TermOf.{term_of}
use Rattle.iso_model.specs.Terms.Sizes.{size}
use Rattle.iso_model.specs.Terms.Substitutions.{Subst, apply}
use Rattle.iso_model.specs.Terms.Building.{Gather, with_step, with_steps, steps_load}
use Rattle.iso_model.proofs.OnTerms.BuildingLemmas.{with_gathered, with_steps-more, steps_load-more}
use Rattle.iso_model.specs.Terms.Copies.{place_of}
use Rattle.iso_model.specs.Search.Bodies.{one, two}
use Rattle.iso_prep.proofs.TermLemmas.{term_of_variable}
use Rattle.iso_prep.specs.declared.connectives.Connective.{Connective}
use Rattle.iso_prep.specs.Connectives.{text_of, control_of}
use Rattle.iso_prep.proofs.ConversionLemmas.{calls_of_control, calls_kept}
use Rattle.iso_prep.specs.declared.copies.Task.{Task}
use Rattle.iso_prep.specs.declared.copies.Task.TheVariants.{Body, Build}
use Rattle.iso_prep.specs.Conversions.{numbers, with_calls, step_of}

-- terms whose variables are replaced by the same terms
apply-same : (r s : Subst) → ((x : ℕ) → r x ≡ s x) → (t : Tree) → apply r t ≡ apply s t
apply-same r s same (Variable n) = same n
apply-same r s same (Integer z) = refl
apply-same r s same (Name a) = refl
apply-same r s same (Apply f t) = ap (Apply f) (apply-same r s same t)
apply-same r s same End = refl
apply-same r s same (More t ts) = ap₂ More (apply-same r s same t) (apply-same r s same ts)

-- variables by their places
pub apply-places : (vs : List ℕ) (t : Tree) → apply (λ x. Variable (place_of x vs)) t ≡ apply (numbers vs) t
apply-places vs t = apply-same (λ x. Variable (place_of x vs)) (numbers vs) (λ x. ap Variable (sym (zero-add (place_of x vs)))) t

-- a control construct is left to be copied by its parts
module _ (vs : List ℕ) (k : Connective) (xs ys zs ws : List Task) (name : Bor (List ℕ)) (first second : Bor Term) (t : Term) (is : term_of t ≡ two (text_of k) (term_of first.now) (term_of second.now))
    (text : name.now ≡ text_of k) (build : ys ≡ xs ++ Build name 2 ∷ []) (later : zs ≡ ys ++ Body second ∷ []) (next : ws ≡ zs ++ Body first ∷ []) where
  copy_of : Bor Term → Tree
  copy_of u = with_calls (apply (numbers vs) (term_of u.now))

  copied_whole : two (text_of k) (copy_of first) (copy_of second) ≡ with_calls (apply (numbers vs) (term_of t))
  unfolding copy_of
  copied_whole = sym (ap (λ u. with_calls (apply (numbers vs) u)) is ∙ calls_of_control k (apply (numbers vs) (term_of first.now)) (apply (numbers vs) (term_of second.now)))

  pub with_steps-parts : (ts : List Tree) → with_steps (map (step_of vs) ws) ts ≡ with_steps (map (step_of vs) xs) (ts ++ with_calls (apply (numbers vs) (term_of t)) ∷ [])
  unfolding copy_of
  with_steps-parts ts =
      with_steps-more (step_of vs) zs ws (Body first) next ts ∙ with_steps-more (step_of vs) ys zs (Body second) later (ts ++ copy_of first ∷ [])
      ∙ with_steps-more (step_of vs) xs ys (Build name 2) build ((ts ++ copy_of first ∷ []) ++ copy_of second ∷ [])
      ∙ ap (with_steps (map (step_of vs) xs))
      (ap₂ (λ f us. with_step (Gather f 2) us) text (append_assoc ts (copy_of first ∷ []) (copy_of second ∷ [])) ∙ with_gathered (text_of k) 2 ts (copy_of first ∷ copy_of second ∷ []) refl ∙ ap (λ u. ts ++ u ∷ []) copied_whole)

  pub steps_load-parts : steps_load (map (step_of vs) ws) < 2 * size (with_calls (apply (numbers vs) (term_of t))) + steps_load (map (step_of vs) xs)
  unfolding copy_of
  steps_load-parts =
      let a = steps_load-more (step_of vs) zs ws (Body first) next in
      let b = steps_load-more (step_of vs) ys zs (Body second) later in
      let c = steps_load-more (step_of vs) xs ys (Build name 2) build in
      let whole = ap size copied_whole in
      omega arith

-- a variable that is a goal is called
pub call_copied : (vs : List ℕ) (t u : Term) (n p : ℕ) → t ≡ Var n → p ≡ place_of n vs → term_of u ≡ one (codes "call") (term_of (Var p)) → term_of u ≡ with_calls (apply (numbers vs) (term_of t))
call_copied vs t u n p is place call =
    let variable : term_of (Var p) ≡ numbers vs n = term_of_variable p ∙ ap Variable (place ∙ sym (zero-add (place_of n vs))) in
    let whole : with_calls (apply (numbers vs) (term_of t)) ≡ one (codes "call") (numbers vs n) = ap (λ w. with_calls (apply (numbers vs) w)) (ap term_of is ∙ term_of_variable n) in
    call ∙ ap (one (codes "call")) variable ∙ sym whole

-- a compound that is no control construct is copied as it is
pub goal_copied : (vs : List ℕ) (t u : Term) (f : String Global) (v : Vec Term Global) → t ≡ Compound f v → control_of (term_of t) ≡ None → term_of u ≡ apply (λ x. Variable (place_of x vs)) (term_of t)
    → term_of u ≡ with_calls (apply (numbers vs) (term_of t))
goal_copied vs t u f v compound none copy =
    let ts = row (map term_of v.items) in
    let is : term_of t ≡ Apply (string_bytes f) ts = ap term_of compound ∙ term_of_compound f v in
    let kept = ap (λ t. with_calls (apply (numbers vs) t)) is ∙ calls_kept vs (string_bytes f) ts (ap control_of (sym is) ∙ none) ∙ ap (apply (numbers vs)) (sym is) in
    copy ∙ apply-places vs (term_of t) ∙ sym kept
