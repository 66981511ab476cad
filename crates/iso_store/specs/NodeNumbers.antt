-- The numbers of a store's variables: one that no variable has is untouched.
use Rattle.std.proofs.Common.{◌≡◌, ◌≢◌, ℕ, zero, suc, ◌<◌, ◌≤◌, ◌==◌, ◌||◌, List, [], ◌∷◌, length, Bool, true, false, refl, ap, sym, ◌∙◌, arith, Option, Some, None}
use Rattle.std.specs.List.{slice_get, list_any}
use Rattle.std.proofs.lemmas.Bool.{false≢true, or_left, or_right, eq-eqb, ltb-true, false_from_ne_true}
use Rattle.iso_model.specs.Terms.Trees.{Variable}
use Rattle.iso_model.specs.Terms.Variables.{occurs, is_in}
use Rattle.iso_model.specs.Terms.Substitutions.{Subst, apply, compose, single}
use Rattle.iso_model.specs.Terms.Unification.Applied.{single_other}
use Rattle.iso_store.specs.declared.nodes.Node.{Node}
use Rattle.iso_store.specs.declared.nodes.Node.TheVariants.{Var, Int, Atom, Compound}
use Rattle.iso_store_core.specs.Presents.{Untouched}
use Rattle.iso_store.specs.NodeTerms.{term_at, binding_of, binding_at, bindings, bind_all, substitution_of}
use Rattle.iso_store.specs.NodeStores.{is_bound, has_number, variable_nodes, IsStore, present_of}
use Rattle.iso_store.specs.NodeVariables.{inside-term, inside-meaning}
use Rattle.iso_store.specs.VariableKinds.{Inside}

pub variables-within : (cs : List Node) → variable_nodes cs ≤ length cs
variables-within [] = omega arith
variables-within (Var n b ∷ cs) = let inner = variables-within cs in omega arith
variables-within (Int z ∷ cs) = let inner = variables-within cs in omega arith
variables-within (Atom a ∷ cs) = let inner = variables-within cs in omega arith
variables-within (Compound f ws ∷ cs) = let inner = variables-within cs in omega arith

-- no node of the list has the number
pub unnumbered : (cs : List Node) (n : ℕ) → list_any (has_number n) cs ≡ false → (w : ℕ) (b : _) → slice_get cs w ≢ Some (Var n b)
unnumbered [] n h w b e = cc
unnumbered (c ∷ cs) n h zero b e =
    let is : Var n b ≡ c = cc in
    let here : has_number n c ≡ true = ap (has_number n) (sym is) ∙ eq-eqb n n refl in
    false≢true (sym h ∙ or_left (has_number n c) (list_any (has_number n) cs) here)
unnumbered (c ∷ cs) n h (suc w) b e = unnumbered cs n (or_false_right (has_number n c) (list_any (has_number n) cs) h) w b e
  where
    or_false_right : (x y : Bool) → x || y ≡ false → y ≡ false
    or_false_right true y q = absurd (cc)
    or_false_right false y q = q

-- a bound node, in parts
bound_parts : (o : Option Node) → is_bound o ≡ true → (n : ℕ) × (j : ℕ) × (o ≡ Some (Var n (Some j)))
bound_parts None h = absurd (false≢true h)
bound_parts (Some (Var n None)) h = absurd (false≢true h)
bound_parts (Some (Var n (Some j))) h = (n, j, refl)
bound_parts (Some (Int z)) h = absurd (false≢true h)
bound_parts (Some (Atom a)) h = absurd (false≢true h)
bound_parts (Some (Compound f ws)) h = absurd (false≢true h)

-- a variable that none of the bindings is of
bind_all-stays : (names : List (List ℕ)) (cs : List Node) (es : List ℕ) (s : Subst) (n : ℕ) → s n ≡ Variable n → ((w : ℕ) → is_in w es ≡ true → n ≢ (binding_at names cs w).0) → bind_all s (bindings names cs es) n ≡ Variable n
bind_all-stays names cs [] s n h apart = h
bind_all-stays names cs (e ∷ es) s n h apart =
    let b = binding_at names cs e in
    let t = single b.0 (apply s b.1) in
    let other : n ≢ b.0 = apart e (or_left (e == e) (is_in e es) (eq-eqb e e refl)) in
    let now : compose s t n ≡ Variable n = ap (apply t) h ∙ single_other b.0 n (apply s b.1) other in
    bind_all-stays names cs es (compose s t) n now (λ w i. apart w (or_right (e == w) (is_in w es) i))

-- where these are the names of the atoms
module _ (names : List (List ℕ)) (cs : List Node) (es : List ℕ) (next : ℕ) (store : IsStore names cs es next) where
  -- each place of the trail holds a bound variable
  pub trail_parts : (w : ℕ) → is_in w es ≡ true → (n : ℕ) × (j : ℕ) × (slice_get cs w ≡ Some (Var n (Some j)))
  trail_parts w h = bound_parts (slice_get cs w) (store.bound w h)

  -- a variable that no bound node is of
  pub unbound-value : (n : ℕ) → ((w j : ℕ) → slice_get cs w ≢ Some (Var n (Some j))) → substitution_of names cs es n ≡ Variable n
  unbound-value n unbound = bind_all-stays names cs es Variable n refl apart
    where
      apart : (w : ℕ) → is_in w es ≡ true → n ≢ (binding_at names cs w).0
      apart w h e =
          let p = trail_parts w h in
          let same : n ≡ p.0 = e ∙ ap (λ o. (binding_of names cs o).0) p.2 in
          unbound w p.1 (p.2 ∙ ap (λ m. Some (Var m (Some p.1))) (sym same))

  -- a variable has the number
  abbrev Used : ℕ → Type 0
  Used n = (w : ℕ) × (b : _) × (slice_get cs w ≡ Some (Var n b))

  used-term : (w : ℕ) → w < length cs → Inside Used (term_at names cs w)
  used-term w within = inside-term Used names cs es next store (length cs) (omega arith) (λ v m b below there. (v, b, there)) w within

  used-target : (e : ℕ) (o : Option Node) → slice_get cs e ≡ o → Inside Used (binding_of names cs o).1
  used-target e None is = λ y h. absurd (false≢true h)
  used-target e (Some (Var m None)) is = λ y h. absurd (false≢true h)
  used-target e (Some (Var m (Some j))) is = used-term j (store.target e m j is)
  used-target e (Some (Int z)) is = λ y h. absurd (false≢true h)
  used-target e (Some (Atom a)) is = λ y h. absurd (false≢true h)
  used-target e (Some (Compound f ws)) is = λ y h. absurd (false≢true h)

  pub nodes-untouched : (limit n : ℕ) → list_any (has_number n) cs ≡ false → Untouched (present_of names cs es next limit) n
  nodes-untouched limit n none = record {
    substitution = unbound-value n (λ w j. unnumbered cs n none w (Some j));
    meanings = λ w holds.
        false_from_ne_true (occurs n (apply (substitution_of names cs es) (term_at names cs w))) (λ h.
        let used = inside-meaning Used names cs es next store (λ e kind. used-target e (slice_get cs e) refl) (term_at names cs w) (used-term w (ltb-true w (length cs) holds)) n h in
        unnumbered cs n none used.0 used.1 used.2);
  }
