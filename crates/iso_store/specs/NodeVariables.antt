-- Variables of one kind in a store of nodes: where nodes have no others, and are bound to nothing that has others,
-- the terms that they stand for have no others.
use Rattle.std.proofs.Common.{◌≡◌, ℕ, zero, suc, ◌<◌, ◌≤◌, List, [], ◌∷◌, length, map, get_or, ap, sym, ◌∙◌, arith, Some, inl, inr}
use Rattle.std.specs.List.{slice_get}
use Rattle.std.proofs.lemmas.Bool.{false≢true}
use Rattle.std.proofs.lemmas.List.{get_or-map, length-map}
use Rattle.std.proofs.lemmas.Option.{slice_get_cases}
use Rattle.iso_model.specs.Terms.Trees.{Tree, Variable, End}
use Rattle.iso_model.specs.Terms.Variables.{occurs}
use Rattle.iso_model.specs.Terms.Substitutions.{Subst, apply, compose, single}
use Rattle.iso_store.specs.declared.nodes.Node.{Node}
use Rattle.iso_store.specs.declared.nodes.Node.TheVariants.{Var, Int, Atom, Compound}
use Rattle.iso_store.specs.NodeTerms.{term_at, binding_at, bindings, bind_all, substitution_of}
use Rattle.iso_store.specs.NodeStores.{IsStore}
use Rattle.iso_store.specs.NodeLemmas.{term_at-variable, term_at-integer, term_at-atom, term_at-compound}
use Rattle.iso_store.specs.VariableKinds.{Inside, Keeps, inside-variable, inside-row, inside-applied, keeps-single}

-- where Kind says which variables are of the kind
module _ (Kind : ℕ → Type 0) where
  -- where these are the names of the atoms
  module _ (names : List (List ℕ)) (cs : List Node) (es : List ℕ) (next : ℕ) (store : IsStore names cs es next) where
    -- the terms of the nodes before a place, where all variables among these are of the kind
    module _ (top : ℕ) (within : top ≤ length cs) (variables : (w m : ℕ) (b : _) → w < top → slice_get cs w ≡ Some (Var m b) → Kind m) where
      inside-node : (w : ℕ) (x : Node) → slice_get cs w ≡ Some x → w < top → ((v : ℕ) → v < w → Inside Kind (term_at names cs v)) → Inside Kind (term_at names cs w)
      inside-node w (Var m b) there below before = rw (term_at-variable names cs w m b there) (inside-variable Kind m (variables w m b below there))
      inside-node w (Int z) there below before = λ y h. absurd (false≢true (ap (occurs y) (sym (term_at-integer names cs w z there)) ∙ h))
      inside-node w (Atom a) there below before = λ y h. absurd (false≢true (ap (occurs y) (sym (term_at-atom names cs w a there)) ∙ h))
      inside-node w (Compound f ws) there below before =
          rw (term_at-compound names cs w f ws there (store.arguments w f ws there)) (inside-row Kind (map (term_at names cs) ws.items) (λ k less. let size = length-map ws.items (term_at names cs) in let here : k < length ws.items = omega arith in rw (get_or-map (term_at names cs) ws.items k 0 End here) (before (get_or ws.items k 0) (store.arguments w f ws there k here))))

      inside-below : (k w : ℕ) → w < k → w < top → Inside Kind (term_at names cs w)
      inside-below zero w h below = absurd (omega arith)
      inside-below (suc k) w h below =
          elim ((slice_get_cases cs w).1) [
            | inl found ↦ inside-node w found.0 found.2 below (λ v less. inside-below k v (omega arith) (omega arith))
            | inr past ↦ let beyond = past.0 in absurd (omega arith)
          ]

      pub inside-term : (w : ℕ) → w < top → Inside Kind (term_at names cs w)
      inside-term w below = inside-below (suc w) w (omega arith) below

    -- what terms stand for, where variables of the kind are bound to such terms alone
    module _ (targets : (e : ℕ) → Kind (binding_at names cs e).0 → Inside Kind (binding_at names cs e).1) where
      keeps-all : (s : Subst) (fs : List ℕ) → Keeps Kind s → Keeps Kind (bind_all s (bindings names cs fs))
      keeps-all s [] keeps = keeps
      keeps-all s (e ∷ fs) keeps =
          let b = binding_at names cs e in
          let r = apply s b.1 in
          let one = keeps-single Kind b.0 r (λ kind. inside-applied Kind s b.1 keeps (targets e kind)) in
          keeps-all (compose s (single b.0 r)) fs (λ m kind. inside-applied Kind (single b.0 r) (s m) one (keeps m kind))

      pub inside-meaning : (t : Tree) → Inside Kind t → Inside Kind (apply (substitution_of names cs es) t)
      inside-meaning t inside = inside-applied Kind (substitution_of names cs es) t (keeps-all Variable es (inside-variable Kind)) inside
