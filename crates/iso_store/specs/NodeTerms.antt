-- What a list of nodes and a trail stand for: the term of each node, and one substitution.
use Rattle.std.specs.Prelude.{ℕ, ◌==◌, List, [], ◌∷◌, ◌++◌, map, Option, Some, None, Bool, true, false, not, ◌&&◌}
use Rattle.std.specs.List.{slice_get, slice_index_or}
use Rattle.iso_atoms.specs.Texts.{text_at}
use Rattle.iso_model.specs.Terms.Trees.{Tree, Variable, Integer, Name, Apply, End, More, row}
use Rattle.iso_model.specs.Terms.Variables.{occurs}
use Rattle.iso_model.specs.Terms.Substitutions.{Subst, apply, compose, single}
use Rattle.iso_store.specs.declared.nodes.Node.{Node}
use Rattle.iso_store.specs.declared.nodes.Node.TheVariants.{Var, Int, Atom, Compound}

-- the terms at these places
abbrev pub terms_at : List Tree → List ℕ → List Tree
terms_at ts ws = map (λ w. slice_index_or ts w End) ws

-- s with these bindings, one after another, the oldest first
abbrev pub bind_all : Subst → List (ℕ × Tree) → Subst
bind_all s [] = s
bind_all s (b ∷ bs) = bind_all (compose s (single b.0 (apply s b.1))) bs

-- where these are the names of the atoms, in the order of their numbers
module _ (names : List (List ℕ)) where
  -- the term of a node, whose arguments are among these terms. Bindings don't show in it.
  abbrev pub node_term : List Tree → Node → Tree
  node_term ts (Var n b) = Variable n
  node_term ts (Int z) = Integer z
  node_term ts (Atom a) = Name (text_at names a)
  node_term ts (Compound f ws) = Apply (text_at names f) (row (terms_at ts ws.items))

  -- the terms of the nodes behind these terms, each made of those before it
  abbrev pub terms_from : List Tree → List Node → List Tree
  terms_from ts [] = ts
  terms_from ts (c ∷ cs) = terms_from (ts ++ node_term ts c ∷ []) cs

  -- the term that the node at this place was made with
  abbrev pub term_at : List Node → ℕ → Tree
  term_at cs w = slice_index_or (terms_from [] cs) w End

  -- the number and the term of a bound variable
  abbrev pub binding_of : List Node → Option Node → ℕ × Tree
  binding_of cs None = (0, End)
  binding_of cs (Some (Var n None)) = (n, End)
  binding_of cs (Some (Var n (Some j))) = (n, term_at cs j)
  binding_of cs (Some (Int z)) = (0, End)
  binding_of cs (Some (Atom a)) = (0, End)
  binding_of cs (Some (Compound f ws)) = (0, End)

  abbrev pub binding_at : List Node → ℕ → ℕ × Tree
  binding_at cs w = binding_of cs (slice_get cs w)

  -- the bindings of these places
  abbrev pub bindings : List Node → List ℕ → List (ℕ × Tree)
  bindings cs es = map (binding_at cs) es

  -- the substitution of the nodes whose bindings the trail lists
  abbrev pub substitution_of : List Node → List ℕ → Subst
  substitution_of cs es = bind_all Variable (bindings cs es)

-- under s the variable is not bound, and does not occur in the term that it is to be bound to
abbrev pub is_variable : ℕ → Tree → Bool
is_variable n (Variable m) = m == n
is_variable n (Integer z) = false
is_variable n (Name a) = false
is_variable n (Apply f ts) = false
is_variable n End = false
is_variable n (More t ts) = false

abbrev pub may_bind : Subst → ℕ × Tree → Bool
may_bind s b = is_variable b.0 (s b.0) && not (occurs b.0 (apply s b.1))

-- each binding may be made, after those before it
abbrev pub all_may_bind : Subst → List (ℕ × Tree) → Bool
all_may_bind s [] = true
all_may_bind s (b ∷ bs) = may_bind s b && all_may_bind (compose s (single b.0 (apply s b.1))) bs
