-- Names that come leave the terms of the nodes as they are.
use Rattle.std.proofs.Common.{◌≡◌, ℕ, ◌<◌, List, [], ◌∷◌, ◌++◌, length, take, refl, ap, ap₂, sym, ◌∙◌, Option, Some, None, suc, nat_lt}
use Rattle.std.specs.List.{slice_get, slice_index_or, list_any}
use Rattle.iso_atoms.specs.Texts.{KeepsTexts}
use Rattle.iso_store_core.proofs.AtomLemmas.{text-kept, atom-kept}
use Rattle.iso_model.specs.Terms.Trees.{Tree, Variable, Name, Apply, End, row}
use Rattle.iso_store.specs.declared.nodes.Node.{Node}
use Rattle.iso_store.specs.declared.nodes.Node.TheVariants.{Var, Int, Atom, Compound}
use Rattle.iso_store.specs.declared.node_marks.NodesMark.{NodesMark}
use Rattle.iso_store_core.specs.Presents.{Present}
use Rattle.iso_store.specs.NodeTerms.{node_term, terms_at, terms_from, term_at, binding_of, bindings, bind_all, all_may_bind}
use Rattle.iso_store.specs.NodeStores.{variable_nodes, has_number, IsStore, StandsFor, restored, present_of}

-- the atom of the node, where it has one, is one of those that have these names
abbrev AtomStands : List (List ℕ) → Node → Type 0
AtomStands names (Var n b) = Unit {0}
AtomStands names (Int z) = Unit {0}
AtomStands names (Atom a) = a < length names
AtomStands names (Compound f ws) = f < length names

node-stands : (names : List (List ℕ)) (cs : List Node) (es : List ℕ) (next : ℕ) → IsStore names cs es next → (w : ℕ) (c : Node) → slice_get cs w ≡ Some c → AtomStands names c
node-stands names cs es next store w (Var n b) h = tt
node-stands names cs es next store w (Int z) h = tt
node-stands names cs es next store w (Atom a) h = store.atom w a h
node-stands names cs es next store w (Compound f ws) h = store.name w f ws h

module _ (old new : List (List ℕ)) (keeps : KeepsTexts old new) where
  node-kept : (ts : List Tree) (c : Node) → AtomStands old c → node_term new ts c ≡ node_term old ts c
  node-kept ts (Var n b) h = refl
  node-kept ts (Int z) h = refl
  node-kept ts (Atom a) h = ap Name (text-kept old new keeps a h)
  node-kept ts (Compound f ws) h = ap (λ x. Apply x (row (terms_at ts ws.items))) (text-kept old new keeps f h)

  pub terms-kept : (ts : List Tree) (cs : List Node) → ((w : ℕ) (c : Node) → slice_get cs w ≡ Some c → AtomStands old c) → terms_from new ts cs ≡ terms_from old ts cs
  terms-kept ts [] named = refl
  terms-kept ts (c ∷ cs) named =
      ap (λ t. terms_from new (ts ++ t ∷ []) cs) (node-kept ts c (named 0 c refl)) ∙ terms-kept (ts ++ node_term old ts c ∷ []) cs (λ w x h. named (suc w) x h)

  module _ (cs : List Node) (es : List ℕ) (next : ℕ) (store : IsStore old cs es next) where
    same-terms : term_at new cs ≡ term_at old cs
    same-terms = ap (λ ts. λ w. slice_index_or ts w End) (terms-kept [] cs (node-stands old cs es next store))

    same-binding : (o : Option Node) → binding_of new cs o ≡ binding_of old cs o
    same-binding None = refl
    same-binding (Some (Var n None)) = refl
    same-binding (Some (Var n (Some j))) = ap (λ t. (n, t j)) same-terms
    same-binding (Some (Int z)) = refl
    same-binding (Some (Atom a)) = refl
    same-binding (Some (Compound f ws)) = refl

    same-bindings : (fs : List ℕ) → bindings new cs fs ≡ bindings old cs fs
    same-bindings [] = refl
    same-bindings (f ∷ fs) = ap₂ (λ b bs. b ∷ bs) (same-binding (slice_get cs f)) (same-bindings fs)

    pub store-kept : IsStore new cs es next
    store-kept = record {
      arguments = store.arguments;
      arity = store.arity;
      target = store.target;
      older = store.older;
      one_node = store.one_node;
      numbered = store.numbered;
      trailed = store.trailed;
      bound = store.bound;
      may_bind = ap (all_may_bind Variable) (same-bindings es) ∙ store.may_bind;
      atom = λ w a h. atom-kept old new keeps a (store.atom w a h);
      name = λ w f ws h. atom-kept old new keeps f (store.name w f ws h);
    }

    pub present-kept : (limit : ℕ) → present_of new cs es next limit ≡ present_of old cs es next limit
    present-kept limit = ap₂ (λ s t. record { substitution = s; next = next; cells = length cs; variables = variable_nodes cs; limit = limit; holds = λ w. nat_lt w (length cs); term = t; taken = λ n. list_any (has_number n) cs }) (ap (bind_all Variable) (same-bindings es)) same-terms

  -- marks stand on
  pub marks-kept : (limit : ℕ) (cs : List Node) (es : List ℕ) (m : NodesMark) (p : Present ℕ) → StandsFor old limit cs es m p → StandsFor new limit cs es m p
  marks-kept limit cs es m p h = record {
    nodes_top = h.nodes_top;
    trail_top = h.trail_top;
    is_store = store-kept (restored cs es m) (take m.trail es) m.next h.is_store;
    present = h.present ∙ sym (present-kept (restored cs es m) (take m.trail es) m.next h.is_store limit);
  }
