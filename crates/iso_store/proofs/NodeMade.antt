-- A node that comes gives a word for its term.
use Rattle.std.proofs.Common.{◌≡◌, ℕ, ◌+◌, ◌<◌, List, [], ◌∷◌, ◌++◌, length, false, refl, ap, ◌∙◌, arith, length-append, IfOk, is_ok, if◌then◌else◌, Result, Ok, Err, Some, suc}
use Rattle.std.specs.List.{slice_get, list_any}
use Rattle.std.proofs.lemmas.Bool.{lt-ltb, ltb-true, ne_eqb, or_from}
use Rattle.iso_model.specs.Terms.Trees.{Tree}
use Rattle.iso_store.specs.declared.nodes.Node.{Node}
use Rattle.iso_store.specs.declared.nodes.Node.TheVariants.{Var, Int, Atom, Compound}
use Rattle.iso_store_core.specs.declared.shapes.StoreFault.{StoreFault}
use Rattle.iso_store_core.specs.Presents.{Makes}
use Rattle.iso_store.specs.NodeTerms.{node_term, terms_from}
use Rattle.iso_store.specs.NodeStores.{variable_nodes, IsStore, MayPush, has_number, present_of}
use Rattle.iso_store.specs.NodeLemmas.{term_at-push, term_at-pushed}
use Rattle.iso_store.proofs.NodeChanges.{pushed-substitution}

node-untaken : (n : ℕ) (c : Node) → ((m : ℕ) (b : _) → c ≡ Var m b → m < n) → has_number n c ≡ false
node-untaken n (Var m b) below = let less = below m b refl in ne_eqb m n (λ e. omega arith)
node-untaken n (Int z) below = refl
node-untaken n (Atom a) below = refl
node-untaken n (Compound f ws) below = refl

-- a number above those of all variables
pub untaken : (n : ℕ) (cs : List Node) → ((w m : ℕ) (b : _) → slice_get cs w ≡ Some (Var m b) → m < n) → list_any (has_number n) cs ≡ false
untaken n [] below = refl
untaken n (c ∷ cs) below =
    or_from (has_number n c) (list_any (has_number n) cs) (node-untaken n c (λ m b is. below 0 m b (ap Some is))) (untaken n cs (λ w m b h. below (suc w) m b h))

pub nodes-append : (cs ds : List Node) → variable_nodes (cs ++ ds) ≡ variable_nodes cs + variable_nodes ds
nodes-append [] ds = omega arith
nodes-append (Var n b ∷ cs) ds = omega (arith, nodes-append cs ds)
nodes-append (Int z ∷ cs) ds = nodes-append cs ds
nodes-append (Atom a ∷ cs) ds = nodes-append cs ds
nodes-append (Compound f ws ∷ cs) ds = nodes-append cs ds

-- where these are the names of the atoms
module _ (names : List (List ℕ)) where
  pub pushed-makes : (cs : List Node) (es : List ℕ) (next limit : ℕ) (c : Node) (t : Tree) → IsStore names cs es next → MayPush names cs next c → node_term names (terms_from names [] cs) c ≡ t →
      Makes (present_of names cs es next limit) (present_of names (cs ++ c ∷ []) es next limit) (length cs) t
  pushed-makes cs es next limit c t store may is = record {
    words = record {
      stand = λ w h. let below = ltb-true w (length cs) h in lt-ltb w (length (cs ++ c ∷ [])) (omega (arith, length-append cs (c ∷ [])));
      terms = λ w h. term_at-push names cs c w (ltb-true w (length cs) h);
    };
    substitution = pushed-substitution names cs es next store c may;
    holds = lt-ltb (length cs) (length (cs ++ c ∷ [])) (omega (arith, length-append cs (c ∷ [])));
    term = term_at-pushed names cs c ∙ is;
  }

  pub pushed-made : (cs : List Node) (es : List ℕ) (next limit : ℕ) (c : Node) (t : Tree) → IsStore names cs es next → MayPush names cs next c → node_term names (terms_from names [] cs) c ≡ t →
      (now : List (List ℕ)) (ds : List Node) (fs : List ℕ) (high room : ℕ) (result : Result ℕ StoreFault) → IfOk result (λ w. w ≡ length cs) → now ≡ names → ds ≡ (if is_ok result then cs ++ c ∷ [] else cs) → fs ≡ es → high ≡ next → room ≡ limit →
      IfOk result (λ w. Makes (present_of names cs es next limit) (present_of now ds fs high room) w t)
  pushed-made cs es next limit c t store may is now ds fs high room (Ok w) place atoms nodes trail number same =
      rw (place, atoms, nodes, trail, number, same) (pushed-makes cs es next limit c t store may is)
  pushed-made cs es next limit c t store may is now ds fs high room (Err e) place atoms nodes trail number same = place
