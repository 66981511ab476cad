-- What the nodes of a store show of its words.
use Rattle.std.proofs.Common.{◌≡◌, ◌≢◌, ℕ, zero, suc, ◌+◌, ◌<◌, ◌≤◌, List, [], ◌∷◌, length, map, get_or, false, refl, ap, sym, ◌∙◌, arith, Option, Some, None, Vec, Global, inl, inr}
use Rattle.std.specs.List.{slice_get, position_or_len}
use Rattle.iso_atoms.specs.Texts.{text_at}
use Rattle.std.proofs.lemmas.Bool.{false≢true, eq-eqb, ne_eqb}
use Rattle.std.proofs.lemmas.List.Sums.{position_or_len_is}
use Rattle.std.proofs.lemmas.Option.{slice_get-get_or, slice_get_cases, slice_get_within, slice_get_read, get_or_from_slice_get}
use Rattle.iso_model.specs.Terms.Trees.{Tree, Variable, Integer, Name, Apply, row, count}
use Rattle.iso_model.specs.Terms.Substitutions.{Subst, apply}
use Rattle.iso_store.specs.declared.nodes.Node.{Node}
use Rattle.iso_store.specs.declared.nodes.Node.TheVariants.{Var, Int, Atom, Compound}
use Rattle.iso_store_core.specs.Arguments.{member, arity, argument}
use Rattle.iso_store.specs.NodeTerms.{term_at, substitution_of}
use Rattle.iso_store.specs.NodeStores.{has_number, is_bound, IsStore}
use Rattle.iso_store.specs.NodeLemmas.{term_at-variable, term_at-integer, term_at-atom, term_at-compound}
use Rattle.iso_store.specs.NodeNumbers.{unbound-value}
use Rattle.iso_store.proofs.Trails.{bind_all-holds}

-- the rank of a node: bindings lead to nodes of lower rank
abbrev pub rank : Option Node → ℕ
rank None = 0
rank (Some (Var n b)) = n + 1
rank (Some (Int z)) = 0
rank (Some (Atom a)) = 0
rank (Some (Compound f ws)) = 0

rank_falls : (n : ℕ) (o : Option Node) → ((m : ℕ) (b : _) → o ≡ Some (Var m b) → m < n) → rank o < n + 1
rank_falls n None older = omega arith
rank_falls n (Some (Var m b)) older = let below = older m b refl in omega arith
rank_falls n (Some (Int z)) older = omega arith
rank_falls n (Some (Atom a)) older = omega arith
rank_falls n (Some (Compound f ws)) older = omega arith

-- a variable that is not bound
pub free_node : (o : Option Node) (n : ℕ) (b : _) → o ≡ Some (Var n b) → is_bound o ≡ false → o ≡ Some (Var n None)
free_node o n None is free = is
free_node o n (Some j) is free = absurd (false≢true (sym free ∙ ap is_bound is))

pub row-applied-count : (s : Subst) (f : ℕ → Tree) (ws : List ℕ) → count (apply s (row (map f ws))) ≡ length ws
row-applied-count s f [] = refl
row-applied-count s f (w ∷ ws) = let inner = row-applied-count s f ws in omega arith

pub row-applied-member : (s : Subst) (f : ℕ → Tree) (ws : List ℕ) (i : ℕ) → i < length ws → member i (apply s (row (map f ws))) ≡ apply s (f (get_or ws i 0))
row-applied-member s f [] i h = absurd (omega arith)
row-applied-member s f (w ∷ ws) zero h = refl
row-applied-member s f (w ∷ ws) (suc i) h = row-applied-member s f ws i (omega arith)

-- where these are the names of the atoms
module _ (names : List (List ℕ)) where
  module _ (cs : List Node) (es : List ℕ) (next : ℕ) (store : IsStore names cs es next) where
    pub free_value : (w n : ℕ) → slice_get cs w ≡ Some (Var n None) → substitution_of names cs es n ≡ Variable n
    free_value w n free = unbound-value names cs es next store n bare
      where
        bare : (v j : ℕ) → slice_get cs v ≢ Some (Var n (Some j))
        bare v j there =
            let place = store.one_node v w n (Some j) None there free in
            let both : Some (Var n (Some j)) ≡ Some (Var n None) = sym there ∙ ap (slice_get cs) place ∙ free in
            cc

    pub high_value : (n : ℕ) → next ≤ n → substitution_of names cs es n ≡ Variable n
    high_value n high = unbound-value names cs es next store n bare
      where
        bare : (v j : ℕ) → slice_get cs v ≢ Some (Var n (Some j))
        bare v j there = let below = store.numbered v n (Some j) there in absurd (omega arith)

    pub bound_value : (w n j : ℕ) → slice_get cs w ≡ Some (Var n (Some j)) → substitution_of names cs es n ≡ apply (substitution_of names cs es) (term_at names cs j)
    bound_value w n j there =
        let holds = bind_all-holds names cs es Variable store.may_bind w (store.trailed w n j there) in
        rw there at holds

    -- a step along a binding changes nothing
    pub step_same : (w n j : ℕ) → slice_get cs w ≡ Some (Var n (Some j)) → apply (substitution_of names cs es) (term_at names cs j) ≡ apply (substitution_of names cs es) (term_at names cs w)
    step_same w n j there =
        sym (bound_value w n j there) ∙ ap (apply (substitution_of names cs es)) (sym (term_at-variable names cs w n (Some j) there))

    pub shows_variable : (w n : ℕ) → slice_get cs w ≡ Some (Var n None) → apply (substitution_of names cs es) (term_at names cs w) ≡ Variable n
    shows_variable w n free = ap (apply (substitution_of names cs es)) (term_at-variable names cs w n None free) ∙ free_value w n free

    pub shows_integer : (w : ℕ) (z : _) → slice_get cs w ≡ Some (Int z) → apply (substitution_of names cs es) (term_at names cs w) ≡ Integer z
    shows_integer w z there = ap (apply (substitution_of names cs es)) (term_at-integer names cs w z there)

    pub shows_atom : (w : ℕ) (a : _) → slice_get cs w ≡ Some (Atom a) → apply (substitution_of names cs es) (term_at names cs w) ≡ Name (text_at names a)
    shows_atom w a there = ap (apply (substitution_of names cs es)) (term_at-atom names cs w a there)

    pub shows_compound : (w : ℕ) (f : _) (ws : Vec ℕ Global) → slice_get cs w ≡ Some (Compound f ws) → apply (substitution_of names cs es) (term_at names cs w) ≡ Apply (text_at names f) (apply (substitution_of names cs es) (row (map (term_at names cs) ws.items)))
    shows_compound w f ws there = ap (apply (substitution_of names cs es)) (term_at-compound names cs w f ws there (store.arguments w f ws there))

  pub step_falls : (cs : List Node) (es : List ℕ) (next : ℕ) → IsStore names cs es next → (w n j : ℕ) → slice_get cs w ≡ Some (Var n (Some j)) → rank (slice_get cs j) < rank (slice_get cs w)
  step_falls cs es next store w n j there =
      rw there (rank_falls n (slice_get cs j) (λ m b h. store.older w n j m b there h))

  module _ (cs : List Node) (es : List ℕ) (next : ℕ) (store : IsStore names cs es next) (w : ℕ) (end : is_bound (slice_get cs w) ≡ false) where
    -- the node at the end of the bindings
    pub end_variable : (n : ℕ) (b : _) → slice_get cs w ≡ Some (Var n b) → apply (substitution_of names cs es) (term_at names cs w) ≡ Variable n
    end_variable n b there = shows_variable cs es next store w n (free_node (slice_get cs w) n b there end)

    -- only a compound has arguments
    pub end_arity : (x : Node) → slice_get cs w ≡ Some x → ((f : _) (ws : Vec ℕ Global) → x ≢ Compound f ws) → arity (apply (substitution_of names cs es) (term_at names cs w)) ≡ 0
    end_arity (Var n b) there other = ap arity (end_variable n b there)
    end_arity (Int z) there other = ap arity (shows_integer cs es next store w z there)
    end_arity (Atom a) there other = ap arity (shows_atom cs es next store w a there)
    end_arity (Compound f ws) there other = absurd (other f ws refl)

    -- only an unbound variable stands for itself
    end_free : (n : ℕ) (x : Node) → slice_get cs w ≡ Some x → apply (substitution_of names cs es) (term_at names cs w) ≡ Variable n → slice_get cs w ≡ Some (Var n None)
    end_free n (Var m b) there is =
        let same : Variable m ≡ Variable n = sym (end_variable m b there) ∙ is in
        let number : m ≡ n = cc in
        free_node (slice_get cs w) m b there end ∙ ap (λ k. Some (Var k None)) number
    end_free n (Int z) there is = let both : Integer z ≡ Variable n = sym (shows_integer cs es next store w z there) ∙ is in absurd (cc)
    end_free n (Atom a) there is = let both : Name (text_at names a) ≡ Variable n = sym (shows_atom cs es next store w a there) ∙ is in absurd (cc)
    end_free n (Compound f ws) there is =
        let both : Apply (text_at names f) (apply (substitution_of names cs es) (row (map (term_at names cs) ws.items))) ≡ Variable n = sym (shows_compound cs es next store w f ws there) ∙ is in
        absurd (cc)

    pub end_is_variable : (n : ℕ) → w < length cs → apply (substitution_of names cs es) (term_at names cs w) ≡ Variable n → slice_get cs w ≡ Some (Var n None)
    end_is_variable n within is =
        elim ((slice_get_cases cs w).1) [
          | inl found ↦ end_free n found.0 found.2 is
          | inr past ↦ let beyond = past.0 in absurd (omega arith)
        ]

  -- the place of an unbound variable is that of its number
  module _ (cs : List Node) (es : List ℕ) (next : ℕ) (store : IsStore names cs es next) (n k : ℕ) (there : slice_get cs k ≡ Some (Var n None)) where
    no_other : (j : ℕ) (c : Node) → slice_get cs j ≡ Some c → j < k → has_number n c ≡ false
    no_other j (Var m b) is below =
        ne_eqb m n
        (λ same.
        let place = store.one_node j k n b None (is ∙ ap (λ i. Some (Var i b)) same) there in
        omega arith)
    no_other j (Int z) is below = refl
    no_other j (Atom a) is below = refl
    no_other j (Compound f ws) is below = refl

    pub number_place : position_or_len (has_number n) cs ≡ k
    number_place =
        let within = slice_get_within cs k (Var n None) there in
        let at = get_or_from_slice_get cs k (Var n None) (Var n None) there in
        position_or_len_is (has_number n) cs k (Var n None) (omega arith)
        (λ j below. no_other j (get_or cs j (Var n None)) (slice_get-get_or cs j (Var n None) (omega arith)) below)
        (λ _. ap (has_number n) at ∙ eq-eqb n n refl)

  -- an argument of the compound at the end of the bindings of w
  module _ (cs : List Node) (es : List ℕ) (next : ℕ) (store : IsStore names cs es next) (w at index : ℕ) (f : ℕ) (ws : Vec ℕ Global) (there : slice_get cs at ≡ Some (Compound f ws)) (same : apply (substitution_of names cs es) (term_at names cs at) ≡ apply (substitution_of names cs es) (term_at names cs w)) (below : index < arity (apply (substitution_of names cs es) (term_at names cs w))) where
    whole_is : apply (substitution_of names cs es) (term_at names cs w) ≡ Apply (text_at names f) (apply (substitution_of names cs es) (row (map (term_at names cs) ws.items)))
    whole_is = sym same ∙ shows_compound cs es next store at f ws there

    pub argument_within : index < length ws.items
    argument_within = let size = ap arity whole_is ∙ row-applied-count (substitution_of names cs es) (term_at names cs) ws.items in omega arith

    argument_place : (v : ℕ) → v ≡ get_or ws.items index v → get_or ws.items index 0 ≡ v
    argument_place v h = get_or_from_slice_get ws.items index v 0 (slice_get_read ws.items (length ws.items) index v refl argument_within h)

    pub argument_stands : (v : ℕ) → v ≡ get_or ws.items index v → v < length cs
    argument_stands v h =
        let before = store.arguments at f ws there index argument_within in
        let within = slice_get_within cs at (Compound f ws) there in
        let place = argument_place v h in
        omega arith

    pub argument_value : (v : ℕ) → v ≡ get_or ws.items index v → apply (substitution_of names cs es) (term_at names cs v) ≡ argument index (apply (substitution_of names cs es) (term_at names cs w))
    argument_value v h =
        sym (ap (argument index) whole_is ∙ row-applied-member (substitution_of names cs es) (term_at names cs) ws.items index argument_within ∙ ap (λ u. apply (substitution_of names cs es) (term_at names cs u)) (argument_place v h))
