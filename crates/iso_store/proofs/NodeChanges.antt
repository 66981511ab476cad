-- A node more and a binding more keep a store.
use Rattle.std.proofs.Common.{◌≡◌, ◌≢◌, ℕ, ◌<◌, ◌≤◌, ◌==◌, List, [], ◌∷◌, ◌++◌, length, set, Bool, true, false, refl, ap, sym, ◌∙◌, subst, arith, length-append, length-set, Some, None, Vec, Global, ◌⊎◌, inl, inr, if◌then◌else◌}
use Rattle.std.specs.List.{slice_get}
use Rattle.std.proofs.lemmas.List.{map-append}
use Rattle.std.proofs.lemmas.Bool.{false≢true, and_from, or_cases, or_left, or_right, eqb-true, eq-eqb, cases_eq}
use Rattle.std.proofs.lemmas.Option.{slice_get_within}
use Rattle.iso_model.specs.Terms.Trees.{Variable}
use Rattle.iso_model.specs.Terms.Variables.{occurs, is_in}
use Rattle.iso_model.specs.Terms.Substitutions.{apply, compose, single}
use Rattle.iso_store.specs.declared.nodes.Node.{Node}
use Rattle.iso_store.specs.declared.nodes.Node.TheVariants.{Var, Atom, Compound}
use Rattle.iso_store.specs.Slices.{slice_get-pushed, slice_get-push, slice_get-set, slice_get-here}
use Rattle.iso_store.specs.NodeTerms.{term_at, binding_of, binding_at, bindings, bind_all, substitution_of, all_may_bind}
use Rattle.iso_store.specs.NodeStores.{is_bound, IsStore, MayPush}
use Rattle.iso_store.specs.NodeLemmas.{term_at-push, term_at-bound}
use Rattle.iso_store.specs.NodeNumbers.{unnumbered, trail_parts}
use Rattle.iso_store.proofs.NodeReads.{free_value}
use Rattle.iso_store.proofs.Trails.{bind_all-push, may_bind-push, may_bind-from}

-- where these are the names of the atoms
module _ (names : List (List ℕ)) where
  -- bindings that are the same place by place
  bindings-same : (cs ds : List Node) (es : List ℕ) → ((w : ℕ) → is_in w es ≡ true → binding_at names ds w ≡ binding_at names cs w) → bindings names ds es ≡ bindings names cs es
  bindings-same cs ds [] same = refl
  bindings-same cs ds (e ∷ es) same =
      let first = same e (or_left (e == e) (is_in e es) (eq-eqb e e refl)) in
      let others = bindings-same cs ds es (λ w h. same w (or_right (e == w) (is_in w es) h)) in
      cc

  module _ (cs : List Node) (es : List ℕ) (next : ℕ) (store : IsStore names cs es next) where
    -- reserving numbers
    pub store-on : (high : ℕ) → next ≤ high → IsStore names cs es high
    store-on high above = record {
      arguments = store.arguments;
      arity = store.arity;
      target = store.target;
      older = store.older;
      one_node = store.one_node;
      numbered = λ w n b h. let below = store.numbered w n b h in omega arith;
      trailed = store.trailed;
      bound = store.bound;
      may_bind = store.may_bind;
      atom = store.atom;
      name = store.name;
    }

    module _ (c : Node) (may : MayPush names cs next c) where
      pub pushed-bindings : bindings names (cs ++ c ∷ []) es ≡ bindings names cs es
      pushed-bindings = bindings-same cs (cs ++ c ∷ []) es same
        where
          same : (w : ℕ) → is_in w es ≡ true → binding_at names (cs ++ c ∷ []) w ≡ binding_at names cs w
          same w h =
              let p = trail_parts names cs es next store w h in
              let within = slice_get_within cs w (Var p.0 (Some p.1)) p.2 in
              let there = slice_get-push cs c w within ∙ p.2 in
              let target = term_at-push names cs c p.1 (store.target w p.0 p.1 p.2) in
              ap (binding_of names (cs ++ c ∷ [])) there ∙ ap (λ t. (p.0, t)) target ∙ sym (ap (binding_of names cs) p.2)

      pub pushed-substitution : substitution_of names (cs ++ c ∷ []) es ≡ substitution_of names cs es
      pushed-substitution = ap (bind_all Variable) pushed-bindings

      compound-may : (f : _) (ws : Vec ℕ Global) → c ≡ Compound f ws → MayPush names cs next (Compound f ws)
      compound-may f ws is = subst (MayPush names cs next) is may

      variable-may : (n : ℕ) (b : _) → c ≡ Var n b → MayPush names cs next (Var n b)
      variable-may n b is = subst (MayPush names cs next) is may

      -- a bound variable is one of those before
      bound-before : (w n j : ℕ) → slice_get (cs ++ c ∷ []) w ≡ Some (Var n (Some j)) → slice_get cs w ≡ Some (Var n (Some j))
      bound-before w n j h =
          elim (slice_get-pushed cs c (Var n (Some j)) w h) [
            | inl e ↦ e
            | inr e ↦ let bare = (variable-may n (Some j) e.1).0 in absurd (cc)
          ]

      numbers-differ : (v w n : ℕ) (b d : _) → slice_get cs v ≡ Some (Var n b) → c ≢ Var n d
      numbers-differ v w n b d h is = unnumbered cs n ((variable-may n d is).2) v b h

      pub store-pushed : IsStore names (cs ++ c ∷ []) es next
      store-pushed = record {
        arguments = λ w f ws h.
            elim (slice_get-pushed cs c (Compound f ws) w h) [
              | inl e ↦ store.arguments w f ws e
              | inr e ↦ λ k below. let inside = (compound-may f ws e.1).3 k below in omega arith
            ];
        arity = λ w f ws h.
            elim (slice_get-pushed cs c (Compound f ws) w h) [
              | inl e ↦ store.arity w f ws e
              | inr e ↦ let p = compound-may f ws e.1 in (p.1, p.2)
            ];
        target = λ w n j h. let below = store.target w n j (bound-before w n j h) in omega (arith, length-append cs (c ∷ []));
        older = λ w n j m b h k.
            let there = bound-before w n j h in
            store.older w n j m b there (sym (slice_get-push cs c j (store.target w n j there)) ∙ k);
        one_node = λ v w n b d h k.
            elim (slice_get-pushed cs c (Var n b) v h) [
              | inl e ↦ elim (slice_get-pushed cs c (Var n d) w k) [
                | inl f ↦ store.one_node v w n b d e f
                | inr f ↦ absurd (numbers-differ v w n b d e f.1)
              ]
              | inr e ↦ elim (slice_get-pushed cs c (Var n d) w k) [
                | inl f ↦ absurd (numbers-differ w v n d b f e.1)
                | inr f ↦ omega arith
              ]
            ];
        numbered = λ w n b h.
            elim (slice_get-pushed cs c (Var n b) w h) [
              | inl e ↦ store.numbered w n b e
              | inr e ↦ (variable-may n b e.1).1
            ];
        trailed = λ w n j h. store.trailed w n j (bound-before w n j h);
        bound = λ w h.
            let p = trail_parts names cs es next store w h in
            let within = slice_get_within cs w (Var p.0 (Some p.1)) p.2 in
            ap is_bound (slice_get-push cs c w within) ∙ store.bound w h;
        may_bind = ap (all_may_bind Variable) pushed-bindings ∙ store.may_bind;
        atom = λ w a h.
            elim (slice_get-pushed cs c (Atom a) w h) [
              | inl e ↦ store.atom w a e
              | inr e ↦ subst (MayPush names cs next) e.1 may
            ];
        name = λ w f ws h.
            elim (slice_get-pushed cs c (Compound f ws) w h) [
              | inl e ↦ store.name w f ws e
              | inr e ↦ (compound-may f ws e.1).0
            ];
      }

    -- the variable n at place e, which is not bound, is bound to the place j
    module _ (e n j : ℕ) (free : slice_get cs e ≡ Some (Var n None)) (within : j < length cs) (absent : occurs n (apply (substitution_of names cs es) (term_at names cs j)) ≡ false) (younger : (m : ℕ) (b : _) → slice_get cs j ≡ Some (Var m b) → m < n) where
      ds : List Node
      ds = set cs e (Var n (Some j))

      same-terms : term_at names ds ≡ term_at names cs
      unfolding ds
      same-terms = term_at-bound names cs e n (Some j) None free

      here : slice_get ds e ≡ Some (Var n (Some j))
      unfolding ds
      here = slice_get-here cs e (Var n (Some j)) (Var n None) free

      elsewhere : (w : ℕ) → w ≢ e → slice_get ds w ≡ slice_get cs w
      unfolding ds
      elsewhere w other = slice_get-set cs e w (Var n (Some j)) other

      -- a variable that is bound now was bound before, or is the one at e
      bound-now : (w m k : ℕ) → slice_get ds w ≡ Some (Var m (Some k)) → (slice_get cs w ≡ Some (Var m (Some k))) ⊎ ((w ≡ e) × (m ≡ n) × (k ≡ j))
      bound-now w m k h =
          elim (cases_eq w e) [
            | inl is ↦ let both : Some (Var n (Some j)) ≡ Some (Var m (Some k)) = sym here ∙ ap (slice_get ds) (sym is) ∙ h in inr (is, cc, cc)
            | inr other ↦ inl (sym (elsewhere w other) ∙ h)
          ]

      -- the variables are the same ones
      variable-before : (w m : ℕ) (b : _) → slice_get ds w ≡ Some (Var m b) → (d : _) × (slice_get cs w ≡ Some (Var m d))
      variable-before w m b h =
          elim (cases_eq w e) [
            | inl is ↦
                let both : Some (Var n (Some j)) ≡ Some (Var m b) = sym here ∙ ap (slice_get ds) (sym is) ∙ h in
                let name : n ≡ m = cc in
                (None, ap (slice_get cs) is ∙ free ∙ ap (λ x. Some (Var x None)) name)
            | inr other ↦ (b, sym (elsewhere w other) ∙ h)
          ]

      compound-before : (w : ℕ) (f : _) (ws : Vec ℕ Global) → slice_get ds w ≡ Some (Compound f ws) → slice_get cs w ≡ Some (Compound f ws)
      compound-before w f ws h =
          elim (cases_eq w e) [
            | inl is ↦ let both : Some (Var n (Some j)) ≡ Some (Compound f ws) = sym here ∙ ap (slice_get ds) (sym is) ∙ h in absurd (cc)
            | inr other ↦ sym (elsewhere w other) ∙ h
          ]

      atom-before : (w a : ℕ) → slice_get ds w ≡ Some (Atom a) → slice_get cs w ≡ Some (Atom a)
      atom-before w a h =
          elim (cases_eq w e) [
            | inl is ↦ let both : Some (Var n (Some j)) ≡ Some (Atom a) = sym here ∙ ap (slice_get ds) (sym is) ∙ h in absurd (cc)
            | inr other ↦ sym (elsewhere w other) ∙ h
          ]

      is_in-push : (w : ℕ) (fs : List ℕ) → is_in w (fs ++ e ∷ []) ≡ true → (is_in w fs ≡ true) ⊎ (w ≡ e)
      is_in-push w [] h = elim (or_cases (e == w) false h) [ inl q ↦ inr (sym (eqb-true e w q)) | inr q ↦ absurd (false≢true q) ]
      is_in-push w (f ∷ fs) h =
          elim (or_cases (f == w) (is_in w (fs ++ e ∷ [])) h) [
            | inl q ↦ inl (or_left (f == w) (is_in w fs) q)
            | inr q ↦ elim (is_in-push w fs q) [ inl r ↦ inl (or_right (f == w) (is_in w fs) r) | inr r ↦ inr r ]
          ]

      is_in-longer : (w : ℕ) (fs : List ℕ) → is_in w fs ≡ true → is_in w (fs ++ e ∷ []) ≡ true
      is_in-longer w [] h = absurd (false≢true h)
      is_in-longer w (f ∷ fs) h =
          elim (or_cases (f == w) (is_in w fs) h) [
            | inl q ↦ or_left (f == w) (is_in w (fs ++ e ∷ [])) q
            | inr q ↦ or_right (f == w) (is_in w (fs ++ e ∷ [])) (is_in-longer w fs q)
          ]

      is_in-end : (fs : List ℕ) → is_in e (fs ++ e ∷ []) ≡ true
      is_in-end [] = or_left (e == e) false (eq-eqb e e refl)
      is_in-end (f ∷ fs) = or_right (f == e) (is_in e (fs ++ e ∷ [])) (is_in-end fs)

      -- a place of the trail is another one
      trail-apart : (w : ℕ) → is_in w es ≡ true → w ≢ e
      trail-apart w h is =
          let p = trail_parts names cs es next store w h in
          let both : Some (Var p.0 (Some p.1)) ≡ Some (Var n None) = sym p.2 ∙ ap (slice_get cs) is ∙ free in
          cc

      old-bindings : bindings names ds es ≡ bindings names cs es
      old-bindings = bindings-same cs ds es same
        where
          same : (w : ℕ) → is_in w es ≡ true → binding_at names ds w ≡ binding_at names cs w
          same w h =
              let p = trail_parts names cs es next store w h in
              let there = elsewhere w (trail-apart w h) ∙ p.2 in
              ap (binding_of names ds) there ∙ ap (λ t. (p.0, t p.1)) same-terms ∙ sym (ap (binding_of names cs) p.2)

      new-bindings : bindings names ds (es ++ e ∷ []) ≡ bindings names cs es ++ (n, term_at names cs j) ∷ []
      new-bindings =
          let newest : binding_at names ds e ≡ (n, term_at names cs j) = ap (binding_of names ds) here ∙ ap (λ t. (n, t j)) same-terms in
          map-append (binding_at names ds) es (e ∷ []) ∙ ap (λ b. bindings names ds es ++ b ∷ []) newest ∙ ap (λ bs. bs ++ (n, term_at names cs j) ∷ []) old-bindings

      pub bound-substitution : substitution_of names (set cs e (Var n (Some j))) (es ++ e ∷ []) ≡ compose (substitution_of names cs es) (single n (apply (substitution_of names cs es) (term_at names cs j)))
      unfolding ds
      bound-substitution = ap (bind_all Variable) new-bindings ∙ bind_all-push Variable (bindings names cs es) (n, term_at names cs j)

      pub bound-terms : term_at names (set cs e (Var n (Some j))) ≡ term_at names cs
      unfolding ds
      bound-terms = same-terms

      pub store-bound : IsStore names (set cs e (Var n (Some j))) (es ++ e ∷ []) next
      unfolding ds
      store-bound = record {
        arguments = λ w f ws h. store.arguments w f ws (compound-before w f ws h);
        arity = λ w f ws h. store.arity w f ws (compound-before w f ws h);
        target = λ w m k h.
            elim (bound-now w m k h) [
              | inl q ↦ let below = store.target w m k q in omega (arith, length-set cs e (Var n (Some j)))
              | inr q ↦ let to = q.2 in omega (arith, length-set cs e (Var n (Some j)))
            ];
        older = λ w m k x b h l.
            let v = variable-before k x b l in
            elim (bound-now w m k h) [
              | inl q ↦ store.older w m k x v.0 q v.1
              | inr q ↦ let below = younger x v.0 (ap (slice_get cs) (sym q.2) ∙ v.1) in let is = q.1 in omega arith
            ];
        one_node = λ v w m b d h k.
            let p = variable-before v m b h in
            let q = variable-before w m d k in
            store.one_node v w m p.0 q.0 p.1 q.1;
        numbered = λ w m b h. let p = variable-before w m b h in store.numbered w m p.0 p.1;
        trailed = λ w m k h.
            elim (bound-now w m k h) [
              | inl q ↦ is_in-longer w es (store.trailed w m k q)
              | inr q ↦ ap (λ x. is_in x (es ++ e ∷ [])) q.0 ∙ is_in-end es
            ];
        bound = λ w h.
            elim (is_in-push w es h) [
              | inl q ↦ ap is_bound (elsewhere w (trail-apart w q)) ∙ store.bound w q
              | inr q ↦ ap (λ x. is_bound (slice_get ds x)) q ∙ ap is_bound here
            ];
        may_bind =
            let newest = may_bind-from (substitution_of names cs es) n (term_at names cs j) (free_value names cs es next store e n free) absent in
            ap (all_may_bind Variable) new-bindings ∙ may_bind-push Variable (bindings names cs es) (n, term_at names cs j) ∙ and_from (all_may_bind Variable (bindings names cs es)) _ store.may_bind newest;
        atom = λ w a h. store.atom w a (atom-before w a h);
        name = λ w f ws h. store.name w f ws (compound-before w f ws h);
      }

  -- a push that may be refused
  pub store-after : (cs : List Node) (es : List ℕ) (next : ℕ) → IsStore names cs es next → (c : Node) → MayPush names cs next c → (pushed : Bool) (ds : List Node) → ds ≡ (if pushed then cs ++ c ∷ [] else cs) → IsStore names ds es next
  store-after cs es next store c may true ds is = rw is (store-pushed cs es next store c may)
  store-after cs es next store c may false ds is = rw is store
