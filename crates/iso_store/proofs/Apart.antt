-- A variable behind every binding that leads to a younger place occurs in no term of the places before it.
use Rattle.std.proofs.Common.{◌≡◌, ℕ, zero, suc, ◌<◌, ◌≤◌, List, [], ◌∷◌, ◌++◌, ◌⊎◌, ◌≢◌, Bool, length, take, drop, set, true, false, refl, ap, sym, ◌∙◌, arith, Option, Some, None, inl, inr, if◌then◌else◌}
use Rattle.std.specs.List.{slice_get}
use Rattle.std.proofs.lemmas.Bool.{false≢true, cases_eq, false_from_ne_true}
use Rattle.iso_model.specs.Terms.Variables.{occurs}
use Rattle.iso_model.specs.Terms.Substitutions.{apply}
use Rattle.iso_store.specs.declared.nodes.Node.{Node}
use Rattle.iso_store.specs.declared.nodes.Node.TheVariants.{Var, Int, Atom, Compound}
use Rattle.iso_store.specs.NodeTerms.{term_at, binding_of, substitution_of}
use Rattle.iso_store.specs.NodeStores.{IsStore, LeadsBack, MayPush, unbound, taken_back, restored}
use Rattle.iso_store.proofs.TakingBack.{changed_at-was, back-was}
use Rattle.iso_store.specs.declared.node_marks.NodesMark.{NodesMark}
use Rattle.iso_store.specs.NodeVariables.{inside-term, inside-meaning}
use Rattle.iso_store.specs.VariableKinds.{Inside}
use Rattle.iso_store.specs.Slices.{slice_get-pushed, slice_get-set, slice_get-here, slice_get-taken}

pub before-or-not : (a b : ℕ) → (a < b) ⊎ (b ≤ a)
before-or-not a zero = inr (omega arith)
before-or-not zero (suc b) = inl (omega arith)
before-or-not (suc a) (suc b) = elim (before-or-not a b) [ inl h ↦ inl (omega arith) | inr h ↦ inr (omega arith) ]

pub leads-bound : (cs : List Node) (e n j top high : ℕ) (x : Node) → slice_get cs e ≡ Some x → LeadsBack cs top → top ≤ high → (e < j → j ≤ high) → LeadsBack (set cs e (Var n (Some j))) high
leads-bound cs e n j top high x free back more here w m k there forward =
    elim (cases_eq w e) [
      | inl same ↦
          let both : Some (Var n (Some j)) ≡ Some (Var m (Some k)) = sym (slice_get-here cs e (Var n (Some j)) x free) ∙ ap (slice_get (set cs e (Var n (Some j)))) (sym same) ∙ there in
          let target : j ≡ k = cc in
          let high_enough = here (omega arith) in
          omega arith
      | inr other ↦
          let before = back w m k (sym (slice_get-set cs e w (Var n (Some j)) other) ∙ there) forward in
          omega arith
    ]

unbound-was : (c : Node) (n j : ℕ) → Some (unbound c) ≢ Some (Var n (Some j))
unbound-was (Var m b) n j is = cc
unbound-was (Int z) n j is = cc
unbound-was (Atom a) n j is = cc
unbound-was (Compound f ws) n j is = cc

-- where these are the names of the atoms
module _ (names : List (List ℕ)) where
  module _ (cs : List Node) (es : List ℕ) (next top place : ℕ) (store : IsStore names cs es next) (back : LeadsBack cs top) (behind : top < place) (within : place < length cs) where
    -- the variable is that of a node before the place
    abbrev Old : ℕ → Type 0
    Old y = (v : ℕ) × (b : _) × (v < place) × (slice_get cs v ≡ Some (Var y b))

    old-term : (w : ℕ) → w < place → Inside Old (term_at names cs w)
    old-term w below = inside-term Old names cs es next store place (omega arith) (λ v m b less there. (v, b, less, there)) w below

    -- what an old variable is bound to is old
    old-target : (e : ℕ) (o : Option Node) → slice_get cs e ≡ o → Old (binding_of names cs o).0 → Inside Old (binding_of names cs o).1
    old-target e None is old = λ y h. absurd (false≢true h)
    old-target e (Some (Var m None)) is old = λ y h. absurd (false≢true h)
    old-target e (Some (Var m (Some j))) is old =
        let here = store.one_node old.0 e m old.1 (Some j) old.3 is in
        let before = old.2 in
        elim (before-or-not e j) [
          | inl forward ↦ let leads = back e m j is forward in old-term j (omega arith)
          | inr not ↦ old-term j (omega arith)
        ]
    old-target e (Some (Int z)) is old = λ y h. absurd (false≢true h)
    old-target e (Some (Atom a)) is old = λ y h. absurd (false≢true h)
    old-target e (Some (Compound f ws)) is old = λ y h. absurd (false≢true h)

    pub apart : (w n : ℕ) (b : _) → w < place → slice_get cs place ≡ Some (Var n b) → occurs n (apply (substitution_of names cs es) (term_at names cs w)) ≡ false
    apart w n b below there =
        false_from_ne_true (occurs n (apply (substitution_of names cs es) (term_at names cs w))) (λ h.
        let old = inside-meaning Old names cs es next store (λ e kind. old-target e (slice_get cs e) refl kind) (term_at names cs w) (old-term w below) n h in
        let here = store.one_node old.0 place n old.1 b old.3 there in
        let before = old.2 in
        absurd (omega arith))

  -- ---- what a new node, a binding and a mark leave of that
  leads-pushed : (cs : List Node) (next top : ℕ) (c : Node) → MayPush names cs next c → LeadsBack cs top → LeadsBack (cs ++ c ∷ []) top
  leads-pushed cs next top c may back w n j there =
      elim (slice_get-pushed cs c (Var n (Some j)) w there) [
        | inl before ↦ back w n j before
        | inr last ↦ not-bound c may last.1
      ]
    where
      not-bound : (x : Node) → MayPush names cs next x → x ≡ Var n (Some j) → w < j → j ≤ top
      not-bound (Var m b) fresh is = let none : b ≡ None = fresh.0 in absurd (cc)
      not-bound (Int z) fresh is = absurd (cc)
      not-bound (Atom a) fresh is = absurd (cc)
      not-bound (Compound f ws) fresh is = absurd (cc)

  pub leads-after : (cs : List Node) (next top : ℕ) (c : Node) → MayPush names cs next c → LeadsBack cs top → (pushed : Bool) (ds : List Node) → ds ≡ (if pushed then cs ++ c ∷ [] else cs) → LeadsBack ds top
  leads-after cs next top c may back true ds is = rw is (leads-pushed cs next top c may back)
  leads-after cs next top c may back false ds is = rw is back

  pub leads-restored : (cs : List Node) (es : List ℕ) (m : NodesMark) (top high : ℕ) → IsStore names (restored cs es m) (take m.trail es) m.next → LeadsBack cs top → ((k : ℕ) → k ≤ top → k < length (restored cs es m) → k ≤ high) → LeadsBack (restored cs es m) high
  leads-restored cs es m top high store back enough w n j there forward =
      let was = slice_get-taken m.nodes cs w (Var n (Some j)) (back-was taken_back w (Var n (Some j)) (λ e ds. changed_at-was unbound ds e w (Var n (Some j)) (λ x. unbound-was x n j)) (drop m.trail es) (take m.nodes cs) there) in
      enough j (back w n j was forward) (store.target w n j there)
