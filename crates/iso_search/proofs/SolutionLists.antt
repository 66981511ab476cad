-- Solutions without variables, and lists of constants that are made in a store.
use Rattle.std.proofs.Common.{◌≡◌, ℕ, ◌+◌, ◌≤◌, List, [], ◌∷◌, ◌++◌, length, map, Bool, true, false, refl, ap, ap₂, sym, subst, ◌∙◌, arith}
use Rattle.std.specs.List.{All}
use Rattle.std.proofs.lemmas.Bool.{false≢true}
use Rattle.std.proofs.lemmas.List.{map-append}
use Rattle.std.proofs.lemmas.List.Elements.{All-nil, All-cons, All-head, All-tail, All-same, All-weaker, All-push}
use Rattle.iso_model.specs.Terms.Trees.{Tree, Variable, Integer, Name, Apply, End, More}
use Rattle.iso_model.specs.Terms.Copies.{copy_from, place_of}
use Rattle.iso_model.specs.Terms.Lists.{list_of}
use Rattle.iso_model.specs.Terms.Sizes.{size}
use Rattle.iso_model.specs.Terms.Substitutions.{Subst, apply, compose}
use Rattle.iso_model.specs.Terms.Variables.{variables, variable_count, distinct_from, occurs, is_in}
use Rattle.iso_model.specs.Terms.Unification.Applied.{apply_alone}
use Rattle.iso_model.specs.Search.Library.{list_made}
use Rattle.iso_model.proofs.OnTerms.VariableLemmas.{listed_occurring}
use Rattle.iso_store_core.specs.Presents.{Present, Holds, meaning, KeepsWords, KeepsNumbers, Makes, IsUnification}
use Rattle.iso_lib_core.specs.Lists.{Comes}
use Rattle.iso_lib_core.specs.Replies.{MeetsCopy}
use Rattle.iso_search.specs.Constants.{is_constant}

-- ---- terms without variables

none_occur : (t : Tree) → variables t ≡ [] → (x : ℕ) → occurs x t ≡ false
none_occur t none x = sym (listed_occurring t x) ∙ ap (is_in x) none

applied_alone : (s : Subst) (t : Tree) → variables t ≡ [] → apply s t ≡ t
applied_alone s t none = apply_alone s t (λ x h. absurd (false≢true (sym (none_occur t none x) ∙ h)))

pub ground_copy : (t : Tree) (n : ℕ) → variables t ≡ [] → copy_from t n ≡ t
ground_copy t n none = applied_alone (λ x. Variable (n + place_of x (variables t))) t none

pub ground_count : (t : Tree) → variables t ≡ [] → variable_count t ≡ 0
ground_count t none = ap length none

-- ---- constants

unseen : (t : Tree) → is_constant t ≡ true → (seen : List ℕ) → distinct_from seen t ≡ seen
unseen (Integer z) h seen = refl
unseen (Name a) h seen = refl
unseen (Variable n) h seen = absurd (false≢true h)
unseen (Apply f ts) h seen = absurd (false≢true h)
unseen End h seen = absurd (false≢true h)
unseen (More t ts) h seen = absurd (false≢true h)

constants_unseen : (ts : List Tree) → All (λ t. is_constant t ≡ true) ts → (seen : List ℕ) → distinct_from seen (list_of ts) ≡ seen
constants_unseen [] all seen = refl
constants_unseen (t ∷ ts) all seen =
    ap (λ ns. distinct_from ns (list_of ts)) (unseen t (All-head (λ t. is_constant t ≡ true) t ts all) seen)
    ∙ constants_unseen ts (All-tail (λ t. is_constant t ≡ true) t ts all) seen

one_at_least : (t : Tree) → is_constant t ≡ true → 1 ≤ size t
one_at_least (Integer z) h = rw h (omega arith)
one_at_least (Name a) h = omega arith
one_at_least (Variable n) h = omega arith
one_at_least (Apply f ts) h = omega arith
one_at_least End h = absurd (false≢true h)
one_at_least (More t ts) h = absurd (false≢true h)

pub constants_size : (ts : List Tree) → All (λ t. is_constant t ≡ true) ts → list_made (length ts) ≤ size (list_of ts)
constants_size [] all = omega arith
constants_size (t ∷ ts) all =
    let one = one_at_least t (All-head (λ t. is_constant t ≡ true) t ts all) in
    let others = constants_size ts (All-tail (λ t. is_constant t ≡ true) t ts all) in
    omega (arith, one, others)

-- ---- a word is unified with the list of constants

module _ {W : Type 0} (p q r v : Present W) (word list : W) (ws : List W) (ts : List Tree) (constant : All (λ t. is_constant t ≡ true) ts) (values : map (meaning q) ws ≡ ts)
    (kept : KeepsWords p q) (same : q.substitution ≡ p.substitution) (numbers : KeepsNumbers p q) (held : Holds p word) (comes : Comes q r list (list_of (map (meaning q) ws))) (more : KeepsNumbers q r) where
  none : variables (list_of ts) ≡ []
  none = constants_unseen ts constant []

  left : meaning r word ≡ meaning p word
  left = ap₂ apply (comes.substitution ∙ same) (comes.words.terms word (kept.stand word held) ∙ kept.terms word held)

  right : meaning r list ≡ apply p.substitution (copy_from (list_of ts) p.next)
  right =
      comes.value ∙ ap list_of values ∙ sym (applied_alone p.substitution (list_of ts) none)
      ∙ ap (apply p.substitution) (sym (ground_copy (list_of ts) p.next none))

  pub list_met : (answer : Bool) → IsUnification r v (meaning r word) (meaning r list) answer → MeetsCopy p v (meaning p word) (list_of ts) answer
  list_met true h = record {
    unifier = h.0;
    is = rw (left, right) at h.1;
    substitution = h.2.substitution ∙ ap (λ (s : Subst). compose s h.0) (comes.substitution ∙ same);
    next = h.2.numbers.next ∙ more.next ∙ numbers.next ∙ (let counted = ground_count (list_of ts) none in omega (arith, counted));
    words = record {
      stand = λ w k. h.2.words.stand w (comes.words.stand w (kept.stand w k));
      terms = λ w k. h.2.words.terms w (comes.words.stand w (kept.stand w k)) ∙ comes.words.terms w (kept.stand w k) ∙ kept.terms w k;
    };
    few = let counted = ground_count (list_of ts) none in omega (arith, counted);
  }
  list_met false h = rw (left, right) at h

-- the terms of constants are constants
pub constants_are : {X : Type 0} (f : X → Tree) (xs : List X) → All (λ x. is_constant (f x) ≡ true) xs → All (λ t. is_constant t ≡ true) (map f xs)
constants_are f [] all = All-nil (λ t. is_constant t ≡ true)
constants_are f (x ∷ xs) all = All-cons (λ t. is_constant t ≡ true) (f x) (map f xs) (All-head (λ y. is_constant (f y) ≡ true) x xs all) (constants_are f xs (All-tail (λ y. is_constant (f y) ≡ true) x xs all))

-- ---- words that come one after another

-- From p to q these words came for these terms.
pub record MadeSoFar {W : Type 0} (p q : Present W) (ts : List Tree) (ws : List W) : Type 0 where
  pub words : KeepsWords p q
  pub substitution : q.substitution ≡ p.substitution
  pub hold : All (λ w. Holds q w) ws
  pub values : map (meaning q) ws ≡ ts

-- words that stand stand for the same terms
stand_same : {W : Type 0} (p q : Present W) → KeepsWords p q → q.substitution ≡ p.substitution → (ws : List W) → All (λ w. Holds p w) ws → map (meaning q) ws ≡ map (meaning p) ws
stand_same p q kept same [] hold = refl
stand_same p q kept same (w ∷ ws) hold =
    ap₂ (λ (t : Tree) (ts : List Tree). t ∷ ts) (ap₂ apply same (kept.terms w (All-head (λ v. Holds p v) w ws hold))) (stand_same p q kept same ws (All-tail (λ v. Holds p v) w ws hold))

-- one more came
pub made_more : {W : Type 0} (p m q : Present W) (ts us : List Tree) (ws more : List W) (w : W) (t : Tree) → MadeSoFar p m ts ws → Comes m q w t → more ≡ ws ++ w ∷ [] → us ≡ ts ++ t ∷ [] → MadeSoFar p q us more
made_more {W = W} p m q ts us ws more w t so_far came pushed next = record {
  words = record {
    stand = λ v h. came.words.stand v (so_far.words.stand v h);
    terms = λ v h. came.words.terms v (so_far.words.stand v h) ∙ so_far.words.terms v h;
  };
  substitution = came.substitution ∙ so_far.substitution;
  hold = All-same (λ v. Holds q v) more (ws ++ w ∷ []) pushed
      (All-push (λ v. Holds q v) ws w (All-weaker (λ v. Holds m v) (λ v. Holds q v) came.words.stand ws so_far.hold) came.holds);
  values = ap (map (meaning q)) pushed ∙ map-append (meaning q) ws (w ∷ [])
      ∙ ap₂ (λ (vs : List Tree) (v : Tree). vs ++ v ∷ []) (stand_same m q came.words came.substitution ws so_far.hold ∙ so_far.values) came.value ∙ sym next;
}

-- the word of an atom
pub comes_for : {W : Type 0} (p m q : Present W) (w : W) (text : List ℕ) (t : Tree) → m ≡ p → Name text ≡ t → Makes m q w (Name text) → Comes p q w t
comes_for p m q w text t same is made =
    let here : Makes p q w (Name text) = subst (λ (x : Present _). Makes x q w (Name text)) same made in
    record { words = here.words; substitution = here.substitution; holds = here.holds; value = ap (apply q.substitution) here.term ∙ is }
