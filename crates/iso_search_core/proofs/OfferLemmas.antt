-- A goal's arguments are unified with constants, one after the other; and the rows that are left.
use Rattle.std.proofs.Common.{◌≡◌, ◌<◌, ◌≤◌, ℕ, zero, suc, ◌+◌, ◌-◌, ◌==◌, List, [], ◌∷◌, length, take, drop, map, reverse, get_or, Bool, true, false, Ok, Err, IfOk, refl, sym, ap, ap₂, subst, ◌∙◌, arith}
use Rattle.std.specs.Prelude.{Result}
use Rattle.std.specs.List.{All}
use Rattle.iso_store_core.specs.declared.shapes.StoreFault.{StoreFault}
use Rattle.iso_model.specs.Terms.Trees.{Tree, Variable, End, More, row}
use Rattle.iso_model.specs.Terms.Arguments.{arity, argument}
use Rattle.iso_model.specs.Terms.Sizes.{size}
use Rattle.iso_model.specs.Terms.Substitutions.{Subst, apply, compose}
use Rattle.iso_model.specs.Terms.Unifiers.{Unifier, NeverEqual}
use Rattle.iso_model.specs.Terms.Unification.Applied.{apply_apply, apply_none}
use Rattle.iso_model.specs.Terms.Unification.Composed.{unifier_more, unifier_same, never_rest}
use Rattle.iso_store_core.specs.Presents.{Present, Holds, Binds, IsUnification, meaning}
use Rattle.iso_store_core.specs.ArgumentWords.{AreArguments}
use Rattle.iso_store_core.proofs.RetainLemmas.{wide-within}
use Rattle.iso_lib.specs.declared.settings.Constant.{Constant}
use Rattle.iso_lib.specs.declared.settings.Constant.TheVariants as constant
use Rattle.iso_lib.specs.Settlements.{constant_tree, arguments_from}
use Rattle.std.proofs.lemmas.Bool.{ne_eqb}
use Rattle.std.proofs.lemmas.List.{length-append, length-map, length-reverse, nil_from_length}
use Rattle.iso_lib.specs.declared.settings.Offer.{Offer}
use Rattle.iso_text.specs.Parts.{longer, each_longer, each_of, parts_in}
use Rattle.iso_text.specs.declared.parts.Part.{Part}
use Rattle.iso_text.specs.declared.parts.Parts.{Parts}
use Rattle.iso_search_core.specs.Cells.{constants_cells, row_cells}
use Rattle.iso_search_core.specs.Offers.{goal_arguments, row_made}
use Rattle.iso_search_core.specs.declared.offers.OfferedRow.{OfferedRow}
use Rattle.iso_search_core.specs.declared.offers.OfferedRow.TheVariants as offered
use Rattle.iso_search_core.proofs.GoalLemmas.{slice_behind}

-- ---- substitutions

constant_applied : (s : Subst) (c : Constant) → apply s (constant_tree c) ≡ constant_tree c
constant_applied s (constant.Int z) = refl
constant_applied s (constant.Atom a) = refl

pub constants_applied : (s : Subst) (cs : List Constant) → apply s (row (map constant_tree cs)) ≡ row (map constant_tree cs)
constants_applied s [] = refl
constants_applied s (c ∷ cs) = ap₂ More (constant_applied s c) (constants_applied s cs)

-- ---- unifications

-- nothing is bound
nothing_bound : {W : Type 0} (p : Present W) → Binds p p Variable
nothing_bound p = record {
  words = record { stand = λ w h. h; terms = λ w h. refl };
  numbers = record { next = refl; taken = λ n. refl };
  substitution = λ i. λ n. sym (apply_none (p.substitution n)) i;
}

never_none : (t ts : Tree) → NeverEqual (More t ts) End
never_none t ts s e = cc

-- no constant is left
unified_none : {W : Type 0} (p : Present W) (ws : List W) → IsUnification p p (row (map (meaning p) ws)) End (length ws == 0)
unified_none p [] = (Variable, unifier_same End, nothing_bound p)
unified_none p (w ∷ ws) =
    let other : (length (w ∷ ws) == 0) ≡ false = ne_eqb (length (w ∷ ws)) 0 (λ e. omega (arith, e)) in
    subst (λ (b : Bool). IsUnification p p (row (map (meaning p) (w ∷ ws))) End b) (sym other) (never_none (meaning p w) (row (map (meaning p) ws)))

module _ {W : Type 0} (p m q : Present W) where
  -- what the words stand for once one was unified
  words_bound : (s : Subst) (ws : List W) → Binds p m s → All (λ w. Holds p w) ws → row (map (meaning m) ws) ≡ apply s (row (map (meaning p) ws))
  words_bound s [] h hold = refl
  words_bound s (w ∷ ws) h hold =
      ap₂ More (ap₂ apply h.substitution (h.words.terms w (hold 0 w (omega arith))) ∙ sym (apply_apply p.substitution s (p.term w))) (words_bound s ws h (λ k d within. hold (suc k) d (omega (arith, within))))

  -- the words behind one that was unified
  unified_next : (w : W) (ws : List W) (c : Constant) (cs : List Constant) (answer : Bool) → All (λ v. Holds p v) ws
      → IsUnification p m (meaning p w) (constant_tree c) true → IsUnification m q (row (map (meaning m) ws)) (row (map constant_tree cs)) answer
      → IsUnification p q (row (map (meaning p) (w ∷ ws))) (row (map constant_tree (c ∷ cs))) answer
  unified_next w ws c cs true hold first second =
      let s = first.0 in
      let here : Unifier (apply s (row (map (meaning p) ws))) (apply s (row (map constant_tree cs))) second.0 =
      subst (λ (x : Tree). Unifier x (apply s (row (map constant_tree cs))) second.0) (words_bound s ws first.2 hold) (subst (λ (x : Tree). Unifier (row (map (meaning m) ws)) x second.0) (sym (constants_applied s cs)) second.1) in (
        compose s second.0,
        unifier_more first.1 here,
        record {
          words = record {
            stand = λ v k. second.2.words.stand v (first.2.words.stand v k);
            terms = λ v k. second.2.words.terms v (first.2.words.stand v k) ∙ first.2.words.terms v k;
          };
          numbers = record { next = second.2.numbers.next ∙ first.2.numbers.next; taken = λ k. second.2.numbers.taken k ∙ first.2.numbers.taken k };
          substitution = second.2.substitution ∙ ap (λ (r : Subst). compose r second.0) first.2.substitution ∙ (λ j. λ k. apply_apply s second.0 (p.substitution k) j);
        },
      )
  unified_next w ws c cs false hold first second =
      let s = first.0 in
      let here : NeverEqual (apply s (row (map (meaning p) ws))) (apply s (row (map constant_tree cs))) =
      subst (λ (x : Tree). NeverEqual x (apply s (row (map constant_tree cs)))) (words_bound s ws first.2 hold) (subst (λ (x : Tree). NeverEqual (row (map (meaning m) ws)) x) (sym (constants_applied s cs)) second) in
      never_rest (row (map (meaning p) ws)) (row (map constant_tree cs)) first.1 here

-- ---- the constants behind the first

pub rest_is : {X : Type 0} (x : X) (xs : List X) → take (length (x ∷ xs) - 1) (drop 1 (x ∷ xs)) ≡ xs
rest_is x xs = slice_behind (x ∷ xs)

-- no constant is left
pub unified_empty : {W : Type 0} (p : Present W) (ws : List W) (cs : List Constant) → length cs < 1 → IsUnification p p (row (map (meaning p) ws)) (row (map constant_tree cs)) (length ws == 0)
unified_empty p ws cs none = subst (λ (ds : List Constant). IsUnification p p (row (map (meaning p) ws)) (row (map constant_tree ds)) (length ws == 0)) (sym (nil_from_length cs (omega (arith, none)))) (unified_none p ws)

module _ {W : Type 0} (p m q : Present W) where
  -- the words behind the first, with the constants behind the first
  pub unified_behind : (ws others : List W) (w : W) (cs : List Constant) (x : Constant) (r : Result Bool StoreFault) → All (λ v. Holds p v) ws → ws ≡ w ∷ others → 1 ≤ length cs → x ≡ get_or cs 0 x
      → IsUnification p m (meaning p w) (constant_tree x) true → IfOk r (IsUnification m q (row (map (meaning m) others)) (row (map constant_tree (take (length cs - 1) (drop 1 cs)))))
      → IfOk r (IsUnification p q (row (map (meaning p) ws)) (row (map constant_tree cs)))
  unified_behind ws others w [] x r hold is some at first second = absurd (omega (arith, some))
  unified_behind ws others w (c ∷ cs) x (Err fault) hold is some at first second = tt
  unified_behind ws others w (c ∷ cs) x (Ok answer) hold is some at first second =
      let all : All (λ v. Holds p v) (w ∷ others) = subst (λ (vs : List W). All (λ v. Holds p v) vs) is hold in
      let one : IsUnification m q (row (map (meaning m) others)) (row (map constant_tree cs)) answer =
      subst (λ (ds : List Constant). IsUnification m q (row (map (meaning m) others)) (row (map constant_tree ds)) answer) (rest_is c cs) second in
      subst (λ (vs : List W). IsUnification p q (row (map (meaning p) vs)) (row (map constant_tree (c ∷ cs))) answer) (sym is)
      (unified_next p m q w others c cs answer (λ k d within. all (suc k) d (omega (arith, within))) (subst (λ (y : Constant). IsUnification p m (meaning p w) (constant_tree y) true) at first) one)

-- the words behind one that was unified still hold
pub words_still : {W : Type 0} (p m : Present W) (ws others : List W) (w v : W) (t : Tree) → IsUnification p m (meaning p v) t true → All (λ u. Holds p u) ws → ws ≡ w ∷ others → All (λ u. Holds m u) others
words_still {W} p m ws others w v t first hold is =
    let all : All (λ u. Holds p u) (w ∷ others) = subst (λ (vs : List W). All (λ u. Holds p u) vs) is hold in
    λ k d within. first.2.words.stand (get_or others k d) (all (suc k) d (omega (arith, within)))

-- ---- a goal's argument words

from_words : {W : Type 0} (f : W → Tree) (ws : List W) (t : Tree) (i n : ℕ) → length ws ≡ n → ((k : ℕ) (d : W) → k < length ws → f (get_or ws k d) ≡ argument (i + k) t) → map f ws ≡ arguments_from i n t
from_words f [] t i zero many values = refl
from_words f (w ∷ ws) t i (suc n) many values =
    let here : i + 0 ≡ i = omega arith in
    ap₂ (λ (u : Tree) us. u ∷ us) (values 0 w (omega arith) ∙ ap (λ k. argument k t) here)
    (from_words f ws t (suc i) n (omega (arith, many)) (λ k d within. values (suc k) d (omega (arith, within)) ∙ ap (λ j. argument j t) (next k))) where
      next : (k : ℕ) → i + suc k ≡ suc i + k
      next k = omega arith
from_words f ws t i n many values = absurd (omega (arith, many))

pub goal_words : {W : Type 0} (p : Present W) (ws : List W) (t : Tree) → AreArguments p ws t → row (map (meaning p) ws) ≡ goal_arguments t
goal_words p ws t are = ap row (from_words (meaning p) ws t 0 (arity t) are.count (λ k d within. are.values k d within ∙ ap (λ j. argument j t) (at k))) where
  at : (k : ℕ) → k ≡ 0 + k
  at k = omega arith

-- ---- rows that are left

pub each_count : (p : Part) (n : ℕ) → length (each_longer p n) ≡ suc n
each_count p zero = refl
each_count p (suc n) = ap suc (each_count (longer p) n)

each_some : (ps : Parts) (others : List Parts) → 0 < length (each_of (ps ∷ others))
each_some ps others =
    let some = each_count ps.first ps.more in
    let all = length-append (each_longer ps.first ps.more) (each_of others) in
    omega (arith, some, all)

each_empty : (rs : List Parts) → (length rs == 0) ≡ (length (each_of rs) == 0)
each_empty [] = refl
each_empty (ps ∷ others) =
    let some = each_some ps others in
    ne_eqb (length (ps ∷ others)) 0 (λ e. omega (arith, e)) ∙ sym (ne_eqb (length (each_of (ps ∷ others))) 0 (λ e. omega (arith, e, some)))

pub parts_empty : (kept : List Parts) → (length kept == 0) ≡ (length (map offered.Part (parts_in kept)) == 0)
parts_empty kept = ap (λ n. n == 0) (sym (length-reverse kept)) ∙ (each_empty (reverse kept) ∙ ap (λ n. n == 0) (sym (length-map (parts_in kept) offered.Part)))

pub constants_empty : (kept : List Offer) → (length kept == 0) ≡ (length (map offered.Constants (reverse kept)) == 0)
constants_empty kept = ap (λ n. n == 0) (sym (length-reverse kept) ∙ sym (length-map (reverse kept) offered.Constants))

-- ---- what a row takes

constants_within : (cs : List Constant) → constants_cells cs ≤ size (row (map constant_tree cs))
constants_within [] = omega arith
constants_within (constant.Int z ∷ cs) = omega (arith, wide-within z, constants_within cs)
constants_within (constant.Atom a ∷ cs) = omega (arith, constants_within cs)

-- no more than is counted as made
pub row_within : (made : ℕ) (r : OfferedRow) → row_cells r ≤ row_made made r
row_within made (offered.Constants offer) = omega (arith, constants_within offer.constants.items)
row_within made (offered.Part part) = omega arith
