-- Counted variables, one token further.
use Rattle.std.proofs.Common.{◌≡◌, ◌<◌, ◌+◌, ℕ, zero, suc, Bool, true, false, List, [], ◌∷◌, ◌++◌, Some, is_some, map, take, length, get_or, subst, ◌&&◌, ◌==◌, ap, ◌∙◌, refl, sym, arith, nat_cmp, inl, inr}
use Rattle.std.specs.Borrow.{Bor}
use Rattle.std.specs.Str.{bytes_eq}
use Rattle.std.specs.List.{count_by}
use Rattle.std.specs.Option.{option_eq}
use mathlib.Core.Bool.{beq}
use Rattle.std.specs.BTreeMap as tree
use Rattle.std.specs.Cmp.Lexicographic.{slice_cmp}
use Rattle.std.specs.declared.collections.BTreeMap.{BTreeMap}
use Rattle.std.specs.declared.alloc.Global.{Global}
use Rattle.std.proofs.lemmas.Bool.{cases_Bool}
use Rattle.std.proofs.lemmas.Bool.Decides.{nat_tests}
use Rattle.std.proofs.lemmas.Grind.{common_steps}
use Rattle.std.proofs.lemmas.Map.Text.{btree_map_updates_str}
use Rattle.std.proofs.lemmas.Slice.Eq.{bytes_eq-Decides}
use Rattle.iso_model.specs.Syntax.Token.{Shown}
use Rattle.iso_token.specs.declared.kinds.Token.{Token}
use Rattle.iso_token.specs.Shows.{shown}
use Rattle.iso_lint.proofs.ListLemmas.{map_more}
use Rattle.iso_lint.specs.Once.{is_variable, is_named, occurrences}
use Rattle.iso_lint.specs.Counts.{again, is_positive, AreCounted}

count-past : {X : Type 0} (p : X → Bool) (xs : List X) (y : X) → p y ≡ false → count_by p (xs ++ y ∷ []) ≡ count_by p xs
count-past p xs y h = grind (arith, common_steps)

count-last : {X : Type 0} (p : X → Bool) (xs : List X) (y : X) → p y ≡ true → count_by p (xs ++ y ∷ []) ≡ suc (count_by p xs)
count-last p xs y h = grind (arith, common_steps)

some_again : (n : ℕ) → is_some (again n) ≡ is_positive n
some_again zero = refl
some_again (suc n) = refl

-- another token is no occurrence
pub past_other : (t : Shown) (ts : List Shown) (name : List ℕ) → is_named name t ≡ false → occurrences name (ts ++ t ∷ []) ≡ occurrences name ts
past_other t ts name h = count-past (is_named name) ts t h

pub counted_more : (text : Bor (List ℕ)) (t : Shown) (counts after : BTreeMap (Bor (List ℕ)) Bool Global) (b : Bool) (ts : List Shown) → is_variable t.kind ≡ true → t.text ≡ text.now
    → b ≡ is_some (tree.get_by (λ k. slice_cmp nat_cmp text.now k.now) counts)
    → tree.UpdatesBy (λ x y. slice_cmp nat_cmp x.now y.now) (λ k. slice_cmp nat_cmp text.now k.now) counts after (Some b)
    → AreCounted counts ts → AreCounted after (ts ++ t ∷ [])
counted_more text t counts after b ts is_var is had updates counted = record {
  kept = λ name.
      btree_map_updates_str text.now counts after (Some b) updates name ∙ elim (cases_Bool (bytes_eq text.now name)) [
        | inl same ↦ rw same (
            ap Some (had ∙ ap is_some (counted.kept text.now) ∙ some_again (occurrences text.now ts) ∙ ap (λ n. is_positive (occurrences n ts)) ((bytes_eq-Decides text.now name).0 same))
            ∙ ap again (sym (count-last (is_named name) ts t (rw (is_var, is) same))))
        | inr other ↦ rw other (counted.kept name ∙ ap again (sym (past_other t ts name (rw (is_var, is) other))))
      ];
}

-- what is kept tells which occur once
pub tells_once : (n : ℕ) → option_eq beq (again n) (Some false) ≡ (n == 1)
tells_once zero = refl
tells_once (suc zero) = refl
tells_once (suc (suc n)) = grind (arith, nat_tests)

pub told_once : (a b c d : Bool) → true ≡ (a && b) → d ≡ c → d ≡ (a && (b && c))
told_once true true c d h e = e
told_once true false c d h e = (cc)
told_once false b c d h e = (cc)

-- what holds with a token more holds a turn later
pub counted_later : (xs : List Token) (k : ℕ) (d : Token) (counts after : BTreeMap (Bor (List ℕ)) Bool Global) → k < length xs
    → ((ts : List Shown) → AreCounted counts ts → AreCounted after (ts ++ shown (get_or xs k d) ∷ []))
    → AreCounted counts (map shown (take k xs)) → AreCounted after (map shown (take (k + 1) xs))
counted_later xs k d counts after within step counted = subst (AreCounted after) (sym (map_more shown xs k d within)) (step (map shown (take k xs)) counted)

pub counted_past : (t : Shown) (counts : BTreeMap (Bor (List ℕ)) Bool Global) (ts : List Shown) → is_variable t.kind ≡ false → AreCounted counts ts → AreCounted counts (ts ++ t ∷ [])
counted_past t counts ts other counted = record { kept = λ name. counted.kept name ∙ ap again (sym (past_other t ts name (rw other refl))) }
