-- What reading a part of a head comes to.
use Rattle.std.proofs.Common.{◌≡◌, ◌≢◌, ℕ, zero, suc, ◌+◌, ◌-◌, ◌<◌, List, [], ◌∷◌, ◌++◌, length, map, Option, Some, None, slice_get, slice_set, true, false, refl, ap, ap₂, sym, ◌∙◌, subst, arith, inl, inr, length-append}
use Rattle.std.proofs.lemmas.Bool.{and_parts, or_left, or_right, cases_eq}
use Rattle.std.proofs.lemmas.List.{map-append}
use Rattle.std.proofs.lemmas.List.Elements.{All-push}
use Rattle.iso_model.specs.Terms.Trees.{Tree, Variable, row, arities_fit}
use Rattle.iso_model.specs.Terms.Variables.{occurs}
use Rattle.iso_model.specs.Terms.Substitutions.{Subst, apply}
use Rattle.iso_model.specs.Terms.Copies.{renamed}
use Rattle.iso_store_core.specs.declared.patterns.Part.{Part}
use Rattle.iso_store_core.specs.Patterns.{IsPattern, HasPlaces}
use Rattle.iso_store_core.specs.Presents.{Present, Holds, meaning}
use Rattle.iso_store.specs.declared.reading.Later.{Later}
use Rattle.iso_store.specs.Reading.{first_terms, term_between, IsBetween, IsLater, IsRead, IsReadOn, MakesLeft}
use Rattle.iso_store.proofs.UnifyLemmas.{All-front, All-last}
use Rattle.iso_store.proofs.HeadCells.{later-part, later-variable}
use Rattle.iso_store.proofs.InstanceLemmas.{arities-append, occurs-append, fits-so-far, places-so-far}

-- ---- lists with a last member
pub parts-same : {X : Type 0} (xs ys us vs : List X) → length xs ≡ length ys → xs ++ us ≡ ys ++ vs → (xs ≡ ys) × (us ≡ vs)
parts-same [] [] us vs many same = (refl, same)
parts-same [] (y ∷ ys) us vs many same = absurd (omega arith)
parts-same (x ∷ xs) [] us vs many same = absurd (omega arith)
parts-same (x ∷ xs) (y ∷ ys) us vs many same =
    let first : x ≡ y = cc in
    let rest : xs ++ us ≡ ys ++ vs = cc in
    let inner = parts-same xs ys us vs (omega arith) rest in
    (ap₂ ◌∷◌ first inner.0, inner.1)

pub last-same : {X : Type 0} (xs ys : List X) (x y : X) → xs ++ x ∷ [] ≡ ys ++ y ∷ [] → (xs ≡ ys) × (x ≡ y)
last-same xs ys x y same =
    let one = length-append xs (x ∷ []) in
    let other = length-append ys (y ∷ []) in
    let long = ap length same in
    let inner = parts-same xs ys (x ∷ []) (y ∷ []) (omega arith) same in
    (inner.0, (let tail : x ∷ [] ≡ y ∷ [] = inner.1 in cc))

-- ---- one term more of the goal, for one term more of the head
module _ {W : Type 0} (p : Present W) (names : List (List ℕ)) (ks : List Part) (next : ℕ) (s : Subst) (ws : List Tree) (w : Tree) (us : List Tree) (a : Tree) where
  words-split : map (apply s) (ws ++ w ∷ []) ≡ map (apply s) ws ++ apply s w ∷ []
  words-split = map-append (apply s) ws (w ∷ [])

  terms-split : map (apply s) (map (renamed next) (us ++ a ∷ [])) ≡ map (apply s) (map (renamed next) us) ++ apply s (renamed next a) ∷ []
  terms-split = ap (map (apply s)) (map-append (renamed next) us (a ∷ [])) ∙ map-append (apply s) (map (renamed next) us) (renamed next a ∷ [])

  pub left-split : MakesLeft p names ks next s (ws ++ w ∷ []) (us ++ a ∷ []) → MakesLeft p names ks next s ws us × (apply s w ≡ apply s (renamed next a))
  left-split same = last-same (map (apply s) ws) (map (apply s) (map (renamed next) us)) _ _ (sym words-split ∙ same ∙ terms-split)

  pub left-joined : MakesLeft p names ks next s ws us → apply s w ≡ apply s (renamed next a) → MakesLeft p names ks next s (ws ++ w ∷ []) (us ++ a ∷ [])
  left-joined before here = words-split ∙ ap₂ (λ xs x. xs ++ x ∷ []) before here ∙ sym terms-split

-- ---- the last of the first terms is well formed, with places for its variables
last-fits : (us : List Tree) (a : Tree) → arities_fit (row (us ++ a ∷ [])) ≡ true → arities_fit a ≡ true
last-fits us a h = (and_parts (arities_fit a) true (and_parts (arities_fit (row us)) (arities_fit (row (a ∷ []))) (sym (arities-append us (a ∷ [])) ∙ h)).1).0

last-places : (n : ℕ) (us : List Tree) (a : Tree) → HasPlaces n (row (us ++ a ∷ [])) → HasPlaces n a
last-places n us a places x o = places x (occurs-append x us (a ∷ []) ∙ or_right (occurs x (row us)) (occurs x (row (a ∷ []))) (or_left (occurs x a) false o))

module _ {W : Type 0} (p : Present W) (names : List (List ℕ)) (ks : List Part) (n : ℕ) (t : Tree) (whole : IsPattern names ks t) (fits : arities_fit t ≡ true) (places : HasPlaces n t) (at : ℕ) where
  pub here-fits : (us : List Tree) (a : Tree) → first_terms names ks at ≡ us ++ a ∷ [] → arities_fit a ≡ true
  here-fits us a is = last-fits us a (ap (λ ts. arities_fit (row ts)) (sym is) ∙ fits-so-far names ks t whole at fits)

  pub here-places : (us : List Tree) (a : Tree) → first_terms names ks at ≡ us ++ a ∷ [] → HasPlaces n a
  here-places us a is = last-places n us a (subst (λ ts. HasPlaces n (row ts)) is (places-so-far names ks t whole at n places))

  -- the word and the part are unified later
  pub read-later : (values : List (Option W)) (later laters : List (Later W)) (ws : List Tree) (w : W) (from : ℕ) → Holds p w → from < at → IsBetween names ks from at
      → IsRead p names ks n values later (ws ++ meaning p w ∷ []) at → laters ≡ later ++ record { word = w; from = from; past = at } ∷ []
      → IsReadOn p names ks n values values later laters (ws ++ meaning p w ∷ []) ws at (Some from)
  read-later values later laters ws w from held less between so more =
      let a = term_between names ks from at in
      let us = first_terms names ks from in
      let this : IsLater p names ks n (record { word = w; from = from; past = at }) = record {
        holds = held;
        between = between;
        inside = so.within;
        fits = here-fits us a between.last;
        places = here-places us a between.last;
      } in
      let many = so.many in
      let one = length-append ws (meaning p w ∷ []) in
      let other = ap length between.last ∙ length-append us (a ∷ []) in
      let within = so.within in (
        less,
        record {
          read = record {
            within = omega arith;
            many_values = so.many_values;
            held = so.held;
            waiting = rw more (All-push (IsLater p names ks n) later _ so.waiting this);
            cells = later-part names ks later laters (record { word = w; from = from; past = at }) between more so.cells;
            many = omega arith;
          };
          ahead = λ next s solved.
              let parts = left-split p names ks next s ws (meaning p w) us a (solved.2 ∙ ap (λ ts. map (apply s) (map (renamed next) ts)) between.last) in
              (solved.0, rw more (All-push (λ l. apply s (meaning p l.word) ≡ apply s (renamed next (term_between names ks l.from l.past))) later _ solved.1 parts.1), parts.0);
          back = λ next s solved.
              let makes = rw more at solved.1 in (
                solved.0,
                All-front (λ l. apply s (meaning p l.word) ≡ apply s (renamed next (term_between names ks l.from l.past))) later _ makes,
                left-joined p names ks next s ws (meaning p w) us a solved.2 (All-last (λ l. apply s (meaning p l.word) ≡ apply s (renamed next (term_between names ks l.from l.past))) later (record { word = w; from = from; past = at }) makes)
                    ∙ sym (ap (λ ts. map (apply s) (map (renamed next) ts)) between.last),
              );
        },
      )

-- ---- a value comes
get-set-same : {X : Type 0} (xs : List X) (i : ℕ) (y : X) → i < length xs → slice_get (slice_set xs i y) i ≡ Some y
get-set-same [] i y less = elim less [ ]
get-set-same (x ∷ xs) zero y less = refl
get-set-same (x ∷ xs) (suc i) y less = get-set-same xs i y (omega arith)

get-set-other : {X : Type 0} (xs : List X) (i j : ℕ) (y : X) → j ≢ i → slice_get (slice_set xs i y) j ≡ slice_get xs j
get-set-other [] i j y differ = refl
get-set-other (x ∷ xs) zero zero y differ = absurd (differ refl)
get-set-other (x ∷ xs) zero (suc j) y differ = refl
get-set-other (x ∷ xs) (suc i) zero y differ = refl
get-set-other (x ∷ xs) (suc i) (suc j) y differ = get-set-other xs i j y (λ e. differ (ap suc e))

pub length-set-here : {X : Type 0} (xs : List X) (i : ℕ) (y : X) → length (slice_set xs i y) ≡ length xs
length-set-here [] i y = refl
length-set-here (x ∷ xs) zero y = refl
length-set-here (x ∷ xs) (suc i) y = omega (arith, length-set-here xs i y)

module _ {W : Type 0} (p : Present W) (names : List (List ℕ)) (ks : List Part) (n at : ℕ) (some : 0 < at) where
  -- the word is the variable's value
  pub read-value : (values news : List (Option W)) (later : List (Later W)) (ws : List Tree) (w : W) (place : ℕ) → Holds p w → place < length values → slice_get values place ≡ Some None → news ≡ slice_set values place (Some w)
      → first_terms names ks at ≡ first_terms names ks (at - 1) ++ Variable place ∷ [] → IsRead p names ks n values later (ws ++ meaning p w ∷ []) at → IsReadOn p names ks n values news later later (ws ++ meaning p w ∷ []) ws at (Some (at - 1))
  read-value values news later ws w place held less none more last so =
      let us = first_terms names ks (at - 1) in
      let one = length-append ws (meaning p w ∷ []) in
      let other = ap length last ∙ length-append us (Variable place ∷ []) in
      let fewer : at - 1 < at = omega arith in
      let here : slice_get news place ≡ Some (Some w) = ap (λ vs. slice_get vs place) more ∙ get-set-same values place (Some w) less in
      let others : (x : ℕ) → x ≢ place → slice_get news x ≡ slice_get values x = λ x differ. ap (λ vs. slice_get vs x) more ∙ get-set-other values place x (Some w) differ in (
        fewer,
        record {
          read = record {
            within = omega (arith, so.within);
            many_values = ap length more ∙ length-set-here values place (Some w) ∙ so.many_values;
            held = λ x v is.
                elim (cases_eq x place) [
                  | inl same ↦
                      let both : Some (Some w) ≡ Some (Some v) = sym here ∙ ap (slice_get news) (sym same) ∙ is in
                      let one : w ≡ v = cc in
                      subst (λ u. p.holds u ≡ true) one held
                  | inr differ ↦ so.held x v (sym (others x differ) ∙ is)
                ];
            waiting = so.waiting;
            cells = later-variable names ks later at place last so.cells;
            many = omega (arith, so.many);
          };
          ahead = λ next s solved.
              let parts = left-split p names ks next s ws (meaning p w) us (Variable place) (solved.2 ∙ ap (λ ts. map (apply s) (map (renamed next) ts)) last) in (
                (λ x v is.
                    elim (cases_eq x place) [
                      | inl same ↦
                          let both : Some (Some w) ≡ Some (Some v) = sym here ∙ ap (slice_get news) (sym same) ∙ is in
                          let one : w ≡ v = cc in
                          ap (λ y. s (next + y)) same ∙ sym parts.1 ∙ ap (λ u. apply s (meaning p u)) one
                      | inr differ ↦ solved.0 x v (sym (others x differ) ∙ is)
                    ]),
                solved.1,
                parts.0,
              );
          back = λ next s solved. (
            (λ x v is.
                elim (cases_eq x place) [
                  | inl same ↦
                      let both : Some None ≡ Some (Some v) = sym none ∙ ap (slice_get values) (sym same) ∙ is in
                      absurd (cc)
                  | inr differ ↦ solved.0 x v (others x differ ∙ is)
                ]),
            solved.1,
            left-joined p names ks next s ws (meaning p w) us (Variable place) solved.2 (sym (solved.0 place w here)) ∙ sym (ap (λ ts. map (apply s) (map (renamed next) ts)) last),
          );
        },
      )
