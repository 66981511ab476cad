-- What was left for later, unified one after the other.
use Rattle.std.proofs.Common.{◌≡◌, ℕ, zero, suc, ◌+◌, ◌<◌, List, [], ◌∷◌, ◌++◌, Bool, false, slice_index_or, length, map, take, refl, ap, sym, ◌∙◌, subst, arith, true}
use Rattle.std.specs.List.{All}
use Rattle.std.proofs.lemmas.List.Elements.{All-push}
use Rattle.iso_model.specs.Terms.Trees.{Tree, Variable}
use Rattle.iso_model.specs.Terms.Substitutions.{Subst, apply, compose}
use Rattle.iso_model.specs.Terms.Unifiers.{Unifier, NeverEqual}
use Rattle.iso_model.specs.Terms.Unification.Applied.{apply_apply, apply_same, apply_absorbs}
use Rattle.iso_model.specs.Terms.Unification.Composed.{variable_from}
use Rattle.iso_store_core.specs.declared.patterns.Part.{Part}
use Rattle.iso_store_core.specs.Patterns.{HasPlaces, at_places}
use Rattle.iso_store_core.specs.Presents.{Present, Holds, meaning, Binds, IsUnification}
use Rattle.iso_store.specs.declared.reading.Later.{Later}
use Rattle.iso_store.specs.Reading.{term_between, IsLater, MakesThese, UnifiesThese}
use Rattle.iso_store.proofs.Bound.{binds-none, binds-then, binds-meaning}
use Rattle.iso_store.proofs.UnifyLemmas.{All-front, All-last}
use Rattle.iso_store.proofs.WordLemmas.{take-more}

-- the words for the variables, once s is bound
places-bound : {W : Type 0} {p q : Present W} {s : Subst} → Binds p q s → (ws : List W) → All (Holds p) ws → (x : ℕ) → x < length ws → at_places (map (meaning q) ws) x ≡ apply s (at_places (map (meaning p) ws) x)
places-bound bound [] hold x below = elim below [ ]
places-bound bound (w ∷ ws) hold zero below = binds-meaning bound w (hold 0 w (omega arith))
places-bound bound (w ∷ ws) hold (suc x) below = places-bound bound ws (λ k d less. hold (suc k) d (omega arith)) x (omega arith)

pub term-bound : {W : Type 0} {p q : Present W} {s : Subst} → Binds p q s → (ws : List W) → All (Holds p) ws → (t : Tree) → HasPlaces (length ws) t → apply (at_places (map (meaning q) ws)) t ≡ apply s (apply (at_places (map (meaning p) ws)) t)
term-bound {p = p} {s = s} bound ws hold t places =
    apply_same _ (compose (at_places (map (meaning p) ws)) s) t (λ x o. places-bound bound ws hold x (places x o)) ∙ sym (apply_apply (at_places (map (meaning p) ws)) s t)

module _ {W : Type 0} {p q : Present W} (names : List (List ℕ)) (ks : List Part) (words : List W) (hold : All (Holds p) words) (done : List (Later W)) (l : Later W) (so : UnifiesThese p q names ks words done) (later : IsLater p names ks (length words) l) where
  abbrev a : Tree
  a = meaning p l.word

  abbrev b : Tree
  b = apply (at_places (map (meaning p) words)) (term_between names ks l.from l.past)

  word-now : meaning q l.word ≡ apply so.unifier a
  word-now = binds-meaning so.binds l.word later.holds

  term-now : apply (at_places (map (meaning q) words)) (term_between names ks l.from l.past) ≡ apply so.unifier b
  term-now = term-bound so.binds words hold (term_between names ks l.from l.past) later.places

  -- the next one is unified too
  pub these-more : (r : Present W) (s : Subst) → Unifier (meaning q l.word) (apply (at_places (map (meaning q) words)) (term_between names ks l.from l.past)) s → Binds q r s → UnifiesThese p r names ks words (done ++ l ∷ [])
  these-more r s unifies bound =
      let u = so.unifier in
      record {
        unifier = compose u s;
        makes = All-push (λ m. apply (compose u s) (meaning p m.word) ≡ apply (compose u s) (apply (at_places (map (meaning p) words)) (term_between names ks m.from m.past))) done l
            (λ k d below. sym (apply_apply u s _) ∙ ap (apply s) (so.makes k d below) ∙ apply_apply u s _)
            (sym (apply_apply u s a) ∙ ap (apply s) (sym word-now) ∙ unifies.equal ∙ ap (apply s) term-now ∙ apply_apply u s b);
        most_general = λ t makes.
            let before = so.most_general t (All-front (λ m. apply t (meaning p m.word) ≡ apply t (apply (at_places (map (meaning p) words)) (term_between names ks m.from m.past))) done l makes) in
            let here : apply t a ≡ apply t b = All-last (λ m. apply t (meaning p m.word) ≡ apply t (apply (at_places (map (meaning p) words)) (term_between names ks m.from m.past))) done l makes in
            let now : apply t (meaning q l.word) ≡ apply t (apply (at_places (map (meaning q) words)) (term_between names ks l.from l.past)) =
            ap (apply t) word-now ∙ apply_absorbs u t a before ∙ here ∙ sym (ap (apply t) term-now ∙ apply_absorbs u t b before) in
            let after = unifies.most_general t now in
            λ n. apply_absorbs s t (u n) after ∙ before n;
        least = λ n m is.
            let from = variable_from s (u n) m is in
            let inner = so.least n from.0 from.1 in
            let outer = unifies.least from.0 m (sym (ap (apply s) from.1) ∙ is) in
            omega arith;
        binds = binds-then so.binds bound;
      }

  -- nothing makes the next one equal
  pub these-never : NeverEqual (meaning q l.word) (apply (at_places (map (meaning q) words)) (term_between names ks l.from l.past)) → (t : Subst) → MakesThese p names ks words t (done ++ l ∷ []) → ⊥
  these-never never t makes =
      let u = so.unifier in
      let before = so.most_general t (All-front (λ m. apply t (meaning p m.word) ≡ apply t (apply (at_places (map (meaning p) words)) (term_between names ks m.from m.past))) done l makes) in
      let here : apply t a ≡ apply t b = All-last (λ m. apply t (meaning p m.word) ≡ apply t (apply (at_places (map (meaning p) words)) (term_between names ks m.from m.past))) done l makes in
      never t (ap (apply t) word-now ∙ apply_absorbs u t a before ∙ here ∙ sym (ap (apply t) term-now ∙ apply_absorbs u t b before))

pub these-none : {W : Type 0} (p : Present W) (names : List (List ℕ)) (ks : List Part) (words : List W) → UnifiesThese p p names ks words []
these-none p names ks words = record {
  unifier = Variable;
  makes = λ k d below. elim below [ ];
  most_general = λ t makes n. refl;
  least = λ n m is. (let same : n ≡ m = cc in omega arith);
  binds = binds-none p;
}

-- what is left for later stands on
pub later-kept : {W : Type 0} {p q : Present W} (names : List (List ℕ)) (ks : List Part) (count : ℕ) (l : Later W) → ((w : W) → p.holds w ≡ true → q.holds w ≡ true) → IsLater p names ks count l → IsLater q names ks count l
later-kept names ks count l stand is = record { holds = stand l.word is.holds; between = is.between; inside = is.inside; fits = is.fits; places = is.places }

-- so it is of the first ones
taken-all : {X : Type 0} (P : X → Type 0) (xs : List X) (i : ℕ) → All P xs → All P (take i xs)
taken-all P xs zero every k d below = elim below [ ]
taken-all P [] (suc i) every k d below = elim below [ ]
taken-all P (x ∷ xs) (suc i) every zero d below = every 0 d (omega arith)
taken-all P (x ∷ xs) (suc i) every (suc k) d below = taken-all P xs i (λ j o less. every (suc j) o (omega arith)) k d (omega arith)

pub makes-taken : {W : Type 0} (p : Present W) (names : List (List ℕ)) (ks : List Part) (words : List W) (t : Subst) (later : List (Later W)) (i : ℕ) → MakesThese p names ks words t later → MakesThese p names ks words t (take i later)
makes-taken p names ks words t later i makes =
    taken-all (λ l. apply t (meaning p l.word) ≡ apply t (apply (at_places (map (meaning p) words)) (term_between names ks l.from l.past))) later i makes

-- the one at this place is the next one
module _ {W : Type 0} {p q : Present W} (names : List (List ℕ)) (ks : List Part) (words : List W) (hold : All (Holds p) words) (later : List (Later W)) (every : All (IsLater p names ks (length words)) later) (i : ℕ) (l : Later W)
    (below : i < length later) (at : l ≡ slice_index_or later i l) (so : UnifiesThese p q names ks words (take i later)) (r : Present W) (answer : Bool) where
  is-later : IsLater p names ks (length words) l
  is-later = subst (IsLater p names ks (length words)) (sym at) (every i l below)

  abbrev pub IsNext : Bool → Type 0
  IsNext found = IsUnification q r (meaning q l.word) (apply (at_places (map (meaning q) words)) (term_between names ks l.from l.past)) found

  pub these-next : answer ≡ true → IsNext answer → UnifiesThese p r names ks words (take (i + 1) later)
  these-next is unified =
      let found = subst IsNext is unified in
      subst (UnifiesThese p r names ks words) (sym (take-more later i l below at)) (these-more names ks words hold (take i later) l so is-later r found.0 found.1 found.2)

  pub these-fail : answer ≡ false → IsNext answer → (t : Subst) → MakesThese p names ks words t later → ⊥
  these-fail is unified t makes =
      let never = subst IsNext is unified in
      these-never names ks words hold (take i later) l so is-later never t (subst (λ ls. MakesThese p names ks words t ls) (take-more later i l below at) (makes-taken p names ks words t later (i + 1) makes))
