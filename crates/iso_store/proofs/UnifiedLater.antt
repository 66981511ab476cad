-- What was left for later, made and unified with its word.
use Rattle.std.proofs.Common.{◌≡◌, ℕ, zero, suc, ◌-◌, ◌<◌, ◌≤◌, List, [], ◌∷◌, length, map, take, drop, Bool, Result, Ok, Err, IfOk, true, false, refl, ap, sym, ◌∙◌, subst, subst₂, arith}
use Rattle.std.proofs.lemmas.List.{take_all}
use Rattle.iso_model.specs.Terms.Trees.{Tree}
use Rattle.iso_model.specs.Terms.Substitutions.{apply, compose}
use Rattle.iso_model.specs.Terms.Unifiers.{Unifier, NeverEqual}
use Rattle.iso_model.specs.Terms.Unification.Applied.{apply_apply, apply_same}
use Rattle.iso_store_core.specs.declared.shapes.StoreFault.{StoreFault}
use Rattle.iso_store_core.specs.declared.patterns.Part.{Part}
use Rattle.iso_store_core.specs.Patterns.{IsPattern, HasPlaces, at_places}
use Rattle.iso_store.specs.declared.reading.Later.{Later}
use Rattle.iso_store.specs.Reading.{term_between, IsLater}
use Rattle.iso_store_core.specs.Presents.{Present, meaning, KeepsNumbers, Makes, IsUnification}
use Rattle.iso_store.proofs.Gathering.{keeps-then, numbers-then}

places-applied : {W : Type 0} (p : Present W) (ws : List W) (x : ℕ) → x < length ws → apply p.substitution (at_places (map p.term ws) x) ≡ at_places (map (meaning p) ws) x
places-applied p [] x below = elim below [ ]
places-applied p (w ∷ ws) zero below = refl
places-applied p (w ∷ ws) (suc x) below = places-applied p ws x (omega arith)

-- a word made for a term, with words for its variables, stands for it with their values
pub made-meaning : {W : Type 0} {p q : Present W} (ws : List W) (t : Tree) (w : W) → HasPlaces (length ws) t → Makes p q w (apply (at_places (map p.term ws)) t) → meaning q w ≡ apply (at_places (map (meaning p) ws)) t
made-meaning {W} {p} {q} ws t w places made =
    ap (apply q.substitution) made.term ∙ ap (λ s. apply s (apply (at_places (map p.term ws)) t)) made.substitution ∙ apply_apply (at_places (map p.term ws)) p.substitution t
    ∙ apply_same (compose (at_places (map p.term ws)) p.substitution) (at_places (map (meaning p) ws)) t (λ x o. places-applied p ws x (places x o))

pub kept-meaning : {W : Type 0} {p q : Present W} {t : Tree} (w v : W) → Makes p q w t → p.holds v ≡ true → meaning q v ≡ meaning p v
kept-meaning {W} {p} {q} w v made holds = ap (apply q.substitution) (made.words.terms v holds) ∙ ap (λ s. apply s (p.term v)) made.substitution

module _ {W : Type 0} {p q : Present W} (r : Present W) (w v : W) (t a : Tree) (made : Makes p q w t) (numbers : KeepsNumbers p q) (holds : p.holds v ≡ true) (is : meaning q w ≡ a) where
  unified-made : (answer : Bool) → IsUnification q r (meaning q v) (meaning q w) answer → IsUnification p r (meaning p v) a answer
  unified-made true unified =
      let both = subst₂ (λ x y. Unifier x y unified.0) (kept-meaning w v made holds) is unified.1 in (
        unified.0,
        both,
        record {
          words = keeps-then made.words unified.2.words;
          numbers = numbers-then numbers unified.2.numbers;
          substitution = unified.2.substitution ∙ ap (λ s. compose s unified.0) made.substitution;
        },
      )
  unified-made false never = subst₂ NeverEqual (kept-meaning w v made holds) is never

  pub unified-result : (result : Result Bool StoreFault) → IfOk result (IsUnification q r (meaning q v) (meaning q w)) → IfOk result (IsUnification p r (meaning p v) a)
  unified-result (Ok answer) unified = unified-made answer unified
  unified-result (Err e) unified = unified

pub between-taken : {X : Type 0} (xs : List X) (from past : ℕ) → from ≤ past → take (past - from) (drop from xs) ≡ drop from (take past xs)
between-taken xs zero past within = ap (λ n. take n xs) (omega arith)
between-taken xs (suc from) zero within = absurd (omega arith)
between-taken [] (suc from) (suc past) within = take_all (suc past - suc from) [] (omega arith)
between-taken (x ∷ xs) (suc from) (suc past) within =
    let less : suc past - suc from ≡ past - from = omega arith in
    ap (λ n. take n (drop from xs)) less ∙ between-taken xs from past (omega arith)

-- the parts of what was left for later
pub later-pattern : {W : Type 0} (p : Present W) (names : List (List ℕ)) (ks js : List Part) (count : ℕ) (l : Later W) → js ≡ ks → IsLater p names ks count l → IsPattern names (take (l.past - l.from) (drop l.from js)) (term_between names ks l.from l.past)
later-pattern p names ks js count l same later =
    let parts = ap (λ ls. take (l.past - l.from) (drop l.from ls)) same ∙ between-taken ks l.from l.past later.between.within in
    subst (λ ls. IsPattern names ls (term_between names ks l.from l.past)) (sym parts) later.between.pattern
