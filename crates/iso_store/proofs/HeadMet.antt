-- A goal and the head of a clause, unified as the head is read: what was found, and what was unified later, make them equal.
use Rattle.std.proofs.Common.{◌≡◌, ℕ, ◌+◌, ◌<◌, ◌≤◌, List, [], ◌∷◌, length, map, Bool, MatchBool, Result, Ok, Err, IfOk, Option, Some, slice_index_or, true, false, refl, ap, sym, ◌∙◌, subst, arith, inl, inr}
use Rattle.std.proofs.lemmas.Bool.{false≢true, eq-eqb}
use Rattle.std.proofs.lemmas.Bool.Decides.{leb_tells}
use Rattle.std.proofs.lemmas.Option.{slice_get_within}
use Rattle.iso_model.specs.Terms.Trees.{Tree, Variable, End}
use Rattle.iso_model.specs.Terms.Variables.{occurs}
use Rattle.iso_model.specs.Terms.Substitutions.{Subst, apply, compose, BindsToOlder}
use Rattle.iso_model.specs.Terms.Copies.{renamed}
use Rattle.iso_model.specs.Terms.Unifiers.{NeverEqual}
use Rattle.iso_model.specs.Terms.Unification.Applied.{apply_apply, apply_same, apply_absorbs}
use Rattle.iso_model.specs.Terms.Unification.Composed.{variable_from}
use Rattle.iso_store_core.specs.declared.patterns.Part.{Part}
use Rattle.iso_store_core.specs.Patterns.{IsPattern, at_places}
use Rattle.iso_store_core.specs.Presents.{Present, Holds, meaning, KeepsWords, MovesOn, Untouched}
use Rattle.iso_store_core.specs.Heads.{new_head, MeetsHead, IsHeadMet}
use Rattle.iso_store.specs.declared.reading.Later.{Later}
use Rattle.iso_store.specs.Reading.{first_terms, term_between, IsLater, IsHeadRead, MakesLeft, GivesValues, MakesLater, MakesThese, UnifiesThese, HasWords}
use Rattle.iso_store.proofs.Gathering.{keeps-then}
use Rattle.iso_store.proofs.InstanceLemmas.{all-parts, at-place}
use Rattle.iso_store.proofs.WordLemmas.{value-or-itself, values-leave}

-- where numbers were reserved from p to a, and these are the parts of the head
module _ {W : Type 0} {p a : Present W} (names : List (List ℕ)) (ks : List Part) (t : Tree) (whole : IsPattern names ks t) (goal : W) (held : Holds p goal) (count : ℕ)
    (keeps : KeepsWords p a) (same : a.substitution ≡ p.substitution) (moves : MovesOn p a count) (bare : (n : ℕ) → p.next ≤ n → Untouched a n) where
  abbrev pub first : ℕ
  first = p.next

  word-there : (w : W) → Holds p w → meaning a w ≡ meaning p w
  word-there w h = ap (apply a.substitution) (keeps.terms w h) ∙ ap (λ s. apply s (p.term w)) same

  -- the numbers that come are not bound before
  not-bound : (n : ℕ) → p.next ≤ n → p.substitution n ≡ Variable n
  not-bound n above = ap (λ s. s n) (sym same) ∙ (bare n above).substitution

  goal-there : meaning a goal ≡ meaning p goal
  goal-there = word-there goal held

  abbrev pub new : Subst
  new x = Variable (first + x)

  head-there : new_head p t ≡ renamed first t
  head-there = apply_apply new p.substitution t ∙ apply_same (compose new p.substitution) new t (λ x o. not-bound (first + x) (omega arith))

  all : first_terms names ks (length ks) ≡ t ∷ []
  all = all-parts names ks t whole (length ks) (omega arith)

  left-made : (s : Subst) → apply s (meaning a goal) ≡ apply s (renamed first t) → MakesLeft a names ks first s (meaning a goal ∷ []) (first_terms names ks (length ks))
  left-made s e = subst (λ ts. MakesLeft a names ks first s (meaning a goal ∷ []) ts) (sym all) (ap (λ x. x ∷ []) e)

  left-equal : (s : Subst) → MakesLeft a names ks first s (meaning a goal ∷ []) (first_terms names ks (length ks)) → apply s (meaning a goal) ≡ apply s (renamed first t)
  left-equal s made =
      let one : apply s (meaning a goal) ∷ [] ≡ apply s (renamed first t) ∷ [] = subst (λ ts. MakesLeft a names ks first s (meaning a goal ∷ []) ts) all made in
      ap (λ xs. slice_index_or xs 0 End) one

  equal-there : (s : Subst) → apply s (meaning p goal) ≡ apply s (new_head p t) → MakesLeft a names ks first s (meaning a goal ∷ []) (first_terms names ks (length ks))
  equal-there s e = left-made s (ap (apply s) goal-there ∙ e ∙ ap (apply s) head-there)

  -- reading shows that nothing makes them equal
  pub never-read : (n : ℕ) (values : List (Option W)) (later : List (Later W)) → IsHeadRead a names ks n goal values later false → NeverEqual (meaning p goal) (new_head p t)
  never-read n values later never s e = never first s (equal-there s e)

  -- what was read, and the words for the variables
  module _ {b : Present W} (values : List (Option W)) (later : List (Later W)) (ws : List W) (many : length values ≡ count) (read : IsHeadRead a names ks (length values) goal values later true) (has : HasWords a b first values ws) where
    abbrev pub v : Subst
    v = has.values_bound

    leaves : (w : W) → Holds a w → apply v (meaning a w) ≡ meaning a w
    leaves w h = values-leave a first values v has.are bare w h

    place-there : (x : ℕ) → x < length ws → at_places (map (meaning b) ws) x ≡ v (first + x)
    place-there x below = at-place (meaning b) ws x goal below ∙ has.means x goal below

    later-term : (l : Later W) → IsLater a names ks (length values) l → apply (at_places (map (meaning b) ws)) (term_between names ks l.from l.past) ≡ apply v (renamed first (term_between names ks l.from l.past))
    later-term l is =
        let u = term_between names ks l.from l.past in
        apply_same (at_places (map (meaning b) ws)) (compose new v) u (λ x o. place-there x (let below = is.places x o in omega (arith, has.many))) ∙ sym (apply_apply new v u)

    later-word : (l : Later W) → IsLater a names ks (length values) l → meaning b l.word ≡ apply v (meaning a l.word)
    later-word l is =
        ap (apply b.substitution) (has.keeps.terms l.word is.holds) ∙ ap (λ s. apply s (a.term l.word)) has.substitution ∙ sym (leaves l.word is.holds)

    extends-values : (s : Subst) → GivesValues a names ks first s values → (n : ℕ) → apply s (v n) ≡ s n
    extends-values s gives n =
        elim (value-or-itself a first values v has.are n) [
          | inl valued ↦
              let x = valued.0 in
              let w = valued.1 in
              ap (λ k. apply s (v k)) valued.3 ∙ ap (apply s) (has.are.valued x w valued.2) ∙ sym (gives x w valued.2) ∙ ap s (sym valued.3)
          | inr itself ↦ ap (apply s) itself
        ]

    values-older : BindsToOlder v
    values-older n m is =
        elim (value-or-itself a first values v has.are n) [
          | inl valued ↦
              let w = valued.1 in
              let value : meaning a w ≡ Variable m = sym (has.are.valued valued.0 w valued.2) ∙ ap v (sym valued.3) ∙ is in
              elim (leb_tells first m) [
                | inl above ↦
                    let none : occurs m (Variable m) ≡ false = ap (occurs m) (sym value) ∙ (bare m above.1).meanings w (read.0.held valued.0 w valued.2) in
                    absurd (false≢true (sym none ∙ eq-eqb m m refl))
                | inr below ↦ (let less = below.1 in let here = valued.3 in omega arith)
              ]
          | inr itself ↦ (let both : Variable n ≡ Variable m = sym itself ∙ is in let one : n ≡ m = cc in omega arith)
        ]

    -- a substitution that makes goal and head equal makes equal what was left
    these-made : (s : Subst) → apply s (meaning p goal) ≡ apply s (new_head p t) → MakesThese b names ks ws s later
    these-made s e =
        let both = read.1 first s (equal-there s e) in
        let over = extends-values s both.0 in
        λ k d below.
        let l = slice_index_or later k d in
        let is = read.0.waiting k d below in
        ap (apply s) (later-word l is) ∙ apply_absorbs v s (meaning a l.word) over ∙ both.1 k d below
        ∙ sym (apply_absorbs v s (renamed first (term_between names ks l.from l.past)) over) ∙ sym (ap (apply s) (later-term l is))

    -- nothing makes equal what was left
    never-later : ((s : Subst) → MakesThese b names ks ws s later → ⊥) → NeverEqual (meaning p goal) (new_head p t)
    never-later never s e = never s (these-made s e)

    module _ {d : Present W} (these : UnifiesThese b d names ks ws later) where
      abbrev pub last : Subst
      last = these.unifier

      abbrev pub unifier : Subst
      unifier = compose v last

      gives : GivesValues a names ks first unifier values
      gives x w is = ap (apply last) (has.are.valued x w is) ∙ ap (apply last) (sym (leaves w (read.0.held x w is))) ∙ apply_apply v last (meaning a w)

      makes : MakesLater a names ks first unifier later
      makes k o below =
          let l = slice_index_or later k o in
          let is = read.0.waiting k o below in
          let u = term_between names ks l.from l.past in
          sym (apply_apply v last (meaning a l.word)) ∙ ap (apply last) (sym (later-word l is)) ∙ these.makes k o below ∙ ap (apply last) (later-term l is) ∙ apply_apply v last (renamed first u)

      -- what words stand for when the variables have theirs, and behind the last binding
      kept : (w : W) → Holds a w → meaning b w ≡ meaning a w
      kept w h = ap (apply b.substitution) (has.keeps.terms w h) ∙ ap (λ s. apply s (a.term w)) has.substitution

      behind : (w : W) → Holds b w → meaning d w ≡ apply last (meaning b w)
      behind w h = ap (apply d.substitution) (these.binds.words.terms w h) ∙ ap (λ s. apply s (b.term w)) these.binds.substitution ∙ sym (apply_apply b.substitution last (b.term w))

      numbers-there : d.next ≡ p.next + count
      numbers-there = these.binds.numbers.next ∙ has.taken.next ∙ moves.next

      meets-head : MeetsHead p d goal t count ws
      meets-head = record {
        unifier = unifier;
        is = record {
          equal = ap (apply unifier) (sym goal-there) ∙ left-equal unifier (read.2 first unifier gives makes) ∙ ap (apply unifier) (sym head-there);
          most_general = λ s e.
              let over = extends-values s (read.1 first s (equal-there s e)).0 in
              let after = these.most_general s (these-made s e) in
              λ n. apply_absorbs last s (v n) after ∙ over n;
          least = λ n m is.
              let from = variable_from last (v n) m is in
              let inner = values-older n from.0 from.1 in
              let outer = these.least from.0 m (sym (ap (apply last) from.1) ∙ is) in
              omega arith;
        };
        values = λ w h.
            let here = keeps.stand w h in
            behind w (has.keeps.stand w here) ∙ ap (apply last) (kept w here) ∙ ap (apply last) (sym (leaves w here)) ∙ apply_apply v last (meaning a w) ∙ ap (apply unifier) (word-there w h);
        beyond = λ n above.
            let counted = numbers-there in
            let bound : d.substitution n ≡ apply last (Variable n) = ap (λ s. s n) (these.binds.substitution ∙ ap (λ s. compose s last) has.substitution) ∙ ap (apply last) (bare n (omega (arith, above, counted))).substitution in
            let value : v n ≡ Variable n = has.are.others n (λ x w is here. (let below = slice_get_within values x (Some w) is in absurd (omega (arith, above, counted, below, here, many)))) in
            bound ∙ sym (ap (apply last) value) ∙ sym (ap (apply unifier) (not-bound n (omega (arith, above, counted))));
        next = numbers-there;
        keeps = keeps-then (keeps-then keeps has.keeps) these.binds.words;
        many = has.many ∙ many;
        hold = λ k o below. these.binds.words.stand _ (has.hold k o below);
        variables = λ k o below. behind _ (has.hold k o below) ∙ ap (apply last) (has.means k o below) ∙ sym (ap (apply unifier) (not-bound (first + k) (omega arith)));
      }

    -- what the answer to the last unification says
    pub met-later : {E : Type 0} (d : Present W) (result : Result Bool E) → IfOk result (λ answer. MatchBool answer (UnifiesThese b d names ks ws later) ((s : Subst) → MakesThese b names ks ws s later → ⊥)) → IfOk result (IsHeadMet p d goal t count ws)
    met-later d (Ok true) these = meets-head these
    met-later d (Ok false) never = never-later never
    met-later d (Err e) none = none

-- the same store before, and the same behind
pub met-result : {W E : Type 0} (p q r s : Present W) → q ≡ p → s ≡ r → (goal : W) (t : Tree) (count : ℕ) (words : List W) (result : Result Bool E) → IfOk result (IsHeadMet q r goal t count words) → IfOk result (IsHeadMet p s goal t count words)
met-result p q r s before behind goal t count words result met =
    subst (λ x. IfOk result (IsHeadMet x s goal t count words)) before
    (subst (λ x. IfOk result (IsHeadMet q x goal t count words)) (sym behind) met)

-- what reading says where it says that the head may be equal
pub read-many : {W : Type 0} (a : Present W) (names : List (List ℕ)) (ks : List Part) (n : ℕ) (goal : W) (values : List (Option W)) (later : List (Later W)) (answer : Bool) → answer ≡ true → IsHeadRead a names ks n goal values later answer → length values ≡ n
read-many a names ks n goal values later answer positive read = (subst (IsHeadRead a names ks n goal values later) positive read).0.many_values

pub read-whole : {W : Type 0} (a : Present W) (names : List (List ℕ)) (ks : List Part) (n : ℕ) (goal : W) (values : List (Option W)) (later : List (Later W)) (answer : Bool) → answer ≡ true → IsHeadRead a names ks n goal values later answer → IsHeadRead a names ks (length values) goal values later true
read-whole a names ks n goal values later answer positive read =
    subst (λ k. IsHeadRead a names ks k goal values later true) (sym (read-many a names ks n goal values later answer positive read)) (subst (IsHeadRead a names ks n goal values later) positive read)

pub read-never : {W : Type 0} (a : Present W) (names : List (List ℕ)) (ks : List Part) (n : ℕ) (goal : W) (values : List (Option W)) (later : List (Later W)) (answer : Bool) → answer ≡ false → IsHeadRead a names ks n goal values later answer → IsHeadRead a names ks n goal values later false
read-never a names ks n goal values later answer negative read = subst (IsHeadRead a names ks n goal values later) negative read
