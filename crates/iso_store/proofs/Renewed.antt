-- New variables that come where they first occur: no more than the term has.
use Rattle.std.proofs.Common.{◌≡◌, ◌≢◌, ℕ, ◌+◌, ◌-◌, ◌≤◌, ◌||◌, List, [], ◌∷◌, ◌++◌, length, take, drop, Bool, true, false, refl, ap, sym, ◌∙◌, arith, length-append, if◌then◌else◌, Option, Some, None, slice_get}
use Rattle.std.proofs.lemmas.Bool.{ne_eqb}
use Rattle.std.proofs.lemmas.List.{take-append-drop}
use Rattle.iso_atoms.specs.Texts.{text_at}
use Rattle.iso_model.specs.Terms.Trees.{Tree, Variable, Integer, Name, Apply, row}
use Rattle.iso_model.specs.Terms.Building.{Gather, with_step}
use Rattle.iso_model.specs.Terms.Variables.{is_in, occurs, distinct_from, variables, variable_count}
use Rattle.iso_model.proofs.OnTerms.VariableLemmas.{listed_occurring}
use Rattle.iso_store_core.specs.declared.patterns.Part.{Part}
use Rattle.iso_store_core.specs.declared.patterns.Part.TheVariants.{Variable as Place, Integer as Number, Atom, Compound}
use Rattle.iso_store_core.specs.Presents.{Present, TakesFrom}
use Rattle.iso_store_core.specs.Patterns.{IsPattern, part_step, after_parts}
use Rattle.iso_store.specs.Renewals.{new_for, new_of}
use Rattle.iso_store.proofs.InstanceLemmas.{occurs-append, others, so_far}

pub takes-then : {W : Type 0} {p q r : Present W} (first : ℕ) → TakesFrom p q first → TakesFrom q r first → TakesFrom p r first
takes-then first one two = record { next = two.next ∙ one.next; others = λ n below. two.others n below ∙ one.others n below }

-- ---- the variables of a row
seen-append : (seen : List ℕ) (ts us : List Tree) → distinct_from seen (row (ts ++ us)) ≡ distinct_from (distinct_from seen (row ts)) (row us)
seen-append seen [] us = refl
seen-append seen (t ∷ ts) us = seen-append (distinct_from seen t) ts us

seen-gathered : (f : List ℕ) (n : ℕ) (ts : List Tree) → variables (row (with_step (Gather f n) ts)) ≡ variables (row ts)
seen-gathered f n ts =
    let front = take (length ts - n) ts in
    let end = drop (length ts - n) ts in
    seen-append [] front (Apply f (row end) ∷ []) ∙ sym (seen-append [] front end) ∙ ap (λ us. variables (row us)) (take-append-drop (length ts - n) ts)

seen-least : (seen : List ℕ) (n : ℕ) (b : Bool) → length seen ≤ length (if b then seen else (seen ++ n ∷ []))
seen-least seen n true = omega arith
seen-least seen n false = omega (arith, length-append seen (n ∷ []))

-- ---- one part more
module _ (names : List (List ℕ)) where
  step-more : (k : Part) (ts : List Tree) → length (variables (row ts)) ≤ length (variables (row (with_step (part_step names Variable k) ts)))
  step-more (Place j) ts = omega (arith, ap length (seen-append [] ts (Variable j ∷ [])), seen-least (variables (row ts)) j (is_in j (variables (row ts))))
  step-more (Number z) ts = omega (arith, ap length (seen-append [] ts (Integer z ∷ [])))
  step-more (Atom a) ts = omega (arith, ap length (seen-append [] ts (Name (text_at names a) ∷ [])))
  step-more (Compound a n) ts = omega (arith, ap length (seen-gathered (text_at names a) n ts))

  -- a variable comes for one that was not seen
  pub step-seen : {W : Type 0} (known : List (Option W)) (k : Part) (ts : List Tree) → ((j : ℕ) → slice_get known j ≡ Some None → occurs j (row ts) ≡ false)
      → length (variables (row ts)) + new_of known k ≤ length (variables (row (with_step (part_step names Variable k) ts)))
  step-seen {W} known (Place j) ts left = by (slice_get known j) refl
    where
      by : (o : Option (Option W)) → slice_get known j ≡ o → length (variables (row ts)) + new_for o ≤ length (variables (row (ts ++ Variable j ∷ [])))
      by None is = omega (arith, step-more (Place j) ts)
      by (Some (Some w)) is = omega (arith, step-more (Place j) ts)
      by (Some None) is =
          let none : is_in j (variables (row ts)) ≡ false = listed_occurring (row ts) j ∙ left j is in
          let seen = variables (row ts) in
          let more = ap length (seen-append [] ts (Variable j ∷ [])) in
          let here : length (if is_in j seen then seen else (seen ++ j ∷ [])) ≡ length (seen ++ j ∷ []) = ap (λ b. length (if b then seen else (seen ++ j ∷ []))) none in
          omega (arith, more, here, length-append seen (j ∷ []))
  step-seen known (Number z) ts left = omega (arith, step-more (Number z) ts)
  step-seen known (Atom a) ts left = omega (arith, step-more (Atom a) ts)
  step-seen known (Compound a n) ts left = omega (arith, step-more (Compound a n) ts)

  or-none : (a b : Bool) → a || b ≡ false → a || (b || false) ≡ false
  or-none true b h = h
  or-none false true h = h
  or-none false false h = refl

  or-leaf : (a b : Bool) → a ≡ false → b ≡ false → a || (b || false) ≡ false
  or-leaf a b one two = or-none a b (ap (λ c. c || b) one ∙ two)

  -- a variable that is not the part does not come to occur
  pub step-absent : (k : Part) (ts : List Tree) (x : ℕ) → occurs x (row ts) ≡ false → k ≢ Place x → occurs x (row (with_step (part_step names Variable k) ts)) ≡ false
  step-absent (Place j) ts x none other = occurs-append x ts (Variable j ∷ []) ∙ or-leaf (occurs x (row ts)) (occurs x (Variable j)) none (ne_eqb j x (λ e. other (ap Place e)))
  step-absent (Number z) ts x none other = occurs-append x ts (Integer z ∷ []) ∙ or-leaf (occurs x (row ts)) false none refl
  step-absent (Atom a) ts x none other = occurs-append x ts (Name (text_at names a) ∷ []) ∙ or-leaf (occurs x (row ts)) false none refl
  step-absent (Compound a n) ts x none other =
      let front = take (length ts - n) ts in
      let end = drop (length ts - n) ts in
      let both = sym (occurs-append x front end) ∙ ap (λ us. occurs x (row us)) (take-append-drop (length ts - n) ts) ∙ none in
      occurs-append x front (Apply (text_at names a) (row end) ∷ []) ∙ or-none (occurs x (row front)) (occurs x (row end)) both

  after-more : (ks : List Part) (ts : List Tree) → length (variables (row ts)) ≤ length (variables (row (after_parts names ks ts)))
  after-more [] ts = omega arith
  after-more (k ∷ ks) ts = omega (arith, step-more k ts, after-more ks (with_step (part_step names Variable k) ts))

  pub seen-so-far : (ks : List Part) (t : Tree) → IsPattern names ks t → (i : ℕ) → length (variables (row (so_far names ks i))) ≤ variable_count t
  seen-so-far ks t whole i =
      omega (arith, after-more (drop i ks) (so_far names ks i), ap (λ ts. length (variables (row ts))) (others names ks t whole i))
