-- What is left to do of listing the variables of a term.
use Rattle.std.proofs.Common.{◌≡◌, ℕ, ◌+◌, ◌<◌, List, [], ◌∷◌, ◌++◌, map, true, refl, ap, sym, ◌∙◌, subst, arith, append_assoc, IsSome}
use Rattle.std.specs.List.{All}
use Rattle.std.proofs.lemmas.Bool.{eq-eqb, or_left, or_right, false≢true}
use Rattle.iso_model.specs.Terms.Trees.{Tree, Variable, Integer, Name, Apply, End, More, row, count}
use Rattle.iso_model.specs.Terms.Sorts.{is_term}
use Rattle.iso_model.specs.Terms.Sizes.{size}
use Rattle.iso_model.specs.Terms.Variables.{occurs, is_in, distinct_from}
use Rattle.iso_model.specs.Terms.Unification.Listed.{Covers, distinct_covers}
use Rattle.iso_store.specs.declared.occurs.Task.{Task}
use Rattle.iso_store.specs.declared.occurs.Task.TheVariants.{Search, Leave}
use Rattle.iso_store.specs.declared.variables.Listing.{Listing}
use Rattle.iso_store_core.proofs.RetainLemmas.{wide-within}
use Rattle.iso_store_core.specs.Presents.{Present, Holds, meaning}
use Rattle.iso_store_core.specs.Arguments.{arity, argument, arguments_from}
use Rattle.iso_store.specs.Notes.{noted}
use Rattle.iso_store.specs.Searching.{IsThere}
use Rattle.iso_store.specs.Listing.{IsListing, AreSeen, seen, seen_after, number_of}
use Rattle.iso_store.proofs.ArgumentLemmas.{row_of_term, arguments-more, arguments-last, arguments-whole}

-- a term whose variables were seen brings none
pub distinct-known : (s : List ℕ) (t : Tree) → Covers s t → distinct_from s t ≡ s
distinct-known s (Variable n) covers = let inside = covers n (eq-eqb n n refl) in rw inside refl
distinct-known s (Integer z) covers = refl
distinct-known s (Name a) covers = refl
distinct-known s (Apply f ts) covers = distinct-known s ts covers
distinct-known s End covers = refl
distinct-known s (More t ts) covers =
    let first = distinct-known s t (λ x o. covers x (or_left (occurs x t) (occurs x ts) o)) in
    ap (λ v. distinct_from v ts) first ∙ distinct-known s ts (λ x o. covers x (or_right (occurs x t) (occurs x ts) o))

module _ {W : Type 0} (p : Present W) where
  after-append : (now : List ℕ) (xs ys : List (Task W)) → seen_after p now (xs ++ ys) ≡ seen_after p (seen_after p now ys) xs
  after-append now [] ys = refl
  after-append now (Search w i n ∷ xs) ys = ap (λ s. distinct_from s (row (arguments_from i (meaning p w)))) (after-append now xs ys)
  after-append now (Leave k ∷ xs) ys = after-append now xs ys

  -- one task more
  pub after-more : (now : List ℕ) (xs ys : List (Task W)) (k : Task W) → ys ≡ xs ++ k ∷ [] → seen_after p now ys ≡ seen_after p (seen_after p now (k ∷ [])) xs
  after-more now xs ys k more = ap (seen_after p now) more ∙ after-append now xs (k ∷ [])

  module _ (at : ℕ → Tree) where
    are-append : (now : List ℕ) (xs ys : List (Task W)) → AreSeen p at (seen_after p now ys) xs → AreSeen p at now ys → AreSeen p at now (xs ++ ys)
    are-append now [] ys front end = end
    are-append now (Search w i n ∷ xs) ys front end = are-append now xs ys front end
    are-append now (Leave k ∷ xs) ys front end = (subst (λ s. Covers s (at k)) (sym (after-append now xs ys)) front.0, are-append now xs ys front.1 end)

    pub are-parts : (now : List ℕ) (xs ys : List (Task W)) → AreSeen p at now (xs ++ ys) → AreSeen p at (seen_after p now ys) xs × AreSeen p at now ys
    are-parts now [] ys sound = (tt, sound)
    are-parts now (Search w i n ∷ xs) ys sound = are-parts now xs ys sound
    are-parts now (Leave k ∷ xs) ys sound =
        let parts = are-parts now xs ys sound.1 in
        ((subst (λ s. Covers s (at k)) (after-append now xs ys) sound.0, parts.0), parts.1)

    -- a compound is left to be gone through by its arguments
    module _ (xs ys zs : List (Task W)) (word : W) (k n : ℕ) (f : List ℕ) (ts : Tree) (is : meaning p word ≡ Apply f ts) (many : count ts ≡ n) (sort : is_term (meaning p word) ≡ true) (here : at k ≡ meaning p word)
        (first : ys ≡ xs ++ Leave k ∷ []) (second : zs ≡ ys ++ Search word 0 n ∷ []) where
      both : zs ≡ xs ++ Leave k ∷ Search word 0 n ∷ []
      both = second ∙ ap (λ us. us ++ Search word 0 n ∷ []) first ∙ append_assoc xs (Leave k ∷ []) (Search word 0 n ∷ [])

      inner : (now : List ℕ) → seen_after p now (Search word 0 n ∷ []) ≡ distinct_from now (meaning p word)
      inner now = ap (distinct_from now) (arguments-whole f n (meaning p word) ts is many sort)

      pub after-compound : (now : List ℕ) → seen_after p now zs ≡ seen_after p (distinct_from now (meaning p word)) xs
      after-compound now = ap (seen_after p now) both ∙ after-append now xs (Leave k ∷ Search word 0 n ∷ []) ∙ ap (λ s. seen_after p s xs) (inner now)

      pub are-compound : (now : List ℕ) → AreSeen p at (distinct_from now (meaning p word)) xs → AreSeen p at now zs
      are-compound now sound =
          let covers : Covers (seen_after p now (Search word 0 n ∷ [])) (at k) = rw (inner now, here) (distinct_covers now (meaning p word)) in
          rw both (are-append now xs (Leave k ∷ Search word 0 n ∷ []) (subst (λ s. AreSeen p at s xs) (sym (inner now)) sound) (covers, tt))

    -- an argument is gone through, and the others behind it are left to be
    module _ (xs : List (Task W)) (word : W) (i n : ℕ) (below : i < n) (many : arity (meaning p word) ≡ n) (t : Tree) (is : t ≡ argument i (meaning p word)) where
      pub distinct-last : (now : List ℕ) → i + 1 ≡ n → distinct_from now (row (arguments_from i (meaning p word))) ≡ distinct_from now t
      distinct-last now last = ap (λ us. distinct_from now (row us)) (arguments-last i n (meaning p word) t below many is last)

      distinct-more : (now : List ℕ) → distinct_from now (row (arguments_from i (meaning p word))) ≡ seen_after p (distinct_from now t) (Search word (i + 1) n ∷ [])
      distinct-more now = ap (λ us. distinct_from now (row us)) (arguments-more i n (meaning p word) t below many is)

      pub after-argument : (now : List ℕ) (ys : List (Task W)) → ys ≡ xs ++ Search word (i + 1) n ∷ [] → seen_after p (distinct_from now t) ys ≡ seen_after p (distinct_from now (row (arguments_from i (meaning p word)))) xs
      after-argument now ys more = after-more (distinct_from now t) xs ys (Search word (i + 1) n) more ∙ ap (λ s. seen_after p s xs) (sym (distinct-more now))

      pub are-argument : (now : List ℕ) (ys : List (Task W)) → ys ≡ xs ++ Search word (i + 1) n ∷ [] → AreSeen p at (distinct_from now (row (arguments_from i (meaning p word)))) xs → AreSeen p at (distinct_from now t) ys
      are-argument now ys more sound = rw more (are-append (distinct_from now t) xs (Search word (i + 1) n ∷ []) (subst (λ s. AreSeen p at s xs) (distinct-more now) sound) tt)

pub size-of-term : (t : Tree) → is_term t ≡ true → 0 < size t
size-of-term (Variable n) h = omega arith
size-of-term (Integer z) h = let some = wide-within z in omega arith
size-of-term (Name a) h = omega arith
size-of-term (Apply f ts) h = omega arith
size-of-term End h = absurd (false≢true h)
size-of-term (More t ts) h = absurd (false≢true h)

module _ {W : Type 0} (p : Present W) (at : ℕ → Tree) (place : ℕ → ℕ) where
  -- other tasks
  pub listed-tasks : (l m : Listing W) (now next : List ℕ) → m.found ≡ l.found → m.searched ≡ l.searched → All (IsThere p) m.tasks.items → AreSeen p at next m.tasks.items → IsListing p at place now l → IsListing p at place next m
  listed-tasks l m now next found searched there sound is =
      let same : seen p m ≡ seen p l = ap (λ ws. map (λ w. number_of (meaning p w)) ws.items) found in
      record {
        hold = rw found is.hold;
        variables = ap (λ ws. map (meaning p) ws.items) found ∙ is.variables ∙ ap (map Variable) (sym same);
        covered = λ k some. subst (λ s. Covers s (at k)) (sym same) (is.covered k (subst (λ ns. IsSome (noted ns k)) searched some));
        known = λ n inside. subst (λ ns. IsSome (noted ns (place n))) (sym searched) (is.known n (ap (is_in n) (sym same) ∙ inside));
        there = there;
        sound = sound;
      }

-- the arguments of a compound are there
pub compound-there : {W : Type 0} (p : Present W) (word : W) (n : ℕ) (f : List ℕ) (ts : Tree) → Holds p word → meaning p word ≡ Apply f ts → count ts ≡ n → is_term (meaning p word) ≡ true → IsThere p (Search word 0 n)
compound-there p word n f ts holds is many sort =
    let some = (row_of_term f ts (ap is_term (sym is) ∙ sort)).0 in
    (holds, omega arith, ap arity is ∙ many)
