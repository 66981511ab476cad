-- Items in groups by what each is told by: what one more item makes of the groups.
use Rattle.std.proofs.Common.{◌≡◌, ◌<◌, ◌≤◌, get_or, set, ℕ, zero, suc, ◌+◌, List, [], ◌∷◌, ◌++◌, length, map, Bool, true, false, not, ◌||◌, refl, sym, ap, ap₂, ◌∙◌, arith, if◌then◌else◌}
use Rattle.std.specs.List.{filter, list_any, AllByRecursion, position_or_len}
use Rattle.std.specs.Bool.{Decides}
use Rattle.std.specs.Cmp.{both_ways}
use Rattle.std.proofs.lemmas.Bool.{false≢true, false_from_ne_true, or_parts}
use Rattle.std.proofs.lemmas.List.{append-nil, map-append}
use Rattle.std.proofs.lemmas.List.Elements.{filter-append}
use Rattle.std.proofs.lemmas.List.Recursion.{is_position_or_len}
use Rattle.std.proofs.lemmas.Map.Views.{any-filter_same}
use Rattle.iso_lib_core.specs.Groupings.{put_at}

not_false : (b : Bool) → not b ≡ true → b ≡ false
not_false true h = absurd (false≢true h)
not_false false h = refl

-- the place of the first that passes, or how many there are
abbrev pub place : {X : Type 0} → (X → Bool) → List X → ℕ
place p [] = 0
place p (x ∷ xs) = if p x then 0 else suc (place p xs)

pub place_is : {X : Type 0} (p : X → Bool) (xs : List X) → place p xs ≡ position_or_len p xs
place_is {X} p xs = is_position_or_len (place p) p refl (λ y ys. next y ys) xs where
  next : (y : X) (ys : List X) → place p (y ∷ ys) ≡ if p y then 0 else (1 + place p ys)
  next y ys = elim (p y) as (λ b. (if b then 0 else suc (place p ys)) ≡ (if b then 0 else (1 + place p ys))) [ true ↦ refl | false ↦ omega arith ]

-- each item has a class, and this test tells classes
module _ {X C : Type 0} (class : X → C) (eq : C → C → Bool) (decides : (a b : C) → Decides (eq a b) (a ≡ b)) where
  abbrev pub same : X → X → Bool
  same p q = eq (class p) (class q)

  -- the first item of each class
  abbrev pub firsts_by : List X → List X
  firsts_by [] = []
  firsts_by (p ∷ ps) = p ∷ filter (λ q. not (same p q)) (firsts_by ps)

  -- the items of each class
  abbrev pub groups_by : List X → List (List X)
  groups_by ps = map (λ p. filter (same p) ps) (firsts_by ps)

  told : (p q : X) → same p q ≡ true → class p ≡ class q
  told p q h = (decides (class p) (class q)).0 h

  tell : (p q : X) → class p ≡ class q → same p q ≡ true
  tell p q h = (decides (class p) (class q)).1 h

  same_itself : (p : X) → same p p ≡ true
  same_itself p = tell p p refl

  either_way : (p q : X) → same p q ≡ same q p
  either_way p q = both_ways (same p q) (same q p) (λ h. tell q p (sym (told p q h))) (λ h. tell p q (sym (told q p h)))

  -- of two that differ only one is as a third one
  apart : (p q x : X) → same p q ≡ false → same x q ≡ true → same p x ≡ false
  apart p q x other h = false_from_ne_true (same p x) (λ k. false≢true (sym other ∙ tell p q (told p x k ∙ told x q h)))

  -- ---- one item more

  module _ (q : X) where
    -- whether an item is of its class
    abbrev any : List X → Bool
    any ps = list_any (λ p. same p q) ps

    kept_one : (p : X) (fs : List X) (b : Bool) → b ≡ same p q → p ∷ (fs ++ (if not b then q ∷ [] else [])) ≡ (if (b || false) then p ∷ fs else p ∷ (fs ++ q ∷ []))
    kept_one p fs true h = ap (λ xs. p ∷ xs) (append-nil fs)
    kept_one p fs false h = refl

    or_true : (b : Bool) → (b || true) ≡ true
    or_true true = refl
    or_true false = refl

    -- it is the first one of its class, or the first ones stay
    pub firsts_more : (ps : List X) → firsts_by (ps ++ q ∷ []) ≡ (if any ps then firsts_by ps else (firsts_by ps ++ q ∷ []))
    firsts_more [] = refl
    firsts_more (p ∷ ps) =
        let differs : X → Bool = λ x. not (same p x) in
        ap (λ fs. p ∷ filter differs fs) (firsts_more ps) ∙
        elim (any ps) as (λ b. p ∷ filter differs (if b then firsts_by ps else (firsts_by ps ++ q ∷ [])) ≡ (if (same p q || b) then p ∷ filter differs (firsts_by ps) else (p ∷ (filter differs (firsts_by ps) ++ q ∷ [])))) [
          | true ↦ ap (λ b. if b then p ∷ filter differs (firsts_by ps) else (p ∷ (filter differs (firsts_by ps) ++ q ∷ []))) (sym (or_true (same p q)))
          | false ↦ ap (λ fs. p ∷ fs) (filter-append differs (firsts_by ps) (q ∷ [])) ∙ kept_one p (filter differs (firsts_by ps)) (same p q) refl
        ]

    -- a class has an item where it has a first one
    pub any_first : (ps : List X) → any (firsts_by ps) ≡ any ps
    any_first [] = refl
    any_first (p ∷ ps) = go (same p q) refl (any_first ps) where
      go : (b : Bool) → same p q ≡ b → any (firsts_by ps) ≡ any ps → (same p q || any (filter (λ x. not (same p x)) (firsts_by ps))) ≡ (same p q || any ps)
      go true h others = rw h refl
      go false h others =
          ap (λ b. same p q || b) (any-filter_same (λ x. same x q) (λ x. not (same p x)) true (λ x k. ap not (apart p q x h k)) (firsts_by ps) ∙ others)

    -- the items of a class, with the new one
    abbrev with_new : List X → X → List X
    with_new ps p = filter (same p) ps ++ filter (same p) (q ∷ [])

    none_new : (ps fs : List X) → any fs ≡ false → map (with_new ps) fs ≡ map (λ p. filter (same p) ps) fs
    none_new ps [] none = refl
    none_new ps (f ∷ fs) none =
        let parts = or_parts (same f q) (any fs) none in
        ap₂ (λ x xs. x ∷ xs) (ap (λ b. filter (same f) ps ++ (if b then q ∷ [] else [])) parts.0 ∙ append-nil (filter (same f) ps)) (none_new ps fs parts.1)

    -- no two items are of one class
    abbrev pub Apart : List X → Type 0
    Apart [] = Unit {0}
    Apart (f ∷ fs) = AllByRecursion (λ x. same f x ≡ false) fs × Apart fs

    others_none : (f : X) (fs : List X) → same f q ≡ true → AllByRecursion (λ x. same f x ≡ false) fs → any fs ≡ false
    others_none f [] here all = refl
    others_none f (x ∷ fs) here all =
        let other : same x q ≡ false = false_from_ne_true (same x q) (λ h. false≢true (sym all.0 ∙ tell f x (told f q here ∙ sym (told x q h)))) in
        ap₂ (λ a b. a || b) other (others_none f fs here all.1)

    some_new : (ps fs : List X) → Apart fs → any fs ≡ true → map (with_new ps) fs ≡ put_at (place (eq (class q)) (map class fs)) q (map (λ p. filter (same p) ps) fs)
    some_new ps [] distinct some = absurd (false≢true some)
    some_new ps (f ∷ fs) distinct some = go (same f q) refl (λ more. some_new ps fs distinct.1 more) where
      go : (b : Bool) → same f q ≡ b
          → (any fs ≡ true → map (with_new ps) fs ≡ put_at (place (eq (class q)) (map class fs)) q (map (λ p. filter (same p) ps) fs))
          → map (with_new ps) (f ∷ fs) ≡ put_at (place (eq (class q)) (map class (f ∷ fs))) q (map (λ p. filter (same p) ps) (f ∷ fs))
      go true h others =
          let back : eq (class q) (class f) ≡ true = sym (either_way f q) ∙ h in
          rw back (ap₂ (λ x xs. x ∷ xs) (ap (λ b. filter (same f) ps ++ (if b then q ∷ [] else [])) h) (none_new ps fs (others_none f fs h distinct.0)))
      go false h others =
          let back : eq (class q) (class f) ≡ false = sym (either_way f q) ∙ h in
          let more : any fs ≡ true = sym (ap (λ b. b || any fs) h) ∙ some in
          rw back (ap₂ (λ x xs. x ∷ xs) (ap (λ b. filter (same f) ps ++ (if b then q ∷ [] else [])) h ∙ append-nil (filter (same f) ps)) (others more))

    -- a new class is behind the others
    new_class : (group : X → List X) (fs : List X) → any fs ≡ false → put_at (place (eq (class q)) (map class fs)) q (map group fs) ≡ map group fs ++ (q ∷ []) ∷ []
    new_class group [] none = refl
    new_class group (f ∷ fs) none =
        let parts = or_parts (same f q) (any fs) none in
        let back : eq (class q) (class f) ≡ false = sym (either_way f q) ∙ parts.0 in
        rw back (ap (λ xs. group f ∷ xs) (new_class group fs parts.1))

    none_filtered : (ps : List X) → any ps ≡ false → filter (same q) ps ≡ []
    none_filtered [] none = refl
    none_filtered (p ∷ ps) none =
        let parts = or_parts (same p q) (any ps) none in
        let back : same q p ≡ false = sym (either_way p q) ∙ parts.0 in
        rw back (none_filtered ps parts.1)

    map_same : {Y : Type 0} (f g : X → Y) (xs : List X) → ((x : X) → f x ≡ g x) → map f xs ≡ map g xs
    map_same f g [] same = refl
    map_same f g (x ∷ xs) same = ap₂ (λ y ys. y ∷ ys) (same x) (map_same f g xs same)

    all_filtered : (P : X → Type 0) (r : X → Bool) (fs : List X) → AllByRecursion P fs → AllByRecursion P (filter r fs)
    all_filtered P r [] all = tt
    all_filtered P r (f ∷ fs) all =
        elim (r f) as (λ b. AllByRecursion P (if b then f ∷ filter r fs else filter r fs)) [ true ↦ (all.0, all_filtered P r fs all.1) | false ↦ all_filtered P r fs all.1 ]

    apart_filtered : (r : X → Bool) (fs : List X) → Apart fs → Apart (filter r fs)
    apart_filtered r [] distinct = tt
    apart_filtered r (f ∷ fs) distinct =
        elim (r f) as (λ b. Apart (if b then f ∷ filter r fs else filter r fs)) [
          | true ↦ (all_filtered (λ x. same f x ≡ false) r fs distinct.0, apart_filtered r fs distinct.1)
          | false ↦ apart_filtered r fs distinct.1
        ]

    all_differ : (p : X) (fs : List X) → AllByRecursion (λ x. same p x ≡ false) (filter (λ x. not (same p x)) fs)
    all_differ p [] = tt
    all_differ p (f ∷ fs) = go (same p f) refl (all_differ p fs) where
      go : (b : Bool) → same p f ≡ b → AllByRecursion (λ x. same p x ≡ false) (filter (λ x. not (same p x)) fs) → AllByRecursion (λ x. same p x ≡ false) (filter (λ x. not (same p x)) (f ∷ fs))
      go true h others = rw h others
      go false h others = rw h (h, others)

    firsts_apart : (ps : List X) → Apart (firsts_by ps)
    firsts_apart [] = tt
    firsts_apart (p ∷ ps) = (all_differ p (firsts_by ps), apart_filtered (λ x. not (same p x)) (firsts_by ps) (firsts_apart ps))

    -- the item comes to the group of its class
    pub groups_more : (ps : List X) → groups_by (ps ++ q ∷ []) ≡ put_at (place (eq (class q)) (map class (firsts_by ps))) q (groups_by ps)
    groups_more ps =
        map_same (λ p. filter (same p) (ps ++ q ∷ [])) (with_new ps) (firsts_by (ps ++ q ∷ [])) (λ p. filter-append (same p) ps (q ∷ []))
        ∙ ap (map (with_new ps)) (firsts_more ps) ∙ go (any ps) refl where
          go : (b : Bool) → any ps ≡ b → map (with_new ps) (if any ps then firsts_by ps else (firsts_by ps ++ q ∷ [])) ≡ put_at (place (eq (class q)) (map class (firsts_by ps))) q (groups_by ps)
          go true h = rw h (some_new ps (firsts_by ps) (firsts_apart ps) (any_first ps ∙ h))
          go false h =
              let none : any (firsts_by ps) ≡ false = any_first ps ∙ h in
              let own : with_new ps q ≡ q ∷ [] = ap₂ (λ xs ys. xs ++ ys) (none_filtered ps h) (ap (λ b. if b then q ∷ [] else []) (same_itself q)) in
              rw h (map-append (with_new ps) (firsts_by ps) (q ∷ [])
              ∙ ap₂ (λ xs x. xs ++ x ∷ []) (none_new ps (firsts_by ps) none) own
              ∙ sym (new_class (λ p. filter (same p) ps) (firsts_by ps) none))

    any_classes : (fs : List X) → list_any (eq (class q)) (map class fs) ≡ any fs
    any_classes [] = refl
    any_classes (f ∷ fs) = ap₂ (λ a b. a || b) (either_way q f) (any_classes fs)

    -- the classes of the first ones
    pub classes_more : (ps : List X)
        → map class (firsts_by (ps ++ q ∷ [])) ≡ (if list_any (eq (class q)) (map class (firsts_by ps)) then map class (firsts_by ps) else (map class (firsts_by ps) ++ class q ∷ []))
    classes_more ps =
        ap (map class) (firsts_more ps) ∙ ap (λ b. map class (if b then firsts_by ps else (firsts_by ps ++ q ∷ []))) (sym (any_first ps) ∙ sym (any_classes (firsts_by ps)))
        ∙ elim (list_any (eq (class q)) (map class (firsts_by ps)))
        as (λ b. map class (if b then firsts_by ps else (firsts_by ps ++ q ∷ [])) ≡ (if b then map class (firsts_by ps) else (map class (firsts_by ps) ++ class q ∷ []))) [
          | true ↦ refl
          | false ↦ map-append class (firsts_by ps) (q ∷ [])
        ]

-- ---- one item more at its place

-- what changed at a place had the item added
pub put_before : {X Y : Type 0} (f : X → List Y) (xs : List X) (n : ℕ) (old new : X) (p : Y) → n < length xs → old ≡ get_or xs n old → f new ≡ f old ++ p ∷ [] → map f (set xs n new) ≡ put_at n p (map f xs)
put_before f [] n old new p within is grown = absurd (omega (arith, within))
put_before f (x ∷ xs) zero old new p within is grown = ap (λ g. g ∷ map f xs) (grown ∙ ap (λ y. f y ++ p ∷ []) is)
put_before f (x ∷ xs) (suc n) old new p within is grown = ap (λ gs. f x ∷ gs) (put_before f xs n old new p (omega (arith, within)) is grown)

-- what came behind has the item alone
pub put_behind : {X Y : Type 0} (f : X → List Y) (xs : List X) (n : ℕ) (new : X) (p : Y) → length xs ≤ n → f new ≡ p ∷ [] → map f (xs ++ new ∷ []) ≡ put_at n p (map f xs)
put_behind f [] n new p behind is = ap (λ g. g ∷ []) is
put_behind f (x ∷ xs) zero new p behind is = absurd (omega (arith, behind))
put_behind f (x ∷ xs) (suc n) new p behind is = ap (λ gs. f x ∷ gs) (put_behind f xs n new p (omega (arith, behind)) is)
