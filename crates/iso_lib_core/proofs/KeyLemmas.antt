-- The keys by which the code tells the groups of solutions.
use Rattle.std.proofs.Common.{◌≡◌, ◌≤◌, ℕ, suc, ◌+◌, List, [], ◌∷◌, ◌++◌, length, map, Bool, true, false, ◌||◌, ◌&&◌, refl, sym, ap, ap₂, ◌∙◌, arith, Vec, Global, rules, if◌then◌else◌}
use Rattle.std.specs.List.{filter, list_any, position_or_len}
use Rattle.std.specs.Cmp.Lexicographic.{pointwise}
use Rattle.std.proofs.lemmas.List.{length-map, map-append}
use Rattle.std.proofs.lemmas.List.Recursion.{is_position_or_len}
use Rattle.iso_model.specs.declared.terms.Term.{Term}
use Rattle.iso_model.specs.Terms.Trees.{Tree}
use Rattle.iso_model.specs.Terms.TermOf.{term_of}
use Rattle.iso_lib_core.specs.declared.variants.Piece.{Piece}
use Rattle.iso_lib_core.specs.declared.variants.Piece.TheVariants.{Variable, Integer, Atom, Compound}
use Rattle.iso_lib_core.specs.contracts.variants.PiecePartialEq.TheImpl.{eq-value}
use Rattle.iso_lib_core.specs.Variants.{Sign, sign_of, class_of}
use Rattle.iso_lib_core.specs.Groupings.{solution_of, put_at}
use Rattle.iso_lib_core.proofs.GroupLemmas.{place, classes_more, groups_more}
use Rattle.iso_lib_core.proofs.ClassLemmas.{sign_eq, parts_eq, parts_decide, class, class_firsts, class_groups}

-- the source's `==`
abbrev pub piece_eq : Piece → Piece → Bool
piece_eq = eq-value.it

piece_eq-is : (p q : Piece) → piece_eq p q ≡ sign_eq (sign_of p) (sign_of q)
piece_eq-is (Variable m) (Variable n) = search rules
piece_eq-is (Integer y) (Integer z) = search rules
piece_eq-is (Atom a) (Atom b) = search rules
piece_eq-is (Compound f m) (Compound g n) = search rules
piece_eq-is (Variable m) (Integer z) = search rules
piece_eq-is (Variable m) (Atom b) = search rules
piece_eq-is (Variable m) (Compound g n) = search rules
piece_eq-is (Integer y) (Variable n) = search rules
piece_eq-is (Integer y) (Atom b) = search rules
piece_eq-is (Integer y) (Compound g n) = search rules
piece_eq-is (Atom a) (Variable n) = search rules
piece_eq-is (Atom a) (Integer z) = search rules
piece_eq-is (Atom a) (Compound g n) = search rules
piece_eq-is (Compound f m) (Variable n) = search rules
piece_eq-is (Compound f m) (Integer z) = search rules
piece_eq-is (Compound f m) (Atom b) = search rules

pieces_eq-is : (ps qs : List Piece) → pointwise piece_eq ps qs ≡ parts_eq (map sign_of ps) (map sign_of qs)
pieces_eq-is [] [] = refl
pieces_eq-is [] (q ∷ qs) = refl
pieces_eq-is (p ∷ ps) [] = refl
pieces_eq-is (p ∷ ps) (q ∷ qs) = ap₂ (λ a b. a && b) (piece_eq-is p q) (pieces_eq-is ps qs)

abbrev pub Key : Type 0
Key = Vec Piece Global

-- the parts that a key has
abbrev pub view : Key → List Sign
view k = map sign_of k.items

abbrev pub key_eq : Key → Key → Bool
key_eq k l = pointwise piece_eq k.items l.items

any_key : (k : Key) (ks : List Key) → list_any (key_eq k) ks ≡ list_any (parts_eq (view k)) (map view ks)
any_key k [] = refl
any_key k (l ∷ ks) = ap₂ (λ a b. a || b) (pieces_eq-is k.items l.items) (any_key k ks)

place_key : (k : Key) (ks : List Key) → place (parts_eq (view k)) (map view ks) ≡ position_or_len (key_eq k) ks
place_key k ks = is_position_or_len (λ ls. place (parts_eq (view k)) (map view ls)) (key_eq k) refl (λ l ls. next l ls) ks where
  next : (l : Key) (ls : List Key) → place (parts_eq (view k)) (map view (l ∷ ls)) ≡ if key_eq k l then 0 else (1 + place (parts_eq (view k)) (map view ls))
  next l ls =
      let rest = place (parts_eq (view k)) (map view ls) in
      ap (λ b. if b then 0 else suc rest) (sym (pieces_eq-is k.items l.items))
      ∙ elim (key_eq k l) as (λ b. (if b then 0 else suc rest) ≡ (if b then 0 else (1 + rest))) [ true ↦ refl | false ↦ omega arith ]

place_most : {X : Type 0} (p : X → Bool) (xs : List X) → place p xs ≤ length xs
place_most p [] = omega arith
place_most p (x ∷ xs) =
    let others = place_most p xs in
    elim (p x) as (λ b. (if b then 0 else suc (place p xs)) ≤ suc (length xs)) [ true ↦ omega arith | false ↦ omega (arith, others) ]

-- the keys and the groups of the solutions so far, and the key of one more
module _ (ks : List Key) (key : Key) (xs : List (Term × Term)) (x : Term × Term) (gs : List (List Tree))
    (known : map view ks ≡ map class (class_firsts (map solution_of xs))) (grouped : gs ≡ class_groups (map solution_of xs)) (told : view key ≡ class_of (term_of x.0)) where
  pub keys_next : (new : List Key) → new ≡ (if list_any (key_eq key) ks then ks else (ks ++ key ∷ [])) → map view new ≡ map class (class_firsts (map solution_of (xs ++ x ∷ [])))
  keys_next new is =
      let ps = map solution_of xs in
      let q = solution_of x in
      let any = any_key key ks ∙ ap₂ (λ a b. list_any (parts_eq a) b) told known in
      ap (map view) is
      ∙ ap (λ b. map view (if b then ks else (ks ++ key ∷ []))) any
      ∙ elim (list_any (parts_eq (class q)) (map class (class_firsts ps)))
      as (λ b. map view (if b then ks else (ks ++ key ∷ [])) ≡ (if b then map class (class_firsts ps) else (map class (class_firsts ps) ++ class q ∷ []))) [
        | true ↦ known
        | false ↦ map-append view ks (key ∷ []) ∙ ap₂ (λ a b. a ++ b ∷ []) known told
      ]
      ∙ sym (classes_more class parts_eq parts_decide q ps)
      ∙ ap (λ ts. map class (class_firsts ts)) (sym (map-append solution_of xs (x ∷ [])))

  placed : position_or_len (key_eq key) ks ≡ place (parts_eq (class (solution_of x))) (map class (class_firsts (map solution_of xs)))
  placed = sym (place_key key ks) ∙ ap₂ (λ a b. place (parts_eq a) b) told known

  pub groups_next : (n : ℕ) (after : List (List Tree)) → n ≡ position_or_len (key_eq key) ks → after ≡ put_at n (solution_of x) gs → after ≡ class_groups (map solution_of (xs ++ x ∷ []))
  groups_next n after at is =
      is ∙ ap₂ (λ m hs. put_at m (solution_of x) hs) (at ∙ placed) grouped
      ∙ sym (groups_more class parts_eq parts_decide (solution_of x) (map solution_of xs))
      ∙ ap class_groups (sym (map-append solution_of xs (x ∷ [])))

  pub place_within : (n : ℕ) → n ≡ position_or_len (key_eq key) ks → n ≤ length gs
  place_within n at =
      let firsts = class_firsts (map solution_of xs) in
      let most = place_most (parts_eq (class (solution_of x))) (map class firsts) in
      let first = length-map firsts class in
      let second = length-map firsts (λ p. filter (λ q. parts_eq (class p) (class q)) (map solution_of xs)) in
      let third = ap length grouped in
      let here = at ∙ placed in
      omega (arith, here, most, first, second, third)
