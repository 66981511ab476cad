-- The indicators that a goal names, part by part.
use Rattle.std.proofs.Common.{◌≡◌, ◌<◌, ◌+◌, ◌++◌, ◌∷◌, [], ℕ, List, suc, zero, codes, refl, ap, sym, ◌∙◌, true, false, arith, if◌then◌else◌, map, ap₂, subst}
use Rattle.std.specs.Str.{bytes_eq}
use Rattle.std.proofs.lemmas.List.{append_assoc, append-nil, map-append}
use Rattle.iso_model.specs.Terms.Trees.{Tree, Variable, Integer, Name, Apply, End, More}
use Rattle.iso_model.specs.Terms.Sizes.{size}
use Rattle.iso_model.specs.Search.Bodies.{two}
use Rattle.iso_model.specs.Search.Storages.{declared_parts, listed_parts}
use Rattle.iso_lib_core.specs.Lists.{is_pair_named}

-- the parts of terms that are left, the last of them first
abbrev pub parts_left : List Tree → List Tree
parts_left [] = []
parts_left (t ∷ ts) = parts_left ts ++ declared_parts t

-- what is to be done of them
abbrev pub weight_left : List Tree → ℕ
weight_left [] = 0
weight_left (t ∷ ts) = suc (size t) + weight_left ts

pub parts_last : (ts : List Tree) (t : Tree) → parts_left (ts ++ t ∷ []) ≡ declared_parts t ++ parts_left ts
parts_last [] t = sym (append-nil (declared_parts t))
parts_last (u ∷ us) t = ap (λ xs. xs ++ declared_parts u) (parts_last us t) ∙ append_assoc (declared_parts t) (parts_left us) (declared_parts u)

pub weight_last : (ts : List Tree) (t : Tree) → weight_left (ts ++ t ∷ []) ≡ suc (size t) + weight_left ts
weight_last [] t = refl
weight_last (u ∷ us) t = let others = weight_last us t in omega (arith, others)

-- a conjunction's parts are those of its two, and others stand alone
pub conjunction_parts : (a b : Tree) → declared_parts (two (codes ",") a b) ≡ declared_parts a ++ declared_parts b
conjunction_parts a b = refl

pub single_parts : (t : Tree) → is_pair_named (codes ",") t ≡ false → declared_parts t ≡ listed_parts t
single_parts (Apply f (More a (More b End))) none = ap (λ x. if x then declared_parts a ++ declared_parts b else listed_parts (Apply f (More a (More b End)))) none
single_parts (Variable n) none = refl
single_parts (Integer z) none = refl
single_parts (Name a) none = refl
single_parts End none = refl
single_parts (More t ts) none = refl
single_parts (Apply f ts) none = refl

-- ---- words that are left, the last of them first

module _ {W : Type 0} (m : W → Tree) where
  last_parts : (rest : List W) (w : W) → parts_left (map m (rest ++ w ∷ [])) ≡ declared_parts (m w) ++ parts_left (map m rest)
  last_parts rest w = ap parts_left (map-append m rest (w ∷ [])) ∙ parts_last (map m rest) (m w)

  last_weight : (rest : List W) (w : W) → weight_left (map m (rest ++ w ∷ [])) ≡ suc (size (m w)) + weight_left (map m rest)
  last_weight rest w = ap weight_left (map-append m rest (w ∷ [])) ∙ weight_last (map m rest) (m w)

  -- a conjunction gives way to its two parts
  pub parts_apart : (old rest one new : List W) (w a b : W) → old ≡ rest ++ w ∷ [] → one ≡ rest ++ b ∷ [] → new ≡ one ++ a ∷ [] → m w ≡ two (codes ",") (m a) (m b)
      → parts_left (map m old) ≡ parts_left (map m new)
  parts_apart old rest one new w a b was first second is =
      ap (λ xs. parts_left (map m xs)) was ∙ last_parts rest w ∙ ap (λ t. declared_parts t ++ parts_left (map m rest)) is
      ∙ append_assoc (declared_parts (m a)) (declared_parts (m b)) (parts_left (map m rest))
      ∙ ap (λ xs. declared_parts (m a) ++ xs) (sym (last_parts rest b) ∙ ap (λ xs. parts_left (map m xs)) (sym first)) ∙ sym (last_parts one a) ∙ ap (λ xs. parts_left (map m xs)) (sym second)

  pub weight_apart : (old rest one new : List W) (w a b : W) → old ≡ rest ++ w ∷ [] → one ≡ rest ++ b ∷ [] → new ≡ one ++ a ∷ [] → m w ≡ two (codes ",") (m a) (m b)
      → weight_left (map m new) < weight_left (map m old)
  weight_apart old rest one new w a b was first second is =
      let before = ap (λ xs. weight_left (map m xs)) was ∙ last_weight rest w in
      let middle = ap (λ xs. weight_left (map m xs)) first ∙ last_weight rest b in
      let after = ap (λ xs. weight_left (map m xs)) second ∙ last_weight one a in
      let large = ap size is in
      omega (arith, before, middle, after, large)

  -- any other gives its own
  pub parts_alone : (old rest : List W) (w : W) → old ≡ rest ++ w ∷ [] → is_pair_named (codes ",") (m w) ≡ false → parts_left (map m old) ≡ listed_parts (m w) ++ parts_left (map m rest)
  parts_alone old rest w was none = ap (λ xs. parts_left (map m xs)) was ∙ last_parts rest w ∙ ap (λ xs. xs ++ parts_left (map m rest)) (single_parts (m w) none)

  pub weight_alone : (old rest : List W) (w : W) → old ≡ rest ++ w ∷ [] → weight_left (map m rest) < weight_left (map m old)
  weight_alone old rest w was = let before = ap (λ xs. weight_left (map m xs)) was ∙ last_weight rest w in omega (arith, before)
