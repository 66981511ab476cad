-- Whether goals can be converted, over the words of a store, with what is left to be looked at.
use Rattle.std.proofs.Common.{◌≡◌, ℕ, ◌+◌, ◌<◌, List, [], ◌∷◌, ◌++◌, map, length, get_or, Bool, true, false, ◌&&◌, refl, sym, ap, ap₂, ◌∙◌, subst, arith, Option, Some, None, is_some, MatchOption, option_to_list, append-nil}
use Rattle.std.proofs.lemmas.Bool.{false≢true}
use Rattle.std.proofs.lemmas.List.{nil_from_length}
use Rattle.std.proofs.Math.Bool.{and_assoc}
use Rattle.iso_model.specs.Terms.Trees.{Tree, Apply, End, More, count, row}
use Rattle.iso_model.specs.Terms.Sizes.{size}
use Rattle.iso_model.specs.Search.Bodies.{Body, two, both, converted}
use Rattle.iso_store_core.specs.Presents.{Present, meaning}
use Rattle.iso_prep.specs.declared.connectives.Connective.{Connective}
use Rattle.iso_prep.specs.declared.connectives.Connective.TheVariants as connective
use Rattle.iso_prep.specs.Connectives.{text_of, join_of, connective_of}
use Rattle.iso_prep.specs.Conversions.{is_callable}
use Rattle.iso_prep.proofs.ConversionLemmas.{by_connective, converted_by_connective}
use Rattle.iso_search_core.specs.declared.callable_goals.Construct.{Construct}
use Rattle.iso_search_core.specs.Constructs.{IsConstruct}

-- ---- compounds

both_callable : (join : Body → Body → Body) (x y : Option Body) → is_some (both join x y) ≡ is_some x && is_some y
both_callable join (Some a) (Some b) = refl
both_callable join (Some a) None = refl
both_callable join None y = refl

joined_callable : (o : Option Connective) (x y : Option Body) (t : Tree) → is_some o ≡ true → is_some (by_connective o x y t) ≡ is_some x && is_some y
joined_callable None x y t h = absurd (false≢true h)
joined_callable (Some k) x y t h = both_callable (join_of k) x y

other_callable : (o : Option Connective) (x y : Option Body) (t : Tree) → is_some o ≡ false → is_some (by_connective o x y t) ≡ true
other_callable None x y t h = refl
other_callable (Some k) x y t h = absurd (false≢true (sym h))

-- a control construct can be converted where both parts can
pub construct_callable : (f : List ℕ) (a b : Tree) → is_some (connective_of f) ≡ true → is_callable (two f a b) ≡ is_callable a && is_callable b
construct_callable f a b named = ap is_some (converted_by_connective f a b) ∙ joined_callable (connective_of f) (converted a) (converted b) (two f a b) named

-- any other compound can
pub compound_callable : (f : List ℕ) (ts : Tree) → (count ts ≡ 2 → is_some (connective_of f) ≡ false) → is_callable (Apply f ts) ≡ true
compound_callable f (More a (More b End)) h = ap is_some (converted_by_connective f a b) ∙ other_callable (connective_of f) (converted a) (converted b) (two f a b) (h (omega arith))
compound_callable f ts h = refl

-- one of two words
module _ {W : Type 0} (m : W → Tree) (ws : List W) (v w : W) (many : length ws ≡ 2) (first : v ≡ get_or ws 0 v) (second : w ≡ get_or ws 1 w) where
  pub two_words : row (map m ws) ≡ More (m v) (More (m w) End)
  two_words = by_words ws many first second where
    by_words : (xs : List W) → length xs ≡ 2 → v ≡ get_or xs 0 v → w ≡ get_or xs 1 w → row (map m xs) ≡ More (m v) (More (m w) End)
    by_words (x ∷ y ∷ []) h one other = ap₂ (λ a b. More (m a) (More (m b) End)) (sym one) (sym other)
    by_words xs h one other = absurd (omega (arith, h))

  pub words_callable : (f : List ℕ) → is_some (connective_of f) ≡ true → is_callable (Apply f (row (map m ws))) ≡ is_callable (m v) && is_callable (m w)
  words_callable f named = ap (λ ts. is_callable (Apply f ts)) two_words ∙ construct_callable f (m v) (m w) named

-- ---- what is left to be looked at

left_test : (a b c : Bool) → b && (a && c) ≡ a && (b && c)
left_test true b c = refl
left_test false true c = refl
left_test false false c = refl

named_some : (k : Connective) → is_some (connective_of (text_of k)) ≡ true
named_some connective.And = refl
named_some connective.Or = refl
named_some connective.If = refl

module _ {W : Type 0} (q : Present W) where
  -- each of the words stands for a term
  abbrev pub AreWords : List W → Type 0
  AreWords [] = Unit {0}
  AreWords (w ∷ ws) = (q.holds w ≡ true) × AreWords ws

  -- whether each of their terms can be converted
  abbrev pub are_callable : List W → Bool
  are_callable [] = true
  are_callable (w ∷ ws) = is_callable (meaning q w) && are_callable ws

  -- how much there is to look at
  abbrev pub words_load : List W → ℕ
  words_load [] = 0
  words_load (w ∷ ws) = 1 + size (meaning q w) + words_load ws

  abbrev pub look_load : Option W → ℕ
  look_load (Some w) = 1 + size (meaning q w)
  look_load None = 0

  -- The whole can be converted where the next word and those that are left can. Where none is next, it can.
  abbrev pub LooksOn : List W → Option W → Bool → Type 0
  LooksOn ws (Some w) whole = (q.holds w ≡ true) × AreWords ws × (is_callable (meaning q w) && are_callable ws ≡ whole)
  LooksOn ws None whole = whole ≡ true

  words_push : (ws : List W) (w : W) → AreWords ws → q.holds w ≡ true → AreWords (ws ++ w ∷ [])
  words_push [] w are h = (h, tt)
  words_push (v ∷ ws) w are h = (are.0, words_push ws w are.1 h)

  words_popped : (ws : List W) (w : W) → AreWords (ws ++ w ∷ []) → (q.holds w ≡ true) × AreWords ws
  words_popped [] w are = (are.0, tt)
  words_popped (v ∷ ws) w are = let others = words_popped ws w are.1 in (others.0, (are.0, others.1))

  callable_push : (ws : List W) (w : W) → are_callable (ws ++ w ∷ []) ≡ is_callable (meaning q w) && are_callable ws
  callable_push [] w = refl
  callable_push (v ∷ ws) w = ap (λ b. is_callable (meaning q v) && b) (callable_push ws w) ∙ left_test (is_callable (meaning q w)) (is_callable (meaning q v)) (are_callable ws)

  load_push : (ws : List W) (w : W) → words_load (ws ++ w ∷ []) ≡ 1 + size (meaning q w) + words_load ws
  load_push [] w = omega arith
  load_push (v ∷ ws) w = omega (arith, load_push ws w)

  -- the parts of a control construct are left
  module _ (ws ys : List W) (w : W) (c : Construct W) (is : IsConstruct q (meaning q w) c) (more : ys ≡ ws ++ c.second ∷ []) where
    pub parts_left : (whole : Bool) → LooksOn ws (Some w) whole → LooksOn ys (Some c.first) whole
    parts_left whole h =
        let one = is_callable (meaning q c.first) in
        let other = is_callable (meaning q c.second) in
        let both : is_callable (meaning q w) ≡ one && other = ap is_callable is.is ∙ construct_callable (text_of c.connective) (meaning q c.first) (meaning q c.second) (named_some c.connective) in
        let left : are_callable ys ≡ other && are_callable ws = ap are_callable more ∙ callable_push ws c.second in (
          is.first,
          subst AreWords (sym more) (words_push ws c.second h.1 is.second),
          ap (λ b. one && b) left ∙ sym (and_assoc one other (are_callable ws)) ∙ ap (λ b. b && are_callable ws) (sym both) ∙ h.2,
        )

    pub parts_less : look_load (Some c.first) + words_load ys < look_load (Some w) + words_load ws
    parts_less =
        let all = ap words_load more ∙ load_push ws c.second in
        let whole = ap size is.is in
        omega (arith, all, whole)

  -- a word without parts can be converted, and the last of the others is next
  module _ (ws ys : List W) (w : W) where
    pub last_left : (m n : ℕ) (next : Option W) (whole : Bool) → is_callable (meaning q w) ≡ true → ws ≡ ys ++ option_to_list next → m ≡ length ws → MatchOption next ((m ≡ 0) × (n ≡ 0)) (λ x. n + 1 ≡ m)
        → LooksOn ws (Some w) whole → LooksOn ys next whole
    last_left m n None whole can more many none h = sym h.2 ∙ ap (λ b. b && are_callable ws) can ∙ ap are_callable (nil_from_length ws (sym many ∙ none.0))
    last_left m n (Some x) whole can more many none h =
        let words = words_popped ys x (subst AreWords more h.1) in
        let left : are_callable ws ≡ is_callable (meaning q x) && are_callable ys = ap are_callable more ∙ callable_push ys x in
        (words.0, words.1, sym left ∙ ap (λ b. b && are_callable ws) (sym can) ∙ h.2)

    pub last_less : (next : Option W) → ws ≡ ys ++ option_to_list next → look_load next + words_load ys < look_load (Some w) + words_load ws
    last_less None more = let all = ap words_load (more ∙ append-nil ys) in omega (arith, all)
    last_less (Some x) more = let all = ap words_load more ∙ load_push ys x in omega (arith, all)
