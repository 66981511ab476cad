-- How many cells converted goals and goals of built-ins take.
use Rattle.std.proofs.Common.{◌≡◌, ℕ, ◌+◌, ◌≤◌, ◌<◌, List, true, false, nat_lt, Option, Some, None, is_some, refl, sym, ap, ◌∙◌, subst, arith, codes, if◌then◌else◌}
use Rattle.std.proofs.lemmas.Bool.{and_parts, false≢true}
use Rattle.iso_model.specs.Terms.Trees.{Tree, Variable, Integer, Name, Apply, End, More, count}
use Rattle.iso_model.specs.Terms.Sorts.{is_term, is_row}
use Rattle.iso_model.specs.Terms.Arguments.{argument, arity}
use Rattle.iso_model.specs.Terms.Sizes.{size}
use Rattle.iso_model.specs.Search.Bodies.{Body, body_term, two, converted}
use Rattle.iso_model.specs.Search.BuiltIns.{Reply, Raises, Calls, CallsOnce, Refutes, converted_reply, goal_reply, answered, reply}
use Rattle.iso_model.specs.Search.Replies.{Answer, Fail}
use Rattle.iso_model.specs.Search.Errors.{Key, key, max_arity_error}
use Rattle.iso_model.specs.declared.built_ins.BuiltIn.TheVariants as built_in
use Rattle.iso_lib_core.specs.Cells.{made_for}
use Rattle.iso_store_core.specs.Retaining.{Takes}
use Rattle.iso_store_core.specs.declared.stores.Store.{Ghosts}
use Rattle.iso_store_core.proofs.RetainLemmas.{takes_on, takes_most, wide-within}
use Rattle.iso_prep.specs.declared.connectives.Connective.{Connective}
use Rattle.iso_prep.specs.declared.connectives.Connective.TheVariants as connective
use Rattle.iso_prep.specs.Connectives.{text_of, connective_of}
use Rattle.iso_prep.specs.Conversions.{is_callable, with_calls, joined}
use Rattle.iso_prep.proofs.ConversionLemmas.{converts}
use Rattle.iso_search_core.specs.Cells.{leaf_cells, conversion_cells, body_cells, goal_cells, reply_cells, IsBound, called_of}

-- ---- conversion

pub construct_cells : (k : Connective) (a b : Tree) → conversion_cells (two (text_of k) a b) ≡ conversion_cells a + conversion_cells b
construct_cells connective.And a b = refl
construct_cells connective.Or a b = refl
construct_cells connective.If a b = refl

pub leaf_within : (t : Tree) → leaf_cells t ≤ conversion_cells t
leaf_within (Variable n) = omega arith
leaf_within t = omega arith

joined_less : (o : Option Connective) (f : List ℕ) (a b : Tree) (wa wb : Tree) → conversion_cells a ≤ size wa → conversion_cells b ≤ size wb
    → (if is_some o then conversion_cells a + conversion_cells b else 0) < size (joined o f wa wb (two f a b))
joined_less None f a b wa wb first second = omega arith
joined_less (Some k) f a b wa wb first second = omega (arith, first, second)

called_cells : (t : Tree) → conversion_cells t ≤ size (with_calls t)
called_cells (Apply f (More a (More b End))) = omega (arith, joined_less (connective_of f) f a b (with_calls a) (with_calls b) (called_cells a) (called_cells b))
called_cells t = omega arith

-- a goal takes no more than its converted body is large
pub converted_cells : (t : Tree) (b : Body) → converted t ≡ Some b → conversion_cells t ≤ size (body_term b)
converted_cells t b is = let large = called_cells t in let same = ap size (converts t b is).term in omega (arith, large, same)

-- ---- goals that are called

called_less : (t : Tree) → is_term t ≡ true → conversion_cells t < size (with_calls t)
called_less (Apply f (More a (More b End))) h = joined_less (connective_of f) f a b (with_calls a) (with_calls b) (called_cells a) (called_cells b)
called_less End h = absurd (false≢true h)
called_less (More t ts) h = absurd (false≢true h)
called_less (Integer z) h = omega (arith, wide-within z)
called_less t h = omega arith

pub some_size : (t : Tree) → is_term t ≡ true → 0 < size t
some_size End h = absurd (false≢true h)
some_size (More t ts) h = absurd (false≢true h)
some_size (Integer z) h = omega (arith, wide-within z)
some_size t h = omega arith

-- a converted body is no less
pub converted_some : (t : Tree) (b : Body) → is_term t ≡ true → converted t ≡ Some b → 0 < size (body_term b)
converted_some t b h is = let large = called_less t h in let same = ap size (converts t b is).term in omega (arith, large, same)

row_within : (ts : Tree) → is_row ts ≡ true → count ts ≤ size ts
row_within End h = omega arith
row_within (More t ts) h =
    let both = and_parts (is_term t) (is_row ts) h in
    let here = some_size t both.0 in
    let more = row_within ts both.1 in
    omega (arith, here, more)
row_within ts h = absurd (false≢true h)

made_joined : (o : Option Connective) (f : List ℕ) (a b : Tree) (wa wb : Tree) → 0 < size a → 0 < size b → conversion_cells a < size wa → conversion_cells b ≤ size wb
    → 3 + (if is_some o then conversion_cells a + conversion_cells b else 0) ≤ size (joined o f wa wb (two f a b))
made_joined None f a b wa wb one other first second = omega (arith, one, other)
made_joined (Some k) f a b wa wb one other first second = omega (arith, first, second)

-- a compound that is made for it, and its conversion
made_within : (f : List ℕ) (ts : Tree) → is_row ts ≡ true → count ts + 1 + conversion_cells (Apply f ts) ≤ size (with_calls (Apply f ts))
made_within f (More a (More b End)) h =
    let both = and_parts (is_term a) (is_row (More b End)) h in
    let other = and_parts (is_term b) (is_row End) both.1 in
    let all = made_joined (connective_of f) f a b (with_calls a) (with_calls b) (some_size a both.0) (some_size b other.0) (called_less a both.0) (called_cells b) in
    omega (arith, all)
made_within f ts h = let few = row_within ts h in omega (arith, few)

bound_cells : (t : Tree) → IsBound t → goal_cells t ≡ body_cells (converted t)
bound_cells (Variable n) h = absurd h
bound_cells t h = refl

body_with_calls : (t : Tree) (o : Option Body) → converted t ≡ o → is_some o ≡ true → body_cells o ≡ size (with_calls t)
body_with_calls t None is h = absurd (false≢true h)
body_with_calls t (Some b) is h = ap size (converts t b is).term

goal_term : (t : Tree) → IsBound t → is_callable t ≡ true → goal_cells t ≡ size (with_calls t)
goal_term t bound can = bound_cells t bound ∙ body_with_calls t (converted t) refl can

-- its conversion takes no more than the goal counts
pub goal_within : (t : Tree) → IsBound t → is_callable t ≡ true → conversion_cells t ≤ goal_cells t
goal_within t bound can = let large = called_cells t in let same = goal_term t bound can in omega (arith, large, same)

pub compound_within : (f : List ℕ) (ts : Tree) → is_row ts ≡ true → is_callable (Apply f ts) ≡ true → count ts + 1 + conversion_cells (Apply f ts) ≤ goal_cells (Apply f ts)
compound_within f ts fits can = let large = made_within f ts fits in let same = goal_term (Apply f ts) tt can in omega (arith, large, same)

-- ---- what replies count

module _ (runs : Body → Reply) (counts : (b : Body) → reply_cells (runs b) ≡ size (body_term b)) where
  converted_counts : (o : Option Body) (t : Tree) (k : Key) → reply_cells (converted_reply runs o t k) ≡ body_cells o
  converted_counts None t k = refl
  converted_counts (Some b) t k = counts b

  pub goal_counts : (t : Tree) (k : Key) → reply_cells (goal_reply runs t k) ≡ goal_cells t
  goal_counts (Name a) k = converted_counts (converted (Name a)) (Name a) k
  goal_counts (Apply f ts) k = converted_counts (converted (Apply f ts)) (Apply f ts) k
  goal_counts t k = refl

pub call_counts : (t : Tree) → nat_lt 255 (arity (called_of t)) ≡ false → reply_cells (reply built_in.Call t) ≡ goal_cells (called_of t)
call_counts t few =
    let k = key (codes "call") (arity t) in
    goal_counts (λ b. if nat_lt 255 (arity (called_of t)) then Raises (max_arity_error k) else Calls b)
    (λ b. ap (λ x. reply_cells (if x then Raises (max_arity_error k) else Calls b)) few) (called_of t) k

pub once_counts : (t : Tree) → reply_cells (reply built_in.Once t) ≡ goal_cells (argument 0 t)
once_counts t = goal_counts CallsOnce (λ b. refl) (argument 0 t) (key (codes "once") 1)

pub not_counts : (t : Tree) → reply_cells (reply built_in.Not t) ≡ goal_cells (argument 0 t)
not_counts t = goal_counts Refutes (λ b. refl) (argument 0 t) (key (codes "\\+") 1)

pub exists_counts : (t : Tree) → reply_cells (reply built_in.Exists t) ≡ goal_cells (argument 1 t)
exists_counts t = goal_counts Calls (λ b. refl) (argument 1 t) (key (codes "^") 2)

pub answer_counts : (x : Answer) → reply_cells (answered x) ≡ made_for x
answer_counts Fail = refl
answer_counts x = refl

-- ---- so much was taken, and so much is left

pub record TakesWithin {S W M : Type 0} (g : Ghosts S W M) (a b : S) (left whole : ℕ) : Type 0 where
  pub made : ℕ
  pub takes : Takes g a b made
  pub few : made + left ≤ whole

module _ {S W M : Type 0} {g : Ghosts S W M} where
  pub takes_counted : {a b : S} {m n : ℕ} → n ≡ m → Takes g a b m → Takes g a b n
  takes_counted {a} {b} same takes = subst (Takes g a b) (sym same) takes

  pub within_on : {a b c : S} {m left more whole : ℕ} → TakesWithin g a b left whole → Takes g b c m → m + more ≤ left → TakesWithin g a c more whole
  within_on {m = m} h step less = record { made = h.made + m; takes = takes_on h.takes step; few = (let few = h.few in omega (arith, few, less)) }

  pub within_less : {a b : S} {left more whole : ℕ} → TakesWithin g a b left whole → more ≤ left → TakesWithin g a b more whole
  within_less h less = record { made = h.made; takes = h.takes; few = (let few = h.few in omega (arith, few, less)) }

  pub within_all : {a b : S} {left whole : ℕ} → TakesWithin g a b left whole → Takes g a b whole
  within_all {whole = whole} h = takes_most whole (let few = h.few in omega (arith, few)) h.takes

  -- a word that isn't read to its end
  pub within_word : {a b c : S} {m left whole : ℕ} (n : ℕ) → TakesWithin g a b left whole → Takes g b c m → m ≤ n → n ≤ left → Takes g a c whole
  within_word {whole = whole} n h step less some = takes_most whole (let few = h.few in omega (arith, few, less, some)) (takes_on h.takes step)
