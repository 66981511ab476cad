-- What bagof/3 and setof/3 make of values: goals without `V^`, witnesses, items.
use Rattle.std.proofs.Common.{◌≡◌, ℕ, List, [], ◌∷◌, map, Bool, true, false, codes, if◌then◌else◌, not}
use Rattle.std.specs.List.{filter}
use Rattle.std.specs.Str.{bytes_eq}
use Rattle.iso_model.specs.Terms.Trees.{Tree, Variable, Integer, Name, Apply, End, More}
use Rattle.iso_model.specs.Terms.Variables.{variables}
use Rattle.iso_model.specs.Terms.Lists.{elements}
use Rattle.iso_model.specs.Terms.Order.{term_cmp}
use Rattle.iso_model.specs.Terms.Substitutions.{Subst, apply}
use Rattle.iso_model.specs.Search.Groups.{stripped, is_bound, free_variables, witness_of, witness, item, witnesses, items, collection}
use Rattle.iso_model.specs.Search.RunLaws.Sameness.{IsValue}
use Rattle.iso_model.proofs.Search.RunLaws.TermValues.{AreValues, argument_value, list_value, elements_values, variables_values, ordered_values}

pub stripped_value : (r : Subst) (t : Tree) → IsValue r t → IsValue r (stripped t)
stripped_value r (Apply f (More v (More g End))) h =
    let behind : apply r g ≡ g = cc in
    elim (bytes_eq f (codes "^")) as (λ x. IsValue r (if x then stripped g else Apply f (More v (More g End)))) [
      | true ↦ stripped_value r g behind
      | false ↦ h
    ]
stripped_value r (Variable n) h = h
stripped_value r (Integer z) h = h
stripped_value r (Name a) h = h
stripped_value r End h = h
stripped_value r (More t ts) h = h
stripped_value r (Apply f End) h = h
stripped_value r (Apply f (Variable n)) h = h
stripped_value r (Apply f (Integer z)) h = h
stripped_value r (Apply f (Name a)) h = h
stripped_value r (Apply f (Apply g ts)) h = h
stripped_value r (Apply f (More a End)) h = h
stripped_value r (Apply f (More a (Variable n))) h = h
stripped_value r (Apply f (More a (Integer z))) h = h
stripped_value r (Apply f (More a (Name b))) h = h
stripped_value r (Apply f (More a (Apply g ts))) h = h
stripped_value r (Apply f (More a (More b (Variable n)))) h = h
stripped_value r (Apply f (More a (More b (Integer z)))) h = h
stripped_value r (Apply f (More a (More b (Name c)))) h = h
stripped_value r (Apply f (More a (More b (Apply g ts)))) h = h
stripped_value r (Apply f (More a (More b (More c ts)))) h = h

-- of variables that are values, some
filtered_values : (r : Subst) (p : ℕ → Bool) (ns : List ℕ) → AreValues r (map Variable ns) → AreValues r (map Variable (filter p ns))
filtered_values r p [] own = tt
filtered_values r p (n ∷ ns) own =
    let others = filtered_values r p ns own.1 in
    elim (p n) as (λ x. AreValues r (map Variable (if x then n ∷ filter p ns else filter p ns))) [
      | true ↦ (own.0, others)
      | false ↦ others
    ]

pub witness_value : (r : Subst) (template goal : Tree) → IsValue r goal → IsValue r (witness_of template goal)
witness_value r template goal h =
    list_value r (map Variable (free_variables template goal))
    (filtered_values r (λ x. not (is_bound template goal x)) (variables (stripped goal)) (variables_values r (stripped goal) (stripped_value r goal h)))

-- ---- groups of values

witness_values : (r : Subst) (ts : List Tree) → AreValues r ts → AreValues r (map witness ts)
witness_values r [] own = tt
witness_values r (t ∷ ts) own = (argument_value r 0 t own.0, witness_values r ts own.1)

item_values : (r : Subst) (ts : List Tree) → AreValues r ts → AreValues r (map item ts)
item_values r [] own = tt
item_values r (t ∷ ts) own = (argument_value r 1 t own.0, item_values r ts own.1)

pub witnesses_values : (r : Subst) (t : Tree) → IsValue r t → AreValues r (witnesses t)
witnesses_values r t h = witness_values r (elements t) (elements_values r t h)

-- the items, as they are or in order
pub collection_values : (r : Subst) (sorts : Bool) (t : Tree) → IsValue r t → AreValues r (collection sorts (items t))
collection_values r false t h = item_values r (elements t) (elements_values r t h)
collection_values r true t h = ordered_values r true term_cmp (items t) (item_values r (elements t) (elements_values r t h))
