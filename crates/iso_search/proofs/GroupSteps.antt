-- What a group of solutions comes to in the search, by the two unifiers that it asks for (ISO/IEC 13211-1:1995, 8.10.2).
use Rattle.std.proofs.Common.{◌≡◌, ◌≤◌, ◌<◌, ℕ, ◌+◌, List, [], ◌∷◌, length, Option, Some, None, refl, ap, ap₂, sym, ◌∙◌, subst, arith}
use Rattle.iso_model.specs.Terms.Trees.{Tree, row}
use Rattle.iso_model.specs.Terms.Sizes.{size}
use Rattle.iso_model.specs.Terms.Lists.{list_of}
use Rattle.iso_model.specs.Terms.Substitutions.{Subst, apply, compose}
use Rattle.iso_model.specs.Terms.Copies.{copy_from}
use Rattle.iso_model.specs.Terms.Unifiers.{Unifier, NeverEqual}
use Rattle.iso_model.specs.Terms.Unification.{unifier_of}
use Rattle.iso_model.specs.Search.Groups.{witnesses, items, collection}
use Rattle.iso_model.specs.Search.Library.{list_made}
use Rattle.iso_model.specs.Search.Replies.{Grouping}
use Rattle.iso_model.specs.Search.RunLaws.Sameness.{IsValue, IsTwice, SameStack, no_alternative, same_alternative}
use Rattle.iso_model.specs.Search.Walker.{State, Member, Alternative, Groups, equated, fails, grouped, pushed, repeated, tried_group, under, with_copy, with_groups, witnessed}
use Rattle.iso_model.specs.Terms.Unification.Applied.{apply_apply}
use Rattle.iso_model.proofs.Search.CallLemmas.{unify_found, unify_none}
use Rattle.iso_model.proofs.Search.RunLaws.CountLemmas.{grouped_built}
use Rattle.iso_model.proofs.Search.RunLaws.Likeness.{Alike}
use Rattle.iso_model.proofs.Search.RunLaws.SameLaws.{same_beside}
use Rattle.iso_model.proofs.Search.RunLaws.TermValues.{value_is}
use Rattle.iso_lib_core.specs.Collecting.{group_list}
use Rattle.iso_search.proofs.CountedLemmas.{equated_query}

-- a value stays one under what is composed
of_value : (r u : Subst) (t : Tree) → IsValue r t → apply (compose r u) t ≡ apply u t
of_value r u t value = sym (apply_apply r u t) ∙ ap (apply u) value

-- the copy of a group's list of solutions
abbrev pub copied : State → List Tree → Tree
copied s ts = apply s.subst (copy_from (list_of ts) s.next)

-- the state in which the witness is unified with those of the copy
abbrev pub counted : State → List Tree → State
counted s ts = with_copy (size (list_of ts)) (list_of ts) s

-- the two terms that are unified first
abbrev pub asked : Grouping → State → List Tree → Tree
asked by s ts = repeated by.witness (witnesses (copied s ts))

abbrev pub given : State → List Tree → Tree
given s ts = row (witnesses (copied s ts))

-- the list of items, where the witness has this unifier
abbrev pub listed : Grouping → Subst → State → List Tree → List Tree
listed by u s ts = group_list by.sorts (copied s ts) u

-- the state in which the result is unified with it
abbrev pub opened : Grouping → Subst → List Tree → State → State
opened by u ts s =
    record (counted s ts) {
      subst = compose s.subst u;
      built = (counted s ts).built + (1 + list_made (length (listed by u s ts)));
    }

-- the witness was unified
pub group_opens : (by : Grouping) (ts : List Tree) (rest : List Member) (s : State) {u : Subst} → IsTwice s.subst
    → IsValue s.subst by.result → Unifier (asked by s ts) (given s ts) u
    → tried_group by ts rest s
    ≡ equated (under (compose s.subst u) (unifier_of (apply u by.result) (list_of (listed by u s ts)))) rest
    (opened by u ts s)
group_opens by ts rest s {u} twice value h =
    let c = copied s ts in
    let q = compose s.subst u in
    let t = counted s ts in
    let met : Tree → Tree → State = λ y x. equated (under q (unifier_of y (list_of (collection by.sorts (items x)))))
    rest (record t { subst = q; built = t.built + (1 + list_made (length (collection by.sorts (items x)))) }) in
    ap (λ (o : Option Subst). witnessed o by c rest t) (unify_found s.subst (asked by s ts) (given s ts) h)
    ∙ ap₂ met (of_value s.subst u by.result value)
    (of_value s.subst u c (value_is s.subst (copy_from (list_of ts) s.next) twice))

-- or it can't be
pub group_missed : (by : Grouping) (ts : List Tree) (rest : List Member) (s : State)
    → NeverEqual (asked by s ts) (given s ts) → tried_group by ts rest s ≡ fails (counted s ts)
group_missed by ts rest s never =
    ap (λ (o : Option Subst). witnessed o by (copied s ts) rest (counted s ts))
    (unify_none s.subst (asked by s ts) (given s ts) never)

-- the result was unified, too
pub group_found : (by : Grouping) (ts : List Tree) (rest : List Member) (s : State) {u v : Subst} → IsTwice s.subst
    → IsValue s.subst by.result → Unifier (asked by s ts) (given s ts) u
    → Unifier (apply u by.result) (list_of (listed by u s ts)) v
    → tried_group by ts rest s ≡ record (opened by u ts s) { list = rest; subst = compose (compose s.subst u) v }
group_found by ts rest s {u} twice value h k =
    group_opens by ts rest s twice value h
    ∙ ap (λ (o : Option Subst). equated o rest (opened by u ts s))
    (unify_found (compose s.subst u) (apply u by.result) (list_of (listed by u s ts)) k)

-- or it can't be
pub group_closed : (by : Grouping) (ts : List Tree) (rest : List Member) (s : State) {u : Subst} → IsTwice s.subst
    → IsValue s.subst by.result → Unifier (asked by s ts) (given s ts) u
    → NeverEqual (apply u by.result) (list_of (listed by u s ts)) → tried_group by ts rest s ≡ fails (opened by u ts s)
group_closed by ts rest s {u} twice value h never =
    group_opens by ts rest s twice value h
    ∙ ap (λ (o : Option Subst). equated o rest (opened by u ts s))
    (unify_none (compose s.subst u) (apply u by.result) (list_of (listed by u s ts)) never)

-- ---- what stays

witnessed_query : (o : Option Subst) (by : Grouping) (c : Tree) (rest : List Member) (s : State)
    → (witnessed o by c rest s).query ≡ s.query
witnessed_query None by c rest s = refl
witnessed_query (Some u) by c rest s =
    let ts = collection by.sorts (items (apply u c)) in
    equated_query (under u (unifier_of (apply u by.result) (list_of ts))) rest
    (record s { subst = u; built = s.built + (1 + list_made (length ts)) })

group_query : (by : Grouping) (ts : List Tree) (rest : List Member) (s : State)
    → (tried_group by ts rest s).query ≡ s.query
group_query by ts rest s =
    witnessed_query (under s.subst (unifier_of (asked by s ts) (given s ts))) by (copied s ts) rest (counted s ts)

-- the same query is asked
pub grouped_query : (by : Grouping) (gs : List (List Tree)) (rest : List Member) (s : State)
    → (grouped by gs rest s).query ≡ s.query
grouped_query by [] rest s = refl
grouped_query by (g ∷ []) rest s = group_query by g rest s
grouped_query by (g ∷ h ∷ gs) rest s = group_query by g rest (with_groups by (h ∷ gs) rest s)

-- and no less is built
pub grouped_more : (by : Grouping) (gs : List (List Tree)) (rest : List Member) (s : State)
    → s.built ≤ (grouped by gs rest s).built
grouped_more by gs rest s = let all = grouped_built by gs rest s in omega (arith, all)

-- where groups are kept, only an alternative came
pub record KeptWith (v s : State) : Type 0 where
  pub list : v.list ≡ s.list
  pub subst_is : v.subst ≡ s.subst
  pub next : v.next ≡ s.next
  pub world : v.world ≡ s.world

pub kept_with : (by : Grouping) (gs : List (List Tree)) (rest : List Member) (s : State)
    → KeptWith (with_groups by gs rest s) s
kept_with by [] rest s = record { list = refl; subst_is = refl; next = refl; world = refl }
kept_with by (g ∷ gs) rest s = record { list = refl; subst_is = refl; next = refl; world = refl }

pub kept_none : (by : Grouping) (gs : List (List Tree)) (rest : List Member) (s : State) → length gs ≡ 0
    → with_groups by gs rest s ≡ s
kept_none by [] rest s none = refl
kept_none by (g ∷ gs) rest s none = absurd (omega (arith, none))

pub kept_some : (by : Grouping) (gs : List (List Tree)) (rest : List Member) (s : State) → 0 < length gs
    → with_groups by gs rest s ≡ pushed rest (Groups by gs) s
kept_some by [] rest s some = absurd (omega (arith, some))
kept_some by (g ∷ gs) rest s some = refl

-- ---- the substitution of an alternative

stack_twice : {vs ws : List ℕ} {xs ys : List Alternative} (a : Alternative) (below : List Alternative)
    → SameStack vs ws xs ys → xs ≡ a ∷ below → IsTwice a.subst
stack_twice a below no_alternative is = absurd cc
stack_twice a below (same_alternative {a = b} agree next built list left own other others) is =
    let same : b ≡ a = cc in subst (λ (x : Alternative). IsTwice x.subst) same agree.twice

-- where a state is alike another, those of its alternatives leave their values as they are
pub newest_twice : (o s : State) (a : Alternative) (below : List Alternative) → Alike o s → o.stack ≡ a ∷ below
    → IsTwice a.subst
newest_twice o s a below h is = stack_twice a below (same_beside o h.middle h.same).stack is
