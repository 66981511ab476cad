-- Which goals are run for groups of their solutions: those of bagof/3 and setof/3.
use Rattle.std.proofs.Common.{◌≡◌, ℕ, ℤ, Bool, true, false, ◌||◌, nat_lt, nat_abs, int_lt, pos, Option, Some, None, is_some, Result, Ok, Err, ◌⊎◌, inl, inr, refl, ap, sym, ◌∙◌, subst, codes, if◌then◌else◌}
use Rattle.iso_model.specs.Terms.Trees.{Tree, Variable, Integer, Name, Apply, End, More}
use Rattle.iso_model.specs.Terms.Arguments.{argument, arity}
use Rattle.iso_model.specs.Terms.Lists.{is_partial_list}
use Rattle.iso_model.specs.Search.AtomTexts.{Characters, element_code, text_answer}
use Rattle.iso_model.specs.Search.Bodies.{Body, converted}
use Rattle.iso_model.specs.Search.BuiltIns.{Reply, Raises, Calls, CallsOnce, Refutes, Gathers, Halts, AsList, InGroups, converted_reply, goal_reply, called_reply, throw_reply, halt_reply, answered, reply}
use Rattle.iso_model.specs.Search.Errors.{Key, key, domain_error, max_arity_error, type_error}
use Rattle.iso_model.specs.Search.Groups.{stripped, pair}
use Rattle.iso_model.specs.Search.Library.{library_answer}
use Rattle.iso_model.specs.Search.Outputs.{put_code, put_char_key}
use Rattle.iso_model.specs.Search.Replies.{Answer, Fail, Grouping}
use Rattle.iso_model.specs.declared.built_ins.BuiltIn.{BuiltIn}
use Rattle.iso_model.specs.declared.built_ins.BuiltIn.TheVariants as built_in
use Rattle.iso_model.specs.declared.kinds.Output.TheVariants.{PutChar}
use Rattle.iso_search_core.specs.Asking.{goal_witness, goal_grouping}
use Rattle.iso_search_core.specs.Cells.{IsBound, called_of}
use Rattle.iso_search_core.specs.Replies.{CanBeRun}

-- ---- a goal that is run in some way

-- It can be run, and this is its body; or it raises an error.
abbrev RunsOrRaises : (Body → Reply) → Tree → Reply → Type 0
RunsOrRaises runs goal x =
    (CanBeRun goal × ((b : Body) × (converted goal ≡ Some b) × (x ≡ runs b))) ⊎ ((error : Tree) × (x ≡ Raises error))

runs_or_raises : (runs : Body → Reply) (goal : Tree) (k : Key) → RunsOrRaises runs goal (goal_reply runs goal k)
runs_or_raises runs goal k = by_goal goal where
  by_body : (g : Tree) → IsBound g → (o : Option Body) → converted g ≡ o → RunsOrRaises runs g (converted_reply runs o g k)
  by_body g bound None is = inr (_, refl)
  by_body g bound (Some b) is = inl ((bound, ap is_some is), (b, is, refl))

  by_goal : (g : Tree) → RunsOrRaises runs g (goal_reply runs g k)
  by_goal (Variable n) = inr (_, refl)
  by_goal (Integer z) = by_body (Integer z) tt (converted (Integer z)) refl
  by_goal (Name a) = by_body (Name a) tt (converted (Name a)) refl
  by_goal (Apply f ts) = by_body (Apply f ts) tt (converted (Apply f ts)) refl
  by_goal End = by_body End tt (converted End) refl
  by_goal (More u us) = by_body (More u us) tt (converted (More u us)) refl

-- ---- whose goal it is

-- a goal is run for groups of its solutions, which are sorted or not
abbrev IsFor : Bool → Reply → Type 0
IsFor sorts (Gathers template b (InGroups by)) = by.sorts ≡ sorts
IsFor sorts x = ⊥

none_goal : (sorts : Bool) (runs : Body → Reply) (goal : Tree) (k : Key) → ((b : Body) → IsFor sorts (runs b) → ⊥)
    → IsFor sorts (goal_reply runs goal k) → ⊥
none_goal sorts runs goal k none h = by_answer (runs_or_raises runs goal k) where
  by_answer : RunsOrRaises runs goal (goal_reply runs goal k) → ⊥
  by_answer (inl is) = none is.1.0 (subst (IsFor sorts) is.1.2 h)
  by_answer (inr is) = subst (IsFor sorts) is.1 h

-- with no more arguments than goals have, or more
abbrev limited : Key → Body → Bool → Reply
limited k b x = if x then Raises (max_arity_error k) else Calls b

none_called : (sorts : Bool) (goal : Tree) (k : Key) → IsFor sorts (called_reply goal k) → ⊥
none_called sorts goal k h =
    none_goal sorts (λ b. limited k b (nat_lt 255 (arity goal))) goal k (λ b. by_number b (nat_lt 255 (arity goal))) h where
      by_number : (b : Body) (x : Bool) → IsFor sorts (limited k b x) → ⊥
      by_number b true i = i
      by_number b false i = i

-- a goal of findall/3 is not, whose result is a partial list or not
abbrev listed : Tree → Body → Bool → Reply
listed t b x =
    if x then Gathers (argument 0 t) b (AsList (argument 2 t))
    else Raises (type_error (codes "list") (argument 2 t) (key (codes "findall") 3))

none_listed : (sorts : Bool) (t : Tree) → IsFor sorts (reply built_in.Findall t) → ⊥
none_listed sorts t h =
    let k = key (codes "findall") 3 in
    none_goal sorts (λ b. listed t b (is_partial_list (argument 2 t))) (argument 1 t) k
    (λ b. by_list b (is_partial_list (argument 2 t))) h where
      by_list : (b : Body) (x : Bool) → IsFor sorts (listed t b x) → ⊥
      by_list b true i = i
      by_list b false i = i

-- what is run in groups, where the result is a partial list or not
abbrev listed_groups : Bool → Tree → Key → Body → Bool → Reply
listed_groups sorts t k b x =
    if x then Gathers (pair (goal_witness t) (argument 0 t)) b (InGroups (goal_grouping sorts t))
    else Raises (type_error (codes "list") (argument 2 t) k)

abbrev in_groups : Bool → Tree → Key → Body → Reply
in_groups sorts t k b = listed_groups sorts t k b (is_partial_list (argument 2 t))

-- that of a goal of bagof/3 or setof/3
abbrev GroupsOrRaises : Bool → Tree → Key → Reply → Type 0
GroupsOrRaises sorts t k x = RunsOrRaises (in_groups sorts t k) (stripped (argument 1 t)) x

groups_or_raises : (sorts : Bool) (t : Tree) (k : Key)
    → GroupsOrRaises sorts t k (goal_reply (in_groups sorts t k) (stripped (argument 1 t)) k)
groups_or_raises sorts t k = runs_or_raises (in_groups sorts t k) (stripped (argument 1 t)) k

-- those of bagof/3 are not sorted, and those of setof/3 are
sorts_as : (sorts other : Bool) (t : Tree) (k : Key)
    → IsFor sorts (goal_reply (in_groups other t k) (stripped (argument 1 t)) k) → other ≡ sorts
sorts_as sorts other t k h = by_answer (groups_or_raises other t k) where
  by_list : (b : Body) (x : Bool) → IsFor sorts (listed_groups other t k b x) → other ≡ sorts
  by_list b true i = i
  by_list b false i = absurd i

  by_answer : GroupsOrRaises other t k (goal_reply (in_groups other t k) (stripped (argument 1 t)) k) → other ≡ sorts
  by_answer (inl is) = by_list is.1.0 (is_partial_list (argument 2 t)) (subst (IsFor sorts) is.1.2 h)
  by_answer (inr is) = absurd (subst (IsFor sorts) is.1 h)

none_thrown : (sorts : Bool) (t : Tree) (k : Key) → IsFor sorts (throw_reply t k) → ⊥
none_thrown sorts (Variable n) k h = h
none_thrown sorts t k h = h

-- with a status, or with an error
abbrev ended : ℤ → Key → Bool → Reply
ended z k x = if x then Raises (domain_error (codes "exit_code") (Integer z) k) else Halts (nat_abs z)

none_ended : (sorts : Bool) (t : Tree) (k : Key) → IsFor sorts (halt_reply t k) → ⊥
none_ended sorts (Integer z) k h = by_range (int_lt z (pos 0) || int_lt (pos 255) z) h where
  by_range : (x : Bool) → IsFor sorts (ended z k x) → ⊥
  by_range true i = i
  by_range false i = i
none_ended sorts t k h = h

none_put : (sorts : Bool) (code : Result ℕ Tree) → IsFor sorts (put_code code) → ⊥
none_put sorts (Ok code) h = h
none_put sorts (Err error) h = h

none_answered : (sorts : Bool) (x : Answer) → IsFor sorts (answered x) → ⊥
none_answered sorts Fail h = h
none_answered sorts x h = h

-- the built-in of these groups
abbrev pub grouper : Bool → BuiltIn
grouper sorts = if sorts then built_in.Setof else built_in.Bagof

only_grouper : (sorts : Bool) (b : BuiltIn) (t : Tree) → IsFor sorts (reply b t) → b ≡ grouper sorts
only_grouper sorts built_in.Call t h =
    absurd (none_called sorts (called_of t) (key (codes "call") (arity t)) h)
only_grouper sorts built_in.Once t h =
    absurd (none_goal sorts CallsOnce (argument 0 t) (key (codes "once") 1) (λ b i. i) h)
only_grouper sorts built_in.Not t h =
    absurd (none_goal sorts Refutes (argument 0 t) (key (codes "\\+") 1) (λ b i. i) h)
only_grouper sorts built_in.Exists t h =
    absurd (none_goal sorts Calls (argument 1 t) (key (codes "^") 2) (λ b i. i) h)
only_grouper sorts built_in.Throw t h = absurd (none_thrown sorts (argument 0 t) (key (codes "throw") 1) h)
only_grouper sorts built_in.HaltWith t h = absurd (none_ended sorts (argument 0 t) (key (codes "halt") 1) h)
only_grouper sorts built_in.Findall t h = absurd (none_listed sorts t h)
only_grouper sorts built_in.Bagof t h = ap grouper (sorts_as sorts false t (key (codes "bagof") 3) h)
only_grouper sorts built_in.Setof t h = ap grouper (sorts_as sorts true t (key (codes "setof") 3) h)
only_grouper sorts (built_in.Library row) t h = absurd (none_answered sorts (library_answer row t) h)
only_grouper sorts (built_in.Text row) t h = absurd (none_answered sorts (text_answer row t) h)
only_grouper sorts (built_in.Output PutChar) t h =
    absurd (none_put sorts (element_code Characters (argument 0 t) put_char_key) h)
only_grouper sorts x t h = absurd h

-- ---- what it is made of

-- the parts of such a reply, by the goal's arguments
abbrev pub AreParts : Bool → Tree → Tree → Body → Grouping → Type 0
AreParts sorts t template c by =
    (template ≡ pair (goal_witness t) (argument 0 t)) × (by ≡ goal_grouping sorts t)
    × CanBeRun (stripped (argument 1 t)) × (converted (stripped (argument 1 t)) ≡ Some c)

found_parts : (sorts : Bool) (t template : Tree) (c : Body) (by : Grouping) (k : Key) (x : Reply)
    → x ≡ Gathers template c (InGroups by) → GroupsOrRaises sorts t k x → AreParts sorts t template c by
found_parts sorts t template c by k x is (inr h) =
    let no : Raises h.0 ≡ Gathers template c (InGroups by) = sym h.1 ∙ is in absurd cc
found_parts sorts t template c by k x is (inl h) = by_list (is_partial_list (argument 2 t)) (sym h.1.2 ∙ is) where
  by_list : (y : Bool) → listed_groups sorts t k h.1.0 y ≡ Gathers template c (InGroups by)
      → AreParts sorts t template c by
  by_list true same = (cc, cc, h.0, h.1.1 ∙ ap Some cc)
  by_list false same = absurd cc

parts_by : (sorts : Bool) (t template : Tree) (c : Body) (by : Grouping)
    → reply (grouper sorts) t ≡ Gathers template c (InGroups by) → AreParts sorts t template c by
parts_by false t template c by is =
    let k = key (codes "bagof") 3 in
    found_parts false t template c by k (reply built_in.Bagof t) is (groups_or_raises false t k)
parts_by true t template c by is =
    let k = key (codes "setof") 3 in
    found_parts true t template c by k (reply built_in.Setof t) is (groups_or_raises true t k)

pub group_parts : (b : BuiltIn) (t template : Tree) (c : Body) (by : Grouping) (sorts : Bool)
    → reply b t ≡ Gathers template c (InGroups by) → by.sorts ≡ sorts
    → (b ≡ grouper sorts) × AreParts sorts t template c by
group_parts b t template c by sorts is kind =
    let own : b ≡ grouper sorts = only_grouper sorts b t (subst (λ (x : Reply). IsFor sorts x) (sym is) kind) in
    let there = subst (λ (x : BuiltIn). reply x t ≡ Gathers template c (InGroups by)) own is in
    (own, parts_by sorts t template c by there)
