-- How choices, and what comes next, stand for a state of the search, however lists of goals are kept.
use Rattle.std.specs.Prelude.{◌≡◌, ℕ, ◌+◌, ◌*◌, ◌-◌, ◌≤◌, ◌<◌, List, [], ◌∷◌, ◌++◌, length, map, take, reverse, Vec, Option, Some, None, true, ◌⊎◌}
use Rattle.std.specs.List.{All}
use Rattle.iso_model.specs.Terms.Trees.{Tree, row, arities_fit}
use Rattle.iso_model.specs.Terms.Arguments.{arity, argument}
use Rattle.iso_model.specs.Terms.Variables.{variables}
use Rattle.iso_model.specs.Terms.Lists.{list_of}
use Rattle.iso_model.specs.Terms.Substitutions.{Subst}
use Rattle.iso_model.specs.Search.Clashes.{EachEnters}
use Rattle.iso_model.specs.Search.Databases.{Clause, Key, key_of}
use Rattle.iso_model.specs.Search.BuiltIns.{built_in}
use Rattle.iso_model.specs.Search.Walker.{State, Member, Fail, Raise, Alternative, AsIs, Again, Clauses, Catching, Gathering, Offered, Groups, idle}
use Rattle.iso_model.specs.Search.Replies.{Grouping, AsList, InGroups}
use Rattle.iso_model.specs.Search.Walker as walker
use Rattle.iso_store_core.specs.Presents.{Present, meaning}
use Rattle.iso_program.specs.Leaving.{Leaving}
use Rattle.iso_lib_core.specs.declared.collecting.Meeting.{Meeting}
use Rattle.iso_lib_core.specs.declared.groups.Group.{Group}
use Rattle.iso_lib_core.specs.Groupings.{IsWhole, solutions_of}
use Rattle.iso_search_core.specs.Solutions.{copies_of, pairs_of}
use Rattle.iso_search_core.specs.Offers.{goal_arguments, rows_in, rights_of, AreRows}
use Rattle.iso_program.specs.ClauseOffers.{clause_offer}
use Rattle.iso_search_core.specs.declared.offers.Offers.{Offers}
use Rattle.iso_search_core.specs.declared.solutions.Gathered.{Gathered}
use Rattle.iso_search_core.specs.declared.pairs.Pairs.{Pairs}
use Rattle.iso_search_core.specs.declared.lists.Lists.{Ghosts}
use Rattle.iso_search_core.specs.Keeping.{KeepsOf, KeepsAll}
use Rattle.iso_search_core.specs.Words.{AreVariables}
use Rattle.iso_search_core.specs.declared.choices.Left.{Left}
use Rattle.iso_search_core.specs.declared.choices.Left.TheVariants as left
use Rattle.iso_search_core.specs.declared.choices.Attempt.{Attempt}
use Rattle.iso_program.specs.declared.showing.Showing.{Showing}
use Rattle.iso_search_core.specs.declared.choices.Choice as kept
use Rattle.iso_search_core.specs.declared.nows.Now.{Now}
use Rattle.iso_search_core.specs.declared.nows.Now.TheVariants as now

-- how the solutions of a bagof/3 or setof/3 come, by these words
abbrev pub grouping_of : {W : Type 0} → Present W → Meeting W → Grouping
grouping_of p by = record { witness = meaning p by.witness; result = meaning p by.result; sorts = by.sorts }

-- groups, the last of which comes first
abbrev pub groups_in : List Group → List (List Tree)
groups_in groups = map solutions_of (reverse groups)

-- A group has an item for each witness, and a store can hold it.
abbrev pub IsGroup : Group → Type 0
IsGroup g = IsWhole g × (arities_fit (list_of (solutions_of g)) ≡ true)

-- The item is one of the list.
abbrev pub Among : {X : Type 0} → X → List X → Type 0
Among x [] = ⊥
Among x (y ∷ ys) = (x ≡ y) ⊎ Among x ys

-- the most variable numbers that a run uses
abbrev pub most_numbers : ℕ
most_numbers = 4611686018427387904

-- a step uses at most so many: those of a clause that is entered or shown, of a ball that is caught, or of the list
-- that a findall/3 has gathered
abbrev pub numbers_a_step : ℕ
numbers_a_step = 536870912

-- how many clauses are entered or shown, balls caught, or lists or groups made, at once where this is tried, without a
-- step
abbrev pub entered_at : walker.Left → ℕ
entered_at AsIs = 0
entered_at Again = 0
entered_at (Clauses call cs) = 1
entered_at (Catching catcher recovery) = 1
entered_at (Gathering result copies count) = 1
entered_at (Offered left rights) = 1
entered_at (Groups by groups) = 1

-- Room is left for the numbers of a clause entered or shown, a ball caught or a list made at each alternative, and in
-- each step that is left.
abbrev pub HaveRoom : ℕ → List Alternative → Type 0
HaveRoom steps [] = Unit {0}
HaveRoom steps (a ∷ ks) = (a.next + numbers_a_step * (steps + entered_at a.left) ≤ most_numbers) × HaveRoom steps ks

-- where members are still to be run, the store's substitution and next number are those of the search, and room is left
pub record GoesOn {W : Type 0} (p : Present W) (query : List W) (s : State) : Type 0 where
  pub subst : p.substitution ≡ s.subst
  pub next : p.next ≡ s.next
  pub room : s.next + numbers_a_step * s.steps ≤ most_numbers
  pub words : AreVariables p query (variables s.query)

-- What is left to be tried at an alternative, but for the list behind it: clauses are left by a number and a view, and
-- a call stands for its goal.
module _ {W C : Type 0} (leaves : Leaving) (calls : C → Tree → Type 0) (p : Present W) where
  -- these clauses, for this call, which may enter each of them, as first arguments show
  pub record HasClauses (attempt : Attempt C) (a : Alternative) : Type 0 where
    pub call : Tree
    pub clauses : List Clause
    pub is_for : calls attempt.call call
    pub left : a.left ≡ Clauses call clauses
    pub are : leaves attempt.clause attempt.later clauses
    pub enter : EachEnters call clauses

  -- the entry of the catch whose goal this is
  pub record HasCatch (goal : W) (a : Alternative) : Type 0 where
    pub holds : p.holds goal ≡ true
    pub three : arity (meaning p goal) ≡ 3
    pub is : a.left ≡ Catching (argument 1 (meaning p goal)) (argument 2 (meaning p goal))

  -- The result of a findall/3, this word, is to be unified with the list of these copies, which a store can hold.
  pub record HasGathered (result : W) (gathered : Gathered) (a : Alternative) : Type 0 where
    pub holds : p.holds result ≡ true
    pub is : a.left ≡ Gathering (AsList (meaning p result)) (copies_of gathered) gathered.variables
    pub fits : arities_fit (list_of (copies_of gathered)) ≡ true

  -- The witness and the result, these words, are to meet the groups of these pairs, which a store can hold.
  pub record HasGrouping (by : Meeting W) (pairs : Pairs) (a : Alternative) : Type 0 where
    pub witness : p.holds by.witness ≡ true
    pub result : p.holds by.result ≡ true
    pub is : a.left ≡ Gathering (InGroups (grouping_of p by)) (pairs_of pairs) pairs.variables
    pub fits : arities_fit (list_of (pairs_of pairs)) ≡ true

  -- They are to meet these groups.
  pub record HasGroups (by : Meeting W) (groups : List Group) (a : Alternative) : Type 0 where
    pub witness : p.holds by.witness ≡ true
    pub result : p.holds by.result ≡ true
    pub is : a.left ≡ Groups (grouping_of p by) (groups_in groups)
    pub each : All IsGroup groups
    pub some : 0 < length groups

  -- The arguments of this goal are to be unified with these rows.
  pub record HasOffered (goal : W) (offers : Offers) (a : Alternative) : Type 0 where
    pub holds : p.holds goal ≡ true
    pub made : ℕ
    pub is : a.left ≡ Offered (goal_arguments (meaning p goal)) (rights_of made (meaning p goal) offers)
    pub each : AreRows (meaning p goal) offers
    pub some : 0 < length (rows_in offers)

  -- The heads and bodies of these clauses are to be unified with two terms. They are of a user procedure, with the key
  -- of the first term.
  pub record HasShown (shown : Showing W) (a : Alternative) : Type 0 where
    pub head : p.holds shown.head ≡ true
    pub body : p.holds shown.body ≡ true
    pub key : Key
    pub key_is : key_of (meaning p shown.head) ≡ Some key
    pub user : built_in key ≡ None
    pub clauses : List Clause
    pub is : a.left ≡ Offered (row (meaning p shown.head ∷ meaning p shown.body ∷ [])) (map (clause_offer shown.removes key) clauses)
    pub are : leaves shown.clause shown.later clauses

  abbrev pub HasLeft : Left W C → Alternative → Type 0
  HasLeft left.AsIs a = a.left ≡ AsIs
  HasLeft left.Again a = a.left ≡ Again
  HasLeft (left.Clauses attempt) a = HasClauses attempt a
  HasLeft (left.Catching goal) a = HasCatch goal a
  HasLeft (left.Gathering result gathered) a = HasGathered result gathered a
  HasLeft (left.Grouping by pairs) a = HasGrouping by pairs a
  HasLeft (left.Groups by groups) a = HasGroups by groups.items a
  HasLeft (left.Offered goal offers) a = HasOffered goal offers a
  HasLeft (left.Shown shown) a = HasShown shown a

module _ {S L W M K P C N B O : Type 0} (l : Ghosts L S K P C N B O W M) where
  -- All that was kept is as it was.
  abbrev pub Keeps : L → L → Type 0
  Keeps old new = KeepsAll l.list l.call l.within l.cost l.pending old new

  -- so is what was kept when no more stood
  abbrev pub BringsBack : K → L → L → Type 0
  BringsBack k old new = KeepsOf l.list l.call l.within l.cost l.pending (λ j. l.below j k) old new

  -- From this place on these are the members, under this substitution and with this next number. The words of the
  -- query's variables have these numbers.
  pub record OnList (p : Present W) (lists : L) (k : K) (query : List W) (named : List ℕ) (place : P) (list : List Member) (subst : Subst) (next : ℕ) : Type 0 where
    pub subst_is : p.substitution ≡ subst
    pub next_is : p.next ≡ next
    pub chain : l.list p lists k place list
    pub words : AreVariables p query named

  -- one choice is older than another, and keeps no more
  abbrev pub IsBelow : (M → M → Type 0) → kept.Choice W M K P C → kept.Choice W M K P C → Type 0
  IsBelow older d c = older d.mark c.mark × l.below d.kept c.kept

  -- Choices are made of an engine's marks (whether a mark stands for a store, and which is older), its mark for the
  -- empty store, which clauses are left by a number and a view, the words of the query's variables with their numbers,
  -- and whether a store, with so many cells still to be taken, fits an alternative.
  module _ (stands : M → Present W → Type 0) (older : M → M → Type 0) (base : M) (leaves : Leaving) (query : List W) (named : List ℕ) (fitting : Present W → ℕ → Alternative → Type 0) where
    -- What one choice stands for: its mark brings back a store over which what is left is to be tried, and which fits.
    pub record StandsForChoice (lists : L) (c : kept.Choice W M K P C) (a : Alternative) : Type 0 where
      pub present : Present W
      pub mark : stands c.mark present
      pub newer : older base c.mark
      pub on : OnList present lists c.kept query named c.rest a.list a.subst a.next
      pub has : HasLeft leaves (l.call present lists c.kept) present c.left a
      pub fits : fitting present (l.pending lists c.rest) a

    -- The choices, the newest last, are these alternatives, the newest first.
    pub data StandsForChoices (lists : L) : List (kept.Choice W M K P C) → List Alternative → Type 0 where
      none_kept : StandsForChoices lists [] []
      one_kept : {before cs : List (kept.Choice W M K P C)} {c : kept.Choice W M K P C} {a : Alternative} {ks : List Alternative} → cs ≡ before ++ c ∷ [] → l.within lists c.kept
          → StandsForChoice lists c a → ((d : kept.Choice W M K P C) → Among d before → IsBelow older d c)
          → StandsForChoices lists before ks → StandsForChoices lists cs (a ∷ ks)

    -- What the newest choice stands for, and what stands below it.
    pub record Newest (lists : L) (cs : List (kept.Choice W M K P C)) (c : kept.Choice W M K P C) (ks : List Alternative) : Type 0 where
      pub alternative : Alternative
      pub others : List Alternative
      pub is : ks ≡ alternative ∷ others
      pub within : l.within lists c.kept
      pub here : StandsForChoice lists c alternative
      pub newer : (d : kept.Choice W M K P C) → Among d (take (length cs - 1) cs) → IsBelow older d c
      pub stands_below : StandsForChoices lists (take (length cs - 1) cs) others

  -- What comes next, as the engine has it. Of a state that fails the substitution and the next number don't count.
  abbrev pub DoesNext : Present W → L → List W → Now N P → Option Tree → State → Type 0
  DoesNext p lists query now.Idle raised s = s ≡ idle s.world
  DoesNext p lists query now.Failing raised s = (rest : List Member) × (s.list ≡ Fail ∷ rest)
  DoesNext p lists query now.Answering raised s = (s.list ≡ []) × GoesOn p query s
  DoesNext p lists query (now.Running n) raised s = l.first p lists n s.list × GoesOn p query s
  DoesNext p lists query (now.Raising place) raised s =
      (ball : Tree) × (behind : List Member) × (s.list ≡ Raise ball ∷ behind) × l.list p lists (l.whole lists) place behind × (raised ≡ Some ball) × (arities_fit ball ≡ true)
  DoesNext p lists query (now.Spent limit) raised s = Unit {0}

-- A choice came behind the others: so much stands, this is left, and its mark brings back the store as it is, and is
-- newer than all others.
pub record GainsChoice {W M K P C : Type 0} (old new : M → Present W → Type 0) (older : M → M → Type 0) (present : Present W) (kept_now : K) (rest : P) (left : Left W C) (before after : List (kept.Choice W M K P C)) : Type 0 where
  pub mark : M
  pub stands : new mark present
  pub newer : (m : M) (p : Present W) → old m p → older m mark
  pub are : after ≡ before ++ record { mark = mark; kept = kept_now; rest = rest; left = left } ∷ []
