-- Reading a clause's head against a goal: what is known of its variables, and which parts are left to be made equal.
use Rattle.std.specs.Prelude.{◌≡◌, ◌≢◌, ℕ, ◌+◌, ◌-◌, ◌<◌, ◌≤◌, List, [], ◌∷◌, ◌++◌, length, map, take, drop, slice_index_or, Option, Some, None, Bool, true, false}
use Rattle.std.specs.List.{All, slice_get}
use Rattle.iso_model.specs.Terms.Trees.{Tree, Variable, End, row, arities_fit}
use Rattle.iso_model.specs.Terms.Sorts.{is_term}
use Rattle.iso_model.specs.Terms.Substitutions.{Subst, apply, single, Extends, BindsToOlder}
use Rattle.iso_model.specs.Terms.Copies.{renamed}
use Rattle.iso_store_core.specs.declared.patterns.Part.{Part}
use Rattle.iso_store_core.specs.declared.shapes.Shape.{Shape}
use Rattle.iso_store_core.specs.Shapes.{IsShape}
use Rattle.iso_store_core.specs.Arguments.{arguments, listed}
use Rattle.iso_store_core.specs.Copying.{cells_of}
use Rattle.iso_store_core.specs.Patterns.{IsPattern, HasPlaces, after_parts, at_places}
use Rattle.iso_store_core.specs.Presents.{Present, Holds, meaning, KeepsWords, TakesFrom, Binds}
use Rattle.iso_store.specs.Unifying.{IsCompound}
use Rattle.iso_store.specs.declared.reading.Later.{Later}
use Rattle.iso_store.specs.declared.reading.Unread.{Unread}
use Rattle.iso_store.specs.declared.reading.NextPart.{NextPart}

-- in a store that is so
module _ {W : Type 0} (p : Present W) where
  -- The word stands for a compound, of whose arguments so many are left to be read.
  pub record HasArguments (word : W) (count : ℕ) : Type 0 where
    pub holds : Holds p word
    pub arity : ℕ
    pub compound : IsCompound arity (meaning p word)
    pub some : 0 < count
    pub within : count ≤ arity

  -- so does this one, unless no argument of it is left
  abbrev pub MayHaveArguments : Unread W → Type 0
  MayHaveArguments u = 0 < u.count → HasArguments u.word u.count

  abbrev pub AreUnread : List (Unread W) → Type 0
  AreUnread us = All (λ u. HasArguments u.word u.count) us

  -- its first arguments, so many
  abbrev pub first_arguments : W → ℕ → List Tree
  first_arguments word count = take count (listed (arguments (meaning p word)))

  -- the terms of the goal that are left to be read, the last one next
  abbrev pub left_terms : List (Unread W) → List Tree
  left_terms [] = []
  left_terms (u ∷ us) = first_arguments u.word u.count ++ left_terms us

-- where these are the names of the atoms, and these the parts of a pattern
module _ (names : List (List ℕ)) (ks : List Part) where
  -- the terms of the first parts, so many
  abbrev pub first_terms : ℕ → List Tree
  first_terms n = after_parts names (take n ks) []

  -- the parts from the one place on to the other
  abbrev pub parts_between : ℕ → ℕ → List Part
  parts_between from past = drop from (take past ks)

  -- the term of these parts
  abbrev pub term_between : ℕ → ℕ → Tree
  term_between from past = slice_index_or (after_parts names (parts_between from past) []) 0 End

  -- how many cells the terms take that are unified later
  abbrev pub later_cells : {W : Type 0} → ℕ → (ℕ → ℕ) → List (Later W) → ℕ
  later_cells atomic width [] = 0
  later_cells atomic width (l ∷ ls) = cells_of atomic width (term_between l.from l.past) + later_cells atomic width ls

  -- so many, and what is left to be read, are no more than all of the head
  abbrev pub LaterWithin : {W : Type 0} → List (Later W) → ℕ → Type 0
  LaterWithin later at = (atomic : ℕ) (width : ℕ → ℕ) → later_cells atomic width later + cells_of atomic width (row (first_terms at)) ≤ cells_of atomic width (row (first_terms (length ks)))

  -- The parts from the one place on to the other are those of a term, the last one of the first parts.
  pub record IsBetween (from past : ℕ) : Type 0 where
    pub within : from ≤ past
    pub pattern : IsPattern names (parts_between from past) (term_between from past)
    pub last : first_terms past ≡ first_terms from ++ term_between from past ∷ []

-- in a store that is so, where the head has so many variables
module _ {W : Type 0} (p : Present W) (names : List (List ℕ)) (ks : List Part) (count : ℕ) where
  -- What is to be unified later can be: its parts are those of a term, whose variables have places.
  pub record IsLater (l : Later W) : Type 0 where
    pub holds : p.holds l.word ≡ true
    pub between : IsBetween names ks l.from l.past
    pub inside : l.past ≤ length ks
    pub fits : arities_fit (term_between names ks l.from l.past) ≡ true
    pub places : HasPlaces count (term_between names ks l.from l.past)

  -- What holds while the head is read, where so many parts are left, and these terms of the goal are to be equal to
  -- theirs.
  pub record IsRead (values : List (Option W)) (later : List (Later W)) (left : List Tree) (at : ℕ) : Type 0 where
    pub within : at ≤ length ks
    pub many_values : length values ≡ count
    pub held : (x : ℕ) (w : W) → slice_get values x ≡ Some (Some w) → p.holds w ≡ true
    pub waiting : All IsLater later
    pub cells : LaterWithin names ks later at
    pub many : length left ≡ length (first_terms names ks at)

-- and its variables are numbered from this number on
module _ {W : Type 0} (p : Present W) (names : List (List ℕ)) (ks : List Part) (next : ℕ) where
  -- the substitution gives the head's variables the values of the words that they have
  abbrev pub GivesValues : Subst → List (Option W) → Type 0
  GivesValues s values = (x : ℕ) (w : W) → slice_get values x ≡ Some (Some w) → s (next + x) ≡ apply s (meaning p w)

  -- it makes equal what is to be unified later
  abbrev pub MakesLater : Subst → List (Later W) → Type 0
  MakesLater s later = All (λ l. apply s (meaning p l.word) ≡ apply s (renamed next (term_between names ks l.from l.past))) later

  -- it makes the terms of the goal equal to those of the head
  abbrev pub MakesLeft : Subst → List Tree → List Tree → Type 0
  MakesLeft s left ts = map (apply s) left ≡ map (apply s) (map (renamed next) ts)

  -- it does all this, where so many parts are left
  abbrev pub Solves : Subst → List (Option W) → List (Later W) → List Tree → ℕ → Type 0
  Solves s values later left at = GivesValues s values × MakesLater s later × MakesLeft s left (first_terms names ks at)

-- From so many parts on, fewer are left: the same substitutions solve what is left.
pub record IsReadTo {W : Type 0} (p : Present W) (names : List (List ℕ)) (ks : List Part) (count : ℕ) (values news : List (Option W)) (later laters : List (Later W)) (left lefts : List Tree) (at rest : ℕ) : Type 0 where
  pub read : IsRead p names ks count news laters lefts rest
  pub ahead : (next : ℕ) (s : Subst) → Solves p names ks next s values later left at → Solves p names ks next s news laters lefts rest
  pub back : (next : ℕ) (s : Subst) → Solves p names ks next s news laters lefts rest → Solves p names ks next s values later left at

-- What reading a part comes to: nothing makes it and the term of the goal equal, or fewer parts are left.
abbrev pub IsReadOn : {W : Type 0} → Present W → List (List ℕ) → List Part → ℕ → List (Option W) → List (Option W) → List (Later W) → List (Later W) → List Tree → List Tree → ℕ → Option ℕ → Type 0
IsReadOn p names ks count values news later laters left lefts at (Some rest) = (rest < at) × IsReadTo p names ks count values news later laters left lefts at rest
IsReadOn p names ks count values news later laters left lefts at None = (next : ℕ) (s : Subst) → Solves p names ks next s values later left at → ⊥

-- What is read next, where the variables before it were read: a part for this word, of so many parts that are left;
-- or nothing is left.
abbrev pub IsNext : {W : Type 0} → Present W → List (List ℕ) → List Part → ℕ → List (Option W) → List (Option W) → List (Later W) → List Tree → List Tree → ℕ → Option (NextPart W) → Type 0
IsNext p names ks count values news later left lefts at (Some next) =
    Holds p next.word × (next.at ≤ at) × IsReadTo p names ks count values news later later left (lefts ++ meaning p next.word ∷ []) at next.at
IsNext p names ks count values news later left lefts at None = (rest : ℕ) × IsReadTo p names ks count values news later later left [] at rest

-- The term a comes last of the first parts, so many, behind ts, and has this shape; its arguments come last of those
-- before the last one.
pub record Shows (names : List (List ℕ)) (ks : List Part) (at : ℕ) (shape : Shape) (ts : List Tree) (a : Tree) : Type 0 where
  pub whole : first_terms names ks at ≡ ts ++ a ∷ []
  pub opened : first_terms names ks (at - 1) ≡ ts ++ listed (arguments a)
  pub shows : IsShape names shape a
  pub term : is_term a ≡ true
  pub bound : (x : ℕ) → a ≢ Variable x

-- What reading all of a head comes to: the same substitutions make it and the goal equal as solve what was found, or
-- none does.
abbrev pub IsHeadRead : {W : Type 0} → Present W → List (List ℕ) → List Part → ℕ → W → List (Option W) → List (Later W) → Bool → Type 0
IsHeadRead p names ks count goal values later true =
    IsRead p names ks count values later [] 0
    × ((next : ℕ) (s : Subst) → MakesLeft p names ks next s (meaning p goal ∷ []) (first_terms names ks (length ks)) → GivesValues p names ks next s values × MakesLater p names ks next s later)
    × ((next : ℕ) (s : Subst) → GivesValues p names ks next s values → MakesLater p names ks next s later → MakesLeft p names ks next s (meaning p goal ∷ []) (first_terms names ks (length ks)))
IsHeadRead p names ks count goal values later false = (next : ℕ) (s : Subst) → MakesLeft p names ks next s (meaning p goal ∷ []) (first_terms names ks (length ks)) → ⊥

-- the variable of this number is its value, where it has one
abbrev pub value_bound : {W : Type 0} → Present W → ℕ → Option W → Subst
value_bound p number (Some w) = single number (meaning p w)
value_bound p number None = Variable

-- The word is that of the variable of this number: it stands for its value where it has one, else the variable came
-- from p to q.
pub record GetsWord {W : Type 0} (p q : Present W) (number : ℕ) (value : Option W) (w : W) : Type 0 where
  pub keeps : KeepsWords p q
  pub substitution : q.substitution ≡ p.substitution
  pub next : q.next ≡ p.next
  pub taken : (n : ℕ) → n ≢ number → q.taken n ≡ p.taken n
  pub holds : q.holds w ≡ true
  pub means : meaning q w ≡ value_bound p number value number

-- v gives the values to the variables that are numbered from first on, and binds no other
pub record AreValues {W : Type 0} (p : Present W) (first : ℕ) (values : List (Option W)) (v : Subst) : Type 0 where
  pub valued : (x : ℕ) (w : W) → slice_get values x ≡ Some (Some w) → v (first + x) ≡ meaning p w
  pub others : (n : ℕ) → ((x : ℕ) (w : W) → slice_get values x ≡ Some (Some w) → n ≢ first + x) → v n ≡ Variable n

-- These are the words of the clause's variables: they stand for the values, and from p to q the variables without one
-- came.
pub record HasWords {W : Type 0} (p q : Present W) (first : ℕ) (values : List (Option W)) (ws : List W) : Type 0 where
  pub values_bound : Subst
  pub are : AreValues p first values values_bound
  pub keeps : KeepsWords p q
  pub substitution : q.substitution ≡ p.substitution
  pub taken : TakesFrom p q first
  pub many : length ws ≡ length values
  pub hold : All (Holds q) ws
  pub means : (x : ℕ) (d : W) → x < length ws → meaning q (slice_index_or ws x d) ≡ values_bound (first + x)

-- where these words stand for the variables, the substitution makes equal what is to be unified later
abbrev pub MakesThese : {W : Type 0} → Present W → List (List ℕ) → List Part → List W → Subst → List (Later W) → Type 0
MakesThese p names ks words s later =
    All (λ l. apply s (meaning p l.word) ≡ apply s (apply (at_places (map (meaning p) words)) (term_between names ks l.from l.past))) later

-- From p to q a substitution was bound: the most general one that makes it equal.
pub record UnifiesThese {W : Type 0} (p q : Present W) (names : List (List ℕ)) (ks : List Part) (words : List W) (later : List (Later W)) : Type 0 where
  pub unifier : Subst
  pub makes : MakesThese p names ks words unifier later
  pub most_general : (t : Subst) → MakesThese p names ks words t later → Extends unifier t
  pub least : BindsToOlder unifier
  pub binds : Binds p q unifier
