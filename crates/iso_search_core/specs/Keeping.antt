-- What lists of goals keep, however an engine has them.
use Rattle.std.specs.Prelude.{◌≡◌, ℕ, List, [], ◌∷◌, ◌++◌, MatchOption, true}
use Rattle.iso_model.specs.Terms.Trees.{Tree}
use Rattle.iso_model.specs.Search.Walker.{Member, Goal, CutTo, Fail, Leave, Raise, Meet, Gather}
use Rattle.iso_store_core.specs.Presents.{Present}
use Rattle.iso_search_core.specs.declared.ends.End.{End}
use Rattle.iso_search_core.specs.declared.ends.End.TheVariants as end
use Rattle.iso_search_core.specs.declared.ends.Past.{Past}

module _ {W L K P C : Type 0} (list : Present W → L → K → P → List Member → Type 0) (call : Present W → L → K → C → Tree → Type 0)
    (within : L → K → Type 0) (cost pending : L → P → ℕ) where
  -- What was kept when so much stood is as it was, of each height that is meant: its lists and its calls, and what is
  -- to be done, and cells that are still to be taken, from a place on.
  pub record KeepsOf (meant : K → Type 0) (old new : L) : Type 0 where
    pub stands : (j : K) → meant j → within old j → within new j
    pub lists : (p : Present W) (j : K) (i : P) (ms : List Member) → meant j → within old j → list p old j i ms → list p new j i ms
    pub calls : (p : Present W) (j : K) (c : C) (t : Tree) → meant j → within old j → call p old j c t → call p new j c t
    pub costs : (p : Present W) (j : K) (i : P) (ms : List Member) → meant j → within old j → list p old j i ms → cost new i ≡ cost old i
    pub pendings : (p : Present W) (j : K) (i : P) (ms : List Member) → meant j → within old j → list p old j i ms → pending new i ≡ pending old i

  -- All that was kept is as it was.
  abbrev pub KeepsAll : L → L → Type 0
  KeepsAll old new = KeepsOf (λ j. Unit {0}) old new

-- ---- ends

-- a template is held
abbrev pub EndHolds : {W : Type 0} → Present W → End W → Type 0
EndHolds p (end.CutTo height) = Unit {0}
EndHolds p (end.Refute height) = Unit {0}
EndHolds p (end.Leave height) = Unit {0}
EndHolds p (end.Gather height template) = p.holds template ≡ true

-- the end, before these members
abbrev pub ending : {W : Type 0} → Present W → End W → List Member → List Member
ending p (end.CutTo height) ms = CutTo height ∷ ms
ending p (end.Refute height) ms = CutTo height ∷ Fail ∷ ms
ending p (end.Leave height) ms = Leave height ∷ ms
ending p (end.Gather height template) ms = Gather height (p.term template) ∷ ms

-- how much is to be done there
abbrev pub end_cost : {W : Type 0} → End W → ℕ
end_cost (end.CutTo height) = 1
end_cost (end.Refute height) = 2
end_cost (end.Leave height) = 1
end_cost (end.Gather height template) = 1

-- ---- members that a thrown ball passes

-- none is the end of a catch
abbrev pub NoLeave : List Member → Type 0
NoLeave [] = Unit {0}
NoLeave (Leave height ∷ ms) = ⊥
NoLeave (Goal b mark ∷ ms) = NoLeave ms
NoLeave (CutTo height ∷ ms) = NoLeave ms
NoLeave (Fail ∷ ms) = NoLeave ms
NoLeave (Raise ball ∷ ms) = NoLeave ms
NoLeave (Meet ball catcher recovery ∷ ms) = NoLeave ms
NoLeave (Gather height template ∷ ms) = NoLeave ms

-- Some members come first that are no ends of catches, then the end of the catch of this height, where there is one,
-- and then those of the list behind.
pub record Passes {P : Type 0} (behind : P → List Member → Type 0) (ms : List Member) (past : Past P) : Type 0 where
  pub front : List Member
  pub rest : List Member
  pub none : NoLeave front
  pub is : MatchOption past.leave (ms ≡ front ++ rest) (λ height. ms ≡ front ++ Leave height ∷ rest)
  pub are : behind past.behind rest
