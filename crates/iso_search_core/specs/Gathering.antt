-- Choices at which findall/3, bagof/3 and setof/3 gather, when a solution comes (ISO/IEC 13211-1:1995, 8.10).
use Rattle.std.specs.Prelude.{◌≡◌, ℕ, suc, List, [], ◌∷◌}
use Rattle.iso_search_core.specs.declared.solutions.Gathered.{Gathered}
use Rattle.iso_search_core.specs.declared.pairs.Pairs.{Pairs}
use Rattle.iso_search_core.specs.declared.choices.Left.{Left}
use Rattle.iso_search_core.specs.declared.choices.Left.TheVariants as left
use Rattle.iso_search_core.specs.declared.choices.Choice as kept
use Rattle.iso_search_core.specs.Solutions.{Change}
pub use Rattle.iso_search_core.specs.Solutions.{SameCopies}

-- What is left is the same but for what was gathered, which is so related.
abbrev pub LeftChanges : {W C : Type 0} → Change → Left W C → Left W C → Type 0
LeftChanges R (left.Gathering result g) new = (h : Gathered) × (new ≡ left.Gathering result h) × R.copies g h
LeftChanges R (left.Grouping by g) new = (h : Pairs) × (new ≡ left.Grouping by h) × R.pairs g h
LeftChanges R l new = new ≡ l

-- so of a choice
pub record ChoiceChanges {W M K P C : Type 0} (R : Change) (old new : kept.Choice W M K P C) : Type 0 where
  pub mark : new.mark ≡ old.mark
  pub kept : new.kept ≡ old.kept
  pub rest : new.rest ≡ old.rest
  pub left : LeftChanges R old.left new.left

-- The choice at this place, where there is one, changes so; the others stay.
pub data ChangesAt {W M K P C : Type 0} (R : Change) : ℕ → List (kept.Choice W M K P C) → List (kept.Choice W M K P C) → Type 0 where
  no_choice : {n : ℕ} → ChangesAt R n [] []
  this_choice : {c d : kept.Choice W M K P C} {cs : List (kept.Choice W M K P C)} → ChoiceChanges R c d → ChangesAt R 0 (c ∷ cs) (d ∷ cs)
  later_choice : {n : ℕ} {c : kept.Choice W M K P C} {cs ds : List (kept.Choice W M K P C)} → ChangesAt R n cs ds → ChangesAt R (suc n) (c ∷ cs) (c ∷ ds)
