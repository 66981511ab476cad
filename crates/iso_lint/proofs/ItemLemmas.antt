-- The items of a text, a part further.
use Rattle.std.proofs.Common.{◌≡◌, ◌≤◌, ◌<◌, ℕ, zero, suc, List, [], ◌∷◌, ◌++◌, length, map, ap, ◌∙◌, refl, sym, arith, append_assoc, append-nil}
use Rattle.iso_model.specs.Syntax.Token.{Shown}
use Rattle.iso_lint_core.specs.declared.settings.Settings.{Settings}
use Rattle.iso_lint.specs.declared.cuts.Cut.{Cut}
use Rattle.iso_lint.specs.Cuts.{IsCut, part_with}
use Rattle.iso_lint_core.specs.Settings.{initial_settings}
use Rattle.iso_lint.specs.Parts as parts
use Rattle.iso_lint.specs.Parts.{parts_from, then_parts, behind_read, term_in}
use Rattle.iso_lint.specs.Findings.{Item, item}

-- These items are read, and those of what is left are the others of them all.
pub record IsLeft (size : ℕ) (all : List Item) (done : List Item) (ts : List Shown) (s : Settings) : Type 0 where
  pub turns : ℕ
  pub enough : length ts ≤ turns
  pub others : done ++ map (item size) (parts_from turns ts s) ≡ all

pub at_first : (size : ℕ) (ts : List Shown) → IsLeft size (map (item size) (parts.parts ts)) [] ts initial_settings
at_first size ts = record { turns = length ts; enough = omega arith; others = refl }

none_left : (turns : ℕ) (s : Settings) → parts_from turns [] s ≡ []
unfolding parts_from
none_left zero s = refl
none_left (suc turns) s = refl

pub at_last : (size : ℕ) (all done : List Item) (ts : List Shown) (s : Settings) → ts ≡ [] → IsLeft size all done ts s → done ≡ all
at_last size all done ts s none left =
    sym (append-nil done) ∙ ap (λ ps. done ++ map (item size) ps) (sym (ap (λ us. parts_from left.turns us s) none ∙ none_left left.turns s)) ∙ left.others

some_left : (turns : ℕ) (ts : List Shown) (s : Settings) → 0 < length ts → parts_from (suc turns) ts s ≡ then_parts (parts.cut ts) s (parts_from turns)
unfolding parts_from
some_left turns [] s h = absurd (omega arith)
some_left turns (t ∷ ts) s h = refl

later_by : (size : ℕ) (all done more : List Item) (ts behind : List Shown) (s after : Settings) (c : Cut) (turns : ℕ) → IsCut c ts behind → length behind < length ts → length ts ≤ turns
    → more ≡ done ++ item size (part_with c s) ∷ [] → after ≡ behind_read (term_in (part_with c s)) s
    → done ++ map (item size) (parts_from turns ts s) ≡ all → IsLeft size all more behind after
later_by size all done more ts behind s after c zero is shorter enough made set others = absurd (omega arith)
later_by size all done more ts behind s after c (suc turns) is shorter enough made set others = record {
  turns = turns;
  enough = omega arith;
  others =
      ap (λ xs. xs ++ map (item size) (parts_from turns behind after)) made
      ∙ append_assoc done (item size (part_with c s) ∷ []) (map (item size) (parts_from turns behind after))
      ∙ ap (λ r. done ++ item size (part_with c s) ∷ map (item size) (parts_from turns behind r)) set
      ∙ ap (λ k. done ++ map (item size) (then_parts k s (parts_from turns))) (sym is)
      ∙ ap (λ ps. done ++ map (item size) ps) (sym (some_left turns ts s (omega arith)))
      ∙ others;
}

pub later : (size : ℕ) (all done more : List Item) (ts behind : List Shown) (s after : Settings) (c : Cut) → IsCut c ts behind → length behind < length ts
    → more ≡ done ++ item size (part_with c s) ∷ [] → after ≡ behind_read (term_in (part_with c s)) s → IsLeft size all done ts s → IsLeft size all more behind after
later size all done more ts behind s after c is shorter made set left = later_by size all done more ts behind s after c left.turns is shorter left.enough made set left.others
