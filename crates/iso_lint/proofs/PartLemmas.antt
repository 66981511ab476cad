-- The parts of a text are the items as which it is consulted.
use Rattle.std.proofs.Common.{◌≡◌, ℕ, List, [], ◌∷◌, Option, Some, None, option_map, refl, ap, ◌∙◌, inl, inr}
use Rattle.std.proofs.lemmas.Bool.{cases_Bool}
use Rattle.iso_model.specs.Syntax.Token.{Shown}
use Rattle.iso_model.specs.Syntax.Grammar.{ReadTerm}
use Rattle.iso_model.specs.Syntax.Reading.{◌>>=◌, clause_of}
use Rattle.iso_model.specs.Syntax.Clauses.{is_end, behind_token, split_clause, behind_by, behind_clause, next_clause}
use Rattle.iso_model.specs.Syntax.Items.{Taken, item_of}
use Rattle.iso_lint_core.specs.declared.settings.Settings.{Settings}
use Rattle.iso_lint.specs.Parts.{cut, ended, clause_in, part_of, PartsAreItems}

-- the cut, as the model splits
abbrev split_by : List Shown → List Shown → Option ℕ → Option (List Shown × List Shown)
split_by front behind ends = option_map (λ start. (front, behind)) ends

joined : (t : Shown) (front behind : List Shown) (ends : Option ℕ) → option_map (behind_token t) (split_by front behind ends) ≡ split_by (t ∷ front) behind ends
joined t front behind None = refl
joined t front behind (Some start) = refl

splits : (ts : List Shown) → split_clause ts ≡ split_by (cut ts).tokens (cut ts).behind (cut ts).ends
splits [] = refl
splits (t ∷ ts) = elim (cases_Bool (is_end t.kind)) [
  | inl ends ↦ rw ends refl
  | inr goes_on ↦ rw goes_on (ap (option_map (behind_token t)) (splits ts) ∙ joined t (cut ts).tokens (cut ts).behind (cut ts).ends)
]

behind_same : (t : Shown) (x : Option (List Shown × List Shown)) → behind_by (option_map (behind_token t) x) ≡ behind_by x
behind_same t None = refl
behind_same t (Some x) = refl

left_behind : (ts : List Shown) → behind_clause ts ≡ (cut ts).behind
left_behind [] = refl
left_behind (t ∷ ts) = elim (cases_Bool (is_end t.kind)) [
  | inl ends ↦ rw ends refl
  | inr goes_on ↦ rw goes_on (behind_same t (split_clause ts) ∙ left_behind ts)
]

read_by : (read : List Shown → Option ReadTerm) (front behind : List Shown) (ends : Option ℕ) → (split_by front behind ends >>= (λ x. read x.0)) ≡ ended ends (read front)
read_by read front behind None = refl
read_by read front behind (Some start) = refl

reads : (s : Settings) (ts : List Shown) → next_clause s.ops s.flags ts ≡ clause_in (part_of (cut ts) s)
reads s ts = ap (λ x. x >>= (λ y. clause_of s.ops s.flags y.0)) (splits ts) ∙ read_by (clause_of s.ops s.flags) (cut ts).tokens (cut ts).behind (cut ts).ends

pub parts_same : PartsAreItems
parts_same s t ts = λ i. let taken : Taken = record { item = item_of (reads s (t ∷ ts) i); behind = left_behind (t ∷ ts) i } in Some taken
