-- The evaluables: what is found by an atom is the operation of its name.
use Rattle.std.proofs.Common.{◌≡◌, ℕ, List, [], ◌∷◌, map, Option, refl, sym, ap, ◌∙◌, inl, inr}
use Rattle.std.specs.Option.{option_map}
use Rattle.std.specs.Str.{bytes_eq}
use Rattle.std.proofs.lemmas.Bool.{cases_Bool}
use Rattle.iso_atoms.specs.Texts.{KeepsTexts, text_at}
use Rattle.iso_model.specs.Search.Arithmetic.{among}
use Rattle.iso_arith.specs.declared.evaluables.Evaluables.{Evaluables}
use Rattle.iso_arith.specs.Tables.{IsTable, named_by}
use Rattle.iso_arith.specs.Evaluables.{Means, AreEvaluables, meant_by}
use Rattle.iso_arith.proofs.TableLemmas.{names_kept, within_kept}

-- what a row's operation does
abbrev pub meaning_of : {O A : Type 0} → (O → A) → List ℕ × O → List ℕ × A
meaning_of does r = (r.0, does r.1)

module _ {O A : Type 0} (does : O → A) where
  each_meant : (names : List (List ℕ)) (table : List (ℕ × O)) → map (meant_by does names) table ≡ map (meaning_of does) (map (named_by names) table)
  each_meant names [] = refl
  each_meant names (e ∷ es) = ap (λ (xs : List (List ℕ × A)). (text_at names e.0, does e.1) ∷ xs) (each_meant names es)

  pub means_by : (names : List (List ℕ)) (table : List (ℕ × O)) (rows : List (List ℕ × O)) → IsTable names table rows → Means does names table (map (meaning_of does) rows)
  means_by names table rows h = record {
    within = h.within;
    meant = each_meant names table ∙ ap (map (meaning_of does)) h.named;
  }

  pub means_kept : (old new : List (List ℕ)) → KeepsTexts old new → (table : List (ℕ × O)) (operations : List (List ℕ × A)) → Means does old table operations → Means does new table operations
  means_kept old new keeps table operations h = record {
    within = within_kept old new keeps table h.within;
    meant = each_meant new table ∙ ap (map (meaning_of does)) (names_kept old new keeps table h.within) ∙ sym (each_meant old table) ∙ h.meant;
  }

  among_meant : (rows : List (List ℕ × O)) (f : List ℕ) → option_map does (among rows f) ≡ among (map (meaning_of does) rows) f
  among_meant [] f = refl
  among_meant (r ∷ rs) f = elim (cases_Bool (bytes_eq r.0 f)) [ inl same ↦ rw same refl | inr other ↦ rw other (among_meant rs f) ]

  pub found_means : (names : List (List ℕ)) (table : List (ℕ × O)) (operations : List (List ℕ × A)) (r : Option O) (f : List ℕ)
      → Means does names table operations → r ≡ among (map (named_by names) table) f → option_map does r ≡ among operations f
  found_means names table operations r f h is =
      ap (option_map does) is ∙ among_meant (map (named_by names) table) f ∙ ap (λ (xs : List (List ℕ × A)). among xs f) (sym (each_meant names table) ∙ h.meant)

-- they stay the evaluables where names come
pub evaluables_kept : (old new : List (List ℕ)) → KeepsTexts old new → (e : Evaluables) → AreEvaluables old e → AreEvaluables new e
evaluables_kept old new keeps e h = record {
  unary = means_kept _ old new keeps e.unary.items _ h.unary;
  binary = means_kept _ old new keeps e.binary.items _ h.binary;
}
