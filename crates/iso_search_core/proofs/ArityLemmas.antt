-- Built-ins and their arguments.
use Rattle.std.proofs.Common.{◌≡◌, ℕ, List, [], ◌∷◌, Bool, true, ◌&&◌, ◌==◌, nat_lt, Some, refl, ap, sym, subst, inl, inr}
use Rattle.std.specs.Str.{bytes_eq}
use Rattle.std.proofs.lemmas.Bool.{cases_Bool, eqb-true, ltb-true, and_parts}
use Rattle.iso_model.specs.Terms.Trees.{Tree, Name, Apply}
use Rattle.iso_model.specs.Search.Databases.{Key, same_key}
use Rattle.iso_model.specs.Terms.Arguments.{arity}
use Rattle.iso_model.specs.Search.BuiltIns.{built_ins, built_in_among}
use Rattle.iso_model.specs.declared.built_ins.BuiltIn.{BuiltIn}
use Rattle.iso_model.specs.declared.built_ins.BuiltIn.TheVariants.{Call, Once, Not, Catch, Throw, HaltWith, Findall, Bagof, Setof, Exists, Library, Setting, Storage, Text, Output, AtomPart}
use Rattle.iso_model.specs.Search.Library.{library_arity}
use Rattle.iso_model.specs.Search.Settings.{setting_arity}
use Rattle.iso_model.specs.Search.Storages.{storage_arity}
use Rattle.iso_model.specs.Search.AtomTexts.{text_arity}
use Rattle.iso_model.specs.Search.Outputs.{output_arity}
use Rattle.iso_model.specs.Search.AtomParts.{part_arity}
use Rattle.iso_search_core.specs.GoalKinds.{IsBuiltIn}
use Rattle.iso_search_core.proofs.StandingLemmas.{some_same}
pub use Rattle.iso_search_core.specs.Arities.{HasArity}

-- ---- built-ins and their arguments

same_arity : (a b : Key) → same_key a b ≡ true → a.arity ≡ b.arity
same_arity a b h = eqb-true a.arity b.arity (and_parts (a.arity == b.arity) (bytes_eq a.name b.name) h).0

-- a test, and what it tells
abbrev Tells : Type 0 → Type 0
Tells P = (test : Bool) × (test ≡ true → P)

abbrev exactly : (n m : ℕ) → Tells (n ≡ m)
exactly n m = (n == m, eqb-true n m)

-- whether a built-in of the table has so many
abbrev has_arity : (b : BuiltIn) (n : ℕ) → Tells (HasArity b n)
has_arity Call n = (nat_lt 0 n && nat_lt n 256, λ h. (let both = and_parts (nat_lt 0 n) (nat_lt n 256) h in (ltb-true 0 n both.0, ltb-true n 256 both.1)))
has_arity Once n = exactly n 1
has_arity Not n = exactly n 1
has_arity Throw n = exactly n 1
has_arity HaltWith n = exactly n 1
has_arity Catch n = exactly n 3
has_arity Findall n = exactly n 3
has_arity Bagof n = exactly n 3
has_arity Setof n = exactly n 3
has_arity Exists n = exactly n 2
has_arity (Library row) n = exactly n (library_arity row)
has_arity (Setting row) n = exactly n (setting_arity row)
has_arity (Storage row) n = exactly n (storage_arity row)
has_arity (Text row) n = exactly n (text_arity row)
has_arity (Output row) n = exactly n (output_arity row)
has_arity (AtomPart row) n = exactly n (part_arity row)
has_arity b n = exactly n 0

abbrev fit_rows : List (Key × BuiltIn) → Bool
fit_rows [] = true
fit_rows (e ∷ es) = (has_arity e.1 (e.0).arity).0 && fit_rows es

-- so has each row
rows_fit : fit_rows built_ins ≡ true
rows_fit = refl

arity_among : (es : List (Key × BuiltIn)) → fit_rows es ≡ true → (k : Key) (b : BuiltIn) → built_in_among es k ≡ Some b → HasArity b k.arity
arity_among [] fit k b h = absurd cc
arity_among (e ∷ es) fit k b h =
    let fits = and_parts (has_arity e.1 (e.0).arity).0 (fit_rows es) fit in
    elim (cases_Bool (same_key e.0 k)) [
      | inl here ↦ (let is : Some e.1 ≡ Some b = rw here at h in subst (λ (x : BuiltIn). HasArity x k.arity) (some_same is) (subst (λ (n : ℕ). HasArity e.1 n) (same_arity e.0 k here) ((has_arity e.1 (e.0).arity).1 fits.0)))
      | inr later ↦ arity_among es fits.1 k b (rw later at h)
    ]

-- a goal of a built-in has its arguments
pub built_in_arguments : (v : Tree) (b : BuiltIn) → IsBuiltIn v b → HasArity b (arity v)
built_in_arguments (Name f) b h = subst (HasArity b) (sym (ap (λ (k : Key). k.arity) (some_same h.named))) (arity_among built_ins rows_fit h.key b h.found)
built_in_arguments (Apply f ts) b h = subst (HasArity b) (sym (ap (λ (k : Key). k.arity) (some_same h.named))) (arity_among built_ins rows_fit h.key b h.found)
built_in_arguments v b h = absurd (let e = h.named in cc e)
