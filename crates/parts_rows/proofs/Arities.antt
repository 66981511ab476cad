-- Built-ins that run no goal have as many arguments as the table says.
use Rattle.std.proofs.Common.{◌≡◌, ℕ, List, [], ◌∷◌, Bool, true, false, ◌&&◌, ◌==◌, Some, refl, sym, subst, inl, inr, ◌∙◌}
use Rattle.std.specs.Str.{bytes_eq}
use Rattle.std.proofs.lemmas.Bool.{cases_Bool, eqb-true}
use Rattle.iso_model.specs.Search.Keys.{Key, same_key}
use Rattle.iso_model.specs.Search.BuiltIns.{built_ins, built_in_among}
use Rattle.iso_model.specs.Search.Library.{library_arity}
use Rattle.iso_model.specs.declared.built_ins.BuiltIn.{BuiltIn}
use Rattle.iso_model.specs.declared.built_ins.BuiltIn.TheVariants.{Library}
use Rattle.iso_model.specs.declared.kinds.Library.{Library as Row}

some_same : {X : Type 0} {x y : X} → Some x ≡ Some y → x ≡ y
some_same h = cc

both_of : (a b : Bool) → a && b ≡ true → (a ≡ true) × (b ≡ true)
both_of true b h = (refl, h)
both_of false b h = absurd cc

same_arity : (a b : Key) → same_key a b ≡ true → a.arity ≡ b.arity
same_arity a b h = eqb-true a.arity b.arity (both_of (a.arity == b.arity) (bytes_eq a.name b.name) h).0

-- whether a built-in has so many arguments, if it is one that runs no goal
abbrev fits : BuiltIn → ℕ → Bool
fits (Library row) n = n == library_arity row
fits other n = true

abbrev all_fit : List (Key × BuiltIn) → Bool
all_fit [] = true
all_fit (e ∷ es) = fits e.1 (e.0).arity && all_fit es

table_fits : all_fit built_ins ≡ true
table_fits = refl

among : (es : List (Key × BuiltIn)) → all_fit es ≡ true → (k : Key) (row : Row) → built_in_among es k ≡ Some (Library row) → k.arity ≡ library_arity row
among [] fit k row h = absurd cc
among (e ∷ es) fit k row h =
    let both = both_of (fits e.1 (e.0).arity) (all_fit es) fit in
    elim (cases_Bool (same_key e.0 k)) [
      | inl here ↦ (let is : Some e.1 ≡ Some (Library row) = rw here at h in
          sym (same_arity e.0 k here) ∙ eqb-true (e.0).arity (library_arity row) (subst (λ (x : BuiltIn). fits x (e.0).arity ≡ true) (some_same is) both.0))
      | inr later ↦ among es both.1 k row (rw later at h)
    ]

-- a built-in that runs no goal has as many arguments as its key says
pub library_key : (k : Key) (row : Row) → built_in_among built_ins k ≡ Some (Library row) → k.arity ≡ library_arity row
library_key k row h = among built_ins table_fits k row h
