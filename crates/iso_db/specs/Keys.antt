-- The keys of procedures: a name and a number of arguments (ISO/IEC 13211-1:1995, 7.1.6.6).
use Rattle.std.specs.Prelude.{ℕ, zero, suc, Bool, ◌&&◌, ◌==◌, List, [], ◌∷◌, Option, Some, None, option_map, if◌then◌else◌}
use Rattle.std.specs.Str.{bytes_eq}
use Rattle.iso_db.specs.declared.kinds.Kind.{Kind}

pub record Key : Type 0 where
  pub name : List ℕ
  pub arity : ℕ

abbrev pub key : List ℕ → ℕ → Key
key name arity = record { name = name; arity = arity }

-- whether the key is that of this name and number of arguments
abbrev pub is_key : List ℕ → ℕ → Key → Bool
is_key name arity k = bytes_eq name k.name && k.arity == arity

-- the place of the first key of this name and number of arguments
abbrev pub place_of : List Key → List ℕ → ℕ → Option ℕ
place_of [] name arity = None
place_of (k ∷ ks) name arity = if is_key name arity k then Some 0 else option_map suc (place_of ks name arity)

-- A procedure but for its clauses: its key, and its kind, or none while it is absent.
pub record Heading : Type 0 where
  pub key : Key
  pub kind : Option Kind

-- the heading at a place changed, and no other
abbrev pub at_heading : ℕ → (Heading → Heading) → List Heading → List Heading
at_heading place change [] = []
at_heading zero change (h ∷ hs) = change h ∷ hs
at_heading (suc place) change (h ∷ hs) = h ∷ at_heading place change hs
