-- Names with their places.
use Rattle.std.specs.Prelude.{◌≡◌, ℕ, List, map}
use Rattle.std.specs.Borrow.{Bor}
use Rattle.std.specs.Ordering.{nat_cmp}
use Rattle.std.specs.Cmp.Lexicographic.{slice_cmp}
use Rattle.std.specs.BTreeMap.{get_by}
use Rattle.std.specs.declared.collections.BTreeMap.{BTreeMap}
use Rattle.std.specs.declared.alloc.Global.{Global}
use Rattle.iso_model.specs.Syntax.Grammar.{name_place}

-- the texts of names
abbrev pub texts_of : List (Bor (List ℕ)) → List (List ℕ)
texts_of names = map (λ name. name.now) names

-- the map has the place of each name but `_`, and no other name
abbrev pub ArePlaced : BTreeMap (Bor (List ℕ)) ℕ Global → List (List ℕ) → Type 0
ArePlaced places names = (text : List ℕ) → get_by (λ name. slice_cmp nat_cmp text name.now) places ≡ name_place text names
