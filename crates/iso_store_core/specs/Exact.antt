-- Parts of which each compound has as many terms before it as it has arguments.
use Rattle.std.specs.Prelude.{ℕ, ◌+◌, ◌-◌, List, [], ◌∷◌, Bool, true, nat_le, ◌&&◌}
use Rattle.iso_store_core.specs.declared.patterns.Part.{Part}
use Rattle.iso_store_core.specs.declared.patterns.Part.TheVariants.{Variable as Place, Integer as Number, Atom, Compound}

-- so it is of these parts, where so many terms came before them
abbrev pub are_exact : List Part → ℕ → Bool
are_exact [] before = true
are_exact (Place k ∷ ks) before = are_exact ks (before + 1)
are_exact (Number z ∷ ks) before = are_exact ks (before + 1)
are_exact (Atom a ∷ ks) before = are_exact ks (before + 1)
are_exact (Compound a n ∷ ks) before = nat_le n before && are_exact ks (before - n + 1)
