-- What a term is to a search for a variable.
use Rattle.std.specs.Prelude.{◌≡◌, ℕ, ◌≤◌, List, ◌∷◌, true, false}
use Rattle.iso_model.specs.Terms.Trees.{Tree, Apply, count, row}
use Rattle.iso_model.specs.Terms.Sorts.{is_term}
use Rattle.iso_model.specs.Terms.Variables.{occurs}
use Rattle.iso_store.specs.declared.few.Look.{Look}
use Rattle.iso_store.specs.declared.few.Look.TheVariants as look
use Rattle.iso_store.specs.declared.few.Found.{Found}
use Rattle.iso_store.specs.declared.few.Found.TheVariants.{There, Absent, Compound}
use Rattle.iso_store_core.specs.Arguments.{arity, arguments_from}
use Rattle.iso_store_core.specs.Presents.{Present, Holds, meaning}

-- what the term is to a search for the variable x
abbrev pub IsLook : ℕ → Tree → Look → Type 0
IsLook x t look.There = occurs x t ≡ true
IsLook x t look.Absent = occurs x t ≡ false
IsLook x t (look.Compound n) = (f : List ℕ) × (ts : Tree) × (t ≡ Apply f ts) × (count ts ≡ n) × (is_term t ≡ true)

-- what the arguments of the term t, which has n, are from the place i on to a search for the variable x
abbrev pub IsFound : {W : Type 0} → Present W → ℕ → Tree → ℕ → ℕ → Found W → Type 0
IsFound p x t i n There = occurs x (row (arguments_from i t)) ≡ true
IsFound p x t i n Absent = occurs x (row (arguments_from i t)) ≡ false
IsFound p x t i n (Compound w k m) = Holds p w × IsLook x (meaning p w) (look.Compound m) × (arity (p.term w) ≡ m) × (k ≤ n)
    × (occurs x (row (arguments_from i t)) ≡ occurs x (row (meaning p w ∷ arguments_from k t)))
