-- The operators before any is set (6.3.4.4), in the order of `current_op/3`. The ones marked own aren't the standard's.
use Rattle.std.specs.Prelude.{ℕ, List, [], ◌∷◌, ◌++◌, map, codes}
use Rattle.iso_ops.specs.declared.specifiers.Spec.{Spec}
use Rattle.iso_ops.specs.declared.specifiers.Spec.TheVariants.{Xfx, Xfy, Yfx, Fx, Fy}
use Rattle.iso_ops.specs.Operators.{Operator, operator}

-- the operators of one priority and specifier with these names
abbrev pub row_of : ℕ → Spec → List (List ℕ) → List Operator
row_of priority spec names = map (operator priority spec) names

unfoldable pub initial_entries : List Operator
initial_entries =
    row_of 1200 Xfx (codes ":-" ∷ codes "-->" ∷ [])
    ++ (row_of 1200 Fx (codes ":-" ∷ codes "?-" ∷ [])
    -- own
    ++ (row_of 1150 Fx (codes "dynamic" ∷ codes "discontiguous" ∷ codes "multifile" ∷ codes "initialization" ∷ [])
    ++ (row_of 1100 Xfy (codes ";" ∷ [])
    ++ (row_of 1050 Xfy (codes "->" ∷ [])
    ++ (row_of 1000 Xfy (codes "," ∷ [])
    ++ (row_of 900 Fy (codes "\\+" ∷ [])
    ++ (row_of 700 Xfx (codes "=" ∷ codes "\\=" ∷ codes "==" ∷ codes "\\==" ∷ codes "@<" ∷ codes "@=<" ∷ codes "@>" ∷ codes "@>=" ∷ codes "=.." ∷ codes "is" ∷ codes "=:=" ∷ codes "=\\=" ∷ codes "<" ∷ codes "=<" ∷ codes ">" ∷ codes ">=" ∷ [])
    ++ (row_of 500 Yfx (codes "+" ∷ codes "-" ∷ codes "/\\" ∷ codes "\\/" ∷ [])
    ++ (row_of 400 Yfx (codes "*" ∷ codes "/" ∷ codes "//" ∷ codes "rem" ∷ codes "mod" ∷ codes "<<" ∷ codes ">>" ∷ [])
    -- own
    ++ (row_of 400 Yfx (codes "div" ∷ [])
    ++ (row_of 200 Xfx (codes "**" ∷ [])
    ++ (row_of 200 Xfy (codes "^" ∷ [])
    ++ row_of 200 Fy (codes "-" ∷ codes "\\" ∷ [])))))))))))))
