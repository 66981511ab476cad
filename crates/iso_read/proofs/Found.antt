-- The operators that are found by their names.
use Rattle.std.proofs.Common.{◌≡◌, ℕ, List, Option, Some, None, option_map, refl, ap, sym, ◌∙◌}
use Rattle.iso_ops.specs.declared.specifiers.Spec.{Spec}
use Rattle.iso_ops.specs.declared.specifiers.Kind.{Kind}
use Rattle.iso_ops.specs.Operators.{Operator, operator, find_op, priority_and_spec}
use Rattle.iso_model.proofs.Syntax.MarkLemmas.{found_name}
use Rattle.iso_read.specs.Views.{named_so}

found_by : (kind : Kind) (name : List ℕ) (table : List Operator) (o : Option Operator) → find_op kind name table ≡ o → option_map (named_so name) (option_map priority_and_spec o) ≡ o
found_by kind name table None is = refl
found_by kind name table (Some o) is = let same = found_name kind name table o is in ap (λ (n : List ℕ). Some (operator o.priority o.spec n)) (sym same)

-- the operator with the priority and the specifier that were found, and the name that was looked for
pub found : (kind : Kind) (name : List ℕ) (table : List Operator) → option_map (named_so name) (option_map priority_and_spec (find_op kind name table)) ≡ find_op kind name table
found kind name table = found_by kind name table (find_op kind name table) refl

-- the same of what an entry is said to be
pub found_at : (kind : Kind) (name : List ℕ) (table : List Operator) (x : Option (ℕ × Spec)) → x ≡ option_map priority_and_spec (find_op kind name table) → find_op kind name table ≡ option_map (named_so name) x
found_at kind name table x is = sym (found kind name table) ∙ ap (option_map (named_so name)) (sym is)
