-- Specifiers of operators (ISO/IEC 13211-1:1995, 6.3.4.1).
use Rattle.std.specs.Prelude.{ℕ, ◌-◌, Bool, true, false, if◌then◌else◌, List, [], ◌∷◌, Option, codes}
use Rattle.std.specs.List.{find}
use Rattle.std.specs.Str.{bytes_eq}
use Rattle.iso_ops.specs.declared.specifiers.Spec.{Spec}
use Rattle.iso_ops.specs.declared.specifiers.Spec.TheVariants.{Xfx, Xfy, Yfx, Fx, Fy, Xf, Yf}
use Rattle.iso_ops.specs.declared.specifiers.Kind.{Kind}
use Rattle.iso_ops.specs.declared.specifiers.Kind.TheVariants.{Prefix, Infix, Postfix}

-- how a specifier is written
abbrev pub spec_text : Spec → List ℕ
spec_text Xfx = codes "xfx"
spec_text Xfy = codes "xfy"
spec_text Yfx = codes "yfx"
spec_text Fx = codes "fx"
spec_text Fy = codes "fy"
spec_text Xf = codes "xf"
spec_text Yf = codes "yf"

-- the specifier that is written so
abbrev pub spec_named : List ℕ → Option Spec
spec_named text = find (λ spec. bytes_eq text (spec_text spec)) (Xfx ∷ Xfy ∷ Yfx ∷ Fx ∷ Fy ∷ Xf ∷ Yf ∷ [])

-- where an operator of the specifier stands
abbrev pub kind_of : Spec → Kind
kind_of Xfx = Infix
kind_of Xfy = Infix
kind_of Yfx = Infix
kind_of Fx = Prefix
kind_of Fy = Prefix
kind_of Xf = Postfix
kind_of Yf = Postfix

abbrev pub same_kind : Kind → Kind → Bool
same_kind Prefix Prefix = true
same_kind Infix Infix = true
same_kind Postfix Postfix = true
same_kind _ _ = false

-- whether an operator takes a left operand of its own priority (6.3.4, table 4)
abbrev pub takes_equal : Spec → Bool
takes_equal Yfx = true
takes_equal Yf = true
takes_equal _ = false

-- whether an operator takes a right operand of its own priority
abbrev pub is_right_open : Spec → Bool
is_right_open Xfy = true
is_right_open Fy = true
is_right_open _ = false

-- the greatest priority of the left operand of an operator of this specifier and priority
abbrev pub left_priority : Spec → ℕ → ℕ
left_priority spec priority = if takes_equal spec then priority else priority - 1

-- the greatest priority of its right operand
abbrev pub right_priority : Spec → ℕ → ℕ
right_priority spec priority = if is_right_open spec then priority else priority - 1
