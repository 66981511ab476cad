-- Worked terms: what they are written as, quoted. A literal stands for its bytes, by `codes`.
use Rattle.std.specs.Prelude.{◌≡◌, ℕ, List, [], ◌∷◌, ◌++◌, pos, neg_ℤ, codes}
use Rattle.iso_ops.specs.declared.specifiers.Spec.TheVariants.{Fy}
use Rattle.iso_ops.specs.Operators.{Operator, operator}
use Rattle.iso_ops.specs.InitialOperators.{initial_entries}
use Rattle.iso_model.specs.Terms.Trees.{Tree, Variable, Integer, Name, Apply, row}
use Rattle.iso_model.specs.Terms.Variables.{variables}
use Rattle.iso_model.specs.Search.Bodies.{one, two}
use Rattle.iso_model.specs.Syntax.Pieces.{Write, Writeq, Canonical, text_at}
use Rattle.iso_model.specs.Worked.Runs.{number}
use Rattle.iso_model.specs.Worked.Texts.{atom}

-- The text of this term under the operators before any is set, quoted, as a whole.
abbrev pub IsText : Tree → List ℕ → Type 0
IsText t text = text_at Writeq initial_entries [] 1200 t ≡ text

-- Signs: a space where two tokens would run together or a literal would be read, and brackets round an operand of too
-- high a priority.
abbrev pub TextsWithSigns : Type 0
TextsWithSigns =
    IsText (one (codes "-") (one (codes "-") (atom (codes "a")))) (codes "- -a")
    × IsText (two (codes "^") (one (codes "-") (atom (codes "a"))) (number 2)) (codes "(-a)^2")
    × IsText (two (codes "^") (one (codes "-") (number 2)) (number 2)) (codes "(- 2)^2")
    × IsText (two (codes "^") (Integer (neg_ℤ (pos 2))) (number 2)) (codes "-2^2")
    × IsText (two (codes "-") (number 1) (two (codes "-") (number 2) (number 3))) (codes "1-(2-3)")
    × IsText (one (codes "-") (Integer (neg_ℤ (pos 1)))) (codes "- -1")
    × IsText (two (codes "-") (number 1) (Integer (neg_ℤ (pos 1)))) (codes "1- -1")

-- Brackets: round an operand of too high a priority, and round an operator that is an operand.
abbrev pub TextsWithBrackets : Type 0
TextsWithBrackets =
    IsText (one (codes "\\+") (two (codes ",") (atom (codes "a")) (atom (codes "b")))) (codes "\\+ (a,b)")
    × IsText (two (codes "=") (atom (codes "-")) (atom (codes "x"))) (codes "(-)=x")
    × IsText (one (codes "f") (atom (codes "-"))) (codes "f(-)")
    × IsText (two (codes "=") (number 1) (atom (codes "*"))) (codes "1=(*)")
    × IsText (two (codes "=") (atom (codes "a")) (one (codes "\\") (atom (codes "b")))) (codes "a= \\b")
    × IsText (two (codes "=") (atom (codes "a")) (one (codes "\\+") (atom (codes "b")))) (codes "a=(\\+b)")
    × IsText (one (codes "f") (two (codes ":-") (atom (codes "a")) (atom (codes "b")))) (codes "f((a:-b))")

-- Braces, operators that are words, lists, and a clause.
abbrev pub TextsWithWords : Type 0
TextsWithWords =
    IsText (one (codes "{}") (two (codes ",") (atom (codes "a")) (atom (codes "b")))) (codes "{a,b}")
    × IsText (two (codes "is") (atom (codes "a")) (two (codes "rem") (number 1) (number 2))) (codes "a is 1 rem 2")
    × IsText (one (codes "dynamic") (atom (codes "a"))) (codes "dynamic a")
    × IsText (two (codes ".") (atom (codes "a")) (two (codes ".") (atom (codes "B")) (atom (codes "c")))) (codes "[a,'B'|c]")
    × IsText (two (codes ".") (atom (codes "a")) (two (codes ":-") (atom (codes "b")) (atom (codes "c")))) (codes "[a|(b:-c)]")
    × IsText (two (codes ":-") (atom (codes "a")) (two (codes ";") (two (codes ",") (atom (codes "b")) (atom (codes "c"))) (two (codes "->") (atom (codes "d")) (atom (codes "e"))))) (codes "a:-b,c;d->e")

-- An operator that was added: `neg`, which may take an operand of its own priority, stands in brackets on the left of
-- `+`.
abbrev pub with_neg : List Operator
with_neg = initial_entries ++ operator 500 Fy (codes "neg") ∷ []

abbrev pub TextsWithAnOperator : Type 0
TextsWithAnOperator =
    (text_at Writeq with_neg [] 1200 (two (codes "+") (one (codes "neg") (atom (codes "a"))) (atom (codes "b"))) ≡ codes "(neg a)+b")
    × (text_at Writeq with_neg [] 1200 (one (codes "neg") (two (codes "+") (atom (codes "a")) (atom (codes "b")))) ≡ codes "neg a+b")

-- The canonical text of this term under the operators before any is set, as a whole, where its line has its variables
-- alone.
abbrev pub IsCanonicalText : Tree → List ℕ → Type 0
IsCanonicalText t text = text_at Canonical initial_entries (variables t) 1200 t ≡ text

-- The canonical style (8.14.2): an integer below 0; an atom that stands in quotes; f(X, g(a, 1), Y, X), where X is
-- variable 3 and Y variable 0: they are `_k` by first occurrence (own); and an operator's name and a list, which are
-- written as a compound and as a list.
abbrev pub CanonicalTexts : Type 0
CanonicalTexts =
    IsCanonicalText (Integer (neg_ℤ (pos 5))) (codes "-5") × IsCanonicalText (Name (codes "it's")) (codes "'it\\'s'")
    × IsCanonicalText (Apply (codes "f") (row (Variable 3 ∷ two (codes "g") (atom (codes "a")) (number 1) ∷ Variable 0 ∷ Variable 3 ∷ []))) (codes "f(_1,g(a,1),_2,_1)")
    × IsCanonicalText (two (codes "-") (number 1) (two (codes ".") (atom (codes "a")) (atom (codes "b")))) (codes "-(1,[a|b])")

-- The text of this term under the operators before any is set, without quotes, as a whole.
abbrev pub IsUnquotedText : Tree → List ℕ → Type 0
IsUnquotedText t text = text_at Write initial_entries [] 1200 t ≡ text

-- The style without quotes (8.14.2): an empty name has no character, so the space behind a prefix operator goes by
-- what follows the name.
abbrev pub UnquotedTexts : Type 0
UnquotedTexts =
    IsUnquotedText (two (codes "f") (atom (codes "A b")) (atom (codes "it's"))) (codes "f(A b,it's)")
    × IsUnquotedText (one (codes "-") (one [] (atom (codes "a")))) (codes "- (a)")
    × IsUnquotedText (one (codes "-") (two (codes "^") (atom []) (number 1))) (codes "-^1")
    × IsUnquotedText (one (codes "-") (atom [])) (codes "-")

-- `'$VAR'(N)`
abbrev pub var : Tree → Tree
var t = one (codes "$VAR") t

-- Numbered variables (7.10.5): the letters come again with a number from 26 on, whatever operator `$VAR` is; only an
-- integer of at least 0 numbers one, and the canonical style writes none.
abbrev pub TextsOfNumberedVariables : Type 0
TextsOfNumberedVariables =
    IsText (var (number 0)) (codes "A")
    × IsText (var (number 25)) (codes "Z")
    × IsText (var (number 27)) (codes "B1")
    × IsText (two (codes "rem") (one (codes "-") (var (number 1))) (var (number 260))) (codes "-B rem A10")
    × IsText (var (Integer (neg_ℤ (pos 1)))) (codes "'$VAR'(-1)")
    × IsText (var (var (atom (codes "a")))) (codes "'$VAR'('$VAR'(a))")
    × IsUnquotedText (var (number 51)) (codes "Z1")
    × IsCanonicalText (var (number 1)) (codes "'$VAR'(1)")
    × (text_at Writeq (operator 200 Fy (codes "$VAR") ∷ initial_entries) [] 1200 (var (number 2)) ≡ codes "C")
