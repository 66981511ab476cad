-- How many cells calls take at most (own).
use Rattle.std.specs.Prelude.{ℕ, ◌+◌, List, [], ◌∷◌, Option, Some, None, is_some, if◌then◌else◌}
use Rattle.iso_model.specs.Terms.Trees.{Tree, Variable, Apply, End, More}
use Rattle.iso_model.specs.Terms.Arguments.{argument, arguments, others, with_arguments}
use Rattle.iso_model.specs.Terms.Sizes.{size}
use Rattle.iso_model.specs.Search.Bodies.{Body, body_term, converted}
use Rattle.iso_model.specs.Search.BuiltIns.{Reply, Equates, EquatesCopy, Calls, CallsOnce, Refutes, Catches, Gathers}
use Rattle.iso_store_core.specs.Copying.{cells_of}
use Rattle.iso_prep.specs.Connectives.{connective_of}
use Rattle.iso_lib.specs.declared.settings.Constant.{Constant}
use Rattle.iso_lib.specs.Settlements.{constant_tree}
use Rattle.iso_search_core.specs.declared.offers.OfferedRow.{OfferedRow}
use Rattle.iso_search_core.specs.declared.offers.OfferedRow.TheVariants as offered

-- ---- goals that are converted

-- all of a term but its variables: a compound takes one more than it has arguments
abbrev pub term_cells : Tree → ℕ
term_cells t = cells_of 0 (λ n. n + 1) t

-- a variable that is a goal becomes call/1 of it
abbrev pub leaf_cells : Tree → ℕ
leaf_cells (Variable n) = 2
leaf_cells t = 0

-- so each of the term's parts through its control constructs
abbrev pub conversion_cells : Tree → ℕ
conversion_cells (Apply f (More a (More b End))) = if is_some (connective_of f) then conversion_cells a + conversion_cells b else 0
conversion_cells t = leaf_cells t

-- ---- goals that are called

-- what a goal counts that is run: the size of its converted body, where it has one
abbrev pub body_cells : Option Body → ℕ
body_cells (Some b) = size (body_term b)
body_cells None = 0

-- an unbound goal is an error, as one that can't be converted
abbrev pub goal_cells : Tree → ℕ
goal_cells (Variable n) = 0
goal_cells t = body_cells (converted t)

-- The term is no variable.
abbrev pub IsBound : Tree → Type 0
IsBound (Variable n) = ⊥
IsBound t = Unit {0}

-- the goal that a goal of `call/N`, `once/1` or `\+ /1` is for
abbrev pub called_of : Tree → Tree
called_of t = with_arguments (argument 0 t) (others (arguments t))

-- ---- goals of built-ins

-- what the reply counts: what is made for an equation, a copy and what it is unified with, or the goal that is run
abbrev pub reply_cells : Reply → ℕ
reply_cells (Equates made a b) = made
reply_cells (EquatesCopy a b) = 1 + size b
reply_cells (Calls b) = size (body_term b)
reply_cells (CallsOnce b) = size (body_term b)
reply_cells (Refutes b) = size (body_term b)
reply_cells (Gathers template b result) = size (body_term b)
reply_cells (Catches inside catcher recovery) = reply_cells inside
reply_cells reply = 0

-- ---- rows that are offered

-- the constants of a row
abbrev pub constants_cells : List Constant → ℕ
constants_cells [] = 0
constants_cells (c ∷ cs) = term_cells (constant_tree c) + constants_cells cs

-- parts of atoms have short integers alone
abbrev pub row_cells : OfferedRow → ℕ
row_cells (offered.Constants offer) = constants_cells offer.constants.items
row_cells (offered.Part part) = 0
