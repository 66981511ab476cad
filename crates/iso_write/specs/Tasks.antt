-- The pieces that tasks stand for, last first.
use Rattle.std.specs.Prelude.{ℕ, ◌+◌, List, [], ◌∷◌, ◌++◌, Bool, not, ◌&&◌, ◌||◌, ◌==◌, nat_lt, codes}
use Rattle.std.specs.Fmt.{signed_decimal}
use Rattle.std.specs.Str.{bytes_eq}
use Rattle.iso_ops.specs.Operators as ops
use Rattle.iso_model.specs.Terms.Trees.{Tree}
use Rattle.iso_model.specs.Terms.Trees as trees
use Rattle.iso_model.specs.Terms.TermOf.{term_of, row_of}
use Rattle.iso_model.specs.Syntax.Texts.{variable_text, numbered_variable}
use Rattle.iso_model.specs.Syntax.Operators.{left_of, right_of}
use Rattle.iso_ops.specs.Specifiers.{takes_equal}
use Rattle.iso_model.specs.Syntax.Pieces as pieces
use Rattle.iso_write.specs.declared.forms.Form.{Form}
use Rattle.iso_write.specs.declared.forms.Form.TheVariants as form
use Rattle.iso_write.specs.declared.tasks.Place.{Place}
use Rattle.iso_write.specs.declared.tasks.Place.TheVariants.{Whole, Left, Right}
use Rattle.iso_write.specs.declared.tasks.Task.{Task}
use Rattle.iso_write.specs.declared.tasks.Task.TheVariants.{Mark, Name, Variable, NumberedVariable, Integer, Gap, Placed, Bare, Tail, Others}
use Rattle.iso_write.specs.Forms.{operator_of, written}

-- what is written of a term in a place
abbrev pub placed : Place → pieces.Written → List pieces.Piece
placed (Whole most) w = pieces.at_most most w
placed (Left o) w = pieces.left_operand (operator_of o) w
placed (Right o) w = pieces.operand_at (right_of (operator_of o)) w

-- whether the term stands in brackets there
abbrev pub needs_brackets : Place → pieces.Written → Bool
needs_brackets (Whole most) w = nat_lt most w.priority
needs_brackets (Left o) w = (w.is_open && (w.priority == o.priority && takes_equal o.spec)) || (w.is_operator || nat_lt (left_of (operator_of o)) w.priority)
needs_brackets (Right o) w = w.is_operator || nat_lt (right_of (operator_of o)) w.priority

-- whether a space stands between a prefix operator and its operand
abbrev pub stands_apart : ops.Operator → pieces.Written → Bool
stands_apart o w =
    let right = pieces.operand_at (right_of o) w in
    not (pieces.is_symbolic o.name) || (pieces.begins_open right || (bytes_eq o.name (codes "-") && pieces.begins_digit right))

module _ (style : pieces.Style) (table : List ops.Operator) (seen : List ℕ) where
  -- the pieces of a task, before these
  abbrev pub with_task : Task → List pieces.Piece → List pieces.Piece
  with_task (Mark text) after = pieces.piece text.now ∷ after
  with_task (Name name) after = pieces.piece (pieces.name_bytes style name.now) ∷ after
  with_task (Variable n) after = pieces.piece (variable_text seen n) ∷ after
  with_task (NumberedVariable n) after = pieces.piece (numbered_variable n) ∷ after
  with_task (Integer z) after = pieces.piece (signed_decimal z) ∷ after
  with_task Gap after = pieces.after_space after
  with_task (Placed t place) after = placed place (written style table seen (term_of t.now)) ++ after
  with_task (Bare t) after = (written style table seen (term_of t.now)).bare ++ after
  with_task (Tail t) after = (written style table seen (term_of t.now)).tail ++ after
  with_task (Others ts) after = (written style table seen (row_of ts.now)).others ++ after

  -- the pieces of tasks, the last of which comes first, before these
  abbrev pub with_tasks : List pieces.Piece → List Task → List pieces.Piece
  with_tasks after [] = after
  with_tasks after (t ∷ ts) = with_tasks (with_task t after) ts

  abbrev pub pieces_of : List Task → List pieces.Piece
  pieces_of ts = with_tasks [] ts

-- How much there is to do at most: each task adds less than the one that it comes from.
abbrev pub load : Tree → ℕ
load (trees.Variable n) = 2
load (trees.Integer z) = 2
load (trees.Name a) = 2
load (trees.Apply f ts) = 8 + load ts
load trees.End = 0
load (trees.More t ts) = 8 + load t + load ts

abbrev pub form_load : Form → ℕ
form_load (form.Variable n) = 2
form_load (form.NumberedVariable n) = 18
form_load (form.Integer z) = 2
form_load (form.Atom name) = 2
form_load (form.List first rest) = 24 + load (term_of first.now) + load (term_of rest.now)
form_load (form.Braces t) = 16 + load (term_of t.now)
form_load (form.Prefix o t) = 16 + load (term_of t.now)
form_load (form.Infix o l r) = 24 + load (term_of l.now) + load (term_of r.now)
form_load (form.Postfix o t) = 16 + load (term_of t.now)
form_load (form.Compound name ts) = 8 + load (row_of ts.now)

abbrev pub task_load : Task → ℕ
task_load (Mark text) = 1
task_load (Name name) = 1
task_load (Variable n) = 1
task_load (NumberedVariable n) = 1
task_load (Integer z) = 1
task_load Gap = 1
task_load (Placed t place) = 3 + load (term_of t.now)
task_load (Bare t) = load (term_of t.now)
task_load (Tail t) = 7 + load (term_of t.now)
task_load (Others ts) = 1 + load (row_of ts.now)

abbrev pub tasks_load : List Task → ℕ
tasks_load [] = 0
tasks_load (t ∷ ts) = task_load t + tasks_load ts
