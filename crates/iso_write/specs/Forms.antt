-- What a form in which a term is written is, among the definition's parts.
use Rattle.std.specs.Prelude.{Bool, false, ℕ, List, [], ◌∷◌, ◌++◌, map, codes, Option, Some, None}
use Rattle.std.specs.Str.{bytes_eq}
use Rattle.std.specs.Fmt.{signed_decimal}
use Rattle.iso_ops.specs.Operators as ops
use Rattle.iso_model.specs.Terms.Trees.{Tree}
use Rattle.iso_model.specs.Terms.Trees as trees
use Rattle.iso_model.specs.Terms.TermOf.{term_of}
use Rattle.iso_model.specs.Syntax.Texts.{variable_text, numbered_variable}
use Rattle.iso_model.specs.Syntax.Pieces as pieces
use Rattle.iso_write.specs.declared.forms.Operator.{Operator}
use Rattle.iso_write.specs.declared.forms.Form.{Form}
use Rattle.iso_write.specs.declared.forms.Form.TheVariants.{Variable, NumberedVariable, Integer, Atom, List as Cell, Braces, Prefix, Infix, Postfix, Compound}

abbrev pub operator_of : Operator → ops.Operator
operator_of o = record { priority = o.priority; spec = o.spec; name = o.name.now }

module _ (style : pieces.Style) (table : List ops.Operator) (seen : List ℕ) where
  abbrev pub written : Tree → pieces.Written
  written = pieces.term_written style table seen

  -- a name, with these arguments in brackets where there are some
  abbrev pub arguments_written : List ℕ → List Tree → pieces.Written
  arguments_written name [] = pieces.simple (pieces.piece (pieces.name_bytes style name) ∷ [])
  arguments_written name (t ∷ ts) = pieces.compound_written style table seen name (pieces.at_most 999 (written t) ++ (written (trees.row ts)).others)

  -- what is written in a form
  abbrev pub form_written : Form → pieces.Written
  form_written (Variable n) = pieces.simple (pieces.piece (variable_text seen n) ∷ [])
  form_written (NumberedVariable n) = pieces.simple (pieces.piece (numbered_variable n) ∷ [])
  form_written (Integer z) = pieces.simple (pieces.piece (signed_decimal z) ∷ [])
  form_written (Atom name) = pieces.atom_written style table seen name.now
  form_written (Cell first rest) = pieces.list_written style table seen (written (term_of first.now)) (written (term_of rest.now))
  form_written (Braces t) = pieces.simple (pieces.piece (codes "{") ∷ (pieces.at_most 1200 (written (term_of t.now)) ++ pieces.piece (codes "}") ∷ []))
  form_written (Prefix o t) = pieces.made_by (operator_of o) (pieces.prefix_pieces style table seen (operator_of o) (written (term_of t.now)))
  form_written (Infix o l r) = pieces.made_by (operator_of o) (pieces.infix_pieces style table seen (operator_of o) (written (term_of l.now)) (written (term_of r.now)))
  form_written (Postfix o t) = pieces.made_by (operator_of o) (pieces.postfix_pieces style table seen (operator_of o) (written (term_of t.now)))
  form_written (Compound name ts) = arguments_written name.now (map term_of ts.now)

  -- what is written in a form, or this where there is none
  abbrev pub form_or : pieces.Written → Option Form → pieces.Written
  form_or w None = w
  form_or w (Some form) = form_written form

-- the operator that made it
abbrev pub form_operator : Form → Option ops.Operator
form_operator (Prefix o t) = Some (operator_of o)
form_operator (Infix o l r) = Some (operator_of o)
form_operator (Postfix o t) = Some (operator_of o)
form_operator f = None

-- the empty list
abbrev pub is_nil : Form → Bool
is_nil (Atom name) = bytes_eq name.now (codes "[]")
is_nil f = false
