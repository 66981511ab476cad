-- The first byte of a text, where it has one.
use Rattle.std.specs.Prelude.{ℕ, List, Option, Some, slice_get, if◌then◌else◌, codes}
use Rattle.std.specs.Option.{option_or}
use Rattle.std.specs.Str.{bytes_eq}
use Rattle.iso_ops.specs.Operators as ops
use Rattle.iso_model.specs.Terms.TermOf.{term_of}
use Rattle.iso_model.specs.Syntax.Pieces.{Style, Piece, pieces_text, is_symbolic, name_bytes}
use Rattle.iso_write.specs.declared.leads.Front.{Front}
use Rattle.iso_write.specs.declared.leads.Front.TheVariants.{Byte, Left}
use Rattle.iso_write.specs.declared.tasks.Place.TheVariants as place
use Rattle.iso_write.specs.Forms.{written}
use Rattle.iso_write.specs.Tasks.{placed, load}

-- of the text of these pieces
abbrev pub lead : List Piece → Option ℕ
lead ps = slice_get (pieces_text ps) 0

-- of what stands behind the operand of a postfix operator of this name, and of an infix operator's left one
abbrev pub postfix_lead : Style → List ℕ → Option ℕ
postfix_lead style name = if is_symbolic name then slice_get (name_bytes style name) 0 else Some 32

abbrev pub infix_lead : Style → List ℕ → Option ℕ
infix_lead style name = if bytes_eq name (codes ",") then Some 44 else postfix_lead style name

module _ (style : Style) (table : List ops.Operator) (seen : List ℕ) where
  -- of a text that begins so
  abbrev pub front_lead : Front → Option ℕ
  front_lead (Byte byte) = byte
  front_lead (Left o t next) = option_or (lead (placed (place.Left o) (written style table seen (term_of t.now)))) next

-- how much there is to go through
abbrev pub front_load : Front → ℕ
front_load (Byte byte) = 0
front_load (Left o t next) = load (term_of t.now)
