-- What stands before the next piece, and the text of the pieces behind it.
use Rattle.std.specs.Prelude.{ℕ, List, [], ◌∷◌, ◌++◌, Bool, true, false, ◌||◌, slice_index, if◌then◌else◌}
use Rattle.iso_model.specs.Syntax.Pieces.{Piece, last_byte, run_together, pieces_behind}
use Rattle.iso_write.specs.declared.edges.Edge.{Edge}

-- behind a piece of this text
abbrev pub edge_behind : List ℕ → Edge
edge_behind text = record { last = last_byte text; gap = false }

-- where no piece stands before
abbrev pub start : Edge
start = edge_behind []

-- with a space before the next piece
abbrev pub with_gap : Edge → Edge
with_gap e = record { last = e.last; gap = true }

-- whether a space stands before a piece that begins with this byte
abbrev pub parts : Edge → ℕ → Bool
parts e first = e.gap || run_together e.last first

-- the text of pieces
abbrev pub behind : Edge → List Piece → List ℕ
behind e [] = []
behind e (p ∷ ps) = (if p.spaced || parts e (slice_index p.text 0) then 32 ∷ p.text else p.text) ++ pieces_behind p.text ps
