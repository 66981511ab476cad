-- Lists as terms (ISO/IEC 13211-1:1995, 6.3.5): an element before a list is a compound of the name `.`, and the empty
-- list the atom `[]`.
use Rattle.std.specs.Prelude.{ℕ, List, [], ◌∷◌, Bool, false, ◌||◌, codes, if◌then◌else◌}
use Rattle.std.specs.Str.{bytes_eq}
use Rattle.iso_model.specs.Terms.Trees.{Tree, Name, Apply, End, More, row}
use Rattle.iso_model.specs.Terms.Types.{is_variable}

-- the names `[]` and `.`
abbrev pub nil : List ℕ
nil = codes "[]"

abbrev pub dot : List ℕ
dot = codes "."

-- the list of these elements before a tail
abbrev pub list_before : List Tree → Tree → Tree
list_before [] tail = tail
list_before (t ∷ ts) tail = Apply dot (row (t ∷ list_before ts tail ∷ []))

abbrev pub list_of : List Tree → Tree
list_of ts = list_before ts (Name nil)

-- whether the term is an element before another term
abbrev pub is_pair : Tree → Bool
is_pair (Apply f (More t (More u End))) = bytes_eq f dot
is_pair t = false

-- the elements that the term begins with, as a list
abbrev pub elements : Tree → List Tree
elements (Apply f (More t (More ts End))) = if bytes_eq f dot then t ∷ elements ts else []
elements t = []

-- what stands behind them
abbrev pub tail : Tree → Tree
tail (Apply f (More t (More ts End))) = if bytes_eq f dot then tail ts else Apply f (More t (More ts End))
tail t = t

abbrev pub is_nil : Tree → Bool
is_nil (Name a) = bytes_eq a nil
is_nil t = false

-- a list ends in the empty list
abbrev pub is_list : Tree → Bool
is_list t = is_nil (tail t)

-- a partial list may also end in a variable (7.1.6.3, where lists are none)
abbrev pub is_partial_list : Tree → Bool
is_partial_list t = is_variable (tail t) || is_nil (tail t)
