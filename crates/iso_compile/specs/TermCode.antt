-- The code of terms.
use Rattle.std.specs.Prelude.{ℕ, ◌+◌, List, [], ◌∷◌, ◌++◌}
use Rattle.iso_model.specs.Terms.Trees.{Tree, Variable, Integer, Name, Apply, More}
use Rattle.iso_compile.specs.Table.{Part, Place, Number, Atom, Inner, Block}

-- how many of the members are compounds
abbrev pub tops : Tree → ℕ
tops (Apply f ts) = 1
tops (More t ts) = tops t + tops ts
tops t = 0

-- how many compounds are deeper in them
abbrev pub deep : Tree → ℕ
deep (Apply f ts) = tops ts + deep ts
deep (More t ts) = deep t + deep ts
deep t = 0

-- the part of a term, in this register where it is a compound
abbrev pub part : ℕ → Tree → Part
part r (Variable x) = Place x
part r (Integer z) = Number z
part r (Name a) = Atom a
part r t = Inner r

-- the parts of a list of terms, whose compounds are in the registers from r on
abbrev pub parts : ℕ → Tree → List Part
parts r (More t ts) = part r t ∷ parts (r + tops t) ts
parts r t = []

-- The blocks of the compounds among these terms, which are in the registers from r on; those that are deeper in them
-- get the registers from m on.
abbrev pub blocks : ℕ → ℕ → Tree → List Block
blocks r m (Apply f ts) = record { register = r; name = f; parts = parts m ts; inner = tops ts + deep ts } ∷ blocks m (m + tops ts) ts
blocks r m (More t ts) = blocks r m t ++ blocks (r + tops t) (m + deep t) ts
blocks r m t = []
