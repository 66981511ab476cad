-- Error terms (ISO/IEC 13211-1:1995, 7.12.2); the second argument is the indicator of the procedure that raised it
-- (own).
use Rattle.std.specs.Prelude.{ℕ, List, codes, pos}
use Rattle.iso_model.specs.Terms.Trees.{Tree, Integer, Name, Apply, End, More}
use Rattle.iso_model.specs.Search.Bodies.{one, two}
pub use Rattle.iso_model.specs.Search.Keys.{Key, key}

-- Name/Arity
abbrev pub indicator : Key → Tree
indicator k = two (codes "/") (Name k.name) (Integer (pos k.arity))

abbrev pub raised : Tree → Key → Tree
raised what k = two (codes "error") what (indicator k)

abbrev pub instantiation_error : Key → Tree
instantiation_error k = raised (Name (codes "instantiation_error")) k

-- the culprit is not of this type
abbrev pub type_error : List ℕ → Tree → Key → Tree
type_error type culprit k = raised (two (codes "type_error") (Name type) culprit) k

abbrev pub type_error_callable : Tree → Key → Tree
type_error_callable culprit k = type_error (codes "callable") culprit k

-- the culprit is of the type, but is none of its values that may stand there
abbrev pub domain_error : List ℕ → Tree → Key → Tree
domain_error domain culprit k = raised (two (codes "domain_error") (Name domain) culprit) k

-- an unknown procedure is named by the error, and raises it itself
abbrev pub existence_error : Key → Tree
existence_error k = raised (two (codes "existence_error") (Name (codes "procedure")) (indicator k)) k

-- this operation on the culprit, which is of this type, is not permitted
abbrev pub not_permitted : List ℕ → List ℕ → Tree → Key → Tree
not_permitted operation type culprit k = raised (Apply (codes "permission_error") (More (Name operation) (More (Name type) (More culprit End)))) k

-- clauses may not be added to this procedure
abbrev pub permission_error : Key → Key → Tree
permission_error culprit k = not_permitted (codes "modify") (codes "static_procedure") (indicator culprit) k

abbrev pub max_variables_error : Key → Tree
max_variables_error k = raised (one (codes "representation_error") (Name (codes "max_variables"))) k

-- a goal would have more than 255 arguments
abbrev pub max_arity_error : Key → Tree
max_arity_error k = raised (one (codes "representation_error") (Name (codes "max_arity"))) k
