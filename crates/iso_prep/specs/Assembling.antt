-- Clauses and goals put together from parts that were checked.
use Rattle.std.specs.Prelude.{◌≡◌, ◌<◌, ◌^◌, ℕ, ℤ, List, length, true, false, Option, Some, None, Result, Ok, Err, option_map, is_some, codes}
use Rattle.std.specs.Borrow.{Bor}
use Rattle.iso_model.specs.declared.terms.Term.{Term}
use Rattle.iso_model.specs.Terms.Trees.{Tree, Variable, Integer, Name}
use Rattle.iso_model.specs.Terms.TermOf.{term_of}
use Rattle.iso_model.specs.Terms.Substitutions.{apply}
use Rattle.iso_model.specs.Search.Bodies.{converted}
use Rattle.iso_model.specs.Search.Databases.{key_of}
use Rattle.iso_prep.specs.declared.fault.Fault.{Fault}
use Rattle.iso_prep.specs.declared.fault.Fault.TheVariants as fault
use Rattle.iso_prep.specs.Preparations.{Preparation}
use Rattle.iso_prep.specs.Conversions.{is_callable, numbers, body_from, IsConverted}

-- the body that is given; a fact's is `true`
abbrev pub given : Option (Bor Term) → Tree
given (Some b) = term_of b.now
given None = Name (codes "true")

-- what a head, a body as a term and a number of variables are
abbrev pub preparation_of : Option Tree → Tree → ℕ → Preparation
preparation_of h t n = record { head = h; body = body_from (converted t); variables = n }

-- The body's term is converted, and there are no more variables than fit into memory.
pub record IsMade (t : Tree) (n : ℕ) : Type 0 where
  pub body : IsConverted t
  pub few : n < 2 ^ 60

-- with the variables by their places
abbrev pub assembly : List ℕ → Option Tree → Tree → Preparation
assembly vs h t = preparation_of (option_map (apply (numbers vs)) h) (apply (numbers vs) t) (length vs)

-- The head can be called, or this is why not.
abbrev pub ChecksHead : Tree → Result Unit Fault → Type 0
ChecksHead h (Ok u) = is_some (key_of h) ≡ true
ChecksHead h (Err fault.Instantiation) = (n : ℕ) × (h ≡ Variable n)
ChecksHead h (Err (fault.Callable culprit)) = (z : ℤ) × (h ≡ Integer z) × (term_of culprit ≡ h)
ChecksHead h (Err fault.TooManyVariables) = ⊥
ChecksHead h (Err fault.NoMemory) = ⊥

-- The body can be converted, or it can't be called.
abbrev pub ChecksBody : Tree → Result Unit Fault → Type 0
ChecksBody t (Ok u) = is_callable t ≡ true
ChecksBody t (Err (fault.Callable culprit)) = (is_callable t ≡ false) × (term_of culprit ≡ t)
ChecksBody t (Err fault.NoMemory) = Unit {0}
ChecksBody t (Err fault.Instantiation) = ⊥
ChecksBody t (Err fault.TooManyVariables) = ⊥
