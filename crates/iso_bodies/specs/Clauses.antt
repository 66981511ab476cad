-- What the code of a clause is once it is loaded.
use Rattle.std.specs.Prelude.{◌≡◌, ◌<◌, ◌++◌, ℕ, List, Some, map, Bool, true, false}
use Rattle.std.specs.List.{All, AllZip, slice_get}
use Rattle.iso_model.specs.Search.Keys.{key, key_of}
use Rattle.iso_model.specs.Terms.Trees.{Tree, count}
use Rattle.iso_alloc.specs.Plans.{arguments_of}
use Rattle.iso_compile.specs.declared.clauses.Code as compiled
use Rattle.iso_code.specs.declared.operands.Head.{Head}
use Rattle.iso_code.specs.declared.operands.Operand.{Operand}
use Rattle.iso_code.specs.declared.operands.Operand.TheVariants as operand
use Rattle.iso_code.specs.Loaded.{operand_got, all_operands, AreMarked, met_behind}
use Rattle.iso_code.specs.Loading.{IsLoadedHead}
use Rattle.iso_instructions.specs.declared.instructions.Code.{Code}
use Rattle.iso_bodies.specs.Instructions.{IsLoadedInstruction}

-- the operands of a head, in the order in which its code meets them
abbrev pub head_operands : Head → List Operand
head_operands head = map operand_got head.gets.items ++ all_operands head.blocks.items

-- before a clause is entered none of its variables was met
abbrev pub none_met : ℕ → Bool
none_met x = false

-- it is a variable of a number below this one, for the first time
abbrev pub IsNewBelow : ℕ → Operand → Type 0
IsNewBelow count (operand.New x) = x < count
IsNewBelow count o = ⊥

-- These are the variables, of so many, that the head doesn't meet.
-- - new: each is new, and is one of so many.
-- - marked: each is new behind the head.
-- - whole: behind the head and them each variable was met.
pub record IsFresh (head : Head) (count : ℕ) (fresh : List Operand) : Type 0 where
  pub new : All (IsNewBelow count) fresh
  pub marked : AreMarked (met_behind none_met (head_operands head)) fresh
  pub whole : (x : ℕ) → x < count → met_behind none_met (head_operands head ++ fresh) x ≡ true

-- The atom is that of the head's name, where these are the names of the atoms.
pub record IsNameOf (names : List (List ℕ)) (name : ℕ) (head : Tree) : Type 0 where
  pub text : List ℕ
  pub named : slice_get names name ≡ Some text
  pub key : key_of head ≡ Some (key text (count (arguments_of (Some head))))

-- The code is that of the clause that was compiled, where these are the names of the atoms, compounds have the
-- registers from low on, the head has so many arguments, and the clause so many variables.
pub record IsLoadedCode (names : List (List ℕ)) (low arity count : ℕ) (c : compiled.Code) (l : Code) : Type 0 where
  pub head : IsLoadedHead names low arity c.gets.items c.blocks.items l.head
  pub variables : l.variables ≡ count
  pub fresh : IsFresh l.head count l.fresh.items
  pub body : AllZip (IsLoadedInstruction names low) c.body.items l.body.items
