-- What entering a clause comes to: its head is met, and variables that need them get cells.
use Rattle.std.specs.Prelude.{◌≡◌, ◌≤◌, ◌<◌, ◌+◌, ◌++◌, ℕ, List, length, map, Bool, true, false, Option, Some, None}
use Rattle.std.specs.List.{All, slice_get}
use Rattle.iso_model.specs.Terms.Trees as trees
use Rattle.iso_model.specs.Terms.Trees.{Tree, Variable, Apply, row}
use Rattle.iso_model.specs.Terms.Sorts.{is_row}
use Rattle.iso_model.specs.Terms.Variables.{occurs}
use Rattle.iso_model.specs.Terms.Substitutions.{Subst, apply}
use Rattle.iso_model.specs.Terms.Unifiers.{Unifier, NeverEqual}
use Rattle.iso_store_core.specs.Heads.{new_head}
use Rattle.iso_store_core.specs.Presents.{Present, Holds, meaning, KeepsWords}
use Rattle.iso_compile.specs.CodeLaws.{MeetsCalls}
use Rattle.iso_code.specs.declared.operands.Head.{Head}
use Rattle.iso_code.specs.declared.operands.Operand.{Operand}
use Rattle.iso_code.specs.Loaded.{get_at, block_at, operand_got, all_operands, IsInside, IsSoundGet, AreSound, AreMarked, met_behind, AreNextGroups}

-- the operands of a head, in the order in which the code meets them
abbrev pub head_operands : Head → List Operand
head_operands head = map operand_got head.gets.items ++ all_operands head.blocks.items

-- The code of a head of so many arguments, these terms, and the variables that get cells behind it, of a clause with so
-- many variables, none of which was met before. Compounds are in the table's registers from low on.
pub record IsEntry (names : List (List ℕ)) (head : Head) (fresh : List Operand) (arity variables low : ℕ) (met : ℕ → Bool) (ts : Tree) : Type 0 where
  pub gets : All (IsSoundGet (length names) arity variables) head.gets.items
  pub blocks : AreSound (length names) arity variables head.compounds head.blocks.items
  pub inside : All (IsInside (length names) variables 0) fresh
  pub meets : MeetsCalls (map (get_at names low) head.gets.items) (map (block_at names low) head.blocks.items) ts
  pub terms : is_row ts ≡ true
  pub many : trees.count ts ≡ arity
  pub apart : arity ≤ low
  pub places : (x : ℕ) → occurs x ts ≡ true → x < variables
  pub none : (x : ℕ) → x < variables → met x ≡ false
  pub marked : AreMarked met (head_operands head ++ fresh)
  pub nexts : AreNextGroups (met_behind met (map operand_got head.gets.items)) head.blocks.items

-- the call of a procedure of this name with what these words stand for
abbrev pub call_of : {W : Type 0} → Present W → List ℕ → List W → Tree
call_of p f arguments = Apply f (row (map (meaning p) arguments))

-- From p to q the call and the head were unified. The clause's variables are numbered from the next number on, so many;
-- those that were met have words of their values, and the others are free. Each word that stood, and each number that is
-- still to come, has its value under the unifier.
pub record Enters {W : Type 0} (p q : Present W) (f : List ℕ) (arguments : List W) (ts : Tree) (met : ℕ → Bool) (environment : List W) : Type 0 where
  pub unifier : Subst
  pub is : Unifier (call_of p f arguments) (new_head p (Apply f ts)) unifier
  pub values : (w : W) → Holds p w → meaning q w ≡ apply unifier (meaning p w)
  pub variables : (x : ℕ) (w : W) → met x ≡ true → slice_get environment x ≡ Some w → Holds q w × (meaning q w ≡ apply unifier (p.substitution (p.next + x)))
  pub free : (x : ℕ) → x < length environment → met x ≡ false → (q.taken (p.next + x) ≡ false) × (unifier (p.next + x) ≡ Variable (p.next + x))
  pub beyond : (n : ℕ) → q.next ≤ n → q.substitution n ≡ apply unifier (p.substitution n)
  pub next : q.next ≡ p.next + length environment
  pub keeps : KeepsWords p q

-- What the answer says: the clause was entered, and its variables have the numbers from this one on; or nothing makes
-- the call and the head equal.
abbrev pub HasEntered : {W : Type 0} → Present W → Present W → List ℕ → List W → Tree → (ℕ → Bool) → List W → Option ℕ → Type 0
HasEntered p q f arguments ts met environment (Some first) = (first ≡ p.next) × Enters p q f arguments ts met environment
HasEntered p q f arguments ts met environment None = NeverEqual (call_of p f arguments) (new_head p (Apply f ts))
