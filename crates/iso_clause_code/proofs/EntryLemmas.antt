-- What is kept of a clause can be entered.
use Rattle.std.proofs.Common.{◌≡◌, ◌<◌, ◌++◌, ℕ, Bool, true, false, List, [], ◌∷◌, length, map, Some, refl, sym, subst, arith}
use Rattle.std.specs.List.{All}
use Rattle.std.proofs.lemmas.List.{get_or-replicate}
use Rattle.std.proofs.lemmas.List.Elements.{All-append, All-weaker}
use Rattle.iso_model.specs.Terms.Trees.{Tree, count}
use Rattle.iso_model.specs.Terms.Sorts.{is_row}
use Rattle.iso_model.specs.Terms.Variables.{occurs}
use Rattle.iso_model.specs.Search.Databases as databases
use Rattle.iso_alloc.specs.declared.places.Place.{Place}
use Rattle.iso_alloc.specs.Plans.{arguments_of}
use Rattle.iso_compile.specs.declared.instructions.Part.{Part}
use Rattle.iso_compile.specs.Heads as heads
use Rattle.iso_compile.specs.CodeLaws.{MeetsCalls}
use Rattle.iso_compile.specs.Orders.{with_parts, GroupsAreNext}
use Rattle.iso_compile.specs.Emitted as emitted
use Rattle.iso_compile.specs.Emitted.{get_of, block_of}
use Rattle.iso_compile.specs.Emitting as emitting
use Rattle.iso_compile.proofs.NextLemmas.{head_next as groups_next}
use Rattle.iso_code.specs.declared.operands.Operand.{Operand}
use Rattle.iso_code.specs.declared.operands.Operand.TheVariants.{New, Old, Integer, Atom, Inner}
use Rattle.iso_code.specs.Loaded.{IsInside, IsSoundGet, AreSound, AreMarked, met_behind, block_at, operand_got, all_operands}
use Rattle.iso_code.specs.Loading.{IsBelow, parts_met}
use Rattle.iso_code.proofs.BelowLemmas.{head_below}
use Rattle.iso_code.proofs.MarkLemmas.{marked_append, head_next}
use Rattle.iso_instructions.specs.declared.instructions.Code.{Code}
use Rattle.iso_bodies.specs.Clauses.{IsNewBelow, head_operands, none_met}
use Rattle.iso_machine_core.specs.Entering.{IsEntry}
use Rattle.iso_machine_core.proofs.NumberLemmas.{argument_occurs}
use Rattle.iso_clause_code.specs.Keeping.{KeepsCode}
use Rattle.iso_clause_code.proofs.CheckedLemmas.{arguments_row}
use Rattle.iso_clause_code.proofs.LowLemmas.{IsLow, gets_low, blocks_low, marks_low}

new_inside : (names many : ℕ) (o : Operand) → IsNewBelow many o → IsInside names many 0 o
new_inside names many (New x) h = h
new_inside names many (Old x) h = absurd h
new_inside names many (Integer z) h = absurd h
new_inside names many (Atom a) h = absurd h
new_inside names many (Inner k) h = absurd h

-- marks of the first ones of parts
marked_first : (places : List Place) (met : ℕ → Bool) (xs ys : List Part) → emitted.AreMarked places met (xs ++ ys) → emitted.AreMarked places met xs
marked_first places met [] ys h = tt
marked_first places met (x ∷ xs) ys h = (h.0, marked_first places (emitted.met_after met x) xs ys h.1)

module _ (names : List (List ℕ)) (code : Code) (c : databases.Clause) (k : KeepsCode names code c) where
  -- the arguments of the head, and how many there are
  abbrev terms : Tree
  terms = arguments_of (Some c.head)

  abbrev arity : ℕ
  arity = count terms

  abbrev met_before : ℕ → Bool
  met_before = emitting.none_met k.plan.places

  row : is_row terms ≡ true
  row = arguments_row (Some c.head) k.head.is

  within : (x : ℕ) → occurs x terms ≡ true → x < c.variables
  within x is = k.head.below x (argument_occurs c.head x is)

  below : All (IsBelow c.variables) (parts_met k.compiled.gets.items k.compiled.blocks.items)
  below = head_below c.variables k.plan.registers k.compiled.gets.items k.compiled.blocks.items terms k.is.gets_are k.is.blocks_are within

  gets : All (IsSoundGet (length names) arity c.variables) code.head.gets.items
  gets = k.loaded.head.gets_sound c.variables below

  blocks : AreSound (length names) arity c.variables code.head.compounds code.head.blocks.items
  blocks = k.loaded.head.blocks_sound c.variables below

  low : All (IsLow c.variables) (head_operands code.head)
  low = All-append (IsLow c.variables) (map operand_got code.head.gets.items) (all_operands code.head.blocks.items)
      (gets_low (length names) arity c.variables code.head.gets.items gets)
      (blocks_low (length names) arity c.variables code.head.compounds code.head.blocks.items blocks)

  none : (x : ℕ) → x < c.variables → met_before x ≡ false
  none x inside = let each = k.planned.each in get_or-replicate (length k.plan.places) x false true (omega (arith, inside, each))

  marked : AreMarked none_met (head_operands code.head)
  marked = marks_low c.variables met_before none_met (head_operands code.head) low none
      (k.loaded.head.marked k.plan.places met_before (marked_first k.plan.places met_before (parts_met k.compiled.gets.items k.compiled.blocks.items) k.compiled.fresh.items k.is.marked))

  groups : GroupsAreNext (with_parts none_met (map heads.part_got (map get_of k.compiled.gets.items))) (map block_of k.compiled.blocks.items)
  groups =
      subst (λ gs. GroupsAreNext (with_parts none_met (map heads.part_got gs)) (map block_of k.compiled.blocks.items)) (sym k.is.gets_are)
      (subst (GroupsAreNext (with_parts none_met (map heads.part_got (heads.gets 0 terms)))) (sym k.is.blocks_are)
      (groups_next none_met k.plan.registers k.numbered.0 terms row k.numbered.1))

  -- Its head and its fresh variables are an entry, where none of its variables was met before.
  pub kept_entry : IsEntry names code.head code.fresh.items arity c.variables k.plan.registers none_met terms
  kept_entry = record {
    gets = gets;
    blocks = blocks;
    inside = All-weaker (IsNewBelow c.variables) (IsInside (length names) c.variables 0) (new_inside (length names) c.variables) code.fresh.items k.loaded.fresh.new;
    meets = subst (λ gs. MeetsCalls gs (map (block_at names k.plan.registers) code.head.blocks.items) terms) (sym k.loaded.head.gets_are)
        (subst (λ bs. MeetsCalls (map get_of k.compiled.gets.items) bs terms) (sym k.loaded.head.blocks_are) k.is.meets);
    terms = row;
    many = refl;
    apart = k.planned.arguments;
    places = within;
    none = λ x inside. refl;
    marked = marked_append none_met (head_operands code.head) code.fresh.items marked k.loaded.fresh.marked;
    nexts = head_next names k.plan.registers arity k.compiled.gets.items k.compiled.blocks.items code.head none_met k.loaded.head marked groups;
  }

  -- Each of its variables has its word behind its head and the fresh ones.
  pub kept_whole : (x : ℕ) → x < c.variables → met_behind none_met (head_operands code.head ++ code.fresh.items) x ≡ true
  kept_whole = k.loaded.fresh.whole
