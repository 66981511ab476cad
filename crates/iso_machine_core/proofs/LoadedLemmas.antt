-- Code that was compiled and loaded can be entered.
use Rattle.std.proofs.Common.{◌≡◌, ◌<◌, ◌++◌, ℕ, Bool, true, false, List, [], ◌∷◌, length, map, Some, sym, subst, arith}
use Rattle.std.specs.List.{All}
use Rattle.std.proofs.lemmas.List.{get_or-replicate}
use Rattle.iso_model.specs.Terms.Trees.{count}
use Rattle.iso_model.specs.Terms.Sorts.{is_row}
use Rattle.iso_model.specs.Terms.Variables.{occurs}
use Rattle.iso_model.specs.Terms.Numbering.{next_number}
use Rattle.iso_prep.specs.Preparations.{Preparation}
use Rattle.iso_alloc.specs.declared.places.Place.{Place}
use Rattle.iso_alloc.specs.Plans.{Layout, IsPlan, arguments_of}
use Rattle.iso_compile.specs.declared.instructions.Part.{Part}
use Rattle.iso_compile.specs.declared.clauses.Code.{Code}
use Rattle.iso_compile.specs.Heads as heads
use Rattle.iso_compile.specs.CodeLaws.{MeetsCalls, NewVariablesAreNext}
use Rattle.iso_compile.specs.Orders.{with_parts, GroupsAreNext}
use Rattle.iso_compile.specs.Emitted as emitted
use Rattle.iso_compile.specs.Emitted.{get_of, block_of}
use Rattle.iso_compile.specs.Emitting.{none_met}
use Rattle.iso_compile.specs.Clauses.{IsCode}
use Rattle.iso_code.specs.declared.operands.Head.{Head}
use Rattle.iso_code.specs.declared.operands.Operand.{Operand}
use Rattle.iso_code.specs.Loaded.{block_at, AreMarked, met_behind}
use Rattle.iso_code.specs.Loading.{IsLoadedHead, IsLoadedFresh, IsBelow, parts_met}
use Rattle.iso_code.proofs.MarkLemmas.{marked_append, marked_alike, head_next}
use Rattle.iso_code.proofs.BelowLemmas.{head_below, fresh_below}
use Rattle.iso_machine_core.specs.Entering.{IsEntry, head_operands}

-- Marks of two lists of parts are those of the first one, and those of the other one behind it.
parts_both : (places : List Place) (met : ℕ → Bool) (xs ys : List Part) → emitted.AreMarked places met (xs ++ ys)
    → emitted.AreMarked places met xs × emitted.AreMarked places (emitted.met_behind met xs) ys
parts_both places met [] ys h = (tt, h)
parts_both places met (x ∷ xs) ys h = let rest = parts_both places (emitted.met_after met x) xs ys h.1 in ((h.0, rest.0), rest.1)

-- The code of a clause that was compiled and loaded can be entered, where the variables of its head are numbered by
-- first occurrence. That new variables are next is a law of iso_compile.
pub loaded_entry : NewVariablesAreNext → (p : Preparation) (plan : Layout) (c : Code) → IsPlan plan p → IsCode p plan c
    → (names : List (List ℕ)) (arity : ℕ) (head : Head) (fresh : List Operand)
    → IsLoadedHead names plan.registers arity c.gets.items c.blocks.items head → IsLoadedFresh c.fresh.items fresh
    → is_row (arguments_of p.head) ≡ true → count (arguments_of p.head) ≡ arity
    → ((x : ℕ) → occurs x (arguments_of p.head) ≡ true → x < p.variables)
    → (next : ℕ) → next_number (arguments_of p.head) 0 ≡ Some next
    → IsEntry names head fresh arity (length plan.places) plan.registers (none_met plan.places) (arguments_of p.head)
loaded_entry law p plan c is_plan is_code names arity head fresh is is_fresh form many within next numbered =
    let met = none_met plan.places in
    let behind = emitted.met_behind met (parts_met c.gets.items c.blocks.items) in
    let blocks = map (block_at names plan.registers) head.blocks.items in
    let fresh_marked = marked_alike behind (met_behind met (head_operands head)) fresh (is.behind met) (is_fresh.marked plan.places behind marks.1) in
    record {
      gets = is.gets_sound (length plan.places) below;
      blocks = is.blocks_sound (length plan.places) below;
      inside = is_fresh.inside (length names) (length plan.places) (fresh_below plan.places behind c.fresh.items is_code.fresh marks.1);
      meets = subst (λ gs. MeetsCalls gs blocks (arguments_of p.head)) (sym is.gets_are) (subst (λ bs. MeetsCalls (map get_of c.gets.items) bs (arguments_of p.head)) (sym is.blocks_are) is_code.meets);
      terms = form;
      many = many;
      apart = omega (arith, is_plan.arguments, many);
      places = there;
      none = λ x inside. get_or-replicate (length plan.places) x false true inside;
      marked = marked_append met (head_operands head) fresh first fresh_marked;
      nexts = head_next names plan.registers arity c.gets.items c.blocks.items head met is first groups;
    }
  where
    there : (x : ℕ) → occurs x (arguments_of p.head) ≡ true → x < length plan.places
    there x is = (let here = within x is in omega (arith, here, is_plan.each))

    below : All (IsBelow (length plan.places)) (parts_met c.gets.items c.blocks.items)
    below = head_below (length plan.places) plan.registers c.gets.items c.blocks.items (arguments_of p.head) is_code.gets_are is_code.blocks_are there

    marks : emitted.AreMarked plan.places (none_met plan.places) (parts_met c.gets.items c.blocks.items)
        × emitted.AreMarked plan.places (emitted.met_behind (none_met plan.places) (parts_met c.gets.items c.blocks.items)) c.fresh.items
    marks = parts_both plan.places (none_met plan.places) (parts_met c.gets.items c.blocks.items) c.fresh.items is_code.marked

    first : AreMarked (none_met plan.places) (head_operands head)
    first = is.marked plan.places (none_met plan.places) marks.0

    groups : GroupsAreNext (with_parts (none_met plan.places) (map heads.part_got (map get_of c.gets.items))) (map block_of c.blocks.items)
    groups =
        subst (λ gs. GroupsAreNext (with_parts (none_met plan.places) (map heads.part_got gs)) (map block_of c.blocks.items)) (sym is_code.gets_are)
        (subst (GroupsAreNext (with_parts (none_met plan.places) (map heads.part_got (heads.gets 0 (arguments_of p.head))))) (sym is_code.blocks_are)
        (law (none_met plan.places) plan.registers next (arguments_of p.head) form numbered))
