-- Marks of operands, and the order in which their variables are met.
use Rattle.std.proofs.Common.{append_assoc, ◌≡◌, ◌==◌, ◌++◌, ℕ, Bool, true, List, [], ◌∷◌, map, take, drop, inl, inr, refl, sym, ap, subst, ◌∙◌, if◌then◌else◌}
use Rattle.std.proofs.lemmas.Bool.{cases_eq, eq-eqb, ne_eqb}
use Rattle.std.proofs.lemmas.List.{take-map, take-append-drop}
use Rattle.iso_compile.specs.Heads as heads
use Rattle.iso_compile.specs.Emitted.{get_of, block_of}
use Rattle.iso_compile.specs.Orders.{with_part, with_parts, with_blocks, GroupsAreNext}
use Rattle.iso_compile.specs.declared.instructions.Block as compiled_block
use Rattle.iso_compile.specs.declared.instructions.Get as compiled_get
use Rattle.iso_code.specs.declared.operands.Block.{Block}
use Rattle.iso_code.specs.declared.operands.Get.{Get}
use Rattle.iso_code.specs.declared.operands.Head.{Head}
use Rattle.iso_code.specs.declared.operands.Operand.{Operand}
use Rattle.iso_code.specs.declared.operands.Operand.TheVariants.{New, Old, Integer, Atom, Inner}
use Rattle.iso_code.specs.Loaded.{part_at, block_at, get_at, operand_got, all_operands, IsMarked, AreMarked, met_after, met_behind, AreNextGroups}
use Rattle.iso_code.specs.Loading.{IsLoadedHead}

-- what was met behind two lists of operands
pub behind_both : (met : ℕ → Bool) (xs ys : List Operand) → met_behind met (xs ++ ys) ≡ met_behind (met_behind met xs) ys
behind_both met [] ys = refl
behind_both met (x ∷ xs) ys = behind_both (met_after met x) xs ys

-- marks of two lists are those of the first one, and those of the other one behind it
pub marked_both : (met : ℕ → Bool) (xs ys : List Operand) → AreMarked met (xs ++ ys) → AreMarked met xs × AreMarked (met_behind met xs) ys
marked_both met [] ys h = (tt, h)
marked_both met (x ∷ xs) ys h = let rest = marked_both (met_after met x) xs ys h.1 in ((h.0, rest.0), rest.1)

pub marked_append : (met : ℕ → Bool) (xs ys : List Operand) → AreMarked met xs → AreMarked (met_behind met xs) ys → AreMarked met (xs ++ ys)
marked_append met [] ys h k = k
marked_append met (x ∷ xs) ys h k = (h.0, marked_append (met_after met x) xs ys h.1 k)

-- marks are right where the same variables were met
mark_alike : (met also : ℕ → Bool) (o : Operand) → ((k : ℕ) → met k ≡ also k) → IsMarked met o → IsMarked also o
mark_alike met also (New x) same h = sym (same x) ∙ h
mark_alike met also (Old x) same h = sym (same x) ∙ h
mark_alike met also (Integer z) same h = tt
mark_alike met also (Atom a) same h = tt
mark_alike met also (Inner r) same h = tt

after_alike : (met also : ℕ → Bool) (o : Operand) → ((k : ℕ) → met k ≡ also k) → (k : ℕ) → met_after met o k ≡ met_after also o k
after_alike met also (New x) same k = ap (λ b. if k == x then true else b) (same k)
after_alike met also (Old x) same k = same k
after_alike met also (Integer z) same k = same k
after_alike met also (Atom a) same k = same k
after_alike met also (Inner r) same k = same k

pub marked_alike : (met also : ℕ → Bool) (os : List Operand) → ((k : ℕ) → met k ≡ also k) → AreMarked met os → AreMarked also os
marked_alike met also [] same h = tt
marked_alike met also (o ∷ os) same h = (mark_alike met also o same h.0, marked_alike (met_after met o) (met_after also o) os (after_alike met also o same) h.1)

-- the operands of two lists of blocks
pub operands_both : (xs ys : List Block) → all_operands (xs ++ ys) ≡ all_operands xs ++ all_operands ys
operands_both [] ys = refl
operands_both (x ∷ xs) ys = ap (λ zs. x.operands.items ++ zs) (operands_both xs ys) ∙ sym (append_assoc x.operands.items (all_operands xs) (all_operands ys))

module _ (names : List (List ℕ)) (low : ℕ) where
  -- by the table a variable is met behind an operand just where its mark says so
  met_same : (o : Operand) (met also : ℕ → Bool) → ((k : ℕ) → also k ≡ met k) → IsMarked met o → (k : ℕ) → with_part also (part_at names low o) k ≡ met_after met o k
  met_same (New x) met also same mark k = ap (λ b. if k == x then true else b) (same k)
  met_same (Old x) met also same mark k = elim (cases_eq k x) [
    | inl here ↦ (let one : (if k == x then true else also k) ≡ true = rw (eq-eqb k x here) refl in one ∙ sym mark ∙ ap met (sym here))
    | inr other ↦ (let one : (if k == x then true else also k) ≡ also k = rw (ne_eqb k x other) refl in one ∙ same k)
  ]
  met_same (Integer z) met also same mark k = same k
  met_same (Atom a) met also same mark k = same k
  met_same (Inner r) met also same mark k = same k

  behind_same : (os : List Operand) (met also : ℕ → Bool) → ((k : ℕ) → also k ≡ met k) → AreMarked met os → (k : ℕ) → with_parts also (map (part_at names low) os) k ≡ met_behind met os k
  behind_same [] met also same marks k = same k
  behind_same (o ∷ os) met also same marks k = behind_same os (met_after met o) (with_part also (part_at names low o)) (met_same o met also same marks.0) marks.1 k

  blocks_same : (bs : List Block) (met also : ℕ → Bool) → ((k : ℕ) → also k ≡ met k) → AreMarked met (all_operands bs) → (k : ℕ) → with_blocks also (map (block_at names low) bs) k ≡ met_behind met (all_operands bs) k
  blocks_same [] met also same marks k = same k
  blocks_same (b ∷ bs) met also same marks k =
      let both = marked_both met b.operands.items (all_operands bs) marks in
      blocks_same bs (met_behind met b.operands.items) (with_parts also (map (part_at names low) b.operands.items)) (behind_same b.operands.items met also same both.0) both.1 k
      ∙ ap (λ m. m k) (sym (behind_both met b.operands.items (all_operands bs)))

  -- the groups of blocks are next in the words of marks where they are in those of the table
  pub groups_next : (bs : List Block) (met also : ℕ → Bool) → ((k : ℕ) → also k ≡ met k) → AreMarked met (all_operands bs) → GroupsAreNext also (map (block_at names low) bs) → AreNextGroups met bs
  groups_next [] met also same marks nexts = tt
  groups_next (b ∷ bs) met also same marks nexts =
      let both = marked_both met b.operands.items (all_operands bs) marks in (
        (λ x y none here behind.
            nexts.0 x y (same x ∙ none) (group x ∙ here) (group y ∙ behind)),
        groups_next bs (met_behind met b.operands.items) (with_parts also (map (part_at names low) b.operands.items)) (behind_same b.operands.items met also same both.0) both.1 nexts.1,
      )
    where
      group_marks : AreMarked met (all_operands (b ∷ take b.inner bs))
      group_marks =
          (marked_both met (all_operands (b ∷ take b.inner bs)) (all_operands (drop b.inner bs))
          (subst (AreMarked met) (ap (λ l. all_operands (b ∷ l)) (sym (take-append-drop b.inner bs)) ∙ operands_both (b ∷ take b.inner bs) (drop b.inner bs)) marks)).0

      group : (k : ℕ) → with_blocks also (block_at names low b ∷ take b.inner (map (block_at names low) bs)) k ≡ met_behind met (all_operands (b ∷ take b.inner bs)) k
      group k =
          ap (λ l. with_blocks also (block_at names low b ∷ l) k) (take-map (block_at names low) b.inner bs) ∙ blocks_same (b ∷ take b.inner bs) met also same group_marks k

  got_parts : (ls : List Get) → map heads.part_got (map (get_at names low) ls) ≡ map (part_at names low) (map operand_got ls)
  got_parts [] = refl
  got_parts (l ∷ ls) = ap (λ ps. part_at names low l.operand ∷ ps) (got_parts ls)

  -- so it is in a head that was loaded, where the marks are right
  pub head_next : (arity : ℕ) (gs : List compiled_get.Get) (bs : List compiled_block.Block) (h : Head) (met : ℕ → Bool) → IsLoadedHead names low arity gs bs h
      → AreMarked met (map operand_got h.gets.items ++ all_operands h.blocks.items) → GroupsAreNext (with_parts met (map heads.part_got (map get_of gs))) (map block_of bs)
      → AreNextGroups (met_behind met (map operand_got h.gets.items)) h.blocks.items
  head_next arity gs bs h met is marks nexts =
      let got = map operand_got h.gets.items in
      let both = marked_both met got (all_operands h.blocks.items) marks in
      let before : with_parts met (map heads.part_got (map get_of gs)) ≡ with_parts met (map (part_at names low) got) =
      ap (λ gets. with_parts met (map heads.part_got gets)) (sym is.gets_are) ∙ ap (with_parts met) (got_parts h.gets.items) in
      groups_next h.blocks.items (met_behind met got) (with_parts met (map (part_at names low) got)) (behind_same got met met (λ k. refl) both.0) both.1
      (subst (GroupsAreNext (with_parts met (map (part_at names low) got))) (sym is.blocks_are) (subst (λ f. GroupsAreNext f (map block_of bs)) before nexts))
