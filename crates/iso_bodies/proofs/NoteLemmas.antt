-- Lists that say which variables operands have met.
use Rattle.std.proofs.Common.{◌≡◌, ◌+◌, ◌++◌, ◌<◌, ℕ, Bool, false, List, [], ◌∷◌, length, map, take, get_or, replicate, sym, ap, subst, ◌∙◌}
use Rattle.std.proofs.lemmas.List.{take_more, map-append, append-nil, get_or-replicate, length-replicate}
use Rattle.iso_code.specs.declared.operands.Block.{Block}
use Rattle.iso_code.specs.declared.operands.Get.{Get}
use Rattle.iso_code.specs.declared.operands.Operand.{Operand}
use Rattle.iso_code.specs.Loaded.{operand_got, all_operands, met_behind}
use Rattle.iso_code.proofs.MarkLemmas.{behind_both, operands_both}
use Rattle.iso_bodies.specs.Notes.{Notes, Says}

-- ---- lists of operands

-- before all operands none was met
pub none_says : (count : ℕ) (list : List Bool) → list ≡ replicate count false → Says (λ x. false) list
none_says count list is = rw is (record { each = λ x inside. get_or-replicate count x false false (rw length-replicate at inside) })

-- operands one behind the other
pub notes_both : (xs ys : List Operand) (old mid new : List Bool) → Notes xs old mid → Notes ys mid new → Notes (xs ++ ys) old new
notes_both xs ys old mid new first then = record {
  met = λ before h. subst (λ f. Says f new) (sym (behind_both before xs ys)) (then.met (met_behind before xs) (first.met before h));
  many = then.many ∙ first.many;
}

-- ---- one more of a list

more_taken : {A : Type 0} (xs : List A) (i : ℕ) (x : A) → i < length xs → x ≡ get_or xs i x → take (i + 1) xs ≡ take i xs ++ x ∷ []
more_taken xs i x inside is = take_more xs i x inside ∙ ap (λ z. take i xs ++ z ∷ []) (sym is)

pub operand_noted : (os : List Operand) (i : ℕ) (o : Operand) (old mid new : List Bool) → i < length os → o ≡ get_or os i o → Notes (take i os) old mid → Notes (o ∷ []) mid new → Notes (take (i + 1) os) old new
operand_noted os i o old mid new inside is before one = subst (λ xs. Notes xs old new) (sym (more_taken os i o inside is)) (notes_both (take i os) (o ∷ []) old mid new before one)

pub get_noted : (gs : List Get) (i : ℕ) (g : Get) (old mid new : List Bool) → i < length gs → g ≡ get_or gs i g → Notes (map operand_got (take i gs)) old mid → Notes (g.operand ∷ []) mid new
    → Notes (map operand_got (take (i + 1) gs)) old new
get_noted gs i g old mid new inside is before one =
    let more = ap (map operand_got) (more_taken gs i g inside is) ∙ map-append operand_got (take i gs) (g ∷ []) in
    subst (λ xs. Notes xs old new) (sym more) (notes_both (map operand_got (take i gs)) (g.operand ∷ []) old mid new before one)

pub block_noted : (bs : List Block) (i : ℕ) (b : Block) (old mid new : List Bool) → i < length bs → b ≡ get_or bs i b → Notes (all_operands (take i bs)) old mid → Notes b.operands.items mid new
    → Notes (all_operands (take (i + 1) bs)) old new
block_noted bs i b old mid new inside is before one =
    let more = ap all_operands (more_taken bs i b inside is) ∙ operands_both (take i bs) (b ∷ []) ∙ ap (λ xs. all_operands (take i bs) ++ xs) (append-nil b.operands.items) in
    subst (λ xs. Notes xs old new) (sym more) (notes_both (all_operands (take i bs)) b.operands.items old mid new before one)
