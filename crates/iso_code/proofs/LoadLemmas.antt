-- Code that is loaded piece by piece, as names come.
use Rattle.std.proofs.Common.{◌≡◌, ◌+◌, ◌<◌, ℕ, List, [], ◌∷◌, ◌++◌, length, take, get_or, sym, ap, subst, ◌∙◌}
use Rattle.std.specs.List.{AllZip}
use Rattle.std.proofs.lemmas.List.{take_more}
use Rattle.iso_atoms.specs.Texts.{KeepsTexts}
use Rattle.iso_compile.specs.declared.instructions.Part.{Part}
use Rattle.iso_compile.specs.declared.instructions.Part.TheVariants as part
use Rattle.iso_compile.specs.declared.instructions.Block as compiled_block
use Rattle.iso_compile.specs.declared.instructions.Get as compiled_get
use Rattle.iso_code.specs.declared.loading.Side.{Side}
use Rattle.iso_code.specs.declared.loading.Side.TheVariants.{Head, Goal}
use Rattle.iso_code.specs.declared.operands.Operand.{Operand}
use Rattle.iso_code.specs.declared.operands.Block.{Block}
use Rattle.iso_code.specs.declared.operands.Get.{Get}
use Rattle.iso_code.specs.Loading.{IsLoaded, IsLoadedPart, IsLoadedBlock, IsLoadedGet}

-- ---- items of two lists, place by place

-- one more of each
zip_push : {A B : Type 0} (R : A → B → Type 0) (xs : List A) (ys : List B) (x : A) (y : B) → AllZip R xs ys → R x y → AllZip R (xs ++ x ∷ []) (ys ++ y ∷ [])
zip_push R [] [] x y h one = (one, tt)
zip_push R [] (b ∷ ys) x y h one = absurd h
zip_push R (a ∷ xs) [] x y h one = absurd h
zip_push R (a ∷ xs) (b ∷ ys) x y h one = (h.0, zip_push R xs ys x y h.1 one)

-- what follows for each pair
pub zip_weaker : {A B : Type 0} (R Q : A → B → Type 0) → ((x : A) (y : B) → R x y → Q x y) → (xs : List A) (ys : List B) → AllZip R xs ys → AllZip Q xs ys
zip_weaker R Q f [] [] h = tt
zip_weaker R Q f [] (b ∷ ys) h = absurd h
zip_weaker R Q f (a ∷ xs) [] h = absurd h
zip_weaker R Q f (a ∷ xs) (b ∷ ys) h = (f a b h.0, zip_weaker R Q f xs ys h.1)

-- those before a place, and then the one there
pub zip_more : {A B : Type 0} (R Q : A → B → Type 0) (xs : List A) (ys : List B) (i : ℕ) (x : A) (y : B) → ((a : A) (b : B) → R a b → Q a b) → i < length xs → x ≡ get_or xs i x
    → AllZip R (take i xs) ys → Q x y → AllZip Q (take (i + 1) xs) (ys ++ y ∷ [])
zip_more R Q xs ys i x y f inside is before one =
    subst (λ zs. AllZip Q zs (ys ++ y ∷ [])) (sym (take_more xs i x inside ∙ ap (λ z. take i xs ++ z ∷ []) (sym is))) (zip_push Q (take i xs) ys x y (zip_weaker R Q f (take i xs) ys before) one)

-- ---- what was loaded stays so where names come

module _ (old new : List (List ℕ)) (keeps : KeepsTexts old new) (low : ℕ) where
  pub operand_kept : (s : Side) (p : Part) (o : Operand) → IsLoaded old low s p o → IsLoaded new low s p o
  operand_kept s (part.New x place) o h = h
  operand_kept s (part.Old x place) o h = h
  operand_kept s (part.Void x) o h = h
  operand_kept s (part.Integer z) o h = h
  operand_kept s (part.Atom a) o h = (h.0, h.1, keeps h.0 _ h.2)
  operand_kept s (part.Inner r) o h = h

  pub body_part_kept : (p : Part) (o : Operand) → IsLoadedPart old low p o → IsLoadedPart new low p o
  body_part_kept = operand_kept Goal

  pub block_kept : (arity : ℕ) (s : Side) (b : compiled_block.Block) (l : Block) → IsLoadedBlock old low arity s b l → IsLoadedBlock new low arity s b l
  block_kept arity s b l h = record {
    register = h.register;
    name = keeps l.name _ h.name;
    operands = zip_weaker (IsLoaded old low s) (IsLoaded new low s) (operand_kept s) b.parts.items l.operands.items h.operands;
    inner = h.inner;
    wide = h.wide;
    pair = h.pair;
  }

  pub get_kept : (g : compiled_get.Get) (l : Get) → IsLoadedGet old low g l → IsLoadedGet new low g l
  get_kept g l h = record { argument = h.argument; operand = operand_kept Head g.part l.operand h.operand }
