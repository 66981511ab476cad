-- The code of a goal's arguments.
use Rattle.std.proofs.Common.{◌≡◌, ℕ, zero, suc, ◌+◌, ◌++◌, List, [], ◌∷◌, map, drop, Bool, true, Some, refl, sym, ap, ap₂, subst, ◌∙◌, arith, append_assoc}
use Rattle.std.proofs.lemmas.Bool.{false≢true}
use Rattle.std.proofs.lemmas.List.{append-nil}
use Rattle.std.specs.List.{slice_get}
use Rattle.iso_model.specs.Terms.Trees.{Tree, Variable, Integer, Name, Apply, End, More}
use Rattle.iso_alloc.specs.declared.places.Place.{Place}
use Rattle.iso_compile.specs.declared.instructions.Part.{Part}
use Rattle.iso_compile.specs.declared.instructions.Block.{Block}
use Rattle.iso_compile.specs.Table as table
use Rattle.iso_compile.specs.Table.{part_row, part_term, filled}
use Rattle.iso_compile.specs.TermCode.{tops, part, parts, blocks}
use Rattle.iso_compile.specs.CodeLaws.{MakesArguments}
use Rattle.iso_compile.specs.Emitted.{all_parts, Marking, Marks}
use Rattle.iso_compile.specs.Emitting.{is_placed, all_placed}
use Rattle.iso_compile.specs.Tasks.{is_atomic}
use Rattle.iso_compile.proofs.FillLemmas.{row_made}

-- what was emitted is the code of the arguments
pub makes : (r m : ℕ) (ts : Tree) (bs : List table.Block) (ps : List table.Part) → m ≡ r + tops ts → bs ≡ blocks r m ts → ps ≡ parts r ts → MakesArguments bs ps ts
makes r m ts bs ps room e g next rs form =
    ap₂ (λ us vs. part_row next (filled next us rs) vs) e g ∙ row_made next r m ts rs form (omega (arith, room))

-- a variable or a constant is the only argument
pub atomic_parts : (low : ℕ) (t : Tree) (p : table.Part) (ps : List table.Part) → is_atomic t ≡ true → p ≡ part 0 t → ps ≡ p ∷ [] → ps ≡ parts low (More t End)
atomic_parts low t p ps atomic is alone = alone ∙ ap (λ q. q ∷ []) (is ∙ anywhere t atomic)
  where
    anywhere : (u : Tree) → is_atomic u ≡ true → part 0 u ≡ part low u
    anywhere (Variable n) h = refl
    anywhere (Integer z) h = refl
    anywhere (Name a) h = refl
    anywhere (Apply f ts) h = absurd (false≢true h)
    anywhere End h = absurd (false≢true h)
    anywhere (More u us) h = absurd (false≢true h)

pub atomic_blocks : (low m : ℕ) (t : Tree) (bs : List table.Block) → is_atomic t ≡ true → bs ≡ [] → bs ≡ blocks low m (More t End)
atomic_blocks low m (Variable n) bs h none = none
atomic_blocks low m (Integer z) bs h none = none
atomic_blocks low m (Name a) bs h none = none
atomic_blocks low m (Apply f ts) bs h none = absurd (false≢true h)
atomic_blocks low m End bs h none = absurd (false≢true h)
atomic_blocks low m (More u us) bs h none = absurd (false≢true h)

-- the marks of the arguments' own parts
pub own_marks : (places : List Place) (ps : List Part) (first got : List Bool) (none : List Block) → Marking places (all_placed places) [] first → none ≡ [] → Marks places ps first got → Marking places (all_placed places) (ps ++ all_parts none) got
own_marks places ps first got none before nothing marks =
    subst (λ qs. Marking places (all_placed places) qs got) (sym (ap (λ bs. ps ++ all_parts bs) nothing ∙ append-nil ps)) (marks (all_placed places) [] before)

-- the items from a place on
pub one_left : {X : Type 0} (xs : List X) (i : ℕ) (x : X) → slice_get xs i ≡ Some x → drop i xs ≡ x ∷ drop (i + 1) xs
one_left [] i x is = absurd (cc is)
one_left (y ∷ xs) zero x is = ap (λ z. z ∷ xs) (cc is)
one_left (y ∷ xs) (suc i) x is =
    let same : suc (i + 1) ≡ suc i + 1 = omega arith in
    one_left xs i x is ∙ ap (λ k. x ∷ drop k (y ∷ xs)) same

-- a place more was looked at
pub placed_more : (places : List Place) (x : ℕ) (place : Place) (b : Bool) (list more : List Bool) → slice_get places x ≡ Some place → b ≡ is_placed place → more ≡ list ++ b ∷ []
    → list ++ map is_placed (drop x places) ≡ map is_placed places → more ++ map is_placed (drop (x + 1) places) ≡ map is_placed places
placed_more places x place b list more is of pushed before =
    ap (λ ys. ys ++ map is_placed (drop (x + 1) places)) (pushed ∙ ap (λ c. list ++ c ∷ []) of)
    ∙ append_assoc list (is_placed place ∷ []) (map is_placed (drop (x + 1) places))
    ∙ ap (λ ps. list ++ map is_placed ps) (sym (one_left places x place is)) ∙ before
