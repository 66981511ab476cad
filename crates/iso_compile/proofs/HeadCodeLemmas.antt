-- The code of a head, argument by argument.
use Rattle.std.proofs.Common.{◌≡◌, ℕ, zero, suc, ◌+◌, ◌-◌, ◌<◌, ◌≤◌, ◌++◌, List, [], ◌∷◌, map, length, take, drop, replicate, Bool, true, false, option_map, subst, refl, sym, ap, ap₂, ◌∙◌, arith, append_assoc}
use Rattle.std.proofs.lemmas.Bool.{false≢true}
use Rattle.std.proofs.lemmas.List.{append-nil}
use Rattle.iso_model.specs.Terms.Trees.{Tree, Variable, Integer, Name, Apply, End, More, count}
use Rattle.iso_model.specs.declared.terms.Term.{Term}
use Rattle.iso_model.specs.Terms.TermOf.{term_of, row_of}
use Rattle.iso_model.specs.Terms.Substitutions.{apply, compose}
use Rattle.iso_model.specs.Terms.Copies.{renamed}
use Rattle.iso_model.specs.Terms.Unification.{unifier_of}
use Rattle.iso_alloc.specs.declared.places.Place.{Place}
use Rattle.iso_compile.specs.declared.instructions.Part.{Part}
use Rattle.iso_compile.specs.declared.instructions.Block.{Block}
use Rattle.iso_compile.specs.Table as table
use Rattle.iso_compile.specs.TermCode.{deep, part, blocks}
use Rattle.iso_compile.specs.Heads.{Get, get, gets, head_blocks, head_run, Meets}
use Rattle.iso_compile.specs.CodeLaws.{State, left, MeetsCalls}
use Rattle.iso_compile.specs.declared.instructions.Get as emitted
use Rattle.iso_compile.specs.Heads as heads
use Rattle.iso_compile.specs.Emitted.{part_of, get_of, part_got, all_parts, is_met, Marking, Marks}
use Rattle.iso_compile.specs.Emitting.{none_met}
use Rattle.iso_compile.specs.Tasks.{Stage, with_row, with_head, is_atomic}
use Rattle.iso_compile.proofs.EmitLemmas.{stage}
use Rattle.iso_compile.proofs.HeadLemmas.{clause_entered}

-- an argument more
pub head_more : (i : ℕ) (t ts : Tree) (s : Stage) → with_head (i + 1) ts (with_row i (More t End) s) ≡ with_head i (More t ts) s
head_more i t ts s =
    let zero_more : deep t + 0 ≡ deep t = omega arith in
    ap₂ stage
    (ap₂ (λ xs n. (s.code ++ xs) ++ head_blocks (i + 1) (s.next + n) ts) (append-nil (blocks i s.next t)) zero_more
    ∙ append_assoc s.code (blocks i s.next t) (head_blocks (i + 1) (s.next + deep t) ts))
    (omega arith)

pub get_atomic : (i : ℕ) (t : Tree) → is_atomic t ≡ true → get i t ≡ record { register = i; part = part i t } ∷ []
get_atomic i (Variable n) h = refl
get_atomic i (Integer z) h = refl
get_atomic i (Name a) h = refl
get_atomic i (Apply f ts) h = absurd (false≢true h)
get_atomic i End h = absurd (false≢true h)
get_atomic i (More t ts) h = absurd (false≢true h)

one_left : (xs : List Term) (r : ℕ) → r < length xs → (t : Term) × (drop r xs ≡ t ∷ drop (r + 1) xs)
one_left [] r h = absurd (omega (arith, h))
one_left (x ∷ xs) zero h = (x, refl)
one_left (x ∷ xs) (suc r) h =
    let one = one_left xs r (omega (arith, h)) in
    let same : suc (r + 1) ≡ suc r + 1 = omega arith in
    (one.0, one.1 ∙ ap (λ k. one.0 ∷ drop k (x ∷ xs)) same)

-- the argument of this number was emitted alone
pub head_on : (arguments : List Term) (r : ℕ) → r < length arguments → (s after : Stage) → after ≡ with_row r (row_of (take ((r + 1) - r) (drop r arguments))) s
    → with_head (r + 1) (row_of (drop (r + 1) arguments)) after ≡ with_head r (row_of (drop r arguments)) s
head_on arguments r inside s after emitted =
    let one = one_left arguments r inside in
    let single : (r + 1) - r ≡ 1 = omega arith in
    let taken : take ((r + 1) - r) (drop r arguments) ≡ one.0 ∷ [] = ap₂ (λ n xs. take n xs) single one.1 in
    ap (with_head (r + 1) (row_of (drop (r + 1) arguments))) (emitted ∙ ap (λ ts. with_row r (row_of ts) s) taken)
    ∙ head_more r (term_of one.0) (row_of (drop (r + 1) arguments)) s ∙ ap (λ ts. with_head r (row_of ts) s) (sym one.1)

-- what was emitted is the code of the head
pub meets : (m : ℕ) (ts : Tree) (gs : List Get) (bs : List table.Block) → gs ≡ gets 0 ts → bs ≡ head_blocks 0 m ts → count ts ≤ m → MeetsCalls gs bs ts
meets m ts gs bs e g room next f ws row form same s rs good have =
    subst (λ x. Meets left (option_map (compose s) (unifier_of (apply s (Apply f ws)) (apply s (renamed next (Apply f ts))))) x) (ap₂ (λ us vs. head_run next us vs s rs left) (sym e) (sym g))
    (clause_entered State next m f ws ts room row form same left s rs good have)

-- the marks of what the arguments are met with first
pub first_marks : (places : List Place) (gs : List Part) (first got : List Bool) (none : List Block) (n : ℕ) → n ≡ length places → first ≡ replicate n false → none ≡ [] → Marks places gs first got
    → Marking places (none_met places) (gs ++ all_parts none) got
first_marks places gs first got none n many empty nothing marks =
    subst (λ ps. Marking places (none_met places) ps got) (sym (ap (λ bs. gs ++ all_parts bs) nothing ∙ append-nil gs))
    (marks (none_met places) [] (record { marked = tt; behind = λ x. ap (λ list. is_met list x) (sym (empty ∙ ap (λ k. replicate k false) many)) }))

-- the parts of what is met with first
pub parts_got : (gs : List emitted.Get) → map part_of (map part_got gs) ≡ map heads.part_got (map get_of gs)
parts_got [] = refl
parts_got (g ∷ gs) = ap (λ ps. part_of g.part ∷ ps) (parts_got gs)
