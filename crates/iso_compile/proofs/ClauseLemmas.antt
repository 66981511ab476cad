-- The code of a whole clause.
use Rattle.std.proofs.Common.{◌≡◌, ℕ, ◌≤◌, List, [], ◌∷◌, ◌++◌, Bool, true, Option, Some, None, refl, ap, ◌∙◌, arith}
use Rattle.std.specs.Prelude.{is_some, option_map}
use Rattle.std.specs.Borrow.{Bor}
use Rattle.iso_model.specs.declared.terms.Term.{Term}
use Rattle.iso_model.specs.Terms.TermOf.{term_of}
use Rattle.iso_model.specs.Search.Bodies.{Body, is_true}
use Rattle.iso_alloc.specs.Plans.{Layout}
use Rattle.iso_compile.specs.declared.control.Instruction.{Instruction}
use Rattle.iso_compile.specs.declared.control.Instruction.TheVariants.{Call, Execute, Is, Compare, Proceed, Cut, GetLevel, TryElse, Jump}
use Rattle.iso_compile.specs.Clauses.{body_members}
use Rattle.iso_compile.specs.Control.{Does, proceeds, IsSized}

-- a fact's code is its end
pub fact_does : (plan : Layout) (none code : List Instruction) (has_head : Bool) (b : Body) → none ≡ [] → code ≡ none ++ Proceed ∷ [] → has_head ≡ true → is_true b ≡ true → Does plan code (body_members has_head b)
fact_does plan none code has_head b nothing is head fact =
    let all : code ≡ Proceed ∷ [] = is ∙ ap (λ xs. xs ++ Proceed ∷ []) nothing in
    rw (all, head, fact) record { some = omega arith; goes = proceeds (record { is = refl }) }

pub head_map : (o : Option (Bor Term)) → is_some (option_map (λ h. term_of h.now) o) ≡ is_some o
head_map (Some h) = refl
head_map None = refl

-- ---- slots and registers

pub sized_up : (a b s r : ℕ) (i : Instruction) → a ≤ s → b ≤ r → IsSized a b i → IsSized s r i
sized_up a b s r (GetLevel k) more further h = omega (arith, more, h)
sized_up a b s r (Call c) more further h = omega (arith, further, h)
sized_up a b s r (Execute c) more further h = omega (arith, further, h)
sized_up a b s r (Is p ks) more further h = tt
sized_up a b s r (Compare c ks) more further h = tt
sized_up a b s r Proceed more further h = tt
sized_up a b s r (Cut m) more further h = tt
sized_up a b s r (TryElse l) more further h = tt
sized_up a b s r (Jump l) more further h = tt
