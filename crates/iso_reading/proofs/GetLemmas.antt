-- Arguments of a call that are met one after the other.
use Rattle.std.proofs.Common.{◌≡◌, ◌+◌, ℕ, Bool, true, false, List, [], ◌∷◌, length, map, drop, Option, Some, None, slice_get, refl, sym, ap, subst, ◌∙◌, arith}
use Rattle.std.specs.Option.{option_and_then}
use Rattle.iso_model.specs.Terms.Trees.{End, More}
use Rattle.iso_model.specs.Terms.Substitutions.{Subst}
use Rattle.iso_model.specs.Terms.Unification.{unify_under}
use Rattle.iso_store_core.specs.Presents.{Present}
use Rattle.iso_compile.specs.Table.{Registers, part_term, read}
use Rattle.iso_compile.specs.Heads as heads
use Rattle.iso_compile.specs.Heads.{get_all}
use Rattle.iso_compile.specs.CodeLaws.{State, left}
use Rattle.iso_code.specs.declared.operands.Operand.{Operand}
use Rattle.iso_code.specs.declared.operands.Operand.TheVariants as operand
use Rattle.iso_code.specs.declared.operands.Get.{Get}
use Rattle.iso_code.specs.Loaded.{part_at, get_at, operand_got, IsInside, AreMarked, met_after, met_behind}
use Rattle.iso_code.specs.Standing.{Steps, Files, files, Setting, Ready, Ends}
use Rattle.iso_reading.specs.Reading.{StandsReady, ReadsOne}
use Rattle.iso_reading.specs.Gets.{MeetsGets}

-- a get, and then others
get_step : (names : List (List ℕ)) (low next : ℕ) (g : Get) (gs : List heads.Get) (s : Subst) (rs : Registers) (count : ℕ) → IsInside (length names) count 0 g.operand
    → get_all next (get_at names low g ∷ gs) s rs left ≡ option_and_then (λ n. get_all next gs n.subst n.registers left) (read next (part_at names low g.operand ∷ []) (More (rs g.argument) End) s rs left)
get_step names low next g gs s rs count inside = cases g.operand inside
  where
    through : (o : Option Subst) → option_and_then (λ u. get_all next gs u rs left) o ≡ option_and_then (λ n. get_all next gs n.subst n.registers left) (option_and_then (λ u. left u rs) o)
    through (Some u) = refl
    through None = refl

    cases : (o : Operand) → IsInside (length names) count 0 o
        → option_and_then (λ u. get_all next gs u rs left) (unify_under s (rs g.argument) (part_term next rs (part_at names low o)))
        ≡ option_and_then (λ n. get_all next gs n.subst n.registers left) (read next (part_at names low o ∷ []) (More (rs g.argument) End) s rs left)
    cases (operand.New x) h = through (unify_under s (rs g.argument) (part_term next rs (part_at names low (operand.New x))))
    cases (operand.Old x) h = through (unify_under s (rs g.argument) (part_term next rs (part_at names low (operand.Old x))))
    cases (operand.Integer z) h = through (unify_under s (rs g.argument) (part_term next rs (part_at names low (operand.Integer z))))
    cases (operand.Atom a) h = through (unify_under s (rs g.argument) (part_term next rs (part_at names low (operand.Atom a))))
    cases (operand.Inner k) h = absurd (omega (arith, h))

-- So many gets were done: what is left of the table's, from the state that the store stands for now.
pub record GetTo {W : Type 0} (names : List (List ℕ)) (gets : List Get) (i : ℕ) (p q : Present W) (f : Files W) (t : Setting) (met : ℕ → Bool) (state : State) : Type 0 where
  pub after : State
  pub marked : ℕ → Bool
  pub ready : Ready q f t marked after
  pub steps : Steps p state.subst q after.subst
  pub marks : AreMarked marked (map operand_got (drop i gets))
  pub behind : met_behind marked (map operand_got (drop i gets)) ≡ met_behind met (map operand_got gets)
  pub comes : get_all t.first (map (get_at names t.low) gets) state.subst state.registers left ≡ get_all t.first (map (get_at names t.low) (drop i gets)) after.subst after.registers left

-- It is so, whatever the store stood for.
abbrev pub GetsTo : {W : Type 0} → List (List ℕ) → List Get → ℕ → Present W → Present W → List W → List W → List W → List W → Type 0
GetsTo {W} names gets i p q es es' as_ cs =
    (t : Setting) (met : ℕ → Bool) (state : State) → Ready p (files es as_ cs) t met state → AreMarked met (map operand_got gets) → GetTo names gets i p q (files es' as_ cs) t met state

module _ {W : Type 0} (names : List (List ℕ)) (gets : List Get) (p q o : Present W) (es es' es'' as_ cs : List W) (argument : W) (i : ℕ) (get : Get) (is : drop i gets ≡ get ∷ drop (i + 1) gets)
    (count : ℕ) (inside : IsInside (length names) count 0 get.operand) (there : slice_get as_ get.argument ≡ Some argument) where
  one_more : (t : Setting) (met : ℕ → Bool) (state : State) → (to : GetTo names gets i p q (files es' as_ cs) t met state)
      → get_all t.first (map (get_at names t.low) gets) state.subst state.registers left
      ≡ option_and_then (λ n. get_all t.first (map (get_at names t.low) (drop (i + 1) gets)) n.subst n.registers left)
      (read t.first (part_at names t.low get.operand ∷ []) (More (to.after.registers get.argument) End) to.after.subst to.after.registers left)
  one_more t met state to =
      to.comes
      ∙ ap (λ xs. get_all t.first (map (get_at names t.low) xs) to.after.subst to.after.registers left) is
      ∙ get_step names t.low t.first get (map (get_at names t.low) (drop (i + 1) gets)) to.after.subst to.after.registers count inside

  -- one more was done, and the two unify
  pub gets_on : GetsTo names gets i p q es es' as_ cs → (ns : List (List ℕ)) → ns ≡ names → (cs' : List W) → cs' ≡ cs → ReadsOne ns get.operand q o argument es' es'' cs cs' true
      → GetsTo names gets (i + 1) p o es es'' as_ cs
  gets_on gets_to ns same cs' kept other t met state r marks =
      let one = subst (λ x. ReadsOne x get.operand q o argument es' es'' cs cs true) same (subst (λ x. ReadsOne ns get.operand q o argument es' es'' cs x true) kept other) in
      let to = gets_to t met state r marks in
      let here = subst (λ xs. AreMarked to.marked (map operand_got xs)) is to.marks in
      step to here (read t.first (part_at names t.low get.operand ∷ []) (More (to.after.registers get.argument) End) to.after.subst to.after.registers left)
      (one as_ t to.marked to.after (to.after.registers get.argument) to.ready (to.ready.stands.arguments get.argument argument there) here.0)
      (one_more t met state to)
    where
      step : (to : GetTo names gets i p q (files es' as_ cs) t met state) → AreMarked to.marked (map operand_got (get ∷ drop (i + 1) gets)) → (u : Option State)
          → Ends q to.after.subst o (files es'' as_ cs) t (met_after to.marked get.operand) true u
          → get_all t.first (map (get_at names t.low) gets) state.subst state.registers left ≡ option_and_then (λ n. get_all t.first (map (get_at names t.low) (drop (i + 1) gets)) n.subst n.registers left) u
          → GetTo names gets (i + 1) p o (files es'' as_ cs) t met state
      step to here (Some n) h comes = record {
        after = n;
        marked = met_after to.marked get.operand;
        ready = h.0;
        steps = λ w a st. h.1 w a (to.steps w a st);
        marks = here.1;
        behind = sym (ap (λ xs. met_behind to.marked (map operand_got xs)) is) ∙ to.behind;
        comes = comes;
      }
      step to here None h comes = absurd h

  -- it was done, and the two don't
  pub gets_none : GetsTo names gets i p q es es' as_ cs → (ns : List (List ℕ)) → ns ≡ names → (cs' : List W) → cs' ≡ cs → ReadsOne ns get.operand q o argument es' es'' cs cs' false
      → MeetsGets names gets p o es es'' as_ cs' false
  gets_none gets_to ns same cs' kept other t met state r marks =
      let one = subst (λ x. ReadsOne x get.operand q o argument es' es'' cs cs' false) same other in
      let to = gets_to t met state (subst (λ x. Ready p (files es as_ x) t met state) kept r) marks in
      let here = subst (λ xs. AreMarked to.marked (map operand_got xs)) is to.marks in
      step to (read t.first (part_at names t.low get.operand ∷ []) (More (to.after.registers get.argument) End) to.after.subst to.after.registers left)
      (one as_ t to.marked to.after (to.after.registers get.argument) to.ready (to.ready.stands.arguments get.argument argument there) here.0)
      (one_more t met state to)
    where
      step : (to : GetTo names gets i p q (files es' as_ cs) t met state) → (u : Option State)
          → Ends q to.after.subst o (files es'' as_ cs') t (met_after to.marked get.operand) false u
          → get_all t.first (map (get_at names t.low) gets) state.subst state.registers left ≡ option_and_then (λ n. get_all t.first (map (get_at names t.low) (drop (i + 1) gets)) n.subst n.registers left) u
          → Ends p state.subst o (files es'' as_ cs') t (met_behind met (map operand_got gets)) false (get_all t.first (map (get_at names t.low) gets) state.subst state.registers left)
      step to None h comes = rw comes tt
      step to (Some n) h comes = absurd h

-- and its argument stands
pub get_holds : {W : Type 0} (names : List (List ℕ)) (gets : List Get) (p q : Present W) (es es' as_ cs : List W) (i a : ℕ) (argument : W) → slice_get as_ a ≡ Some argument
    → GetsTo names gets i p q es es' as_ cs → StandsReady p es as_ cs (map operand_got gets) → q.holds argument ≡ true
get_holds names gets p q es es' as_ cs i a argument there gets_to h =
    let to = gets_to h.setting h.met h.state h.ready h.marked in
    (to.ready.stands.arguments a argument there).holds
