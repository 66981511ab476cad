-- Instructions of arithmetic that were loaded: all that they name is there, and they come to what their goals come to.
use Rattle.std.proofs.Common.{◌≡◌, ◌<◌, ℕ, List, [], ◌∷◌, length, map, true, Some, codes, refl, sym, ap, subst, ◌∙◌}
use Rattle.std.specs.Global.{Global}
use Rattle.std.specs.List.{All, AllZip}
use Rattle.std.specs.Prelude.{Vec}
use Rattle.std.proofs.lemmas.List.Elements.{All-nil, All-cons}
use Rattle.iso_model.specs.Terms.Trees.{Tree, Variable, Integer, Name, Apply, End, More}
use Rattle.iso_model.specs.Terms.Sorts.{is_term}
use Rattle.iso_model.specs.Terms.Variables.{occurs}
use Rattle.iso_model.specs.Terms.Substitutions.{Subst, apply, compose}
use Rattle.iso_model.specs.Terms.Copies.{renamed}
use Rattle.iso_model.specs.Terms.Unification.Applied.{apply_apply}
use Rattle.iso_model.proofs.OnTerms.SortLemmas.{count-apply, row_of_arguments}
use Rattle.iso_model.specs.Search.Databases.{Key, key, key_of}
use Rattle.iso_model.specs.Search.Library.{library_answer, comparison_name}
use Rattle.iso_model.specs.Search.BuiltIns.{built_in}
use Rattle.iso_model.specs.declared.built_ins.BuiltIn.TheVariants.{Library}
use Rattle.iso_model.specs.declared.kinds.Library as row
use Rattle.iso_model.specs.declared.kinds.Library.TheVariants as library
use Rattle.iso_model.specs.declared.kinds.Comparison.{Comparison}
use Rattle.iso_model.specs.declared.kinds.Comparison.TheVariants as comparison
use Rattle.iso_store_core.specs.Presents.{Present}
use Rattle.iso_search_core.specs.GoalKinds.{IsBuiltIn}
use Rattle.iso_search_core.specs.Words.{word_terms}
use Rattle.iso_program.specs.Kept.{IsTemplate}
use Rattle.iso_compile.specs.Expressions as expressions
use Rattle.iso_compile.specs.Expressions.{step_of, step_parts}
use Rattle.iso_compile.specs.Evaluations.{OccursIn, OccurIn, ComesTo, evaluated, compared}
use Rattle.iso_compile.specs.Emitted.{part_of}
use Rattle.iso_compile.specs.declared.control.Instruction as compiled
use Rattle.iso_compile.specs.declared.control.Instruction.TheVariants as control
use Rattle.iso_compile.specs.declared.expressions.Step as written
use Rattle.iso_compile.specs.declared.expressions.Step.TheVariants as step
use Rattle.iso_compile.specs.declared.instructions.Part.{Part}
use Rattle.iso_compile.specs.declared.instructions.Part.TheVariants as part
use Rattle.iso_code.specs.declared.operands.Operand.{Operand}
use Rattle.iso_code.specs.Loaded.{part_at}
use Rattle.iso_code.specs.Loading.{IsBelow, IsLoadedPart}
use Rattle.iso_code.proofs.LoadedLemmas.{body_part_same}
use Rattle.iso_instructions.specs.Steps.{IsStep, IsStepThere, IsThere}
use Rattle.iso_instructions.specs.declared.instructions.Step.{Step}
use Rattle.iso_instructions.specs.declared.instructions.Instruction.TheVariants.{Is, Compare}
use Rattle.iso_bodies.specs.Steps.{IsLoadedStep}
use Rattle.iso_bodies.specs.Instructions.{IsLoadedInstruction}
use Rattle.iso_bodies.proofs.StepLemmas.{steps_are, part_there, steps_there}
use Rattle.iso_evaluation.specs.Running.{StandFor}
use Rattle.iso_environments.proofs.GoalLemmas.{renamed_none, word_at}

-- ---- variables

-- those of a part and of steps are of the clause
module _ {n : ℕ} (t : Tree) (low : (x : ℕ) → occurs x t ≡ true → x < n) where
  part_below : (p : Part) → OccursIn t (part_of p) → IsBelow n p
  part_below (part.New x place) h = low x h
  part_below (part.Old x place) h = low x h
  part_below (part.Void x) h = low x h
  part_below (part.Integer z) h = tt
  part_below (part.Atom a) h = tt
  part_below (part.Inner r) h = tt

  steps_below : (ks : List written.Step) → OccurIn t (map step_of ks) → All (IsBelow n) (step_parts ks)
  steps_below [] h = All-nil (IsBelow n)
  steps_below (step.Value p ∷ ks) h = All-cons (IsBelow n) p (step_parts ks) (part_below p h.0) (steps_below ks h.1)
  steps_below (step.One f ∷ ks) h = steps_below ks h
  steps_below (step.Two f ∷ ks) h = steps_below ks h

-- ---- instructions

-- The steps come to what the goal of this key comes to, and all that they name is there.
pub record AreReady (names : List (List ℕ)) (n : ℕ) (steps : List Step) (ks : List expressions.Step) : Type 0 where
  pub are : AllZip (IsStep names) ks steps
  pub inside : All (IsStepThere (length names) n) steps

-- `is/2`
pub record IsReady (names : List (List ℕ)) (n : ℕ) (left : Operand) (steps : List Step) (t : Tree) : Type 0 where
  pub ks : List expressions.Step
  pub ready : AreReady names n steps ks
  pub inside : IsThere (length names) n left
  pub named : key_of t ≡ Some (key (codes "is") 2)
  pub comes : (next : ℕ) (s : Subst)
      → evaluated next s (part_at names 0 left) ks ≡ library_answer library.Is (apply s (renamed next t))

-- a comparison
pub record CompareIsReady (names : List (List ℕ)) (n : ℕ) (c : Comparison) (steps : List Step) (t : Tree) : Type 0 where
  pub ks : List expressions.Step
  pub ready : AreReady names n steps ks
  pub named : key_of t ≡ Some (key (comparison_name c) 2)
  pub comes : (next : ℕ) (s : Subst)
      → compared c next s ks ≡ library_answer (library.Compare c) (apply s (renamed next t))

module _ (names : List (List ℕ)) (low : ℕ) {n : ℕ} {t : Tree} (template : IsTemplate n t) where
  steps_ready : (ks : List written.Step) (steps : List Step) → AllZip (IsLoadedStep names) ks steps
      → OccurIn t (map step_of ks) → AreReady names n steps (map step_of ks)
  steps_ready ks steps loaded occur = record {
    are = steps_are names ks steps loaded;
    inside = steps_there names n ks steps loaded (steps_below t template.below ks occur);
  }

  pub is_ready : (c : compiled.Instruction) (left : Operand) (steps : Vec Step Global)
      → IsLoadedInstruction names low c (Is left steps) → ComesTo c t → IsReady names n left steps.items t
  is_ready (control.Is p ks) left steps loads comes =
      let both : Is left steps ≡ Is loads.0 loads.1 = loads.2 in
      let lefts : loads.0 ≡ left = cc in
      let lists : loads.1 ≡ steps = cc in
      let part_is = subst (λ (o : Operand). IsLoadedPart names 0 p o) lefts loads.3 in
      let loaded = subst (λ (js : Vec Step Global). AllZip (IsLoadedStep names) ks.items js.items) lists loads.4 in
      let own = map step_of ks.items in
      record {
        ks = own;
        ready = steps_ready ks.items steps.items loaded comes.3;
        inside = part_there names n p left part_is (part_below t template.below p comes.2);
        named = comes.0;
        comes = λ next s. ap (λ q. evaluated next s q own) (body_part_same names 0 p left part_is) ∙ comes.1 next s;
      }
  is_ready (control.Compare c ks) left steps loads comes = (let other = loads.1 in absurd (cc))
  is_ready (control.Call c) left steps loads comes = absurd comes
  is_ready (control.Execute c) left steps loads comes = absurd comes
  is_ready control.Proceed left steps loads comes = absurd comes
  is_ready (control.Cut m) left steps loads comes = absurd comes
  is_ready (control.GetLevel k) left steps loads comes = absurd comes
  is_ready (control.TryElse l) left steps loads comes = absurd comes
  is_ready (control.Jump l) left steps loads comes = absurd comes

  pub compare_ready : (c : compiled.Instruction) (d : Comparison) (steps : Vec Step Global)
      → IsLoadedInstruction names low c (Compare d steps) → ComesTo c t → CompareIsReady names n d steps.items t
  compare_ready (control.Compare c ks) d steps loads comes =
      let both : Compare d steps ≡ Compare c loads.0 = loads.1 in
      let same : c ≡ d = cc in
      let lists : loads.0 ≡ steps = cc in
      let loaded = subst (λ (js : Vec Step Global). AllZip (IsLoadedStep names) ks.items js.items) lists loads.2 in
      let own = map step_of ks.items in
      subst (λ (e : Comparison). CompareIsReady names n e steps.items t) same (record {
        ks = own;
        ready = steps_ready ks.items steps.items loaded comes.2;
        named = comes.0;
        comes = comes.1;
      })
  compare_ready (control.Is p ks) d steps loads comes = (let other = loads.2 in absurd (cc))
  compare_ready (control.Call c) d steps loads comes = absurd comes
  compare_ready (control.Execute c) d steps loads comes = absurd comes
  compare_ready control.Proceed d steps loads comes = absurd comes
  compare_ready (control.Cut m) d steps loads comes = absurd comes
  compare_ready (control.GetLevel k) d steps loads comes = absurd comes
  compare_ready (control.TryElse l) d steps loads comes = absurd comes
  compare_ready (control.Jump l) d steps loads comes = absurd comes

-- ---- what words stand for

module _ {W : Type 0} (p : Present W) (ws : List W) where
  -- what the clause's variables stand for
  abbrev pub values : Subst
  values = compose (word_terms p ws) p.substitution

  pub words_stand : StandFor p ws 0 values
  words_stand x w is = sym (ap (apply p.substitution) (word_at p ws x w is))

  -- what a goal over the words stands for
  pub goal_value : (t : Tree)
      → apply values (renamed 0 t) ≡ apply p.substitution (apply (word_terms p ws) t)
  goal_value t = renamed_none values t ∙ sym (apply_apply (word_terms p ws) p.substitution t)

-- ---- built-ins

-- a substitution keeps the key of a goal
key_applied : (s : Subst) (t : Tree) (k : Key) → is_term t ≡ true → key_of t ≡ Some k → key_of (apply s t) ≡ Some k
key_applied s (Variable n) k form h = absurd (cc)
key_applied s (Integer z) k form h = h
key_applied s (Name a) k form h = h
key_applied s (Apply f ts) k form h =
    ap (λ (n : ℕ). Some (key f n)) (count-apply s ts (row_of_arguments f ts form)) ∙ h
key_applied s End k form h = h
key_applied s (More t ts) k form h = absurd (cc)

comparison_found : (c : Comparison) → built_in (key (comparison_name c) 2) ≡ Some (Library (library.Compare c))
comparison_found comparison.Equal = refl
comparison_found comparison.Unequal = refl
comparison_found comparison.Less = refl
comparison_found comparison.AtMost = refl
comparison_found comparison.Greater = refl
comparison_found comparison.AtLeast = refl

module _ (s u : Subst) {n : ℕ} {t : Tree} (template : IsTemplate n t) where
  of_key : (k : Key) (r : row.Library) → key_of t ≡ Some k → built_in k ≡ Some (Library r)
      → IsBuiltIn (apply u (apply s t)) (Library r)
  of_key k r named found = record {
    key = k;
    named = ap key_of (apply_apply s u t) ∙ key_applied (compose s u) t k template.is named;
    found = found;
  }

  pub is_built_in : key_of t ≡ Some (key (codes "is") 2) → IsBuiltIn (apply u (apply s t)) (Library library.Is)
  is_built_in named = of_key (key (codes "is") 2) library.Is named refl

  pub compare_built_in : (c : Comparison) → key_of t ≡ Some (key (comparison_name c) 2)
      → IsBuiltIn (apply u (apply s t)) (Library (library.Compare c))
  compare_built_in c named = of_key (key (comparison_name c) 2) (library.Compare c) named (comparison_found c)

-- a goal is of one row
pub row_same : (t : Tree) (r s : row.Library) → IsBuiltIn t (Library r) → IsBuiltIn t (Library s) → r ≡ s
row_same t r s one other =
    let keys : Some one.key ≡ Some other.key = sym one.named ∙ other.named in
    let same : one.key ≡ other.key = cc in
    let rows : Some (Library r) ≡ Some (Library s) = sym one.found ∙ (ap built_in same ∙ other.found) in
    cc
