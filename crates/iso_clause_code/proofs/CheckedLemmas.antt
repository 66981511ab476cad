-- A clause that was checked is compiled and loaded.
use Rattle.std.proofs.Common.{◌≡◌, ℕ, List, Option, Some, None, true, refl, sym, ap, subst, ◌∙◌}
use Rattle.std.specs.Prelude.{IfOk, IfSome, Result, Ok, Err}
use Rattle.iso_model.specs.Terms.Trees.{Tree, Variable, Integer, Name, Apply, End, More, count}
use Rattle.iso_model.specs.Terms.Sorts.{is_term, is_row}
use Rattle.iso_model.specs.Search.Bodies.{Body}
use Rattle.iso_model.specs.Search.Databases as databases
use Rattle.iso_model.proofs.OnTerms.SortLemmas.{row_of_arguments}
use Rattle.iso_prep.specs.Preparations.{Preparation}
use Rattle.iso_alloc.specs.Plans.{Layout, IsPlan, arguments_of}
use Rattle.iso_compile.specs.declared.clauses.Code as compiled
use Rattle.iso_compile.specs.Clauses.{IsCode}
use Rattle.iso_program.specs.declared.checked.Checked.{Checked}
use Rattle.iso_program.specs.Kept.{IsChecked, IsOfTerm}
use Rattle.iso_instructions.specs.declared.instructions.Code.{Code}
use Rattle.iso_bodies.specs.Clauses.{IsLoadedCode, IsNameOf}
use Rattle.iso_machine_core.proofs.NumberLemmas.{HasNext, head_numbered}
use Rattle.iso_clause_code.specs.Keeping.{KeepsCode, preparation_of}

-- the arguments of a head that is a term are terms
pub arguments_row : (h : Option Tree) → IfSome h (λ t. is_term t ≡ true) → is_row (arguments_of h) ≡ true
arguments_row None is = refl
arguments_row (Some (Apply f ts)) is = row_of_arguments f ts is
arguments_row (Some (Variable x)) is = refl
arguments_row (Some (Integer z)) is = refl
arguments_row (Some (Name a)) is = refl
arguments_row (Some End) is = refl
arguments_row (Some (More t ts)) is = refl

-- of these parts
abbrev of_parts : Option Tree → Body → ℕ → Preparation
of_parts h b n = record { head = h; body = b; variables = n }

-- what was prepared is the clause
prepared_same : (p : Preparation) (c : databases.Clause) → p.head ≡ Some c.head → p.body ≡ c.body → p.variables ≡ c.variables → p ≡ preparation_of c
prepared_same p c head body variables =
    ap (λ h. of_parts h p.body p.variables) head ∙ ap (λ b. of_parts (Some c.head) b p.variables) body ∙ ap (of_parts (Some c.head) c.body) variables

-- the variables of its head are numbered by first occurrence
numbered_head : (p : Preparation) (c : databases.Clause) → IsOfTerm p c.body → p.head ≡ Some c.head → HasNext (arguments_of (Some c.head))
numbered_head p c of head = subst (λ h. HasNext (arguments_of h)) (sym (ap (λ q. q.head) of.is) ∙ head) (head_numbered of.clause)

-- where these are the names of the atoms
pub checked_code : (names : List (List ℕ)) (checked : Checked) (plan : Layout) (compiled : compiled.Code) (code : Code) → IsPlan plan checked.prepared → IsCode checked.prepared plan compiled
    → IsLoadedCode names plan.registers (count (arguments_of checked.prepared.head)) checked.prepared.variables compiled code
    → code.arity ≡ count (arguments_of checked.prepared.head)
    → (c : databases.Clause) → IsChecked checked c → IsNameOf names code.name c.head → KeepsCode names code c
checked_code names checked plan compiled code planned is loaded arity c h name =
    let same = prepared_same checked.prepared c h.head h.body h.variables in
    record {
      plan = plan;
      compiled = compiled;
      planned = subst (IsPlan plan) same planned;
      is = subst (λ p. IsCode p plan compiled) same is;
      loaded = subst (λ p. IsLoadedCode names plan.registers (count (arguments_of p.head)) p.variables compiled code) same loaded;
      name = name;
      arity = arity ∙ ap (λ (t : Option Tree). count (arguments_of t)) h.head;
      numbered = numbered_head checked.prepared c h.numbered h.head;
      few = h.few;
      head = h.head_template;
      goals = h.goal_templates;
    }

-- what holds of a value that may have come, by two clauses of it
pub if_ok_both : {T E : Type 0} {P Q R : T → Type 0} (r : Result T E) → IfOk r P → IfOk r Q
    → ((x : T) → P x → Q x → R x) → IfOk r R
if_ok_both (Ok x) p q f = f x p q
if_ok_both (Err e) p q f = tt
