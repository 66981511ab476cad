-- The worked loads, step by step where terms are unified, and else by computing the steps.
use Rattle.std.proofs.Common.{◌≡◌, ℕ, suc, ◌+◌, List, [], ◌∷◌, refl, ap, codes, arith}
use Rattle.iso_model.specs.Terms.Trees.{Tree, Variable, Name, End}
use Rattle.iso_model.specs.Terms.Sizes.{size}
use Rattle.iso_model.specs.Terms.Copies.{copy_from}
use Rattle.iso_model.specs.Terms.Lists.{list_of}
use Rattle.iso_model.specs.Terms.Substitutions.{Subst, apply, compose, single}
use Rattle.iso_model.specs.Terms.Unifiers.{Unifier, NeverEqual}
use Rattle.iso_model.specs.Terms.Unification.Composed.{unifier_same, unifier_apply, unifier_bound, unifier_more}
use Rattle.iso_model.specs.Search.Bodies.{Run, And, one, two}
use Rattle.iso_model.specs.Search.Databases.{Clause}
use Rattle.iso_model.specs.Search.Replies.{AsList}
use Rattle.iso_model.specs.Search.Walker.{State, Member, Goal, Fail, Leave, Raise, Meet, Alternative, Catching, Gathering, Goes, step, asked, started, equated, with_copy, met, meets}
use Rattle.iso_model.specs.Worked.Runs.{number, facts, empty}
use Rattle.iso_model.specs.Worked.Control.{true_goal, catch_goal, findall_goal}
use Rattle.iso_model.specs.Worked.Loads.{LoadsAtMost, here, atoms, TrueLoads, AtomsLoad, FactsLoad, BallLoads, FindallLoads, RetractallLoads, NegationLoads}
use Rattle.iso_model.proofs.Search.CallLemmas.{found, retry, tried_found, unify_found, unify_none}
use Rattle.iso_model.proofs.Search.WorkedSteps.{Bounded, Attained, bounded_goes, bounded_by, both_goes, both_gives, both_by, stays_within, comes_to}

pub true_load : TrueLoads
unfolding step stays_within comes_to
true_load n = both_by 10 1 _ refl refl

pub negation_load : NegationLoads
unfolding step stays_within comes_to
negation_load n = both_by 20 4 _ refl refl

pub retractall_load : RetractallLoads
unfolding step stays_within comes_to
retractall_load n = both_by 20 19 _ refl refl

-- ---- `p. q :- p, p.`

abbrev p_fact : Clause
p_fact = record { number = 0; head = Name (codes "p"); body = Run (Name (codes "true")); variables = 0 }

abbrev q_clause : Clause
q_clause = record { number = 1; head = Name (codes "q"); body = And (Run (Name (codes "p"))) (Run (Name (codes "p"))); variables = 0 }

module _ (n : ℕ) where
  abbrev first : State
  first = started (Name (codes "q")) (suc (suc (suc n))) atoms

  abbrev inside : State
  inside = record (found (Name (codes "q")) q_clause [] [] first Variable) { steps = suc (suc n) }

  abbrev both : State
  both = record inside { list = Goal (Run (Name (codes "p"))) 0 ∷ Goal (Run (Name (codes "p"))) 0 ∷ [] }

  abbrev one_left : State
  one_left = record (found (Name (codes "p")) p_fact [] (Goal (Run (Name (codes "p"))) 0 ∷ []) both Variable) { steps = suc n }

  abbrev none_left : State
  none_left = record (found (Name (codes "p")) p_fact [] [] one_left Variable) { steps = n }

  atoms_from : LoadsAtMost first 1
  unfolding step stays_within comes_to
  atoms_from =
      both_goes 1 (ap (λ s. Goes (record s { steps = suc (suc n) })) (tried_found (Name (codes "q")) q_clause [] [] first Variable (unifier_same (Name (codes "q"))))) (omega arith)
      (both_goes 1 refl (omega arith)
      (both_goes 1 (ap (λ s. Goes (record s { steps = suc n })) (tried_found (Name (codes "p")) p_fact [] (Goal (Run (Name (codes "p"))) 0 ∷ []) both Variable (unifier_same (Name (codes "p"))))) (omega arith)
      (both_goes 1 (ap (λ s. Goes (record s { steps = n })) (tried_found (Name (codes "p")) p_fact [] [] one_left Variable (unifier_same (Name (codes "p"))))) (omega arith)
      (both_by 4 1 none_left refl refl))))

pub atoms_load : AtomsLoad
atoms_load = atoms_from

-- ---- `p(1). p(2). p(1).`

abbrev fact : ℕ → Tree → Clause
fact n head = record { number = n; head = head; body = Run (Name (codes "true")); variables = 0 }

abbrev p_of : Tree → Tree
p_of t = one (codes "p") t

abbrev binds : ℕ → Subst
binds k = compose (single 0 (number k)) Variable

fact_unifier : (k : ℕ) → Unifier (p_of (Variable 0)) (p_of (number k)) (binds k)
fact_unifier k = unifier_apply (codes "p") (unifier_more (unifier_bound 0 (number k) refl (λ m e. cc)) (unifier_same End))

module _ (n : ℕ) where
  abbrev asked_facts : State
  asked_facts = started (p_of (Variable 0)) (suc n) facts

  abbrev one_found : State
  one_found = record (found (p_of (Variable 0)) (fact 0 (p_of (number 1))) (fact 1 (p_of (number 2)) ∷ fact 2 (p_of (number 1)) ∷ []) [] asked_facts (binds 1)) { steps = n }

  abbrev two_found : State
  two_found = found (p_of (Variable 0)) (fact 1 (p_of (number 2))) (fact 2 (p_of (number 1)) ∷ []) [] (retry one_found) (binds 2)

  abbrev three_found : State
  three_found = found (p_of (Variable 0)) (fact 2 (p_of (number 1))) [] [] (retry two_found) (binds 1)

  facts_from : LoadsAtMost asked_facts 5
  unfolding step stays_within comes_to
  facts_from =
      both_goes 5
      (ap (λ s. Goes (record s { steps = n })) (tried_found (p_of (Variable 0)) (fact 0 (p_of (number 1))) (fact 1 (p_of (number 2)) ∷ fact 2 (p_of (number 1)) ∷ []) [] asked_facts (binds 1) (fact_unifier 1)))
      (omega arith)
      (both_gives 5 refl (omega arith)
      (both_goes 5 (ap Goes (tried_found (p_of (Variable 0)) (fact 1 (p_of (number 2))) (fact 2 (p_of (number 1)) ∷ []) [] (retry one_found) (binds 2) (fact_unifier 2))) (omega arith)
      (both_gives 5 refl (omega arith)
      (both_goes 5 (ap Goes (tried_found (p_of (Variable 0)) (fact 2 (p_of (number 1))) [] [] (retry two_found) (binds 1) (fact_unifier 1))) (omega arith)
      (both_by 4 5 three_found refl refl)))))

pub facts_load : FactsLoad
facts_load = facts_from

-- ---- a ball at two catch marks

abbrev slash : Tree
slash = two (codes "/") (Name (codes "q")) (number 0)

-- the error of the unknown procedure
abbrev ball : Tree
ball = two (codes "error") (two (codes "existence_error") (Name (codes "procedure")) slash) slash

abbrev nested : Tree
nested = catch_goal (catch_goal (Name (codes "q")) (Name (codes "a")) true_goal) (Name (codes "b")) true_goal

-- a catcher that is never equal to the ball
meets_none : (t catcher recovery : Tree) (rest : List Member) (s : State) → NeverEqual (apply s.subst catcher) (apply s.subst (copy_from t s.next))
    → meets t catcher recovery rest s ≡ record s { list = Raise t ∷ rest; built = s.built + size t }
meets_none t catcher recovery rest s never =
    ap (λ o. met o t recovery rest (record s { built = s.built + size t })) (unify_none s.subst (apply s.subst catcher) (apply s.subst (copy_from t s.next)) never)

module _ (n : ℕ) where
  abbrev outer : Alternative
  outer = record { list = []; subst = Variable; next = 0; built = 0; left = Catching (Name (codes "b")) true_goal }

  abbrev asked_ball : State
  asked_ball = started nested (suc (suc (suc n))) empty

  abbrev inner_mark : State
  inner_mark = record { list = Meet ball (Name (codes "a")) true_goal ∷ Leave 0 ∷ []; subst = Variable; next = 0; built = 5; query = nested; stack = outer ∷ []; world = asked empty; steps = n }

  abbrev outer_mark : State
  outer_mark = record { list = Meet ball (Name (codes "b")) true_goal ∷ []; subst = Variable; next = 0; built = 0; query = nested; stack = []; world = asked empty; steps = n }

  abbrev inner_passed : State
  inner_passed = record inner_mark { list = Raise ball ∷ Leave 0 ∷ []; built = 18 }

  abbrev outer_passed : State
  outer_passed = record outer_mark { list = Raise ball ∷ []; built = 13 }

  inner_step : step inner_mark ≡ Goes inner_passed
  unfolding step
  inner_step = ap Goes (meets_none ball (Name (codes "a")) true_goal (Leave 0 ∷ []) inner_mark (λ t e. cc))

  outer_step : step outer_mark ≡ Goes outer_passed
  unfolding step
  outer_step = ap Goes (meets_none ball (Name (codes "b")) true_goal [] outer_mark (λ t e. cc))

  ball_bounded : Bounded inner_passed 27
  unfolding step stays_within
  ball_bounded = bounded_goes {t = outer_mark} 27 refl (omega arith) (bounded_goes 27 outer_step (omega arith) (bounded_by 2 27 outer_passed refl))

  ball_attained : Attained inner_passed 27
  ball_attained = (inner_passed, here, refl)

  ball_from : LoadsAtMost asked_ball 27
  unfolding step
  ball_from =
      both_goes 27 refl (omega arith)
      (both_goes 27 refl (omega arith)
      (both_goes 27 refl (omega arith)
      (both_goes {t = inner_mark} 27 refl (omega arith) (both_goes 27 inner_step (omega arith) (ball_bounded, ball_attained)))))

pub ball_load : BallLoads
ball_load = ball_from

-- ---- the list of a findall/3

abbrev gathering : Tree
gathering = findall_goal (Name (codes "a")) true_goal (Variable 0)

abbrev one_copy : Tree
one_copy = list_of (Name (codes "a") ∷ [])

module _ (n : ℕ) where
  abbrev gatherer : Alternative
  gatherer = record { list = []; subst = Variable; next = 1; built = 0; left = Gathering (AsList (Variable 0)) (Name (codes "a") ∷ []) 0 }

  abbrev asked_findall : State
  asked_findall = started gathering (suc (suc n)) empty

  abbrev gathered_all : State
  gathered_all = record { list = Fail ∷ []; subst = Variable; next = 1; built = 1; query = gathering; stack = gatherer ∷ []; world = asked empty; steps = n }

  abbrev at_end : State
  at_end = record { list = []; subst = Variable; next = 1; built = 0; query = gathering; stack = []; world = asked empty; steps = n }

  abbrev listed : State
  listed = record at_end { subst = compose Variable (single 0 one_copy); built = 4 }

  list_step : step gathered_all ≡ Goes listed
  unfolding step
  list_step = ap (λ o. Goes (equated o [] (with_copy 4 one_copy at_end))) (unify_found Variable (Variable 0) one_copy (unifier_bound 0 one_copy refl (λ m e. cc)))

  findall_from : LoadsAtMost asked_findall 10
  unfolding step stays_within comes_to
  findall_from =
      both_goes 10 refl (omega arith)
      (both_goes 10 refl (omega arith)
      (both_goes {t = gathered_all} 10 refl (omega arith) (both_goes 10 list_step (omega arith) (both_by 4 10 listed refl refl))))

pub findall_load : FindallLoads
findall_load = findall_from
