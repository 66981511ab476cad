-- What a call comes to, by the unifier that it has with the head of the first clause.
use Rattle.std.proofs.Common.{◌≡◌, ℕ, ◌+◌, List, [], ◌∷◌, Option, Some, None, length, refl, ap}
use Rattle.iso_model.specs.Terms.Trees.{Tree, Variable}
use Rattle.iso_model.specs.Terms.Substitutions.{Subst, apply, compose}
use Rattle.iso_model.specs.Terms.Unifiers.{Unifier, NeverEqual, IsUnifierOf}
use Rattle.iso_model.specs.Terms.Unification.{unifier_of}
use Rattle.iso_model.proofs.OnTerms.UniqueUnifiers.{unifier_unique}
use Rattle.iso_model.specs.Terms.Copies.{copy_from, renamed}
use Rattle.iso_model.specs.Terms.Sizes.{size}
use Rattle.iso_model.specs.Terms.Variables.{variable_count}
use Rattle.iso_model.specs.Search.Bodies.{map_body}
use Rattle.iso_model.specs.Search.Databases.{Clause}
use Rattle.iso_model.specs.Search.Walker.{State, Member, Fail, Alternative, Goes, before, under, entered, equated, with_copy, replied, clause_size, with_others, tried, tried_clause, fails}
use Rattle.iso_model.specs.Search.BuiltIns.{Equates, EquatesCopy}
use Rattle.iso_model.specs.Terms.Unification.{unifier_of_is}

answer_same : (a b : Tree) (u : Subst) (found : Option Subst) → Unifier a b u → IsUnifierOf a b found → found ≡ Some u
answer_same a b u (Some s) h k = ap Some (unifier_unique a b s u k h)
answer_same a b u None h never = absurd (never u h.equal)

answer_none : (a b : Tree) (found : Option Subst) → NeverEqual a b → IsUnifierOf a b found → found ≡ None
answer_none a b (Some s) never k = absurd (never s k.equal)
answer_none a b None never k = refl

-- unifying finds the unifier
pub unify_found : (r : Subst) (a b : Tree) {u : Subst} → Unifier a b u → under r (unifier_of a b) ≡ Some (compose r u)
unify_found r a b {u} h =
    let is = answer_same a b u (unifier_of a b) h (unifier_of_is a b) in
    rw is refl

pub unify_none : (r : Subst) (a b : Tree) → NeverEqual a b → under r (unifier_of a b) ≡ None
unify_none r a b never =
    let is = answer_none a b (unifier_of a b) never (unifier_of_is a b) in
    rw is refl

-- what a clause makes is counted
abbrev pub counted : Clause → State → State
counted c s = record s { next = s.next + c.variables; built = s.built + clause_size c }

-- the clause is entered with this unifier
abbrev pub found : Tree → Clause → List Clause → List Member → State → Subst → State
found call c cs rest s u = record s {
  list = before (map_body (λ k. Variable (s.next + k)) c.body) (length s.stack) rest;
  subst = compose s.subst u;
  next = s.next + c.variables;
  built = s.built + clause_size c;
  stack = (with_others call cs rest s).stack;
}

-- the clause is not entered
abbrev pub missed : Tree → Clause → List Clause → List Member → State → State
missed call c cs rest s =
    record s { list = Fail ∷ []; next = s.next + c.variables; built = s.built + clause_size c; stack = (with_others call cs rest s).stack }

-- the first clause's head has this unifier with the call
pub tried_found : (call : Tree) (c : Clause) (cs : List Clause) (rest : List Member) (s : State) (u : Subst) → Unifier call (apply s.subst (renamed s.next c.head)) u
    → tried call (c ∷ cs) rest s ≡ found call c cs rest s u
tried_found call c [] rest s u h =
    ap (λ o. entered o c s.next (length s.stack) rest (counted c s)) (unify_found s.subst call (apply s.subst (renamed s.next c.head)) h)
tried_found call c (d ∷ ds) rest s u h =
    let p = with_others call (d ∷ ds) rest s in
    ap (λ o. entered o c s.next (length s.stack) rest (counted c p)) (unify_found s.subst call (apply s.subst (renamed s.next c.head)) h)

-- it is never equal to the call
pub tried_missed : (call : Tree) (c : Clause) (cs : List Clause) (rest : List Member) (s : State) → NeverEqual call (apply s.subst (renamed s.next c.head))
    → tried call (c ∷ cs) rest s ≡ missed call c cs rest s
tried_missed call c [] rest s never =
    ap (λ o. entered o c s.next (length s.stack) rest (counted c s)) (unify_none s.subst call (apply s.subst (renamed s.next c.head)) never)
tried_missed call c (d ∷ ds) rest s never =
    let p = with_others call (d ∷ ds) rest s in
    ap (λ o. entered o c s.next (length s.stack) rest (counted c p)) (unify_none s.subst call (apply s.subst (renamed s.next c.head)) never)

-- an equation's terms have this unifier
pub run_equation : (made : ℕ) (a b : Tree) (rest : List Member) (s : State) (u : Subst) → Unifier a b u
    → replied (Equates made a b) rest s ≡ Goes (record s { list = rest; subst = compose s.subst u; built = s.built + made })
run_equation made a b rest s u h = ap (λ o. Goes (equated o rest (record s { built = s.built + made }))) (unify_found s.subst a b h)

-- they are never equal
pub run_equation_missed : (made : ℕ) (a b : Tree) (rest : List Member) (s : State) → NeverEqual a b
    → replied (Equates made a b) rest s ≡ Goes (record s { list = Fail ∷ []; built = s.built + made })
run_equation_missed made a b rest s never = ap (λ o. Goes (equated o rest (record s { built = s.built + made }))) (unify_none s.subst a b never)

-- a term and a copy have this unifier
pub run_copy : (a b : Tree) (rest : List Member) (s : State) (u : Subst) → Unifier a (apply s.subst (copy_from b s.next)) u
    → replied (EquatesCopy a b) rest s ≡ Goes (record s { list = rest; subst = compose s.subst u; next = s.next + variable_count b; built = s.built + (1 + size b) })
run_copy a b rest s u h = ap (λ o. Goes (equated o rest (with_copy (1 + size b) b s))) (unify_found s.subst a (apply s.subst (copy_from b s.next)) h)

-- they are never equal
pub run_copy_missed : (a b : Tree) (rest : List Member) (s : State) → NeverEqual a (apply s.subst (copy_from b s.next))
    → replied (EquatesCopy a b) rest s ≡ Goes (record s { list = Fail ∷ []; next = s.next + variable_count b; built = s.built + (1 + size b) })
run_copy_missed a b rest s never = ap (λ o. Goes (equated o rest (with_copy (1 + size b) b s))) (unify_none s.subst a (apply s.subst (copy_from b s.next)) never)

-- the clause is tried, whose head has this unifier with the call
pub clause_found : (call : Tree) (c : Clause) (mark : ℕ) (rest : List Member) (s : State) (u : Subst) → Unifier call (apply s.subst (renamed s.next c.head)) u
    → tried_clause call c mark rest s
    ≡ record s { list = before (map_body (λ k. Variable (s.next + k)) c.body) mark rest; subst = compose s.subst u; next = s.next + c.variables; built = s.built + clause_size c }
clause_found call c mark rest s u h =
    ap (λ o. entered o c s.next mark rest (counted c s)) (unify_found s.subst call (apply s.subst (renamed s.next c.head)) h)

-- its head is never equal to the call
pub clause_missed : (call : Tree) (c : Clause) (mark : ℕ) (rest : List Member) (s : State) → NeverEqual call (apply s.subst (renamed s.next c.head))
    → tried_clause call c mark rest s ≡ record s { list = Fail ∷ []; next = s.next + c.variables; built = s.built + clause_size c }
clause_missed call c mark rest s never =
    ap (λ o. entered o c s.next mark rest (counted c s)) (unify_none s.subst call (apply s.subst (renamed s.next c.head)) never)

-- whether it is entered or not, the stack, the world and the query stay
pub clause_keeps : (call : Tree) (c : Clause) (mark : ℕ) (rest : List Member) (s : State)
    → ((tried_clause call c mark rest s).stack ≡ s.stack) × ((tried_clause call c mark rest s).world ≡ s.world) × ((tried_clause call c mark rest s).query ≡ s.query)
clause_keeps call c mark rest s = by_unifier (under s.subst (unifier_of call (apply s.subst (renamed s.next c.head)))) where
  by_unifier : (o : Option Subst) → ((entered o c s.next mark rest (counted c s)).stack ≡ s.stack) × ((entered o c s.next mark rest (counted c s)).world ≡ s.world) × ((entered o c s.next mark rest (counted c s)).query ≡ s.query)
  by_unifier None = (refl, refl, refl)
  by_unifier (Some u) = (refl, refl, refl)

-- the state behind failure, at which the newest alternative's clauses are tried
abbrev pub retry_from : List Alternative → State → State
retry_from [] s = s
retry_from (a ∷ below) s = record s { list = a.list; subst = a.subst; next = a.next; built = a.built; stack = below }

abbrev pub retry : State → State
retry s = retry_from s.stack (fails s)
