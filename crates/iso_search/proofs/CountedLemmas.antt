-- What a step comes to asks the same query, and counts what was made for it.
use Rattle.std.proofs.Common.{◌≡◌, ◌≤◌, ◌⊎◌, ℕ, ◌+◌, List, [], ◌∷◌, length, Option, Some, None, true, false, if◌then◌else◌, refl, inl, inr, arith}
use Rattle.iso_model.specs.Terms.Trees.{Tree}
use Rattle.iso_model.specs.Terms.Sizes.{size}
use Rattle.iso_model.specs.Terms.Substitutions.{Subst, apply}
use Rattle.iso_model.specs.Terms.Copies.{copy_from, renamed}
use Rattle.iso_model.specs.Terms.Unification.{unifier_of}
use Rattle.iso_model.specs.Search.Databases.{Clause}
use Rattle.iso_model.specs.Search.BuiltIns.{Reply, Equates, EquatesCopy, Calls, CallsOnce, Refutes, Catches, Gathers, AsList, InGroups}
use Rattle.iso_model.specs.Search.Settlements.{Settled, Offers, Offer, Reference}
use Rattle.iso_model.specs.Search.Walker.{State, Member, Leave, Catching, Goes, clause_size, entered, equated, fails, is_there, meets, met, met_right, offered, pushed, replied, settled, taken, tried_clause, tried_right, under, with_copy, with_rights}
use Rattle.iso_model.proofs.Search.RunLaws.CountLemmas.{offered_built}
use Rattle.iso_search_core.specs.Cells.{reply_cells}
use Rattle.iso_storage.specs.Cells.{settled_cells}

pub equated_query : (o : Option Subst) (rest : List Member) (s : State) → (equated o rest s).query ≡ s.query
equated_query None rest s = refl
equated_query (Some u) rest s = refl

pub equated_counts : (o : Option Subst) (rest : List Member) (s : State) → (equated o rest s).built ≡ s.built
equated_counts None rest s = refl
equated_counts (Some u) rest s = refl

-- a clause that is tried is counted, entered or not
pub clause_counts : (call : Tree) (c : Clause) (mark : ℕ) (rest : List Member) (s : State) → (tried_clause call c mark rest s).built ≡ s.built + clause_size c
clause_counts call c mark rest s = by_unifier (under s.subst (unifier_of call (apply s.subst (renamed s.next c.head)))) where
  by_unifier : (o : Option Subst) → (entered o c s.next mark rest (record s { next = s.next + c.variables; built = s.built + clause_size c })).built ≡ s.built + clause_size c
  by_unifier None = refl
  by_unifier (Some u) = refl

-- ---- rows

taken_query : (o : Option Subst) (removes : Option Reference) (rest : List Member) (s : State) → (taken o removes rest s).query ≡ s.query
taken_query None removes rest s = refl
taken_query (Some u) removes rest s = refl

pub right_query : (left : Tree) (o : Offer) (rest : List Member) (s : State) → (tried_right left o rest s).query ≡ s.query
right_query left o rest s =
    elim (is_there o.removes s.world) as (λ x. (if x then met_right left o rest s else fails s).query ≡ s.query) [
      | true ↦ taken_query (under s.subst (unifier_of left (apply s.subst (renamed s.next o.right)))) o.removes rest (record s { next = s.next + o.variables; built = s.built + o.made })
      | false ↦ refl
    ]

pub offered_query : (left : Tree) (os : List Offer) (rest : List Member) (s : State) → (offered left os rest s).query ≡ s.query
offered_query left [] rest s = refl
offered_query left (o ∷ []) rest s = right_query left o rest s
offered_query left (o ∷ i ∷ os) rest s = right_query left o rest (with_rights left (i ∷ os) rest s)

-- what is settled counts what was made for it
pub settled_counts : (x : Settled) (rest : List Member) (s : State) → ((settled x rest s).query ≡ s.query) × (s.built + settled_cells x ≤ (settled x rest s).built)
settled_counts (Offers left rights) rest s = (offered_query left rights rest s, (let counted = offered_built left rights rest s in omega (arith, counted)))
settled_counts x rest s = (refl, omega arith)

-- ---- a ball that a catcher meets

pub meets_query : (ball catcher recovery : Tree) (rest : List Member) (s : State) → (meets ball catcher recovery rest s).query ≡ s.query
meets_query ball catcher recovery rest s = by_answer (under s.subst (unifier_of (apply s.subst catcher) (apply s.subst (copy_from ball s.next)))) where
  by_answer : (o : Option Subst) → (met o ball recovery rest (record s { built = s.built + size ball })).query ≡ s.query
  by_answer None = refl
  by_answer (Some u) = refl

-- ---- a reply

-- A reply makes nothing, or goes to a state that counts what it makes.
pub replied_counts : (x : Reply) (rest : List Member) (s : State) → (reply_cells x ≡ 0) ⊎ ((v : State) × (replied x rest s ≡ Goes v) × (v.query ≡ s.query) × (s.built + reply_cells x ≤ v.built))
replied_counts (Calls b) rest s = inr (_, refl, refl, omega arith)
replied_counts (CallsOnce b) rest s = inr (_, refl, refl, omega arith)
replied_counts (Refutes b) rest s = inr (_, refl, refl, omega arith)
replied_counts (Gathers template b (AsList result)) rest s = inr (_, refl, refl, omega arith)
replied_counts (Gathers template b (InGroups by)) rest s = inr (_, refl, refl, omega arith)
replied_counts (Equates made a b) rest s =
    let o = under s.subst (unifier_of a b) in
    let v = record s { built = s.built + made } in
    inr (equated o rest v, refl, equated_query o rest v, (let counted = equated_counts o rest v in omega (arith, counted)))
replied_counts (EquatesCopy a b) rest s =
    let o = under s.subst (unifier_of a (apply s.subst (copy_from b s.next))) in
    let v = with_copy (1 + size b) b s in
    inr (equated o rest v, refl, equated_query o rest v, (let counted = equated_counts o rest v in omega (arith, counted)))
replied_counts (Catches inside catcher recovery) rest s = replied_counts inside (Leave (length s.stack) ∷ rest) (pushed rest (Catching catcher recovery) s)
replied_counts x rest s = inl refl
