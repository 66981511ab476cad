-- Clauses that goals add: the errors, and where they come to.
use Rattle.std.proofs.Common.{◌≡◌, ◌<◌, nat_lt, ◌&&◌, ◌||◌, ℕ, List, Bool, true, false, Option, Some, None, codes, refl, sym, ap, ◌∙◌, inl, inr, if◌then◌else◌, Ok, Err, Result, Vec, Global, IsErrAnd, bytes_eq}
use Rattle.std.proofs.lemmas.Bool.{cases_Bool, and_parts}
use Rattle.iso_model.specs.Terms.Trees.{Tree, Variable, Integer, Name, Apply, End, More, arities_fit}
use Rattle.iso_model.specs.Terms.TermOf.{term_of}
use Rattle.iso_model.specs.Terms.Copies.{copy_from}
use Rattle.iso_model.specs.Terms.Sorts.{is_term}
use Rattle.iso_model.specs.Terms.Variables.{variable_count}
use Rattle.iso_model.specs.Search.Bodies.{Body, converted}
use Rattle.iso_model.specs.Search.Databases as databases
use Rattle.iso_model.specs.Search.Databases.{Key, key_of, Dynamic, is_static, kind_at}
use Rattle.iso_model.specs.Search.BuiltIns.{is_built_in}
use Rattle.iso_model.specs.Search.Errors.{permission_error}
use Rattle.iso_model.specs.Search.Additions.{Check, Fits, Faulty, NotUser, TooManyVariables, head_of, body_of, checked, prepared_head, prepared_body, prepared_small, user_checked, fault_error, clause_of, most_variables, with_added, asserted, addition_by, dynamic_checked}
use Rattle.iso_model.specs.Search.Settlements.{Refuses, Changes}
use Rattle.iso_model.specs.Search.Storages.{addition_settled, is_fixed}
use Rattle.iso_model.specs.Search.Worlds.{World}
use Rattle.iso_model.specs.declared.pauses.Ball.{Ball}
use Rattle.iso_model.specs.declared.pauses.AddFault.TheVariants as add
use Rattle.iso_db.specs.Databases.{is_not_static}
use Rattle.iso_db.specs.declared.kinds.Kind.{Kind}
use Rattle.iso_lib_core.proofs.ErrorLemmas.{callable_fits}
use Rattle.iso_program.specs.declared.checked.Checked.{Checked}
use Rattle.iso_program.specs.declared.procedures.Way.{Way}
use Rattle.iso_program.specs.declared.procedures.Way.TheVariants as way
use Rattle.iso_program.specs.Adding.{with_more, MayCome}
use Rattle.iso_program.specs.Kept.{Keeping, IsAddition, IsRefused, Prepares}
use Rattle.iso_program.proofs.ClauseLemmas.{few_arguments}
use Rattle.iso_program.proofs.PrepareLemmas.{one_tree}
use Rattle.iso_db.specs.Databases.{Database}
use Rattle.iso_lib_core.specs.declared.outcomes.Fault.{Fault}
use Rattle.iso_lib_core.specs.declared.outcomes.Fault.TheVariants as fault
use Rattle.iso_lib.specs.Settlements.{IsRefused as Raised}
use Rattle.iso_program.specs.declared.callables.Callable.{Callable}
use Rattle.iso_program.specs.declared.clauses.Clause.{Clause as KeptClause}
use Rattle.iso_storage.specs.Adding.{IsFaulty, IsPrepared}
use Rattle.iso_storage.specs.Storing.{IsChanged, place_of}

-- ---- the errors are terms that a store can hold

abbrev FaultFits : Key → Check → Type 0
FaultFits by (Fits k b) = Unit {0}
FaultFits by (Faulty fault) = arities_fit (fault_error by fault) ≡ true

pub head_fits : (t : Tree) → arities_fit t ≡ true → arities_fit (head_of t) ≡ true
head_fits (Apply f (More h (More b End))) fits =
    elim (cases_Bool (bytes_eq f (codes ":-"))) [
      | inl here ↦ rw here ((and_parts (arities_fit h) (arities_fit b && true) fits).0)
      | inr other ↦ rw other fits
    ]
head_fits t fits = fits

pub body_fits : (t : Tree) → arities_fit t ≡ true → arities_fit (body_of t) ≡ true
body_fits (Apply f (More h (More b End))) fits =
    elim (cases_Bool (bytes_eq f (codes ":-"))) [
      | inl here ↦ rw here ((and_parts (arities_fit b) true (and_parts (arities_fit h) (arities_fit b && true) fits).1).0)
      | inr other ↦ rw other refl
    ]
body_fits t fits = refl

small_fits : (by : Key) (t : Tree) (k : Key) (b : Body) → FaultFits by (user_checked (prepared_small t k b))
small_fits by t k b = by_count (nat_lt most_variables (variable_count t)) where
  by_user : (c : Bool) → FaultFits by (if c then Faulty (NotUser k) else Fits k b)
  by_user true = refl
  by_user false = tt

  by_count : (c : Bool) → FaultFits by (user_checked (if c then Faulty TooManyVariables else Fits k b))
  by_count true = refl
  by_count false = by_user (is_built_in k)

body_part_fits : (by : Key) (t : Tree) (k : Key) (o : Option Body) → arities_fit t ≡ true
    → FaultFits by (user_checked (prepared_body t k o))
body_part_fits by t k None fits = callable_fits (body_of t) by (body_fits t fits)
body_part_fits by t k (Some b) fits = small_fits by t k b

head_part_fits : (by : Key) (t h : Tree) (o : Option Key) → arities_fit t ≡ true → arities_fit h ≡ true
    → FaultFits by (user_checked (prepared_head t h o))
head_part_fits by t (Variable n) o fits also = refl
head_part_fits by t (Integer z) None fits also = refl
head_part_fits by t (Name a) None fits also = refl
head_part_fits by t (Apply f ts) None fits also = callable_fits (Apply f ts) by also
head_part_fits by t End None fits also = refl
head_part_fits by t (More u us) None fits also = callable_fits (More u us) by also
head_part_fits by t h (Some k) fits also = body_part_fits by t k (converted (body_of (copy_from t 0))) fits

-- a clause that was refused
pub refused : (by : Key) (t : Tree) (ball : Ball) → arities_fit t ≡ true → Prepares by t (Err (add.Refused ball))
    → IsFaulty by (checked t) ball
refused by t ball fits is = by_check (checked t) (head_part_fits by t (head_of t) (key_of (head_of t)) fits (head_fits t fits)) is where
  by_check : (c : Check) → FaultFits by c → IsRefused by c (term_of ball.term.value) → IsFaulty by c ball
  by_check (Fits k b) fit h = absurd h
  by_check (Faulty fault) fit h = (sym h, ap arities_fit (sym h) ∙ fit)

-- ---- what an addition comes to

module _ (t : Tree) (kept : Checked) (is : IsAddition t kept) (place : databases.Place) (by : Key) (w : World) (k : Key)
    (same : k ≡ is.key) where
  static : (fixed : Bool) → is_fixed w.database.procedures k ≡ fixed → is_static (kind_at w.database.procedures k) ≡ fixed
  static fixed there = ap (λ b. b || is_static (kind_at w.database.procedures k)) (sym (ap is_built_in same ∙ is.user)) ∙ there

  pub addition_is : (fixed : Bool) → is_fixed w.database.procedures k ≡ fixed
      → addition_settled (asserted place by t w.database) w ≡ (if fixed then Refuses (permission_error k by)
      else Changes 0 (record w { database = with_added place Dynamic t k is.body w.database }))
  addition_is true there = rw (is.fits, ← same, static true there) refl
  addition_is false there = rw (is.fits, ← same, static false there) refl

-- the database with the clause, by a goal
pub way_more : (x : Way) → (x ≡ way.Consulted → ⊥) → (m : databases.Database) (t : Tree) (k : Key) (b : Body)
    → with_more x m k (clause_of t b m.added) ≡ with_added (place_of x) Dynamic t k b m
way_more way.Consulted not m t k b = absurd (not refl)
way_more x not m t k b = refl

pub may_come : (x : Way) → (x ≡ way.Consulted → ⊥) → (o : Option Kind) → is_not_static o ≡ true → MayCome x o
may_come way.Consulted not o is = absurd (not refl)
may_come x not o is = is

-- the key of a head that was checked, which has few arguments
pub checked_few : (t : Tree) (kept : Checked) (is : IsAddition t kept) (h : Tree) (k : Key)
    → kept.prepared.head ≡ Some h → key_of h ≡ Some k → k.arity < 256
checked_few t kept is h k there named =
    let c = is.clause 0 in
    few_arguments h k (ap is_term (one_tree (sym there ∙ c.head)) ∙ c.head_template.is) named

-- a clause was refused before its procedure was looked at
pub unprepared : {C : Type 0} (keeps : Keeping C) (names : List (List ℕ)) (d : Database (KeptClause C))
    (rows : List (Vec Callable Global)) (w : World) (place : databases.Place) (by : Key) (t : Tree) (e : Fault)
    (r : Result Unit Fault) → IsPrepared by t (Err e) → IsErrAnd r (λ x. x ≡ e)
    → IsChanged keeps names d rows w (addition_settled (asserted place by t w.database) w) r
unprepared keeps names d rows w place by t e (Ok u) h is = absurd is
unprepared keeps names d rows w place by t (fault.Raise ball) (Err x) h is = rw is (by_check (checked t) h) where
  by_check : (c : Check) → IsFaulty by c ball → Raised
      (addition_settled (addition_by place Dynamic by t w.database (dynamic_checked w.database.procedures c)) w) ball
  by_check (Fits k b) h = absurd h
  by_check (Faulty fault) h = h
unprepared keeps names d rows w place by t fault.Full (Err x) h is = absurd h
unprepared keeps names d rows w place by t fault.NoMemory (Err x) h is = rw is tt
