-- What goals come to that read or change the database is made of values, where the goal is one.
use Rattle.std.proofs.Common.{ℕ, List, [], ◌∷◌, map, true, false, Option, Some, None, Result, Ok, Err, refl, codes, if◌then◌else◌}
use Rattle.std.specs.Str.{bytes_eq}
use Rattle.iso_model.specs.Terms.Trees.{Tree, Variable, Integer, Name, Apply, End, More, row}
use Rattle.iso_model.specs.Terms.Types.{is_integer}
use Rattle.iso_model.specs.Terms.Substitutions.{Subst}
use Rattle.iso_model.specs.Terms.Arguments.{argument}
use Rattle.iso_model.specs.Search.Keys.{Key, key, key_of}
use Rattle.iso_model.specs.Search.Errors.{indicator, type_error_callable, not_permitted, permission_error}
use Rattle.iso_model.specs.Search.Databases.{at_front, at_end}
use Rattle.iso_model.specs.Search.Additions.{Addition, head_of, body_of, asserted}
use Rattle.iso_model.specs.Search.Additions as additions
use Rattle.iso_model.specs.Search.Worlds.{World}
use Rattle.iso_model.specs.Search.Storages as table
use Rattle.iso_model.specs.Search.Storages.{Settled, Refuses, Changes, Offers, clause_key, retract_key, retractall_key, storage_settled}
use Rattle.iso_model.proofs.Search.RunLaws.TermValues.{argument_value, row_value}
use Rattle.iso_model.proofs.Search.RunLaws.SettingValues.{IsOwnSettled}
use Rattle.iso_model.specs.declared.kinds.Storage.{Storage}
use Rattle.iso_model.specs.declared.kinds.Storage.TheVariants as storage
use Rattle.iso_model.specs.Search.RunLaws.Sameness.{IsValue}

addition_own : (r : Subst) (x : Addition) (w : World) → IsOwnSettled r (table.addition_settled x w)
addition_own r (additions.Adds db) w = tt
addition_own r (additions.Refuses error) w = tt

-- ---- heads

key_own : (r : Subst) (h : Tree) (k : Option Key) (by : Key) (goes_on : Key → Settled) → ((k : Key) → IsOwnSettled r (goes_on k)) → IsOwnSettled r (table.with_key h k by goes_on)
key_own r h None by goes_on own = tt
key_own r h (Some k) by goes_on own = own k

head_own : (r : Subst) (h : Tree) (by : Key) (goes_on : Key → Settled) → ((k : Key) → IsOwnSettled r (goes_on k)) → IsOwnSettled r (table.with_head h by goes_on)
head_own r (Variable n) by goes_on own = tt
head_own r (Integer z) by goes_on own = tt
head_own r (Name a) by goes_on own = own (key a 0)
head_own r (Apply f ts) by goes_on own = key_own r (Apply f ts) (key_of (Apply f ts)) by goes_on own
head_own r End by goes_on own = tt
head_own r (More t ts) by goes_on own = tt

head_value : (r : Subst) (t : Tree) → IsValue r t → IsValue r (head_of t)
head_value r (Apply f (More h (More b End))) own = elim (bytes_eq f (codes ":-")) as (λ x. IsValue r (if x then h else Apply f (More h (More b End)))) [
  | true ↦ argument_value r 0 (Apply f (More h (More b End))) own
  | false ↦ own
]
head_value r (Variable n) own = own
head_value r (Integer z) own = own
head_value r (Name a) own = own
head_value r End own = own
head_value r (More t ts) own = own
head_value r (Apply f ts) own = own

body_value : (r : Subst) (t : Tree) → IsValue r t → IsValue r (body_of t)
body_value r (Apply f (More h (More b End))) own = elim (bytes_eq f (codes ":-")) as (λ x. IsValue r (if x then b else Name (codes "true"))) [
  | true ↦ argument_value r 1 (Apply f (More h (More b End))) own
  | false ↦ refl
]
body_value r (Variable n) own = refl
body_value r (Integer z) own = refl
body_value r (Name a) own = refl
body_value r End own = refl
body_value r (More t ts) own = refl
body_value r (Apply f ts) own = refl

-- ---- the rows

clause_own : (r : Subst) (h b : Tree) (w : World) → IsValue r h → IsValue r b → IsOwnSettled r (table.clause_settled h b w)
clause_own r h b w first second = head_own r h clause_key (λ k.
    let shown = Offers (row (h ∷ b ∷ [])) (map table.shown_clause (table.clauses_of w.database.procedures k)) in
    let allowed = if table.is_fixed w.database.procedures k then Refuses (not_permitted (codes "access") (codes "private_procedure") (indicator k) clause_key) else shown in
    if is_integer b then Refuses (type_error_callable b clause_key) else allowed) (λ k.
    let shown = Offers (row (h ∷ b ∷ [])) (map table.shown_clause (table.clauses_of w.database.procedures k)) in
    let refused = Refuses (not_permitted (codes "access") (codes "private_procedure") (indicator k) clause_key) in
    elim (is_integer b) as (λ x. IsOwnSettled r (if x then Refuses (type_error_callable b clause_key) else (if table.is_fixed w.database.procedures k then refused else shown))) [
      | true ↦ tt
      | false ↦ elim (table.is_fixed w.database.procedures k) as (λ x. IsOwnSettled r (if x then refused else shown)) [
        | true ↦ tt
        | false ↦ row_value r (h ∷ b ∷ []) (first, (second, tt))
      ]
    ])

retract_own : (r : Subst) (t : Tree) (w : World) → IsValue r t → IsOwnSettled r (table.retract_settled t w)
retract_own r t w own = head_own r (head_of t) retract_key (λ k.
    let offers = Offers (row (head_of t ∷ body_of t ∷ [])) (map (table.removed_clause k) (table.clauses_of w.database.procedures k)) in
    if table.is_fixed w.database.procedures k then Refuses (permission_error k retract_key) else offers) (λ k.
    let offers = Offers (row (head_of t ∷ body_of t ∷ [])) (map (table.removed_clause k) (table.clauses_of w.database.procedures k)) in
    elim (table.is_fixed w.database.procedures k) as (λ x. IsOwnSettled r (if x then Refuses (permission_error k retract_key) else offers)) [
      | true ↦ tt
      | false ↦ row_value r (head_of t ∷ body_of t ∷ []) (head_value r t own, (body_value r t own, tt))
    ])

retractall_own : (r : Subst) (h : Tree) (n : ℕ) (w : World) → IsOwnSettled r (table.retractall_settled h n w)
retractall_own r h n w = head_own r h retractall_key (λ k. table.retractall_named h n w k) (λ k.
    elim (table.is_fixed w.database.procedures k) as (λ x. IsOwnSettled r (if x then Refuses (permission_error k retractall_key) else table.retractall_changed h n w k)) [
      | true ↦ tt
      | false ↦ tt
    ])

abolished_own : (r : Subst) (w : World) (x : Result Key Tree) → IsOwnSettled r (table.abolished w x)
abolished_own r w (Ok k) = tt
abolished_own r w (Err error) = tt

declared_own : (r : Subst) (w : World) (x : Result (List Key) Tree) → IsOwnSettled r (table.declared w x)
declared_own r w (Ok ks) = tt
declared_own r w (Err error) = tt

checked_own : (r : Subst) (w : World) (x : Result (List Key) Tree) → IsOwnSettled r (table.only_checked w x)
checked_own r w (Ok ks) = tt
checked_own r w (Err error) = tt

pub storages_own : (r : Subst) (row : Storage) (t : Tree) (n : ℕ) (w : World) → IsValue r t → IsOwnSettled r (storage_settled row t n w)
storages_own r storage.Asserta t n w own = addition_own r (asserted at_front (key (codes "asserta") 1) (argument 0 t) w.database) w
storages_own r storage.Assertz t n w own = addition_own r (asserted at_end (key (codes "assertz") 1) (argument 0 t) w.database) w
storages_own r storage.Clause t n w own = clause_own r (argument 0 t) (argument 1 t) w (argument_value r 0 t own) (argument_value r 1 t own)
storages_own r storage.Retract t n w own = retract_own r (argument 0 t) w (argument_value r 0 t own)
storages_own r storage.Retractall t n w own = retractall_own r (argument 0 t) n w
storages_own r storage.Abolish t n w own = abolished_own r w (table.abolish_asked (argument 0 t) w)
storages_own r storage.Dynamic t n w own = declared_own r w (table.dynamic_asked (argument 0 t) w)
storages_own r storage.Multifile t n w own = checked_own r w (table.declaration_checked (key (codes "multifile") 1) (argument 0 t))
storages_own r storage.Discontiguous t n w own = checked_own r w (table.declaration_checked (key (codes "discontiguous") 1) (argument 0 t))
