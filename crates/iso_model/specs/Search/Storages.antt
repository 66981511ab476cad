-- Built-ins that read or change the database (ISO/IEC 13211-1:1995, 8.8 and 8.9; which checks are made, and in which
-- order, is own).
use Rattle.std.specs.Prelude.{ℕ, ◌+◌, max, pos, negsuc, nat_lt, List, [], ◌∷◌, ◌++◌, map, Bool, not, ◌||◌, Option, Some, None, is_some, unwrap_or, Result, Ok, Err, codes, if◌then◌else◌}
use Rattle.std.specs.List.{list_any, filter}
use Rattle.std.specs.Str.{bytes_eq}
use Rattle.iso_model.specs.Terms.Trees.{Tree, Variable, Integer, Name, Apply, End, More, row}
use Rattle.iso_model.specs.Terms.Types.{is_variable, is_integer}
use Rattle.iso_model.specs.Terms.Sizes.{size}
use Rattle.iso_model.specs.Terms.Lists.{elements, tail, is_pair, is_list}
use Rattle.iso_model.specs.Terms.Arguments.{argument}
use Rattle.iso_model.specs.Terms.Copies.{renamed}
use Rattle.iso_model.specs.Terms.Unification.{unifier_of}
use Rattle.iso_model.specs.Search.Bodies.{body_term}
use Rattle.iso_model.specs.Search.Keys.{Key, key, key_of}
use Rattle.iso_model.specs.Search.Databases.{Clause, Procedures, Dynamic, at_front, at_end, clauses_at, kind_at, is_static, with_clauses, with_declared, without_procedure}
use Rattle.iso_model.specs.Search.Table.{is_built_in}
use Rattle.iso_model.specs.Search.Additions.{Addition, head_of, body_of, asserted}
use Rattle.iso_model.specs.Search.Additions as additions
use Rattle.iso_model.specs.Search.Errors.{indicator, instantiation_error, type_error, type_error_callable, domain_error, not_permitted, permission_error, max_arity_error}
use Rattle.iso_model.specs.Search.Worlds.{World}
pub use Rattle.iso_model.specs.Search.Settlements.{Settled, Refuses, Changes, Offers, Offer, Reference}
use Rattle.iso_model.specs.declared.kinds.Storage.{Storage}
use Rattle.iso_model.specs.declared.kinds.Storage.TheVariants as storage

-- the world with these procedures
abbrev pub with_procedures : World → Procedures → World
with_procedures w ps = record w { database = record w.database { procedures = ps } }

-- whether goals may neither read nor change the procedure: it is a built-in, or static
abbrev pub is_fixed : Procedures → Key → Bool
is_fixed ps k = is_built_in k || is_static (kind_at ps k)

-- its clauses; an absent procedure has none
abbrev pub clauses_of : Procedures → Key → List Clause
clauses_of ps k = unwrap_or (clauses_at ps k) []

-- ---- asserta/1, assertz/1 (8.9.1, 8.9.2)

abbrev pub addition_settled : Addition → World → Settled
addition_settled (additions.Adds db) w = Changes 0 (record w { database = db })
addition_settled (additions.Refuses error) w = Refuses error

abbrev pub asserta_settled : Tree → World → Settled
asserta_settled t w = addition_settled (asserted at_front (key (codes "asserta") 1) t w.database) w

abbrev pub assertz_settled : Tree → World → Settled
assertz_settled t w = addition_settled (asserted at_end (key (codes "assertz") 1) t w.database) w

-- ---- heads

abbrev pub with_key : Tree → Option Key → Key → (Key → Settled) → Settled
with_key h None by goes_on = Refuses (type_error_callable h by)
with_key h (Some k) by goes_on = goes_on k

-- goes on with the procedure of a head, which is neither unbound nor a number
abbrev pub with_head : Tree → Key → (Key → Settled) → Settled
with_head (Variable n) by goes_on = Refuses (instantiation_error by)
with_head h by goes_on = with_key h (key_of h) by goes_on

-- head and body of a clause: an argument is unified with a copy of each (what that makes is own)
abbrev pub clause_row : Clause → Tree
clause_row c = row (c.head ∷ body_term c.body ∷ [])

abbrev pub clause_cost : Clause → ℕ
clause_cost c = (1 + size c.head) + (1 + size (body_term c.body))

-- ---- clause/2 (8.8.1)

abbrev pub clause_key : Key
clause_key = key (codes "clause") 2

abbrev pub shown_clause : Clause → Offer
shown_clause c = record { right = clause_row c; variables = c.variables; made = clause_cost c; removes = None }

abbrev pub clause_settled : Tree → Tree → World → Settled
clause_settled h b w = with_head h clause_key (λ k.
    if is_integer b then Refuses (type_error_callable b clause_key) else
    (if is_fixed w.database.procedures k then Refuses (not_permitted (codes "access") (codes "private_procedure") (indicator k) clause_key) else
    Offers (row (h ∷ b ∷ [])) (map shown_clause (clauses_of w.database.procedures k))))

-- ---- retract/1 (8.9.3)

abbrev pub retract_key : Key
retract_key = key (codes "retract") 1

abbrev pub removed_clause : Key → Clause → Offer
removed_clause k c = record { right = clause_row c; variables = c.variables; made = clause_cost c; removes = Some (record { procedure = k; number = c.number }) }

-- a fact is retracted as a clause with the body `true`
abbrev pub retract_settled : Tree → World → Settled
retract_settled t w = with_head (head_of t) retract_key (λ k.
    if is_fixed w.database.procedures k then Refuses (permission_error k retract_key) else
    Offers (row (head_of t ∷ body_of t ∷ [])) (map (removed_clause k) (clauses_of w.database.procedures k)))

-- ---- retractall/1

abbrev pub retractall_key : Key
retractall_key = key (codes "retractall") 1

-- whether the clause's head, with its variables numbered from the next number on, unifies with the term
abbrev pub head_unifies : Tree → ℕ → Clause → Bool
head_unifies h next c = is_some (unifier_of h (renamed next c.head))

-- the size of the largest head
abbrev pub largest_head : List Clause → ℕ
largest_head [] = 0
largest_head (c ∷ cs) = max (size c.head) (largest_head cs)

-- the clauses go whose heads unify; an absent procedure becomes dynamic
abbrev pub retractall_changed : Tree → ℕ → World → Key → Settled
retractall_changed h next w k =
    Changes (largest_head (clauses_of w.database.procedures k))
    (with_procedures w (with_clauses (filter (λ c. not (head_unifies h next c))) Dynamic w.database.procedures k))

abbrev pub retractall_named : Tree → ℕ → World → Key → Settled
retractall_named h next w k = if is_fixed w.database.procedures k then Refuses (permission_error k retractall_key) else retractall_changed h next w k

-- all clauses go whose heads unify, and nothing is bound
abbrev pub retractall_settled : Tree → ℕ → World → Settled
retractall_settled h next w = with_head h retractall_key (λ k. retractall_named h next w k)

-- ---- indicators

-- the procedure that an indicator `N/A` names, or an error raised by this procedure
abbrev pub arity_named : List ℕ → Tree → Key → Result Key Tree
arity_named a (Integer (pos n)) by = if nat_lt 255 n then Err (max_arity_error by) else Ok (key a n)
arity_named a (Integer (negsuc n)) by = Err (domain_error (codes "not_less_than_zero") (Integer (negsuc n)) by)
arity_named a t by = Err (type_error (codes "integer") t by)

abbrev pub name_named : Tree → Tree → Key → Result Key Tree
name_named (Name a) arity by = arity_named a arity by
name_named t arity by = Err (type_error (codes "atom") t by)

abbrev pub parts_named : Tree → Tree → Key → Result Key Tree
parts_named name arity by = if is_variable name || is_variable arity then Err (instantiation_error by) else name_named name arity by

abbrev pub indicated : Tree → Key → Result Key Tree
indicated (Variable n) by = Err (instantiation_error by)
indicated (Apply f (More a (More b End))) by =
    if bytes_eq f (codes "/") then parts_named a b by else Err (type_error (codes "predicate_indicator") (Apply f (More a (More b End))) by)
indicated t by = Err (type_error (codes "predicate_indicator") t by)

-- ---- abolish/1 (8.9.4)

abbrev pub abolish_key : Key
abolish_key = key (codes "abolish") 1

-- that goals may change the procedure
abbrev pub changeable : Procedures → Key → Result Key Tree → Result Key Tree
changeable ps by (Ok k) = if is_fixed ps k then Err (permission_error k by) else Ok k
changeable ps by (Err error) = Err error

abbrev pub abolished : World → Result Key Tree → Settled
abolished w (Ok k) = Changes 0 (with_procedures w (without_procedure w.database.procedures k))
abolished w (Err error) = Refuses error

abbrev pub abolish_asked : Tree → World → Result Key Tree
abolish_asked t w = changeable w.database.procedures abolish_key (indicated t abolish_key)

abbrev pub abolish_settled : Tree → World → Settled
abolish_settled t w = abolished w (abolish_asked t w)

-- ---- dynamic/1, multifile/1, discontiguous/1 (7.4.2.1 to 7.4.2.3)

-- the elements of a list; behind those of a partial list its variable
abbrev pub listed_parts : Tree → List Tree
listed_parts t =
    if is_list t then elements t else (if is_pair t then (if is_variable (tail t) then elements t ++ tail t ∷ [] else t ∷ []) else t ∷ [])

-- The indicators that a goal names, or what stands in their places: conjunctions are taken apart, and lists in these.
abbrev pub declared_parts : Tree → List Tree
declared_parts (Apply f (More a (More b End))) =
    if bytes_eq f (codes ",") then declared_parts a ++ declared_parts b else listed_parts (Apply f (More a (More b End)))
declared_parts t = listed_parts t

-- all of these, or the first error
abbrev pub indicated_next : Result Key Tree → Result (List Key) Tree → Result (List Key) Tree
indicated_next (Ok k) (Ok ks) = Ok (k ∷ ks)
indicated_next (Ok k) (Err error) = Err error
indicated_next (Err error) ks = Err error

abbrev pub all_indicated : (Tree → Result Key Tree) → List Tree → Result (List Key) Tree
all_indicated check [] = Ok []
all_indicated check (t ∷ ts) = indicated_next (check t) (all_indicated check ts)

-- no part may be unbound; then each is checked, and all of them before any is declared
abbrev pub declaration : (Tree → Result Key Tree) → Key → Tree → Result (List Key) Tree
declaration check by t = if list_any is_variable (declared_parts t) then Err (instantiation_error by) else all_indicated check (declared_parts t)

abbrev pub all_declared : Procedures → List Key → Procedures
all_declared ps [] = ps
all_declared ps (k ∷ ks) = all_declared (with_declared ps k) ks

abbrev pub declared : World → Result (List Key) Tree → Settled
declared w (Ok ks) = Changes 0 (with_procedures w (all_declared w.database.procedures ks))
declared w (Err error) = Refuses error

-- a declaration that changes nothing
abbrev pub only_checked : World → Result (List Key) Tree → Settled
only_checked w (Ok ks) = Changes 0 w
only_checked w (Err error) = Refuses error

abbrev pub dynamic_key : Key
dynamic_key = key (codes "dynamic") 1

abbrev pub dynamic_asked : Tree → World → Result (List Key) Tree
dynamic_asked t w = declaration (λ p. changeable w.database.procedures dynamic_key (indicated p dynamic_key)) dynamic_key t

abbrev pub dynamic_settled : Tree → World → Settled
dynamic_settled t w = declared w (dynamic_asked t w)

-- so for `multifile/1` and `discontiguous/1`
abbrev pub declaration_checked : Key → Tree → Result (List Key) Tree
declaration_checked by t = declaration (λ p. indicated p by) by t

abbrev pub checked_settled : Key → Tree → World → Settled
checked_settled by t w = only_checked w (declaration_checked by t)

-- ---- the rows

abbrev pub storage_arity : Storage → ℕ
storage_arity storage.Asserta = 1
storage_arity storage.Assertz = 1
storage_arity storage.Clause = 2
storage_arity storage.Retract = 1
storage_arity storage.Retractall = 1
storage_arity storage.Abolish = 1
storage_arity storage.Dynamic = 1
storage_arity storage.Multifile = 1
storage_arity storage.Discontiguous = 1

-- what this goal comes to with this next variable number, in this world
abbrev pub storage_settled : Storage → Tree → ℕ → World → Settled
storage_settled storage.Asserta t next w = asserta_settled (argument 0 t) w
storage_settled storage.Assertz t next w = assertz_settled (argument 0 t) w
storage_settled storage.Clause t next w = clause_settled (argument 0 t) (argument 1 t) w
storage_settled storage.Retract t next w = retract_settled (argument 0 t) w
storage_settled storage.Retractall t next w = retractall_settled (argument 0 t) next w
storage_settled storage.Abolish t next w = abolish_settled (argument 0 t) w
storage_settled storage.Dynamic t next w = dynamic_settled (argument 0 t) w
storage_settled storage.Multifile t next w = checked_settled (key (codes "multifile") 1) (argument 0 t) w
storage_settled storage.Discontiguous t next w = checked_settled (key (codes "discontiguous") 1) (argument 0 t) w
