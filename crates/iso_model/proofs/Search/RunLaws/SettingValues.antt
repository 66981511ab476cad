-- What goals come to that read or change operators and flags is made of values, where the goal is one.
use Rattle.std.proofs.Common.{ℕ, List, [], ◌∷◌, map, true, false, not, Option, Some, None, Result, Ok, Err, codes, if◌then◌else◌, nat_lt, pos, negsuc, is_some, ◌||◌}
use Rattle.iso_ops.specs.declared.settings.Flags.{Flags}
use Rattle.iso_ops.specs.Specifiers.{spec_named}
use Rattle.iso_ops.specs.Operators.{Operator}
use Rattle.iso_ops.specs.Settings.{flag_entries, flag_value}
use Rattle.iso_model.specs.Terms.Trees.{Tree, Variable, Integer, Name, Apply, End, More, row}
use Rattle.iso_model.specs.Terms.Types.{is_variable}
use Rattle.iso_model.specs.Terms.Substitutions.{Subst}
use Rattle.iso_model.specs.Terms.Arguments.{argument}
use Rattle.iso_model.specs.Search.Errors.{instantiation_error, type_error, domain_error, not_permitted}
use Rattle.iso_model.specs.Search.Worlds.{World}
use Rattle.iso_model.specs.Search.Settings as table
use Rattle.iso_model.specs.Search.Settings.{Settled, Refuses, Changes, Offers, op_key, current_op_key, set_flag_key, current_flag_key, setting_settled}
use Rattle.iso_model.proofs.Search.RunLaws.TermValues.{argument_value, row_value}
use Rattle.iso_model.specs.declared.kinds.Setting.{Setting}
use Rattle.iso_model.specs.declared.kinds.Setting.TheVariants as setting
use Rattle.iso_model.specs.Search.RunLaws.Sameness.{IsValue}

-- the row that the others are unified with is a value
abbrev pub IsOwnSettled : Subst → Settled → Type 0
IsOwnSettled r (Refuses error) = Unit {0}
IsOwnSettled r (Changes made w) = Unit {0}
IsOwnSettled r (Offers left rights) = IsValue r left

-- ---- op/3

priority_own : (r : Subst) (p : Tree) (goes_on : ℕ → Settled) → ((n : ℕ) → IsOwnSettled r (goes_on n)) → IsOwnSettled r (table.with_priority p goes_on)
priority_own r (Integer (pos n)) goes_on own =
    elim (nat_lt 1200 n) as (λ x. IsOwnSettled r (if x then Refuses (domain_error (codes "operator_priority") (Integer (pos n)) op_key) else goes_on n)) [
      | true ↦ tt
      | false ↦ own n
    ]
priority_own r (Integer (negsuc n)) goes_on own = tt
priority_own r (Variable n) goes_on own = tt
priority_own r (Name a) goes_on own = tt
priority_own r (Apply f ts) goes_on own = tt
priority_own r End goes_on own = tt
priority_own r (More t ts) goes_on own = tt

specifier_own : (r : Subst) (s : Tree) (goes_on : List ℕ → Settled) → ((a : List ℕ) → IsOwnSettled r (goes_on a)) → IsOwnSettled r (table.with_specifier s goes_on)
specifier_own r (Name a) goes_on own =
    elim (is_some (spec_named a)) as (λ x. IsOwnSettled r (if x then goes_on a else Refuses (domain_error (codes "operator_specifier") (Name a) op_key))) [
      | true ↦ own a
      | false ↦ tt
    ]
specifier_own r (Variable n) goes_on own = tt
specifier_own r (Integer z) goes_on own = tt
specifier_own r (Apply f ts) goes_on own = tt
specifier_own r End goes_on own = tt
specifier_own r (More t ts) goes_on own = tt

texts_own : (r : Subst) (ts : List Tree) (goes_on : List (List ℕ) → Settled) → ((texts : List (List ℕ)) → IsOwnSettled r (goes_on texts)) → IsOwnSettled r (table.with_texts ts goes_on)
texts_own r [] goes_on own = own []
texts_own r (Name a ∷ ts) goes_on own = texts_own r ts (λ texts. goes_on (a ∷ texts)) (λ texts. own (a ∷ texts))
texts_own r (Variable n ∷ ts) goes_on own = tt
texts_own r (Integer z ∷ ts) goes_on own = tt
texts_own r (Apply f us ∷ ts) goes_on own = tt
texts_own r (End ∷ ts) goes_on own = tt
texts_own r (More u us ∷ ts) goes_on own = tt

listed_own : (r : Subst) (names : Tree) (o : Option (List Tree)) (goes_on : List (List ℕ) → Settled) → ((texts : List (List ℕ)) → IsOwnSettled r (goes_on texts)) → IsOwnSettled r (table.with_listed names o goes_on)
listed_own r names (Some ts) goes_on own = texts_own r ts goes_on own
listed_own r names None goes_on own = tt

op_set_own : (r : Subst) (w : World) (x : Result (List Operator) Tree) → IsOwnSettled r (table.op_set w x)
op_set_own r w (Ok ops) = tt
op_set_own r w (Err error) = tt

op_own : (r : Subst) (p s names : Tree) (w : World) → IsOwnSettled r (table.op_settled p s names w)
op_own r p s names w =
    let with_names : ℕ → List ℕ → Settled = λ n text. table.with_listed names (table.name_list names) (λ texts. table.op_set w (table.set_names n text texts w.operators)) in
    elim (is_variable p || (is_variable s || table.has_unbound names))
    as (λ x. IsOwnSettled r (if x then Refuses (instantiation_error op_key) else table.with_priority p (λ n. table.with_specifier s (λ text. with_names n text)))) [
      | true ↦ tt
      | false ↦ priority_own r p (λ n. table.with_specifier s (λ text. with_names n text)) (λ n. specifier_own r s (λ text. with_names n text)
          (λ text. listed_own r names (table.name_list names) (λ texts. table.op_set w (table.set_names n text texts w.operators)) (λ texts. op_set_own r w (table.set_names n text texts w.operators))))
    ]

-- ---- current_op/3

current_op_own : (r : Subst) (p s name : Tree) (w : World) → IsValue r p → IsValue r s → IsValue r name → IsOwnSettled r (table.current_op_settled p s name w)
current_op_own r p s name w first second third =
    let offers = Offers (row (p ∷ s ∷ name ∷ [])) (map (λ op. table.value_offer 3 (table.operator_row op)) w.operators) in
    let named = if not (table.may_be_atom name) then Refuses (type_error (codes "atom") name current_op_key) else offers in
    let specified = if not (table.may_be_specifier s) then Refuses (domain_error (codes "operator_specifier") s current_op_key) else named in
    elim (not (table.may_be_priority p)) as (λ x. IsOwnSettled r (if x then Refuses (domain_error (codes "operator_priority") p current_op_key) else specified)) [
      | true ↦ tt
      | false ↦ elim (not (table.may_be_specifier s)) as (λ x. IsOwnSettled r (if x then Refuses (domain_error (codes "operator_specifier") s current_op_key) else named)) [
        | true ↦ tt
        | false ↦ elim (not (table.may_be_atom name)) as (λ x. IsOwnSettled r (if x then Refuses (type_error (codes "atom") name current_op_key) else offers)) [
          | true ↦ tt
          | false ↦ row_value r (p ∷ s ∷ name ∷ []) (first, (second, (third, tt)))
        ]
      ]
    ]

-- ---- set_prolog_flag/2

flag_set_own : (r : Subst) (f : List ℕ) (v : Tree) (w : World) (o : Option Flags) → IsOwnSettled r (table.flag_set f v w o)
flag_set_own r f v w (Some flags) = tt
flag_set_own r f v w None = tt

named_flag_own : (r : Subst) (f : List ℕ) (v : Tree) (w : World) → IsOwnSettled r (table.named_flag_settled f v w)
named_flag_own r f v w =
    let goes_on = table.flag_set f v w (table.flags_with f v w.flags) in
    let settable = if not (table.is_settable f) then Refuses (not_permitted (codes "modify") (codes "flag") (Name f) set_flag_key) else goes_on in
    elim (not (is_some (flag_value w.flags f))) as (λ x. IsOwnSettled r (if x then Refuses (domain_error (codes "prolog_flag") (Name f) set_flag_key) else settable)) [
      | true ↦ tt
      | false ↦ elim (not (table.is_settable f)) as (λ x. IsOwnSettled r (if x then Refuses (not_permitted (codes "modify") (codes "flag") (Name f) set_flag_key) else goes_on)) [
        | true ↦ tt
        | false ↦ flag_set_own r f v w (table.flags_with f v w.flags)
      ]
    ]

flag_own : (r : Subst) (f v : Tree) (w : World) → IsOwnSettled r (table.flag_settled f v w)
flag_own r (Name f) v w = named_flag_own r f v w
flag_own r (Variable n) v w = tt
flag_own r (Integer z) v w = tt
flag_own r (Apply f ts) v w = tt
flag_own r End v w = tt
flag_own r (More t ts) v w = tt

set_flag_own : (r : Subst) (f v : Tree) (w : World) → IsOwnSettled r (table.set_flag_settled f v w)
set_flag_own r f v w = elim (is_variable f || is_variable v) as (λ x. IsOwnSettled r (if x then Refuses (instantiation_error set_flag_key) else table.flag_settled f v w)) [
  | true ↦ tt
  | false ↦ flag_own r f v w
]

-- ---- current_prolog_flag/2

current_flag_own : (r : Subst) (f v : Tree) (w : World) → IsValue r f → IsValue r v → IsOwnSettled r (table.current_flag_settled f v w)
current_flag_own r f v w first second =
    let offers = Offers (row (f ∷ v ∷ [])) (map (λ e. table.value_offer 2 (table.flag_row e)) (flag_entries w.flags)) in
    let known = if not (table.may_be_flag f w.flags) then Refuses (domain_error (codes "prolog_flag") f current_flag_key) else offers in
    elim (not (table.may_be_atom f)) as (λ x. IsOwnSettled r (if x then Refuses (type_error (codes "atom") f current_flag_key) else known)) [
      | true ↦ tt
      | false ↦ elim (not (table.may_be_flag f w.flags)) as (λ x. IsOwnSettled r (if x then Refuses (domain_error (codes "prolog_flag") f current_flag_key) else offers)) [
        | true ↦ tt
        | false ↦ row_value r (f ∷ v ∷ []) (first, (second, tt))
      ]
    ]

pub settings_own : (r : Subst) (row : Setting) (t : Tree) (w : World) → IsValue r t → IsOwnSettled r (setting_settled row t w)
settings_own r setting.Op t w own = op_own r (argument 0 t) (argument 1 t) (argument 2 t) w
settings_own r setting.CurrentOp t w own =
    current_op_own r (argument 0 t) (argument 1 t) (argument 2 t) w (argument_value r 0 t own) (argument_value r 1 t own) (argument_value r 2 t own)
settings_own r setting.SetFlag t w own = set_flag_own r (argument 0 t) (argument 1 t) w
settings_own r setting.CurrentFlag t w own = current_flag_own r (argument 0 t) (argument 1 t) w (argument_value r 0 t own) (argument_value r 1 t own)
