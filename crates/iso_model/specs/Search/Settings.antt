-- Built-ins that read or change the operators and the flags (ISO/IEC 13211-1:1995, 8.14.3, 8.14.4, 8.17.1, 8.17.2;
-- which checks are made, and in which order, is own).
use Rattle.std.specs.Prelude.{ℕ, ◌+◌, pos, negsuc, nat_lt, List, [], ◌∷◌, map, Bool, true, false, not, ◌||◌, Option, Some, None, is_some, Result, Ok, Err, codes, if◌then◌else◌}
use Rattle.std.specs.List.{list_any}
use Rattle.std.specs.Str.{bytes_eq}
use Rattle.iso_ops.specs.declared.table.OpFault.{OpFault}
use Rattle.iso_ops.specs.declared.settings.Flags.{Flags}
use Rattle.iso_ops.specs.Specifiers.{spec_named, spec_text}
use Rattle.iso_ops.specs.Operators.{Operator, asked_op, set_op}
use Rattle.iso_ops.specs.Settings.{FlagTerm, FlagInteger, FlagAtom, flag_entries, flag_value, with_flag}
use Rattle.iso_model.specs.Terms.Trees.{Tree, Variable, Integer, Name, row}
use Rattle.iso_model.specs.Terms.Sizes.{size}
use Rattle.iso_model.specs.Terms.Types.{is_variable}
use Rattle.iso_model.specs.Terms.Lists.{elements, tail, is_list, is_nil}
use Rattle.iso_model.specs.Terms.Arguments.{argument}
use Rattle.iso_model.specs.Search.Bodies.{two}
use Rattle.iso_model.specs.Search.Keys.{Key, key}
use Rattle.iso_model.specs.Search.Errors.{instantiation_error, type_error, domain_error, not_permitted}
use Rattle.iso_model.specs.Search.Worlds.{World}
pub use Rattle.iso_model.specs.Search.Settlements.{Settled, Refuses, Changes, Offers, Offer, constant_offer}
use Rattle.iso_model.specs.declared.kinds.Setting.{Setting}
use Rattle.iso_model.specs.declared.kinds.Setting.TheVariants.{Op, CurrentOp, SetFlag, CurrentFlag}

-- a row of values that so many arguments are unified with
abbrev pub value_offer : ℕ → Tree → Offer
value_offer count right = constant_offer (count + size right) right

-- ---- op/3 (8.14.3)

abbrev pub op_key : Key
op_key = key (codes "op") 3

-- goes on with the priority, an integer of 0 to 1200
abbrev pub with_priority : Tree → (ℕ → Settled) → Settled
with_priority (Integer (pos n)) goes_on = if nat_lt 1200 n then Refuses (domain_error (codes "operator_priority") (Integer (pos n)) op_key) else goes_on n
with_priority (Integer (negsuc n)) goes_on = Refuses (domain_error (codes "operator_priority") (Integer (negsuc n)) op_key)
with_priority p goes_on = Refuses (type_error (codes "integer") p op_key)

-- goes on with the specifier
abbrev pub with_specifier : Tree → (List ℕ → Settled) → Settled
with_specifier (Name s) goes_on = if is_some (spec_named s) then goes_on s else Refuses (domain_error (codes "operator_specifier") (Name s) op_key)
with_specifier s goes_on = Refuses (type_error (codes "atom") s op_key)

-- whether names, an element or what stands behind the elements, are unbound
abbrev pub has_unbound : Tree → Bool
has_unbound names = list_any is_variable (elements names) || is_variable (tail names)

-- a name alone is one name, but the empty list is none (own)
abbrev pub name_list : Tree → Option (List Tree)
name_list (Name a) = if is_nil (Name a) then Some [] else Some (Name a ∷ [])
name_list t = if is_list t then Some (elements t) else None

-- goes on with the texts of the elements, which are atoms
abbrev pub with_texts : List Tree → (List (List ℕ) → Settled) → Settled
with_texts [] goes_on = goes_on []
with_texts (Name a ∷ ts) goes_on = with_texts ts (λ texts. goes_on (a ∷ texts))
with_texts (t ∷ ts) goes_on = Refuses (type_error (codes "atom") t op_key)

abbrev pub with_listed : Tree → Option (List Tree) → (List (List ℕ) → Settled) → Settled
with_listed names None goes_on = Refuses (type_error (codes "list") names op_key)
with_listed names (Some ts) goes_on = with_texts ts goes_on

-- The comma's operator can't be changed. Of the other names some can't be operators, and none infix and postfix
-- (8.14.3.3).
abbrev pub operator_refused : List ℕ → Tree
operator_refused a = not_permitted (if bytes_eq a (codes ",") then codes "modify" else codes "create") (codes "operator") (Name a) op_key

-- the operators once each of these names is one of this priority and specifier, or the error for the first one that
-- can't be
abbrev pub set_next : (List Operator → Result (List Operator) Tree) → List ℕ → List Operator → Result Operator OpFault → Result (List Operator) Tree
set_next goes_on a ops (Ok op) = goes_on (set_op op ops)
set_next goes_on a ops (Err fault) = Err (operator_refused a)

abbrev pub set_names : ℕ → List ℕ → List (List ℕ) → List Operator → Result (List Operator) Tree
set_names p s [] ops = Ok ops
set_names p s (a ∷ names) ops = set_next (set_names p s names) a ops (asked_op (pos p) s a ops)

-- an error leaves the world as it was
abbrev pub op_set : World → Result (List Operator) Tree → Settled
op_set w (Ok ops) = Changes 0 (record w { operators = ops })
op_set w (Err error) = Refuses error

abbrev pub op_settled : Tree → Tree → Tree → World → Settled
op_settled p s names w =
    if is_variable p || (is_variable s || has_unbound names) then Refuses (instantiation_error op_key) else
    with_priority p (λ n. with_specifier s (λ text. with_listed names (name_list names) (λ texts. op_set w (set_names n text texts w.operators))))

-- ---- current_op/3 (8.14.4)

abbrev pub current_op_key : Key
current_op_key = key (codes "current_op") 3

abbrev pub may_be_priority : Tree → Bool
may_be_priority (Variable n) = true
may_be_priority (Integer (pos n)) = not (nat_lt 1200 n)
may_be_priority t = false

abbrev pub may_be_specifier : Tree → Bool
may_be_specifier (Variable n) = true
may_be_specifier (Name s) = is_some (spec_named s)
may_be_specifier t = false

abbrev pub may_be_atom : Tree → Bool
may_be_atom (Variable n) = true
may_be_atom (Name a) = true
may_be_atom t = false

-- priority, specifier and name
abbrev pub operator_row : Operator → Tree
operator_row op = row (Integer (pos op.priority) ∷ Name (spec_text op.spec) ∷ Name op.name ∷ [])

-- each operator, in the order of the table
abbrev pub current_op_settled : Tree → Tree → Tree → World → Settled
current_op_settled p s name w =
    if not (may_be_priority p) then Refuses (domain_error (codes "operator_priority") p current_op_key) else
    (if not (may_be_specifier s) then Refuses (domain_error (codes "operator_specifier") s current_op_key) else
    (if not (may_be_atom name) then Refuses (type_error (codes "atom") name current_op_key) else
    Offers (row (p ∷ s ∷ name ∷ [])) (map (λ op. value_offer 3 (operator_row op)) w.operators)))

-- ---- set_prolog_flag/2 (8.17.1)

abbrev pub set_flag_key : Key
set_flag_key = key (codes "set_prolog_flag") 2

-- the flags that can be set
abbrev pub is_settable : List ℕ → Bool
is_settable f = bytes_eq f (codes "double_quotes") || bytes_eq f (codes "unknown")

-- the flags with this value, an atom
abbrev pub flags_with : List ℕ → Tree → Flags → Option Flags
flags_with f (Name v) flags = with_flag flags f v
flags_with f t flags = None

abbrev pub flag_set : List ℕ → Tree → World → Option Flags → Settled
flag_set f v w (Some flags) = Changes 0 (record w { flags = flags })
flag_set f v w None = Refuses (domain_error (codes "flag_value") (two (codes "+") (Name f) v) set_flag_key)

abbrev pub named_flag_settled : List ℕ → Tree → World → Settled
named_flag_settled f v w =
    if not (is_some (flag_value w.flags f)) then Refuses (domain_error (codes "prolog_flag") (Name f) set_flag_key) else
    (if not (is_settable f) then Refuses (not_permitted (codes "modify") (codes "flag") (Name f) set_flag_key) else
    flag_set f v w (flags_with f v w.flags))

abbrev pub flag_settled : Tree → Tree → World → Settled
flag_settled (Name f) v w = named_flag_settled f v w
flag_settled f v w = Refuses (type_error (codes "atom") f set_flag_key)

abbrev pub set_flag_settled : Tree → Tree → World → Settled
set_flag_settled f v w = if is_variable f || is_variable v then Refuses (instantiation_error set_flag_key) else flag_settled f v w

-- ---- current_prolog_flag/2 (8.17.2)

abbrev pub current_flag_key : Key
current_flag_key = key (codes "current_prolog_flag") 2

abbrev pub flag_tree : FlagTerm → Tree
flag_tree (FlagInteger z) = Integer z
flag_tree (FlagAtom a) = Name a

-- flag and value
abbrev pub flag_row : List ℕ × FlagTerm → Tree
flag_row e = row (Name e.0 ∷ flag_tree e.1 ∷ [])

-- whether it may name a flag
abbrev pub may_be_flag : Tree → Flags → Bool
may_be_flag (Name f) flags = is_some (flag_value flags f)
may_be_flag t flags = true

-- each flag, in the order of their table
abbrev pub current_flag_settled : Tree → Tree → World → Settled
current_flag_settled f v w =
    if not (may_be_atom f) then Refuses (type_error (codes "atom") f current_flag_key) else
    (if not (may_be_flag f w.flags) then Refuses (domain_error (codes "prolog_flag") f current_flag_key) else
    Offers (row (f ∷ v ∷ [])) (map (λ e. value_offer 2 (flag_row e)) (flag_entries w.flags)))

-- ---- the rows

abbrev pub setting_arity : Setting → ℕ
setting_arity Op = 3
setting_arity CurrentOp = 3
setting_arity SetFlag = 2
setting_arity CurrentFlag = 2

-- what this goal comes to in this world
abbrev pub setting_settled : Setting → Tree → World → Settled
setting_settled Op t w = op_settled (argument 0 t) (argument 1 t) (argument 2 t) w
setting_settled CurrentOp t w = current_op_settled (argument 0 t) (argument 1 t) (argument 2 t) w
setting_settled SetFlag t w = set_flag_settled (argument 0 t) (argument 1 t) w
setting_settled CurrentFlag t w = current_flag_settled (argument 0 t) (argument 1 t) w
