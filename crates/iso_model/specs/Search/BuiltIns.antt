-- What goals of the language's own procedures come to (ISO/IEC 13211-1:1995, 7.8 and 8).
use Rattle.std.specs.Prelude.{Bool, true, false, nat_lt, int_lt, nat_abs, pos, ◌||◌, Option, Some, None, codes, if◌then◌else◌}
use Rattle.iso_model.specs.Terms.Trees.{Tree, Variable, Integer}
use Rattle.iso_model.specs.Search.Keys.{Key, key}
use Rattle.iso_model.specs.Search.Library.{library_answer}
use Rattle.iso_model.specs.Search.AtomTexts.{text_answer}
use Rattle.iso_model.specs.Search.Settings.{setting_settled}
use Rattle.iso_model.specs.Search.Storages.{storage_settled}
use Rattle.iso_model.specs.Search.Outputs.{output_reply}
use Rattle.iso_model.specs.Search.AtomParts.{parts_settled}
use Rattle.iso_model.specs.Terms.Arguments.{argument, arguments, arity, others, with_arguments}
use Rattle.iso_model.specs.Terms.Lists.{is_partial_list}
use Rattle.iso_model.specs.Search.Groups.{stripped, witness_of, pair}
use Rattle.iso_model.specs.Search.Bodies.{Body, converted}
use Rattle.iso_model.specs.Search.Errors.{instantiation_error, type_error_callable, type_error, domain_error, max_arity_error}
use Rattle.iso_model.specs.declared.built_ins.BuiltIn.{BuiltIn}
use Rattle.iso_model.specs.declared.built_ins.BuiltIn.TheVariants.{True, Fail, Call, Once, Not, Repeat, Catch, Throw, Halt, HaltWith, Findall, Bagof, Setof, Exists, Library, Setting, Storage, Text, Output, AtomPart}
pub use Rattle.iso_model.specs.Search.Table.{built_ins, built_in_among, built_in, is_some_built_in, is_control, is_built_in}
pub use Rattle.iso_model.specs.Search.Replies.{Reply, Fails, Succeeds, Equates, EquatesCopy, Raises, Calls, CallsOnce, Refutes, Repeats, Catches, Gathers, Halts, AsksWorld, Writes, answered, Grouping, Collecting, AsList, InGroups}

-- a goal is run in this way where it can be converted; else this procedure raises an error
abbrev pub converted_reply : (Body → Reply) → Option Body → Tree → Key → Reply
converted_reply runs None goal k = Raises (type_error_callable goal k)
converted_reply runs (Some b) goal k = runs b

-- a goal is not to be unbound (7.8.3.3, 8.15.1.3, 8.15.2.3)
abbrev pub goal_reply : (Body → Reply) → Tree → Key → Reply
goal_reply runs (Variable n) k = Raises (instantiation_error k)
goal_reply runs goal k = converted_reply runs (converted goal) goal k

-- a goal to which arguments were added has at most 255 (own)
abbrev pub called_reply : Tree → Key → Reply
called_reply goal k = goal_reply (λ b. if nat_lt 255 (arity goal) then Raises (max_arity_error k) else Calls b) goal k

-- the result of a findall/3 is to be a partial list (8.10.1.3, as corrected)
abbrev pub findall_reply : Tree → Tree → Tree → Key → Reply
findall_reply template goal result k = goal_reply (λ b. if is_partial_list result then Gathers template b (AsList result) else Raises (type_error (codes "list") result k)) goal k

-- how the solutions of this goal of bagof/3 or setof/3 come
abbrev pub grouping : Bool → Tree → Tree → Tree → Grouping
grouping sorts template goal result = record { witness = witness_of template goal; result = result; sorts = sorts }

-- It runs what is left of the goal behind each `V^`, for pairs of the witness and the template; its result is to be a
-- partial list (8.10.2.3, 8.10.3.3, as corrected).
abbrev pub groups_reply : Bool → Tree → Tree → Tree → Key → Reply
groups_reply sorts template goal result k =
    goal_reply
    (λ b. if is_partial_list result then Gathers (pair (witness_of template goal) template) b (InGroups (grouping sorts template goal result)) else Raises (type_error (codes "list") result k))
    (stripped goal) k

-- a ball is not to be unbound (7.8.10.3)
abbrev pub throw_reply : Tree → Key → Reply
throw_reply (Variable n) k = Raises (instantiation_error k)
throw_reply ball k = Raises ball

-- a status is an integer of 0 to 255 (8.17.4.3; the range is own)
abbrev pub halt_reply : Tree → Key → Reply
halt_reply (Variable n) k = Raises (instantiation_error k)
halt_reply (Integer z) k = if int_lt z (pos 0) || int_lt (pos 255) z then Raises (domain_error (codes "exit_code") (Integer z) k) else Halts (nat_abs z)
halt_reply t k = Raises (type_error (codes "integer") t k)

-- what this goal of the built-in comes to (7.8.1 to 7.8.3, 7.8.9, 7.8.10, 8.10, 8.15.1, 8.15.2, 8.15.3, 8.17.3,
-- 8.17.4; call/2 to call/8 are own)
abbrev pub reply : BuiltIn → Tree → Reply
reply True t = Succeeds
reply Fail t = Fails
reply Call t = called_reply (with_arguments (argument 0 t) (others (arguments t))) (key (codes "call") (arity t))
reply Once t = goal_reply CallsOnce (argument 0 t) (key (codes "once") 1)
reply Not t = goal_reply Refutes (argument 0 t) (key (codes "\\+") 1)
reply Repeat t = Repeats
reply Catch t = Catches (goal_reply Calls (argument 0 t) (key (codes "catch") 3)) (argument 1 t) (argument 2 t)
reply Throw t = throw_reply (argument 0 t) (key (codes "throw") 1)
reply Halt t = Halts 0
reply HaltWith t = halt_reply (argument 0 t) (key (codes "halt") 1)
reply Findall t = findall_reply (argument 0 t) (argument 1 t) (argument 2 t) (key (codes "findall") 3)
reply Bagof t = groups_reply false (argument 0 t) (argument 1 t) (argument 2 t) (key (codes "bagof") 3)
reply Setof t = groups_reply true (argument 0 t) (argument 1 t) (argument 2 t) (key (codes "setof") 3)
reply Exists t = goal_reply Calls (argument 1 t) (key (codes "^") 2)
reply (Library row) t = answered (library_answer row t)
reply (Setting row) t = AsksWorld (λ n w. setting_settled row t w)
reply (Storage row) t = AsksWorld (λ n w. storage_settled row t n w)
reply (Text row) t = answered (text_answer row t)
reply (Output row) t = output_reply row t
reply (AtomPart row) t = AsksWorld (λ n w. parts_settled row t)
