-- What a goal's value runs is made of values.
use Rattle.std.proofs.Common.{◌≡◌, ℕ, List, Bool, true, false, Option, Some, None, refl, ap, ap₂, codes, if◌then◌else◌, nat_lt, int_lt, nat_abs, pos, ◌||◌, Result, Ok, Err}
use Rattle.std.specs.Str.{bytes_eq}
use Rattle.iso_model.specs.Terms.Trees.{Tree, Variable, Integer, Name, Apply, End, More}
use Rattle.iso_model.specs.Terms.Substitutions.{Subst, apply}
use Rattle.iso_model.specs.Terms.Arguments.{arguments, argument, others, with_arguments, arity}
use Rattle.iso_model.specs.Search.Bodies.{Body, Cut, Run, And, Or, If, Choose, map_body, either, both, converted, converted_two, one, two}
use Rattle.iso_model.specs.Search.Keys.{Key, key}
use Rattle.iso_model.specs.Search.Errors.{domain_error, max_arity_error, type_error}
use Rattle.iso_model.specs.Search.BuiltIns.{Reply, Fails, Succeeds, Equates, EquatesCopy, Raises, Calls, CallsOnce, Refutes, Repeats, Catches, Gathers, Halts, AsksWorld, Writes, AsList, InGroups, converted_reply, goal_reply, called_reply, findall_reply, grouping, groups_reply, throw_reply, halt_reply, answered, reply}
use Rattle.iso_model.specs.Terms.Lists.{is_partial_list}
use Rattle.iso_model.specs.Search.Library.{library_answer}
use Rattle.iso_model.specs.Search.AtomTexts.{text_answer, Characters, element_code}
use Rattle.iso_model.specs.Search.Outputs.{put_code, put_char_key, output_reply}
use Rattle.iso_model.specs.declared.kinds.Output.{Output}
use Rattle.iso_model.specs.declared.kinds.Output.TheVariants as output
use Rattle.iso_model.specs.Search.Replies.{Answer, Fail, Succeed, Equate, EquateCopy, Raise}
use Rattle.iso_model.specs.Search.Worlds.{World}
use Rattle.iso_model.proofs.Search.RunLaws.LibraryValues.{IsOwnAnswer, library_own}
use Rattle.iso_model.proofs.Search.RunLaws.SettingValues.{IsOwnSettled, settings_own}
use Rattle.iso_model.proofs.Search.RunLaws.StorageValues.{storages_own}
use Rattle.iso_model.proofs.Search.RunLaws.TextValues.{texts_own}
use Rattle.iso_model.proofs.Search.RunLaws.PartValues.{parts_own}
use Rattle.iso_model.specs.declared.built_ins.BuiltIn.{BuiltIn}
use Rattle.iso_model.specs.declared.built_ins.BuiltIn.TheVariants as built_in
use Rattle.iso_model.specs.Search.RunLaws.Sameness.{IsValue, IsOwnCollecting}
use Rattle.iso_model.specs.Search.Groups.{stripped, witness_of, pair}
use Rattle.iso_model.proofs.Search.RunLaws.GroupValues.{stripped_value, witness_value}
use Rattle.iso_model.proofs.Search.RunLaws.TermValues.{argument_value, arguments_value, others_value, with_value}

-- ---- bodies of values

-- the body stays as it is under the substitution
abbrev pub IsOwnBody : Subst → Body → Type 0
IsOwnBody r b = map_body r b ≡ b

abbrev pub IsOwnOption : Subst → Option Body → Type 0
IsOwnOption r (Some b) = IsOwnBody r b
IsOwnOption r None = Unit {0}

either_own : (r : Subst) (a b : Body) → IsOwnBody r a → IsOwnBody r b → IsOwnBody r (either a b)
either_own r (If c t) b h k =
    let first : map_body r c ≡ c = cc in
    let second : map_body r t ≡ t = cc in
    λ i. Choose (first i) (second i) (k i)
either_own r Cut b h k = ap₂ Or h k
either_own r (Run t) b h k = ap₂ Or h k
either_own r (And x y) b h k = ap₂ Or h k
either_own r (Or x y) b h k = ap₂ Or h k
either_own r (Choose x y z) b h k = ap₂ Or h k

both_own : (r : Subst) (join : Body → Body → Body) (o p : Option Body) → ((a b : Body) → IsOwnBody r a → IsOwnBody r b → IsOwnBody r (join a b)) → IsOwnOption r o → IsOwnOption r p → IsOwnOption r (both join o p)
both_own r join (Some a) (Some b) keeps h k = keeps a b h k
both_own r join (Some a) None keeps h k = tt
both_own r join None p keeps h k = tt

two_own : (r : Subst) (f : List ℕ) (o p : Option Body) (goal : Tree) → IsOwnOption r o → IsOwnOption r p → IsValue r goal → IsOwnOption r (converted_two f o p goal)
two_own r f o p goal h k own =
    elim (bytes_eq f (codes ",")) as (λ x. IsOwnOption r (if x then both And o p else (if bytes_eq f (codes ";") then both either o p else (if bytes_eq f (codes "->") then both If o p else Some (Run goal))))) [
      | true ↦ both_own r And o p (λ a b first second. ap₂ And first second) h k
      | false ↦ elim (bytes_eq f (codes ";")) as (λ x. IsOwnOption r (if x then both either o p else (if bytes_eq f (codes "->") then both If o p else Some (Run goal)))) [
        | true ↦ both_own r either o p (either_own r) h k
        | false ↦ elim (bytes_eq f (codes "->")) as (λ x. IsOwnOption r (if x then both If o p else Some (Run goal))) [
          | true ↦ both_own r If o p (λ a b first second. ap₂ If first second) h k
          | false ↦ ap Run own
        ]
      ]
    ]

-- a value's converted body
pub converted_own : (r : Subst) (t : Tree) → IsValue r t → IsOwnOption r (converted t)
converted_own r (Variable n) h = ap (λ x. Run (one (codes "call") x)) h
converted_own r (Integer z) h = tt
converted_own r (Name a) h = elim (bytes_eq a (codes "!")) as (λ x. IsOwnBody r (if x then Cut else Run (Name a))) [
  | true ↦ refl
  | false ↦ refl
]
converted_own r (Apply f (More a (More b End))) h =
    let first : apply r a ≡ a = cc in
    let second : apply r b ≡ b = cc in
    two_own r f (converted a) (converted b) (two f a b) (converted_own r a first) (converted_own r b second) h
converted_own r (Apply f End) h = ap Run h
converted_own r (Apply f (Variable n)) h = ap Run h
converted_own r (Apply f (Integer z)) h = ap Run h
converted_own r (Apply f (Name a)) h = ap Run h
converted_own r (Apply f (Apply g ts)) h = ap Run h
converted_own r (Apply f (More a End)) h = ap Run h
converted_own r (Apply f (More a (Variable n))) h = ap Run h
converted_own r (Apply f (More a (Integer z))) h = ap Run h
converted_own r (Apply f (More a (Name b))) h = ap Run h
converted_own r (Apply f (More a (Apply g ts))) h = ap Run h
converted_own r (Apply f (More a (More b (Variable n)))) h = ap Run h
converted_own r (Apply f (More a (More b (Integer z)))) h = ap Run h
converted_own r (Apply f (More a (More b (Name c)))) h = ap Run h
converted_own r (Apply f (More a (More b (Apply g ts)))) h = ap Run h
converted_own r (Apply f (More a (More b (More c ts)))) h = ap Run h
converted_own r End h = tt
converted_own r (More t ts) h = tt

-- ---- replies

-- the reply to a goal's value is made of values
abbrev pub IsOwnReply : Subst → Reply → Type 0
IsOwnReply r Fails = Unit {0}
IsOwnReply r Succeeds = Unit {0}
IsOwnReply r (Equates made a b) = IsValue r a × IsValue r b
IsOwnReply r (EquatesCopy a b) = IsValue r a
IsOwnReply r (Raises error) = Unit {0}
IsOwnReply r (Calls b) = IsOwnBody r b
IsOwnReply r (CallsOnce b) = IsOwnBody r b
IsOwnReply r (Refutes b) = IsOwnBody r b
IsOwnReply r Repeats = Unit {0}
IsOwnReply r (Catches inside catcher recovery) = IsOwnReply r inside × IsValue r catcher × IsValue r recovery
IsOwnReply r (Gathers template b collecting) = IsValue r template × IsOwnBody r b × IsOwnCollecting r collecting
IsOwnReply r (Halts status) = Unit {0}
IsOwnReply r (AsksWorld settles) = (n : ℕ) (w : World) → IsOwnSettled r (settles n w)
IsOwnReply r (Writes bytes) = Unit {0}

converted_reply_own : (r : Subst) (runs : Body → Reply) (o : Option Body) (goal : Tree) (k : Key) → ((b : Body) → IsOwnBody r b → IsOwnReply r (runs b)) → IsOwnOption r o → IsOwnReply r (converted_reply runs o goal k)
converted_reply_own r runs (Some b) goal k keeps own = keeps b own
converted_reply_own r runs None goal k keeps own = tt

goal_reply_own : (r : Subst) (runs : Body → Reply) (goal : Tree) (k : Key) → ((b : Body) → IsOwnBody r b → IsOwnReply r (runs b)) → IsValue r goal → IsOwnReply r (goal_reply runs goal k)
goal_reply_own r runs (Variable n) k keeps own = tt
goal_reply_own r runs (Integer z) k keeps own = converted_reply_own r runs (converted (Integer z)) (Integer z) k keeps (converted_own r (Integer z) own)
goal_reply_own r runs (Name a) k keeps own = converted_reply_own r runs (converted (Name a)) (Name a) k keeps (converted_own r (Name a) own)
goal_reply_own r runs (Apply f ts) k keeps own = converted_reply_own r runs (converted (Apply f ts)) (Apply f ts) k keeps (converted_own r (Apply f ts) own)
goal_reply_own r runs End k keeps own = tt
goal_reply_own r runs (More t ts) k keeps own = tt

called_own : (r : Subst) (goal : Tree) (k : Key) → IsValue r goal → IsOwnReply r (called_reply goal k)
called_own r goal k own =
    goal_reply_own r (λ b. if nat_lt 255 (arity goal) then Raises (max_arity_error k) else Calls b) goal k (λ b inner. elim (nat_lt 255 (arity goal)) as (λ x. IsOwnReply r (if x then Raises (max_arity_error k) else Calls b)) [
      | true ↦ tt
      | false ↦ inner
    ]) own

findall_own : (r : Subst) (template goal result : Tree) (k : Key) → IsValue r template → IsValue r goal → IsValue r result → IsOwnReply r (findall_reply template goal result k)
findall_own r template goal result k first own last =
    goal_reply_own r (λ b. if is_partial_list result then Gathers template b (AsList result) else Raises (type_error (codes "list") result k)) goal k
    (λ b inner. elim (is_partial_list result) as (λ x. IsOwnReply r (if x then Gathers template b (AsList result) else Raises (type_error (codes "list") result k))) [
      | true ↦ (first, inner, last)
      | false ↦ tt
    ]) own

groups_own : (r : Subst) (sorts : Bool) (template goal result : Tree) (k : Key) → IsValue r template → IsValue r goal → IsValue r result → IsOwnReply r (groups_reply sorts template goal result k)
groups_own r sorts template goal result k first own last =
    let w = witness_of template goal in
    let by = grouping sorts template goal result in
    let witness : IsValue r w = witness_value r template goal own in
    goal_reply_own r (λ b. if is_partial_list result then Gathers (pair w template) b (InGroups by) else Raises (type_error (codes "list") result k)) (stripped goal) k
    (λ b inner. elim (is_partial_list result) as (λ x. IsOwnReply r (if x then Gathers (pair w template) b (InGroups by) else Raises (type_error (codes "list") result k))) [
      | true ↦ (ap₂ pair witness first, inner, (witness, last))
      | false ↦ tt
    ]) (stripped_value r goal own)

throw_own : (r : Subst) (t : Tree) (k : Key) → IsOwnReply r (throw_reply t k)
throw_own r (Variable n) k = tt
throw_own r (Integer z) k = tt
throw_own r (Name a) k = tt
throw_own r (Apply f ts) k = tt
throw_own r End k = tt
throw_own r (More t ts) k = tt

halt_own : (r : Subst) (t : Tree) (k : Key) → IsOwnReply r (halt_reply t k)
halt_own r (Variable n) k = tt
halt_own r (Integer z) k = elim (int_lt z (pos 0) || int_lt (pos 255) z) as (λ x. IsOwnReply r (if x then Raises (domain_error (codes "exit_code") (Integer z) k) else Halts (nat_abs z))) [
  | true ↦ tt
  | false ↦ tt
]
halt_own r (Name a) k = tt
halt_own r (Apply f ts) k = tt
halt_own r End k = tt
halt_own r (More t ts) k = tt

-- the answer of a goal that runs no other
answered_own : (r : Subst) (x : Answer) → IsOwnAnswer r x → IsOwnReply r (answered x)
answered_own r Fail own = tt
answered_own r Succeed own = tt
answered_own r (Equate made a b) own = own
answered_own r (EquateCopy a b) own = own
answered_own r (Raise error) own = tt

-- what is written is no term
put_own : (r : Subst) (found : Result ℕ Tree) → IsOwnReply r (put_code found)
put_own r (Ok code) = tt
put_own r (Err error) = tt

output_own : (r : Subst) (row : Output) (t : Tree) → IsOwnReply r (output_reply row t)
output_own r output.PutChar t = put_own r (element_code Characters (argument 0 t) put_char_key)
output_own r output.NewLine t = tt
output_own r output.Write t = tt
output_own r output.Writeq t = tt
output_own r output.WriteCanonical t = tt

pub reply_own : (r : Subst) (b : BuiltIn) (v : Tree) → IsValue r v → IsOwnReply r (reply b v)
reply_own r built_in.True v own = tt
reply_own r built_in.Fail v own = tt
reply_own r built_in.Call v own =
    called_own r (with_arguments (argument 0 v) (others (arguments v))) (key (codes "call") (arity v))
    (with_value r (argument 0 v) (others (arguments v)) (argument_value r 0 v own) (others_value r (arguments v) (arguments_value r v own)))
reply_own r built_in.Once v own = goal_reply_own r CallsOnce (argument 0 v) (key (codes "once") 1) (λ b inner. inner) (argument_value r 0 v own)
reply_own r built_in.Not v own = goal_reply_own r Refutes (argument 0 v) (key (codes "\\+") 1) (λ b inner. inner) (argument_value r 0 v own)
reply_own r built_in.Repeat v own = tt
reply_own r built_in.Catch v own =
    (goal_reply_own r Calls (argument 0 v) (key (codes "catch") 3) (λ b inner. inner) (argument_value r 0 v own), argument_value r 1 v own, argument_value r 2 v own)
reply_own r built_in.Throw v own = throw_own r (argument 0 v) (key (codes "throw") 1)
reply_own r built_in.Halt v own = tt
reply_own r built_in.HaltWith v own = halt_own r (argument 0 v) (key (codes "halt") 1)
reply_own r built_in.Findall v own =
    findall_own r (argument 0 v) (argument 1 v) (argument 2 v) (key (codes "findall") 3) (argument_value r 0 v own) (argument_value r 1 v own) (argument_value r 2 v own)
reply_own r built_in.Bagof v own =
    groups_own r false (argument 0 v) (argument 1 v) (argument 2 v) (key (codes "bagof") 3) (argument_value r 0 v own) (argument_value r 1 v own) (argument_value r 2 v own)
reply_own r built_in.Setof v own =
    groups_own r true (argument 0 v) (argument 1 v) (argument 2 v) (key (codes "setof") 3) (argument_value r 0 v own) (argument_value r 1 v own) (argument_value r 2 v own)
reply_own r built_in.Exists v own = goal_reply_own r Calls (argument 1 v) (key (codes "^") 2) (λ b inner. inner) (argument_value r 1 v own)
reply_own r (built_in.Library row) v own = answered_own r (library_answer row v) (library_own r row v own)
reply_own r (built_in.Setting row) v own = λ n w. settings_own r row v w own
reply_own r (built_in.Storage row) v own = λ n w. storages_own r row v n w own
reply_own r (built_in.Text row) v own = answered_own r (text_answer row v) (texts_own r row v own)
reply_own r (built_in.Output row) v own = output_own r row v
reply_own r (built_in.AtomPart row) v own = λ n w. parts_own r row v own
