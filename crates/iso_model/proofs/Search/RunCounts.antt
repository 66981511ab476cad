-- No step changes how many runs were started, so all worlds of a run have one count.
use Rattle.std.proofs.Common.{◌≡◌, ℕ, zero, suc, ◌+◌, pos, negsuc, List, [], ◌∷◌, Bool, true, false, Option, Some, None, Result, Ok, Err, length, refl, ◌∙◌, subst, ◌==◌, if◌then◌else◌}
use Rattle.std.specs.Prelude.{◌||◌, ◌&&◌, not, nat_lt, int_lt, nat_abs, codes, is_some}
use Rattle.iso_ops.specs.declared.settings.Flags.{Flags}
use Rattle.iso_ops.specs.declared.settings.Unknown.{Unknown}
use Rattle.iso_ops.specs.declared.settings.Unknown.TheVariants as on_unknown
use Rattle.iso_ops.specs.Operators.{Operator}
use Rattle.iso_ops.specs.Settings.{flag_value}
use Rattle.iso_model.specs.Terms.Trees.{Tree, Variable, Integer, Name, Apply, End, More, row}
use Rattle.iso_model.specs.Terms.Sizes.{size}
use Rattle.iso_model.specs.Terms.Types.{is_integer, is_variable}
use Rattle.iso_model.specs.Terms.Arguments.{argument, arguments, arity, others, with_arguments}
use Rattle.iso_model.specs.Terms.Substitutions.{Subst, apply}
use Rattle.iso_model.specs.Terms.Unification.{unifier_of}
use Rattle.iso_model.specs.Terms.Copies.{copy_from, renamed}
use Rattle.iso_model.specs.Terms.Lists.{list_of, is_partial_list}
use Rattle.iso_model.specs.Search.Bodies.{Body, Cut, Run, And, Or, If, Choose, converted}
use Rattle.iso_model.specs.Search.Databases.{Clause, Key, key_of, clauses_at}
use Rattle.iso_model.specs.Search.Replies.{Answer, Fail, Succeed, Equate, EquateCopy, Raise, answered}
use Rattle.iso_model.specs.Search.BuiltIns.{Reply, Fails, Succeeds, Equates, EquatesCopy, Raises, Calls, CallsOnce, Refutes, Repeats, Catches, Gathers, Halts, AsksWorld, Writes, built_in, reply}
use Rattle.iso_model.specs.Search.BuiltIns.{converted_reply, goal_reply, grouping, groups_reply, throw_reply, halt_reply, Grouping, Collecting, AsList, InGroups}
use Rattle.iso_model.specs.Search.Groups.{groups_of, stripped, witness_of, pair, witnesses, items, collection}
use Rattle.iso_model.specs.Search.Outputs.{put_code, put_char_key, output_reply}
use Rattle.iso_model.specs.Search.AtomTexts.{Characters, element_code, text_answer}
use Rattle.iso_model.specs.Search.Library.{library_answer, list_made}
use Rattle.iso_model.specs.Search.Keys.{key}
use Rattle.iso_model.specs.Search.Errors.{type_error, domain_error, max_arity_error}
use Rattle.iso_model.specs.Search.Settings.{has_unbound, name_list, set_names, op_settled, may_be_priority, may_be_specifier, may_be_atom, current_op_settled, set_flag_settled, may_be_flag, current_flag_settled, with_priority, with_specifier, with_texts, with_listed, op_set, is_settable, flags_with, flag_set, flag_settled, setting_settled}
use Rattle.iso_model.specs.Search.Additions.{Addition, head_of}
use Rattle.iso_model.specs.Search.Additions as additions
use Rattle.iso_model.specs.Search.Storages.{addition_settled, is_fixed, with_key, with_head, clause_key, retract_key, retractall_key, abolished, declared, only_checked, storage_settled}
use Rattle.iso_model.specs.Search.AtomParts.{with_atom, concat_key, taken_apart, joined, with_count, sub_key, sub_settled, parts_settled}
use Rattle.iso_model.specs.Search.Settlements.{Settled, Refuses, Changes, Offers, Offer, Reference}
use Rattle.iso_model.specs.declared.built_ins.BuiltIn.{BuiltIn}
use Rattle.iso_model.specs.declared.built_ins.BuiltIn.TheVariants as built_ins
use Rattle.iso_model.specs.declared.kinds.Setting.{Setting}
use Rattle.iso_model.specs.declared.kinds.Setting.TheVariants as setting
use Rattle.iso_model.specs.declared.kinds.Storage.{Storage}
use Rattle.iso_model.specs.declared.kinds.Storage.TheVariants as storage
use Rattle.iso_model.specs.declared.kinds.Output.{Output}
use Rattle.iso_model.specs.declared.kinds.Output.TheVariants as output
use Rattle.iso_model.specs.declared.kinds.AtomPart.{AtomPart}
use Rattle.iso_model.specs.declared.kinds.AtomPart.TheVariants as atom_part
use Rattle.iso_model.specs.Search.Walker as walker
use Rattle.iso_model.specs.Search.Walker.{State, World, Member, Goal, CutTo, Leave, Meet, Gather, Left, AsIs, Again, Clauses, Catching, Gathering, Offered, Groups, Alternative, Outcome, collected, grouped, with_groups, tried_group, witnessed, repeated, with_copy, Goes, Gives, Ends, charged, paid, entered, under, with_others, tried, retried, backtracked, unknown_called, written, called, equated, with_rights, taken, met_right, tried_right, is_there, offered, settled, replied, selected, run_goal, run_value, caught_at, caught, thrown, met, clause_size, pushed, step_goal, step_list, step, fails, with_copy, equated_copy, started}
use Rattle.iso_model.specs.Search.Runs as runs
use Rattle.iso_model.specs.Search.Runs.{Trace, Then, Stops, goes, gives, ends}
use Rattle.iso_model.specs.Search.RunLaws.{run_of, run_of_is}

-- so many runs were started in each world of the trace
abbrev pub AllRuns : ℕ → Trace → Type 0
AllRuns n (Then event w others) = (w.runs ≡ n) × AllRuns n others
AllRuns n (Stops ending w) = w.runs ≡ n

-- where a step leads, so many were
abbrev KeepsRuns : ℕ → Outcome → Type 0
KeepsRuns n (Goes t) = t.world.runs ≡ n
KeepsRuns n (Gives e t) = t.world.runs ≡ n
KeepsRuns n (Ends e w) = w.runs ≡ n

-- ---- replies

data SettlesRuns (n : ℕ) : Settled → Type 0 where
  refuses : {error : Tree} → SettlesRuns n (Refuses error)
  changes : {made : ℕ} {w : World} → w.runs ≡ n → SettlesRuns n (Changes made w)
  offers : {left : Tree} {rights : List Offer} → SettlesRuns n (Offers left rights)

abbrev RepliesRuns : Reply → Type 0
RepliesRuns (Catches inside catcher recovery) = RepliesRuns inside
RepliesRuns (AsksWorld settles) = (n : ℕ) (w : World) → SettlesRuns w.runs (settles n w)
RepliesRuns other = Unit {0}

-- ---- steps

entered_runs : (u : Option Subst) (c : Clause) (n m : ℕ) (rest : List Member) (s : State) → (entered u c n m rest s).world.runs ≡ s.world.runs
entered_runs None c n m rest s = refl
entered_runs (Some u) c n m rest s = refl

others_runs : (call : Tree) (cs : List Clause) (rest : List Member) (s : State) → (with_others call cs rest s).world.runs ≡ s.world.runs
others_runs call [] rest s = refl
others_runs call (c ∷ cs) rest s = refl

tried_runs : (call : Tree) (cs : List Clause) (rest : List Member) (s : State) → (tried call cs rest s).world.runs ≡ s.world.runs
tried_runs call [] rest s = refl
tried_runs call (c ∷ cs) rest s =
    let p = with_others call cs rest s in
    entered_runs (under p.subst (unifier_of call (apply p.subst (renamed p.next c.head)))) c p.next (length s.stack) rest (record p { next = p.next + c.variables; built = p.built + clause_size c })
    ∙ others_runs call cs rest s

charged_runs : (n k : ℕ) (o : Outcome) → KeepsRuns n o → KeepsRuns n (charged k o)
charged_runs n k (Goes t) h = h
charged_runs n k (Gives e t) h = h
charged_runs n k (Ends e w) h = h

paid_runs : (k : ℕ) (s : State) (o : Outcome) → KeepsRuns s.world.runs o → KeepsRuns s.world.runs (paid k s o)
paid_runs zero s o h = refl
paid_runs (suc k) s o h = charged_runs s.world.runs k o h

equated_runs : (u : Option Subst) (rest : List Member) (s : State) → (equated u rest s).world.runs ≡ s.world.runs
equated_runs None rest s = refl
equated_runs (Some u) rest s = refl

copy_runs : (made : ℕ) (a b : Tree) (rest : List Member) (s : State) → (equated_copy made a b rest s).world.runs ≡ s.world.runs
copy_runs made a b rest s = equated_runs (under s.subst (unifier_of a (apply s.subst (copy_from b s.next)))) rest (with_copy made b s)

taken_runs : (u : Option Subst) (removes : Option Reference) (rest : List Member) (s : State) → (taken u removes rest s).world.runs ≡ s.world.runs
taken_runs None removes rest s = refl
taken_runs (Some u) None rest s = refl
taken_runs (Some u) (Some r) rest s = refl

rights_runs : (left : Tree) (os : List Offer) (rest : List Member) (s : State) → (with_rights left os rest s).world.runs ≡ s.world.runs
rights_runs left [] rest s = refl
rights_runs left (o ∷ os) rest s = refl

right_runs : (left : Tree) (o : Offer) (rest : List Member) (s : State) (there : Bool) → (if there then met_right left o rest s else fails s).world.runs ≡ s.world.runs
right_runs left o rest s true =
    taken_runs (under s.subst (unifier_of left (apply s.subst (renamed s.next o.right)))) o.removes rest (record s { next = s.next + o.variables; built = s.built + o.made })
right_runs left o rest s false = refl

offered_runs : (left : Tree) (os : List Offer) (rest : List Member) (s : State) → (offered left os rest s).world.runs ≡ s.world.runs
offered_runs left [] rest s = refl
offered_runs left (o ∷ os) rest s =
    let p = with_rights left os rest s in right_runs left o rest p (is_there o.removes p.world) ∙ rights_runs left os rest s

settled_runs : (x : Settled) (rest : List Member) (s : State) → SettlesRuns s.world.runs x → (settled x rest s).world.runs ≡ s.world.runs
settled_runs (Refuses error) rest s refuses = refl
settled_runs (Changes made w) rest s (changes same) = same
settled_runs (Offers left rights) rest s offers = offered_runs left rights rest s

group_runs : (by : Grouping) (g : List Tree) (rest : List Member) (s : State) → (tried_group by g rest s).world.runs ≡ s.world.runs
group_runs by g rest s =
    let z = with_copy (size (list_of g)) (list_of g) s in
    let solutions = apply s.subst (copy_from (list_of g) s.next) in
    witnessed_runs (under s.subst (unifier_of (repeated by.witness (witnesses solutions)) (row (witnesses solutions)))) solutions z where
      witnessed_runs : (u : Option Subst) (solutions : Tree) (z : State) → (witnessed u by solutions rest z).world.runs ≡ z.world.runs
      witnessed_runs None solutions z = refl
      witnessed_runs (Some u) solutions z =
          let ts = collection by.sorts (items (apply u solutions)) in
          equated_runs (under u (unifier_of (apply u by.result) (list_of ts))) rest (record z { subst = u; built = z.built + (1 + list_made (length ts)) })

groups_runs : (by : Grouping) (gs : List (List Tree)) (rest : List Member) (s : State) → (with_groups by gs rest s).world.runs ≡ s.world.runs
groups_runs by [] rest s = refl
groups_runs by (g ∷ gs) rest s = refl

grouped_runs : (by : Grouping) (gs : List (List Tree)) (rest : List Member) (s : State) → (grouped by gs rest s).world.runs ≡ s.world.runs
grouped_runs by [] rest s = refl
grouped_runs by (g ∷ gs) rest s = group_runs by g rest (with_groups by gs rest s) ∙ groups_runs by gs rest s

collected_runs : (c : Collecting) (copies : List Tree) (rest : List Member) (s : State) → (collected c copies rest s).world.runs ≡ s.world.runs
collected_runs (AsList result) copies rest s = copy_runs (size (list_of copies)) result (list_of copies) rest s
collected_runs (InGroups by) copies rest s = grouped_runs by (groups_of copies) rest s

retried_runs : (l : Left) (s : State) → KeepsRuns s.world.runs (retried l s)
retried_runs AsIs s = refl
retried_runs Again s = paid_runs s.steps s (Goes (pushed s.list Again s)) refl
retried_runs (Clauses call cs) s = tried_runs call cs s.list s
retried_runs (Catching catcher recovery) s = refl
retried_runs (Gathering collecting copies count) s = collected_runs collecting copies s.list s
retried_runs (Offered left rights) s = offered_runs left rights s.list s
retried_runs (Groups by groups) s = grouped_runs by groups s.list s

backtracked_runs : (stack : List Alternative) (s : State) → KeepsRuns s.world.runs (backtracked stack s)
backtracked_runs [] s = refl
backtracked_runs (a ∷ below) s = retried_runs a.left (record s { list = a.list; subst = a.subst; next = a.next; built = a.built; stack = below })

unknown_runs : (u : Unknown) (k : Key) (rest : List Member) (s : State) → (unknown_called u k rest s).world.runs ≡ s.world.runs
unknown_runs on_unknown.Error k rest s = refl
unknown_runs on_unknown.Fail k rest s = refl

called_runs : (cs : Option (List Clause)) (k : Key) (t : Tree) (rest : List Member) (s : State) → (called cs k t rest s).world.runs ≡ s.world.runs
called_runs (Some cs) k t rest s = tried_runs t cs rest s
called_runs None k t rest s = unknown_runs s.world.flags.unknown k rest s

written_runs : (bytes : List ℕ) (rest : List Member) (s : State) → KeepsRuns s.world.runs (written bytes rest s)
written_runs [] rest s = refl
written_runs (b ∷ bytes) rest s = refl

replied_runs : (r : Reply) (rest : List Member) (s : State) → RepliesRuns r → KeepsRuns s.world.runs (replied r rest s)
replied_runs Fails rest s h = refl
replied_runs Succeeds rest s h = refl
replied_runs (Equates made a b) rest s h = equated_runs (under s.subst (unifier_of a b)) rest (record s { built = s.built + made })
replied_runs (EquatesCopy a b) rest s h = copy_runs (1 + size b) a b rest s
replied_runs (Raises error) rest s h = refl
replied_runs (Calls b) rest s h = refl
replied_runs (CallsOnce b) rest s h = refl
replied_runs (Refutes b) rest s h = refl
replied_runs (Catches inside catcher recovery) rest s h =
    replied_runs inside (Leave (length s.stack) ∷ rest) (pushed rest (Catching catcher recovery) s) h
replied_runs (Gathers template b result) rest s h = refl
replied_runs (Halts status) rest s h = refl
replied_runs Repeats rest s h = refl
replied_runs (AsksWorld settles) rest s h = settled_runs (settles s.next s.world) rest s (h s.next s.world)
replied_runs (Writes bytes) rest s h = written_runs (bytes s.world.operators) rest s

-- ---- what goals of built-ins come to

if_replies : (b : Bool) (r q : Reply) → RepliesRuns r → RepliesRuns q → RepliesRuns (if b then r else q)
if_replies true r q h k = h
if_replies false r q h k = k

converted_replies : (runs : Body → Reply) → ((b : Body) → RepliesRuns (runs b)) → (o : Option Body) (t : Tree) (k : Key) → RepliesRuns (converted_reply runs o t k)
converted_replies runs each None t k = tt
converted_replies runs each (Some b) t k = each b

goal_replies : (runs : Body → Reply) → ((b : Body) → RepliesRuns (runs b)) → (t : Tree) (k : Key) → RepliesRuns (goal_reply runs t k)
goal_replies runs each (Variable n) k = tt
goal_replies runs each (Integer z) k = converted_replies runs each (converted (Integer z)) (Integer z) k
goal_replies runs each (Name a) k = converted_replies runs each (converted (Name a)) (Name a) k
goal_replies runs each (Apply f ts) k = converted_replies runs each (converted (Apply f ts)) (Apply f ts) k
goal_replies runs each End k = converted_replies runs each (converted End) End k
goal_replies runs each (More t ts) k = converted_replies runs each (converted (More t ts)) (More t ts) k

throw_replies : (t : Tree) (k : Key) → RepliesRuns (throw_reply t k)
throw_replies (Variable n) k = tt
throw_replies (Integer z) k = tt
throw_replies (Name a) k = tt
throw_replies (Apply f ts) k = tt
throw_replies End k = tt
throw_replies (More t ts) k = tt

halt_replies : (t : Tree) (k : Key) → RepliesRuns (halt_reply t k)
halt_replies (Variable n) k = tt
halt_replies (Integer z) k = if_replies (int_lt z (pos 0) || int_lt (pos 255) z) (Raises (domain_error (codes "exit_code") (Integer z) k)) (Halts (nat_abs z)) tt tt
halt_replies (Name a) k = tt
halt_replies (Apply f ts) k = tt
halt_replies End k = tt
halt_replies (More t ts) k = tt

answered_replies : (a : Answer) → RepliesRuns (answered a)
answered_replies Fail = tt
answered_replies Succeed = tt
answered_replies (Equate made a b) = tt
answered_replies (EquateCopy a b) = tt
answered_replies (Raise error) = tt

put_replies : (r : Result ℕ Tree) → RepliesRuns (put_code r)
put_replies (Ok code) = tt
put_replies (Err error) = tt

output_replies : (row : Output) (t : Tree) → RepliesRuns (output_reply row t)
output_replies output.PutChar t = put_replies (element_code Characters (argument 0 t) put_char_key)
output_replies output.NewLine t = tt
output_replies output.Write t = tt
output_replies output.Writeq t = tt
output_replies output.WriteCanonical t = tt

-- ---- what goals come to that read or change the world

if_settles : (n : ℕ) (b : Bool) (x y : Settled) → SettlesRuns n x → SettlesRuns n y → SettlesRuns n (if b then x else y)
if_settles n true x y h k = h
if_settles n false x y h k = k

priority_settles : (n : ℕ) (p : Tree) (on : ℕ → Settled) → ((m : ℕ) → SettlesRuns n (on m)) → SettlesRuns n (with_priority p on)
priority_settles n (Variable m) on each = refuses
priority_settles n (Integer (pos m)) on each = if_settles n _ _ _ refuses (each m)
priority_settles n (Integer (negsuc m)) on each = refuses
priority_settles n (Name a) on each = refuses
priority_settles n (Apply f ts) on each = refuses
priority_settles n End on each = refuses
priority_settles n (More t ts) on each = refuses

specifier_settles : (n : ℕ) (s : Tree) (on : List ℕ → Settled) → ((a : List ℕ) → SettlesRuns n (on a)) → SettlesRuns n (with_specifier s on)
specifier_settles n (Variable m) on each = refuses
specifier_settles n (Integer z) on each = refuses
specifier_settles n (Name a) on each = if_settles n _ _ _ (each a) refuses
specifier_settles n (Apply f ts) on each = refuses
specifier_settles n End on each = refuses
specifier_settles n (More t ts) on each = refuses

texts_settle : (n : ℕ) (ts : List Tree) (on : List (List ℕ) → Settled) → ((texts : List (List ℕ)) → SettlesRuns n (on texts)) → SettlesRuns n (with_texts ts on)
texts_settle n [] on each = each []
texts_settle n (Variable m ∷ ts) on each = refuses
texts_settle n (Integer z ∷ ts) on each = refuses
texts_settle n (Name a ∷ ts) on each = texts_settle n ts (λ texts. on (a ∷ texts)) (λ texts. each (a ∷ texts))
texts_settle n (Apply f us ∷ ts) on each = refuses
texts_settle n (End ∷ ts) on each = refuses
texts_settle n (More u us ∷ ts) on each = refuses

listed_settles : (n : ℕ) (names : Tree) (o : Option (List Tree)) (on : List (List ℕ) → Settled) → ((texts : List (List ℕ)) → SettlesRuns n (on texts)) → SettlesRuns n (with_listed names o on)
listed_settles n names None on each = refuses
listed_settles n names (Some ts) on each = texts_settle n ts on each

op_set_settles : (w : World) (r : Result (List Operator) Tree) → SettlesRuns w.runs (op_set w r)
op_set_settles w (Ok ops) = changes refl
op_set_settles w (Err error) = refuses

flag_set_settles : (f : List ℕ) (v : Tree) (w : World) (o : Option Flags) → SettlesRuns w.runs (flag_set f v w o)
flag_set_settles f v w (Some flags) = changes refl
flag_set_settles f v w None = refuses

flag_settles : (f v : Tree) (w : World) → SettlesRuns w.runs (flag_settled f v w)
flag_settles (Variable m) v w = refuses
flag_settles (Integer z) v w = refuses
flag_settles (Name f) v w =
    if_settles w.runs (not (is_some (flag_value w.flags f))) _ _ refuses (if_settles w.runs (not (is_settable f)) _ _ refuses (flag_set_settles f v w (flags_with f v w.flags)))
flag_settles (Apply f ts) v w = refuses
flag_settles End v w = refuses
flag_settles (More t ts) v w = refuses

op_settles : (p s names : Tree) (w : World) → SettlesRuns w.runs (op_settled p s names w)
op_settles p s names w =
    if_settles w.runs (is_variable p || (is_variable s || has_unbound names)) _ _ refuses
    (priority_settles w.runs p _ (λ n. specifier_settles w.runs s _ (λ text. listed_settles w.runs names (name_list names) _ (λ texts. op_set_settles w (set_names n text texts w.operators)))))

current_op_settles : (p s name : Tree) (w : World) → SettlesRuns w.runs (current_op_settled p s name w)
current_op_settles p s name w =
    if_settles w.runs (not (may_be_priority p)) _ _ refuses (if_settles w.runs (not (may_be_specifier s)) _ _ refuses (if_settles w.runs (not (may_be_atom name)) _ _ refuses offers))

set_flag_settles : (f v : Tree) (w : World) → SettlesRuns w.runs (set_flag_settled f v w)
set_flag_settles f v w = if_settles w.runs (is_variable f || is_variable v) _ _ refuses (flag_settles f v w)

current_flag_settles : (f v : Tree) (w : World) → SettlesRuns w.runs (current_flag_settled f v w)
current_flag_settles f v w = if_settles w.runs (not (may_be_atom f)) _ _ refuses (if_settles w.runs (not (may_be_flag f w.flags)) _ _ refuses offers)

setting_settles : (row : Setting) (t : Tree) (w : World) → SettlesRuns w.runs (setting_settled row t w)
setting_settles setting.Op t w = op_settles (argument 0 t) (argument 1 t) (argument 2 t) w
setting_settles setting.CurrentOp t w = current_op_settles (argument 0 t) (argument 1 t) (argument 2 t) w
setting_settles setting.SetFlag t w = set_flag_settles (argument 0 t) (argument 1 t) w
setting_settles setting.CurrentFlag t w = current_flag_settles (argument 0 t) (argument 1 t) w

addition_settles : (a : Addition) (w : World) → SettlesRuns w.runs (addition_settled a w)
addition_settles (additions.Adds db) w = changes refl
addition_settles (additions.Refuses error) w = refuses

key_settles : (n : ℕ) (h : Tree) (o : Option Key) (by : Key) (on : Key → Settled) → ((k : Key) → SettlesRuns n (on k)) → SettlesRuns n (with_key h o by on)
key_settles n h None by on each = refuses
key_settles n h (Some k) by on each = each k

head_settles : (n : ℕ) (h : Tree) (by : Key) (on : Key → Settled) → ((k : Key) → SettlesRuns n (on k)) → SettlesRuns n (with_head h by on)
head_settles n (Variable m) by on each = refuses
head_settles n (Integer z) by on each = key_settles n (Integer z) (key_of (Integer z)) by on each
head_settles n (Name a) by on each = key_settles n (Name a) (key_of (Name a)) by on each
head_settles n (Apply f ts) by on each = key_settles n (Apply f ts) (key_of (Apply f ts)) by on each
head_settles n End by on each = key_settles n End (key_of End) by on each
head_settles n (More t ts) by on each = key_settles n (More t ts) (key_of (More t ts)) by on each

abolished_settles : (w : World) (r : Result Key Tree) → SettlesRuns w.runs (abolished w r)
abolished_settles w (Ok k) = changes refl
abolished_settles w (Err error) = refuses

declared_settles : (w : World) (r : Result (List Key) Tree) → SettlesRuns w.runs (declared w r)
declared_settles w (Ok ks) = changes refl
declared_settles w (Err error) = refuses

only_checked_settles : (w : World) (r : Result (List Key) Tree) → SettlesRuns w.runs (only_checked w r)
only_checked_settles w (Ok ks) = changes refl
only_checked_settles w (Err error) = refuses

storage_settles : (row : Storage) (t : Tree) (next : ℕ) (w : World) → SettlesRuns w.runs (storage_settled row t next w)
storage_settles storage.Asserta t next w = addition_settles _ w
storage_settles storage.Assertz t next w = addition_settles _ w
storage_settles storage.Clause t next w =
    head_settles w.runs (argument 0 t) clause_key _ (λ k. if_settles w.runs (is_integer (argument 1 t)) _ _ refuses (if_settles w.runs (is_fixed w.database.procedures k) _ _ refuses offers))
storage_settles storage.Retract t next w = head_settles w.runs (head_of (argument 0 t)) retract_key _ (λ k. if_settles w.runs (is_fixed w.database.procedures k) _ _ refuses offers)
storage_settles storage.Retractall t next w = head_settles w.runs (argument 0 t) retractall_key _ (λ k. if_settles w.runs (is_fixed w.database.procedures k) _ _ refuses (changes refl))
storage_settles storage.Abolish t next w = abolished_settles w _
storage_settles storage.Dynamic t next w = declared_settles w _
storage_settles storage.Multifile t next w = only_checked_settles w _
storage_settles storage.Discontiguous t next w = only_checked_settles w _

-- atoms are joined and taken apart without a change
atom_settles : (n : ℕ) (t : Tree) (k : Key) (x : Settled) → SettlesRuns n x → SettlesRuns n (with_atom t k x)
atom_settles n t k x h = if_settles n _ x _ h refuses

taken_apart_settles : (n : ℕ) (a b c : Tree) → SettlesRuns n (taken_apart a b c)
taken_apart_settles n a b (Variable m) = refuses
taken_apart_settles n a b (Integer z) = refuses
taken_apart_settles n a b (Name c) = offers
taken_apart_settles n a b (Apply f ts) = refuses
taken_apart_settles n a b End = refuses
taken_apart_settles n a b (More t ts) = refuses

joined_settles : (n : ℕ) (a b c : Tree) → SettlesRuns n (joined a b c)
joined_settles n (Name a) (Name b) c = offers
joined_settles n (Name a) (Variable m) c = taken_apart_settles n (Name a) (Variable m) c
joined_settles n (Name a) (Integer z) c = taken_apart_settles n (Name a) (Integer z) c
joined_settles n (Name a) (Apply f ts) c = taken_apart_settles n (Name a) (Apply f ts) c
joined_settles n (Name a) End c = taken_apart_settles n (Name a) End c
joined_settles n (Name a) (More t ts) c = taken_apart_settles n (Name a) (More t ts) c
joined_settles n (Variable m) b c = taken_apart_settles n (Variable m) b c
joined_settles n (Integer z) b c = taken_apart_settles n (Integer z) b c
joined_settles n (Apply f ts) b c = taken_apart_settles n (Apply f ts) b c
joined_settles n End b c = taken_apart_settles n End b c
joined_settles n (More t ts) b c = taken_apart_settles n (More t ts) b c

count_settles : (n : ℕ) (t : Tree) (x : Settled) → SettlesRuns n x → SettlesRuns n (with_count t x)
count_settles n (Variable m) x h = h
count_settles n (Integer (pos m)) x h = h
count_settles n (Integer (negsuc m)) x h = refuses
count_settles n (Name a) x h = refuses
count_settles n (Apply f ts) x h = refuses
count_settles n End x h = refuses
count_settles n (More t ts) x h = refuses

sub_settles : (n : ℕ) (a b l r s : Tree) → SettlesRuns n (sub_settled a b l r s)
sub_settles n (Variable m) b l r s = refuses
sub_settles n (Integer z) b l r s = refuses
sub_settles n (Name a) b l r s = atom_settles n s sub_key _ (count_settles n b _ (count_settles n l _ (count_settles n r _ offers)))
sub_settles n (Apply f ts) b l r s = refuses
sub_settles n End b l r s = refuses
sub_settles n (More t ts) b l r s = refuses

parts_settle : (n : ℕ) (row : AtomPart) (t : Tree) → SettlesRuns n (parts_settled row t)
parts_settle n atom_part.Concat t =
    if_settles n (is_variable (argument 2 t) && (is_variable (argument 0 t) || is_variable (argument 1 t))) _ _ refuses
    (atom_settles n (argument 0 t) concat_key _ (atom_settles n (argument 1 t) concat_key _ (atom_settles n (argument 2 t) concat_key _ (joined_settles n (argument 0 t) (argument 1 t) (argument 2 t)))))
parts_settle n atom_part.Sub t = sub_settles n (argument 0 t) (argument 1 t) (argument 2 t) (argument 3 t) (argument 4 t)

groups_replies : (sorts : Bool) (template goal result : Tree) (k : Key) → RepliesRuns (groups_reply sorts template goal result k)
groups_replies sorts template goal result k =
    let fault = Raises (type_error (codes "list") result k) in
    let gathers : Body → Reply = λ b. Gathers (pair (witness_of template goal) template) b (InGroups (grouping sorts template goal result)) in
    goal_replies (λ b. if is_partial_list result then gathers b else fault) (λ b. if_replies (is_partial_list result) (gathers b) fault tt tt) (stripped goal) k

reply_runs : (b : BuiltIn) (t : Tree) → RepliesRuns (reply b t)
reply_runs built_ins.True t = tt
reply_runs built_ins.Fail t = tt
reply_runs built_ins.Call t =
    let goal = with_arguments (argument 0 t) (others (arguments t)) in
    let k = key (codes "call") (arity t) in
    goal_replies (λ b. if nat_lt 255 (arity goal) then Raises (max_arity_error k) else Calls b) (λ b. if_replies (nat_lt 255 (arity goal)) (Raises (max_arity_error k)) (Calls b) tt tt) goal k
reply_runs built_ins.Once t = goal_replies CallsOnce (λ b. tt) (argument 0 t) (key (codes "once") 1)
reply_runs built_ins.Not t = goal_replies Refutes (λ b. tt) (argument 0 t) (key (codes "\\+") 1)
reply_runs built_ins.Repeat t = tt
reply_runs built_ins.Catch t = goal_replies Calls (λ b. tt) (argument 0 t) (key (codes "catch") 3)
reply_runs built_ins.Throw t = throw_replies (argument 0 t) (key (codes "throw") 1)
reply_runs built_ins.Halt t = tt
reply_runs built_ins.HaltWith t = halt_replies (argument 0 t) (key (codes "halt") 1)
reply_runs built_ins.Findall t =
    let k = key (codes "findall") 3 in
    let fault = Raises (type_error (codes "list") (argument 2 t) k) in
    goal_replies (λ b. if is_partial_list (argument 2 t) then Gathers (argument 0 t) b (AsList (argument 2 t)) else fault)
    (λ b. if_replies (is_partial_list (argument 2 t)) (Gathers (argument 0 t) b (AsList (argument 2 t))) fault tt tt) (argument 1 t) k
reply_runs built_ins.Bagof t = groups_replies false (argument 0 t) (argument 1 t) (argument 2 t) (key (codes "bagof") 3)
reply_runs built_ins.Setof t = groups_replies true (argument 0 t) (argument 1 t) (argument 2 t) (key (codes "setof") 3)
reply_runs built_ins.Exists t = goal_replies Calls (λ b. tt) (argument 1 t) (key (codes "^") 2)
reply_runs (built_ins.Library row) t = answered_replies (library_answer row t)
reply_runs (built_ins.Setting row) t = λ n w. setting_settles row t w
reply_runs (built_ins.Storage row) t = λ n w. storage_settles row t n w
reply_runs (built_ins.Text row) t = answered_replies (text_answer row t)
reply_runs (built_ins.Output row) t = output_replies row t
reply_runs (built_ins.AtomPart row) t = λ n w. parts_settle w.runs row t

-- ---- a step

selected_runs : (b : Option BuiltIn) (k : Key) (t : Tree) (rest : List Member) (s : State) → KeepsRuns s.world.runs (selected b k t rest s)
selected_runs (Some b) k t rest s = replied_runs (reply b t) rest s (reply_runs b t)
selected_runs None k t rest s = called_runs (clauses_at s.world.database.procedures k) k t rest s

goal_runs : (k : Option Key) (t : Tree) (rest : List Member) (s : State) → KeepsRuns s.world.runs (run_goal k t rest s)
goal_runs (Some k) t rest s = selected_runs (built_in k) k t rest s
goal_runs None t rest s = refl

body_runs : (b : Body) (m : ℕ) (rest : List Member) (s : State) → KeepsRuns s.world.runs (step_goal b m rest s)
body_runs Cut m rest s = refl
body_runs (Run t) m rest s = paid_runs s.steps s (run_value (apply s.subst t) rest s) (goal_runs (key_of (apply s.subst t)) (apply s.subst t) rest s)
body_runs (And a b) m rest s = refl
body_runs (Or a b) m rest s = refl
body_runs (If a b) m rest s = refl
body_runs (Choose a b c) m rest s = refl

caught_at_runs : (l : Left) (a : Alternative) (below : List Alternative) (ball : Tree) (s : State) (o : Outcome) → KeepsRuns s.world.runs o → KeepsRuns s.world.runs (caught_at l a below ball s o)
caught_at_runs (Catching catcher recovery) a below ball s o h = refl
caught_at_runs AsIs a below ball s o h = h
caught_at_runs Again a below ball s o h = h
caught_at_runs (Clauses call cs) a below ball s o h = h
caught_at_runs (Gathering result copies count) a below ball s o h = h
caught_at_runs (Offered left rights) a below ball s o h = h
caught_at_runs (Groups by groups) a below ball s o h = h

caught_runs : (height : ℕ) (stack : List Alternative) (ball : Tree) (s : State) (o : Outcome) → KeepsRuns s.world.runs o → KeepsRuns s.world.runs (caught height stack ball s o)
caught_runs height [] ball s o h = h
caught_runs height (a ∷ below) ball s o h =
    elim (length below == height) as (λ here. KeepsRuns s.world.runs (if here then caught_at a.left a below ball s o else caught height below ball s o)) [
      | true ↦ caught_at_runs a.left a below ball s o h
      | false ↦ caught_runs height below ball s o h
    ]

thrown_runs : (ball : Tree) (rest : List Member) (s : State) → KeepsRuns s.world.runs (thrown ball rest s)
thrown_runs ball [] s = refl
thrown_runs ball (Leave height ∷ rest) s = caught_runs height s.stack ball s (thrown ball rest s) (thrown_runs ball rest s)
thrown_runs ball (Goal b mark ∷ rest) s = thrown_runs ball rest s
thrown_runs ball (CutTo height ∷ rest) s = thrown_runs ball rest s
thrown_runs ball (walker.Fail ∷ rest) s = thrown_runs ball rest s
thrown_runs ball (walker.Raise other ∷ rest) s = thrown_runs ball rest s
thrown_runs ball (Meet other catcher recovery ∷ rest) s = thrown_runs ball rest s
thrown_runs ball (Gather height template ∷ rest) s = thrown_runs ball rest s

met_runs : (u : Option Subst) (ball recovery : Tree) (rest : List Member) (s : State) → (met u ball recovery rest s).world.runs ≡ s.world.runs
met_runs None ball recovery rest s = refl
met_runs (Some u) ball recovery rest s = refl

list_runs : (ms : List Member) (s : State) → KeepsRuns s.world.runs (step_list ms s)
list_runs [] s = refl
list_runs (CutTo m ∷ rest) s = refl
list_runs (walker.Fail ∷ rest) s = backtracked_runs s.stack s
list_runs (Leave height ∷ rest) s = refl
list_runs (walker.Raise ball ∷ rest) s = thrown_runs ball rest s
list_runs (Meet ball catcher recovery ∷ rest) s =
    met_runs (under s.subst (unifier_of (apply s.subst catcher) (apply s.subst (copy_from ball s.next)))) ball recovery rest (record s { built = s.built + size ball })
list_runs (Gather height template ∷ rest) s = refl
list_runs (Goal b m ∷ rest) s = body_runs b m rest s

step_runs : (s : State) → KeepsRuns s.world.runs (step s)
unfolding step
step_runs s = list_runs s.list s

-- ---- a run

all_runs : {s : State} {r : Trace} → runs.Run s r → AllRuns s.world.runs r
all_runs (goes {s = s} {t = t} {r = r} is behind) =
    let same : t.world.runs ≡ s.world.runs = subst (KeepsRuns s.world.runs) is (step_runs s) in
    subst (λ (n : ℕ). AllRuns n r) same (all_runs behind)
all_runs (gives {s = s} {t = t} {e = e} {r = r} is behind) =
    let same : t.world.runs ≡ s.world.runs = subst (KeepsRuns s.world.runs) is (step_runs s) in
    (same, subst (λ (n : ℕ). AllRuns n r) same (all_runs behind))
all_runs (ends {s = s} is) = subst (KeepsRuns s.world.runs) is (step_runs s)

-- all worlds of the run that is started over this world are behind one run more
pub started_runs : (goal : Tree) (budget : ℕ) (w : World) → AllRuns (w.runs + 1) (run_of (started goal budget w))
started_runs goal budget w = all_runs (run_of_is (started goal budget w))
