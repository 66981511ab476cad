-- The standard's search, step by step (ISO/IEC 13211-1:1995, 7.7): depth first, clauses in their order, goals from
-- left to right.
use Rattle.std.specs.Prelude.{ℕ, zero, suc, ◌+◌, ◌-◌, List, [], ◌∷◌, ◌++◌, length, drop, map, Bool, true, Option, Some, None, option_map, codes, ◌==◌, if◌then◌else◌}
use Rattle.iso_ops.specs.declared.settings.Unknown.{Unknown}
use Rattle.iso_ops.specs.declared.settings.Unknown.TheVariants as on_unknown
use Rattle.iso_model.specs.Terms.Trees.{Tree, Variable, Name, Apply, row}
use Rattle.iso_model.specs.Terms.Sizes.{size}
use Rattle.iso_model.specs.Terms.Variables.{variables, variable_count}
use Rattle.iso_model.specs.Terms.Substitutions.{Subst, apply, compose}
use Rattle.iso_model.specs.Terms.Unification.{unifier_of}
use Rattle.iso_model.specs.Terms.Copies.{copy_from, renamed}
use Rattle.iso_model.specs.Terms.Lists.{list_of}
use Rattle.iso_model.specs.Search.Bodies.{Body, Cut, Run, And, Or, If, Choose, one, converted, body_term, map_body, is_true}
use Rattle.iso_model.specs.Search.Databases.{Clause, Key, key, key_of, clauses_at, has_clause, without_clause}
pub use Rattle.iso_model.specs.Search.Worlds.{World, first_world}
use Rattle.iso_model.specs.Search.BuiltIns.{Reply, Fails, Succeeds, Equates, EquatesCopy, Raises, Calls, CallsOnce, Refutes, Repeats, Catches, Gathers, Halts, AsksWorld, Writes, built_in, reply, Grouping, Collecting, AsList, InGroups}
use Rattle.iso_model.specs.Search.Errors.{type_error_callable, existence_error}
use Rattle.iso_model.specs.Search.Groups.{groups_of, is_solution, witnesses, items, collection}
use Rattle.iso_model.specs.Search.Library.{list_made}
use Rattle.iso_model.specs.Search.Settlements.{Settled, Refuses, Changes, Offers, Offer, Reference}
use Rattle.iso_model.specs.declared.built_ins.BuiltIn.{BuiltIn}

-- A member of the list of goals (7.7.3, 7.8.4, 7.8.9, 7.8.10, 8.10.1).
-- - Goal: a goal with its cut mark, a height of the stack.
-- - CutTo: a cut back to a height. Fail: failure.
-- - Leave: the end of a catch's goal. Its alternative stands at this height.
-- - Raise: a ball that is thrown. Meet: a ball that is to be caught by this catcher.
-- - Gather: the end of the goal of a findall/3, bagof/3 or setof/3, with the template. The alternative that gathers
--   stands at this height.
pub data Member : Type 0 where
  Goal : (body : Body) → (mark : ℕ) → Member
  CutTo : (height : ℕ) → Member
  Fail : Member
  Leave : (height : ℕ) → Member
  Raise : (ball : Tree) → Member
  Meet : (ball : Tree) → (catcher : Tree) → (recovery : Tree) → Member
  Gather : (height : ℕ) → (template : Tree) → Member

-- What is left to be tried at an alternative.
-- - AsIs: its goals as they are. Again: the same, again and again.
-- - Clauses: these clauses for this call.
-- - Catching: nothing, since it is the entry of a catch.
-- - Gathering: what was gathered: the copies of the solutions so far, and what they are for. Their variables are 0, 1, ..
--   up to this count.
-- - Offered: the rows of terms that the left one is still to be unified with.
-- - Groups: groups of solutions of a bagof/3 or setof/3, each a solution that is still to come.
pub data Left : Type 0 where
  AsIs : Left
  Again : Left
  Clauses : (call : Tree) → (clauses : List Clause) → Left
  Catching : (catcher : Tree) → (recovery : Tree) → Left
  Gathering : (collecting : Collecting) → (copies : List Tree) → (count : ℕ) → Left
  Offered : (left : Tree) → (rights : List Offer) → Left
  Groups : (by : Grouping) → (groups : List (List Tree)) → Left

-- An alternative: the goals, the substitution, the next number and what was built, as they were when it was made, and
-- what is left to be tried (7.7.8).
pub record Alternative : Type 0 where
  pub list : List Member
  pub subst : Subst
  pub next : ℕ
  pub built : ℕ
  pub left : Left

-- A state of the search. The stack has the newest alternative first; `query` is the goal that was started; `steps` is
-- what is left of the budget.
pub record State : Type 0 where
  pub list : List Member
  pub subst : Subst
  pub next : ℕ
  pub built : ℕ
  pub query : Tree
  pub stack : List Alternative
  pub world : World
  pub steps : ℕ

-- what a search shows while it goes on: the values of the query's variables in a solution, or bytes that a goal wrote
pub data Event : Type 0 where
  Answered : (values : List Tree) → Event
  Wrote : (bytes : List ℕ) → Event

-- how a search ends
pub data Ending : Type 0 where
  NoMore : Ending
  Budget : Ending
  Uncaught : (ball : Tree) → Ending
  Halted : (status : ℕ) → Ending

-- what a step comes to
pub data Outcome : Type 0 where
  Goes : (next : State) → Outcome
  Gives : (event : Event) → (next : State) → Outcome
  Ends : (ending : Ending) → (world : World) → Outcome

-- a step that takes one of the budget's, or the end where none is left
abbrev pub charged : ℕ → Outcome → Outcome
charged n (Goes t) = Goes (record t { steps = n })
charged n (Gives e t) = Gives e (record t { steps = n })
charged n (Ends e w) = Ends e w

abbrev pub paid : ℕ → State → Outcome → Outcome
paid zero s o = Ends Budget s.world
paid (suc n) s o = charged n o

-- the state in which failure comes next
abbrev pub fails : State → State
fails s = record s { list = Fail ∷ [] }

-- the values of the query's variables, by first occurrence
abbrev pub values : State → List Tree
values s = map s.subst (variables s.query)

-- how large a clause is: its distinct variables, and the sizes of the arguments of its head and of its body's goals
-- (own)
abbrev pub arguments_size : Tree → ℕ
arguments_size (Apply f ts) = size ts
arguments_size t = 0

abbrev pub body_size : Body → ℕ
body_size Cut = 0
body_size (Run t) = arguments_size t
body_size (And a b) = body_size a + body_size b
body_size (Or a b) = body_size a + body_size b
body_size (If a b) = body_size a + body_size b
body_size (Choose a b c) = body_size a + (body_size b + body_size c)

abbrev pub clause_size : Clause → ℕ
clause_size c = c.variables + (arguments_size c.head + body_size c.body)

-- a body comes before the rest; one that is `true` alone is no goal
abbrev pub before : Body → ℕ → List Member → List Member
before b mark rest = if is_true b then rest else Goal b mark ∷ rest

-- a unifier of terms that are under the substitution r, composed with r
abbrev pub under : Subst → Option Subst → Option Subst
under r u = option_map (compose r) u

-- the clause's head was unified with the call, or not
abbrev pub entered : Option Subst → Clause → ℕ → ℕ → List Member → State → State
entered None c n mark rest s = fails s
entered (Some u) c n mark rest s = record s { list = before (map_body (λ k. Variable (n + k)) c.body) mark rest; subst = u }

-- The first clause is tried for this call, which is the value of a goal under the substitution: its variables are
-- numbered from the next number on, what it makes is counted, its head is unified with the call, and its body comes
-- before the rest, with the height at the call as its cut mark.
abbrev pub tried_clause : Tree → Clause → ℕ → List Member → State → State
tried_clause call c mark rest s =
    entered (under s.subst (unifier_of call (apply s.subst (renamed s.next c.head)))) c s.next mark rest (record s { next = s.next + c.variables; built = s.built + clause_size c })

-- an alternative with this list, at which this is left to be tried
abbrev pub pushed : List Member → Left → State → State
pushed ms left s = record s { stack = record { list = ms; subst = s.subst; next = s.next; built = s.built; left = left } ∷ s.stack }

-- the alternatives up to this height, the oldest ones
abbrev pub shortened : ℕ → List Alternative → List Alternative
shortened height stack = drop (length stack - height) stack

-- a cut: the alternatives that were made since the stack had this height are taken away (7.8.4)
abbrev pub cut_back : ℕ → List Member → State → State
cut_back height rest s = record s { list = rest; stack = shortened height s.stack }

-- the clauses behind the first are one alternative, where there are any
abbrev pub with_others : Tree → List Clause → List Member → State → State
with_others call [] rest s = s
with_others call (c ∷ cs) rest s = pushed rest (Clauses call (c ∷ cs)) s

-- the clauses are tried in their order for this call
abbrev pub tried : Tree → List Clause → List Member → State → State
tried call [] rest s = fails s
tried call (c ∷ cs) rest s = tried_clause call c (length s.stack) rest (with_others call cs rest s)

-- A call of an unknown procedure raises an error, or fails, as the flag `unknown` says (7.7.7, 7.11.2.4).
abbrev pub unknown_called : Unknown → Key → List Member → State → State
unknown_called on_unknown.Error k rest s = record s { list = Raise (existence_error k) ∷ rest }
unknown_called on_unknown.Fail k rest s = fails s

-- a call of a user procedure: its clauses are taken as they are now
abbrev pub called : Option (List Clause) → Key → Tree → List Member → State → State
called (Some cs) k t rest s = tried t cs rest s
called None k t rest s = unknown_called s.world.flags.unknown k rest s

-- two terms were unified, or not (8.2.1)
abbrev pub equated : Option Subst → List Member → State → State
equated None rest s = fails s
equated (Some u) rest s = record s { list = rest; subst = u }

-- the right rows behind the first are one alternative, where there are any
abbrev pub with_rights : Tree → List Offer → List Member → State → State
with_rights left [] rest s = s
with_rights left (o ∷ os) rest s = pushed rest (Offered left (o ∷ os)) s

-- the world without the clause of a row that was taken
abbrev pub without_removed : Option Reference → World → World
without_removed None w = w
without_removed (Some r) w = record w { database = record w.database { procedures = without_clause w.database.procedures r.procedure r.number } }

-- the left row was unified with a right one, whose clause is removed; or not
abbrev pub taken : Option Subst → Option Reference → List Member → State → State
taken None removes rest s = fails s
taken (Some u) removes rest s = record s { list = rest; subst = u; world = without_removed removes s.world }

-- The left row is unified with this one, whose variables are numbered from the next number on.
abbrev pub met_right : Tree → Offer → List Member → State → State
met_right left o rest s =
    taken (under s.subst (unifier_of left (apply s.subst (renamed s.next o.right)))) o.removes rest (record s { next = s.next + o.variables; built = s.built + o.made })

-- whether the clause of a row is still there: a row whose clause was removed meanwhile fails (8.9.3.1; that it is
-- passed over so is own)
abbrev pub is_there : Option Reference → World → Bool
is_there None w = true
is_there (Some r) w = has_clause w.database.procedures r.procedure r.number

abbrev pub tried_right : Tree → Offer → List Member → State → State
tried_right left o rest s = if is_there o.removes s.world then met_right left o rest s else fails s

-- the right rows are tried in their order
abbrev pub offered : Tree → List Offer → List Member → State → State
offered left [] rest s = fails s
offered left (o ∷ os) rest s = tried_right left o rest (with_rights left os rest s)

-- a goal that reads or changes what outlives a run comes to this
abbrev pub settled : Settled → List Member → State → State
settled (Refuses error) rest s = record s { list = Raise error ∷ rest }
settled (Changes made w) rest s = record s { list = rest; built = s.built + made; world = w }
settled (Offers left rights) rest s = offered left rights rest s

-- bytes that are written are an event; no bytes are none (own)
abbrev pub written : List ℕ → List Member → State → Outcome
written [] rest s = Goes (record s { list = rest })
written (b ∷ bytes) rest s = Gives (Wrote (b ∷ bytes)) (record s { list = rest })

-- what a built-in makes is the goal that it runs (own)
abbrev pub with_goal : Body → State → State
with_goal b s = record s { built = s.built + size (body_term b) }

-- The left term is unified with a copy of the right one, whose variables are numbered from the next number on
-- (8.5.4); so much is made for it (own).
abbrev pub with_copy : ℕ → Tree → State → State
with_copy made t s = record s { next = s.next + variable_count t; built = s.built + made }

abbrev pub equated_copy : ℕ → Tree → Tree → List Member → State → State
equated_copy made a b rest s = equated (under s.subst (unifier_of a (apply s.subst (copy_from b s.next)))) rest (with_copy made b s)

-- The result is unified with the list of these terms. It counts what a list of parts does, and 1 for the result, an
-- argument (own).
abbrev pub list_met : Tree → List Tree → List Member → State → State
list_met result ts rest s = equated (under s.subst (unifier_of (apply s.subst result) (list_of ts))) rest (record s { built = s.built + (1 + list_made (length ts)) })

-- The witness was unified with those of a group of solutions, or not; then the result comes, for their items as they
-- are now.
abbrev pub witnessed : Option Subst → Grouping → Tree → List Member → State → State
witnessed None by solutions rest s = fails s
witnessed (Some u) by solutions rest s = list_met by.result (collection by.sorts (items (apply u solutions))) rest (record s { subst = u })

-- the witness, once for each of these
abbrev pub repeated : Tree → List Tree → Tree
repeated w ts = row (map (λ t. w) ts)

-- A group's list of solutions, with these variables, comes to this: the witness is unified with each of theirs.
abbrev pub met_group : Grouping → Tree → List Member → State → State
met_group by solutions rest s = witnessed (under s.subst (unifier_of (repeated by.witness (witnesses solutions)) (row (witnesses solutions)))) by solutions rest s

-- A group is tried: a copy of the list of its solutions, whose variables are numbered from the next number on. It
-- counts its size (own).
abbrev pub tried_group : Grouping → List Tree → List Member → State → State
tried_group by g rest s = met_group by (apply s.subst (copy_from (list_of g) s.next)) rest (with_copy (size (list_of g)) (list_of g) s)

-- the groups behind the first are one alternative, where there are any
abbrev pub with_groups : Grouping → List (List Tree) → List Member → State → State
with_groups by [] rest s = s
with_groups by (g ∷ gs) rest s = pushed rest (Groups by (g ∷ gs)) s

-- the groups are tried in their order
abbrev pub grouped : Grouping → List (List Tree) → List Member → State → State
grouped by [] rest s = fails s
grouped by (g ∷ gs) rest s = tried_group by g rest (with_groups by gs rest s)

-- All solutions were gathered. The result of a findall/3 is unified with a copy of the list of the copies (8.10.1),
-- which counts its size (own).
abbrev pub collected : Collecting → List Tree → List Member → State → State
collected (AsList result) copies rest s = equated_copy (size (list_of copies)) result (list_of copies) rest s
collected (InGroups by) copies rest s = grouped by (groups_of copies) rest s

-- The template of bagof/3 and setof/3, a pair of the witness and an argument, is made before the alternative that
-- gathers (own).
abbrev pub built_with : Collecting → ℕ → ℕ
built_with (AsList result) n = n
built_with (InGroups by) n = n + (3 + size by.witness)

abbrev pub with_template : Collecting → State → State
with_template collecting s = record s { built = built_with collecting s.built }

-- A goal of a built-in comes to this. A copy counts 1 more than its size, for the argument that it is unified with
-- (own). Where it runs a goal, a cut in that is one back to the height of the stack at its call. A catch's goal is
-- run, or its error raised, inside the catch: behind its alternative and before its end. The goal of a findall/3,
-- bagof/3 or setof/3 is run over an alternative that gathers.
abbrev pub replied : Reply → List Member → State → Outcome
replied Fails rest s = Goes (fails s)
replied Succeeds rest s = Goes (record s { list = rest })
replied (Raises error) rest s = Goes (record s { list = Raise error ∷ rest })
replied (Calls b) rest s = Goes (record (with_goal b s) { list = Goal b (length s.stack) ∷ rest })
replied (CallsOnce b) rest s = Goes (record (with_goal b s) { list = Goal b (length s.stack) ∷ CutTo (length s.stack) ∷ rest })
replied (Refutes b) rest s =
    Goes (record (pushed rest AsIs (with_goal b s)) { list = Goal b (suc (length s.stack)) ∷ CutTo (length s.stack) ∷ Fail ∷ rest })
replied Repeats rest s = Goes (record (pushed rest Again s) { list = rest })
replied (Catches inside catcher recovery) rest s = replied inside (Leave (length s.stack) ∷ rest) (pushed rest (Catching catcher recovery) s)
replied (Gathers template b collecting) rest s =
    Goes (record (with_goal b (pushed rest (Gathering collecting [] 0) (with_template collecting s))) { list = Goal b (suc (length s.stack)) ∷ Gather (length s.stack) template ∷ rest })
replied (Halts status) rest s = Ends (Halted status) s.world
replied (Equates made a b) rest s = Goes (equated (under s.subst (unifier_of a b)) rest (record s { built = s.built + made }))
replied (EquatesCopy a b) rest s = Goes (equated_copy (1 + size b) a b rest s)
replied (AsksWorld settles) rest s = Goes (settled (settles s.next s.world) rest s)
replied (Writes bytes) rest s = written (bytes s.world.operators) rest s

-- What is left at an alternative is tried. A further solution of `repeat` takes a step (8.15.3; that it does is own).
abbrev pub retried : Left → State → Outcome
retried AsIs s = Goes s
retried Again s = paid s.steps s (Goes (pushed s.list Again s))
retried (Clauses call cs) s = Goes (tried call cs s.list s)
retried (Catching catcher recovery) s = Goes (fails s)
retried (Gathering collecting copies count) s = Goes (collected collecting copies s.list s)
retried (Offered left rights) s = Goes (offered left rights s.list s)
retried (Groups by groups) s = Goes (grouped by groups s.list s)

-- failure goes on with the newest alternative; where there is none the search ends
abbrev pub backtracked : List Alternative → State → Outcome
backtracked [] s = Ends NoMore s.world
backtracked (a ∷ below) s = retried a.left (record s { list = a.list; subst = a.subst; next = a.next; built = a.built; stack = below })

-- what a goal of this name and arity runs: a built-in where there is one, else a user procedure
abbrev pub selected : Option BuiltIn → Key → Tree → List Member → State → Outcome
selected (Some b) k t rest s = replied (reply b t) rest s
selected None k t rest s = Goes (called (clauses_at s.world.database.procedures k) k t rest s)

-- a goal is run; no converted body has one without a name
abbrev pub run_goal : Option Key → Tree → List Member → State → Outcome
run_goal (Some k) t rest s = selected (built_in k) k t rest s
run_goal None t rest s = Goes (fails s)

-- The alternative is the entry of a catch: its state comes back, and its catcher is to meet the ball; else it comes
-- to the other.
abbrev pub caught_at : Left → Alternative → List Alternative → Tree → State → Outcome → Outcome
caught_at (Catching catcher recovery) a below ball s other =
    Goes (record s { list = Meet ball catcher recovery ∷ a.list; subst = a.subst; next = a.next; built = a.built; stack = below })
caught_at left a below ball s other = other

-- so with the alternative at this height
abbrev pub caught : ℕ → List Alternative → Tree → State → Outcome → Outcome
caught height [] ball s other = other
caught height (a ∷ below) ball s other = if length below == height then caught_at a.left a below ball s other else caught height below ball s other

-- A ball is thrown: it goes to the innermost catch whose goal has not ended, which is the first whose end follows in
-- the list; where there is none it ends the search (7.8.9, 7.8.10).
abbrev pub thrown : Tree → List Member → State → Outcome
thrown ball [] s = Ends (Uncaught ball) s.world
thrown ball (Leave height ∷ rest) s = caught height s.stack ball s (thrown ball rest s)
thrown ball (m ∷ rest) s = thrown ball rest s

-- The catcher was unified with the ball, and the recovery is called; or not, and the ball is thrown on.
abbrev pub met : Option Subst → Tree → Tree → List Member → State → State
met None ball recovery rest s = record s { list = Raise ball ∷ rest }
met (Some u) ball recovery rest s =
    record s { list = Goal (Run (one (codes "call") recovery)) (length s.stack) ∷ rest; subst = u; next = s.next + variable_count ball }

-- A catcher meets a copy of the ball, whose variables are numbered from the next number on (7.8.9).
abbrev pub meets : Tree → Tree → Tree → List Member → State → State
meets ball catcher recovery rest s =
    met (under s.subst (unifier_of (apply s.subst catcher) (apply s.subst (copy_from ball s.next)))) ball recovery rest (record s { built = s.built + size ball })

-- A copy of this solution comes behind those that the alternative has gathered, and its variables behind theirs. Those
-- that come in groups are pairs.
abbrev pub gathered : Left → Tree → Left
gathered (Gathering (AsList result) copies count) t = Gathering (AsList result) (copies ++ copy_from t count ∷ []) (count + variable_count t)
gathered (Gathering (InGroups by) copies count) t =
    if is_solution t then Gathering (InGroups by) (copies ++ copy_from t count ∷ []) (count + variable_count t) else Gathering (InGroups by) copies count
gathered left t = left

-- so at the alternative that stands at this height
abbrev pub gathered_at : ℕ → Tree → List Alternative → List Alternative
gathered_at height t [] = []
gathered_at height t (a ∷ below) = (if length below == height then record a { left = gathered a.left t } else a) ∷ gathered_at height t below

-- A goal is selected by its value under the substitution, which has the name and the arity that the goal was made with.
abbrev pub run_value : Tree → List Member → State → Outcome
run_value t rest s = run_goal (key_of t) t rest s

-- A control step, or a goal's (7.8.4 to 7.8.8). A condition has a cut mark of its own, and its first solution is its
-- only one.
abbrev pub step_goal : Body → ℕ → List Member → State → Outcome
step_goal Cut mark rest s = Goes (cut_back mark rest s)
step_goal (And a b) mark rest s = Goes (record s { list = Goal a mark ∷ Goal b mark ∷ rest })
step_goal (Or a b) mark rest s = Goes (record (pushed (Goal b mark ∷ rest) AsIs s) { list = Goal a mark ∷ rest })
step_goal (If c t) mark rest s = Goes (record s { list = Goal c (length s.stack) ∷ CutTo (length s.stack) ∷ Goal t mark ∷ rest })
step_goal (Choose c t e) mark rest s =
    Goes (record (pushed (Goal e mark ∷ rest) AsIs s) { list = Goal c (suc (length s.stack)) ∷ CutTo (length s.stack) ∷ Goal t mark ∷ rest })
step_goal (Run t) mark rest s = paid s.steps s (run_value (apply s.subst t) rest s)

abbrev pub step_list : List Member → State → Outcome
step_list [] s = Gives (Answered (values s)) (fails s)
step_list (CutTo height ∷ rest) s = Goes (cut_back height rest s)
step_list (Fail ∷ rest) s = backtracked s.stack s
step_list (Leave height ∷ rest) s = Goes (record s { list = rest })
step_list (Raise ball ∷ rest) s = thrown ball rest s
step_list (Meet ball catcher recovery ∷ rest) s = Goes (meets ball catcher recovery rest s)
step_list (Gather height template ∷ rest) s = Goes (fails (record s { stack = gathered_at height (apply s.subst template) s.stack }))
step_list (Goal b mark ∷ rest) s = step_goal b mark rest s

-- One step: it takes the first member of the list. An empty list is a solution, and failure comes next.
unfoldable pub step : State → Outcome
step s = step_list s.list s

-- no goal was started, or its run has ended
abbrev pub idle : World → State
idle w = record { list = Fail ∷ []; subst = Variable; next = 0; built = 0; query = Name (codes "true"); stack = []; world = w; steps = 0 }

-- a query that can't be converted raises the error of `call/1`
abbrev pub opening : Tree → Option Body → List Member
opening goal None = Raise (type_error_callable goal (key (codes "call") 1)) ∷ []
opening goal (Some b) = Goal b 0 ∷ []

abbrev pub shown_query : Tree → Option Body → Tree
shown_query goal None = goal
shown_query goal (Some b) = body_term b

-- the world with one run more
abbrev pub asked : World → World
asked w = record w { runs = w.runs + 1 }

-- The goal is started over this database with this budget. Its variables are 0, 1, .. by first occurrence.
abbrev pub started : Tree → ℕ → World → State
started goal budget w = record {
  list = opening goal (converted goal);
  subst = Variable;
  next = variable_count goal;
  built = 0;
  query = shown_query goal (converted goal);
  stack = [];
  world = asked w;
  steps = budget;
}

-- how much of the store a query takes: its size and its variables (own)
abbrev pub query_size : Tree → ℕ
query_size t = size t + variable_count t

-- how much stands in the store at most: what was built, and the query (own)
abbrev pub load : State → ℕ
load s = s.built + query_size s.query

-- how many alternatives stand
abbrev pub alternative_count : State → ℕ
alternative_count s = length s.stack
