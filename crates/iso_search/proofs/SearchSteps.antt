-- What steps of the search come to, by what comes first.
use Rattle.std.proofs.Common.{◌≡◌, ◌<◌, ℕ, suc, List, [], ◌∷◌, length, Option, None, refl, ap, ◌∙◌, arith}
use Rattle.iso_ops.specs.declared.settings.Unknown.{Unknown}
use Rattle.iso_model.specs.Search.Bodies.{Run}
use Rattle.iso_model.specs.Terms.Substitutions.{apply}
use Rattle.iso_model.specs.declared.built_ins.BuiltIn.{BuiltIn}
use Rattle.iso_search.specs.Gathers.{found}
use Rattle.iso_model.specs.Search.BuiltIns.{Reply, reply}
use Rattle.iso_model.specs.Terms.Trees.{Tree}
use Rattle.iso_search.specs.EngineStates.{went_back}
use Rattle.iso_model.specs.Search.Databases.{Clause, Key, clauses_at}
use Rattle.iso_model.specs.Search.Walker.{State, Member, Goal, Fail, Alternative, Left, Again, pushed, Outcome, Goes, Ends, NoMore, Budget, charged, paid, with_others, retried, backtracked, unknown_called, called, replied, selected, run_goal, run_value, step_list, step}
use Rattle.iso_search_core.specs.GoalKinds.{IsBuiltIn, IsUser}

-- by the list
pub step_is : (s : State) (ms : List Member) → s.list ≡ ms → step s ≡ step_list ms s
unfolding step
step_is s ms is = ap (λ (xs : List Member). step_list xs s) is

-- ---- failure

-- what is left at the newest alternative is tried
pub back_step : (s : State) (rest : List Member) (a : Alternative) (below : List Alternative) (left : Left) → s.list ≡ Fail ∷ rest → s.stack ≡ a ∷ below → a.left ≡ left → step s ≡ retried left (went_back a below s)
back_step s rest a below left list stack is =
    step_is s (Fail ∷ rest) list ∙ (ap (λ (xs : List Alternative). backtracked xs s) stack ∙ ap (λ (l : Left). retried l (went_back a below s)) is)

-- and again, for which a step is needed
pub again_step : (s : State) (rest : List Member) (a : Alternative) (below : List Alternative) (n : ℕ) → s.list ≡ Fail ∷ rest → s.stack ≡ a ∷ below → a.left ≡ Again → s.steps ≡ suc n
    → step s ≡ Goes (record (pushed a.list Again (went_back a below s)) { steps = n })
again_step s rest a below n list stack left more =
    back_step s rest a below Again list stack left ∙ ap (λ (k : ℕ). paid k (went_back a below s) (Goes (pushed a.list Again (went_back a below s)))) more

pub spent_step : (s : State) (rest : List Member) (a : Alternative) (below : List Alternative) → s.list ≡ Fail ∷ rest → s.stack ≡ a ∷ below → a.left ≡ Again → s.steps ≡ 0 → step s ≡ Ends Budget s.world
spent_step s rest a below list stack left none =
    back_step s rest a below Again list stack left ∙ ap (λ (k : ℕ). paid k (went_back a below s) (Goes (pushed a.list Again (went_back a below s)))) none

-- no alternative is left
pub last_step : (s : State) (rest : List Member) → s.list ≡ Fail ∷ rest → s.stack ≡ [] → step s ≡ Ends NoMore s.world
last_step s rest list stack = step_is s (Fail ∷ rest) list ∙ ap (λ (xs : List Alternative). backtracked xs s) stack

-- ---- a goal

-- a step is needed and none is left
pub budget_step : (s : State) (t : Tree) (mark : ℕ) (rest : List Member) → s.list ≡ Goal (Run t) mark ∷ rest → s.steps ≡ 0 → step s ≡ Ends Budget s.world
budget_step s t mark rest list none = step_is s (Goal (Run t) mark ∷ rest) list ∙ ap (λ (n : ℕ). paid n s (run_value (apply s.subst t) rest s)) none

-- what a goal that takes a step comes to
pub goal_comes : (s : State) (t : Tree) (mark : ℕ) (rest : List Member) (n : ℕ) (o : Outcome) → s.list ≡ Goal (Run t) mark ∷ rest → s.steps ≡ suc n → run_value (apply s.subst t) rest s ≡ o → step s ≡ charged n o
goal_comes s t mark rest n o list left is =
    step_is s (Goal (Run t) mark ∷ rest) list ∙ (ap (λ (k : ℕ). paid k s (run_value (apply s.subst t) rest s)) left ∙ ap (λ (x : Outcome). charged n x) is)

-- ---- what a goal runs

pub own_goal : (t : Tree) (rest : List Member) (s : State) (b : BuiltIn) (r : Reply) → IsBuiltIn t b → reply b t ≡ r → run_value t rest s ≡ replied r rest s
own_goal t rest s b r own is =
    ap (λ (k : Option Key). run_goal k t rest s) own.named ∙ (ap (λ (x : Option BuiltIn). selected x own.key t rest s) own.found ∙ ap (λ (x : Reply). replied x rest s) is)

user_goal : (t : Tree) (rest : List Member) (s : State) (k : Key) (found : Option (List Clause)) → IsUser t k → clauses_at s.world.database.procedures k ≡ found → run_value t rest s ≡ Goes (called found k t rest s)
user_goal t rest s k found user is =
    ap (λ (x : Option Key). run_goal x t rest s) user.named ∙ (ap (λ (x : Option BuiltIn). selected x k t rest s) user.none ∙ ap (λ (x : Option (List Clause)). Goes (called x k t rest s)) is)

pub unknown_goal : (t : Tree) (rest : List Member) (s : State) (k : Key) (u : Unknown) → IsUser t k → clauses_at s.world.database.procedures k ≡ None → s.world.flags.unknown ≡ u
    → run_value t rest s ≡ Goes (unknown_called u k rest s)
unknown_goal t rest s k u user none flag = user_goal t rest s k None user none ∙ ap (λ (x : Unknown). Goes (unknown_called x k rest s)) flag

-- ---- clauses that are tried

pub one_more : (call : Tree) (cs : List Clause) (rest : List Member) (s : State) → 0 < length cs → length (with_others call cs rest s).stack ≡ suc (length s.stack)
one_more call [] rest s some = absurd (omega (arith, some))
one_more call (c ∷ cs) rest s some = refl
