-- The runs of a session are numbered in the order in which they begin.
use Rattle.std.proofs.Common.{◌≡◌, ℕ, zero, suc, ◌+◌, List, [], ◌∷◌, ◌++◌, Option, Some, None, length, refl, subst}
use Rattle.iso_model.specs.Terms.Trees.{Tree}
use Rattle.iso_model.specs.Syntax.Token.{Shown}
use Rattle.iso_model.specs.Syntax.Tokens.{tokens}
use Rattle.iso_model.specs.Syntax.Items.{Item, Readable, Unreadable, Taken, next_item}
use Rattle.iso_model.specs.Search.Additions.{Addition, Adds, Refuses, consulted}
use Rattle.iso_model.specs.Search.Walker.{World, first_world, Answered, Wrote, NoMore, Budget, Uncaught, Halted, started}
use Rattle.iso_model.specs.Search.Runs.{Trace, Then, Stops}
use Rattle.iso_model.specs.Search.RunLaws.{run_of}
use Rattle.iso_model.specs.Session.Directives.{TextTerm, AClause, Directive, Initialization, PassedOver, Kept, text_term}
use Rattle.iso_model.specs.Session.Sessions.{Script, NumbersRuns, SessionsNumberTheirRuns, run_script, query_goal, query_script, queries_by, queries_script, added_script, directive_script, goal_script, kept_script, read_script, term_script, text_by, text_script, body_of_text, whole_queries}
use Rattle.iso_model.proofs.Search.RunCounts.{AllRuns, started_runs}

-- Behind a part, over each world in which so many runs were started, the runs are numbered on.
abbrev Follows : (World → Script) → Type 0
Follows next = (w : World) → NumbersRuns w.runs (next w)

-- ---- runs

follows_at : (next : World → Script) → Follows next → (k : ℕ) (w : World) → w.runs ≡ k → NumbersRuns k (next w)
follows_at next follows k w is = subst (λ (n : ℕ). NumbersRuns n (next w)) is (follows w)

run_numbers : (names : List (List ℕ × ℕ)) (j k : ℕ) (r : Trace) (next : World → Script) → Follows next → AllRuns k r → NumbersRuns k (run_script names j r next)
run_numbers names j k (Then (Answered values) w others) next follows all = run_numbers names (j + 1) k others next follows all.1
run_numbers names j k (Then (Wrote bytes) w others) next follows all = run_numbers names j k others next follows all.1
run_numbers names j k (Stops NoMore w) next follows all = follows_at next follows k w all
run_numbers names j k (Stops Budget w) next follows all = follows_at next follows k w all
run_numbers names j k (Stops (Uncaught ball) w) next follows all = follows_at next follows k w all
run_numbers names j k (Stops (Halted n) w) next follows all = tt

directive_numbers : (j k : ℕ) (r : Trace) (next : World → Script) → Follows next → AllRuns k r → NumbersRuns k (directive_script j r next)
directive_numbers j k (Then (Answered values) w others) next follows all = follows_at next follows k w all.0
directive_numbers j k (Then (Wrote bytes) w others) next follows all = directive_numbers j k others next follows all.1
directive_numbers j k (Stops NoMore w) next follows all = follows_at next follows k w all
directive_numbers j k (Stops Budget w) next follows all = follows_at next follows k w all
directive_numbers j k (Stops (Uncaught ball) w) next follows all = follows_at next follows k w all
directive_numbers j k (Stops (Halted n) w) next follows all = tt

goal_numbers : (budget k : ℕ) (goal : Tree) (w : World) (next : World → Script) → Follows next → NumbersRuns w.runs (goal_script budget k goal w next)
goal_numbers budget k goal w next follows = (refl, directive_numbers k (w.runs + 1) (run_of (started goal budget w)) next follows (started_runs goal budget w))

-- ---- queries

query_numbers : (budget : ℕ) (item : Item) (w : World) (next : World → Script) → Follows next → NumbersRuns w.runs (query_script budget item w next)
query_numbers budget Unreadable w next follows = follows w
query_numbers budget (Readable c) w next follows =
    (refl, run_numbers c.names 1 (w.runs + 1) (run_of (started (query_goal c.term) budget w)) next follows (started_runs (query_goal c.term) budget w))

queries_by_numbers : (budget : ℕ) (w : World) (o : Option Taken) (others : List Shown → World → Script) → ((ts : List Shown) → Follows (others ts)) → NumbersRuns w.runs (queries_by budget w o others)
queries_by_numbers budget w None others follow = tt
queries_by_numbers budget w (Some x) others follow = query_numbers budget x.item w (others x.behind) (follow x.behind)

queries_number : (turns budget : ℕ) (ts : List Shown) → Follows (queries_script turns budget ts)
unfolding queries_script
queries_number zero budget ts w = tt
queries_number (suc turns) budget ts w = queries_by_numbers budget w (next_item w.operators w.flags ts) (queries_script turns budget) (queries_number turns budget)

-- ---- the text

added_numbers : (k : ℕ) (a : Addition) (w : World) (next : World → Script) → Follows next → NumbersRuns w.runs (added_script k a w next)
added_numbers k (Adds db) w next follows = follows (record w { database = db })
added_numbers k (Refuses error) w next follows = follows w

kept_number : (budget : ℕ) (kept : List Kept) (next : World → Script) → Follows next → Follows (λ w. kept_script budget kept w next)
kept_number budget [] next follows w = follows w
kept_number budget (x ∷ xs) next follows w = goal_numbers budget x.place x.goal w (λ v. kept_script budget xs v next) (kept_number budget xs next follows)

read_numbers : (budget k : ℕ) (x : TextTerm) (t : Tree) (w : World) (kept : List Kept) (next : List Kept → World → Script) → ((xs : List Kept) → Follows (next xs))
    → NumbersRuns w.runs (read_script budget k x t w kept next)
read_numbers budget k AClause t w kept next follow = added_numbers k (consulted t w.database) w (next kept) (follow kept)
read_numbers budget k (Directive goal) t w kept next follow = goal_numbers budget k goal w (next kept) (follow kept)
read_numbers budget k (Initialization goal) t w kept next follow = follow (kept ++ record { place = k; goal = goal } ∷ []) w
read_numbers budget k PassedOver t w kept next follow = follow kept w

term_numbers : (budget k : ℕ) (item : Item) (w : World) (kept : List Kept) (next : List Kept → World → Script) → ((xs : List Kept) → Follows (next xs))
    → NumbersRuns w.runs (term_script budget k item w kept next)
term_numbers budget k Unreadable w kept next follow = follow kept w
term_numbers budget k (Readable c) w kept next follow = read_numbers budget k (text_term c.term) c.term w kept next follow

text_by_numbers : (budget k : ℕ) (w : World) (kept : List Kept) (o : Option Taken) (next : List Kept → World → Script) (others : List Shown → List Kept → World → Script)
    → ((xs : List Kept) → Follows (next xs)) → ((ts : List Shown) (xs : List Kept) → Follows (others ts xs)) → NumbersRuns w.runs (text_by budget k w kept o next others)
text_by_numbers budget k w kept None next others follow each = follow kept w
text_by_numbers budget k w kept (Some x) next others follow each = term_numbers budget k x.item w kept (others x.behind) (each x.behind)

text_numbers : (budget turns k : ℕ) (ts : List Shown) (kept : List Kept) (next : List Kept → World → Script) → ((xs : List Kept) → Follows (next xs))
    → Follows (λ w. text_script budget turns k ts w kept next)
unfolding text_script
text_numbers budget zero k ts kept next follow w = follow kept w
text_numbers budget (suc turns) k ts kept next follow w =
    text_by_numbers budget k w kept (next_item w.operators w.flags ts) next (λ behind later v. text_script budget turns (k + 1) behind v later next) follow
    (λ behind later. text_numbers budget turns (k + 1) behind later next follow)

pub session_numbers : SessionsNumberTheirRuns
session_numbers text queries budget =
    let ts = tokens (body_of_text text) in
    let qs = tokens queries in
    text_numbers budget (length ts) 1 ts [] (λ kept w. kept_script budget kept w (whole_queries budget qs))
    (λ kept. kept_number budget kept (whole_queries budget qs) (queries_number (length qs) budget qs)) first_world
