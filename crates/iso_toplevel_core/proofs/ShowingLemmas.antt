-- What a toplevel shows of a query is a beginning of what a session writes of it.
use Rattle.std.proofs.Common.{ℕ, ◌+◌, Bool, true, false, List, [], ◌∷◌, ◌++◌, codes, if◌then◌else◌, refl}
use Rattle.std.specs.Io.BufRead.{drop_through}
use Rattle.iso_model.specs.Syntax.Items.{Readable, Unreadable}
use Rattle.iso_model.specs.Terms.Trees.{Tree}
use Rattle.iso_model.specs.Search.Walker.{World, Answered, Wrote, NoMore, Budget, Uncaught, Halted, started}
use Rattle.iso_model.specs.Search.Runs.{Trace, Then, Stops}
use Rattle.iso_model.specs.Search.RunLaws.{run_of}
use Rattle.iso_model.specs.Session.Lines.{answer_line, text_of}
use Rattle.iso_model.specs.Session.Sessions.{Script, Shows, Line, ends_within, query_goal, run_script}
use Rattle.iso_toplevel_core.specs.Questions.{asks_next}
use Rattle.iso_toplevel_core.specs.Dialogues.{Behind, answer_shown, decided, run_shown}
use Rattle.iso_toplevel_core.specs.Showing.{IsShown, begins, output, answer, stopped, stopped_by_end, ended, halted, the_same, no_answer, ToplevelsShowBeginnings}

-- an answer, behind which the run goes on or stops
answered : (waits : Bool) (next : World → Script) (later : Behind) (names : List (List ℕ × ℕ)) (values : List Tree) (w : World) (k : ℕ) (within : Bool) (session : Script) (input : List ℕ) (on : List ℕ → Script)
    → ((left : List ℕ) → IsShown waits next later session (on left))
    → IsShown waits next later (Shows (Line (answer_line w.operators k names values)) session) (Shows (answer_shown waits within w.operators names values) (decided waits input on (later w)))
answered false next later names values w k within session input on h = answer within k w.operators names values (h input)
answered true next later names values w k within session [] on h = stopped_by_end within k w names values session refl
answered true next later names values w k within session (b ∷ z) on h = by (asks_next (b ∷ z))
  where
    by : (asks : Bool) → IsShown true next later (Shows (Line (answer_line w.operators k names values)) session)
        (Shows (answer_shown true within w.operators names values) (if asks then on (drop_through 10 (b ∷ z)) else later w (drop_through 10 (b ∷ z))))
    by true = answer within k w.operators names values (h (drop_through 10 (b ∷ z)))
    by false = stopped within k w names values session (drop_through 10 (b ∷ z)) refl

run_is_shown : (waits : Bool) (next : World → Script) (later : Behind) (names : List (List ℕ × ℕ)) (k : ℕ) (within any : Bool) (r : Trace) (input : List ℕ)
    → IsShown waits next later (run_script names k r next) (run_shown waits names within any r input later)
run_is_shown waits next later names k within any (Then (Answered values) w others) input =
    answered waits next later names values w k within (run_script names (k + 1) others next) input (λ left. run_shown waits names false true others left later)
    (λ left. run_is_shown waits next later names (k + 1) false true others left)
run_is_shown waits next later names k within any (Then (Wrote bytes) w others) input = output bytes (run_is_shown waits next later names k (ends_within within bytes) any others input)
run_is_shown waits next later names k within true (Stops NoMore w) input = ended within (codes "no more") (codes "no more") w input (the_same (codes "no more"))
run_is_shown waits next later names k within false (Stops NoMore w) input = ended within (codes "no more") (codes "false") w input no_answer
run_is_shown waits next later names k within any (Stops Budget w) input = ended within (codes "budget") (codes "budget") w input (the_same (codes "budget"))
run_is_shown waits next later names k within any (Stops (Uncaught ball) w) input =
    let said = codes "error " ++ text_of w.operators ball in
    ended within said said w input (the_same said)
run_is_shown waits next later names k within any (Stops (Halted n) w) input = halted within n

pub beginnings_shown : ToplevelsShowBeginnings
beginnings_shown waits budget Unreadable w input next later = ended false (codes "syntax error") (codes "syntax error") w input (the_same (codes "syntax error"))
beginnings_shown waits budget (Readable c) w input next later = begins w.runs (run_is_shown waits next later c.names 1 false false (run_of (started (query_goal c.term) budget w)) input)
