-- What a session writes and how it ends (own): the text is consulted term by term, then its kept goals are run, then
-- each query is run to its end.
use Rattle.std.specs.Prelude.{◌≡◌, ℕ, zero, suc, ◌+◌, List, [], ◌∷◌, ◌++◌, length, Bool, false, not, ◌==◌, Option, Some, None, codes, if◌then◌else◌, drop}
use Rattle.std.specs.List.{prefix_len}
use Rattle.std.specs.Str.{bytes_eq}
use Rattle.iso_model.specs.Syntax.Characters.{is_in_line}
use Rattle.iso_model.specs.Syntax.Token.{Shown}
use Rattle.iso_model.specs.Syntax.Tokens.{tokens}
use Rattle.iso_model.specs.Terms.Trees.{Tree, Apply, End, More}
use Rattle.iso_model.specs.Syntax.Items.{Item, Readable, Unreadable, Taken, next_item}
use Rattle.iso_model.specs.Syntax.Characters.{newline}
use Rattle.iso_model.specs.Search.Additions.{Addition, Adds, Refuses, consulted}
use Rattle.iso_model.specs.Search.Walker.{World, first_world, Answered, Wrote, NoMore, Budget, Uncaught, Halted, started}
use Rattle.iso_model.specs.Search.Runs.{Trace, Then, Stops}
use Rattle.iso_model.specs.Search.RunLaws.{run_of}
use Rattle.iso_model.specs.Session.Lines.{syntax_error_line, skipped_line, refused_line, directive_failed_line, directive_refused_line, directive_stopped_line, answer_line, error_line, halt_line}
use Rattle.iso_model.specs.Session.Directives.{TextTerm, AClause, Directive, Initialization, PassedOver, Kept, text_term}

-- What a session does at a time: it starts a run, which writes nothing, behind so many runs; or it writes bytes of a
-- goal, or a line, which stands here without its newline.
pub data Segment : Type 0 where
  Begins : (runs : ℕ) → Segment
  Output : (bytes : List ℕ) → Segment
  Line : (text : List ℕ) → Segment

-- how a session ends that no limit ends
pub data SessionEnd : Type 0 where
  Done : SessionEnd
  Halts : (status : ℕ) → SessionEnd

-- the segments that a session writes, in order, and then its end
pub data Script : Type 0 where
  Shows : (piece : Segment) → (others : Script) → Script
  Closes : (ending : SessionEnd) → Script

-- whether bytes end within a line, where those before them do or don't
abbrev pub ends_within : Bool → List ℕ → Bool
ends_within within [] = within
ends_within within (b ∷ z) = ends_within (not (b == newline)) z

-- A line begins at the start of a line: where the last byte written is no newline, one is written first.
abbrev pub segment_bytes : Bool → Segment → List ℕ
segment_bytes within (Begins runs) = []
segment_bytes within (Output bytes) = bytes
segment_bytes within (Line text) = (if within then newline ∷ [] else []) ++ (text ++ newline ∷ [])

abbrev pub within_behind : Bool → Segment → Bool
within_behind within (Begins runs) = within
within_behind within (Output bytes) = ends_within within bytes
within_behind within (Line text) = false

-- the bytes of segments
abbrev pub segments_bytes : Bool → List Segment → List ℕ
segments_bytes within [] = []
segments_bytes within (p ∷ ps) = segment_bytes within p ++ segments_bytes (within_behind within p) ps

-- the bytes of a script
abbrev pub script_bytes : Bool → Script → List ℕ
script_bytes within (Shows p others) = segment_bytes within p ++ script_bytes (within_behind within p) others
script_bytes within (Closes ending) = []

abbrev pub script_end : Script → SessionEnd
script_end (Shows p others) = script_end others
script_end (Closes ending) = ending

-- The rest of a run, from its k-th answer on, for a query with these named variables; then what follows the query.
abbrev pub run_script : List (List ℕ × ℕ) → ℕ → Trace → (World → Script) → Script
run_script names k (Then (Answered values) w others) next = Shows (Line (answer_line w.operators k names values)) (run_script names (k + 1) others next)
run_script names k (Then (Wrote bytes) w others) next = Shows (Output bytes) (run_script names k others next)
run_script names k (Stops NoMore w) next = Shows (Line (codes "end: no more")) (next w)
run_script names k (Stops Budget w) next = Shows (Line (codes "end: budget")) (next w)
run_script names k (Stops (Uncaught ball) w) next = Shows (Line (error_line w.operators ball)) (next w)
run_script names k (Stops (Halted n) w) next = Shows (Line (halt_line n)) (Closes (Halts n))

-- the goal of a query: `?- G` as a query is G
abbrev pub query_goal : Tree → Tree
query_goal (Apply f (More g End)) = if bytes_eq f (codes "?-") then g else Apply f (More g End)
query_goal t = t

-- one query
abbrev pub query_script : ℕ → Item → World → (World → Script) → Script
query_script budget Unreadable w next = Shows (Line (codes "end: syntax error")) (next w)
query_script budget (Readable c) w next = Shows (Begins w.runs) (run_script c.names 1 (run_of (started (query_goal c.term) budget w)) next)

abbrev pub queries_by : ℕ → World → Option Taken → (List Shown → World → Script) → Script
queries_by budget w None others = Closes Done
queries_by budget w (Some x) others = query_script budget x.item w (others x.behind)

-- The queries of these tokens, each with the whole budget. Each takes a token at least, so there are no more of them
-- than tokens.
unfoldable pub queries_script : ℕ → ℕ → List Shown → World → Script
queries_script zero budget ts w = Closes Done
queries_script (suc turns) budget ts w = queries_by budget w (next_item w.operators w.flags ts) (queries_script turns budget)

-- the k-th term of the text where it is a clause, which is added or refused
abbrev pub added_script : ℕ → Addition → World → (World → Script) → Script
added_script k (Adds db) w next = next (record w { database = db })
added_script k (Refuses error) w next = Shows (Line (refused_line w.operators k error)) (next w)

-- What is left of the run of the k-th term's directive: it is run for one solution, and its alternatives are dropped
-- (ISO/IEC 13211-1:1995, 7.4.2). Then what follows.
abbrev pub directive_script : ℕ → Trace → (World → Script) → Script
directive_script k (Then (Answered values) w others) next = next w
directive_script k (Then (Wrote bytes) w others) next = Shows (Output bytes) (directive_script k others next)
directive_script k (Stops NoMore w) next = Shows (Line (directive_failed_line k)) (next w)
directive_script k (Stops Budget w) next = Shows (Line (directive_stopped_line k)) (next w)
directive_script k (Stops (Uncaught ball) w) next = Shows (Line (directive_refused_line w.operators k ball)) (next w)
directive_script k (Stops (Halted n) w) next = Shows (Line (halt_line n)) (Closes (Halts n))

-- the k-th term's directive with this goal, with the whole budget; then what follows
abbrev pub goal_script : ℕ → ℕ → Tree → World → (World → Script) → Script
goal_script budget k goal w next = Shows (Begins w.runs) (directive_script k (run_of (started goal budget w)) next)

-- the goals that the text kept, in order, each run as a directive with the whole budget; then what follows them
abbrev pub kept_script : ℕ → List Kept → World → (World → Script) → Script
kept_script budget [] w next = next w
kept_script budget (x ∷ xs) w next = goal_script budget x.place x.goal w (λ v. kept_script budget xs v next)

-- the k-th term of the text, which could be read and is this, behind these kept goals; a directive has the whole budget
abbrev pub read_script : ℕ → ℕ → TextTerm → Tree → World → List Kept → (List Kept → World → Script) → Script
read_script budget k AClause t w kept next = added_script k (consulted t w.database) w (next kept)
read_script budget k (Directive goal) t w kept next = goal_script budget k goal w (next kept)
read_script budget k (Initialization goal) t w kept next = next (kept ++ record { place = k; goal = goal } ∷ []) w
read_script budget k PassedOver t w kept next = Shows (Line (skipped_line k)) (next kept w)

abbrev pub term_script : ℕ → ℕ → Item → World → List Kept → (List Kept → World → Script) → Script
term_script budget k Unreadable w kept next = Shows (Line (syntax_error_line k)) (next kept w)
term_script budget k (Readable c) w kept next = read_script budget k (text_term c.term) c.term w kept next

abbrev pub text_by : ℕ → ℕ → World → List Kept → Option Taken → (List Kept → World → Script) → (List Shown → List Kept → World → Script) → Script
text_by budget k w kept None next others = next kept w
text_by budget k w kept (Some x) next others = term_script budget k x.item w kept (others x.behind)

-- The terms of the text from the k-th on, of which these tokens are left, behind these kept goals; then what follows,
-- with all goals that were kept.
unfoldable pub text_script : ℕ → ℕ → ℕ → List Shown → World → List Kept → (List Kept → World → Script) → Script
text_script budget zero k ts w kept next = next kept w
text_script budget (suc turns) k ts w kept next =
    text_by budget k w kept (next_item w.operators w.flags ts) next (λ behind later v. text_script budget turns (k + 1) behind v later next)

-- a byte order mark in UTF-8
abbrev pub byte_order_mark : List ℕ
byte_order_mark = 239 ∷ 187 ∷ 191 ∷ []

-- A byte order mark at the text's start, and then a first line that begins with `#!`, are passed over.
abbrev pub without_mark : List ℕ → List ℕ
without_mark (a ∷ b ∷ c ∷ z) = if bytes_eq (a ∷ b ∷ c ∷ []) byte_order_mark then z else a ∷ b ∷ c ∷ z
without_mark z = z

abbrev pub without_first_line : List ℕ → List ℕ
without_first_line (a ∷ b ∷ z) = if bytes_eq (a ∷ b ∷ []) (codes "#!") then drop (prefix_len is_in_line z + 1) z else a ∷ b ∷ z
without_first_line z = z

abbrev pub body_of_text : List ℕ → List ℕ
body_of_text z = without_first_line (without_mark z)

-- All of a list's items, for which as many turns are enough as there are tokens; behind the last one the kept goals
-- are run.
abbrev pub whole_text : ℕ → List Shown → (World → Script) → Script
whole_text budget ts next = text_script budget (length ts) 1 ts first_world [] (λ kept w. kept_script budget kept w next)

abbrev pub whole_queries : ℕ → List Shown → World → Script
whole_queries budget ts w = queries_script (length ts) budget ts w

-- the session with this program text, these queries and this budget
abbrev pub session_script : List ℕ → List ℕ → ℕ → Script
session_script text queries budget = whole_text budget (tokens (body_of_text text)) (whole_queries budget (tokens queries))

-- the session text and the session end
abbrev pub session_text : List ℕ → List ℕ → ℕ → List ℕ
session_text text queries budget = script_bytes false (session_script text queries budget)

abbrev pub session_end : List ℕ → List ℕ → ℕ → SessionEnd
session_end text queries budget = script_end (session_script text queries budget)

-- these pieces, and then the script
abbrev pub prepend : List Segment → Script → Script
prepend [] script = script
prepend (p ∷ ps) script = Shows p (prepend ps script)

-- ---- laws

-- the runs that begin in the script are numbered from this number on
abbrev pub NumbersRuns : ℕ → Script → Type 0
NumbersRuns k (Shows (Begins runs) others) = (runs ≡ k) × NumbersRuns (k + 1) others
NumbersRuns k (Shows (Output bytes) others) = NumbersRuns k others
NumbersRuns k (Shows (Line text) others) = NumbersRuns k others
NumbersRuns k (Closes ending) = Unit {0}

-- The runs of a session are numbered 0, 1, .. in the order in which they begin, so no two have one number.
abbrev pub SessionsNumberTheirRuns : Type 0
SessionsNumberTheirRuns = (text queries : List ℕ) (budget : ℕ) → NumbersRuns 0 (session_script text queries budget)
