-- What a toplevel writes and how it ends (own): it takes lines, runs the queries in them, and shows each answer. Where
-- it waits, it prompts for each line, and the person says at each answer whether the query goes on.
use Rattle.std.specs.Prelude.{ℕ, zero, suc, Bool, true, false, List, [], ◌∷◌, ◌++◌, length, drop, Option, Some, None, codes, if◌then◌else◌}
use Rattle.std.specs.Io.BufRead.{take_through, drop_through}
use Rattle.iso_ops.specs.Operators.{Operator}
use Rattle.iso_model.specs.Syntax.Characters.{newline}
use Rattle.iso_model.specs.Syntax.Token.{Shown}
use Rattle.iso_model.specs.Syntax.Tokens.{tokens}
use Rattle.iso_model.specs.Syntax.Items.{Item, Readable, Unreadable, Taken, next_item}
use Rattle.iso_model.specs.Terms.Trees.{Tree}
use Rattle.iso_model.specs.Search.Walker.{World, Answered, Wrote, NoMore, Budget, Uncaught, Halted, started}
use Rattle.iso_model.specs.Search.Runs.{Trace, Then, Stops}
use Rattle.iso_model.specs.Search.RunLaws.{run_of}
use Rattle.iso_model.specs.Session.Lines.{solution_text, text_of}
use Rattle.iso_model.specs.Session.Sessions.{Segment, Begins, Output, Line, Script, Shows, Closes, Done, Halts, ends_within, query_goal, body_of_text, whole_text}
use Rattle.std.specs.Fmt.{decimal}
use Rattle.iso_toplevel_core.specs.Questions.{is_whole, prompt, asks_next}

-- What follows a part of a dialogue, over the world behind it and the bytes that are left of the input.
abbrev pub Behind : Type 0
Behind = World → List ℕ → Script

-- ---- what is shown

-- Where a person's return key ends lines on the screen, whether the cursor is within a line isn't whether the last byte
-- written was no newline. So where the toplevel waits, a text begins with a newline where the cursor is within a line.
abbrev pub fresh : Bool → List ℕ
fresh within = if within then newline ∷ [] else []

-- A text that is shown: a line, or where the toplevel waits the text from the start of a line, with this byte behind
-- it.
abbrev pub shown : Bool → Bool → List ℕ → ℕ → Segment
shown false within text tail = Line text
shown true within text tail = Output (fresh within ++ (text ++ tail ∷ []))

-- an answer is what its line in a session has behind `answer K: `; where the toplevel waits, a space and the key follow
abbrev pub answer_shown : Bool → Bool → List Operator → List (List ℕ × ℕ) → List Tree → Segment
answer_shown waits within table names values = shown waits within (drop 1 (solution_text table names values)) 32

abbrev pub end_shown : Bool → Bool → List ℕ → Segment
end_shown waits within text = shown waits within text newline

-- no answer is left, behind some or behind none
abbrev pub no_more : Bool → List ℕ
no_more true = codes "no more"
no_more false = codes "false"

-- where the toplevel waits, the person sees the next text at the start of a line
abbrev pub newlined : Bool → Script → Script
newlined true script = Shows (Output (newline ∷ [])) script
newlined false script = script

-- ---- a query

-- What a person says behind an answer, where the toplevel waits: the search goes on, or the rest of the run is dropped.
-- The end of the input drops it, too. Where the toplevel doesn't wait the search goes on.
abbrev pub decided : Bool → List ℕ → (List ℕ → Script) → (List ℕ → Script) → Script
decided false input on stop = on input
decided true [] on stop = newlined true (stop [])
decided true (b ∷ z) on stop = if asks_next (b ∷ z) then on (drop_through newline (b ∷ z)) else stop (drop_through newline (b ∷ z))

-- The rest of a run, behind some answers or none, for a query with these named variables, where the cursor is within a
-- line or not; then what follows. A run that is dropped leaves the world as it was at its last answer.
abbrev pub run_shown : Bool → List (List ℕ × ℕ) → Bool → Bool → Trace → List ℕ → Behind → Script
run_shown waits names within answered (Then (Answered values) w others) input next =
    Shows (answer_shown waits within w.operators names values) (decided waits input (λ left. run_shown waits names false true others left next) (next w))
run_shown waits names within answered (Then (Wrote bytes) w others) input next = Shows (Output bytes) (run_shown waits names (ends_within within bytes) answered others input next)
run_shown waits names within answered (Stops NoMore w) input next = Shows (end_shown waits within (no_more answered)) (next w input)
run_shown waits names within answered (Stops Budget w) input next = Shows (end_shown waits within (codes "budget")) (next w input)
run_shown waits names within answered (Stops (Uncaught ball) w) input next = Shows (end_shown waits within (codes "error " ++ text_of w.operators ball)) (next w input)
run_shown waits names within answered (Stops (Halted n) w) input next = Shows (end_shown waits within (codes "halt " ++ decimal n)) (Closes (Halts n))

-- one query, which is run over this world
abbrev pub query_shown : Bool → ℕ → Item → World → List ℕ → Behind → Script
query_shown waits budget Unreadable w input next = Shows (end_shown waits false (codes "syntax error")) (next w input)
query_shown waits budget (Readable c) w input next = Shows (Begins w.runs) (run_shown waits c.names false false (run_of (started (query_goal c.term) budget w)) input next)

-- ---- the queries of a text

abbrev pub queries_by : Bool → ℕ → Option Taken → World → List ℕ → Behind → (List Shown → Behind) → Script
queries_by waits budget None w input next others = next w input
queries_by waits budget (Some x) w input next others = query_shown waits budget x.item w input (others x.behind)

-- The queries of these tokens, each with the whole budget and over the world that those before it left. There are no
-- more of them than tokens.
unfoldable pub queries_shown : Bool → ℕ → ℕ → List Shown → World → List ℕ → Behind → Script
queries_shown waits budget zero ts w input next = next w input
queries_shown waits budget (suc turns) ts w input next =
    queries_by waits budget (next_item w.operators w.flags ts) w input next (λ behind v left. queries_shown waits budget turns behind v left next)

-- the queries of a text
abbrev pub text_shown : Bool → ℕ → List ℕ → World → List ℕ → Behind → Script
text_shown waits budget text w input next = queries_shown waits budget (length (tokens text)) (tokens text) w input next

-- ---- the dialogue

abbrev pub prompted : Bool → List ℕ → Script → Script
prompted true text script = Shows (Output (prompt text)) script
prompted false text script = script

-- The input has no line more: what was read of a text is run as it is, and where that is nothing the dialogue ends.
abbrev pub ended : Bool → List ℕ → (List ℕ → List ℕ → Script) → Script
ended waits [] behind = newlined waits (Closes Done)
ended waits (b ∷ text) behind = newlined waits (behind (b ∷ text) [])

abbrev pub heard : Bool → List ℕ → List ℕ → (List ℕ → List ℕ → Script) → (List ℕ → List ℕ → Script) → Script
heard waits text [] behind others = ended waits text behind
heard waits text (b ∷ z) behind others =
    let more = text ++ take_through newline (b ∷ z) in
    let left = drop_through newline (b ∷ z) in
    if is_whole more then behind more left else others more left

-- Lines are read behind this text until it is whole; then what follows, for the text and the bytes that are left. Each
-- line takes a byte at least.
unfoldable pub question : Bool → ℕ → List ℕ → List ℕ → (List ℕ → List ℕ → Script) → Script
question waits zero text input behind = Closes Done
question waits (suc turns) text input behind = prompted waits text (heard waits text input behind (λ more left. question waits turns more left behind))

-- the dialogue over this world with this input
unfoldable pub dialogue : Bool → ℕ → ℕ → World → List ℕ → Script
dialogue waits budget zero w input = Closes Done
dialogue waits budget (suc turns) w input =
    question waits (suc (length input)) [] input (λ text left. text_shown waits budget text w left (λ v later. dialogue waits budget turns v later))

-- where the toplevel waits it says first how a person goes on
abbrev pub greeting : List ℕ
greeting = codes "Queries end with a full stop. Behind an answer: ; and return for the next, return alone to stop. Ctrl-D ends."

abbrev pub greeted : Bool → Script → Script
greeted true script = Shows (Line greeting) script
greeted false script = script

-- the whole dialogue: each text takes a byte of the input at least
abbrev pub whole_dialogue : Bool → ℕ → List ℕ → World → Script
whole_dialogue waits budget input w = greeted waits (dialogue waits budget (suc (length input)) w input)

-- The toplevel with this program text, this input and this budget: the text is consulted as in a session.
abbrev pub toplevel_script : Bool → List ℕ → List ℕ → ℕ → Script
toplevel_script waits text input budget = whole_text budget (tokens (body_of_text text)) (whole_dialogue waits budget input)
