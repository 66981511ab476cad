-- What a toplevel shows of a query, beside what a session writes of it over the same world.
use Rattle.std.specs.Prelude.{◌≡◌, ℕ, Bool, true, List, [], ◌++◌, codes}
use Rattle.std.specs.Fmt.{decimal}
use Rattle.iso_ops.specs.Operators.{Operator}
use Rattle.iso_model.specs.Syntax.Items.{Item}
use Rattle.iso_model.specs.Terms.Trees.{Tree}
use Rattle.iso_model.specs.Search.Walker.{World}
use Rattle.iso_model.specs.Session.Lines.{answer_line, halt_line}
use Rattle.iso_model.specs.Session.Sessions.{Begins, Output, Line, Script, Shows, Closes, Halts, query_script}
use Rattle.iso_toplevel_core.specs.Dialogues.{Behind, answer_shown, end_shown, newlined, query_shown}

-- what is said in place of a session's `end: TEXT`: the text, but `false` for `no more` behind no answer
pub data Says : List ℕ → List ℕ → Type 0 where
  the_same : (text : List ℕ) → Says text text
  no_answer : Says (codes "no more") (codes "false")

-- The second script shows the first piece by piece: up to an answer behind which the person stopped, or to its end.
-- `next` is what follows the query in the session, `later` in the toplevel. Behind its end both go on over the same
-- world, and behind an answer the toplevel goes on over the world as it was at that answer.
pub data IsShown (waits : Bool) (next : World → Script) (later : Behind) : Script → Script → Type 0 where
  begins : (runs : ℕ) {session shown : Script} → IsShown waits next later session shown → IsShown waits next later (Shows (Begins runs) session) (Shows (Begins runs) shown)
  output : (bytes : List ℕ) {session shown : Script} → IsShown waits next later session shown → IsShown waits next later (Shows (Output bytes) session) (Shows (Output bytes) shown)
  answer : (within : Bool) (k : ℕ) (table : List Operator) (names : List (List ℕ × ℕ)) (values : List Tree) {session shown : Script} → IsShown waits next later session shown
      → IsShown waits next later (Shows (Line (answer_line table k names values)) session) (Shows (answer_shown waits within table names values) shown)
  stopped : (within : Bool) (k : ℕ) (w : World) (names : List (List ℕ × ℕ)) (values : List Tree) (rest : Script) (left : List ℕ) → waits ≡ true
      → IsShown waits next later (Shows (Line (answer_line w.operators k names values)) rest) (Shows (answer_shown waits within w.operators names values) (later w left))
  stopped_by_end : (within : Bool) (k : ℕ) (w : World) (names : List (List ℕ × ℕ)) (values : List Tree) (rest : Script) → waits ≡ true
      → IsShown waits next later (Shows (Line (answer_line w.operators k names values)) rest) (Shows (answer_shown waits within w.operators names values) (newlined true (later w [])))
  ended : (within : Bool) (text said : List ℕ) (w : World) (left : List ℕ) → Says text said
      → IsShown waits next later (Shows (Line (codes "end: " ++ text)) (next w)) (Shows (end_shown waits within said) (later w left))
  halted : (within : Bool) (n : ℕ)
      → IsShown waits next later (Shows (Line (halt_line n)) (Closes (Halts n))) (Shows (end_shown waits within (codes "halt " ++ decimal n)) (Closes (Halts n)))

-- What a toplevel shows of a query is a beginning of what a session writes of it; where the toplevel doesn't wait, all.
abbrev pub ToplevelsShowBeginnings : Type 0
ToplevelsShowBeginnings = (waits : Bool) (budget : ℕ) (item : Item) (w : World) (input : List ℕ) (next : World → Script) (later : Behind)
    → IsShown waits next later (query_script budget item w next) (query_shown waits budget item w input later)
