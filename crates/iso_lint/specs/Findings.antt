-- What is found in a text.
use Rattle.std.specs.Prelude.{ℕ, Bool, false, ◌||◌, if◌then◌else◌, List, [], ◌∷◌, ◌++◌, map, fold, length, codes, Option, Some, None, unwrap_or}
use Rattle.std.specs.List.{find, list_any, flat_map, slice_get}
use Rattle.iso_model.specs.Syntax.Token.{Shown}
use Rattle.iso_model.specs.Terms.Trees.{Tree}
use Rattle.iso_model.specs.Search.Keys.{Key, same_key}
use Rattle.iso_model.specs.Search.Table.{is_built_in}
use Rattle.iso_model.specs.Syntax.Tokens.{tokens}
use Rattle.iso_lint.specs.Parts.{Part, term_in, parts}
use Rattle.iso_lint.specs.Once.{once}
use Rattle.iso_lint.specs.Faults.{Fault, fault_in, start_or}
use Rattle.iso_lint_core.specs.Calls as calls

pub data What : Type 0 where
  -- this syntax error
  Broken : (fault : Fault) → What
  -- the variable of this name occurs once
  Once : (name : List ℕ) → What
  -- a clause of this procedure, of which another clause begins there, with clauses of other procedures between
  Apart : (procedure : Key) → (before : ℕ) → What
  -- this procedure is called and not defined
  Unknown : (procedure : Key) → What

-- What is found, and where the token begins to which it belongs.
pub record Finding : Type 0 where
  pub start : ℕ
  pub what : What

abbrev pub finding : ℕ → What → Finding
finding start what = record { start = start; what = what }

-- A part of the text as it was read: where it begins, its term, and what is found in it alone.
pub record Item : Type 0 where
  pub start : ℕ
  pub term : Option Tree
  pub found : List Finding

-- ---- in a part alone

abbrev pub once_at : Shown → Finding
once_at t = finding t.start (Once t.text)

abbrev pub broken : Fault → Finding
broken f = finding f.start (Broken f)

-- a syntax error, or the variables that occur once
abbrev pub found_by : ℕ → Part → Option Tree → List Finding
found_by size p None = broken (fault_in size p) ∷ []
found_by size p (Some t) = map once_at (once p.tokens)

-- a part of a text of this length, as it is read
abbrev pub item : ℕ → Part → Item
item size p = record {
  start = start_or (slice_get p.tokens 0) (unwrap_or p.ends size);
  term = term_in p;
  found = found_by size p (term_in p);
}

-- ---- clauses that are apart

-- A clause of a text: its procedure, and where it begins.
pub record Clause : Type 0 where
  pub procedure : Key
  pub start : ℕ

abbrev pub defined_in : Option Tree → Option Key
defined_in None = None
defined_in (Some t) = calls.defined t

-- the clauses so far, the last one first, with one more
abbrev pub with_clause : List Clause → ℕ → Option Key → List Clause
with_clause seen start None = seen
with_clause seen start (Some k) = record { procedure = k; start = start } ∷ seen

-- the last clause of the procedure among these
abbrev pub last_of : Key → List Clause → Option Clause
last_of k seen = find (λ c. same_key c.procedure k) seen

-- the procedure of the last clause of all
abbrev pub previous_of : List Clause → Option Key
previous_of [] = None
previous_of (c ∷ cs) = Some c.procedure

-- whether that is this procedure
abbrev pub is_previous : Key → Option Key → Bool
is_previous k None = false
is_previous k (Some j) = same_key j k

abbrev pub apart_from : ℕ → Key → Option Clause → List Finding
apart_from start k None = []
apart_from start k (Some c) = finding start (Apart k c.start) ∷ []

-- The clause begins anew where the one before it is of another procedure, and so is found apart from the last clause
-- of its own; but not where the procedure is one of these, which are declared so.
abbrev pub apart : List Key → List Clause → ℕ → Option Key → List Finding
apart loose seen start None = []
apart loose seen start (Some k) = if is_previous k (previous_of seen) || list_any (λ j. same_key j k) loose then [] else apart_from start k (last_of k seen)

-- ---- procedures that aren't defined

-- the procedures of the list, with one more unless it is there
abbrev pub noted : List Key → Key → List Key
noted ks k = if list_any (λ j. same_key j k) ks then ks else ks ++ k ∷ []

-- whether a procedure is a built-in, a control construct, or one of these
abbrev pub is_known : List Key → Key → Bool
is_known known k = is_built_in k || list_any (λ j. same_key j k) known

abbrev pub noted_unknown : List Key → List Key → Key → List Key
noted_unknown known ks k = if is_known known k then ks else noted ks k

-- those of these procedures that aren't known, each once
abbrev pub unknown_of : List Key → List Key → List Key
unknown_of known ks = fold (noted_unknown known) [] ks

abbrev pub calls_in : Option Tree → List Key
calls_in None = []
calls_in (Some t) = calls.calls t

-- ---- in the whole text

abbrev pub some_key : Option Key → List Key
some_key None = []
some_key (Some k) = k ∷ []

abbrev pub declares_in : List ℕ → Option Tree → List Key
declares_in declaration None = []
declares_in declaration (Some t) = calls.declares declaration t

-- those that a term defines, or declares as dynamic
abbrev pub made_known : Option Tree → List Key
made_known t = some_key (defined_in t) ++ declares_in (codes "dynamic") t

-- those that it declares as apart
abbrev pub made_loose : Option Tree → List Key
made_loose t = declares_in (codes "discontiguous") t

abbrev pub known_in : List Item → List Key
known_in items = flat_map (λ i. made_known i.term) items

abbrev pub loose_in : List Item → List Key
loose_in items = flat_map (λ i. made_loose i.term) items

abbrev pub unknown_at : ℕ → Key → Finding
unknown_at start k = finding start (Unknown k)

-- what is found at an item, behind these clauses
abbrev pub found_at : List Key → List Key → List Clause → Item → List Finding
found_at known loose seen i =
    apart loose seen i.start (defined_in i.term) ++ (map (unknown_at i.start) (unknown_of known (calls_in i.term)) ++ i.found)

-- what is found at these items, behind these clauses
abbrev pub found_from : List Key → List Key → List Clause → List Item → List Finding
found_from known loose seen [] = []
found_from known loose seen (i ∷ items) = found_at known loose seen i ++ found_from known loose (with_clause seen i.start (defined_in i.term)) items

-- what is found at the items of a text
abbrev pub found_in : List Item → List Finding
found_in items = found_from (known_in items) (loose_in items) [] items

-- what is found in a text, of which each part is read by the settings that the directives before it set
abbrev pub found_in_text : List ℕ → List Finding
found_in_text text = found_in (map (item (length text)) (parts (tokens text)))
