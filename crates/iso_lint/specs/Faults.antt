-- A syntax error: its token, and what could stand there.
use Rattle.std.specs.Prelude.{◌≡◌, ◌≤◌, ◌<◌, ℕ, ◌+◌, Bool, true, false, List, [], ◌∷◌, take, length, Option, Some, None, is_some, unwrap_or, codes}
use Rattle.std.specs.List.{slice_get}
use Rattle.iso_model.specs.Syntax.Token.{Shown}
use Rattle.iso_lint_core.specs.declared.settings.Settings.{Settings}
use Rattle.iso_lint.specs.Completions.{mark, anonymous, closers, goes_on_with, begins_clause}
use Rattle.iso_lint.specs.Boundaries.{boundary}
use Rattle.iso_lint.specs.Parts.{Part}

-- What some clause goes on with behind the tokens that begin it: with a term; with an operator, or what ends its
-- innermost part, since a term can end there; with a comma or a bar, before a term. And the mark that ends the
-- innermost part; none where that is the clause, and an end token ends it.
pub record Expected : Type 0 where
  pub term : Bool
  pub ending : Bool
  pub comma : Bool
  pub bar : Bool
  pub closer : Option (List ℕ)

abbrev pub expected_behind : Settings → List Shown → Expected
expected_behind s ts = record {
  term = goes_on_with s ts (anonymous ∷ []);
  ending = goes_on_with s ts [];
  comma = goes_on_with s ts (mark (codes ",") ∷ anonymous ∷ []);
  bar = goes_on_with s ts (mark (codes "|") ∷ anonymous ∷ []);
  closer = slice_get (closers ts) 0;
}

-- A syntax error: where it shows, the token there, whether an end token ends the part, and what could stand there.
-- There is no token at the end of the part, where the end token stands or the text ends.
pub record Fault : Type 0 where
  pub start : ℕ
  pub token : Option Shown
  pub ended : Bool
  pub expected : Expected

abbrev pub start_or : Option Shown → ℕ → ℕ
start_or None otherwise = otherwise
start_or (Some t) otherwise = t.start

-- the fault behind so many tokens of a part of a text of this length
abbrev pub fault_behind : ℕ → Part → ℕ → Fault
fault_behind size p k = record {
  start = start_or (slice_get p.tokens k) (unwrap_or p.ends size);
  token = slice_get p.tokens k;
  ended = is_some p.ends;
  expected = expected_behind p.settings (take k p.tokens);
}

-- how many of the tokens begin a clause, while those with the next one begin none
abbrev pub begin_boundary : Settings → List Shown → ℕ
begin_boundary s ts = boundary (λ k. begins_clause s (take k ts)) (length ts)

-- the syntax error of a part that is one, in a text of this length
abbrev pub fault_in : ℕ → Part → Fault
fault_in size p = fault_behind size p (begin_boundary p.settings p.tokens)

-- ---- law

-- So many of the tokens begin a clause, and where there is a next one, those with it begin none.
pub record StopsAt (s : Settings) (ts : List Shown) (k : ℕ) : Type 0 where
  pub within : k ≤ length ts
  pub begins : begins_clause s (take k ts) ≡ true
  pub stops : k < length ts → begins_clause s (take (k + 1) ts) ≡ false

-- The tokens before the place of a syntax error begin a clause, and with the token there they begin none.
abbrev pub ClausesStopAtFaults : Type 0
ClausesStopAtFaults = (s : Settings) (ts : List Shown) → StopsAt s ts (begin_boundary s ts)
