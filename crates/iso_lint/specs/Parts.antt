-- The parts of a text (ISO/IEC 13211-1:1995, 6.2): the tokens up to each end token, with the settings by which they
-- are read.
use Rattle.std.specs.Prelude.{◌≡◌, ℕ, zero, suc, List, [], ◌∷◌, length, if◌then◌else◌, Option, Some, None, option_map}
use Rattle.iso_model.specs.Syntax.Token.{Shown}
use Rattle.iso_model.specs.Syntax.Grammar.{ReadTerm}
use Rattle.iso_model.specs.Syntax.Reading.{clause_of}
use Rattle.iso_model.specs.Syntax.Clauses.{is_end}
use Rattle.iso_model.specs.Syntax.Items.{next_item, item_of}
use Rattle.iso_model.specs.Terms.Trees.{Tree}
use Rattle.iso_lint_core.specs.declared.settings.Settings.{Settings}
use Rattle.iso_lint_core.specs.Settings.{initial_settings, behind_term}

-- The tokens before the next end token, or all where there is none; where that end token begins; and the tokens
-- behind it.
pub record Cut : Type 0 where
  pub tokens : List Shown
  pub ends : Option ℕ
  pub behind : List Shown

abbrev pub with_token : Shown → Cut → Cut
with_token t c = record c { tokens = t ∷ c.tokens }

abbrev pub cut : List Shown → Cut
cut [] = record { tokens = []; ends = None; behind = [] }
cut (t ∷ ts) = if is_end t.kind then record { tokens = []; ends = Some t.start; behind = ts } else with_token t (cut ts)

-- A part of a text: its tokens, where its end token begins, and the settings before it.
pub record Part : Type 0 where
  pub tokens : List Shown
  pub ends : Option ℕ
  pub settings : Settings

abbrev pub part_of : Cut → Settings → Part
part_of c s = record { tokens = c.tokens; ends = c.ends; settings = s }

-- the clause that the tokens are, where they have an end token
abbrev pub ended : Option ℕ → Option ReadTerm → Option ReadTerm
ended None clause = None
ended (Some start) clause = clause

abbrev pub clause_in : Part → Option ReadTerm
clause_in p = ended p.ends (clause_of p.settings.ops p.settings.flags p.tokens)

-- its term; none where it is a syntax error
abbrev pub term_in : Part → Option Tree
term_in p = option_map (λ c. c.term) (clause_in p)

-- the settings behind a term, or behind a syntax error
abbrev pub behind_read : Option Tree → Settings → Settings
behind_read None s = s
behind_read (Some t) s = behind_term t s

-- the settings behind a part
abbrev pub behind_part : Part → Settings
behind_part p = behind_read (term_in p) p.settings

-- a part before those behind it
abbrev pub then_parts : Cut → Settings → (List Shown → Settings → List Part) → List Part
then_parts c s others = part_of c s ∷ others c.behind (behind_part (part_of c s))

-- the parts of these tokens, by these settings at first, so many at most
unfoldable pub parts_from : ℕ → List Shown → Settings → List Part
parts_from zero ts s = []
parts_from (suc turns) [] s = []
parts_from (suc turns) (t ∷ ts) s = then_parts (cut (t ∷ ts)) s (parts_from turns)

-- the parts of a text's tokens; there are no more of them than tokens
abbrev pub parts : List Shown → List Part
parts ts = parts_from (length ts) ts initial_settings

-- ---- law

-- A part is the next item of a text, as it is consulted by these settings, and what is left behind it is the same.
abbrev pub PartsAreItems : Type 0
PartsAreItems = (s : Settings) (t : Shown) (ts : List Shown) → next_item s.ops s.flags (t ∷ ts)
    ≡ Some (record { item = item_of (clause_in (part_of (cut (t ∷ ts)) s)); behind = (cut (t ∷ ts)).behind })
