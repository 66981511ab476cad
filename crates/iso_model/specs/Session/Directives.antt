-- What a term of a text is: a clause, or a directive (ISO/IEC 13211-1:1995, 7.4.2), which is run, or kept until
-- behind the text, or passed over.
use Rattle.std.specs.Prelude.{ℕ, Bool, false, ◌&&◌, ◌||◌, ◌==◌, Option, Some, None, codes, if◌then◌else◌}
use Rattle.std.specs.Str.{bytes_eq}
use Rattle.iso_model.specs.Terms.Trees.{Tree, Apply, End, More}
use Rattle.iso_model.specs.Search.Databases.{Key, key_of}

pub data TextTerm : Type 0 where
  AClause : TextTerm
  Directive : (goal : Tree) → TextTerm
  Initialization : (goal : Tree) → TextTerm
  PassedOver : TextTerm

-- a kept goal, by the place of its term in the text
pub record Kept : Type 0 where
  pub place : ℕ
  pub goal : Tree

-- whether directives with a goal of this name and arity are passed over: they set modules, other texts and character
-- conversions, which this profile does not have (7.4.2)
abbrev pub passes_over : Key → Bool
passes_over k =
    (k.arity == 1 && (bytes_eq k.name (codes "use_module") || bytes_eq k.name (codes "include") || bytes_eq k.name (codes "ensure_loaded")))
    || (k.arity == 2 && (bytes_eq k.name (codes "module") || bytes_eq k.name (codes "use_module") || bytes_eq k.name (codes "char_conversion")))

abbrev pub passes_over_by : Option Key → Bool
passes_over_by None = false
passes_over_by (Some k) = passes_over k

-- a directive that is not passed over: `initialization(G)` keeps G (7.4.2.6), any other goal is run
abbrev pub run_or_kept : Tree → TextTerm
run_or_kept (Apply f (More g End)) = if bytes_eq f (codes "initialization") then Initialization g else Directive (Apply f (More g End))
run_or_kept t = Directive t

-- a directive with this goal
abbrev pub directive_term : Tree → TextTerm
directive_term t = if passes_over_by (key_of t) then PassedOver else run_or_kept t

-- a term of a text: `:- G` and `?- G` are directives, grammar rules are passed over, any other is a clause (7.4.3)
abbrev pub text_term : Tree → TextTerm
text_term (Apply f (More g End)) = if bytes_eq f (codes ":-") || bytes_eq f (codes "?-") then directive_term g else AClause
text_term (Apply f (More g (More h End))) = if bytes_eq f (codes "-->") then PassedOver else AClause
text_term t = AClause
