-- What outlives a run stays what it is where names come.
use Rattle.std.proofs.Common.{◌≡◌, ℕ, List, subst, sym, Vec, Global}
use Rattle.iso_model.specs.Search.Walker.{Alternative, World}
use Rattle.iso_program.specs.declared.callables.Callable.{Callable}
use Rattle.iso_program.specs.declared.clauses.Clause.{Clause}
use Rattle.iso_db.specs.Databases.{Database}
use Rattle.iso_db.specs.declared.db.Db.{Db}
use Rattle.iso_program.specs.Callables.{Finds}
use Rattle.iso_program.specs.Programs.{IsDatabase}
use Rattle.iso_program.specs.Kept.{Keeping}
use Rattle.iso_atoms.specs.Texts.{KeepsTexts}
use Rattle.iso_ops.specs.Operators.{Operator}
use Rattle.iso_search_core.specs.declared.own.OwnOf.{OwnOf}
use Rattle.iso_store_core.specs.Presents.{Present}
use Rattle.iso_ops.specs.declared.settings.Flags.{Flags}
use Rattle.iso_search_core.specs.Own.{own_of, own_stays}
use Rattle.iso_program.specs.declared.vocabulary.Vocabulary.{Vocabulary}
use Rattle.iso_program.specs.Vocabularies.{IsVocabulary}
use Rattle.iso_program.specs.Leaving.{AreLeft, KeepsLeft}
use Rattle.iso_search_core.specs.Standing.{Among, StandsForChoices}
use Rattle.iso_search_core.specs.Standing as standing
use Rattle.iso_search_core.specs.declared.lists.Lists.{Ghosts}
use Rattle.iso_search_core.specs.declared.choices.Choice as kept
use Rattle.iso_search_core.proofs.StandingLemmas.{keeps_none, choices_on}
use Rattle.iso_db.specs.Presents.{contents, key_in}
use Rattle.iso_program.proofs.KeyingLemmas.{keyed_forgotten}
use Rattle.iso_search.specs.Worlds.{KeepsWorld}
use Rattle.iso_program.proofs.ChangeLemmas.{clauses_kept, database_kept, finds_kept}
use Rattle.iso_arith.proofs.EvaluableLemmas.{evaluables_kept}
use Rattle.iso_program.proofs.ControlNames.{controls-kept}
use Rattle.iso_program.proofs.WrittenLemmas.{clause_kept}

-- the same names
pub same_texts : {old new : List (List ℕ)} → new ≡ old → KeepsTexts old new
same_texts {old = old} e = subst (λ (texts : List (List ℕ)). KeepsTexts old texts) (sym e) (λ place text h. h)

pub all_texts : (texts : List (List ℕ)) → KeepsTexts texts texts
all_texts texts = λ place text h. h

-- the same, where views were forgotten
pub forgotten : {E : Type 0} {keeps : Keeping E} {names : List (List ℕ)} {rows : List (Vec Callable Global)} {vocabulary : Vocabulary} {ops : List Operator} {flags : Flags} {w : World} (d db : Db (Clause E)) → contents db ≡ contents d
    → ((number : ℕ) → key_in db number ≡ key_in d number) → KeepsWorld keeps names d rows vocabulary ops flags w → KeepsWorld keeps names db rows vocabulary ops flags w
forgotten {E = E} {keeps = keeps} {names = names} {rows = rows} {w = w} d db same keys is = record {
  database_is = subst (λ (x : Database (Clause E)). IsDatabase keeps names x w.database) (sym same) is.database_is;
  keyed = keyed_forgotten d db same keys is.keyed;
  found = subst (λ (x : Database (Clause E)). Finds names rows x) (sym same) is.found;
  vocabulary_is = is.vocabulary_is;
  operators_are = is.operators_are;
  flags_are = is.flags_are;
}

pub vocabulary_kept : {old new : List (List ℕ)} (keeps : KeepsTexts old new) (v : Vocabulary) → IsVocabulary old v → IsVocabulary new v
vocabulary_kept {old = old} {new = new} keeps v is = record { controls = controls-kept old new v.controls keeps is.controls; evaluables = evaluables_kept old new keeps v.evaluables is.evaluables }

module _ {S L W M K P C N B O : Type 0} (l : Ghosts L S K P C N B O W M) where
  -- a clause of an engine with these lists
  abbrev pub OwnClause : Type 0
  OwnClause = Clause (OwnOf S L W M K P C N B O)

  module _ {old new : List (List ℕ)} (keeps : KeepsTexts old new) where
    -- clauses that are left are left still
    pub left_on : {d : Db OwnClause} → KeepsLeft (AreLeft (own_of l) old d) (AreLeft (own_of l) new d)
    left_on = λ number later cs left. record {
      first = left.first;
      others = left.others;
      is = left.is;
      kept = left.kept;
      stands = left.stands;
      numbered = left.numbered;
      clause = clause_kept old new keeps (own_stays l) left.kept left.first left.clause;
      behind = left.behind;
      gives = left.gives;
      are = clauses_kept old new (own_stays l) keeps left.are;
      few = left.few;
    }

    -- so are choices, where their marks stand on and lists keep what they have
    pub choices_grown : {older : M → M → Type 0} {base : M} {query : List W} {named : List ℕ} {fitting : Present W → ℕ → Alternative → Type 0} {d : Db OwnClause} {stands stands' : M → Present W → Type 0} {held grown : L}
        {cs : List (kept.Choice W M K P C)} {ks : List Alternative} → standing.Keeps l held grown → ((x : kept.Choice W M K P C) (p : Present W) → Among x cs → stands x.mark p → stands' x.mark p)
        → StandsForChoices l stands older base (AreLeft (own_of l) old d) query named fitting held cs ks → StandsForChoices l stands' older base (AreLeft (own_of l) new d) query named fitting grown cs ks
    choices_grown {d = d} grows marks are = choices_on l grows (λ x among. tt) marks (left_on {d = d}) are

    pub choices_kept : {older : M → M → Type 0} {base : M} {query : List W} {named : List ℕ} {fitting : Present W → ℕ → Alternative → Type 0} {d : Db OwnClause} {stands stands' : M → Present W → Type 0} {held : L}
        {cs : List (kept.Choice W M K P C)} {ks : List Alternative} → ((x : kept.Choice W M K P C) (p : Present W) → Among x cs → stands x.mark p → stands' x.mark p)
        → StandsForChoices l stands older base (AreLeft (own_of l) old d) query named fitting held cs ks → StandsForChoices l stands' older base (AreLeft (own_of l) new d) query named fitting held cs ks
    choices_kept {held = held} marks are = choices_grown (keeps_none l held) marks are

    pub world_on : {d : Db OwnClause} {rows : List (Vec Callable Global)} {vocabulary : Vocabulary} {ops : List Operator} {flags : Flags} {w : World} → KeepsWorld (own_of l) old d rows vocabulary ops flags w → KeepsWorld (own_of l) new d rows vocabulary ops flags w
    world_on {vocabulary = vocabulary} is = record {
      database_is = database_kept old new (own_stays l) keeps is.database_is;
      keyed = is.keyed;
      found = finds_kept keeps is.found;
      vocabulary_is = vocabulary_kept keeps vocabulary is.vocabulary_is;
      operators_are = is.operators_are;
      flags_are = is.flags_are;
    }
