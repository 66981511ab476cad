-- What becomes of the newest choice when the next of the clauses that are left at it is tried.
use Rattle.std.specs.Prelude.{◌≡◌, ◌≤◌, ◌<◌, ◌-◌, ℕ, Bool, true, false, List, Option, Some, IfSome, MatchOption, length}
use Rattle.std.specs.List.{slice_get}
use Rattle.iso_db.specs.Databases as held
use Rattle.iso_db.specs.Presents.{GivesKeyed}
use Rattle.iso_db.specs.Keyed.{remaining_keyed}
use Rattle.iso_db.specs.declared.db.Db.{Db}
use Rattle.iso_db.specs.declared.keyed.KeyedView.{KeyedView}
use Rattle.iso_model.specs.Search.Databases as databases
use Rattle.iso_program.specs.Leaving.{AreLeft, NextLeft, most_left}
use Rattle.iso_program.specs.Programs.{AreClauses}
use Rattle.iso_program.specs.Kept.{Keeping}
use Rattle.iso_program.specs.declared.clauses.Clause.{Clause}
use Rattle.iso_search_core.specs.declared.choices.Attempt.{Attempt}
use Rattle.iso_search_core.specs.declared.choices.Choice as kept
use Rattle.iso_search_core.specs.declared.choices.Left.TheVariants as left
use Rattle.iso_search.specs.declared.search.Search.{Search}
use Rattle.iso_search.specs.declared.retries.Retry.{Retry}

-- the attempt that tries this next, and behind it the clauses that the view gives
abbrev pub attempt_of : {C P : Type 0} → Retry C P → KeyedView → Attempt C
attempt_of retry later = record { clause = retry.clause; later = later; call = retry.call }

-- The attempt goes on with the next of the clauses that its view gives; there is no more where the view gives none.
pub record Advances {E C : Type 0} (keeps : Keeping E) (d : Db (Clause E)) (old new : Attempt C) (more : Bool) : Type 0 where
  pub next : Option ℕ
  pub left : (names : List (List ℕ)) (ks : List (held.Clause (Clause E))) (cs : List databases.Clause)
      → GivesKeyed d old.later ks → AreClauses keeps names ks cs → remaining_keyed old.later ≤ most_left
      → NextLeft (AreLeft keeps names d) next new.later cs
  pub falls : IfSome next (λ id. remaining_keyed new.later < remaining_keyed old.later)
  pub is : MatchOption next (more ≡ false) (λ id. (more ≡ true) × (new ≡ record old { clause = id; later = new.later }))

-- The newest choice of the engine tries this next.
pub record TriesNext {S L W M K P C N B O : Type 0} (e : Search S L W M K P C N B O) (retry : Retry C P) : Type 0 where
  pub choice : kept.Choice W M K P C
  pub later : KeyedView
  pub newest : slice_get e.choices.items (length e.choices.items - 1) ≡ Some choice
  pub left : choice.left ≡ left.Clauses (attempt_of retry later)
  pub rest : choice.rest ≡ retry.rest
