-- What lists of goals keep of a clause, as the program's clauses have it.
use Rattle.iso_program.specs.Kept.{Keeping, StaysKept}
use Rattle.iso_search_core.specs.declared.lists.Lists.{Ghosts}
use Rattle.iso_search_core.specs.declared.own.OwnOf.{OwnOf}

module _ {S L W M K P C N B O : Type 0} (l : Ghosts L S K P C N B O W M) where
  -- of which clause it is kept
  abbrev pub own_of : Keeping (OwnOf S L W M K P C N B O)
  own_of names own c = l.own names own.kept c

  -- it stays so where names come
  pub own_stays : StaysKept own_of
  own_stays old new own = l.stays old new own.kept
