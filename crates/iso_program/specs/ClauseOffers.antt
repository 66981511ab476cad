-- Clauses of a procedure that are offered, for their heads and bodies to be unified with two terms.
use Rattle.std.specs.Prelude.{Bool, true, false}
use Rattle.iso_model.specs.Search.Databases.{Clause, Key}
use Rattle.iso_model.specs.Search.Settlements.{Offer}
use Rattle.iso_model.specs.Search.Storages.{shown_clause, removed_clause}

-- a clause of the procedure with this key, which is removed where it is taken, or stays
abbrev pub clause_offer : Bool → Key → Clause → Offer
clause_offer true k c = removed_clause k c
clause_offer false k c = shown_clause c
