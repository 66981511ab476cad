-- What is read by precedence, said by the grammar.
use Rattle.std.proofs.Common.{◌≡◌, List, Some, None, Err, refl, ap, sym, ◌∙◌}
use Rattle.iso_ops.specs.Operators.{Operator, IsOpTable}
use Rattle.iso_ops.specs.declared.settings.Flags.{Flags}
use Rattle.iso_model.specs.Syntax.Token.{Shown}
use Rattle.iso_model.specs.Syntax.ReadingLaws.{IsWellRead}
use Rattle.iso_model.specs.Syntax.Grammar.{ReadTerm}
use Rattle.iso_model.specs.Syntax.Reading.{clause_of}
use Rattle.iso_model.specs.Syntax.Clauses.{IsNextClause, split_clause, next_clause}
use Rattle.iso_read.specs.declared.clause.ReadFault.{ReadFault}
use Rattle.iso_read.specs.declared.clause.ReadFault.TheVariants as fault
use Rattle.iso_read.specs.Answers.{IsWhole, ReadsNext}
use Rattle.iso_model.proofs.Syntax.ClauseLaws.{clause_given, next_complete}
use Rattle.iso_model.proofs.Syntax.WellRead.{clause_well_read}

module _ (table : List Operator) (flags : Flags) where
  pub next_read : (ts front back : List Shown) (c : ReadTerm) → split_clause ts ≡ Some (front, back) → clause_of table flags front ≡ Some c → IsNextClause table flags ts c
  next_read ts front back c splits read = record { before = front; others = back; splits = splits; clause = clause_given table flags front c read }

  pub next_none : IsOpTable table → (ts front back : List Shown) → split_clause ts ≡ Some (front, back) → clause_of table flags front ≡ None → (c : ReadTerm) → ¬ IsNextClause table flags ts c
  next_none good ts front back splits none c k =
      let read = next_complete table flags good ts c k in
      let nothing : next_clause table flags ts ≡ None = rw splits none in
      cc

  -- an error of the whole clause
  pub next_error : IsOpTable table → (ts front back other : List Shown) (e : ReadFault) → split_clause ts ≡ Some (front, back) → other ≡ front → IsWhole (clause_of table flags other) (Err e) → ReadsNext table flags (Err e) ts
  next_error good ts front back other fault.Syntax splits same none =
      ((λ empty. let nothing : split_clause ts ≡ None = rw empty refl in cc), next_none good ts front back splits (ap (clause_of table flags) (sym same) ∙ none))
  next_error good ts front back other fault.NoMemory splits same none = tt

  pub clause_well : (front : List Shown) (c : ReadTerm) → clause_of table flags front ≡ Some c → IsWellRead c
  clause_well front c read = clause_well_read table flags front c (clause_given table flags front c read)
