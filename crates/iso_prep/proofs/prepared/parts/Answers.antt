use borrow.Author.Tests.{ltb-true, ltb-false}
use Rattle.std.proofs.Common.{◌≡◌, arith, rules, length, false, codes, sym}
use Rattle.std.specs.Str.{bytes_eq}
use Rattle.std.specs.String.{string_bytes}
use Rattle.iso_prep.proofs.PrepareLemmas.{fact_of_compound}
use Rattle.iso_prep.proofs.prepared.parts.Goals.{in_default-via-then-as_slice-lt2, in_default-via-in-len2+else-eq, in_default-via-else-as_slice-lt2+else-this-lt3}
use Rattle.iso_prep.proofs.prepared.parts.Goals as goal

-- a compound that is no rule has another name or another number of arguments
no_rule : (c : goal.In_default) → length c.in-Compound.arguments.items ≡ 2 → bytes_eq (string_bytes c.in-Compound.name) (codes ":-") ≡ false
no_rule c two = elim c.in_default.branch [
  | in_default-via-then-as_slice-lt2 w ↦ absurd (omega (arith, ltb-true, ltb-false))
  | in_default-via-in-len2+else-eq w ↦ search rules
  | in_default-via-else-as_slice-lt2+else-this-lt3 w ↦ absurd (omega (arith, ltb-true, ltb-false))
]

pub returns-in_default-clause-head : goal.returns-in_default-clause-head
returns-in_default-clause-head c = sym (fact_of_compound c.args.clause.now c.in-Compound.name c.in-Compound.arguments c.in-Compound.is (no_rule c)).0

pub returns-in_default-clause-body : goal.returns-in_default-clause-body
returns-in_default-clause-body c = sym (fact_of_compound c.args.clause.now c.in-Compound.name c.in-Compound.arguments c.in-Compound.is (no_rule c)).1
