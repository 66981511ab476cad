use Rattle.iso_compile.proofs.FillLemmas.{row_made}
use Rattle.iso_compile.proofs.laws_of_code.arguments_are_made.Goals as goal

pub returns : goal.returns
returns c r m ts room next rs form = row_made next r m ts rs form room
