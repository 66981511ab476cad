-- No procedure is there, and the flag says what that comes to.
use Rattle.std.proofs.Common.{ap, sym, ◌∙◌, inr}
use Rattle.iso_search.proofs.CalledLemmas.{none_there}
use Rattle.iso_search.proofs.search.Search.unknown.Goals as goal

pub returns-in-Error : goal.returns-in-Error
returns-in-Error g c = λ names later w k t is none absent.
    (none, (none_there k is.database_is absent, ap (λ f. f.unknown) (sym is.flags_are) ∙ c.in-Error.is))

pub returns-in-Fail : goal.returns-in-Fail
returns-in-Fail g c = λ names later w k t is none absent.
    (none, inr (none_there k is.database_is absent, ap (λ f. f.unknown) (sym is.flags_are) ∙ c.in-Fail.is))
