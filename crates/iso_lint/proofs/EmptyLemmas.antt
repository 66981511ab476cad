-- Where tokens stop beginning a clause: no token begins one already.
use Rattle.std.proofs.Common.{◌≡◌, ℕ, Bool, true, [], take, length, refl}
use Rattle.iso_model.specs.Syntax.Reading.{clause_of, term, operand, continued, climb, operator_behind}
use Rattle.iso_lint_core.specs.declared.settings.Settings.{Settings}
use Rattle.iso_lint.specs.Completions.{begins_clause}
use Rattle.iso_lint.specs.Faults.{ClausesStopAtFaults}
use Rattle.iso_lint.proofs.BoundaryLemmas.{boundaries}

empty_begins : (s : Settings) → begins_clause s [] ≡ true
unfolding clause_of term operand continued climb operator_behind
empty_begins s = refl

pub stop_at_faults : ClausesStopAtFaults
stop_at_faults s ts =
    let p : ℕ → Bool = λ k. begins_clause s (take k ts) in
    let b = boundaries p (length ts) in
    record { within = b.within; begins = b.holds (empty_begins s); stops = b.ends }
