-- What clauses see of faults.
use Rattle.std.specs.Prelude.{option_map}
use Rattle.iso_ops.specs.Entries.{text_of}
use Rattle.iso_token.specs.Shows.{shown}
use Rattle.iso_lint.specs.Faults as faults
use Rattle.iso_lint.specs.declared.faults.Expected.{Expected}
use Rattle.iso_lint.specs.declared.faults.Fault.{Fault}

abbrev pub expected_of : Expected → faults.Expected
expected_of e = record { term = e.term; ending = e.ending; comma = e.comma; bar = e.bar; closer = option_map text_of e.closer }

abbrev pub fault_of : Fault → faults.Fault
fault_of f = record { start = f.start; token = option_map shown f.token; ended = f.ended; expected = expected_of f.expected }
