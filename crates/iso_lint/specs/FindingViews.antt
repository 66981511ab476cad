-- What clauses see of findings.
use Rattle.std.specs.String.{string_bytes}
use Rattle.iso_model.specs.Search.Keys as model
use Rattle.iso_lint.specs.FaultViews.{fault_of}
use Rattle.iso_lint.specs.Findings as spec
use Rattle.iso_lint.specs.declared.findings.Procedure.{Procedure}
use Rattle.iso_lint.specs.declared.findings.What.{What}
use Rattle.iso_lint.specs.declared.findings.What.TheVariants as what
use Rattle.iso_lint.specs.declared.findings.Finding.{Finding}

abbrev pub procedure_of : Procedure → model.Key
procedure_of p = model.key (string_bytes p.name) p.arity

abbrev pub what_of : What → spec.What
what_of (what.Broken fault) = spec.Broken (fault_of fault)
what_of (what.Once name) = spec.Once name.now
what_of (what.Apart p before) = spec.Apart (procedure_of p) before
what_of (what.Unknown p) = spec.Unknown (procedure_of p)

abbrev pub finding_of : Finding → spec.Finding
finding_of f = spec.finding f.start (what_of f.what)
