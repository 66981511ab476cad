use Rattle.std.proofs.Common.{◌≡◌, map, drop, subst}
use Rattle.std.specs.Int.{w128}
use Rattle.std.proofs.lemmas.Int.{to_z-of_z}
use Rattle.iso_ops.specs.Entries.{text_of}
use Rattle.iso_lint_core.specs.Names.{set_all}
use Rattle.iso_lint_core.proofs.SettingLemmas.{name_refused}
use Rattle.iso_lint_core.proofs.settings.with_all.Goals as goal

pub returns-in_default : goal.returns-in_default
returns-in_default c =
    let s = c.args.specifier.now in
    let names = c.args.names.now in
    let k = c.loop-name.name-index in
    let table = c.loop-name.table in
    let same = to_z-of_z w128 c.args.priority c.ranges.priority in
    let allowed = rw same at c.in-Err.ensures.allowed in
    let left = subst (λ p. set_all p s (map text_of (drop k names)) table ≡ set_all p s (map text_of names) c.args.ops.now) same c.loop-name.invariant in
    name_refused c.args.priority s names k _ table _ _ (set_all c.args.priority s (map text_of names) c.args.ops.now) c.loop-name-test.true allowed c.in_default.not-NoMemory left
