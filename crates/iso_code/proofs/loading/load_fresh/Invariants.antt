-- The variables so far have their operands.
use Rattle.std.proofs.Common.{take}
use Rattle.std.specs.List.{AllZip}
use Rattle.iso_code.specs.Loading.{IsOfNew}
use Rattle.iso_code.proofs.loading.load_fresh.Given as goal

abbrev pub invariant-loop-part : goal.invariant-loop-part
invariant-loop-part l = AllZip IsOfNew (take l.part-index l.fresh) l.operands.items
