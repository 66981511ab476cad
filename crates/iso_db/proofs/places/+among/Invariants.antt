-- The row gets shorter.
use Rattle.std.proofs.Common.{length}
use Rattle.iso_db.proofs.places.+among.Given as goal

abbrev pub decreases-among : goal.decreases-among
decreases-among l = length l.row.now
