-- The places that are left make the database what it shall be.
use Rattle.std.proofs.Common.{◌≡◌, drop, length}
use Rattle.iso_db.specs.Presents.{contents}
use Rattle.iso_program.specs.Keying.{Preserves}
use Rattle.iso_storage.specs.Declaring.{all_dynamic}
use Rattle.iso_storage.proofs.declarations.declare_all.Given as goal

abbrev pub invariant-loop-place : goal.invariant-loop-place
invariant-loop-place g l = record {
  left : all_dynamic (drop l.place-index l.places) (contents l.db) ≡ all_dynamic l.places (contents l.initial.db);
  long : length (contents l.db).procedures ≡ length (contents l.initial.db).procedures;
  preserves : Preserves l.initial.db l.db;
}
