-- What a call comes to behind others.
use Rattle.std.specs.Prelude.{Result, Ok}
use Rattle.iso_store_core.specs.declared.shapes.StoreFault.{StoreFault}
use Rattle.iso_search.specs.declared.calls.Next.{Next}
use Rattle.iso_search.specs.declared.calls.Next.TheVariants as calls

-- what a call comes to behind one that went on: where it is left, the engine went on to it
abbrev pub gone : Result Next StoreFault → Result Next StoreFault
gone (Ok calls.Other) = Ok calls.Went
gone result = result
