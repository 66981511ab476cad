-- An instruction that comes first of a list.
use Rattle.std.specs.Prelude.{◌≤◌, ℕ, List, Option}
use Rattle.iso_model.specs.Search.Walker.{Member}
use Rattle.iso_store_core.specs.Presents.{Present}
use Rattle.iso_frames.specs.declared.frames.Rest.{Rest}
use Rattle.iso_frames.specs.declared.frames.Next.TheVariants as next
use Rattle.iso_frames.specs.Costs.{first_cost, first_pending}
use Rattle.iso_machine.specs.declared.framed.Framed.{Framed}
use Rattle.iso_machine.specs.Lists.{IsFirst, IsList, cost_at, extent_of, pending_at}

-- The instruction there comes first of the list from the place on, and no more is to be done of it.
pub record ComesAt {S W M : Type 0} (atom_word : ℕ → W) (l : Framed S W M) (place : Option Rest) (r : Rest)
    : Type 0 where
  pub first : (p : Present W) (ms : List Member) → IsList atom_word p l (extent_of l) place ms
      → IsFirst atom_word p l (next.Code r) ms
  pub cost : first_cost {W = W} l.frames.items (next.Code r) ≤ cost_at l place
  pub pending : first_pending {W = W} l.frames.items (next.Code r) ≤ pending_at l place
