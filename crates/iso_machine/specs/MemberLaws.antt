-- The laws of members that come first of lists in frames.
use Rattle.std.specs.Prelude.{ℕ, ◌∷◌, refl}
use Rattle.std.proofs.Common.{ap, sym, subst}
use Rattle.iso_frames.specs.declared.frames.Next.{Next}
use Rattle.iso_frames.specs.Costs.{first_cost, first_pending}
use Rattle.iso_control.specs.Members.{GivesMember, ComesFirst, CostsMember, TakesNone}
use Rattle.iso_machine.specs.Lists.{IsFirst}
use Rattle.iso_machine.specs.Engines.{framed}
use Rattle.iso_machine.specs.FrameMembers.{IsMemberFirst, nodes_of}
use Rattle.iso_machine.specs.Wholes.{whole_chain, whole_list}

module _ {S W M : Type 0} (atom_word : ℕ → W) where
  pub member_gives : GivesMember (framed {S = S} {W = W} {M = M} atom_word) nodes_of IsMemberFirst
  member_gives p l next ms asked height behind is first =
      let here = subst (λ (n : Next W). IsFirst atom_word p l n ms) is first in
      record {
        member = here.member;
        behind = here.behind;
        is = here.is;
        stands = here.stands;
        chain = whole_list atom_word l here.chain;
      }

  pub member_comes : ComesFirst (framed {S = S} {W = W} {M = M} atom_word) nodes_of IsMemberFirst
  member_comes p l next asked height behind m ms is member list =
      subst (λ (n : Next W). IsFirst atom_word p l n (m ∷ ms)) (sym is) (record {
        member = m;
        behind = ms;
        is = refl;
        stands = member;
        chain = whole_chain atom_word l list;
      })

  pub member_costs : CostsMember (framed {S = S} {W = W} {M = M} atom_word) nodes_of IsMemberFirst
  member_costs l next asked height behind is = ap (first_cost l.frames.items) is

  pub member_takes : TakesNone (framed {S = S} {W = W} {M = M} atom_word) nodes_of IsMemberFirst
  member_takes l next asked height behind is = ap (first_pending l.frames.items) is
