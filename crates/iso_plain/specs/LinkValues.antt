-- Where words have their values under a substitution, goals that linked members are have them too.
use Rattle.std.proofs.Common.{ℕ, List, Option}
use Rattle.iso_model.specs.Terms.Substitutions.{Subst}
use Rattle.iso_model.specs.Search.Walker.{Member}
use Rattle.iso_model.specs.Search.RunLaws.Sameness.{SameList, no_member}
use Rattle.iso_store_core.specs.Presents.{Present}
use Rattle.iso_program.specs.Values.{HasValues}
use Rattle.iso_plain_core.specs.Standing.{Links, Chain, ends, leads}
use Rattle.iso_plain_core.proofs.MemberValues.{member_value}

module _ {W : Type 0} {p q : Present W} {u : Subst} (h : HasValues p q u) where
  -- the members from a place on
  pub members_value : (links : Links W) (place : Option ℕ) (ms : List Member) → Chain p links place ms → SameList q.substitution u ms ms
  members_value links place ms ends = no_member
  members_value links place ms (leads {f = f} {m = m} {ms = others} at below member chain) = member_value h links.nodes f m others member (members_value links f.next others chain)
