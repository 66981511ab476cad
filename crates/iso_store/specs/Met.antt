-- What came of two terms that were to be made equal.
use Rattle.std.specs.Prelude.{◌≡◌, true, false}
use Rattle.iso_model.specs.Terms.Trees.{Tree}
use Rattle.iso_model.specs.Terms.Sorts.{is_term}
use Rattle.iso_store.specs.declared.meetings.Meeting.TheVariants.{Arguments}
use Rattle.iso_store.specs.declared.unify.Met.{Met}
use Rattle.iso_store.specs.declared.unify.Met.TheVariants.{Equal, Never, Compounds}
use Rattle.iso_store_core.specs.Presents.{Present, IsUnification}
use Rattle.iso_store.specs.Meetings.{IsMeeting}

-- what came of the terms a and b between the stores p and q: nothing is bound where they are compounds of one name
abbrev pub IsMet : {W : Type 0} → Present W → Present W → Tree → Tree → Met → Type 0
IsMet p q a b Equal = IsUnification p q a b true
IsMet p q a b Never = IsUnification p q a b false
IsMet p q a b (Compounds n) = (q ≡ p) × IsMeeting (Arguments n) a b × (is_term a ≡ true) × (is_term b ≡ true)
