-- What meeting the head of a clause with the arguments of a call comes to.
use Rattle.std.specs.Prelude.{ℕ, List, Bool, true, false}
use Rattle.iso_model.specs.Terms.Trees.{Tree, Apply}
use Rattle.iso_model.specs.Terms.Unifiers.{NeverEqual}
use Rattle.iso_store_core.specs.Heads.{new_head}
use Rattle.iso_store_core.specs.Presents.{Present}
use Rattle.iso_machine_core.specs.Entering.{Enters, call_of}

-- What the answer says: the call and the head of these arguments were unified, and each of the clause's variables has a
-- word of its value in the environment; or nothing makes the two equal.
abbrev pub HasMet : {W : Type 0} → Present W → Present W → List ℕ → List W → Tree → List W → Bool → Type 0
HasMet p q f arguments ts environment true = Enters p q f arguments ts (λ x. true) environment
HasMet p q f arguments ts environment false = NeverEqual (call_of p f arguments) (new_head p (Apply f ts))
