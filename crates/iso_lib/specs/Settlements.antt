-- What a goal that reads or changes operators and flags came to.
use Rattle.std.specs.Prelude.{◌≡◌, ℕ, zero, suc, ◌*◌, List, [], ◌∷◌, length, map, Result, Ok, Err}
use Rattle.std.specs.List.{All}
use Rattle.std.specs.Result.{IsErrAnd}
use Rattle.std.specs.String.{string_bytes}
use Rattle.iso_ops.specs.Operators.{Operator}
use Rattle.iso_ops.specs.declared.settings.Flags.{Flags}
use Rattle.iso_model.specs.Terms.Trees.{Tree, Integer, Name, row}
use Rattle.iso_model.specs.Terms.Arguments.{argument}
use Rattle.iso_model.specs.Search.Settings.{Settled, Changes, Offers, value_offer, setting_arity}
use Rattle.iso_model.specs.Search.Worlds.{World}
use Rattle.iso_model.specs.declared.kinds.Setting.{Setting}
use Rattle.iso_model.specs.declared.pauses.Ball.{Ball}
use Rattle.iso_lib_core.specs.declared.outcomes.Fault.{Fault}
use Rattle.iso_lib_core.specs.declared.outcomes.Fault.TheVariants as fault
use Rattle.iso_lib.specs.declared.settings.Constant.{Constant}
use Rattle.iso_lib.specs.declared.settings.Constant.TheVariants as constant
use Rattle.iso_lib.specs.declared.settings.Offer.{Offer}
use Rattle.iso_lib.specs.declared.settings.Settled.{Settled as Came}
use Rattle.iso_lib.specs.declared.settings.Settled.TheVariants as came
use Rattle.iso_lib_core.specs.Replies.{IsError}
pub use Rattle.iso_lib_core.specs.Checks.{IsRefused, PassesTo}

-- the term that a constant is
abbrev pub constant_tree : Constant → Tree
constant_tree (constant.Int z) = Integer z
constant_tree (constant.Atom a) = Name (string_bytes a)

-- the row of terms that is offered
abbrev pub offer_tree : Offer → Tree
offer_tree offer = row (map constant_tree offer.constants.items)

-- so many arguments of the term, from this place on
abbrev pub arguments_from : ℕ → ℕ → Tree → List Tree
arguments_from i zero t = []
arguments_from i (suc n) t = argument i t ∷ arguments_from (suc i) n t

-- the row of the goal's arguments
abbrev pub goal_row : Setting → Tree → Tree
goal_row setting t = row (arguments_from 0 (setting_arity setting) t)

-- the world with these operators and flags
abbrev pub with_settings : World → List Operator → Flags → World
with_settings w ops flags = record w { operators = ops; flags = flags }

-- In the world w the goal of this row, the term t, comes to what is settled: these are the operators and flags behind
-- it.
abbrev pub IsSettled : World → List Operator → Flags → Setting → Tree → Settled → Result Came Fault → Type 0
IsSettled w ops flags setting t settled (Ok came.Done) = settled ≡ Changes 0 (with_settings w ops flags)
IsSettled w ops flags setting t settled (Ok (came.Offers offers)) = settled ≡ Offers (goal_row setting t) (map (λ o. value_offer (setting_arity setting) (offer_tree o)) offers.items)
IsSettled w ops flags setting t settled (Err (fault.Raise ball)) = IsRefused settled ball
IsSettled w ops flags setting t settled (Err fault.Full) = ⊥
IsSettled w ops flags setting t settled (Err fault.NoMemory) = Unit {0}

-- nothing is changed where the goal has rows to offer
abbrev pub OnOffers : Result Came Fault → Type 0 → Type 0
OnOffers (Ok (came.Offers offers)) holds = holds
OnOffers result holds = Unit {0}

-- each row that is offered has so many constants
abbrev pub OffersEach : ℕ → Result Came Fault → Type 0
OffersEach n (Ok (came.Offers offers)) = All (λ offer. length offer.constants.items ≡ n) offers.items
OffersEach n result = Unit {0}

-- These are the operators once names are set, or this error is thrown.
abbrev pub AreSet : Result (List Operator) Tree → List Operator → Result Unit Fault → Type 0
AreSet set ops (Ok _) = set ≡ Ok ops
AreSet set ops (Err (fault.Raise ball)) = IsErrAnd set (λ error. IsError error ball)
AreSet set ops (Err fault.Full) = ⊥
AreSet set ops (Err fault.NoMemory) = Unit {0}

-- One name is set, and the next ones go on with these operators; or this error is thrown.
abbrev pub IsSet : ((List Operator → Result (List Operator) Tree) → Result (List Operator) Tree) → List Operator → Result Unit Fault → Type 0
IsSet set ops (Ok _) = (goes_on : List Operator → Result (List Operator) Tree) → set goes_on ≡ goes_on ops
IsSet set ops (Err (fault.Raise ball)) = (goes_on : List Operator → Result (List Operator) Tree) → IsErrAnd (set goes_on) (λ error. IsError error ball)
IsSet set ops (Err fault.Full) = ⊥
IsSet set ops (Err fault.NoMemory) = Unit {0}
