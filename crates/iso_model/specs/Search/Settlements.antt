-- What goals come to that read or change what outlives a run (ISO/IEC 13211-1:1995, 8.8, 8.9, 8.14.3, 8.14.4, 8.17.1,
-- 8.17.2).
use Rattle.std.specs.Prelude.{ℕ, List, Option, None}
use Rattle.iso_model.specs.Terms.Trees.{Tree}
use Rattle.iso_model.specs.Search.Databases.{Key}
use Rattle.iso_model.specs.Search.Worlds.{World}

-- a clause of the database: its procedure, and its number
pub record Reference : Type 0 where
  pub procedure : Key
  pub number : ℕ

-- A row of terms that is offered: its variables are 0, 1, .. up to this count, and so much is made for it (own).
-- Where it is taken this clause is removed; and it is offered only while that clause is there.
pub record Offer : Type 0 where
  pub right : Tree
  pub variables : ℕ
  pub made : ℕ
  pub removes : Option Reference

-- a row without variables, which removes nothing
abbrev pub constant_offer : ℕ → Tree → Offer
constant_offer made right = record { right = right; variables = 0; made = made; removes = None }

-- An error is thrown. Or it succeeds, so much is made for it (own), and the world is this one from then on. Or the
-- left row of terms is unified with each of the right ones, which are tried in order.
pub data Settled : Type 0 where
  Refuses : (error : Tree) → Settled
  Changes : (made : ℕ) → (after : World) → Settled
  Offers : (left : Tree) → (rights : List Offer) → Settled
