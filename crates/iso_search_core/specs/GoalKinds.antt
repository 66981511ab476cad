-- Which goals are of built-ins, and which of user procedures.
use Rattle.std.specs.Prelude.{◌≡◌, Some, None}
use Rattle.iso_model.specs.Terms.Trees.{Tree}
use Rattle.iso_model.specs.Search.Databases.{Key, key_of}
use Rattle.iso_model.specs.Search.BuiltIns.{built_in}
use Rattle.iso_model.specs.declared.built_ins.BuiltIn.{BuiltIn}

-- The goal is one of this built-in.
pub record IsBuiltIn (t : Tree) (b : BuiltIn) : Type 0 where
  pub key : Key
  pub named : key_of t ≡ Some key
  pub found : built_in key ≡ Some b

-- The goal is one of a user procedure with this key.
pub record IsUser (t : Tree) (key : Key) : Type 0 where
  pub named : key_of t ≡ Some key
  pub none : built_in key ≡ None
