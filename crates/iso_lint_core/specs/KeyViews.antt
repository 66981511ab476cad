-- What clauses see of keys.
use Rattle.std.specs.Prelude.{List, map}
use Rattle.iso_model.specs.Search.Keys as model
use Rattle.iso_lint_core.specs.declared.keys.Key.{Key}

-- the procedure that a Rust key names
abbrev pub key_view : Key → model.Key
key_view k = model.key k.name.now k.arity

abbrev pub keys_view : List Key → List model.Key
keys_view ks = map key_view ks
