-- How many arguments goals of built-ins have.
use Rattle.std.specs.Prelude.{◌≡◌, ◌<◌, ℕ}
use Rattle.iso_model.specs.declared.built_ins.BuiltIn.{BuiltIn}
use Rattle.iso_model.specs.declared.built_ins.BuiltIn.TheVariants.{True, Fail, Call, Once, Not, Repeat, Catch, Throw, Halt, HaltWith, Findall, Bagof, Setof, Exists, Library, Setting, Storage, Text, Output, AtomPart}
use Rattle.iso_model.specs.Search.Library.{library_arity}
use Rattle.iso_model.specs.Search.Settings.{setting_arity}
use Rattle.iso_model.specs.Search.Storages.{storage_arity}
use Rattle.iso_model.specs.Search.AtomTexts.{text_arity}
use Rattle.iso_model.specs.Search.Outputs.{output_arity}
use Rattle.iso_model.specs.Search.AtomParts.{part_arity}

-- so many arguments has a goal of a built-in
abbrev pub HasArity : BuiltIn → ℕ → Type 0
HasArity True n = n ≡ 0
HasArity Fail n = n ≡ 0
HasArity Call n = (0 < n) × (n < 256)
HasArity Once n = n ≡ 1
HasArity Not n = n ≡ 1
HasArity Repeat n = n ≡ 0
HasArity Catch n = n ≡ 3
HasArity Throw n = n ≡ 1
HasArity Halt n = n ≡ 0
HasArity HaltWith n = n ≡ 1
HasArity Findall n = n ≡ 3
HasArity Bagof n = n ≡ 3
HasArity Setof n = n ≡ 3
HasArity Exists n = n ≡ 2
HasArity (Library row) n = n ≡ library_arity row
HasArity (Setting row) n = n ≡ setting_arity row
HasArity (Storage row) n = n ≡ storage_arity row
HasArity (Text row) n = n ≡ text_arity row
HasArity (Output row) n = n ≡ output_arity row
HasArity (AtomPart row) n = n ≡ part_arity row
