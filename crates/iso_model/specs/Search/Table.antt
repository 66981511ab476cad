-- The procedures of the language itself, by name and arity (ISO/IEC 13211-1:1995, 7.8 and 8).
use Rattle.std.specs.Prelude.{List, [], ◌∷◌, Bool, true, false, ◌||◌, Option, Some, None, codes, if◌then◌else◌}
use Rattle.iso_model.specs.Search.Keys.{Key, key, same_key}
use Rattle.iso_model.specs.declared.built_ins.BuiltIn.{BuiltIn}
use Rattle.iso_model.specs.declared.built_ins.BuiltIn.TheVariants.{True, Fail, Call, Once, Not, Repeat, Catch, Throw, Halt, HaltWith, Findall, Bagof, Setof, Exists, Library, Setting, Storage, Text, Output, AtomPart}
use Rattle.iso_model.specs.declared.kinds.Library.TheVariants as library
use Rattle.iso_model.specs.declared.kinds.Setting.TheVariants as setting
use Rattle.iso_model.specs.declared.kinds.Storage.TheVariants as storage
use Rattle.iso_model.specs.declared.kinds.Text.TheVariants as text
use Rattle.iso_model.specs.declared.kinds.Output.TheVariants as output
use Rattle.iso_model.specs.declared.kinds.AtomPart.TheVariants as part
use Rattle.iso_model.specs.declared.kinds.Comparison.TheVariants as comparison
use Rattle.iso_model.specs.declared.kinds.OrderTest.TheVariants as order
use Rattle.iso_model.specs.declared.kinds.TypeTest.TheVariants as test

-- the built-ins by name and arity
abbrev pub built_ins : List (Key × BuiltIn)
built_ins =
    (key (codes "true") 0, True) ∷ (key (codes "fail") 0, Fail) ∷ (key (codes "false") 0, Fail) ∷ (key (codes "repeat") 0, Repeat)
    ∷ (key (codes "call") 1, Call) ∷ (key (codes "call") 2, Call) ∷ (key (codes "call") 3, Call) ∷ (key (codes "call") 4, Call)
    ∷ (key (codes "call") 5, Call) ∷ (key (codes "call") 6, Call) ∷ (key (codes "call") 7, Call) ∷ (key (codes "call") 8, Call)
    ∷ (key (codes "catch") 3, Catch) ∷ (key (codes "throw") 1, Throw) ∷ (key (codes "halt") 0, Halt) ∷ (key (codes "halt") 1, HaltWith)
    ∷ (key (codes "once") 1, Once) ∷ (key (codes "\\+") 1, Not) ∷ (key (codes "findall") 3, Findall)
    ∷ (key (codes "bagof") 3, Bagof) ∷ (key (codes "setof") 3, Setof) ∷ (key (codes "^") 2, Exists)
    ∷ (key (codes "=") 2, Library library.Unify) ∷ (key (codes "\\=") 2, Library library.Differ)
    ∷ (key (codes "unify_with_occurs_check") 2, Library library.Unify)
    ∷ (key (codes "var") 1, Library (library.Test test.Var)) ∷ (key (codes "nonvar") 1, Library (library.Test test.Nonvar))
    ∷ (key (codes "atom") 1, Library (library.Test test.Atom)) ∷ (key (codes "integer") 1, Library (library.Test test.Integer))
    ∷ (key (codes "float") 1, Library (library.Test test.Float)) ∷ (key (codes "number") 1, Library (library.Test test.Number))
    ∷ (key (codes "atomic") 1, Library (library.Test test.Atomic)) ∷ (key (codes "compound") 1, Library (library.Test test.Compound))
    ∷ (key (codes "callable") 1, Library (library.Test test.Callable)) ∷ (key (codes "ground") 1, Library (library.Test test.Ground))
    ∷ (key (codes "is") 2, Library library.Is)
    ∷ (key (codes "=:=") 2, Library (library.Compare comparison.Equal)) ∷ (key (codes "=\\=") 2, Library (library.Compare comparison.Unequal))
    ∷ (key (codes "<") 2, Library (library.Compare comparison.Less)) ∷ (key (codes "=<") 2, Library (library.Compare comparison.AtMost))
    ∷ (key (codes ">") 2, Library (library.Compare comparison.Greater)) ∷ (key (codes ">=") 2, Library (library.Compare comparison.AtLeast))
    ∷ (key (codes "arg") 3, Library library.Arg) ∷ (key (codes "copy_term") 2, Library library.CopyTerm)
    ∷ (key (codes "functor") 3, Library library.Functor) ∷ (key (codes "=..") 2, Library library.Univ)
    ∷ (key (codes "term_variables") 2, Library library.TermVariables)
    ∷ (key (codes "==") 2, Library (library.Order order.Identical)) ∷ (key (codes "\\==") 2, Library (library.Order order.NotIdentical))
    ∷ (key (codes "@<") 2, Library (library.Order order.Before)) ∷ (key (codes "@=<") 2, Library (library.Order order.NotAfter))
    ∷ (key (codes "@>") 2, Library (library.Order order.After)) ∷ (key (codes "@>=") 2, Library (library.Order order.NotBefore))
    ∷ (key (codes "compare") 3, Library library.CompareTerms)
    ∷ (key (codes "sort") 2, Library library.Sort) ∷ (key (codes "keysort") 2, Library library.Keysort)
    ∷ (key (codes "op") 3, Setting setting.Op) ∷ (key (codes "current_op") 3, Setting setting.CurrentOp)
    ∷ (key (codes "set_prolog_flag") 2, Setting setting.SetFlag) ∷ (key (codes "current_prolog_flag") 2, Setting setting.CurrentFlag)
    ∷ (key (codes "asserta") 1, Storage storage.Asserta) ∷ (key (codes "assertz") 1, Storage storage.Assertz)
    ∷ (key (codes "clause") 2, Storage storage.Clause) ∷ (key (codes "retract") 1, Storage storage.Retract)
    ∷ (key (codes "retractall") 1, Storage storage.Retractall) ∷ (key (codes "abolish") 1, Storage storage.Abolish)
    ∷ (key (codes "dynamic") 1, Storage storage.Dynamic) ∷ (key (codes "multifile") 1, Storage storage.Multifile)
    ∷ (key (codes "discontiguous") 1, Storage storage.Discontiguous)
    ∷ (key (codes "atom_length") 2, Text text.AtomLength) ∷ (key (codes "atom_chars") 2, Text text.AtomChars)
    ∷ (key (codes "atom_codes") 2, Text text.AtomCodes) ∷ (key (codes "char_code") 2, Text text.CharCode)
    ∷ (key (codes "number_chars") 2, Text text.NumberChars) ∷ (key (codes "number_codes") 2, Text text.NumberCodes)
    ∷ (key (codes "atom_concat") 3, AtomPart part.Concat) ∷ (key (codes "sub_atom") 5, AtomPart part.Sub)
    ∷ (key (codes "put_char") 1, Output output.PutChar) ∷ (key (codes "nl") 0, Output output.NewLine)
    ∷ (key (codes "write") 1, Output output.Write) ∷ (key (codes "writeq") 1, Output output.Writeq)
    ∷ (key (codes "write_canonical") 1, Output output.WriteCanonical) ∷ []

abbrev pub built_in_among : List (Key × BuiltIn) → Key → Option BuiltIn
built_in_among [] k = None
built_in_among (e ∷ es) k = if same_key e.0 k then Some e.1 else built_in_among es k

-- the built-in of this name and arity, where there is one
abbrev pub built_in : Key → Option BuiltIn
built_in k = built_in_among built_ins k

abbrev pub is_some_built_in : Option BuiltIn → Bool
is_some_built_in None = false
is_some_built_in (Some b) = true

-- the control constructs that bodies are converted through: no goal is one
abbrev pub is_control : Key → Bool
is_control k = same_key (key (codes ",") 2) k || (same_key (key (codes ";") 2) k || (same_key (key (codes "->") 2) k || same_key (key (codes "!") 0) k))

-- whether this is the key of a built-in or of a control construct, which no clause may be added to
abbrev pub is_built_in : Key → Bool
is_built_in k = is_control k || is_some_built_in (built_in k)
