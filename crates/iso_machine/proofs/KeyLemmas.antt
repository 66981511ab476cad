-- The code of a clause has the name and the arity of its head.
use Rattle.std.proofs.Common.{◌≡◌, ◌≢◌, ◌<◌, ℕ, List, [], Some, length, ap, sym, ap₂, ◌∙◌}
use Rattle.std.proofs.lemmas.Option.{slice_get-get_or, slice_get_within}
use Rattle.iso_atoms.specs.Texts.{EachOnce, text_at}
use Rattle.iso_model.specs.Search.Databases as databases
use Rattle.iso_model.specs.Search.Keys.{key, key_of}
use Rattle.iso_store_core.proofs.AtomLemmas.{text-is}
use Rattle.iso_clause_code.specs.Keeping.{KeepsCode}
use Rattle.iso_instructions.specs.declared.instructions.Code.{Code}
use Rattle.iso_machine.proofs.GoalLemmas.{arity_is, name_is}

module _ {names : List (List ℕ)} {code : Code} {c : databases.Clause} (k : KeepsCode names code c) where
  -- the name is one of the names
  pub name_known : code.name < length names
  name_known = slice_get_within names code.name k.name.text k.name.named

  -- the key of the head
  pub code_key : key_of c.head ≡ Some (key (text_at names code.name) code.arity)
  code_key =
      k.name.key
      ∙ ap₂ (λ (f : List ℕ) (n : ℕ). Some (key f n)) (sym (text-is names code.name k.name.text k.name.named))
      (sym k.arity)

  -- so where the code has this name, and so many arguments
  pub called_key : (n count : ℕ) → code.name ≡ n → code.arity ≡ count
      → key_of c.head ≡ Some (key (text_at names n) count)
  called_key n count name arity =
      code_key ∙ ap₂ (λ (m : ℕ) (j : ℕ). Some (key (text_at names m) j)) name arity

  -- another name has another text
  pub other_key : EachOnce names → (n count : ℕ) → n < length names → (code.name ≡ n → code.arity ≢ count)
      → key_of c.head ≢ Some (key (text_at names n) count)
  other_key once n count there other is =
      let same = sym code_key ∙ is in
      let text = text_at names n in
      other (once.one_place code.name n text
      (slice_get-get_or names code.name [] name_known ∙ ap Some (name_is same))
      (slice_get-get_or names n [] there)) (arity_is same)
