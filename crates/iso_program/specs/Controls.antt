-- The names of the control constructs as atoms.
use Rattle.std.specs.Prelude.{◌≡◌, ℕ, List, Some, codes}
use Rattle.std.specs.List.{slice_get}
use Rattle.iso_program.specs.declared.controls.Controls.{Controls}

-- Each is the atom of its name, where these are the names of the atoms.
pub record AreControls (names : List (List ℕ)) (c : Controls) : Type 0 where
  pub conjunction : slice_get names c.conjunction ≡ Some (codes ",")
  pub disjunction : slice_get names c.disjunction ≡ Some (codes ";")
  pub if_then : slice_get names c.if_then ≡ Some (codes "->")
  pub cut : slice_get names c.cut ≡ Some (codes "!")
  pub call : slice_get names c.call ≡ Some (codes "call")
