-- What is left of a clause's body at an address of its code, as members of the search's list.
use Rattle.std.specs.Prelude.{◌≡◌, ◌≢◌, ◌<◌, ℕ, List, [], ◌∷◌, length, Some}
use Rattle.std.specs.List.{All, AllZip, slice_get}
use Rattle.iso_atoms.specs.Texts.{text_at}
use Rattle.iso_model.specs.Terms.Trees.{Name}
use Rattle.iso_model.specs.Terms.Substitutions.{Subst}
use Rattle.iso_model.specs.Search.Bodies.{map_body}
use Rattle.iso_model.specs.Search.Walker as walker
use Rattle.iso_store_core.specs.Presents.{Present, Holds}
use Rattle.iso_prep.specs.Classes.{goals_of}
use Rattle.iso_alloc.specs.Plans.{Layout}
use Rattle.iso_compile.specs.Control.{Member, Goal, CutTo, height, Continues}
use Rattle.iso_compile.specs.declared.control.Instruction as compiled
use Rattle.iso_program.specs.Kept.{AreTemplates}
use Rattle.iso_search_core.specs.Words.{word_terms}
use Rattle.iso_instructions.specs.declared.instructions.Code.{Code}
use Rattle.iso_instructions.specs.declared.instructions.Instruction.TheVariants.{Proceed, Jump}
use Rattle.iso_bodies.specs.Instructions.{IsLoadedInstruction}

-- the members of the search's list, where the clause's variables have these terms, the clause was called at this height
-- and slots keep these
abbrev pub placed : Subst → ℕ → (ℕ → ℕ) → List Member → List walker.Member
placed s called kept [] = []
placed s called kept (Goal b m ∷ ms) = walker.Goal (map_body s b) (height called kept m) ∷ placed s called kept ms
placed s called kept (CutTo m ∷ ms) = walker.CutTo (height called kept m) ∷ placed s called kept ms

-- The goals of the members can be made, and their variables are of so many.
abbrev pub FitMembers : ℕ → List Member → Type 0
FitMembers count [] = Unit {0}
FitMembers count (Goal b m ∷ ms) = AreTemplates count (goals_of b) × FitMembers count ms
FitMembers count (CutTo m ∷ ms) = FitMembers count ms

-- what a body was compiled to, and the names that its atoms had when it was loaded
pub record IsBody : Type 0 where
  pub names : List (List ℕ)
  pub plan : Layout
  pub body : List compiled.Instruction

-- From this address on the code, which was loaded for this body, does what these members are.
pub record Remains (b : IsBody) (code : Code) (address : ℕ) (ms : List Member) : Type 0 where
  pub loaded : AllZip (IsLoadedInstruction b.names b.plan.registers) b.body code.body.items
  pub continues : Continues b.plan b.body address ms
  pub fit : FitMembers code.variables ms

-- there is an instruction that does something
pub record Stops (code : Code) (address : ℕ) : Type 0 where
  pub inside : address < length code.body.items
  pub proceed : slice_get code.body.items address ≢ Some Proceed
  pub jump : (l : ℕ) → slice_get code.body.items address ≢ Some (Jump l)

module _ {W : Type 0} (atom_word : ℕ → W) where
  -- the word of each atom that has one of these names stands for it
  abbrev pub Knows : Present W → List (List ℕ) → Type 0
  Knows p names = (n : ℕ) → n < length names → Holds p (atom_word n) × (p.term (atom_word n) ≡ Name (text_at names n))

  -- What is left of a body whose clause has these words for its variables, and was called at this height, where slots
  -- keep these: these members.
  pub record Left (p : Present W) (code : Code) (words : List W) (called : ℕ) (kept : ℕ → ℕ) (address : ℕ)
      (ms : List walker.Member) : Type 0 where
    pub body : IsBody
    pub left : List Member
    pub known : Knows p body.names
    pub remains : Remains body code address left
    pub many : length words ≡ code.variables
    pub hold : All (Holds p) words
    pub are : ms ≡ placed (word_terms p words) called kept left
