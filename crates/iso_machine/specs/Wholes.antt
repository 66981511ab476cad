-- All that stands, as what stood when so much was kept.
use Rattle.std.specs.Prelude.{◌≡◌, ℕ, List, length, Option}
use Rattle.std.proofs.Common.{le_refl, subst, sym, take_all}
use Rattle.iso_model.specs.Search.Walker.{Member}
use Rattle.iso_store_core.specs.Presents.{Present}
use Rattle.iso_frames.specs.declared.frames.Rest.{Rest}
use Rattle.iso_frames.specs.Frames.{Stack, Chain}
use Rattle.iso_environments.specs.Stacks.{stack}
use Rattle.iso_machine.specs.declared.framed.Framed.{Framed}
use Rattle.iso_machine.specs.Lists.{IsList, extent_of, stack_at, stack_of}

-- equal parts make equals
pub ap₃ : {A B C D : Type 0} (f : A → B → C → D) {a a' : A} {b b' : B} {c c' : C} → a ≡ a' → b ≡ b' → c ≡ c'
    → f a b c ≡ f a' b' c'
ap₃ f d e g = λ i. f (d i) (e i) (g i)

module _ {S W M : Type 0} where
  pub whole_stack : (l : Framed S W M) → stack_at l (extent_of l) ≡ stack_of l
  whole_stack l =
      let ns = l.nodes.items in
      let fs = l.frames.items in
      let ws = l.words.items in
      ap₃ stack (take_all (length ns) ns (le_refl (length ns))) (take_all (length fs) fs (le_refl (length fs)))
      (take_all (length ws) ws (le_refl (length ws)))

  module _ (atom_word : ℕ → W) where
    pub whole_chain : {p : Present W} (l : Framed S W M) {place : Option Rest} {ms : List Member}
        → IsList atom_word p l (extent_of l) place ms → Chain atom_word p (stack_of l) place ms
    whole_chain {p = p} l {place = place} {ms = ms} list =
        subst (λ (s : Stack W). Chain atom_word p s place ms) (whole_stack l) list

    pub whole_list : {p : Present W} (l : Framed S W M) {place : Option Rest} {ms : List Member}
        → Chain atom_word p (stack_of l) place ms → IsList atom_word p l (extent_of l) place ms
    whole_list {p = p} l {place = place} {ms = ms} chain =
        subst (λ (s : Stack W). Chain atom_word p s place ms) (sym (whole_stack l)) chain
