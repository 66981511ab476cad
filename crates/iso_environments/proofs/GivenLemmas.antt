-- Lists, where frames and words are given up.
use Rattle.std.proofs.Common.{◌≡◌, ◌≤◌, ℕ, suc, ◌+◌, List, take, Option, Some, None, sym, ap, ◌∙◌, subst, arith, take-take}
use Rattle.iso_model.specs.Search.Walker.{Member}
use Rattle.iso_store_core.specs.Presents.{Present}
use Rattle.iso_prep.specs.declared.bodies.Node.{Node}
use Rattle.iso_frames.specs.declared.frames.Rest.{Rest}
use Rattle.iso_frames.specs.declared.frames.Frame.{Frame}
use Rattle.iso_frames.specs.Frames.{Chain, IsBefore, top_of, depth_of}
use Rattle.iso_frames.proofs.ChainLemmas.{chain_given}
use Rattle.iso_environments.specs.Stacks.{stack}

depth_before : (n : ℕ) (place : Option Rest) → depth_of place ≤ n → IsBefore place n
depth_before n None enough = tt
depth_before n (Some r) enough = omega (arith, enough)

pub deep_some : (place : Option Rest) (r : Rest) → place ≡ Some r → r.frame + 1 ≡ depth_of place
deep_some place r is = (let same : suc r.frame ≡ depth_of place = ap depth_of (sym is) in omega (arith, same))

-- what is among the first ones stays
pub part_kept : {X : Type 0} (j n : ℕ) (old new : List X) → new ≡ take n old → j ≤ n → take j new ≡ take j old
part_kept {X = X} j n old new is less = ap (λ (xs : List X). take j xs) is ∙ take-take j n old less

module _ {W : Type 0} (atom_word : ℕ → W) {p : Present W} where
  pub given_list : (nodes : List (Node W)) (frames words : ℕ) {place : Option Rest} {ms : List Member}
      (old new : List Frame) (before after : List W) → new ≡ take frames old → after ≡ take words before
      → depth_of place ≤ frames → top_of old place ≤ words → Chain atom_word p (stack nodes old before) place ms
      → Chain atom_word p (stack nodes new after) place ms
  given_list nodes frames words {place = place} {ms = ms} old new before after news afters deep high list =
      let there = chain_given atom_word (stack nodes old before) frames words (depth_before frames place deep) high list in
      subst (λ (ws : List W). Chain atom_word p (stack nodes new ws) place ms) (sym afters)
      (subst (λ (gs : List Frame). Chain atom_word p (stack nodes gs (take words before)) place ms) (sym news) there)
