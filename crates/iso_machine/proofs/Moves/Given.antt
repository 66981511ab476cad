-- Frames and words that are given up: what choices keep, and the list behind a goal, stand.
use Rattle.std.proofs.Common.{◌≡◌, ◌≤◌, ◌-◌, ◌⊎◌, inl, inr, ℕ, List, [], ◌∷◌, ◌++◌, length, take, Option, Some, None, sym, ap, ◌∙◌, subst, arith, le_refl, length-take}
use Rattle.std.specs.List.{slice_get}
use Rattle.std.proofs.lemmas.Bool.Decides.{leb_tells}
use Rattle.std.proofs.lemmas.List.{take_all}
use Rattle.iso_model.specs.Search.Walker.{State, Alternative}
use Rattle.iso_store_core.specs.Presents.{Present}
use Rattle.iso_store_core.specs.declared.stores.Store.{Ghosts}
use Rattle.iso_program.specs.Leaving.{Leaving}
use Rattle.iso_search_core.specs.Standing.{Among, StandsForChoices, none_kept, one_kept}
use Rattle.iso_search_core.specs.declared.choices.Choice as kept
use Rattle.iso_search_core.proofs.CostLemmas.{choices_cost_on}
use Rattle.iso_search_core.proofs.StandingLemmas.{choices_on, length_last, last_is}
use Rattle.iso_search.specs.EngineStates.{IsAhead, kept_cost}
use Rattle.iso_search_core.specs.Fitting.{FitsState}
use Rattle.iso_frames.specs.declared.frames.Frame.{Frame}
use Rattle.iso_frames.specs.declared.frames.Rest.{Rest}
use Rattle.iso_frames.specs.Frames.{IsBefore, IsPlace}
use Rattle.iso_machine.specs.declared.framed.Extent.{Extent}
use Rattle.iso_machine.specs.declared.framed.KeptCall.{KeptCall}
use Rattle.iso_machine.specs.declared.framed.Framed.{Framed}
use Rattle.iso_machine.specs.Engines.{Engine, framed}
use Rattle.iso_machine.specs.Lists.{IsList, IsNoMore, IsWithin, KeepsFrames, extent_of, pending_at}
use Rattle.iso_machine.specs.Newest.{frames_kept, frames_of, words_kept, words_of}
use Rattle.iso_machine.proofs.FrameLemmas.{taken_keeps}

pub place_stands : (frames : List Frame) (place : Option Rest) → IsBefore place (length frames) → IsPlace frames place
place_stands frames None before = tt
place_stands frames (Some r) before = before

-- the first ones are as many as they are
taken_self : {X : Type 0} (n : ℕ) (xs ys : List X) → xs ≡ take n ys → xs ≡ take (length xs) ys
taken_self {X = X} n xs ys is = elim (leb_tells n (length ys)) [
  | inl less ↦ (
      let a = ap length is in
      let b = length-take n ys in
      let c = less.1 in
      let long : length xs ≡ n = omega (arith, a, b, c) in
      is ∙ ap (λ (m : ℕ). take m ys) (sym long))
  | inr more ↦ (
      let all : xs ≡ ys = is ∙ take_all n ys (let c = more.1 in omega (arith, c)) in
      all ∙ sym (ap (λ (m : ℕ). take m ys) (ap length all) ∙ take_all (length ys) ys (le_refl (length ys))))
]

among_end : {X : Type 0} (x : X) (xs : List X) (y : X) → Among x (xs ++ y ∷ []) → Among x xs ⊎ (x ≡ y)
among_end x [] y (inl e) = inr e
among_end x [] y (inr h) = absurd h
among_end x (z ∷ xs) y (inl e) = inl (inl e)
among_end x (z ∷ xs) y (inr h) = elim (among_end x xs y h) [
  | inl a ↦ inl (inr a)
  | inr e ↦ inr e
]

-- of so many frames and words no more are kept
abbrev pub KeepsFew : ℕ → ℕ → Extent → Type 0
KeepsFew frames words j = (j.frames ≤ frames) × (j.words ≤ words)

module _ {W M : Type 0} where
  -- what is said of the newest choice is what it keeps
  pub newest_keeps : (cs : List (kept.Choice W M Extent (Option Rest) KeptCall)) (frames words : ℕ)
      → frames ≡ frames_kept cs → words ≡ words_kept cs → (c : kept.Choice W M Extent (Option Rest) KeptCall)
      → slice_get cs (length cs - 1) ≡ Some c → (frames ≡ c.kept.frames) × (words ≡ c.kept.words)
  newest_keeps cs frames words many wide c last = (many ∙ ap frames_of last, wide ∙ ap words_of last)

module _ {S W M : Type 0} (atom_word : ℕ → W) where
  -- the frames and words that are kept stand
  pub given_keeps : (old new : Framed S W M) (frames words n m : ℕ) → new.nodes ≡ old.nodes
      → new.frames.items ≡ take n old.frames.items → new.words.items ≡ take m old.words.items → frames ≤ n → words ≤ m
      → KeepsFrames atom_word (KeepsFew frames words) old new
  given_keeps old new frames words n m nodes front below fewer less =
      let same = ap (λ (v : _). v.items) nodes in
      let long = ap length front ∙ length-take n old.frames.items in
      let wide = ap length below ∙ length-take m old.words.items in
      let many = ap length same in
      let within : IsNoMore (extent_of new) (extent_of old) = record {
        nodes = omega (arith, many);
        frames = omega (arith, long);
        words = omega (arith, wide);
      } in
      let all = taken_keeps atom_word old new (extent_of new) within
      (same ∙ sym (ap (λ (k : ℕ). take k old.nodes.items) many
      ∙ take_all (length old.nodes.items) old.nodes.items (le_refl (length old.nodes.items))))
      (taken_self n new.frames.items old.frames.items front) (taken_self m new.words.items old.words.items below) in
      let kept : (j : Extent) → KeepsFew frames words j → IsWithin old j → IsNoMore j (extent_of new) = λ j few on.
      record {
        nodes = (let a = on.nodes in omega (arith, a, many));
        frames = (let a = on.frames in let b = few.0 in omega (arith, a, b, long, fewer));
        words = (let a = on.words in let b = few.1 in omega (arith, a, b, wide, less));
      } in
      record {
        stands = λ j few on. all.stands j (kept j few on) on;
        lists = λ p j i ms few on list. all.lists p j i ms (kept j few on) on list;
        calls = λ p j c t few on is. all.calls p j c t (kept j few on) on is;
        costs = λ p j i ms few on list. all.costs p j i ms (kept j few on) on list;
        pendings = λ p j i ms few on list. all.pendings p j i ms (kept j few on) on list;
      }

  -- no choice keeps more than the newest
  pub newest_most : {stands : M → Present W → Type 0} {older : M → M → Type 0} {base : M} {leaves : Leaving}
      {query : List W} {named : List ℕ} {fitting : Present W → ℕ → Alternative → Type 0} {l : Framed S W M}
      {cs : List (kept.Choice W M Extent (Option Rest) KeptCall)} {ks : List Alternative} (frames words : ℕ)
      → ((c : kept.Choice W M Extent (Option Rest) KeptCall) → slice_get cs (length cs - 1) ≡ Some c
      → (frames ≡ c.kept.frames) × (words ≡ c.kept.words))
      → StandsForChoices (framed {S = S} {M = M} atom_word) stands older base leaves query named fitting l cs ks
      → (d : kept.Choice W M Extent (Option Rest) KeptCall) → Among d cs → KeepsFew frames words d.kept
  newest_most frames words newest none_kept d among = absurd among
  newest_most {cs = cs} frames words newest (one_kept {before = before} {c = c} is on here newer below) d among =
      let place : length before ≡ length cs - 1 =
      (let a = ap length is in let b = length_last before c in omega (arith, a, b)) in
      let last : slice_get cs (length cs - 1) ≡ Some c =
      ap (λ (n : ℕ). slice_get cs n) (sym place)
      ∙ (ap (λ (ds : List _). slice_get ds (length before)) is ∙ last_is before c) in
      let most = newest c last in
      elim (among_end d before c (subst (λ (ds : List _). Among d ds) is among)) [
        | inl front ↦ (
            let less = (newer d front).1 in
            let f = less.frames in let w = less.words in let a = most.0 in let b = most.1 in
            (omega (arith, f, a), omega (arith, w, b)))
        | inr same ↦ (
            let f = ap (λ (x : kept.Choice W M Extent (Option Rest) KeptCall). x.kept.frames) same in
            let w = ap (λ (x : kept.Choice W M Extent (Option Rest) KeptCall). x.kept.words) same in
            let a = most.0 in let b = most.1 in
            (omega (arith, f, a), omega (arith, w, b)))
      ]

  module _ (g : Ghosts S W M) (e : Engine S W M) (s : State) (place : Option Rest) (new : Framed S W M)
      (h : IsAhead g (framed atom_word) e s place) (frames words : ℕ)
      (keeps : KeepsFrames atom_word (KeepsFew frames words) e.lists new)
      (each : (d : kept.Choice W M Extent (Option Rest) KeptCall) → Among d e.choices.items
      → KeepsFew frames words d.kept) where
    pub given_ahead : IsList atom_word (g.present e.store) new (extent_of new) place s.list
        → pending_at new place ≡ pending_at e.lists place
        → IsAhead g (framed atom_word) (record e { lists = new }) s place
    given_ahead list same = record {
      world = h.world;
      steps = h.steps;
      base = h.base;
      choices = choices_on (framed atom_word) keeps each (λ d p among stood. stood) (λ number later cs left. left)
          h.choices;
      room = h.room;
      fits = subst (λ (n : ℕ). FitsState g (g.present e.store) n s) (sym same) h.fits;
      goes = h.goes;
      chain = list;
    }

    pub given_cost : kept_cost (framed atom_word) (record e { lists = new }) ≡ kept_cost (framed atom_word) e
    given_cost = choices_cost_on (framed atom_word) keeps each h.choices
