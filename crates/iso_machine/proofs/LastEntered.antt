-- A clause that was entered and has no frame: the frame that would be its own, and the engine that has it.
use Rattle.std.proofs.Common.{◌≡◌, ◌≤◌, ◌<◌, ◌+◌, ◌-◌, ℕ, List, [], ◌∷◌, ◌++◌, length, Option, Some, None, refl, sym, ap, ◌∙◌, arith, Vec, Global}
use Rattle.std.specs.List.{slice_get}
use Rattle.iso_model.specs.Search.Walker.{State, Alternative}
use Rattle.iso_store_core.specs.Presents.{Present}
use Rattle.iso_store_core.specs.declared.stores.Store.{Ghosts}
use Rattle.iso_db.specs.Presents.{Stands}
use Rattle.iso_plain_core.specs.Entering.{Adds}
use Rattle.iso_program.specs.Leaving.{Leaving}
use Rattle.iso_search_core.specs.Bodies.{body_cost, most}
use Rattle.iso_search_core.specs.Standing.{StandsForChoices, none_kept, one_kept}
use Rattle.iso_search_core.specs.declared.choices.Choice as kept
use Rattle.iso_search_core.proofs.StandingLemmas.{last_is, length_last}
use Rattle.iso_search.specs.EngineStates.{IsAhead, cost, kept_cost}
use Rattle.iso_search.proofs.Moves.Body.{grown_cost}
use Rattle.iso_frames.specs.Costs.{cost_of}
use Rattle.iso_frames.specs.Frames.{IsBefore, depth_of}
use Rattle.iso_frames.specs.declared.frames.Frame.{Frame}
use Rattle.iso_frames.specs.declared.frames.Rest.{Rest}
use Rattle.iso_frames.specs.declared.frames.Work.TheVariants.{Clause}
use Rattle.iso_frames.proofs.ChainLemmas.{chain_place}
use Rattle.iso_machine.specs.declared.framed.Extent.{Extent}
use Rattle.iso_machine.specs.declared.framed.KeptCall.{KeptCall}
use Rattle.iso_machine.specs.declared.framed.Framed.{Framed}
use Rattle.iso_machine.specs.Engines.{Engine, EngineClause, framed}
use Rattle.iso_machine.specs.LastCalls.{CallsAlone, HasFrame, IsUnframed, place_of, with_frame, with_frames}
use Rattle.iso_machine.specs.Lists.{KeepsFrames, cost_at}
use Rattle.iso_machine.specs.Wholes.{whole_chain}
use Rattle.iso_machine.proofs.FrameLemmas.{adds_keeps, adds_same}
use Rattle.iso_machine.proofs.LastFrames.{frames_with, last_cost, last_front, last_there, with_items}

-- How many frames and words the newest choice keeps; so many frames stand.
pub record NewestKeeps {S W M : Type 0} (l : Framed S W M) (cs : List (kept.Choice W M Extent (Option Rest) KeptCall))
    : Type 0 where
  pub frames : ℕ
  pub words : ℕ
  pub newest : (c : kept.Choice W M Extent (Option Rest) KeptCall) → slice_get cs (length cs - 1) ≡ Some c
      → (frames ≡ c.kept.frames) × (words ≡ c.kept.words)
  pub stand : frames ≤ length l.frames.items

newest_keeps : {S W M : Type 0} {atom_word : ℕ → W} {stands : M → Present W → Type 0} {older : M → M → Type 0}
    {base : M} {leaves : Leaving} {query : List W} {named : List ℕ} {fitting : Present W → ℕ → Alternative → Type 0}
    {l : Framed S W M} {cs : List (kept.Choice W M Extent (Option Rest) KeptCall)} {ks : List Alternative}
    → StandsForChoices (framed {S = S} {M = M} atom_word) stands older base leaves query named fitting l cs ks
    → NewestKeeps l cs
newest_keeps none_kept = record { frames = 0; words = 0; newest = λ c is. absurd (cc); stand = omega arith }
newest_keeps {W = W} {M = M} {cs = cs} (one_kept {before = before} {c = c} is on here newer below) =
    let place : length before ≡ length cs - 1 =
    (let a = ap length is in let b = length_last before c in omega (arith, a, b)) in
    let last : slice_get cs (length cs - 1) ≡ Some c =
    ap (λ (n : ℕ). slice_get cs n) (sym place)
    ∙ (ap (λ (ds : List _). slice_get ds (length before)) is ∙ last_is before c) in
    record {
      frames = c.kept.frames;
      words = c.kept.words;
      newest = λ d there.
          (let both : Some c ≡ Some d = sym last ∙ there in
          let same : c ≡ d = cc in (
            ap (λ (x : kept.Choice W M Extent (Option Rest) KeptCall). x.kept.frames) same,
            ap (λ (x : kept.Choice W M Extent (Option Rest) KeptCall). x.kept.words) same,
          ));
      stand = on.frames;
    }

-- a place before so many frames is no deeper
deep_before : (place : Option Rest) (n : ℕ) → IsBefore place n → depth_of place ≤ n
deep_before None n before = omega arith
deep_before (Some r) n before = omega (arith, before)

module _ {S W M : Type 0} (g : Ghosts S W M) (atom_word : ℕ → W) (e : Engine S W M) (store : S) (held : Framed S W M)
    (clause : ℕ) (value : EngineClause S W M) (mark : ℕ) (rest : Option Rest) (stands : Stands e.db clause value)
    (alone : CallsAlone value.own.kept.value) (same : held.frames ≡ e.lists.frames)
    (few : length held.frames.items + 1 < 9223372036854775808) where
  -- the frame that the clause would have
  abbrev own_frame : Frame
  own_frame = record {
    work = Clause value.own.kept None;
    height = mark;
    top = length held.words.items;
    behind = rest;
  }

  -- the frames, with this one
  pub frames_last : Vec Frame Global
  frames_last = frames_with held.frames own_frame few

  pub has_last : HasFrame held frames_last value.own.kept mark rest
  unfolding frames_last
  has_last = with_items held.frames own_frame few

  abbrev pub entered_last : Engine S W M
  entered_last = record e { store = store; lists = held }

  -- the lists keep what they had
  pub last_grows : held.nodes ≡ e.lists.nodes → Adds e.lists.words.items held.words.items
      → KeepsFrames atom_word (λ j. Unit {0}) e.lists (with_frames held frames_last)
  last_grows nodes words =
      adds_keeps atom_word e.lists (with_frames held frames_last) (adds_same nodes)
      (own_frame ∷ [], has_last ∙ ap (λ (v : Vec Frame Global). v.items ++ own_frame ∷ []) same) words

  module _ (s : State) (ahead : IsAhead g (framed atom_word) e s rest) where
    -- the engine lacks only this frame
    pub last_unframed : IsUnframed entered_last frames_last (place_of held) clause rest
    last_unframed =
        let newest = newest_keeps ahead.choices in
        let stand = newest.stand in
        let long = ap (λ (v : Vec Frame Global). length v.items) same in
        let before =
        deep_before rest (length e.lists.frames.items) (chain_place atom_word (whole_chain atom_word e.lists ahead.chain)) in
        record {
          goal = alone.goal;
          value = value;
          stands = stands;
          place = refl;
          last = last_there held frames_last value.own.kept mark rest has_last alone;
          front = last_front held frames_last value.own.kept mark rest has_last;
          kept_frames = newest.frames;
          kept_words = newest.words;
          newest = newest.newest;
          few = omega (arith, stand, long);
          before = omega (arith, before, long);
        }

    -- what is to be done of it
    pub last_costs : held.nodes ≡ e.lists.nodes → Adds e.lists.words.items held.words.items
        → cost (framed atom_word) (with_frame entered_last frames_last (place_of held))
        ≤ kept_cost (framed atom_word) e + body_cost most (cost_at e.lists rest)
    last_costs nodes words =
        let kept = grown_cost g (framed atom_word) e s rest (with_frames held frames_last) ahead
        (last_grows nodes words) in
        let own = last_cost held frames_last value.own.kept mark rest has_last alone in
        let behind = ap (λ (v : Vec Frame Global). body_cost most (cost_of v.items rest)) same in
        omega (arith, kept, own, behind)
