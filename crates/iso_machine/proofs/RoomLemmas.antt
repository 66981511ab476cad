-- What is counted of lists and of choices, to see whether a frame and a choice may come.
use Rattle.std.proofs.Common.{◌≡◌, ◌≤◌, ◌+◌, ◌-◌, ◌/◌, ℕ, zero, suc, List, [], ◌∷◌, length, take, get_or, Bool, true, false, Option, Some, None, refl, sym, ap, ◌∙◌, subst, arith, if◌then◌else◌, take_all, length-take-le, take-take}
use Rattle.std.specs.List.{slice_get}
use Rattle.std.specs.Prelude.{is_some}
use Rattle.std.proofs.lemmas.Option.{slice_get_within}
use Rattle.iso_model.specs.Terms.Trees.{Tree}
use Rattle.iso_model.specs.Terms.Variables.{variables}
use Rattle.iso_model.specs.Search.Clashes.{may_enter}
use Rattle.iso_model.specs.Search.RunLaws.Spans.{counts, stack_span}
use Rattle.iso_model.specs.Search.Walker.{query_size, Alternative, Member}
use Rattle.iso_store_core.specs.Presents.{Present}
use Rattle.iso_store_core.specs.declared.stores.Store.{Ghosts}
use Rattle.iso_search_core.specs.Fitting.{FitsLeft}
use Rattle.iso_search_core.specs.Standing.{StandsForChoice, StandsForChoices, none_kept, one_kept}
use Rattle.iso_search_core.specs.declared.choices.Choice as kept
use Rattle.iso_search_core.proofs.StandingLemmas.{choices_length, newest}
use Rattle.iso_frames.specs.declared.frames.Rest.{Rest}
use Rattle.iso_frames.specs.declared.frames.Next.{Next}
use Rattle.iso_frames.specs.declared.frames.Frame.{Frame}
use Rattle.iso_search.specs.EngineStates.{HasChoices, leaves_of}
use Rattle.iso_search.proofs.OverLemmas.{all_count}
use Rattle.iso_machine.specs.declared.framed.Extent.{Extent}
use Rattle.iso_machine.specs.declared.framed.KeptCall.{KeptCall}
use Rattle.iso_machine.specs.declared.framed.Framed.{Framed}
use Rattle.iso_machine.specs.Engines.{Engine, IsBeyond, framed}
use Rattle.iso_machine.specs.Firsts.{IsFirstOf}
use Rattle.iso_machine.specs.Lists.{IsList, IsWithin, extent_of, list_more}
use Rattle.iso_machine.proofs.FrameLemmas.{frame_behind, frame_longer}

-- ---- the members of a list

module _ {S W M : Type 0} (atom_word : ℕ → W) (l : Framed S W M) where
  -- So many members of the list from the first place on are counted; those from the second place on are left.
  pub record Counted (start place : Option Rest) (count : ℕ) : Type 0 where
    pub left : (p : Present W) (ms : List Member) → IsList atom_word p l (extent_of l) start ms
        → (ns : List Member) × IsList atom_word p l (extent_of l) place ns × (count + length ns ≤ length ms)

  pub counted_none : (place : Option Rest) → Counted place place 0
  counted_none place = record { left = λ p ms list. (ms, list, omega arith) }

  pub counted_all : {start place : Option Rest} {count : ℕ} → Counted start place count → (p : Present W)
      (ms : List Member) → IsList atom_word p l (extent_of l) start ms → count ≤ length ms
  counted_all c p ms list = (let rest = c.left p ms list in let all = rest.2 in omega (arith, all))

  -- at this frame
  module _ {start place : Option Rest} {count : ℕ} (r : Rest) (is : place ≡ Some r) (c : Counted start place count)
    where
      pub counted_list : (p : Present W) (ms : List Member) → IsList atom_word p l (extent_of l) start ms
          → (ns : List Member) × IsList atom_word p l (extent_of l) (Some r) ns × (count + length ns ≤ length ms)
      counted_list p ms list =
          let rest = c.left p ms list in
          (rest.0, subst (λ (i : Option Rest). IsList atom_word p l (extent_of l) i rest.0) is rest.1, rest.2)

      module _ (f : Frame) (same : f ≡ get_or l.frames.items r.frame f) where
        -- nothing of it is left
        pub counted_passed : (first : Option (Next W)) → IsFirstOf f r f.work first → is_some first ≡ false
            → Counted start f.behind count
        counted_passed None is none = record {
          left = λ p ms list.
              (let here = counted_list p ms list in
              (here.0, frame_behind atom_word l here.1 f same is, here.2));
        }
        counted_passed (Some n) is none = absurd (cc)

        -- something is left of it
        pub counted_more : (first : Option (Next W)) → IsFirstOf f r f.work first → is_some first ≡ true
            → Counted start f.behind (count + 1)
        counted_more None is some = absurd (cc)
        counted_more (Some n) is some = record {
          left = λ p ms list.
              (let here = counted_list p ms list in
              let on = frame_longer atom_word l here.1 f same n is in
              let fewer = on.2 in
              let all = here.2 in
              (on.0, on.1, omega (arith, fewer, all)));
        }

-- ---- items up to one of a list

there_taken : {X : Type 0} (xs : List X) (i : ℕ) (x : X) → slice_get xs i ≡ Some x
    → slice_get (take (suc i) xs) i ≡ Some x
there_taken [] i x is = absurd (cc)
there_taken (y ∷ ys) zero x is = is
there_taken (y ∷ ys) (suc i) x is = there_taken ys i x is

module _ {X : Type 0} (xs : List X) (i : ℕ) (x : X) (there : slice_get xs i ≡ Some x) where
  last_place : length (take (suc i) xs) - 1 ≡ i
  last_place =
      let within = slice_get_within xs i x there in
      let long = length-take-le (suc i) xs (omega (arith, within)) in
      omega (arith, long)

  newest_there : slice_get (take (suc i) xs) (length (take (suc i) xs) - 1) ≡ Some x
  newest_there =
      subst (λ (n : ℕ). slice_get (take (suc i) xs) n ≡ Some x) (sym last_place) (there_taken xs i x there)

  below_newest : take (length (take (suc i) xs) - 1) (take (suc i) xs) ≡ take i xs
  below_newest = ap (λ (n : ℕ). take n (take (suc i) xs)) last_place ∙ take-take i (suc i) xs (omega arith)

-- ---- what alternatives span

-- one that spans something counts
counts_all : (b : Bool) (n : ℕ) → 1 ≤ (if b then 1 + n else 0) + 0 → 1 + n ≤ (if b then 1 + n else 0)
counts_all true n some = omega arith
counts_all false n some = absurd (omega arith)

module _ {S W M : Type 0} (g : Ghosts S W M) (atom_word : ℕ → W) (e : Engine S W M) where
  abbrev OneStands : Tree → kept.Choice W M Extent (Option Rest) KeptCall → Alternative → Type 0
  OneStands query c a =
      StandsForChoice (framed atom_word) (g.stands e.store) g.older e.base (leaves_of g (framed atom_word) e)
      e.query.items (variables query) (FitsLeft g (query_size query)) e.lists c a

  abbrev Stand : Tree → List (kept.Choice W M Extent (Option Rest) KeptCall) → List Alternative → Type 0
  Stand query cs ks =
      StandsForChoices (framed atom_word) (g.stands e.store) g.older e.base (leaves_of g (framed atom_word) e)
      e.query.items (variables query) (FitsLeft g (query_size query)) e.lists cs ks

  -- that of a choice spans its list, and one more
  choice_span : (query : Tree) (c : kept.Choice W M Extent (Option Rest) KeptCall) (a : Alternative)
      → IsWithin e.lists c.kept → OneStands query c a
      → 1 + length a.list ≤ (if counts may_enter a.left then 1 + length a.list else 0)
  choice_span query c a within here =
      let alone : Stand query (c ∷ []) (a ∷ []) = one_kept refl within here (λ d among. absurd among) none_kept in
      counts_all (counts may_enter a.left) (length a.list) (all_count g (framed atom_word) e query alone)

  -- as many choices as there may be
  pub choices_beyond : (place : Option Rest) → e.limit ≤ length e.choices.items → IsBeyond g atom_word e place
  choices_beyond place full = λ query ks ms choices list.
      let many = choices_length (framed atom_word) choices in
      let all = all_count g (framed atom_word) e query choices in
      omega (arith, many, all, full)

  -- So much is counted of the members of the list from the place on, and of what the alternatives span; the first so
  -- many choices are left.
  pub record Spanned (place : Option Rest) (count height : ℕ) : Type 0 where
    pub left : (query : Tree) (ks : List Alternative) (ms : List Member)
        → HasChoices g (framed atom_word) e query ks
        → IsList atom_word (g.present e.store) e.lists (extent_of e.lists) place ms
        → (js : List Alternative) × Stand query (take height e.choices.items) js
        × (count + stack_span may_enter js ≤ length ms + stack_span may_enter ks)

  -- only the list's
  pub spanned_none : (place : Option Rest) (count height : ℕ) → length e.choices.items ≤ height
      → ((p : Present W) (ms : List Member) → IsList atom_word p e.lists (extent_of e.lists) place ms
      → count ≤ length ms) → Spanned place count height
  spanned_none place count height all counted = record {
    left = λ query ks ms choices list.
        (let few = counted (g.present e.store) ms list in (
          ks,
          subst (λ (cs : List _). Stand query cs ks) (sym (take_all height e.choices.items all)) choices,
          omega (arith, few),
        ));
  }

  -- enough is counted
  pub spanned_beyond : (place : Option Rest) (count height : ℕ) → Spanned place count height → e.limit / 3 ≤ count
      → IsBeyond g atom_word e place
  spanned_beyond place count height spanned enough = λ query ks ms choices list.
      let rest = spanned.left query ks ms choices list in
      let all = rest.2 in
      omega (arith, all, enough)

  -- the newest of the choices that are left, with its list
  module _ (place : Option Rest) (count below : ℕ) (c : kept.Choice W M Extent (Option Rest) KeptCall)
      (there : slice_get e.choices.items below ≡ Some c) (spanned : Spanned place count (suc below)) where
    pub newest_list : (query : Tree) (ks : List Alternative) (ms : List Member)
        → HasChoices g (framed atom_word) e query ks
        → IsList atom_word (g.present e.store) e.lists (extent_of e.lists) place ms
        → (p : Present W) × (ns : List Member) × IsList atom_word p e.lists (extent_of e.lists) c.rest ns
    newest_list query ks ms choices list =
        let rest = spanned.left query ks ms choices list in
        let one = newest (framed atom_word) c (newest_there e.choices.items below c there) rest.1 in
        let here = one.here in (
          here.present,
          (one.alternative).list,
          list_more atom_word here.present e.lists c.kept (extent_of e.lists) c.rest (one.alternative).list one.within
              here.on.chain,
        )

    pub spanned_more : (more : ℕ)
        → ((p : Present W) (ns : List Member) → IsList atom_word p e.lists (extent_of e.lists) c.rest ns
        → more ≤ length ns) → Spanned place (count + (1 + more)) below
    spanned_more more counted = record {
      left = λ query ks ms choices list.
          (let rest = spanned.left query ks ms choices list in
          let all = rest.2 in
          let one = newest (framed atom_word) c (newest_there e.choices.items below c there) rest.1 in
          let a = one.alternative in
          let here = one.here in
          let few = counted here.present a.list (list_more atom_word here.present e.lists c.kept (extent_of e.lists)
          c.rest a.list one.within here.on.chain) in
          let spans = choice_span query c a one.within here in
          let whole = ap (stack_span may_enter) one.is in (
            one.others,
            subst (λ (cs : List _). Stand query cs one.others) (below_newest e.choices.items below c there)
                one.stands_below,
            omega (arith, all, few, spans, whole),
          ));
    }
