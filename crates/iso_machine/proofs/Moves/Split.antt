-- The move at which an alternative is kept as a choice.
use Rattle.std.proofs.Common.{◌≡◌, ℕ, ◌≤◌, ◌<◌, List, length, Option, Some, Result, Ok, refl, sym, subst, arith, Vec, Global}
use Rattle.std.specs.Prelude.{IsErr}
use Rattle.iso_atoms.specs.Texts.{KeepsTexts}
use Rattle.iso_model.specs.Search.Engines.{IsAwake}
use Rattle.iso_model.specs.Search.RunLaws.Spans.{ComesBeyond}
use Rattle.iso_model.specs.Search.Walker.{State, Member, AsIs, pushed}
use Rattle.iso_model.specs.declared.limit.Limit.TheVariants as limit
use Rattle.iso_model.specs.declared.pauses.Pause.TheVariants as pause
use Rattle.iso_store_core.specs.Presents.{Present, KeepsMarks}
use Rattle.iso_store_core.specs.declared.shapes.StoreFault.{StoreFault}
use Rattle.iso_store_core.specs.declared.stores.Store.{Ghosts}
use Rattle.iso_search_core.specs.declared.choices.Choice as kept
use Rattle.iso_search_core.specs.declared.choices.Left.TheVariants as left
use Rattle.iso_search_core.specs.declared.nows.Now.{Now}
use Rattle.iso_search_core.specs.declared.nows.Now.TheVariants as now
use Rattle.iso_search_core.specs.Costs.{now_cost}
use Rattle.iso_search_core.specs.Fitting.{FitsState}
use Rattle.iso_search_core.specs.Standing.{GainsChoice}
use Rattle.iso_search_core.proofs.CostLemmas.{choices_cost_on}
use Rattle.iso_frames.specs.declared.frames.Rest.{Rest}
use Rattle.iso_frames.specs.declared.frames.Next.{Next}
use Rattle.iso_frames.specs.Costs.{first_cost}
use Rattle.iso_search.specs.declared.search.Move.{Move}
use Rattle.iso_search.specs.declared.search.Move.TheVariants as move
use Rattle.iso_search.specs.EngineStates.{IsAhead, IsBehind, Represents, Moves, weight, phase_of}
use Rattle.iso_search.specs.Limits.{ResultMet}
use Rattle.iso_search.specs.Moved.{Moved}
use Rattle.iso_search.proofs.AheadLemmas.{ahead_choice, engine_place, goes_with}
use Rattle.iso_search.proofs.MovedLemmas.{no_choice}
use Rattle.iso_search.proofs.Moves.Search.{goes_to, stands_itself, stops_here}
use Rattle.iso_search.proofs.StoppedLemmas.{keeps_all, keeps_lists}
use Rattle.iso_search.proofs.WeightLemmas.{falls_less, gained_cost}
use Rattle.iso_search.proofs.WorldLemmas.{all_texts}
use Rattle.iso_machine.specs.declared.framed.Framed.{Framed}
use Rattle.iso_machine.specs.Lists.{IsList, as_much, cost_at, extent_of, pending_at}
use Rattle.iso_machine.specs.Engines.{Engine, IsBeyond, framed}
use Rattle.iso_machine.specs.Instructions.{Splits, IsSplit}
use Rattle.iso_machine.proofs.BeyondLemmas.{comes_beyond}

module _ {S W M : Type 0} (g : Ghosts S W M) (atom_word : ℕ → W) where
  -- A choice came, at which the alternative is left.
  module _ (e : Engine S W M) (s : State) (on other : Rest) (h : Splits g atom_word e s on other) (store : S)
      (choices : Vec (kept.Choice W M _ _ _) Global) (same : g.present store ≡ g.present e.store)
      (marks : KeepsMarks (g.stands e.store) (g.stands store))
      (texts : KeepsTexts (g.names e.store) (g.names store))
      (gains : GainsChoice (g.stands e.store) (g.stands store) g.older (g.present e.store) (extent_of e.lists)
      (Some other) left.AsIs e.choices.items choices.items) where
    abbrev chosen : Engine S W M
    chosen = record e { store = store; choices = choices }

    abbrev both : State
    both = record (pushed h.others AsIs h.own) { list = h.list }

    pub split_ahead : IsAhead g (framed atom_word) chosen both (Some on)
    split_ahead =
        let left = ahead_choice g (framed atom_word) e (record h.own { list = h.others }) (Some other) store choices
        left.AsIs AsIs (as_much (extent_of e.lists)) (λ k within. within) h.left refl refl same marks texts gains in
        record {
          world = left.world;
          steps = left.steps;
          base = left.base;
          choices = left.choices;
          room = left.room;
          fits = subst (λ (p : Present W). FitsState g p (pending_at e.lists (Some on)) both) (sym same) h.ahead.fits;
          goes = goes_with h.list both.stack left.goes;
          chain = subst (λ (p : Present W). IsList atom_word p e.lists (extent_of e.lists) (Some on) h.list) (sym same)
              h.ahead.chain;
        }

    pub split_moves : (n : Now (Next W) (Option Rest))
        → IsBehind (framed atom_word) (g.present store) e.lists (Some on) n h.list → IsAwake (phase_of n)
        → Moves g (framed atom_word) move.Goes s (record chosen { now = n })
    split_moves n comes awake =
        goes_to g (framed atom_word) (record chosen { now = n }) s both h.at h.quiet h.same
        (stands_itself g (framed atom_word) (record chosen { now = n }) both
        (engine_place g (framed atom_word) chosen both (Some on) n split_ahead comes)) awake

  -- ---- behind lists that came

  module _ (old : Engine S W M) (more : Framed S W M) (on other : Rest)
      (h : IsSplit g atom_word old (record old { lists = more }) on other) where
    abbrev mid : Engine S W M
    mid = record old { lists = more }

    abbrev Moves_to : Result Move StoreFault → Engine S W M → Type 0
    Moves_to result new = Moved g (framed atom_word) (ComesBeyond old.limit) old result new

    -- no frame and no choice may come any more
    full_moved : IsBeyond g atom_word mid (Some on)
        → Moves_to (Ok (move.Pauses pause.FramesFull)) (record mid { now = now.Spent limit.Frames })
    full_moved beyond = record {
      moves = λ s r. (
        stops_here g (framed atom_word) (record mid { now = now.Spent limit.Frames }) r.own s r.same
            (keeps_lists g (framed atom_word) old more r.own.world r.own.stack
            (keeps_all g (framed atom_word) old r.own r.engine) h.keeps),
        refl,
      );
      stopped = λ s r. tt;
      falls = tt;
      frames = λ s r.
          (let one = h.splits s r in
          comes_beyond g atom_word mid (Some on) (record one.own { list = one.list })
          (record (pushed one.others AsIs one.own) { list = one.list }) s one.at beyond one.ahead one.quiet one.same
          one.runs (omega arith) (omega arith));
      met = tt;
      stays = record {
        limit = refl;
        vocabulary = refl;
        names_kept = all_texts (g.names old.store);
        base = λ p x. x;
        within = λ x. x;
      };
    }

    module _ (store : S) (choices : Vec (kept.Choice W M _ _ _) Global) (same : g.present store ≡ g.present old.store)
        (marks : KeepsMarks (g.stands old.store) (g.stands store))
        (texts : KeepsTexts (g.names old.store) (g.names store)) where
      -- memory was refused for it
      refused_moved : choices.items ≡ old.choices.items → (result : Result Move StoreFault) → IsErr result
          → ResultMet g result (record mid { store = store; choices = choices })
          → Moves_to result (record mid { store = store; choices = choices })
      refused_moved as_before result refused met =
          no_choice g (framed atom_word) old more h.keeps store same marks texts choices as_before result refused met

      module _ (room : length choices.items ≤ old.limit)
          (gains : GainsChoice (g.stands old.store) (g.stands store) g.older (g.present old.store) (extent_of more)
          (Some other) left.AsIs old.choices.items choices.items) (n : Now (Next W) (Option Rest)) where
        abbrev on_engine : Engine S W M
        on_engine = record mid { store = store; choices = choices; now = n }

        split_falls : (s : State) → Represents g (framed atom_word) old s
            → now_cost (λ (x : Next W). first_cost more.frames.items x) n ≤ cost_at more (Some on)
            → weight (framed atom_word) on_engine < weight (framed atom_word) old
        split_falls s r fewer =
            let gained = gained_cost (cost_at more) gains in
            let kept_all = choices_cost_on (framed atom_word) h.keeps (λ d among. tt) r.engine.choices in
            let less = h.less in
            falls_less (framed atom_word) old on_engine refl (omega (arith, gained, kept_all, less, fewer))

        on_moved : (s : State) → Represents g (framed atom_word) old s
            → ((ms : List Member) → IsList atom_word (g.present store) more (extent_of more) (Some on) ms
            → IsBehind (framed atom_word) (g.present store) more (Some on) n ms)
            → now_cost (λ (x : Next W). first_cost more.frames.items x) n ≤ cost_at more (Some on)
            → IsAwake (phase_of n) → Moves_to (Ok move.Goes) on_engine
        on_moved s r comes fewer awake = record {
          moves = λ t again.
              (let one = h.splits t again in
              let ahead = split_ahead mid t on other one store choices same marks texts gains in
              split_moves mid t on other one store choices same marks texts gains n (comes one.list ahead.chain) awake);
          stopped = λ t again. tt;
          falls = split_falls s r fewer;
          frames = λ t again. tt;
          met = tt;
          stays = record {
            limit = refl;
            vocabulary = refl;
            names_kept = texts;
            base = λ p x. marks old.base p x;
            within = λ x. room;
          };
        }

  -- ---- by what the engine is then

  module _ (old new : Engine S W M) (on other : Rest) (h : IsSplit g atom_word old new on other) where
    apart : IsSplit g atom_word old (record old { lists = new.lists }) on other
    apart = subst (λ (e : Engine S W M). IsSplit g atom_word old e on other) h.is h

    pub split_full : IsBeyond g atom_word new (Some on)
        → Moved g (framed atom_word) (ComesBeyond old.limit) old (Ok (move.Pauses pause.FramesFull))
        (record new { now = now.Spent limit.Frames })
    split_full =
        subst
        (λ (e : Engine S W M). IsBeyond g atom_word e (Some on)
        → Moved g (framed atom_word) (ComesBeyond old.limit) old (Ok (move.Pauses pause.FramesFull))
        (record e { now = now.Spent limit.Frames })) (sym h.is) (full_moved old new.lists on other apart)

    -- the list that it goes on with, where a choice came
    pub split_list : (s : State) → Represents g (framed atom_word) old s → (store : S)
        → g.present store ≡ g.present new.store
        → (ms : List Member) × IsList atom_word (g.present store) new.lists (extent_of new.lists) (Some on) ms
    split_list s r store same =
        let one = h.splits s r in (
          one.list,
          subst (λ (p : Present W). IsList atom_word p new.lists (extent_of new.lists) (Some on) one.list) (sym same)
              one.ahead.chain,
        )

    -- a choice came behind it
    abbrev pub GoesOn : Engine S W M → Type 0
    GoesOn e = (store : S) (choices : Vec (kept.Choice W M _ _ _) Global) → g.present store ≡ g.present e.store
        → KeepsMarks (g.stands e.store) (g.stands store) → KeepsTexts (g.names e.store) (g.names store)
        → length choices.items ≤ e.limit
        → GainsChoice (g.stands e.store) (g.stands store) g.older (g.present e.store) (extent_of e.lists) (Some other)
        left.AsIs e.choices.items choices.items → (n : Now (Next W) (Option Rest))
        → ((ms : List Member) → IsList atom_word (g.present store) e.lists (extent_of e.lists) (Some on) ms
        → IsBehind (framed atom_word) (g.present store) e.lists (Some on) n ms)
        → now_cost (λ (x : Next W). first_cost e.lists.frames.items x) n ≤ cost_at e.lists (Some on)
        → IsAwake (phase_of n) → Moved g (framed atom_word) (ComesBeyond old.limit) old (Ok move.Goes)
        (record e { store = store; choices = choices; now = n })

    pub split_on : (s : State) → Represents g (framed atom_word) old s → GoesOn new
    split_on s r =
        subst GoesOn (sym h.is)
        (λ store choices same marks texts room gains n comes fewer awake.
        on_moved old new.lists on other apart store choices same marks texts room gains n s r comes fewer awake)

    -- memory was refused for it
    abbrev pub IsRefused : Engine S W M → Type 0
    IsRefused e = (store : S) (choices : Vec (kept.Choice W M _ _ _) Global) → g.present store ≡ g.present e.store
        → KeepsMarks (g.stands e.store) (g.stands store) → KeepsTexts (g.names e.store) (g.names store)
        → choices.items ≡ e.choices.items → (result : Result Move StoreFault) → IsErr result
        → ResultMet g result (record e { store = store; choices = choices })
        → Moved g (framed atom_word) (ComesBeyond old.limit) old result (record e { store = store; choices = choices })

    pub split_refused : IsRefused new
    split_refused =
        subst IsRefused (sym h.is)
        (λ store choices same marks texts as_before result refused met.
        refused_moved old new.lists on other apart store choices same marks texts as_before result refused met)
