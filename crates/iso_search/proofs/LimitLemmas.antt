-- Where the members are full the search has as many alternatives, and where the heap is full as large a load.
use Rattle.std.proofs.Common.{◌≡◌, ◌≤◌, ◌+◌, ℕ, [], length, refl, ap, sym, ◌∙◌, subst, arith, Result, Ok, Err, Vec, Global}
use Rattle.iso_search_core.specs.declared.choices.Choice.{Choice}
use Rattle.iso_search_core.specs.declared.nows.Now.{Now}
use Rattle.iso_model.specs.Search.Engines.{KeepsLimits, MayMeet, MeetsLimit}
use Rattle.iso_model.specs.Search.Runs.{ComesAbove}
use Rattle.iso_model.specs.Search.Walker.{State}
use Rattle.iso_model.specs.declared.limit.Limit.TheVariants as limit
use Rattle.iso_store_core.specs.Presents.{Present}
use Rattle.iso_store_core.specs.declared.stores.Store.{Ghosts}
use Rattle.iso_search_core.specs.Fitting.{FitsAhead}
use Rattle.iso_search.specs.declared.search.Move.{Move}
use Rattle.iso_model.specs.declared.pauses.Pause.{Pause}
use Rattle.iso_search.specs.declared.search.Search.{Search}
use Rattle.iso_search.specs.Stays.{Stays}
use Rattle.iso_store_core.specs.declared.shapes.StoreFault.{StoreFault}
use Rattle.iso_model.specs.declared.pauses.Pause.TheVariants as pause
use Rattle.iso_search.proofs.WorldLemmas.{all_texts}
use Rattle.iso_search.specs.declared.search.Move.TheVariants as move
use Rattle.iso_search.specs.Limits.{HeapPieces, MoveMet, PauseMet, ResultMet, WhereFull, MoveFull, ResultFull, WhereHeapFull, MoveHeapFull}
use Rattle.iso_search.specs.EngineStates.{IsBase}
use Rattle.iso_store_core.proofs.AtomLemmas.{keeps-then}

-- ---- a fact for another

pub where_full : {A B : Type 0} (p : Pause) → (A → B) → WhereFull A p → WhereFull B p
where_full pause.FramesFull f h = f h
where_full p f h = tt

pub move_full : {A B : Type 0} (m : Move) → (A → B) → MoveFull A m → MoveFull B m
move_full move.Goes f h = tt
move_full (move.Pauses p) f h = where_full p f h

pub result_full : {A B : Type 0} (r : Result Move StoreFault) → (A → B) → ResultFull A r → ResultFull B r
result_full (Ok m) f h = move_full m f h
result_full (Err e) f h = tt

pub where_heap_full : {A B : Type 0} (p : Pause) → (A → B) → WhereHeapFull A p → WhereHeapFull B p
where_heap_full pause.HeapFull f h = f h
where_heap_full p f h = tt

-- one that holds anyway
pub heap_full_too : {A : Type 0} (p : Pause) → A → WhereHeapFull A p
heap_full_too pause.HeapFull h = h
heap_full_too p h = tt

module _ {S L W M K P C N B O : Type 0} (g : Ghosts S W M) where
  -- a move that is refused for want of heap is an error
  pub never_heap_full : (Fact : Type 0) (e : Search S L W M K P C N B O) (m : Move) → ResultMet g (Ok m) e → MoveHeapFull Fact m
  never_heap_full fact e (move.Pauses pause.HeapFull) met = absurd met
  never_heap_full fact e m met = tt

  pub move_met : (e : Search S L W M K P C N B O) (m : Move) → ResultMet g (Ok m) e → MoveMet g m e
  move_met e move.Goes met = tt
  move_met e (move.Pauses pause.HeapFull) met = absurd met
  move_met e (move.Pauses p) met = met

  -- a full store that fits a state ahead: twice the load of that is above the cells that there may be
  pub full_above : ((x : S) → g.full x → (g.present x).limit ≤ (g.present x).cells + (g.present x).variables) → (e : Search S L W M K P C N B O) (s : State) → g.full e.store → FitsAhead g (g.present e.store) s → HeapPieces g e s
  full_above used e s full ahead counts = (let r = ahead counts in let all = used e.store full in let fits = r.holds in record { at = r.at; quiet = r.quiet; holds = omega (arith, all, fits) })

  -- a limit is met in a piece that is named
  pub met_limit : ((x : S) → g.full x → (g.present x).limit ≤ (g.present x).cells + (g.present x).variables) → (Over : ℕ → State → Type 0) (e : Search S L W M K P C N B O) (s : State) (p : Pause)
      → PauseMet g p e → WhereHeapFull (FitsAhead g (g.present e.store) s) p → WhereFull (Over e.limit s) p → MeetsLimit (MayMeet (HeapPieces g e) (Over e.limit)) s p
  met_limit used Over e s pause.HeapFull met fits over = full_above used e s met fits
  met_limit used Over e s pause.FramesFull met fits over = over
  met_limit used Over e s pause.NoMemory met fits over = tt
  met_limit used Over e s p met fits over = tt

  -- there may be as many cells and frames as before, by what the mark of the empty store stands for
  pub limits_stay : ((x : S) (m : M) (p : Present W) → g.stands x m p → p.limit ≡ (g.present x).limit) → (Over : ℕ → State → Type 0) (e new : Search S L W M K P C N B O) → IsBase g e.store e.base → Stays g e new
      → KeepsLimits (MayMeet (HeapPieces g e) (Over e.limit)) (MayMeet (HeapPieces g new) (Over new.limit))
  limits_stay law Over e new b stays limit.Heap s h =
      let old = law e.store e.base b.present b.stands_for in
      let after = law new.store new.base b.present (stays.base b.present b.stands_for) in
      λ counts. subst (λ (n : ℕ). ComesAbove n s) (sym after ∙ old) (h counts)
  limits_stay law Over e new b stays limit.Frames s h = subst (λ (n : ℕ). Over n s) stays.limit h
  limits_stay law Over e new b stays limit.Memory s h = tt

-- ---- what stays

pub stays_same : {S L W M K P C N B O : Type 0} (g : Ghosts S W M) (e : Search S L W M K P C N B O) → Stays g e e
stays_same g e = record { limit = refl; vocabulary = refl; names_kept = all_texts (g.names e.store); base = λ p h. h; within = λ h. h }

pub stays_on : {S L W M K P C N B O : Type 0} (g : Ghosts S W M) {old between new : Search S L W M K P C N B O} → Stays g old between → Stays g between new → Stays g old new
stays_on g {old = old} {between = between} {new = new} a b = record {
  limit = b.limit ∙ a.limit;
  vocabulary = b.vocabulary ∙ a.vocabulary;
  names_kept = keeps-then (g.names old.store) (g.names between.store) (g.names new.store) a.names_kept b.names_kept;
  base = λ p h. b.base p (a.base p h);
  within = λ h. b.within (a.within h);
}

-- something else comes next
pub stays_next : {S L W M K P C N B O : Type 0} (g : Ghosts S W M) {old new : Search S L W M K P C N B O} (n : Now N P) → Stays g old new → Stays g old (record new { now = n })
stays_next g n b = record { limit = b.limit; vocabulary = b.vocabulary; names_kept = b.names_kept; base = b.base; within = b.within }

-- the choices were dropped
pub stays_bare : {S L W M K P C N B O : Type 0} (g : Ghosts S W M) {old new : Search S L W M K P C N B O} (choices : Vec (Choice W M K P C) Global) → choices.items ≡ [] → Stays g old new → Stays g old (record new { choices = choices })
stays_bare g choices none b = record {
  limit = b.limit;
  vocabulary = b.vocabulary;
  names_kept = b.names_kept;
  base = b.base;
  within = λ h. (let count : length choices.items ≡ 0 = ap length none in omega (arith, count));
}
