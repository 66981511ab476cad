-- What the engine says of its pauses: a full heap comes only where its store is full, and each term that it gives is
-- well formed. Of full members more is said of the search.
use Rattle.std.specs.Prelude.{◌≤◌, ℕ, length, Result, Ok, Err}
use Rattle.iso_model.specs.Search.Walker.{State}
use Rattle.iso_model.specs.Search.Runs.{ComesAbove, ComesOver}
use Rattle.iso_model.specs.Search.RunLaws.Spans.{ComesBeyond}
use Rattle.iso_model.specs.Search.Engines.{GivesTerms}
use Rattle.iso_model.specs.declared.pauses.Pause.{Pause}
use Rattle.iso_model.specs.declared.pauses.Pause.TheVariants as pause
use Rattle.iso_store_core.specs.declared.shapes.StoreFault.{StoreFault}
use Rattle.iso_store_core.specs.declared.shapes.StoreFault.TheVariants as fault
use Rattle.iso_store_core.specs.Retaining.{CountsCells}
use Rattle.iso_store_core.specs.declared.stores.Store.{Ghosts}
use Rattle.iso_search.specs.declared.search.Move.{Move}
use Rattle.iso_search.specs.declared.search.Move.TheVariants as move
use Rattle.iso_search.specs.declared.search.Search.{Search}

module _ {S L W M K P C N B O : Type 0} (g : Ghosts S W M) where
  -- at an event or an ending
  abbrev pub PauseMet : Pause → Search S L W M K P C N B O → Type 0
  PauseMet pause.HeapFull e = g.full e.store
  PauseMet p e = GivesTerms p

  -- behind a move
  abbrev pub MoveMet : Move → Search S L W M K P C N B O → Type 0
  MoveMet move.Goes e = Unit {0}
  MoveMet (move.Pauses p) e = PauseMet p e

  -- behind a move that may be refused, as it is where the heap is full
  abbrev pub ResultMet : Result Move StoreFault → Search S L W M K P C N B O → Type 0
  ResultMet (Ok move.Goes) e = Unit {0}
  ResultMet (Ok (move.Pauses pause.HeapFull)) e = ⊥
  ResultMet (Ok (move.Pauses p)) e = PauseMet p e
  ResultMet (Err fault.Full) e = g.full e.store
  ResultMet (Err fault.NoMemory) e = Unit {0}

-- The pieces of a walk in which the heap may be full, where cells are counted: each comes to a state twice whose load
-- is above the cells that there may be.
abbrev pub HeapPieces : {S L W M K P C N B O : Type 0} → Ghosts S W M → Search S L W M K P C N B O → State → Type 0
HeapPieces g e s = CountsCells g → ComesAbove (g.present e.store).limit s

-- No more choices stand than there may be.
abbrev pub IsWithin : {S L W M K P C N B O : Type 0} → Search S L W M K P C N B O → Type 0
IsWithin e = length e.choices.items ≤ e.limit

-- ---- full members, said of the search

-- the search comes to more alternatives than this, and to a state that spans more
abbrev pub ComesFull : ℕ → State → Type 0
ComesFull most s = ComesOver most s × ComesBeyond most s

-- a fact that holds where the members are full
abbrev pub WhereFull : Type 0 → Pause → Type 0
WhereFull Fact pause.FramesFull = Fact
WhereFull Fact p = Unit {0}

-- a fact that holds where the heap is full
abbrev pub WhereHeapFull : Type 0 → Pause → Type 0
WhereHeapFull Fact pause.HeapFull = Fact
WhereHeapFull Fact p = Unit {0}

abbrev pub MoveHeapFull : Type 0 → Move → Type 0
MoveHeapFull Fact move.Goes = Unit {0}
MoveHeapFull Fact (move.Pauses p) = WhereHeapFull Fact p

abbrev pub MoveFull : Type 0 → Move → Type 0
MoveFull Fact move.Goes = Unit {0}
MoveFull Fact (move.Pauses p) = WhereFull Fact p

abbrev pub ResultFull : Type 0 → Result Move StoreFault → Type 0
ResultFull Fact (Ok m) = MoveFull Fact m
ResultFull Fact (Err e) = Unit {0}
