-- What a move gives, from its parts.
use Rattle.std.proofs.Common.{◌≡◌, ◌<◌, Result, Ok, Err, refl, sym, subst, Vec, Global}
use Rattle.std.specs.Prelude.{IsErr, IsErrAnd}
use Rattle.std.proofs.lemmas.Bool.{false≢true}
use Rattle.iso_search_core.specs.declared.choices.Choice.{Choice}
use Rattle.iso_store_core.specs.declared.stores.Store.{Ghosts}
use Rattle.iso_store_core.specs.Presents.{KeepsMarks, Present}
use Rattle.iso_atoms.specs.Texts.{KeepsTexts}
use Rattle.iso_search.specs.declared.search.Move.{Move}
use Rattle.iso_search.specs.Moved.{Moved}
use Rattle.iso_model.specs.declared.pauses.Pause.{Pause}
use Rattle.iso_search.specs.Limits.{ResultFull, ResultMet}
use Rattle.iso_search.specs.declared.search.Search.{Search}
use Rattle.iso_model.specs.Search.Walker.{State}
use Rattle.iso_search.specs.Stays.{Stays}
use Rattle.iso_store_core.specs.declared.shapes.StoreFault.{StoreFault}
use Rattle.iso_model.specs.declared.limit.Limit.TheVariants as limit
use Rattle.iso_model.specs.declared.pauses.Pause.TheVariants as pause
use Rattle.iso_store_core.specs.declared.shapes.StoreFault.TheVariants as fault
use Rattle.iso_search_core.specs.declared.lists.Lists as lists
use Rattle.iso_search_core.specs.declared.nows.Now.TheVariants as now
use Rattle.iso_search_core.specs.Fitting.{FitsState}
use Rattle.iso_search_core.specs.Standing as standing
use Rattle.iso_search.specs.declared.search.Move.TheVariants as move
use Rattle.iso_search.specs.EngineStates.{Represents, Refused, Moves, Falls, weight}
use Rattle.iso_search.proofs.LimitLemmas.{result_full}
use Rattle.iso_search.proofs.Moves.Search.{refuses_here, stops_here}
use Rattle.iso_search.proofs.StoppedLemmas.{remains_all, keeps_all, keeps_more, keeps_lists, keeps_choices}
use Rattle.iso_search.proofs.WorldLemmas.{all_texts}

module _ {S L W M K P C N B O : Type 0} (g : Ghosts S W M) (l : lists.Ghosts L S K P C N B O W M) where
  -- the engine goes on
  pub moved_on : {Over : State → Type 0} {old new : Search S L W M K P C N B O} → ((s : State) → Represents g l old s → Moves g l move.Goes s new) → weight l new < weight l old → Stays g old new
      → Moved g l Over old (Ok move.Goes) new
  moved_on moves falls stays = record { moves = moves; stopped = λ s r. tt; falls = falls; frames = λ s r. tt; met = tt; stays = stays }

  -- it pauses
  pub moved_pauses : {Over : State → Type 0} {old new : Search S L W M K P C N B O} {p : Pause} → ((s : State) → Represents g l old s → Moves g l (move.Pauses p) s new) → Falls (move.Pauses p) (weight l old) (weight l new)
      → ((s : State) → Represents g l old s → ResultFull (Over s) (Ok (move.Pauses p))) → ResultMet g (Ok (move.Pauses p)) new → Stays g old new → Moved g l Over old (Ok (move.Pauses p)) new
  moved_pauses moves falls frames met stays = record { moves = moves; stopped = λ s r. tt; falls = falls; frames = frames; met = met; stays = stays }

  -- the move was refused
  pub moved_not : {Over : State → Type 0} {old new : Search S L W M K P C N B O} (result : Result Move StoreFault) → IsErr result → ((s : State) → Represents g l old s → Refused g l new s) → ResultMet g result new
      → Stays g old new → Moved g l Over old result new
  moved_not (Ok m) refused stopped met stays = absurd (false≢true refused)
  moved_not (Err e) refused stopped met stays = record { moves = λ s r. tt; stopped = stopped; falls = tt; frames = λ s r. tt; met = met; stays = stays }

  -- behind this refusal
  pub met_behind : (result : Result Move StoreFault) (e : StoreFault) (new : Search S L W M K P C N B O) → IsErrAnd result (λ x. x ≡ e) → (e ≡ fault.Full → g.full new.store) → ResultMet g result new
  met_behind (Ok m) e new is store = absurd is
  met_behind (Err fault.Full) e new is store = store (sym is)
  met_behind (Err fault.NoMemory) e new is store = tt

  -- another fact holds where the members are full
  pub moved_over : {Fact Other : State → Type 0} {old new : Search S L W M K P C N B O} {result : Result Move StoreFault} → ((s : State) → Fact s → Other s) → Moved g l Fact old result new → Moved g l Other old result new
  moved_over {result = result} more m = record { moves = m.moves; stopped = m.stopped; falls = m.falls; frames = λ s r. result_full result (more s) (m.frames s r); met = m.met; stays = m.stays }

  -- memory was refused for lists, which keep what they have
  pub no_lists : {Over : State → Type 0} (e : Search S L W M K P C N B O) (more : L) → standing.Keeps l e.lists more → (result : Result Move StoreFault) → IsErr result → ResultMet g result (record e { lists = more })
      → Moved g l Over e result (record e { lists = more })
  no_lists e more grows result refused met =
      moved_not result refused
      (λ s r. (let all = remains_all g l e r.own r.engine in refuses_here g l (record e { lists = more }) r.own s r.same (keeps_lists g l e more r.own.world r.own.stack all.0 grows, all.1)))
      met (record { limit = refl; vocabulary = refl; names_kept = all_texts (g.names e.store); base = λ p h. h; within = λ h. h })

  -- so for a choice, behind these lists
  pub no_choice : {Over : State → Type 0} (e : Search S L W M K P C N B O) (more : L) → standing.Keeps l e.lists more → (store : S) → g.present store ≡ g.present e.store → KeepsMarks (g.stands e.store) (g.stands store) → KeepsTexts (g.names e.store) (g.names store)
      → (choices : Vec (Choice W M K P C) Global) → choices.items ≡ e.choices.items → (result : Result Move StoreFault) → IsErr result → ResultMet g result (record e { store = store; lists = more; choices = choices })
      → Moved g l Over e result (record e { store = store; lists = more; choices = choices })
  no_choice e more grows store same marks texts choices kept result refused met =
      moved_not result refused
      (λ s r.
      (let all = remains_all g l e r.own r.engine in
      refuses_here g l (record e { store = store; lists = more; choices = choices }) r.own s r.same (
        keeps_choices g l (record e { store = store; lists = more }) choices r.own.world r.own.stack kept (keeps_more g l e store more r.own.world r.own.stack all.0 marks texts grows),
        subst (λ (p : Present W). FitsState g p 0 r.own) (sym same) all.1,
      )))
      met (record { limit = refl; vocabulary = refl; names_kept = texts; base = λ p h. marks e.base p h; within = λ h. rw kept h })

  -- no choice may be made any more
  pub frames_full : {Over : State → Type 0} (e : Search S L W M K P C N B O) → ((s : State) → Represents g l e s → Over s)
      → Moved g l Over e (Ok (move.Pauses pause.FramesFull)) (record e { now = now.Spent limit.Frames })
  frames_full e over = record {
    moves = λ s r. (stops_here g l (record e { now = now.Spent limit.Frames }) r.own s r.same (keeps_all g l e r.own r.engine), refl);
    stopped = λ s r. tt;
    falls = tt;
    frames = over;
    met = tt;
    stays = record { limit = refl; vocabulary = refl; names_kept = all_texts (g.names e.store); base = λ p h. h; within = λ h. h };
  }
