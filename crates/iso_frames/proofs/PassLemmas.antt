-- What a thrown ball passes of a list: all that is left of a clause's body, in which no catch ends.
use Rattle.std.proofs.Common.{ℕ, List, [], ◌∷◌, Option, None, sym, subst}
use Rattle.std.specs.Global.{Global}
use Rattle.std.specs.declared.rc.Rc.{Rc}
use Rattle.iso_model.specs.Terms.Substitutions.{Subst}
use Rattle.iso_model.specs.Search.Walker as walker
use Rattle.iso_store_core.specs.Presents.{Present}
use Rattle.iso_compile.specs.Control.{Member, Goal, CutTo}
use Rattle.iso_search_core.specs.Keeping.{NoLeave, Passes}
use Rattle.iso_search_core.specs.Words.{word_terms}
use Rattle.iso_instructions.specs.declared.instructions.Code.{Code}
use Rattle.iso_frames.specs.declared.frames.Rest.{Rest}
use Rattle.iso_frames.specs.declared.frames.Level.{Level}
use Rattle.iso_frames.specs.declared.frames.Frame.{Frame}
use Rattle.iso_frames.specs.Running.{placed}
use Rattle.iso_frames.specs.Frames.{Stack, Chain, environment}
use Rattle.iso_frames.proofs.ChainLemmas.{AtClause}

-- members of a clause are no ends of catches
pub no_leave_placed : (s : Subst) (called : ℕ) (kept : ℕ → ℕ) (ms : List Member) → NoLeave (placed s called kept ms)
no_leave_placed s called kept [] = tt
no_leave_placed s called kept (Goal b m ∷ ms) = no_leave_placed s called kept ms
no_leave_placed s called kept (CutTo m ∷ ms) = no_leave_placed s called kept ms

-- all that is left of a clause's body is passed
pub clause_passes : {W : Type 0} (atom_word : ℕ → W) {p : Present W} {k : Stack W} {r : Rest} {f : Frame}
    {all : List walker.Member} (code : Rc Code Global) (level : Option Level)
    → AtClause atom_word p k r f code level all
    → Passes (Chain atom_word p k) all (record { leave = None; behind = f.behind })
clause_passes atom_word {p = p} {k = k} {f = f} code level h = record {
  front = h.ms;
  rest = h.behind;
  none =
      subst NoLeave (sym h.left.are)
      (no_leave_placed (word_terms p (environment k.words f.top code.value)) f.height h.kept h.left.left);
  is = h.is;
  are = h.chain;
}
