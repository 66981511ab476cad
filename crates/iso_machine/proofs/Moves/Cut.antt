-- The move at a cut in the code of a clause.
use Rattle.std.proofs.Common.{◌≡◌, ℕ, ◌≤◌, ◌-◌, List, length, drop, Option, Some, Ok, refl, ap, subst, arith}
use Rattle.iso_model.specs.Search.Engines.{IsAwake}
use Rattle.iso_model.proofs.Search.RunLaws.Opening.{opened}
use Rattle.iso_model.proofs.Search.RunLaws.Likeness.{opened_alike}
use Rattle.iso_model.specs.Search.Walker.{State, Member, cut_back}
use Rattle.iso_store_core.specs.declared.stores.Store.{Ghosts}
use Rattle.iso_compile.specs.Control.{height}
use Rattle.iso_compile.specs.declared.control.Mark.{Mark}
use Rattle.iso_instructions.specs.declared.instructions.Instruction.TheVariants as instruction
use Rattle.iso_search_core.specs.declared.nows.Now.{Now}
use Rattle.iso_search_core.specs.declared.nows.Now.TheVariants as now
use Rattle.iso_search_core.specs.Costs.{now_cost}
use Rattle.iso_search_core.proofs.StandingLemmas.{choices_length}
use Rattle.iso_frames.specs.declared.frames.Rest.{Rest}
use Rattle.iso_frames.specs.declared.frames.Next.{Next}
use Rattle.iso_frames.specs.declared.frames.Next.TheVariants as next
use Rattle.iso_frames.specs.Frames.{Levels}
use Rattle.iso_frames.specs.Costs.{first_cost}
use Rattle.iso_frames.proofs.CodeCosts.{cost_less}
use Rattle.iso_search.specs.declared.search.Move.TheVariants as move
use Rattle.iso_search.specs.EngineStates.{IsAhead, IsBehind, Represents, kept_cost, phase_of}
use Rattle.iso_search.specs.Moved.{Moved}
use Rattle.iso_search.specs.Stays.{Stays}
use Rattle.iso_search.proofs.AheadLemmas.{engine_place}
use Rattle.iso_search.proofs.Moves.Member.{behind_falls}
use Rattle.iso_search.proofs.Moves.Search.{goes_from, stands_itself}
use Rattle.iso_search.proofs.MovedLemmas.{moved_on}
use Rattle.iso_machine.specs.Lists.{IsList, cost_at, extent_of}
use Rattle.iso_machine.specs.Engines.{Engine, framed}
use Rattle.iso_machine.specs.Instructions.{IsInstructionThere, CutsAs, at_address}
use Rattle.iso_machine.proofs.Moves.Instruction.{at_instruction, code_ahead, CutsThere, cut_run}

module _ {S W M : Type 0} (g : Ghosts S W M) (atom_word : ℕ → W) (e : Engine S W M) (r : Rest)
    (doing : e.now ≡ now.Running (next.Code r)) (mark : Mark)
    (there : IsInstructionThere e.lists.frames.items r (instruction.Cut mark)) where
  abbrev pub below : Option Rest
  below = Some (at_address r (r.address - 1))

  -- what the engine, in its own state, comes to
  abbrev pub cut_at : (s : State) → (h : Represents g (framed atom_word) e s)
      → CutsThere g atom_word e h.own r there.frame there.level mark
  cut_at s h = cut_run g atom_word e r doing mark there s h

  module _ (mid : Engine S W M) (count : ℕ)
      (cuts : (s : State) (place : Option Rest) → IsAhead g (framed atom_word) e s place
      → IsAhead g (framed atom_word) mid (cut_back count s.list s) place)
      (as_marked : (kept : ℕ → ℕ) → Levels e.lists.frames.items r.frame there.level kept
      → CutsAs count (height (there.frame).height kept mark)) where
    -- the list behind the cut, with no choices above the mark
    pub cut_ahead : (s : State) → (h : Represents g (framed atom_word) e s)
        → IsAhead g (framed atom_word) mid
        (cut_back (height (there.frame).height (cut_at s h).kept mark) (cut_at s h).behind h.own) below
    cut_ahead s h =
        let c = cut_at s h in
        let own : State = record h.own { list = c.behind } in
        let many = choices_length (framed atom_word) h.engine.choices in
        let few = e.choices.ok.0 in
        let within = e.choices.ok.1 in
        let small = e.choices.small in
        let same = as_marked c.kept c.levels (length h.own.stack) (omega (arith, many, few, within, small)) in
        subst (λ (n : ℕ). IsAhead g (framed atom_word) mid (record own { stack = drop n h.own.stack }) below) same
        (cuts own below c.ahead)

    pub cut_moved : mid ≡ record e { store = mid.store; choices = mid.choices }
        → kept_cost (framed atom_word) mid ≤ kept_cost (framed atom_word) e → (n : Now (Next W) (Option Rest))
        → ((ms : List Member) → IsList atom_word (g.present mid.store) mid.lists (extent_of mid.lists) below ms
        → IsBehind (framed atom_word) (g.present mid.store) mid.lists below n ms)
        → now_cost (λ (x : Next W). first_cost mid.lists.frames.items x) n ≤ cost_at mid.lists below
        → IsAwake (phase_of n) → Stays g e (record mid { now = n }) → (s : State) → Represents g (framed atom_word) e s
        → Moved g (framed atom_word) (λ t. ⊥) e (Ok move.Goes) (record mid { now = n })
    cut_moved same fewer n comes less awake stays s stands =
        moved_on g (framed atom_word)
        (λ t h.
        (let c = cut_at t h in
        let v = cut_back (height (there.frame).height c.kept mark) c.behind (opened h.own) in
        let ahead = cut_ahead t h in
        goes_from g (framed atom_word) (record mid { now = n }) (opened h.own) t v (opened_alike h.own t h.same) c.is
        (stands_itself g (framed atom_word) (record mid { now = n }) v (engine_place g (framed atom_word) mid v below n ahead (comes c.behind ahead.chain))) awake))
        (let at = at_instruction g atom_word e stands.own r (instruction.Cut mark) there tt
        (code_ahead g atom_word e stands.own r doing stands.engine) in
        let some = (cut_at s stands).some in
        behind_falls (framed atom_word) e mid (record mid { now = n }) (next.Code r) below n doing
        (cost_less e.lists.frames.items r there.frame at.frame.at at.frame.before there.code there.level
        (r.address - 1) at.frame.work (omega (arith, some))) refl (ap (λ (x : Engine S W M). x.steps) same)
        (ap (λ (x : Engine S W M). x.lists) same) fewer less) stays
