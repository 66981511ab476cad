-- Frames with one more, that of a clause which was entered and has none.
use Rattle.std.proofs.Common.{◌≡◌, ◌≤◌, ◌<◌, ◌+◌, ◌*◌, ◌-◌, ℕ, List, [], ◌∷◌, ◌++◌, length, take, Option, Some, None, refl, sym, ap, ◌∙◌, arith, Vec, Global}
use Rattle.std.proofs.lemmas.List.{length-append}
use Rattle.std.specs.declared.rc.Rc.{Rc}
use Rattle.iso_search_core.specs.Bodies.{body_cost, most}
use Rattle.iso_search_core.proofs.BodyCosts.{below_words, cost_higher}
use Rattle.iso_instructions.specs.declared.instructions.Code.{Code}
use Rattle.iso_frames.specs.declared.frames.Frame.{Frame}
use Rattle.iso_frames.specs.declared.frames.Rest.{Rest}
use Rattle.iso_frames.specs.Costs.{cells_from}
use Rattle.iso_environments.proofs.EnteredLemmas.{entered_cost, entered_pending}
use Rattle.iso_machine.specs.declared.framed.Framed.{Framed}
use Rattle.std.specs.List.{slice_get}
use Rattle.std.proofs.Math.Seq.{take-append_seam}
use Rattle.iso_frames.specs.declared.frames.Work.TheVariants.{Clause}
use Rattle.iso_search_core.proofs.StandingLemmas.{last_is}
use Rattle.iso_model.specs.Terms.Trees.{Tree}
use Rattle.iso_model.specs.Search.Databases as databases
use Rattle.iso_model.specs.Search.Walker.{State, Member, tried_clause, body_size}
use Rattle.iso_store_core.specs.declared.stores.Store.{Ghosts}
use Rattle.iso_search_core.specs.declared.nows.Now.TheVariants as now
use Rattle.iso_search.specs.EngineStates.{StandsAs}
use Rattle.iso_instructions.specs.declared.instructions.Instruction.TheVariants.{Execute, Jump, Proceed}
use Rattle.iso_frames.specs.declared.frames.Next.TheVariants as next
use Rattle.iso_machine.specs.Engines.{Engine, framed}
use Rattle.iso_machine.specs.Entered.{Begins}
use Rattle.iso_machine.specs.Wholes.{whole_chain}
use Rattle.iso_machine.proofs.Moves.Entered.{Tried, onward}
use Rattle.iso_machine.proofs.Moves.Framed.{begun_engine}
use Rattle.iso_machine.specs.LastCalls.{CallsAlone, HasFrame, IsLastFrame, place_of, with_frames}
use Rattle.iso_machine.specs.Lists.{cost_at, pending_at}

-- one frame more
pub frames_with : (v : Vec Frame Global) (f : Frame) → length v.items + 1 < 9223372036854775808 → Vec Frame Global
frames_with v f few =
    let long = length-append v.items (f ∷ []) in
    record {
      ptr = v.ptr;
      len = length v.items + 1;
      cap = length v.items + 1;
      alloc = v.alloc;
      items = v.items ++ f ∷ [];
      ok = (omega (arith, long), omega arith);
      small = few;
    }

pub with_items : (v : Vec Frame Global) (f : Frame) (few : length v.items + 1 < 9223372036854775808)
    → (frames_with v f few).items ≡ v.items ++ f ∷ []
unfolding frames_with
with_items v f few = refl

module _ {S W M : Type 0} (l : Framed S W M) (frames : Vec Frame Global) (code : Rc Code Global) (height : ℕ)
    (behind : Option Rest) (has : HasFrame l frames code height behind) (alone : CallsAlone code.value) where
  -- what is to be done at the frame
  pub last_cost : cost_at (with_frames l frames) (Some (place_of l)) ≤ body_cost most (cost_at l behind)
  last_cost =
      let two = alone.two in
      let cost = entered_cost code code.value height (length l.words.items) behind l.frames.items frames.items
      (length l.frames.items) 1 refl has refl (omega (arith, two)) in
      let few = below_words (length code.value.body.items - 1) (omega (arith, two)) in
      let up = cost_higher most (length code.value.body.items - 1) (cost_at l behind) (omega (arith, few)) in
      omega (arith, cost, up)

  -- how many cells its goal is still to take
  pub last_pending : pending_at (with_frames l frames) (Some (place_of l))
      ≡ cells_from code.value (length code.value.body.items - 1) + pending_at l behind
  last_pending =
      let two = alone.two in
      entered_pending code code.value height (length l.words.items) behind l.frames.items frames.items
      (length l.frames.items) 1 refl has refl (omega (arith, two))

-- the frame is the last one, and its clause is at the goal
pub last_there : {S W M : Type 0} (l : Framed S W M) (frames : Vec Frame Global) (code : Rc Code Global) (height : ℕ)
    (behind : Option Rest) → HasFrame l frames code height behind → (alone : CallsAlone code.value)
    → IsLastFrame frames.items (place_of l) code.value (length l.words.items) behind alone.goal
last_there l frames code height behind has alone =
    let f : Frame = record { work = Clause code None; height = height; top = length l.words.items; behind = behind } in
    record {
      frame = f;
      copy = code;
      at = record {
        at = ap (λ (fs : List Frame). slice_get fs (length l.frames.items)) has ∙ last_is l.frames.items f;
        work = refl;
      };
      same = refl;
      top = refl;
      behind_is = refl;
      address = refl;
      called = alone.called;
    }

-- those before it are the frames that stand
pub last_front : {S W M : Type 0} (l : Framed S W M) (frames : Vec Frame Global) (code : Rc Code Global) (height : ℕ)
    (behind : Option Rest) → HasFrame l frames code height behind
    → l.frames.items ≡ take (length l.frames.items) frames.items
last_front l frames code height behind has =
    sym (ap (take (length l.frames.items)) has ∙ take-append_seam l.frames.items _)

module _ {S W M : Type 0} (g : Ghosts S W M) (atom_word : ℕ → W) (e : Engine S W M)
    (rest : Option Rest) (s : State) (call : Tree) (c : databases.Clause)
    (behind : List Member) (store : S) (held : Framed S W M) (mark : ℕ) (frames : Vec Frame Global)
    (code : Rc Code Global) (has : HasFrame held frames code mark rest) (alone : CallsAlone code.value) where
  abbrev lists : Framed S W M
  lists = with_frames held frames

  -- the engine with the frame is where the search comes to
  pub last_engine : Tried g (framed atom_word) e rest s c behind store lists
      → Begins atom_word (g.present e.store) (g.present store) call c mark behind lists (Some (place_of held))
      → pending_at lists (Some (place_of held)) ≤ 2 * body_size c.body + pending_at e.lists rest
      → StandsAs g (framed atom_word)
      (onward g (framed atom_word) e store lists (now.Running (next.Code (place_of held))))
      (tried_clause call c mark behind s)
  unfolding last_there
  last_engine tried b pending =
      let there = last_there held frames code mark rest has alone in
      let is = alone.called in
      begun_engine g atom_word e rest s call c behind store lists mark tried (Some (place_of held)) b pending
      (now.Running (next.Code (place_of held))) (
        (
          whole_chain atom_word lists b.list,
          record {
            frame = there.frame;
            at = record { is = there.at.at };
            code = code;
            level = None;
            work = refl;
            stops = record {
              inside = (let two = alone.two in omega (arith, two));
              proceed = λ ends. (let same : Some (Execute alone.goal) ≡ Some Proceed = sym is ∙ ends in absurd (cc));
              jump = λ l jumps. (let same : Some (Execute alone.goal) ≡ Some (Jump l) = sym is ∙ jumps in absurd (cc));
            };
          },
        ),
        omega arith,
      )
