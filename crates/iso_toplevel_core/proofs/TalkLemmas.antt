-- How a dialogue goes on, text by text.
use Rattle.std.proofs.Common.{◌≡◌, ◌≤◌, ◌<◌, ◌-◌, ℕ, zero, suc, Bool, List, [], length, Option, Some, Result, Ok, Err, refl, subst, arith}
use Rattle.std.specs.Result.{IsErrAnd}
use Rattle.iso_model.specs.Search.Engines.{Phase, Ready}
use Rattle.iso_model.specs.Search.Walker.{World, State}
use Rattle.iso_model.specs.Session.Sessions.{Script, Closes, Done}
use Rattle.iso_model.specs.declared.limit.Limit.{Limit}
use Rattle.iso_model.specs.declared.limit.Limit.TheVariants as limit
use Rattle.iso_session_core.specs.declared.flows.Flow.{Flow}
use Rattle.iso_session_core.specs.Progress.{Place, Advances}
use Rattle.iso_session_core.proofs.ProgressLemmas.{advance_none, advance_on}
use Rattle.iso_toplevel_core.specs.declared.faults.Fault.{Fault}
use Rattle.iso_toplevel_core.specs.Dialogues.{Behind, text_shown, question, dialogue}
use Rattle.iso_toplevel_core.specs.Progress.{GoesOn, Stops, Unheard, Fails, Does}
use Rattle.iso_toplevel_core.specs.Screens.{Leaves, IsAsked}
use Rattle.iso_toplevel_core.proofs.PartLemmas.{fails_after, memory_stops}

-- what follows a text over this world
abbrev pub talk_on : Bool → ℕ → ℕ → World → List ℕ → List ℕ → Script
talk_on waits budget turns w text left = text_shown waits budget text w left (λ v later. dialogue waits budget turns v later)

-- How far a dialogue has come: what is left of the input, and where its script is.
pub record TalkPlace (Stands : State → Type 0) (waits : Bool) (budget : ℕ) (xs : List ℕ) (known : Option (List ℕ)) (old new : Place) (script : Script) : Type 0 where
  pub at : State
  pub stands : Stands at
  pub left : List ℕ
  pub known_left : known ≡ Some left
  pub no_more : length left ≤ length xs
  pub turns : ℕ
  pub enough : length left ≤ turns
  pub advances : Advances old new script (dialogue waits budget (suc turns) at.world left)

pub talk_begins : (Stands : State → Type 0) (waits : Bool) (budget : ℕ) (s : State) (xs : List ℕ) (known : Option (List ℕ)) (old : Place) (turns : ℕ) → Stands s → known ≡ Some xs → length xs < turns
    → TalkPlace Stands waits budget xs known old old (dialogue waits budget turns s.world xs)
talk_begins Stands waits budget s xs known old zero stands is enough = absurd (omega (arith, enough))
talk_begins Stands waits budget s xs known old (suc turns) stands is enough = record {
  at = s;
  stands = stands;
  left = xs;
  known_left = is;
  no_more = omega arith;
  turns = turns;
  enough = omega (arith, enough);
  advances = advance_none old (dialogue waits budget (suc turns) s.world xs);
}

dialogue_turn : (waits : Bool) (budget turns : ℕ) (w : World) (left : List ℕ)
    → dialogue waits budget (suc turns) w left ≡ question waits (suc (length left)) [] left (talk_on waits budget turns w)
unfolding dialogue
dialogue_turn waits budget turns w left = refl

module _ (Stands : State → Type 0) (waits : Bool) (budget : ℕ) (xs : List ℕ) (known later : Option (List ℕ)) (old mid new : Place) (script : Script) (p : TalkPlace Stands waits budget xs known old mid script) where
  abbrev asked : Script
  asked = question waits (suc (length p.left)) [] p.left (talk_on waits budget p.turns p.at.world)

  asks : Advances old mid script asked
  asks = subst (λ z. Advances old mid script z) (dialogue_turn waits budget p.turns p.at.world p.left) p.advances

  pub talk_fails : (May : Limit → State → Type 0) (now : Phase) (behind : Behind) (e : Fault) (r : Result Flow Fault) → IsErrAnd r (λ f. f ≡ e) → Fails mid new asked e → Does waits budget Stands May now old new xs later script behind r
  talk_fails May now behind e (Ok f) failed fails = absurd failed
  talk_fails May now behind e (Err f) failed fails = rw failed (fails_after old mid new script asked e asks fails)

  -- the loop went round too often
  pub talk_endless : Unheard old mid script
  talk_endless = record { rest = asked; advances = asks }

  pub talk_memory : (May : Limit → State → Type 0) (now : Phase) → Unheard mid new asked → now ≡ Ready → Stops waits budget Stands May now limit.Memory old new script
  talk_memory May now u ready = memory_stops waits budget Stands May now old new script u.rest (advance_on asks u.advances) ready

  -- the input is at its end
  pub talk_ends : (now : Phase) → Leaves mid new p.left later asked (λ _. Closes Done) → now ≡ Ready → GoesOn Stands now old new xs later script (λ _ _. Closes Done)
  talk_ends now l ready = record {
    at = p.at;
    stands = p.stands;
    ready = ready;
    left = l.left;
    known_left = l.known_left;
    no_more = omega (arith, l.no_more, p.no_more);
    advances = advance_on asks l.advances;
  }

  -- a text was read
  pub talk_asked : (text : List ℕ) → (a : IsAsked mid new p.left later text asked (talk_on waits budget p.turns p.at.world)) → Advances old new script (talk_on waits budget p.turns p.at.world text a.left)
  talk_asked text a = advance_on asks a.advances

  -- its queries were run
  pub talk_goes : (text : List ℕ) (Later : State → Type 0) (now : Phase) (last : Place) (after : Option (List ℕ)) → (a : IsAsked mid new p.left later text asked (talk_on waits budget p.turns p.at.world))
      → GoesOn Later now new last a.left after (talk_on waits budget p.turns p.at.world text a.left) (λ v l. dialogue waits budget p.turns v l)
      → TalkPlace Later waits budget xs after old last script
  talk_goes text Later now last after a g =
      let fewer = p.turns - 1 in
      let turn : p.turns ≡ suc fewer = omega (arith, p.enough, a.shorter) in
      record {
        at = g.at;
        stands = g.stands;
        left = g.left;
        known_left = g.known_left;
        no_more = omega (arith, g.no_more, a.shorter, p.no_more);
        turns = fewer;
        enough = omega (arith, g.no_more, a.shorter, p.enough);
        advances = advance_on (talk_asked text a) (subst (λ n. Advances new last (talk_on waits budget p.turns p.at.world text a.left) (dialogue waits budget n g.at.world g.left)) turn g.advances);
      }

pub one_more : (xs : List ℕ) → length xs < suc (length xs)
one_more xs = omega arith
