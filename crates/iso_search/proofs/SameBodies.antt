-- Bodies with the same values come to states that are the same.
use Rattle.std.proofs.Common.{◌≡◌, ℕ, List, [], ◌∷◌, refl, sym, ◌∙◌, arith}
use Rattle.iso_model.specs.Terms.Substitutions.{apply}
use Rattle.iso_model.specs.Search.Walker.{AsIs, Catching, Fail, Gather, Gathering, Goal, Member, pushed, State}
use Rattle.iso_model.specs.Search.Bodies.{Body, map_body}
use Rattle.iso_model.specs.Search.Replies.{Collecting}
use Rattle.iso_model.specs.Terms.Trees.{Tree}
use Rattle.iso_model.specs.Search.RunLaws.Sameness.{Around, Same, going, failing, same_alternative, same_gathering, IsValue, IsOwnCollecting}
use Rattle.iso_model.proofs.Search.RunLaws.SameSteps.{put_alike, list_same, same_lists}
use Rattle.iso_model.proofs.Search.RunLaws.Likeness.{Alike}
use Rattle.iso_search.proofs.Moves.Search.{own_same}

goal_no_failure : {b : Body} {m : ℕ} {ms ns : List Member} → Goal b m ∷ ms ≡ Fail ∷ ns → ⊥
goal_no_failure e = cc

pub around_itself : (s : State) (b : Body) (mark : ℕ) (rest : List Member) → s.list ≡ Goal b mark ∷ rest → Same s s → Around s s
around_itself s b mark rest list (going at same) = at
around_itself s b mark rest list (failing ms ns is are h) = absurd (goal_no_failure (sym list ∙ is))

-- a state that goes on, and is the same as another, is the same as itself
pub around_own : (o s : State) (b : Body) (mark : ℕ) (rest : List Member) → o.list ≡ Goal b mark ∷ rest → Alike o s → Around o o
around_own o s b mark rest list same = around_itself o b mark rest list (own_same o s same)

-- with other steps, and something else built
pub around_steps : (s : State) (list : List Member) (built steps : ℕ) → Around s s → Around (record s { list = list; built = built; steps = steps }) (record s { list = list; built = built; steps = steps })
around_steps s list built steps at = record { agree = at.agree; next = refl; beside = record { stack = at.beside.stack; world = refl; steps = refl; query = omega arith; built = omega arith } }

pub around_pushed : (s : State) (list : List Member) → Around s s → Around (pushed list AsIs s) (pushed list AsIs s)
around_pushed s list at =
    record {
      agree = at.agree;
      next = refl;
      beside = record { stack = same_alternative at.agree refl (omega arith) (list_same list) refl tt tt at.beside.stack; world = refl; steps = refl; query = omega arith; built = omega arith };
    }

pub same_first : (s : State) (b c : Body) (mark : ℕ) (ms : List Member) → map_body s.subst b ≡ map_body s.subst c → Around s s → Same (record s { list = Goal b mark ∷ ms }) (record s { list = Goal c mark ∷ ms })
same_first s b c mark ms same at =
    same_lists
    (record { agree = at.agree; next = refl; beside = record { stack = at.beside.stack; world = refl; steps = refl; query = omega arith; built = omega arith } })
    (put_alike s.subst s.subst ms ms b c mark same (list_same ms))

-- also before other alternatives, and with something else built
pub same_inside : (s : State) (b c : Body) (catcher recovery : Tree) (mark built : ℕ) (rest ms : List Member) → map_body s.subst b ≡ map_body s.subst c → IsValue s.subst catcher → IsValue s.subst recovery → Around s s
    → Same (record (pushed rest (Catching catcher recovery) s) { list = Goal b mark ∷ ms; built = built }) (record (pushed rest (Catching catcher recovery) s) { list = Goal c mark ∷ ms; built = built })
same_inside s b c catcher recovery mark built rest ms same one other at =
    same_lists
    (record {
      agree = at.agree;
      next = refl;
      beside = record { stack = same_alternative at.agree refl (omega arith) (list_same rest) refl (one, other) (one, other) at.beside.stack; world = refl; steps = refl; query = omega arith; built = omega arith };
    })
    (put_alike s.subst s.subst ms ms b c mark same (list_same ms))

-- so for all of its solutions, with templates of the same value
pub same_finding : (s : State) (b c : Body) (t template : Tree) (collecting : Collecting) (mark height built : ℕ) (rest : List Member)
    → map_body s.subst b ≡ map_body s.subst c → apply s.subst t ≡ apply s.subst template
    → IsOwnCollecting s.subst collecting → Around s s
    → Same (record (pushed rest (Gathering collecting [] 0) s) { list = Goal b mark ∷ Gather height t ∷ rest; built = built })
    (record (pushed rest (Gathering collecting [] 0) s) { list = Goal c mark ∷ Gather height template ∷ rest; built = built })
same_finding s b c t template collecting mark height built rest same value own at =
    same_lists
    (record {
      agree = at.agree;
      next = refl;
      beside = record { stack = same_alternative at.agree refl (omega arith) (list_same rest) refl own own at.beside.stack; world = refl; steps = refl; query = omega arith; built = omega arith };
    })
    (put_alike s.subst s.subst (Gather height t ∷ rest) (Gather height template ∷ rest) b c mark same (same_gathering value (list_same rest)))
