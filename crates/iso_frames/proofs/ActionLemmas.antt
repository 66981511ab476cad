-- What code does at an address, by the instruction there, with conjunctions in front taken apart.
use Rattle.std.proofs.Common.{◌≡◌, ◌≢◌, ℕ, suc, ◌≤◌, ◌<◌, List, [], ◌∷◌, ◌⊎◌, inl, inr, Some, refl, sym, ◌∙◌, subst}
use Rattle.std.specs.List.{slice_get}
use Rattle.iso_model.specs.Terms.Trees.{Tree}
use Rattle.iso_model.specs.Terms.Substitutions.{Subst}
use Rattle.iso_model.specs.Search.Bodies as bodies
use Rattle.iso_model.specs.Search.Bodies.{Body, Run, And, Or, If, Choose}
use Rattle.iso_model.specs.Search.RunLaws.Sameness.{open_list}
use Rattle.iso_prep.specs.Classes.{goals_of}
use Rattle.iso_prep.specs.Trees.{At}
use Rattle.iso_alloc.specs.Plans.{Layout}
use Rattle.iso_compile.specs.Control.{Member, Goal, CutTo, AreOlder, IsCall, Continues, proceeds, executes, calls, answers, cuts, cuts_back, joins, tries, commits, chooses, jumps}
use Rattle.iso_compile.specs.Evaluations.{ComesTo}
use Rattle.iso_compile.specs.declared.control.Mark.{Mark}
use Rattle.iso_compile.specs.declared.control.Mark.TheVariants.{Level, AboveLevel}
use Rattle.iso_compile.specs.declared.control.Instruction as compiled
use Rattle.iso_compile.specs.declared.control.Instruction.TheVariants.{Call, Execute, Is, Compare, Proceed, Cut, GetLevel, TryElse, Jump}
use Rattle.iso_compile.specs.declared.goals.Call as called
use Rattle.iso_program.proofs.ClauseLemmas.{templates-parts}
use Rattle.iso_frames.specs.Running.{placed, FitMembers}

-- ---- conjunctions in front

-- no conjunction comes first
abbrev pub IsApart : List Member → Type 0
IsApart (Goal (And x y) m ∷ ms) = ⊥
IsApart ms = Unit {0}

-- The same members, without a conjunction in front.
pub record Opened (plan : Layout) (code : List compiled.Instruction) (a : ℕ) (ms : List Member) : Type 0 where
  pub members : List Member
  pub continues : Continues plan code a members
  pub apart : IsApart members
  pub same : (s : Subst) (called : ℕ) (kept : ℕ → ℕ)
      → open_list (placed s called kept ms) ≡ placed s called kept members
  pub fits : (count : ℕ) → FitMembers count ms → FitMembers count members

-- where none comes first, none is taken apart
apart_open : (s : Subst) (called : ℕ) (kept : ℕ → ℕ) (ms : List Member) → IsApart ms
    → open_list (placed s called kept ms) ≡ placed s called kept ms
apart_open s called kept [] apart = refl
apart_open s called kept (Goal bodies.Cut m ∷ ms) apart = refl
apart_open s called kept (Goal (Run t) m ∷ ms) apart = refl
apart_open s called kept (Goal (And x y) m ∷ ms) apart = absurd apart
apart_open s called kept (Goal (Or x y) m ∷ ms) apart = refl
apart_open s called kept (Goal (If x y) m ∷ ms) apart = refl
apart_open s called kept (Goal (Choose x y z) m ∷ ms) apart = refl
apart_open s called kept (CutTo m ∷ ms) apart = refl

module _ {plan : Layout} {code : List compiled.Instruction} where
  already : {a : ℕ} (ms : List Member) → Continues plan code a ms → IsApart ms → Opened plan code a ms
  already ms h apart =
      record { members = ms; continues = h; apart = apart; same = λ s called kept. apart_open s called kept ms apart; fits = λ count fit. fit }

  pub opened : {a : ℕ} {ms : List Member} → ((l : ℕ) → slice_get code a ≢ Some (Jump l)) → Continues plan code a ms
      → Opened plan code a ms
  opened none (proceeds at) = already _ (proceeds at) tt
  opened none (executes {t = t} {m = m} at is) = already (Goal (Run t) m ∷ []) (executes at is) tt
  opened none (calls {t = t} {m = m} {rest = rest} at is on) = already (Goal (Run t) m ∷ rest) (calls at is on) tt
  opened none (answers {t = t} {m = m} {rest = rest} at comes on) =
      already (Goal (Run t) m ∷ rest) (answers at comes on) tt
  opened none (cuts {m = m} {rest = rest} at on) = already (Goal bodies.Cut m ∷ rest) (cuts at on) tt
  opened none (cuts_back {m = m} {rest = rest} at on) = already (CutTo m ∷ rest) (cuts_back at on) tt
  opened none (joins {x = x} {y = y} inner) =
      let one = opened none inner in
      record {
        members = one.members;
        continues = one.continues;
        apart = one.apart;
        same = one.same;
        fits =
            λ count fit. (let both = templates-parts count (goals_of x) (goals_of y) fit.0 in
            one.fits count (both.0, (both.1, fit.1)));
      }
  opened none (tries {x = x} {y = y} {m = m} {rest = rest} at low here there) =
      already (Goal (Or x y) m ∷ rest) (tries at low here there) tt
  opened none (commits {x = x} {y = y} {m = m} {rest = rest} at above older here) =
      already (Goal (If x y) m ∷ rest) (commits at above older here) tt
  opened none (chooses {x = x} {y = y} {z = z} {m = m} {rest = rest} at next low above older here there) =
      already (Goal (Choose x y z) m ∷ rest) (chooses at next low above older here there) tt
  opened none (jumps {l = l} at less there) = absurd (none l at.is)

-- ---- by the instruction

module _ (plan : Layout) (code : List compiled.Instruction) where
  -- a goal is called, and code goes on at the address below
  pub record CallsThere (a : ℕ) (ms : List Member) (c : called.Call) : Type 0 where
    pub below : ℕ
    pub is : a ≡ suc below
    pub goal : Tree
    pub mark : Mark
    pub rest : List Member
    pub are : ms ≡ Goal (Run goal) mark ∷ rest
    pub call : IsCall plan.registers c goal
    pub on : Continues plan code below rest

  -- the last goal is called
  pub record ExecutesThere (a : ℕ) (ms : List Member) (c : called.Call) : Type 0 where
    pub goal : Tree
    pub mark : Mark
    pub are : ms ≡ Goal (Run goal) mark ∷ []
    pub call : IsCall plan.registers c goal

  -- arithmetic is done
  pub record AnswersThere (a : ℕ) (ms : List Member) (i : compiled.Instruction) : Type 0 where
    pub below : ℕ
    pub is : a ≡ suc below
    pub goal : Tree
    pub mark : Mark
    pub rest : List Member
    pub are : ms ≡ Goal (Run goal) mark ∷ rest
    pub comes : ComesTo i goal
    pub on : Continues plan code below rest

  -- a cut is done, or what is left of an if-then
  pub record CutsThere (a : ℕ) (ms : List Member) (m : Mark) : Type 0 where
    pub below : ℕ
    pub is : a ≡ suc below
    pub rest : List Member
    pub are : (ms ≡ Goal bodies.Cut m ∷ rest) ⊎ (ms ≡ CutTo m ∷ rest)
    pub on : Continues plan code below rest

  -- a disjunction
  pub record TriesThere (a : ℕ) (ms : List Member) (l : ℕ) : Type 0 where
    pub below : ℕ
    pub is : a ≡ suc below
    pub first : Body
    pub other : Body
    pub mark : Mark
    pub rest : List Member
    pub are : ms ≡ Goal (Or first other) mark ∷ rest
    pub low : l ≤ below
    pub here : Continues plan code below (Goal first mark ∷ rest)
    pub there : Continues plan code l (Goal other mark ∷ rest)

  -- an if-then
  pub record CommitsThere (a : ℕ) (ms : List Member) (k : ℕ) : Type 0 where
    pub below : ℕ
    pub is : a ≡ suc below
    pub condition : Body
    pub next : Body
    pub mark : Mark
    pub rest : List Member
    pub are : ms ≡ Goal (If condition next) mark ∷ rest
    pub slots : plan.slots ≤ k
    pub older : AreOlder k (Goal next mark ∷ rest)
    pub here : Continues plan code below (Goal condition (Level k) ∷ CutTo (Level k) ∷ Goal next mark ∷ rest)

  -- an if-then-else: an alternative is kept at the address below
  pub record ChoosesThere (a : ℕ) (ms : List Member) (k : ℕ) : Type 0 where
    pub below : ℕ
    pub is : a ≡ suc (suc below)
    pub alternative : ℕ
    pub try : slice_get code (suc below) ≡ Some (TryElse alternative)
    pub low : alternative ≤ below
    pub condition : Body
    pub next : Body
    pub other : Body
    pub mark : Mark
    pub rest : List Member
    pub are : ms ≡ Goal (Choose condition next other) mark ∷ rest
    pub slots : plan.slots ≤ k
    pub older : AreOlder k (Goal next mark ∷ rest)
    pub here : Continues plan code below (Goal condition (AboveLevel k) ∷ CutTo (Level k) ∷ Goal next mark ∷ rest)
    pub there : Continues plan code alternative (Goal other mark ∷ rest)

  -- what the members are where this instruction is
  abbrev pub Acts : ℕ → List Member → compiled.Instruction → Type 0
  Acts a ms (Call c) = CallsThere a ms c
  Acts a ms (Execute c) = ExecutesThere a ms c
  Acts a ms (Is p ks) = AnswersThere a ms (Is p ks)
  Acts a ms (Compare c ks) = AnswersThere a ms (Compare c ks)
  Acts a ms Proceed = ms ≡ []
  Acts a ms (Cut m) = CutsThere a ms m
  Acts a ms (GetLevel k) = CommitsThere a ms k ⊎ ChoosesThere a ms k
  Acts a ms (TryElse l) = TriesThere a ms l
  Acts a ms (Jump l) = (l < a) × Continues plan code l ms

  answers_act : {a : ℕ} {ms : List Member} (i : compiled.Instruction) (t : Tree) → ComesTo i t → AnswersThere a ms i
      → Acts a ms i
  answers_act (Is p ks) t comes h = h
  answers_act (Compare c ks) t comes h = h
  answers_act (Call c) t comes h = absurd comes
  answers_act (Execute c) t comes h = absurd comes
  answers_act Proceed t comes h = absurd comes
  answers_act (Cut m) t comes h = absurd comes
  answers_act (GetLevel k) t comes h = absurd comes
  answers_act (TryElse l) t comes h = absurd comes
  answers_act (Jump l) t comes h = absurd comes

  own : {a : ℕ} (ms : List Member) (i j : compiled.Instruction) → At code a i → slice_get code a ≡ Some j → Acts a ms i
      → Acts a ms j
  own {a = a} ms i j at is does =
      (let whole : Some i ≡ Some j = sym at.is ∙ is in let same : i ≡ j = cc in subst (Acts a ms) same does)

  -- what is done where no conjunction comes first
  pub acts : {a : ℕ} {ms : List Member} (i : compiled.Instruction) → slice_get code a ≡ Some i → IsApart ms
      → Continues plan code a ms → Acts a ms i
  acts i is apart (proceeds at) = own [] Proceed i at is refl
  acts i is apart (executes {c = c} {t = t} {m = m} at call) =
      own (Goal (Run t) m ∷ []) (Execute c) i at is (record { goal = t; mark = m; are = refl; call = call })
  acts i is apart (calls {a = a} {c = c} {t = t} {m = m} {rest = rest} at call on) =
      own (Goal (Run t) m ∷ rest) (Call c) i at is
      (record { below = a; is = refl; goal = t; mark = m; rest = rest; are = refl; call = call; on = on })
  acts i is apart (answers {a = a} {i = j} {t = t} {m = m} {rest = rest} at comes on) =
      own (Goal (Run t) m ∷ rest) j i at is
      (answers_act j t comes
      (record { below = a; is = refl; goal = t; mark = m; rest = rest; are = refl; comes = comes; on = on }))
  acts i is apart (cuts {a = a} {m = m} {rest = rest} at on) =
      own (Goal bodies.Cut m ∷ rest) (Cut m) i at is
      (record { below = a; is = refl; rest = rest; are = inl refl; on = on })
  acts i is apart (cuts_back {a = a} {m = m} {rest = rest} at on) =
      own (CutTo m ∷ rest) (Cut m) i at is (record { below = a; is = refl; rest = rest; are = inr refl; on = on })
  acts i is apart (joins inner) = absurd apart
  acts i is apart (tries {a = a} {l = l} {x = x} {y = y} {m = m} {rest = rest} at low here there) =
      own (Goal (Or x y) m ∷ rest) (TryElse l) i at is
      (record {
        below = a;
        is = refl;
        first = x;
        other = y;
        mark = m;
        rest = rest;
        are = refl;
        low = low;
        here =
            here;
        there = there;
      })
  acts i is apart (commits {a = a} {k = k} {x = x} {y = y} {m = m} {rest = rest} at above older here) =
      own (Goal (If x y) m ∷ rest) (GetLevel k) i at is
      (inl (record {
        below = a;
        is = refl;
        condition = x;
        next = y;
        mark = m;
        rest = rest;
        are = refl;
        slots =
            above;
        older = older;
        here = here;
      }))
  acts i is apart (chooses {a = a} {k = k} {l = l} {x = x} {y = y} {z = z} {m = m}
      {rest = rest} at next low above older here there) =
      own (Goal (Choose x y z) m ∷ rest) (GetLevel k) i at is (inr (record {
        below = a;
        is = refl;
        alternative = l;
        try = next.is;
        low = low;
        condition = x;
        next = y;
        other = z;
        mark = m;
        rest = rest;
        are = refl;
        slots = above;
        older = older;
        here = here;
        there = there;
      }))
  acts {ms = ms} i is apart (jumps {l = l} at less there) = own ms (Jump l) i at is (less, there)
