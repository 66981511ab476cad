-- An unbound variable that is unified with the compound of a block.
use Rattle.std.proofs.Common.{◌≡◌, ◌≢◌, ◌+◌, ◌<◌, ◌==◌, ◌++◌, ℕ, zero, suc, Bool, true, false, List, [], ◌∷◌, length, map, Option, Some, None, slice_index_or, Result, Ok, Err, IfOk, slice_get, inl, inr, refl, sym, ap, subst, ◌∙◌, arith}
use Rattle.std.specs.List.{All}
use Rattle.std.proofs.lemmas.List.{append-nil}
use Rattle.std.proofs.lemmas.Bool.{false≢true, eq-eqb, ne_eqb}
use Rattle.std.proofs.lemmas.List.Elements.{All-nil, All-cons, All-head, All-tail, All-weaker, All-append}
use Rattle.std.proofs.lemmas.Option.{slice_get_within, slice_get-get_or}
use Rattle.iso_model.specs.Terms.Trees.{Variable, count}
use Rattle.iso_model.specs.Terms.Variables.{occurs}
use Rattle.iso_model.specs.Terms.Substitutions.{Subst, apply}
use Rattle.iso_store_core.specs.Arguments.{arity}
use Rattle.iso_store_core.specs.Presents.{Present, meaning, IsUnification, Untouched}
use Rattle.iso_compile.specs.CodeLaws.{State}
use Rattle.iso_compile.specs.Table.{Registers, part_term, part_row, made, filled}
use Rattle.iso_code.specs.Loaded.{IsInside, IsMarked, AreMarked, IsMet, met_after, met_behind, part_at, block_at, all_operands, NewAreNext, IsSound, IsOfCompound}
use Rattle.iso_code.specs.Standing.{IsFor, Known, At, Steps, Free, Files, Setting, Stands, NoneYounger, Ends}
use Rattle.iso_code.specs.declared.operands.Operand.{Operand}
use Rattle.iso_code.specs.declared.operands.Operand.TheVariants.{New, Old, Integer, Atom, Inner}
use Rattle.iso_code.specs.declared.operands.Block.{Block}
use Rattle.iso_writing.specs.Pushing.{IsHeld, IsApart}
use Rattle.iso_writing.specs.Writing.{Adds, TakesMet, MakesVariables, MakesAll, WritesBlock}
use Rattle.iso_code.specs.Standing.{files}
use Rattle.iso_code.proofs.StandLemmas.{unify_ends}
use Rattle.iso_writing.proofs.KnownLemmas.{adds_on, all_left, all_right}
use Rattle.iso_writing.proofs.VariableLemmas.{Begins, BeginsWith, begins_stands, begins_with_on, without_compounds, makes_none, makes_then, met_stays, unmet_before, adds_stands}

-- ---- what is known of operands behind them

-- the variables of operands are met behind them
pub marked_met : (met : ℕ → Bool) (operands : List Operand) → AreMarked met operands → All (IsMet (met_behind met operands)) operands
marked_met met [] marks = All-nil (IsMet met)
marked_met met (operand ∷ operands) marks =
    All-cons (IsMet (met_behind (met_after met operand) operands)) operand operands (first operand marks.0) (marked_met (met_after met operand) operands marks.1)
  where
    first : (operand : Operand) → IsMarked met operand → IsMet (met_behind (met_after met operand) operands) operand
    first (New x) h = met_stays (met_after met (New x)) operands x (rw (eq-eqb x x refl) refl)
    first (Old x) h = met_stays met operands x h
    first (Integer z) h = tt
    first (Atom a) h = tt
    first (Inner k) h = tt

-- it is no variable that was met
abbrev IsUnmet : (ℕ → Bool) → Operand → Type 0
IsUnmet met (New x) = met x ≡ false
IsUnmet met operand = Unit {0}

-- those that are new weren't met before any of them
marked_unmet : (met : ℕ → Bool) (operands : List Operand) → AreMarked met operands → All (IsUnmet met) operands
marked_unmet met [] marks = All-nil (IsUnmet met)
marked_unmet met (operand ∷ operands) marks =
    All-cons (IsUnmet met) operand operands (first operand marks.0)
    (All-weaker (IsUnmet (met_after met operand)) (IsUnmet met) earlier operands (marked_unmet (met_after met operand) operands marks.1))
  where
    first : (operand : Operand) → IsMarked met operand → IsUnmet met operand
    first (New x) h = h
    first (Old x) h = tt
    first (Integer z) h = tt
    first (Atom a) h = tt
    first (Inner k) h = tt

    earlier : (other : Operand) → IsUnmet (met_after met operand) other → IsUnmet met other
    earlier (New x) h = unmet_before met (operand ∷ []) x h
    earlier (Old x) h = tt
    earlier (Integer z) h = tt
    earlier (Atom a) h = tt
    earlier (Inner k) h = tt

module _ {W : Type 0} {p : Present W} {environment arguments compounds : List W} {t : Setting} {met : ℕ → Bool} {state : State}
    (stands : Stands p (files environment arguments compounds) t met state) where
  -- the words of operands that were met stand
  pub held_behind : (operands : List Operand) → All (IsMet met) operands → All (IsHeld p environment compounds) operands
  held_behind operands met_all = All-weaker (IsMet met) (IsHeld p environment compounds) each operands met_all
    where
      each : (operand : Operand) → IsMet met operand → IsHeld p environment compounds operand
      each (New x) is = λ w at. (stands.known.variables x w is at).holds
      each (Old x) is = λ w at. (stands.known.variables x w is at).holds
      each (Integer z) is = tt
      each (Atom a) is = tt
      each (Inner k) is = λ w at. (stands.known.compounds k w at).holds

-- there is an element at a place inside
there_is : {W : Type 0} (xs : List W) (i : ℕ) → i < length xs → (w : W) × (slice_get xs i ≡ Some w)
there_is (x ∷ xs) zero h = (x, refl)
there_is (x ∷ xs) (suc i) h = there_is xs i (omega (arith, h))
there_is [] i h = absurd (omega (arith, h))

-- ---- a variable that doesn't occur in the compound of a block

-- a variable whose word stands isn't one that comes later
other_number : {W : Type 0} (p : Present W) (variable : W) (n m : ℕ) → p.holds variable ≡ true → meaning p variable ≡ Variable n → Untouched p m → (m == n) ≡ false
other_number p variable n m holds is clean = ne_eqb m n (λ e.
    false≢true (sym (clean.meanings variable holds) ∙ ap (occurs m) is ∙ eq-eqb n m (sym e)))

module _ {W : Type 0} (p q : Present W) (clean : (n : ℕ) → p.taken n ≡ false → Untouched p n) (names : List (List ℕ)) (first n : ℕ) (variable : W)
    (environment environment' arguments compounds : List W) (t : Setting) (met behind : ℕ → Bool) (state : State) where
  -- it doesn't occur in the argument that an operand is
  operand_apart : p.holds variable ≡ true → meaning p variable ≡ Variable n → Stands p (files environment arguments compounds) t met state
      → Stands q (files environment' arguments compounds) t behind state → t.first ≡ first → length environment' ≡ length environment → (operand : Operand) → IsUnmet met operand
      → IsMet behind operand → IsInside (length names) (length environment) (length compounds) operand → IsApart q n environment' compounds operand
      → occurs n (apply state.subst (part_term first state.registers (part_at names t.low operand))) ≡ false
  operand_apart holds is before after begins count (New x) unmet is_met inside apart =
      let low : x < t.count = subst (λ m. x < m) before.room inside in
      let free : Free p state.subst (first + x) = subst (λ m. Free p state.subst (m + x)) begins (before.free x low unmet) in
      ap (occurs n) free.alone ∙ other_number p variable n (first + x) holds is (clean (first + x) free.taken)
  operand_apart holds is before after begins count (Old x) unmet is_met inside apart =
      let word = there_is environment' x (subst (λ m. x < m) (sym count) inside) in
      let known = (after.known.variables x word.0 is_met word.1).same in
      subst (λ m. occurs n (state.subst (m + x)) ≡ false) begins (ap (occurs n) (sym known) ∙ apart word.0 word.1)
  operand_apart holds is before after begins count (Integer z) unmet is_met inside apart = refl
  operand_apart holds is before after begins count (Atom a) unmet is_met inside apart = refl
  operand_apart holds is before after begins count (Inner k) unmet is_met inside apart =
      let word = there_is compounds k inside in
      ap (occurs n) (sym (after.known.compounds k word.0 word.1).same) ∙ apart word.0 word.1

  -- nor in those that operands are
  row_apart : p.holds variable ≡ true → meaning p variable ≡ Variable n → Stands p (files environment arguments compounds) t met state
      → Stands q (files environment' arguments compounds) t behind state → t.first ≡ first → length environment' ≡ length environment → (operands : List Operand)
      → All (IsUnmet met) operands → All (IsMet behind) operands → All (IsInside (length names) (length environment) (length compounds)) operands
      → All (IsApart q n environment' compounds) operands
      → occurs n (apply state.subst (part_row first state.registers (map (part_at names t.low) operands))) ≡ false
  row_apart holds is before after begins count [] unmet is_met inside apart = refl
  row_apart holds is before after begins count (operand ∷ operands) unmet is_met inside apart =
      let one = operand_apart holds is before after begins count operand (All-head (IsUnmet met) operand operands unmet) (All-head (IsMet behind) operand operands is_met)
      (All-head (IsInside (length names) (length environment) (length compounds)) operand operands inside) (All-head (IsApart q n environment' compounds) operand operands apart) in
      let rest = row_apart holds is before after begins count operands (All-tail (IsUnmet met) operand operands unmet) (All-tail (IsMet behind) operand operands is_met)
      (All-tail (IsInside (length names) (length environment) (length compounds)) operand operands inside) (All-tail (IsApart q n environment' compounds) operand operands apart) in
      rw (one, rest) refl

-- as many members as operands
row_count : (s : Subst) (first : ℕ) (rs : Registers) (names : List (List ℕ)) (low : ℕ) (operands : List Operand)
    → count (apply s (part_row first rs (map (part_at names low) operands))) ≡ length operands
row_count s first rs names low [] = refl
row_count s first rs names low (operand ∷ operands) = omega (arith, row_count s first rs names low operands)

-- a compound that was made has as many arguments as its block
pub made_arity : {W : Type 0} (p : Present W) (s : Subst) (first : ℕ) (rs : Registers) (names : List (List ℕ)) (low : ℕ) (b : Block) (w : W)
    → At p s w (made first rs (block_at names low b)) → arity (meaning p w) ≡ length b.operands.items
made_arity p s first rs names low b w at = ap arity at.same ∙ row_count s first rs names low b.operands.items

-- ---- the two are unified

-- an answer behind what words for terms went through before it
ends_behind : {W : Type 0} (o p q : Present W) (f : Files W) (t : Setting) (met : ℕ → Bool) (r s : Subst) (answer : Bool) (u : Option State) → Steps o r p s → Ends p s q f t met answer u
    → Ends o r q f t met answer u
ends_behind o p q f t met r s true (Some state) before h = (h.0, λ w a at. h.1 w a (before w a at))
ends_behind o p q f t met r s true None before h = h
ends_behind o p q f t met r s false (Some state) before h = h
ends_behind o p q f t met r s false None before h = h

-- what is met for the first time is younger than all that there is, also behind operands that are next
pub younger_behind : {W : Type 0} (p q : Present W) (t : Setting) (met : ℕ → Bool) (operands : List Operand) → NoneYounger p t met → TakesMet p q t.first met (met_behind met operands)
    → NewAreNext met (met_behind met operands) → NoneYounger q t (met_behind met operands)
younger_behind p q t met operands youngest takes next x m low none is =
    elim (takes m is) [
      | inl was ↦ youngest x m low (unmet_before met operands x none) was
      | inr came ↦ (let older = next came.0 x came.2 came.3 none in let e = came.1 in omega (arith, older, e))
    ]

-- The compound of the first block was made, behind those of the blocks behind it.
abbrev pub MakesBlock : {W : Type 0} → List (List ℕ) → Block → List Block → ℕ → Present W → Present W → W → List W → List W → List W → List W → Type 0
MakesBlock {W} names b bs first p q w environment environment' compounds compounds' =
    (arguments : List W) (t : Setting) (met : ℕ → Bool) (state : State) → Stands p (files environment arguments compounds) t met state → t.first ≡ first
    → AreMarked met (all_operands (b ∷ bs))
    → Stands q (files environment' arguments compounds') t (met_behind met (all_operands (b ∷ bs)))
    (record { subst = state.subst; registers = filled first (map (block_at names t.low) bs) state.registers })
    × Steps p state.subst q state.subst × TakesMet p q first met (met_behind met (all_operands (b ∷ bs)))
    × At q state.subst w (made first (filled first (map (block_at names t.low) bs) state.registers) (block_at names t.low b))

-- the variable is unified with it
pub block_writes : {W : Type 0} (names : List (List ℕ)) (b : Block) (bs : List Block) (first : ℕ) (p q r : Present W) (clean : (n : ℕ) → q.taken n ≡ false → Untouched q n)
    (variable w : W) (environment environment' compounds compounds' : List W) (answer : Bool)
    → MakesBlock names b bs first p q w environment environment' compounds compounds' → IsUnification q r (meaning q variable) (meaning q w) answer
    → WritesBlock names b bs first p r variable environment environment' compounds compounds' answer
block_writes names b bs first p q r clean variable w environment environment' compounds compounds' answer makes unified arguments t met state a ready begins at marks next =
    let near = makes arguments t met state ready.stands begins marks in
    let after : State = record { subst = state.subst; registers = filled first (map (block_at names t.low) bs) state.registers } in
    let takes : TakesMet p q t.first met (met_behind met (all_operands (b ∷ bs))) = rw begins near.2 in
    let behind = met_behind met (all_operands (b ∷ bs)) in
    let f = files environment' arguments compounds' in
    ends_behind p q r f t behind state.subst state.subst answer _ near.1
    (unify_ends q r clean f t behind after variable w a (made first after.registers (block_at names t.low b)) answer
    (record { stands = near.0; youngest = younger_behind p q t met (all_operands (b ∷ bs)) ready.youngest takes next }) (near.1 variable a at) near.3 unified)

-- also where there may be an error
pub block_unifies : {W E : Type 0} (names : List (List ℕ)) (b : Block) (bs : List Block) (first : ℕ) (p q r : Present W) (clean : (n : ℕ) → q.taken n ≡ false → Untouched q n)
    (variable w : W) (environment environment' compounds compounds' : List W) (result : Result Bool E)
    → MakesBlock names b bs first p q w environment environment' compounds compounds' → IfOk result (IsUnification q r (meaning q variable) (meaning q w))
    → IfOk result (λ answer. WritesBlock names b bs first p r variable environment environment' compounds compounds' answer)
block_unifies names b bs first p q r clean variable w environment environment' compounds compounds' (Ok answer) makes unified =
    block_writes names b bs first p q r clean variable w environment environment' compounds compounds' answer makes unified
block_unifies names b bs first p q r clean variable w environment environment' compounds compounds' (Err e) makes unified = tt

-- ---- a block without others in it

-- the words of its operands stand
pub flat_held : {W : Type 0} (p q : Present W) (environment environment' compounds : List W) (first : ℕ) (operands : List Operand) → BeginsWith p environment compounds first operands
    → MakesVariables operands first p q environment environment' → All (IsHeld q environment' compounds) operands
flat_held p q environment environment' compounds first operands h makes =
    let near = makes h.0.arguments compounds h.1 h.2 h.3 (begins_stands environment compounds operands h) h.7 h.8 in
    held_behind near.0 operands (marked_met h.2 operands h.8)

-- its compound is made
pub flat_makes : {W : Type 0} (names : List (List ℕ)) (b : Block) (first : ℕ) (p q : Present W) (w : W) (environment environment' compounds : List W)
    → MakesVariables b.operands.items first p q environment environment'
    → ((arguments : List W) (t : Setting) (met : ℕ → Bool) (state : State) → Stands p (files environment arguments compounds) t met state → t.first ≡ first → AreMarked met b.operands.items
    → At q state.subst w (made first state.registers (block_at names t.low b)))
    → MakesBlock names b [] first p q w environment environment' compounds compounds
flat_makes names b first p q w environment environment' compounds makes word arguments t met state stands begins marks =
    let all = append-nil b.operands.items in
    let only : AreMarked met b.operands.items = subst (AreMarked met) all marks in
    let near = makes arguments compounds t met state stands begins only in
    rw all (near.0, near.1, near.2, word arguments t met state stands begins only)

-- the variable doesn't occur in the compound
pub flat_apart : {W : Type 0} (p q : Present W) (clean : (n : ℕ) → p.taken n ≡ false → Untouched p n) (names : List (List ℕ)) (first n : ℕ) (variable w : W) (b : Block)
    (environment environment' compounds : List W) → p.holds variable ≡ true → meaning p variable ≡ Variable n → length environment' ≡ length environment
    → IsSound (length names) (length environment) (length compounds) b → BeginsWith p environment compounds first b.operands.items
    → MakesVariables b.operands.items first p q environment environment'
    → ((arguments : List W) (t : Setting) (met : ℕ → Bool) (state : State) → Stands p (files environment arguments compounds) t met state → t.first ≡ first → AreMarked met b.operands.items
    → At q state.subst w (made first state.registers (block_at names t.low b)))
    → All (IsApart q n environment' compounds) b.operands.items → occurs n (meaning q w) ≡ false
flat_apart p q clean names first n variable w b environment environment' compounds holds is count sound h makes word apart =
    let before = begins_stands environment compounds b.operands.items h in
    let near = makes h.0.arguments compounds h.1 h.2 h.3 before h.7 h.8 in
    let at = word h.0.arguments h.1 h.2 h.3 before h.7 h.8 in
    ap (occurs n) at.same
    ∙ row_apart p q clean names first n variable environment environment' h.0.arguments compounds h.1 h.2 (met_behind h.2 b.operands.items) h.3 holds is before near.0 h.7 count
    b.operands.items (marked_unmet h.2 b.operands.items h.8) (marked_met h.2 b.operands.items h.8) sound.inside apart

-- ---- a block with others in it

-- compounds leave the registers of arguments as they are
filled_below : (names : List (List ℕ)) (low first many : ℕ) (bs : List Block) (rs : Registers) → All (IsOfCompound many) bs → (r : ℕ) → r < low
    → filled first (map (block_at names low) bs) rs r ≡ rs r
filled_below names low first many [] rs compounds r below = refl
filled_below names low first many (b ∷ bs) rs compounds r below =
    let one = All-head (IsOfCompound many) b bs compounds in
    let other : r ≢ low + one.0 = λ e. absurd (omega (arith, e, below)) in
    rw (one.1, ne_eqb r (low + one.0) other) (filled_below names low first many bs rs (All-tail (IsOfCompound many) b bs compounds) r below)

-- the compounds of blocks were made
filled_stands : {W : Type 0} (names : List (List ℕ)) (bs : List Block) (p q : Present W) (environment arguments compounds compounds' : List W) (t : Setting) (met : ℕ → Bool) (state : State)
    → Stands p (files environment arguments compounds) t met state → MakesAll names bs p q environment compounds compounds' → Adds p q → All (IsMet met) (all_operands bs)
    → All (IsOfCompound (length compounds)) bs
    → Stands q (files environment arguments compounds') t met (record { subst = state.subst; registers = filled t.first (map (block_at names t.low) bs) state.registers })
filled_stands names bs p q environment arguments compounds compounds' t met state stands makes adds is_met numbered =
    let rs = filled t.first (map (block_at names t.low) bs) state.registers in
    let after = adds_stands adds stands in
    record {
      substitution = stands.substitution;
      known = subst (λ own. Known q own state.subst t.first t.low met environment compounds' rs) (sym adds.substitution)
          (makes p.substitution state.subst t.first t.low met state.registers stands.known is_met);
      arguments = λ r w at.
          (let inside = slice_get_within arguments r w at in
          let apart = stands.apart in
          let below : r < t.low = omega (arith, inside, apart) in
          subst (λ a. At q state.subst w a) (sym (filled_below names t.low t.first (length compounds) bs state.registers numbered r below)) (after.arguments r w at));
      free = after.free;
      reserved = after.reserved;
      room = after.room;
      apart = after.apart;
    }

module _ {W : Type 0} (names : List (List ℕ)) (b : Block) (bs : List Block) (first : ℕ) (environment compounds : List W) where
  -- what is known before the variables of the first block are made, and before those of the others
  pub begins_first : (p : Present W) → BeginsWith p environment compounds first (all_operands (b ∷ bs)) → Begins p environment first b.operands.items
  begins_first p h =
      without_compounds p environment compounds first b.operands.items
      (begins_with_on p p [] b.operands.items (all_operands bs) (all_operands (b ∷ bs)) refl environment environment compounds first (makes_none p first environment) h)

  pub begins_others : (p q : Present W) (environment' : List W) → MakesVariables b.operands.items first p q environment environment'
      → BeginsWith p environment compounds first (all_operands (b ∷ bs)) → Begins q environment' first (all_operands bs)
  begins_others p q environment' makes h =
      without_compounds q environment' compounds first (all_operands bs)
      (begins_with_on p q b.operands.items (all_operands bs) [] (all_operands (b ∷ bs)) (ap (λ xs. b.operands.items ++ xs) (sym (append-nil (all_operands bs))))
      environment environment' compounds first makes h)

  -- the words of compounds stand
  pub compounds_hold : (p q : Present W) (environment' : List W) → MakesVariables (all_operands (b ∷ bs)) first p q environment environment'
      → BeginsWith p environment compounds first (all_operands (b ∷ bs)) → All (λ w. q.holds w ≡ true) compounds
  compounds_hold p q environment' makes h =
      let near = makes h.0.arguments compounds h.1 h.2 h.3 (begins_stands environment compounds (all_operands (b ∷ bs)) h) h.7 h.8 in
      λ k d low. (near.0.known.compounds k (slice_index_or compounds k d) (slice_get-get_or compounds k d low)).holds

  -- and so do those of the variables that the inner blocks need
  pub variables_held : (p q : Present W) (environment' : List W) → MakesVariables (all_operands (b ∷ bs)) first p q environment environment'
      → BeginsWith p environment compounds first (all_operands (b ∷ bs)) → All (IsHeld q environment' []) (all_operands bs)
  variables_held p q environment' makes h =
      let held = flat_held p q environment environment' compounds first (all_operands (b ∷ bs)) h makes in
      All-weaker (IsHeld q environment' compounds) (IsHeld q environment' []) each (all_operands bs)
      (all_right (IsHeld q environment' compounds) b.operands.items (all_operands bs) held)
    where
      each : (operand : Operand) → IsHeld q environment' compounds operand → IsHeld q environment' [] operand
      each (New x) h = h
      each (Old x) h = h
      each (Integer z) h = tt
      each (Atom a) h = tt
      each (Inner k) h = λ w at. absurd (none w at)
        where
          none : (w : W) → None ≡ Some w → ⊥
          none w e = cc

  module _ (p q r : Present W) (environment' compounds' : List W) (makes : MakesVariables (all_operands (b ∷ bs)) first p q environment environment')
      (all : MakesAll names bs q r environment' compounds compounds') (adds : Adds q r) (numbered : All (IsOfCompound (length compounds)) bs) where
    others_stand : (arguments : List W) (t : Setting) (met : ℕ → Bool) (state : State) → Stands p (files environment arguments compounds) t met state → t.first ≡ first
        → AreMarked met (all_operands (b ∷ bs))
        → Stands r (files environment' arguments compounds') t (met_behind met (all_operands (b ∷ bs)))
        (record { subst = state.subst; registers = filled t.first (map (block_at names t.low) bs) state.registers })
    others_stand arguments t met state stands begins marks =
        let behind = met_behind met (all_operands (b ∷ bs)) in
        let near = makes arguments compounds t met state stands begins marks in
        let is_met = all_right (IsMet behind) b.operands.items (all_operands bs) (marked_met met (all_operands (b ∷ bs)) marks) in
        filled_stands names bs q r environment' arguments compounds compounds' t behind state near.0 all adds is_met numbered

    -- the words that the first block needs stand
    pub first_held : BeginsWith p environment compounds first (all_operands (b ∷ bs)) → All (IsHeld r environment' compounds') b.operands.items
    first_held h =
        let behind = met_behind h.2 (all_operands (b ∷ bs)) in
        held_behind (others_stand h.0.arguments h.1 h.2 h.3 (begins_stands environment compounds (all_operands (b ∷ bs)) h) h.7 h.8) b.operands.items
        (all_left (IsMet behind) b.operands.items (all_operands bs) (marked_met h.2 (all_operands (b ∷ bs)) h.8))

    -- its compound is made behind those of the others
    pub others_make : (s : Present W) (w : W)
        → ((own by : Subst) (next low : ℕ) (met : ℕ → Bool) (rs : Registers) → Known r own by next low met environment' compounds' rs → All (IsMet met) b.operands.items
        → IsFor s own by w (made next rs (block_at names low b)))
        → Adds r s → MakesBlock names b bs first p s w environment environment' compounds compounds'
    others_make s w word adds' arguments t met state stands begins marks =
        let behind = met_behind met (all_operands (b ∷ bs)) in
        let near = makes_then p q s (all_operands (b ∷ bs)) first environment environment' makes (adds_on adds adds') arguments compounds t met state stands begins marks in
        let rs = filled t.first (map (block_at names t.low) bs) state.registers in
        let there = others_stand arguments t met state stands begins marks in
        let is_met = all_left (IsMet behind) b.operands.items (all_operands bs) (marked_met met (all_operands (b ∷ bs)) marks) in
        let at : At s state.subst w (made t.first rs (block_at names t.low b)) =
        subst (λ own. IsFor s own state.subst w (made t.first rs (block_at names t.low b))) (sym adds'.substitution) (word r.substitution state.subst t.first t.low behind rs there.known is_met) in (
          subst (λ n. Stands s (files environment' arguments compounds') t behind (record { subst = state.subst; registers = filled n (map (block_at names t.low) bs) state.registers }))
              begins (adds_stands adds' there),
          near.1,
          near.2,
          subst (λ n. At s state.subst w (made n (filled n (map (block_at names t.low) bs) state.registers) (block_at names t.low b))) begins at,
        )

-- what is in sound blocks is there
pub sound_inside : (names count compounds : ℕ) (bs : List Block) → All (IsSound names count compounds) bs → All (IsInside names count compounds) (all_operands bs)
sound_inside names count compounds [] sound = All-nil (IsInside names count compounds)
sound_inside names count compounds (b ∷ bs) sound =
    All-append (IsInside names count compounds) b.operands.items (all_operands bs) (All-head (IsSound names count compounds) b bs sound).inside
    (sound_inside names count compounds bs (All-tail (IsSound names count compounds) b bs sound))
