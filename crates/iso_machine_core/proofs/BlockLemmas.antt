-- A block of a head is met as the table says.
use Rattle.std.proofs.Common.{◌≡◌, ◌≢◌, ℕ, zero, suc, Bool, true, false, List, [], ◌∷◌, length, map, take, drop, Option, Some, None, refl, sym, ap, ap₂, subst, ◌∙◌, arith}
use Rattle.std.specs.List.{All}
use Rattle.std.specs.Option.{option_and_then}
use Rattle.std.specs.Str.{bytes_eq}
use Rattle.std.proofs.lemmas.Bool.{eq-eqb}
use Rattle.std.proofs.lemmas.List.{take-map, drop-map, take-append-drop}
use Rattle.std.proofs.lemmas.Slice.Eq.{bytes_eq-Decides}
use Rattle.iso_atoms.specs.Texts.{text_at}
use Rattle.iso_model.specs.Terms.Trees.{Tree, Variable, Integer, Name, Apply, End, More, count}
use Rattle.iso_model.specs.Terms.Substitutions.{Subst, apply}
use Rattle.iso_model.specs.Terms.Unification.{unify_under}
use Rattle.iso_model.specs.Terms.Unification.Applied.{apply_absorbs}
use Rattle.iso_store_core.specs.Presents.{Present, meaning}
use Rattle.iso_cells.specs.Opening.{IsCompound, is_compound}
use Rattle.iso_compile.specs.Table as table
use Rattle.iso_compile.specs.Table.{Registers, meet, run, read, filled, made}
use Rattle.iso_compile.specs.CodeLaws.{State, left}
use Rattle.iso_compile.proofs.SolveLemmas.{twice}
use Rattle.iso_code.specs.declared.operands.Block.{Block}
use Rattle.iso_code.specs.declared.operands.Register.{Register}
use Rattle.iso_code.specs.declared.operands.Register.TheVariants.{Argument, Compound}
use Rattle.iso_code.specs.Loaded.{part_at, block_at, register_at, all_operands, AreMarked, met_behind, AreSound, IsSound}
use Rattle.iso_code.specs.Standing.{At, Files, files, Setting, Ready, Ends}
use Rattle.iso_reading.specs.Reading.{Begins, Reads}
use Rattle.iso_writing.specs.Writing.{WritesBlock}
use Rattle.iso_code.proofs.MarkLemmas.{marked_both, behind_both, operands_both}
use Rattle.iso_machine_core.specs.Heads.{BeforeBlocks, PassesTo, Passes, HasWord}

-- the word of a register is for the register's term
pub register_is : {W : Type 0} (names : List (List ℕ)) (p : Present W) (es as_ cs : List W) (t : Setting) (met : ℕ → Bool) (state : State) (r : Register) (w : W)
    → Ready p (files es as_ cs) t met state → HasWord r as_ cs w → At p state.subst w (state.registers (register_at names t.low r))
register_is names p es as_ cs t met state (Argument i) w r h = r.stands.arguments i w h
register_is names p es as_ cs t met state (Compound k) w r h = r.stands.known.compounds k w h

-- blocks that are passed over are not run
pub run_passed : (next : ℕ) (bs : List table.Block) (k : ℕ) (s : Subst) (rs : Registers) → run next bs k s rs left ≡ run next (drop k bs) zero s rs left
run_passed next [] zero s rs = refl
run_passed next [] (suc k) s rs = refl
run_passed next (b ∷ bs) zero s rs = refl
run_passed next (b ∷ bs) (suc k) s rs = run_passed next bs k s rs

-- reading and then going on is going on from where reading comes to
pub read_then : (next : ℕ) (ps : List table.Part) (ws : Tree) (s : Subst) (rs : Registers) (go : Subst → Registers → Option State)
    → read next ps ws s rs go ≡ option_and_then (λ n. go n.subst n.registers) (read next ps ws s rs left)
read_then next [] End s rs go = refl
read_then next (table.Inner r ∷ ps) (More t ts) s rs go = read_then next ps ts s (table.assign rs r t) go
read_then next (table.Place x ∷ ps) (More t ts) s rs go = through (λ u. read_then next ps ts u rs go) (unify_under s t (table.part_term next rs (table.Place x)))
  where
    through : ((u : Subst) → read next ps ts u rs go ≡ option_and_then (λ n. go n.subst n.registers) (read next ps ts u rs left)) → (o : Option Subst)
        → option_and_then (λ u. read next ps ts u rs go) o ≡ option_and_then (λ n. go n.subst n.registers) (option_and_then (λ u. read next ps ts u rs left) o)
    through on (Some u) = on u
    through on None = refl
read_then next (table.Number z ∷ ps) (More t ts) s rs go = through (λ u. read_then next ps ts u rs go) (unify_under s t (table.part_term next rs (table.Number z)))
  where
    through : ((u : Subst) → read next ps ts u rs go ≡ option_and_then (λ n. go n.subst n.registers) (read next ps ts u rs left)) → (o : Option Subst)
        → option_and_then (λ u. read next ps ts u rs go) o ≡ option_and_then (λ n. go n.subst n.registers) (option_and_then (λ u. read next ps ts u rs left) o)
    through on (Some u) = on u
    through on None = refl
read_then next (table.Atom a ∷ ps) (More t ts) s rs go = through (λ u. read_then next ps ts u rs go) (unify_under s t (table.part_term next rs (table.Atom a)))
  where
    through : ((u : Subst) → read next ps ts u rs go ≡ option_and_then (λ n. go n.subst n.registers) (read next ps ts u rs left)) → (o : Option Subst)
        → option_and_then (λ u. read next ps ts u rs go) o ≡ option_and_then (λ n. go n.subst n.registers) (option_and_then (λ u. read next ps ts u rs left) o)
    through on (Some u) = on u
    through on None = refl
read_then next [] (Variable n) s rs go = refl
read_then next [] (Integer z) s rs go = refl
read_then next [] (Name a) s rs go = refl
read_then next [] (Apply f ts) s rs go = refl
read_then next [] (More t ts) s rs go = refl
read_then next (table.Inner r ∷ ps) (Variable n) s rs go = refl
read_then next (table.Inner r ∷ ps) (Integer z) s rs go = refl
read_then next (table.Inner r ∷ ps) (Name a) s rs go = refl
read_then next (table.Inner r ∷ ps) (Apply f ts) s rs go = refl
read_then next (table.Inner r ∷ ps) End s rs go = refl
read_then next (table.Place x ∷ ps) (Variable n) s rs go = refl
read_then next (table.Place x ∷ ps) (Integer z) s rs go = refl
read_then next (table.Place x ∷ ps) (Name a) s rs go = refl
read_then next (table.Place x ∷ ps) (Apply f ts) s rs go = refl
read_then next (table.Place x ∷ ps) End s rs go = refl
read_then next (table.Number z ∷ ps) (Variable n) s rs go = refl
read_then next (table.Number z ∷ ps) (Integer i) s rs go = refl
read_then next (table.Number z ∷ ps) (Name a) s rs go = refl
read_then next (table.Number z ∷ ps) (Apply f ts) s rs go = refl
read_then next (table.Number z ∷ ps) End s rs go = refl
read_then next (table.Atom a ∷ ps) (Variable n) s rs go = refl
read_then next (table.Atom a ∷ ps) (Integer z) s rs go = refl
read_then next (table.Atom a ∷ ps) (Name n) s rs go = refl
read_then next (table.Atom a ∷ ps) (Apply f ts) s rs go = refl
read_then next (table.Atom a ∷ ps) End s rs go = refl

length_map : {X Y : Type 0} (f : X → Y) (xs : List X) → length (map f xs) ≡ length xs
length_map f [] = refl
length_map f (x ∷ xs) = ap suc (length_map f xs)

same_bytes : (f g : List ℕ) → f ≡ g → bytes_eq f g ≡ true
same_bytes f g same = (bytes_eq-Decides f g).1 same

-- a block that meets such a compound reads its arguments
pub meet_compound : (next : ℕ) (b : table.Block) (bs : List table.Block) (f : List ℕ) (ws : Tree) (s : Subst) (rs : Registers) (go : ℕ → Subst → Registers → Option State)
    → f ≡ b.name → count ws ≡ length b.parts → meet next b bs (Apply f ws) s rs go ≡ read next b.parts ws s rs (go 0)
meet_compound next b bs f ws s rs go same many = rw (same_bytes f b.name same, eq-eqb (count ws) (length b.parts) many) refl

-- one that meets anything else but a variable comes to nothing
pub meet_missed : (next : ℕ) (b : table.Block) (bs : List table.Block) (t : Tree) (s : Subst) (rs : Registers) (go : ℕ → Subst → Registers → Option State)
    → is_compound b.name (length b.parts) t ≡ false → ((x : ℕ) → t ≢ Variable x) → meet next b bs t s rs go ≡ None
meet_missed next b bs (Variable x) s rs go other none = absurd (none x refl)
meet_missed next b bs (Integer z) s rs go other none = refl
meet_missed next b bs (Name a) s rs go other none = refl
meet_missed next b bs (Apply g ts) s rs go other none = rw other refl
meet_missed next b bs End s rs go other none = refl
meet_missed next b bs (More t ts) s rs go other none = refl

module _ {W : Type 0} (names : List (List ℕ)) (b : Block) (bs : List Block) (first : ℕ) (p q : Present W) (es es' as_ cs cs' : List W) (word : W) (there : HasWord b.register as_ cs word) where
  at_word : (t : Setting) (met : ℕ → Bool) (state : State) → BeforeBlocks (b ∷ bs) first p (files es as_ cs) t met state → At p state.subst word (state.registers (register_at names t.low b.register))
  at_word t met state before = register_is names p es as_ cs t met state b.register word before.ready there

  -- the word was made as the compound
  module _ (compound : W) (holds : p.holds compound ≡ true) (same : meaning p word ≡ meaning p compound) (is : IsCompound p compound (text_at names b.name) (length b.operands.items)) where
    pub begins : (t : Setting) (met : ℕ → Bool) (state : State) → BeforeBlocks (b ∷ bs) first p (files es as_ cs) t met state
        → Begins p (files es as_ cs) t met state compound b.operands.items (text_at names b.name) is.arguments
    begins t met state before =
        let at = at_word t met state before in
        let shown : apply state.subst (state.registers (register_at names t.low b.register)) ≡ Apply (text_at names b.name) is.arguments = sym at.same ∙ same ∙ is.means in
        record {
          ready = before.ready;
          at = record {
            holds = holds;
            same = is.means ∙ sym (ap (apply state.subst) (sym shown) ∙ apply_absorbs state.subst state.subst (state.registers (register_at names t.low b.register)) (twice before.ready.stands.substitution) ∙ shown);
          };
          row = is.row;
          many = is.many;
          marked = (marked_both met b.operands.items (all_operands bs) before.marked).0;
        }

    reading : (t : Setting) (met : ℕ → Bool) (state : State) → BeforeBlocks (b ∷ bs) first p (files es as_ cs) t met state
        → run t.first (map (block_at names t.low) (b ∷ bs)) zero state.subst state.registers left
        ≡ option_and_then (λ n. run t.first (map (block_at names t.low) bs) zero n.subst n.registers left) (read t.first (map (part_at names t.low) b.operands.items) is.arguments state.subst state.registers left)
    reading t met state before =
        let at = at_word t met state before in
        let shown : apply state.subst (state.registers (register_at names t.low b.register)) ≡ Apply (text_at names b.name) is.arguments = sym at.same ∙ same ∙ is.means in
        ap (λ x. meet t.first (block_at names t.low b) (map (block_at names t.low) bs) x state.subst state.registers (λ k u us. run t.first (map (block_at names t.low) bs) k u us left)) shown
        ∙ meet_compound t.first (block_at names t.low b) (map (block_at names t.low) bs) (text_at names b.name) is.arguments state.subst state.registers (λ k u us. run t.first (map (block_at names t.low) bs) k u us left)
        refl (is.many ∙ sym (length_map (part_at names t.low) b.operands.items))
        ∙ read_then t.first (map (part_at names t.low) b.operands.items) is.arguments state.subst state.registers (λ u us. run t.first (map (block_at names t.low) bs) zero u us left)

    pub read_passes : Reads names b.operands.items p q compound es es' cs cs' true → Passes names b bs first p q (files es as_ cs) (files es' as_ cs') (Some 0)
    read_passes reads t met state before =
        step (read t.first (map (part_at names t.low) b.operands.items) is.arguments state.subst state.registers left)
        (reads as_ t met state (text_at names b.name) is.arguments (begins t met state before)) (reading t met state before)
      where
        step : (o : Option State) → Ends p state.subst q (files es' as_ cs') t (met_behind met b.operands.items) true o
            → run t.first (map (block_at names t.low) (b ∷ bs)) zero state.subst state.registers left ≡ option_and_then (λ n. run t.first (map (block_at names t.low) bs) zero n.subst n.registers left) o
            → PassesTo names b bs p q (files es' as_ cs') t met state 0
        step (Some n) h comes = record { after = n; comes = comes; ready = rw (behind_both met b.operands.items []) h.0; steps = h.1 }
        step None h comes = absurd h

    pub read_stops : Reads names b.operands.items p q compound es es' cs cs' false → Passes names b bs first p q (files es as_ cs) (files es' as_ cs') None
    read_stops reads t met state before =
        step (read t.first (map (part_at names t.low) b.operands.items) is.arguments state.subst state.registers left)
        (reads as_ t met state (text_at names b.name) is.arguments (begins t met state before)) (reading t met state before)
      where
        step : (o : Option State) → Ends p state.subst q (files es' as_ cs') t (met_behind met b.operands.items) false o
            → run t.first (map (block_at names t.low) (b ∷ bs)) zero state.subst state.registers left ≡ option_and_then (λ n. run t.first (map (block_at names t.low) bs) zero n.subst n.registers left) o
            → run t.first (map (block_at names t.low) (b ∷ bs)) zero state.subst state.registers left ≡ None
        step None h comes = comes
        step (Some n) h comes = absurd h

  -- the word stands for an unbound variable
  module _ (variable : W) (holds : p.holds variable ≡ true) (same : meaning p word ≡ meaning p variable) (x : ℕ) (unbound : meaning p variable ≡ Variable x) where
    at_variable : (t : Setting) (met : ℕ → Bool) (state : State) → BeforeBlocks (b ∷ bs) first p (files es as_ cs) t met state → At p state.subst variable (state.registers (register_at names t.low b.register))
    at_variable t met state before = record { holds = holds; same = sym same ∙ (at_word t met state before).same }

    pub marked_group : (t : Setting) (met : ℕ → Bool) (state : State) → BeforeBlocks (b ∷ bs) first p (files es as_ cs) t met state → AreMarked met (all_operands (b ∷ take b.inner bs))
    marked_group t met state before =
        (marked_both met (all_operands (b ∷ take b.inner bs)) (all_operands (drop b.inner bs))
        (subst (AreMarked met) (ap all_operands (ap (λ l. b ∷ l) (sym (take-append-drop b.inner bs))) ∙ operands_both (b ∷ take b.inner bs) (drop b.inner bs)) before.marked)).0

    writing : (t : Setting) (met : ℕ → Bool) (state : State) → BeforeBlocks (b ∷ bs) first p (files es as_ cs) t met state
        → run t.first (map (block_at names t.low) (b ∷ bs)) zero state.subst state.registers left
        ≡ option_and_then (λ n. run t.first (map (block_at names t.low) (drop b.inner bs)) zero n.subst n.registers left)
        (option_and_then (λ u. left u (filled t.first (map (block_at names t.low) (take b.inner bs)) state.registers))
        (unify_under state.subst (state.registers (register_at names t.low b.register)) (made t.first (filled t.first (map (block_at names t.low) (take b.inner bs)) state.registers) (block_at names t.low b))))
    writing t met state before =
        let at = at_word t met state before in
        let shown : apply state.subst (state.registers (register_at names t.low b.register)) ≡ Variable x = sym at.same ∙ same ∙ unbound in
        let f = block_at names t.low in
        let taken : take b.inner (map f bs) ≡ map f (take b.inner bs) = take-map f b.inner bs in
        ap (λ y. meet t.first (f b) (map f bs) y state.subst state.registers (λ k u us. run t.first (map f bs) k u us left)) shown
        ∙ ap (λ l. option_and_then (λ u. run t.first (map f bs) b.inner u (filled t.first l state.registers) left)
        (unify_under state.subst (state.registers (register_at names t.low b.register)) (made t.first (filled t.first l state.registers) (f b)))) taken
        ∙ through f (unify_under state.subst (state.registers (register_at names t.low b.register)) (made t.first (filled t.first (map f (take b.inner bs)) state.registers) (f b)))
      where
        through : (f : Block → table.Block) (o : Option Subst)
            → option_and_then (λ u. run t.first (map f bs) b.inner u (filled t.first (map f (take b.inner bs)) state.registers) left) o
            ≡ option_and_then (λ n. run t.first (map f (drop b.inner bs)) zero n.subst n.registers left) (option_and_then (λ u. left u (filled t.first (map f (take b.inner bs)) state.registers)) o)
        through f (Some u) = run_passed t.first (map f bs) b.inner u (filled t.first (map f (take b.inner bs)) state.registers) ∙ ap (λ l. run t.first l zero u (filled t.first (map f (take b.inner bs)) state.registers) left) (drop-map f b.inner bs)
        through f None = refl

    pub write_passes : WritesBlock names b (take b.inner bs) first p q variable es es' cs cs' true → Passes names b bs first p q (files es as_ cs) (files es' as_ cs') (Some b.inner)
    write_passes writes t met state before =
        let fill = λ (n : ℕ). filled n (map (block_at names t.low) (take b.inner bs)) state.registers in
        let comes = λ (n : ℕ). option_and_then (λ u. left u (fill n)) (unify_under state.subst (state.registers (register_at names t.low b.register)) (made n (fill n) (block_at names t.low b))) in
        step (comes t.first)
        (subst (λ n. Ends p state.subst q (files es' as_ cs') t (met_behind met (all_operands (b ∷ take b.inner bs))) true (comes n)) (sym before.numbers)
        (writes as_ t met state (state.registers (register_at names t.low b.register)) before.ready before.numbers (at_variable t met state before) (marked_group t met state before) before.nexts.0))
        (writing t met state before)
      where
        step : (o : Option State) → Ends p state.subst q (files es' as_ cs') t (met_behind met (all_operands (b ∷ take b.inner bs))) true o
            → run t.first (map (block_at names t.low) (b ∷ bs)) zero state.subst state.registers left ≡ option_and_then (λ n. run t.first (map (block_at names t.low) (drop b.inner bs)) zero n.subst n.registers left) o
            → PassesTo names b bs p q (files es' as_ cs') t met state b.inner
        step (Some n) h comes = record { after = n; comes = comes; ready = h.0; steps = h.1 }
        step None h comes = absurd h

    pub write_stops : WritesBlock names b (take b.inner bs) first p q variable es es' cs cs' false → Passes names b bs first p q (files es as_ cs) (files es' as_ cs') None
    write_stops writes t met state before =
        let fill = λ (n : ℕ). filled n (map (block_at names t.low) (take b.inner bs)) state.registers in
        let comes = λ (n : ℕ). option_and_then (λ u. left u (fill n)) (unify_under state.subst (state.registers (register_at names t.low b.register)) (made n (fill n) (block_at names t.low b))) in
        step (comes t.first)
        (subst (λ n. Ends p state.subst q (files es' as_ cs') t (met_behind met (all_operands (b ∷ take b.inner bs))) false (comes n)) (sym before.numbers)
        (writes as_ t met state (state.registers (register_at names t.low b.register)) before.ready before.numbers (at_variable t met state before) (marked_group t met state before) before.nexts.0))
        (writing t met state before)
      where
        step : (o : Option State) → Ends p state.subst q (files es' as_ cs') t (met_behind met (all_operands (b ∷ take b.inner bs))) false o
            → run t.first (map (block_at names t.low) (b ∷ bs)) zero state.subst state.registers left ≡ option_and_then (λ n. run t.first (map (block_at names t.low) (drop b.inner bs)) zero n.subst n.registers left) o
            → run t.first (map (block_at names t.low) (b ∷ bs)) zero state.subst state.registers left ≡ None
        step None h comes = comes
        step (Some n) h comes = absurd h

  -- it stands for anything else
  pub missed_stops : (f' : Files W) → is_compound (text_at names b.name) (length b.operands.items) (meaning p word) ≡ false → ((x : ℕ) → meaning p word ≢ Variable x)
      → Passes names b bs first p q (files es as_ cs) f' None
  missed_stops f' other none t met state before =
      let at = at_word t met state before in
      meet_missed t.first (block_at names t.low b) (map (block_at names t.low) bs) (apply state.subst (state.registers (register_at names t.low b.register))) state.subst state.registers
      (λ k u us. run t.first (map (block_at names t.low) bs) k u us left)
      (ap₂ (λ n y. is_compound (text_at names b.name) n y) (length_map (part_at names t.low) b.operands.items) (sym at.same) ∙ other)
      (λ x is. none x (at.same ∙ is))

-- the first of sound blocks are sound, each by itself
pub sound_front : (names arguments count compounds : ℕ) (bs : List Block) (n : ℕ) → AreSound names arguments count compounds bs → All (IsSound names count compounds) (take n bs)
sound_front names arguments count compounds bs zero h k d under = absurd (omega (arith, under))
sound_front names arguments count compounds [] (suc n) h k d under = absurd (omega (arith, under))
sound_front names arguments count compounds (b ∷ bs) (suc n) h zero d under = h.0
sound_front names arguments count compounds (b ∷ bs) (suc n) h (suc k) d under = sound_front names arguments count compounds bs n h.4 k d (omega (arith, under))

-- so are a block and the first behind it
pub sound_group : (names arguments count compounds : ℕ) (b : Block) (bs : List Block) (n : ℕ) → AreSound names arguments count compounds (b ∷ bs) → All (IsSound names count compounds) (b ∷ take n bs)
sound_group names arguments count compounds b bs n h zero d under = h.0
sound_group names arguments count compounds b bs n h (suc k) d under = sound_front names arguments count compounds bs n h.4 k d (omega (arith, under))
