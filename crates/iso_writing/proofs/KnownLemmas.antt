-- Words that are known, the terms that are pushed for operands, and the compounds that blocks make of them.
use Rattle.std.proofs.Common.{◌≡◌, ◌≢◌, ◌+◌, ◌-◌, ◌<◌, ◌≤◌, ℕ, zero, suc, List, [], ◌∷◌, ◌++◌, length, map, take, drop, get_or, reverse, Bool, Result, Ok, Err, IfOk, OnOk, Some, inl, inr, slice_set, refl, sym, ap, ap₂, subst, ◌∙◌, arith, length-append, ◌⊎◌, Option, Bor}
use Rattle.std.specs.Iterator.{Yields}
use Rattle.std.proofs.lemmas.Iterator.{YieldsList}
use Rattle.std.proofs.lemmas.Iterator.Consumers.{YieldsList-turn}
use Rattle.std.specs.List.{All, slice_get}
use Rattle.std.proofs.lemmas.Bool.{cases_eq, eq-eqb, ne_eqb}
use Rattle.std.proofs.lemmas.List.{append-nil, map-append, drop_more, map_more, get_or_append_left, get_or-append-add, get_or-reverse, length-set, length-reverse, length_push}
use Rattle.std.proofs.lemmas.List.Elements.{All-weaker, All-head, All-tail, All-push}
use Rattle.std.proofs.lemmas.Option.{slice_get_read, slice_get_within, get_or_from_slice_get}
use Rattle.iso_model.specs.Terms.Trees.{Tree, Apply, End, More, row}
use Rattle.iso_model.specs.Terms.Substitutions.{Subst, apply}
use Rattle.iso_store_core.specs.Presents.{Present, Holds, KeepsWords, KeepsNumbers, Makes}
use Rattle.iso_compile.specs.Table.{Registers, Part, part_term, part_row, assign, filled}
use Rattle.iso_compile.specs.Orders.{part_cells, parts_cells}
use Rattle.iso_code.specs.Loaded.{IsInside, IsMet, part_at, block_at, all_operands}
use Rattle.iso_code.specs.Standing.{IsFor, Known}
use Rattle.iso_code.proofs.CellLemmas.{taken_one}
use Rattle.iso_code.proofs.UnifierLemmas.{keeps_none, keeps_on}
use Rattle.iso_code.proofs.StandLemmas.{got_set, got_other, some_word}
use Rattle.iso_code.specs.declared.operands.Block.{Block}
use Rattle.iso_code.specs.declared.operands.Operand.{Operand}
use Rattle.iso_code.specs.declared.operands.Operand.TheVariants.{New, Old, Integer as Number, Atom, Inner}
use Rattle.iso_writing.specs.Pushing.{ArePushed, PushesOne, IsHeld, cells_of_blocks}
use Rattle.iso_writing.specs.Writing.{Adds, MakesAll}

-- ---- words that stood stand on

-- where nothing changed
pub adds_none : {W : Type 0} (p : Present W) → Adds p p
adds_none p = record { words = keeps_none p; substitution = refl; numbers = record { next = refl; taken = λ n. refl } }

-- one change behind another
pub adds_on : {W : Type 0} {p q r : Present W} → Adds p q → Adds q r → Adds p r
adds_on first second = record {
  words = keeps_on first.words second.words;
  substitution = second.substitution ∙ first.substitution;
  numbers = record { next = second.numbers.next ∙ first.numbers.next; taken = λ n. second.numbers.taken n ∙ first.numbers.taken n };
}

-- a word came
pub adds_made : {W : Type 0} {p q : Present W} {w : W} {t : Tree} → Makes p q w t → KeepsNumbers p q → Adds p q
adds_made makes numbers = record { words = makes.words; substitution = makes.substitution; numbers = numbers }

-- a word is for its term still, and what is known is known still
pub for_on : {W : Type 0} {p q : Present W} {own by : Subst} {w : W} {a : Tree} → KeepsWords p q → IsFor p own by w a → IsFor q own by w a
for_on {own = own} {w = w} keeps is = record { holds = keeps.stand w is.holds; same = ap (apply own) (keeps.terms w is.holds) ∙ is.same }

pub known_on : {W : Type 0} {p q : Present W} {own by : Subst} {next low : ℕ} {met : ℕ → Bool} {environment compounds : List W} {rs : Registers}
    → KeepsWords p q → Known p own by next low met environment compounds rs → Known q own by next low met environment compounds rs
known_on keeps known = record {
  variables = λ x w is there. for_on keeps (known.variables x w is there);
  compounds = λ k w there. for_on keeps (known.compounds k w there);
}

-- what operands name stands on
pub held_on : {W : Type 0} {p q : Present W} (environment compounds : List W) (operand : Operand) → KeepsWords p q → IsHeld p environment compounds operand → IsHeld q environment compounds operand
held_on environment compounds (New x) keeps held = λ w there. keeps.stand w (held w there)
held_on environment compounds (Old x) keeps held = λ w there. keeps.stand w (held w there)
held_on environment compounds (Number z) keeps held = held
held_on environment compounds (Atom a) keeps held = held
held_on environment compounds (Inner k) keeps held = λ w there. keeps.stand w (held w there)

-- ---- arguments that are pushed

-- one argument was pushed, which is this term of the table
pub pushes_one : {S T E : Type 0} (pushed : S → List Tree → Type 0) (old new : S) (own by : Subst) (result : Result T E) (t a : Tree)
    → ((ts : List Tree) → pushed old ts → OnOk result (pushed new (ts ++ t ∷ []))) → apply own t ≡ apply by a → OnOk result (PushesOne pushed old new own by a)
pushes_one pushed old new own by (Ok x) t a comes same = record { term = t; comes = comes; same = same }
pushes_one pushed old new own by (Err e) t a comes same = tt

-- and whatever it is, it came behind the others
pub push_comes : {S T E : Type 0} (pushed : S → List Tree → Type 0) (old new : S) (result : Result T E) (t : Tree)
    → ((ts : List Tree) → pushed old ts → OnOk result (pushed new (ts ++ t ∷ []))) → OnOk result ((u : Tree) × ((ts : List Tree) → pushed old ts → pushed new (ts ++ u ∷ [])))
push_comes pushed old new (Ok x) t comes = (t, comes)
push_comes pushed old new (Err e) t comes = tt

module _ {W : Type 0} (p : Present W) (own by : Subst) (next low : ℕ) (met : ℕ → Bool) (environment compounds : List W) (rs : Registers) (known : Known p own by next low met environment compounds rs) (names : List (List ℕ)) where
  -- the word of a variable, and that of a compound
  pub place_is : (x : ℕ) (w : W) (operand : Operand) → x < length environment → w ≡ get_or environment x w → (operand ≡ New x) ⊎ (operand ≡ Old x) → IsMet met operand
      → IsFor p own by w (part_term next rs (part_at names low operand))
  place_is x w operand inside is (inl new) met' = rw new (known.variables x w (rw new at met') (slice_get_read environment (length environment) x w refl inside is))
  place_is x w operand inside is (inr old) met' = rw old (known.variables x w (rw old at met') (slice_get_read environment (length environment) x w refl inside is))

  pub inner_is : (k : ℕ) (w : W) → k < length compounds → w ≡ get_or compounds k w → IsFor p own by w (rs (low + k))
  inner_is k w inside is = known.compounds k w (slice_get_read compounds (length compounds) k w refl inside is)

module _ {W : Type 0} (p : Present W) (environment compounds : List W) where
  -- they stand
  pub place_holds : (x : ℕ) (w : W) (operand : Operand) → x < length environment → w ≡ get_or environment x w → (operand ≡ New x) ⊎ (operand ≡ Old x) → IsHeld p environment compounds operand → Holds p w
  place_holds x w operand inside is (inl new) held = (rw new at held) w (slice_get_read environment (length environment) x w refl inside is)
  place_holds x w operand inside is (inr old) held = (rw old at held) w (slice_get_read environment (length environment) x w refl inside is)

  pub inner_holds : (k : ℕ) (w : W) (operand : Operand) → k < length compounds → w ≡ get_or compounds k w → operand ≡ Inner k → IsHeld p environment compounds operand → Holds p w
  inner_holds k w operand inside is inner held = (rw inner at held) w (slice_get_read compounds (length compounds) k w refl inside is)

-- the variable that an operand is has a place
pub variable_inside : (names count compounds x : ℕ) (operand : Operand) → (operand ≡ New x) ⊎ (operand ≡ Old x) → IsInside names count compounds operand → x < count
variable_inside names count compounds x operand (inl new) inside = rw new at inside
variable_inside names count compounds x operand (inr old) inside = rw old at inside

-- ---- operands, one behind the other

-- one more term at the end of a row
pub row_more : (own by : Subst) (next : ℕ) (rs : Registers) (ts : List Tree) (t : Tree) (ps : List Part) (p : Part)
    → apply own (row ts) ≡ apply by (part_row next rs ps) → apply own t ≡ apply by (part_term next rs p) → apply own (row (ts ++ t ∷ [])) ≡ apply by (part_row next rs (ps ++ p ∷ []))
row_more own by next rs [] t [] p same one = ap (λ u. More u End) one
row_more own by next rs [] t (q ∷ ps) p same one = cc
row_more own by next rs (u ∷ ts) t [] p same one = cc
row_more own by next rs (u ∷ ts) t (q ∷ ps) p same one =
    let first : apply own u ≡ apply by (part_term next rs q) = cc in
    let others : apply own (row ts) ≡ apply by (part_row next rs ps) = cc in
    ap₂ More first (row_more own by next rs ts t ps p others one)

-- what holds of all holds of the one at a place
pub at_place : {X : Type 0} (P : X → Type 0) (xs : List X) (i : ℕ) (x : X) → i < length xs → x ≡ get_or xs i x → All P xs → P x
at_place P xs i x inside is all = subst P (sym is) (all i x inside)

-- the operand at a place, behind those before it
pub map_take_at : {X Y : Type 0} (f : X → Y) (xs : List X) (i : ℕ) (x : X) → i < length xs → x ≡ get_or xs i x → map f (take (i + 1) xs) ≡ map f (take i xs) ++ f x ∷ []
map_take_at f xs i x inside is = map_more f xs i x inside ∙ ap (λ y. map f (take i xs) ++ f y ∷ []) (sym is)

-- one more argument is pushed
pub pushed_more : {S : Type 0} (pushed : S → List Tree → Type 0) (own by : Subst) (next : ℕ) (rs : Registers) (f : Operand → Part) (old new : S) (xs : List Operand) (x : Operand) (many : ℕ)
    → ArePushed pushed old own by (part_row next rs (map f xs)) many → PushesOne pushed old new own by (part_term next rs (f x))
    → ArePushed pushed new own by (part_row next rs (map f (xs ++ x ∷ []))) (many + 1)
pushed_more pushed own by next rs f old new xs x many are one = record {
  terms = are.terms ++ one.term ∷ [];
  are = one.comes are.terms are.are;
  many_are = length_push are.terms one.term ∙ ap (λ n. n + 1) are.many_are;
  same = rw (map-append f xs (x ∷ [])) (row_more own by next rs are.terms one.term (map f xs) (f x) are.same one.same);
}

-- ---- words of operands, one behind the other

-- words that stand have their terms still
pub terms_kept : {W : Type 0} {p q : Present W} → KeepsWords p q → (ws : List W) → All (Holds p) ws → map q.term ws ≡ map p.term ws
terms_kept keeps [] hold = refl
terms_kept {p = p} keeps (w ∷ ws) hold = ap₂ ◌∷◌ (keeps.terms w (All-head (Holds p) w ws hold)) (terms_kept keeps ws (All-tail (Holds p) w ws hold))

-- one more word comes
pub words_more : {W : Type 0} {p q : Present W} (own by : Subst) (next low : ℕ) (rs : Registers) (names : List (List ℕ)) (ws : List W) (w : W) (operands : List Operand) (i : ℕ) (operand : Operand)
    → i < length operands → operand ≡ get_or operands i operand → KeepsWords p q → All (Holds p) ws
    → apply own (row (map p.term ws)) ≡ apply by (part_row next rs (map (part_at names low) (take i operands))) → IsFor q own by w (part_term next rs (part_at names low operand))
    → apply own (row (map q.term (ws ++ w ∷ []))) ≡ apply by (part_row next rs (map (part_at names low) (take (i + 1) operands)))
words_more {p = p} {q = q} own by next low rs names ws w operands i operand inside is keeps hold same one =
    let before : apply own (row (map q.term ws)) ≡ apply by (part_row next rs (map (part_at names low) (take i operands))) = ap (λ ts. apply own (row ts)) (terms_kept keeps ws hold) ∙ same in
    rw (map-append q.term ws (w ∷ []), map_take_at (part_at names low) operands i operand inside is)
    (row_more own by next rs (map q.term ws) (q.term w) (map (part_at names low) (take i operands)) (part_at names low operand) before one.same)

-- words that stood and one more
pub hold_more : {W : Type 0} {p q : Present W} (ws : List W) (w : W) → KeepsWords p q → All (Holds p) ws → Holds q w → All (Holds q) (ws ++ w ∷ [])
hold_more {p = p} {q = q} ws w keeps hold here = All-push (Holds q) ws w (All-weaker (Holds p) (Holds q) keeps.stand ws hold) here

-- ---- cells

-- the operands up to this place take what those before it and it take
pub cells_more : (f : Operand → Part) (operands : List Operand) (i : ℕ) (operand : Operand) → i < length operands → operand ≡ get_or operands i operand
    → parts_cells (map f (take (i + 1) operands)) ≡ parts_cells (map f (take i operands)) + part_cells (f operand)
cells_more f operands i operand inside is = taken_one f operands i operand (drop_more operands i operand inside ∙ ap (λ x. x ∷ drop (i + 1) operands) (sym is))

-- the names don't count
pub cells_same : (names others : List (List ℕ)) (low : ℕ) (operands : List Operand) → parts_cells (map (part_at names low) operands) ≡ parts_cells (map (part_at others low) operands)
cells_same names others low [] = refl
cells_same names others low (operand ∷ operands) = ap₂ ◌+◌ (one operand) (cells_same names others low operands)
  where
    one : (o : Operand) → part_cells (part_at names low o) ≡ part_cells (part_at others low o)
    one (New x) = refl
    one (Old x) = refl
    one (Number z) = refl
    one (Atom a) = refl
    one (Inner k) = refl

-- ---- compounds

module _ {W : Type 0} (q r : Present W) where
  -- a compound of words, or of what was pushed, whose terms are these of the table
  pub compound_for : {E : Type 0} (own by : Subst) (result : Result W E) (f : List ℕ) (ts us : Tree)
      → IfOk result (λ w. Makes q r w (Apply f ts)) → apply own ts ≡ apply by us → IfOk result (λ w. IsFor r own by w (Apply f us))
  compound_for own by (Ok w) f ts us makes same = record { holds = makes.holds; same = ap (apply own) makes.term ∙ ap (Apply f) same }
  compound_for own by (Err e) f ts us makes same = tt

  -- it stands
  pub compound_holds : {E : Type 0} (result : Result W E) (t : Tree) → IfOk result (λ w. Makes q r w t) → IfOk result (Holds r)
  compound_holds (Ok w) t makes = makes.holds
  compound_holds (Err e) t makes = tt

  -- and nothing else changed
  pub compound_adds : {E : Type 0} (p : Present W) (result : Result W E) (t : Tree) → Adds p q → IfOk result (λ w. Makes q r w t) → OnOk result (KeepsNumbers q r) → OnOk result (Adds p r)
  compound_adds p (Ok w) t adds makes numbers = adds_on adds (record { words = makes.words; substitution = makes.substitution; numbers = numbers })
  compound_adds p (Err e) t adds makes numbers = tt

-- A block's compound is in its place, and in the table's register.
pub block_known : {W : Type 0} (p q : Present W) (own by : Subst) (next low : ℕ) (met : ℕ → Bool) (environment compounds : List W) (rs : Registers) (k : ℕ) (w : W) (t : Tree)
    → KeepsWords p q → Known p own by next low met environment compounds rs → IsFor q own by w t → Known q own by next low met environment (slice_set compounds k w) (assign rs (low + k) t)
block_known {W} p q own by next low met environment compounds rs k w t keeps known is = record {
  variables = (known_on keeps known).variables;
  compounds = λ j v there. elim (cases_eq j k) [
    | inl same ↦ here j v there same
    | inr other ↦ elsewhere j v there other
  ];
}
  where
    here : (j : ℕ) (v : W) → slice_get (slice_set compounds k w) j ≡ Some v → j ≡ k → IsFor q own by v (assign rs (low + k) t (low + j))
    here j v there same =
        let within = slice_get_within (slice_set compounds k w) j v there in
        let inside : k < length compounds = omega (arith, within, same, length-set compounds k w) in
        let word : v ≡ w = some_word v w (sym there ∙ ap (slice_get (slice_set compounds k w)) same ∙ got_set compounds k w inside) in
        rw (word, eq-eqb (low + j) (low + k) (ap (λ i. low + i) same)) is

    elsewhere : (j : ℕ) (v : W) → slice_get (slice_set compounds k w) j ≡ Some v → j ≢ k → IsFor q own by v (assign rs (low + k) t (low + j))
    elsewhere j v there other =
        rw (ne_eqb (low + j) (low + k) (λ e. other (omega (arith, e)))) (for_on keeps (known.compounds j v (sym (got_other compounds k j w other) ∙ there)))

-- ---- blocks, the last one first

-- what holds of all of two lists holds of all of each
pub all_left : {X : Type 0} (P : X → Type 0) (xs ys : List X) → All P (xs ++ ys) → All P xs
all_left P xs ys all = λ k d below. subst P (get_or_append_left xs ys d k below) (all k d (omega (arith, below, length-append xs ys)))

pub all_right : {X : Type 0} (P : X → Type 0) (xs ys : List X) → All P (xs ++ ys) → All P ys
all_right P xs ys all = λ k d below. subst P (get_or-append-add xs ys k d) (all (length xs + k) d (omega (arith, below, length-append xs ys)))

-- what holds of the operands of all blocks holds of those of each
pub operands_at : (P : Operand → Type 0) (bs : List Block) (i : ℕ) (b : Block) → i < length bs → b ≡ get_or bs i b → All P (all_operands bs) → All P b.operands.items
operands_at P [] i b inside is all = absurd (omega (arith, inside))
operands_at P (a ∷ bs) zero b inside is all = rw is (all_left P a.operands.items (all_operands bs) all)
operands_at P (a ∷ bs) (suc i) b inside is all = operands_at P bs i b (omega (arith, inside)) is (all_right P a.operands.items (all_operands bs) all)

-- a variable's word stands on, and those of compounds stand, whatever they are
pub held_with : {W : Type 0} {p q : Present W} (environment compounds : List W) (operand : Operand) → KeepsWords p q → All (Holds q) compounds → IsHeld p environment [] operand → IsHeld q environment compounds operand
held_with environment compounds (New x) keeps hold held = λ w there. keeps.stand w (held w there)
held_with environment compounds (Old x) keeps hold held = λ w there. keeps.stand w (held w there)
held_with environment compounds (Number z) keeps hold held = held
held_with environment compounds (Atom a) keeps hold held = held
held_with {q = q} environment compounds (Inner k) keeps hold held = λ w there. at_place (Holds q) compounds k w (slice_get_within compounds k w there) (sym (get_or_from_slice_get compounds k w w there)) hold

-- Where a list is read from its end on, so many of it: the place of the next one, which stands before those.
pub turned : {S X : Type 0} {steps : S → Option (Bor X) → S → Type 0} {s : S} (xs : List X) → YieldsList steps (λ y. y.now) s (reverse xs)
    → (yielded : List (Bor X)) (t : S) → Yields steps s yielded t → (r : Option (Bor X)) (u : S) (x : Bor X) → r ≡ Some x → steps t r u
    → (length xs - (length yielded + 1) < length xs) × (x.now ≡ get_or xs (length xs - (length yielded + 1)) x.now)
    × (drop (length xs - (length yielded + 1)) xs ≡ x.now ∷ drop (length xs - length yielded) xs)
turned xs yields yielded t by_steps r u x some gives =
    let n = length yielded in
    let turn = YieldsList-turn yields yielded t by_steps r u x some gives in
    let inside : n < length xs = omega (arith, turn.0, length-reverse xs) in
    let place : length xs - 1 - n ≡ length xs - (n + 1) = omega arith in
    let low : length xs - (n + 1) < length xs = omega (arith, inside) in
    let there : x.now ≡ get_or xs (length xs - (n + 1)) x.now = turn.1 ∙ get_or-reverse xs n x.now inside ∙ ap (λ k. get_or xs k x.now) place in
    let next : length xs - (n + 1) + 1 ≡ length xs - n = omega (arith, inside) in
    (low, there, drop_more xs (length xs - (n + 1)) x.now low ∙ ap₂ ◌∷◌ (sym there) (ap (λ k. drop k xs) next))

-- one more block, before those that were made
pub made_more : {W : Type 0} (names : List (List ℕ)) (b : Block) (bs : List Block) (p q r : Present W) (environment compounds compounds' compounds'' : List W)
    → MakesAll names bs p q environment compounds compounds' → MakesAll names (b ∷ []) q r environment compounds' compounds'' → MakesAll names (b ∷ bs) p r environment compounds compounds''
made_more names b bs p q r environment compounds compounds' compounds'' others one own by next low met rs known are_met =
    one own by next low met (filled next (map (block_at names low) bs) rs)
    (others own by next low met rs known (all_right (IsMet met) b.operands.items (all_operands bs) are_met))
    (rw append-nil (all_left (IsMet met) b.operands.items (all_operands bs) are_met))

-- the blocks from a place on take no more cells than all of them
pub blocks_within : (bs : List Block) (n : ℕ) → cells_of_blocks (drop n bs) ≤ cells_of_blocks bs
blocks_within bs zero = omega arith
blocks_within [] (suc n) = omega arith
blocks_within (b ∷ bs) (suc n) = let more = blocks_within bs n in omega (arith, more)
