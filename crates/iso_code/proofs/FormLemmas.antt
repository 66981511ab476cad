-- The form of the code of terms: its registers, how many arguments its blocks have, and which blocks are inner ones.
use Rattle.std.proofs.Common.{◌≡◌, ◌+◌, ◌<◌, ◌≤◌, ◌⊎◌, ◌&&◌, ℕ, true, List, [], ◌∷◌, ◌++◌, length, map, take, inl, inr, refl, sym, subst, arith, length-append, nat_le}
use Rattle.std.specs.List.{All}
use Rattle.std.proofs.lemmas.Bool.{false≢true, and_parts}
use Rattle.std.proofs.lemmas.Bool.Decides.{nat_tests}
use Rattle.std.proofs.lemmas.List.{take-append-le}
use Rattle.std.proofs.lemmas.List.Elements.{All-nil, All-cons, All-head, All-tail, All-append, All-take}
use Rattle.iso_model.specs.Terms.Trees.{Tree, Variable, Integer, Name, Apply, End, More, count, arities_fit}
use Rattle.iso_model.specs.Terms.Sorts.{is_term, is_row}
use Rattle.iso_compile.specs.Table.{Block, Place, Number, Atom, Part, Inner}
use Rattle.iso_compile.specs.TermCode.{tops, deep, part, parts, blocks}
use Rattle.iso_compile.specs.Orders.{PartsWithin, BlocksWithin}
use Rattle.iso_compile.specs.Heads.{Get, get, gets, head_blocks}
use Rattle.iso_code.specs.Loading.{IsFrom, IsFull, IsAbove}

-- no compound
abbrev pub IsPlain : Part → Type 0
IsPlain (Inner r) = ⊥
IsPlain part = Unit {0}

-- what meets an argument, of so many, is no compound
pub record IsGetOf (arity : ℕ) (g : Get) : Type 0 where
  pub argument : g.register < arity
  pub plain : IsPlain g.part

-- A block whose register is that of an argument, of so many, or one from low on, as are those of compounds in it.
pub record HasRegisters (low arity : ℕ) (b : Block) : Type 0 where
  pub register : (b.register < arity) ⊎ (low ≤ b.register)
  pub parts : All (IsFrom low) b.parts

-- what holds of all that a function makes of items
pub all_unmapped : {X Y : Type 0} (P : Y → Type 0) (f : X → Y) (xs : List X) → All P (map f xs) → All (λ x. P (f x)) xs
all_unmapped P f [] h = All-nil (λ x. P (f x))
all_unmapped P f (x ∷ xs) h = All-cons (λ y. P (f y)) x xs (All-head P (f x) (map f xs) h) (all_unmapped P f xs (All-tail P (f x) (map f xs) h))

-- ---- parts

-- the registers of compounds among parts
part_from : (low r : ℕ) (t : Tree) → low ≤ r → IsFrom low (part r t)
part_from low r (Variable x) h = tt
part_from low r (Integer z) h = tt
part_from low r (Name a) h = tt
part_from low r (Apply f ts) h = h
part_from low r End h = h
part_from low r (More t ts) h = h

pub parts_from : (low r : ℕ) (ts : Tree) → low ≤ r → All (IsFrom low) (parts r ts)
parts_from low r (More t ts) h = All-cons (IsFrom low) (part r t) (parts (r + tops t) ts) (part_from low r t h) (parts_from low (r + tops t) ts (omega (arith, h)))
parts_from low r (Variable x) h = All-nil (IsFrom low)
parts_from low r (Integer z) h = All-nil (IsFrom low)
parts_from low r (Name a) h = All-nil (IsFrom low)
parts_from low r (Apply f ts) h = All-nil (IsFrom low)
parts_from low r End h = All-nil (IsFrom low)

-- how many parts there are
pub parts_many : (r : ℕ) (ts : Tree) → length (parts r ts) ≡ count ts
parts_many r (More t ts) = (let h = parts_many (r + tops t) ts in omega (arith, h))
parts_many r (Variable x) = refl
parts_many r (Integer z) = refl
parts_many r (Name a) = refl
parts_many r (Apply f ts) = refl
parts_many r End = refl

-- ---- blocks

-- how many blocks there are
blocks_many : (r m : ℕ) (t : Tree) → length (blocks r m t) ≡ tops t + deep t
blocks_many r m (Apply f ts) = (let h = blocks_many m (m + tops ts) ts in omega (arith, h))
blocks_many r m (More t ts) =
    let both = length-append (blocks r m t) (blocks (r + tops t) (m + deep t) ts) in
    let one = blocks_many r m t in
    let others = blocks_many (r + tops t) (m + deep t) ts in
    omega (arith, both, one, others)
blocks_many r m (Variable x) = refl
blocks_many r m (Integer z) = refl
blocks_many r m (Name a) = refl
blocks_many r m End = refl

-- the block of a compound
block_is : ℕ → ℕ → List ℕ → Tree → Block
block_is r m f ts = record { register = r; name = f; parts = parts m ts; inner = tops ts + deep ts }

-- it has 1 to 255 arguments
block_full : (r m : ℕ) (f : List ℕ) (ts : Tree) → arities_fit (Apply f ts) ≡ true → IsFull (block_is r m f ts)
unfolding block_is
block_full r m f ts h =
    let some = and_parts (nat_le 1 (count ts)) (nat_le (count ts) 255 && arities_fit ts) h in
    let few = and_parts (nat_le (count ts) 255) (arities_fit ts) some.1 in
    let many = parts_many m ts in
    record { some = grind (arith, nat_tests, some.0, many); few = grind (arith, nat_tests, few.0, many) }

-- all blocks of terms do
pub blocks_full : (r m : ℕ) (t : Tree) → arities_fit t ≡ true → All IsFull (blocks r m t)
unfolding block_is
blocks_full r m (Apply f ts) h =
    let some = and_parts (nat_le 1 (count ts)) (nat_le (count ts) 255 && arities_fit ts) h in
    let few = and_parts (nat_le (count ts) 255) (arities_fit ts) some.1 in
    All-cons IsFull (block_is r m f ts) (blocks m (m + tops ts) ts) (block_full r m f ts h) (blocks_full m (m + tops ts) ts few.1)
blocks_full r m (More t ts) h =
    let both = and_parts (arities_fit t) (arities_fit ts) h in
    All-append IsFull (blocks r m t) (blocks (r + tops t) (m + deep t) ts) (blocks_full r m t both.0) (blocks_full (r + tops t) (m + deep t) ts both.1)
blocks_full r m (Variable x) h = All-nil IsFull
blocks_full r m (Integer z) h = All-nil IsFull
blocks_full r m (Name a) h = All-nil IsFull
blocks_full r m End h = All-nil IsFull

-- their registers are from low on
pub blocks_above : (low r m : ℕ) (t : Tree) → low ≤ r → low ≤ m → All (IsAbove low) (blocks r m t)
unfolding block_is
blocks_above low r m (Apply f ts) h k =
    All-cons (IsAbove low) (block_is r m f ts) (blocks m (m + tops ts) ts) h (blocks_above low m (m + tops ts) ts k (omega (arith, k)))
blocks_above low r m (More t ts) h k =
    All-append (IsAbove low) (blocks r m t) (blocks (r + tops t) (m + deep t) ts) (blocks_above low r m t h k) (blocks_above low (r + tops t) (m + deep t) ts (omega (arith, h)) (omega (arith, k)))
blocks_above low r m (Variable x) h k = All-nil (IsAbove low)
blocks_above low r m (Integer z) h k = All-nil (IsAbove low)
blocks_above low r m (Name a) h k = All-nil (IsAbove low)
blocks_above low r m End h k = All-nil (IsAbove low)

-- so are those of compounds in them
pub blocks_fit : (low arity r m : ℕ) (t : Tree) → low ≤ r → low ≤ m → All (HasRegisters low arity) (blocks r m t)
unfolding block_is
blocks_fit low arity r m (Apply f ts) h k =
    All-cons (HasRegisters low arity) (block_is r m f ts) (blocks m (m + tops ts) ts) (record { register = inr h; parts = parts_from low m ts k }) (blocks_fit low arity m (m + tops ts) ts k (omega (arith, k)))
blocks_fit low arity r m (More t ts) h k =
    All-append (HasRegisters low arity) (blocks r m t) (blocks (r + tops t) (m + deep t) ts) (blocks_fit low arity r m t h k) (blocks_fit low arity (r + tops t) (m + deep t) ts (omega (arith, h)) (omega (arith, k)))
blocks_fit low arity r m (Variable x) h k = All-nil (HasRegisters low arity)
blocks_fit low arity r m (Integer z) h k = All-nil (HasRegisters low arity)
blocks_fit low arity r m (Name a) h k = All-nil (HasRegisters low arity)
blocks_fit low arity r m End h k = All-nil (HasRegisters low arity)

-- ---- inner blocks

-- Those of compounds in a block stand behind it, and their registers are from low on.
abbrev pub AreNested : ℕ → List Block → Type 0
AreNested low [] = Unit {0}
AreNested low (b ∷ bs) = (b.inner ≤ length bs) × All (IsAbove low) (take b.inner bs) × AreNested low bs

nested_append : (low : ℕ) (xs ys : List Block) → AreNested low xs → AreNested low ys → AreNested low (xs ++ ys)
nested_append low [] ys h k = k
nested_append low (b ∷ xs) ys h k = (
  omega (arith, h.0, length-append xs ys),
  subst (All (IsAbove low)) (sym (take-append-le b.inner xs ys h.0)) h.1,
  nested_append low xs ys h.2 k,
)

pub blocks_nested : (low r m : ℕ) (t : Tree) → low ≤ m → AreNested low (blocks r m t)
blocks_nested low r m (Apply f ts) k =
    let many = blocks_many m (m + tops ts) ts in (
      omega (arith, many),
      All-take (IsAbove low) (tops ts + deep ts) (blocks m (m + tops ts) ts) (blocks_above low m (m + tops ts) ts k (omega (arith, k))),
      blocks_nested low m (m + tops ts) ts (omega (arith, k)),
    )
blocks_nested low r m (More t ts) k = nested_append low (blocks r m t) (blocks (r + tops t) (m + deep t) ts) (blocks_nested low r m t k) (blocks_nested low (r + tops t) (m + deep t) ts (omega (arith, k)))
blocks_nested low r m (Variable x) k = tt
blocks_nested low r m (Integer z) k = tt
blocks_nested low r m (Name a) k = tt
blocks_nested low r m End k = tt

-- ---- heads

pub heads_full : (i m : ℕ) (ts : Tree) → arities_fit ts ≡ true → All IsFull (head_blocks i m ts)
heads_full i m (More t ts) h =
    let both = and_parts (arities_fit t) (arities_fit ts) h in
    All-append IsFull (blocks i m t) (head_blocks (i + 1) (m + deep t) ts) (blocks_full i m t both.0) (heads_full (i + 1) (m + deep t) ts both.1)
heads_full i m (Variable x) h = All-nil IsFull
heads_full i m (Integer z) h = All-nil IsFull
heads_full i m (Name a) h = All-nil IsFull
heads_full i m (Apply f ts) h = All-nil IsFull
heads_full i m End h = All-nil IsFull

pub heads_nested : (low i m : ℕ) (ts : Tree) → low ≤ m → AreNested low (head_blocks i m ts)
heads_nested low i m (More t ts) k = nested_append low (blocks i m t) (head_blocks (i + 1) (m + deep t) ts) (blocks_nested low i m t k) (heads_nested low (i + 1) (m + deep t) ts (omega (arith, k)))
heads_nested low i m (Variable x) k = tt
heads_nested low i m (Integer z) k = tt
heads_nested low i m (Name a) k = tt
heads_nested low i m (Apply f ts) k = tt
heads_nested low i m End k = tt

-- a compound of a head has the register of its argument, and those in it have registers from low on
argument_fits : (low arity i m : ℕ) (t : Tree) → is_term t ≡ true → i < arity → low ≤ m → All (HasRegisters low arity) (blocks i m t)
unfolding block_is
argument_fits low arity i m (Apply f ts) form h k =
    All-cons (HasRegisters low arity) (block_is i m f ts) (blocks m (m + tops ts) ts) (record { register = inl h; parts = parts_from low m ts k }) (blocks_fit low arity m (m + tops ts) ts k (omega (arith, k)))
argument_fits low arity i m (Variable x) form h k = All-nil (HasRegisters low arity)
argument_fits low arity i m (Integer z) form h k = All-nil (HasRegisters low arity)
argument_fits low arity i m (Name a) form h k = All-nil (HasRegisters low arity)
argument_fits low arity i m (More t ts) form h k = absurd (false≢true form)
argument_fits low arity i m End form h k = absurd (false≢true form)

pub heads_fit : (low arity i m : ℕ) (ts : Tree) → is_row ts ≡ true → i + count ts ≤ arity → low ≤ m → All (HasRegisters low arity) (head_blocks i m ts)
heads_fit low arity i m (More t ts) form h k =
    let both = and_parts (is_term t) (is_row ts) form in
    All-append (HasRegisters low arity) (blocks i m t) (head_blocks (i + 1) (m + deep t) ts) (argument_fits low arity i m t both.0 (omega (arith, h)) k)
    (heads_fit low arity (i + 1) (m + deep t) ts both.1 (omega (arith, h)) (omega (arith, k)))
heads_fit low arity i m End form h k = All-nil (HasRegisters low arity)
heads_fit low arity i m (Variable x) form h k = absurd (false≢true form)
heads_fit low arity i m (Integer z) form h k = absurd (false≢true form)
heads_fit low arity i m (Name a) form h k = absurd (false≢true form)
heads_fit low arity i m (Apply f ts) form h k = absurd (false≢true form)

-- what meets an argument is no compound, and the argument is there
get_fits : (arity i : ℕ) (t : Tree) → is_term t ≡ true → i < arity → All (IsGetOf arity) (get i t)
get_fits arity i (Variable x) form h = All-cons (IsGetOf arity) (record { register = i; part = Place x }) [] (record { argument = h; plain = tt }) (All-nil (IsGetOf arity))
get_fits arity i (Integer z) form h = All-cons (IsGetOf arity) (record { register = i; part = Number z }) [] (record { argument = h; plain = tt }) (All-nil (IsGetOf arity))
get_fits arity i (Name a) form h = All-cons (IsGetOf arity) (record { register = i; part = Atom a }) [] (record { argument = h; plain = tt }) (All-nil (IsGetOf arity))
get_fits arity i (Apply f ts) form h = All-nil (IsGetOf arity)
get_fits arity i (More t ts) form h = absurd (false≢true form)
get_fits arity i End form h = absurd (false≢true form)

pub gets_fit : (arity i : ℕ) (ts : Tree) → is_row ts ≡ true → i + count ts ≤ arity → All (IsGetOf arity) (gets i ts)
gets_fit arity i (More t ts) form h =
    let both = and_parts (is_term t) (is_row ts) form in
    All-append (IsGetOf arity) (get i t) (gets (i + 1) ts) (get_fits arity i t both.0 (omega (arith, h))) (gets_fit arity (i + 1) ts both.1 (omega (arith, h)))
gets_fit arity i End form h = All-nil (IsGetOf arity)
gets_fit arity i (Variable x) form h = absurd (false≢true form)
gets_fit arity i (Integer z) form h = absurd (false≢true form)
gets_fit arity i (Name a) form h = absurd (false≢true form)
gets_fit arity i (Apply f ts) form h = absurd (false≢true form)

-- ---- goals

-- the registers of compounds among the parts of a goal
pub within_from : (low high : ℕ) (ps : List Part) → PartsWithin low high ps → All (IsFrom low) ps
within_from low high [] h = All-nil (IsFrom low)
within_from low high (Place x ∷ ps) h = All-cons (IsFrom low) (Place x) ps tt (within_from low high ps h)
within_from low high (Number z ∷ ps) h = All-cons (IsFrom low) (Number z) ps tt (within_from low high ps h)
within_from low high (Atom a ∷ ps) h = All-cons (IsFrom low) (Atom a) ps tt (within_from low high ps h)
within_from low high (Inner r ∷ ps) h = All-cons (IsFrom low) (Inner r) ps h.0 (within_from low high ps h.2)

-- and in its blocks
pub within_parts : (low high : ℕ) (bs : List Block) → BlocksWithin low high bs → All (λ b. All (IsFrom low) b.parts) bs
within_parts low high [] h = All-nil (λ b. All (IsFrom low) b.parts)
within_parts low high (b ∷ bs) h = All-cons (λ b. All (IsFrom low) b.parts) b bs (within_from low high b.parts h.1) (within_parts low high bs h.2)

-- and of its blocks
pub within_fit : (low high : ℕ) (bs : List Block) → BlocksWithin low high bs → All (IsAbove low) bs → All (HasRegisters low 0) bs
within_fit low high [] h above = All-nil (HasRegisters low 0)
within_fit low high (b ∷ bs) h above =
    All-cons (HasRegisters low 0) b bs (record { register = inr (All-head (IsAbove low) b bs above); parts = within_from low high b.parts h.1 })
    (within_fit low high bs h.2 (All-tail (IsAbove low) b bs above))
