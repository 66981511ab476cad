-- Blocks that are emitted one after the other.
use Rattle.std.proofs.Common.{◌≡◌, ℕ, zero, suc, ◌+◌, ◌-◌, ◌*◌, ◌<◌, ◌≤◌, List, [], ◌∷◌, ◌++◌, length, map, get_or, Bool, true, false, if◌then◌else◌, refl, sym, ap, ap₂, subst, ◌∙◌, arith, append_assoc}
use Rattle.std.proofs.lemmas.Bool.{false≢true}
use Rattle.std.proofs.lemmas.List.{append-nil, map-append, length-map}
use Rattle.std.specs.List.{slice_set}
use Rattle.std.specs.String.{string_bytes}
use Rattle.std.specs.Borrow.{Bor}
use Rattle.iso_model.specs.declared.terms.Term.{Term}
use Rattle.iso_model.specs.Terms.Trees.{Tree, Variable, Integer, Name, Apply, End, More}
use Rattle.iso_model.specs.Terms.TermOf.{term_of, row_of}
use Rattle.iso_model.specs.Terms.Integers.{is_short}
use Rattle.iso_model.specs.Terms.Sizes.{size}
use Rattle.iso_alloc.specs.declared.places.Place.{Place}
use Rattle.iso_compile.specs.declared.instructions.Block.{Block}
use Rattle.iso_compile.specs.declared.emitting.Task.{Task}
use Rattle.iso_compile.specs.declared.emitting.Task.TheVariants.{Row, Close}
use Rattle.iso_compile.specs.declared.emitting.Emitter.{Emitter}
use Rattle.iso_compile.specs.Table as table
use Rattle.iso_compile.specs.TermCode.{tops, deep, parts, blocks}
use Rattle.iso_compile.specs.Emitted.{part_of, block_of, all_parts, Marking, Marks}
use Rattle.iso_compile.specs.Tasks.{Stage, stage_of, closed, with_row, with_task, with_tasks, task_load, tasks_load, is_atomic, Goes}

abbrev pub stage : List table.Block → ℕ → Stage
stage code next = record { code = code; next = next }

abbrev block : ℕ → List ℕ → List table.Part → ℕ → table.Block
block r f ps n = record { register = r; name = f; parts = ps; inner = n }

-- ---- tasks

pub with_push : (tasks : List Task) (task : Task) (s : Stage) → with_tasks (tasks ++ task ∷ []) s ≡ with_tasks tasks (with_task task s)
with_push [] task s = refl
with_push (t ∷ tasks) task s = ap (with_task t) (with_push tasks task s)

pub load_push : (tasks : List Task) (task : Task) → tasks_load (tasks ++ task ∷ []) ≡ task_load task + tasks_load tasks
load_push [] task = refl
load_push (t ∷ tasks) task = let e = load_push tasks task in omega (arith, e)

-- a task more was left
pub left_more : (tasks more : List Task) (task : Task) (s : Stage) → more ≡ tasks ++ task ∷ [] → with_tasks more s ≡ with_tasks tasks (with_task task s)
left_more tasks more task s e = ap (λ ts. with_tasks ts s) e ∙ with_push tasks task s

pub load_more : (tasks more : List Task) (task : Task) → more ≡ tasks ++ task ∷ [] → tasks_load more ≡ task_load task + tasks_load tasks
load_more tasks more task e = ap tasks_load e ∙ load_push tasks task

-- ---- rows

same_stage : (s : Stage) (r a b n : ℕ) (ts : Tree) → a ≡ r → b ≡ s.next → n ≡ s.next + deep ts → with_row r ts s ≡ stage (s.code ++ blocks a b ts) n
same_stage s r a b n ts e f g = ap₂ stage (ap₂ (λ x y. s.code ++ blocks x y ts) (sym e) (sym f)) (sym g)

-- the first term is no compound
pub row_atomic : (r : ℕ) (t ts : Tree) (s : Stage) → is_atomic t ≡ true → with_row r ts s ≡ with_row r (More t ts) s
row_atomic r (Variable n) ts s h = same_stage s r (r + 0) (s.next + 0) (s.next + (0 + deep ts)) ts (omega arith) (omega arith) (omega arith)
row_atomic r (Integer z) ts s h = same_stage s r (r + 0) (s.next + 0) (s.next + (0 + deep ts)) ts (omega arith) (omega arith) (omega arith)
row_atomic r (Name a) ts s h = same_stage s r (r + 0) (s.next + 0) (s.next + (0 + deep ts)) ts (omega arith) (omega arith) (omega arith)
row_atomic r (Apply f us) ts s h = absurd (false≢true h)
row_atomic r End ts s h = absurd (false≢true h)
row_atomic r (More u us) ts s h = absurd (false≢true h)

-- the first term is a compound
pub row_compound : (r : ℕ) (f : List ℕ) (us ts : Tree) (s : Stage) → with_row (r + 1) ts (with_row r (Apply f us) s) ≡ with_row r (More (Apply f us) ts) s
row_compound r f us ts s = ap₂ stage (append_assoc s.code (blocks r s.next (Apply f us)) (blocks (r + 1) (s.next + (tops us + deep us)) ts)) (omega arith)

some_size : (short : Bool) → 1 ≤ (if short then 1 else 4)
some_size true = omega arith
some_size false = omega arith

size_atomic : (t : Tree) → is_atomic t ≡ true → 1 ≤ size t
size_atomic (Variable n) h = omega arith
size_atomic (Integer z) h = some_size (is_short z)
size_atomic (Name a) h = omega arith
size_atomic (Apply f us) h = absurd (false≢true h)
size_atomic End h = absurd (false≢true h)
size_atomic (More u us) h = absurd (false≢true h)

module _ (tasks more : List Task) (r : ℕ) (first : Term) (others : Bor (List Term)) (terms : List Term) (split : terms ≡ first ∷ others.now) where
  module _ (pushed : more ≡ tasks ++ Row r others ∷ []) (atomic : is_atomic (term_of first) ≡ true) where
    pub atomic_first : (s : Stage) → with_tasks more s ≡ with_tasks tasks (with_row r (row_of terms) s)
    atomic_first s =
        left_more tasks more (Row r others) s pushed ∙ ap (with_tasks tasks) (row_atomic r (term_of first) (row_of others.now) s atomic ∙ ap (λ ts. with_row r (row_of ts) s) (sym split))

    pub atomic_load : tasks_load more < 1 + 2 * size (row_of terms) + tasks_load tasks
    atomic_load =
        let load = load_more tasks more (Row r others) pushed in
        let one = size_atomic (term_of first) atomic in
        let whole : size (row_of terms) ≡ size (term_of first) + size (row_of others.now) = ap (λ ts. size (row_of ts)) split in
        omega (arith, load, one, whole)

  module _ (next : ℕ) (is : next ≡ r + 1) (f : List ℕ) (us : Tree) (of : term_of first ≡ Apply f us) (pushed : more ≡ tasks ++ Row next others ∷ []) where
    pub compound_first : (s : Stage) → with_tasks more (with_row r (Apply f us) s) ≡ with_tasks tasks (with_row r (row_of terms) s)
    compound_first s =
        left_more tasks more (Row next others) (with_row r (Apply f us) s) pushed
        ∙ ap (with_tasks tasks) (ap (λ k. with_row k (row_of others.now) (with_row r (Apply f us) s)) is ∙ row_compound r f us (row_of others.now) s
        ∙ ap (λ t. with_row r (More t (row_of others.now)) s) (sym of) ∙ ap (λ ts. with_row r (row_of ts) s) (sym split))

    pub compound_load : (last : ℕ) → last ≤ 2 + 2 * size us + tasks_load more → last < 1 + 2 * size (row_of terms) + tasks_load tasks
    compound_load last low =
        let load = load_more tasks more (Row next others) pushed in
        let one : size (term_of first) ≡ 2 + size us = ap size of in
        let whole : size (row_of terms) ≡ size (term_of first) + size (row_of others.now) = ap (λ ts. size (row_of ts)) split in
        omega (arith, low, load, one, whole)

-- ---- one compound

closed_at : (xs : List table.Block) (b : table.Block) (cs : List table.Block) (n : ℕ) → closed (length xs) n ((xs ++ b ∷ []) ++ cs) ≡ xs ++ record b { inner = n } ∷ cs
closed_at [] b cs n = refl
closed_at (x ∷ xs) b cs n = ap (λ ys. x ∷ ys) (closed_at xs b cs n)

-- its block, those of the compounds in it, and then how many these are
block_closed : (code : List table.Block) (next r : ℕ) (f : List ℕ) (us : Tree) (at : ℕ) → at ≡ length code
    → record { code = closed at (((next + tops us) + deep us) - next) ((code ++ block r f (parts next us) 0 ∷ []) ++ blocks next (next + tops us) us); next = (next + tops us) + deep us }
    ≡ with_row r (Apply f us) (stage code next)
block_closed code next r f us at there =
    ap₂ stage
    (ap (λ k. closed k (((next + tops us) + deep us) - next) ((code ++ block r f (parts next us) 0 ∷ []) ++ blocks next (next + tops us) us)) there
    ∙ closed_at code (block r f (parts next us) 0) (blocks next (next + tops us) us) (((next + tops us) + deep us) - next)
    ∙ ap (λ k. code ++ block r f (parts next us) k ∷ blocks next (next + tops us) us) (omega arith))
    (omega arith)

module _ (tasks one two : List Task) (at : ℕ) (row : Bor (List Term)) (e after : Emitter) (b : Block) (f : List ℕ)
    (first : one ≡ tasks ++ Close at e.next ∷ []) (second : two ≡ one ++ Row e.next row ∷ []) where
  pub compound_emitted : at ≡ length e.code.items → after.code.items ≡ e.code.items ++ b ∷ [] → after.next ≡ e.next + tops (row_of row.now) → string_bytes b.name ≡ f → map part_of b.parts.items ≡ parts e.next (row_of row.now) → b.inner ≡ 0
      → with_tasks two (stage_of after) ≡ with_tasks tasks (with_row b.register (Apply f (row_of row.now)) (stage_of e))
  compound_emitted there code next name made none =
      let us = row_of row.now in
      let same : block_of b ≡ block b.register f (parts e.next us) 0 = ap₂ (λ x y. block b.register x y b.inner) name made ∙ ap (block b.register f (parts e.next us)) none in
      let now : stage_of after ≡ stage (map block_of e.code.items ++ block b.register f (parts e.next us) 0 ∷ []) (e.next + tops us) =
      ap₂ stage (ap (map block_of) code ∙ map-append block_of e.code.items (b ∷ []) ∙ ap (λ x. map block_of e.code.items ++ x ∷ []) same) next in
      left_more one two (Row e.next row) (stage_of after) second ∙ left_more tasks one (Close at e.next) (with_row e.next us (stage_of after)) first
      ∙ ap (λ s. with_tasks tasks (with_task (Close at e.next) (with_row e.next us s))) now
      ∙ ap (with_tasks tasks) (block_closed (map block_of e.code.items) e.next b.register f us at (there ∙ sym (length-map e.code.items block_of)))

  pub compound_loads : tasks_load two ≤ 2 + 2 * size (row_of row.now) + tasks_load tasks
  compound_loads =
      let a = load_more tasks one (Close at e.next) first in
      let c = load_more one two (Row e.next row) second in
      omega (arith, a, c)

parts_more : (xs : List Block) (b : Block) → all_parts (xs ++ b ∷ []) ≡ all_parts xs ++ b.parts.items
parts_more [] b = append-nil b.parts.items
parts_more (x ∷ xs) b = ap (λ ps. x.parts.items ++ ps) (parts_more xs b) ∙ sym (append_assoc x.parts.items (all_parts xs) b.parts.items)

-- its parts are marked
pub compound_marked : (places : List Place) (e after : Emitter) (b : Block) → after.code.items ≡ e.code.items ++ b ∷ [] → Marks places b.parts.items e.met.items after.met.items → Goes places e after
compound_marked places e after b code marks met parts given =
    subst (λ ps. Marking places met ps after.met.items)
    (append_assoc parts (all_parts e.code.items) b.parts.items ∙ ap (λ ps. parts ++ ps) (sym (parts_more e.code.items b) ∙ ap all_parts (sym code)))
    (marks met (parts ++ all_parts e.code.items) given)

-- ---- how many blocks are inside

pub closed_set : (xs : List Block) (at n : ℕ) (e : Block) → e ≡ get_or xs at e → map block_of (slice_set xs at (record e { inner = n })) ≡ closed at n (map block_of xs)
closed_set [] at n e is = refl
closed_set (x ∷ xs) zero n e is = ap (λ y. block_of (record y { inner = n }) ∷ map block_of xs) is
closed_set (x ∷ xs) (suc at) n e is = ap (λ ys. block_of x ∷ ys) (closed_set xs at n e is)

pub closed_past : (xs : List Block) (at n : ℕ) → length xs ≤ at → map block_of xs ≡ closed at n (map block_of xs)
closed_past [] at n high = refl
closed_past (x ∷ xs) zero n high = absurd (omega (arith, high))
closed_past (x ∷ xs) (suc at) n high = ap (λ ys. block_of x ∷ ys) (closed_past xs at n (omega (arith, high)))

pub parts_set : (xs : List Block) (at n : ℕ) (e : Block) → e ≡ get_or xs at e → all_parts (slice_set xs at (record e { inner = n })) ≡ all_parts xs
parts_set [] at n e is = refl
parts_set (x ∷ xs) zero n e is = ap (λ y. y.parts.items ++ all_parts xs) is
parts_set (x ∷ xs) (suc at) n e is = ap (λ ps. x.parts.items ++ ps) (parts_set xs at n e is)
