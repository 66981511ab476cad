-- Tasks that are put before others.
use Rattle.std.proofs.Common.{◌≡◌, ℕ, ◌+◌, Bool, true, false, ◌||◌, List, [], ◌∷◌, ◌++◌, Result, Ok, Err, OnOk, is_ok, if◌then◌else◌, refl, ap, sym, append_assoc, arith}
use Rattle.iso_ops.specs.Operators as ops
use Rattle.iso_model.specs.Syntax.Pieces as pieces
use Rattle.iso_write.specs.declared.tasks.Place.{Place}
use Rattle.iso_write.specs.declared.tasks.Place.TheVariants.{Whole, Left, Right}
use Rattle.iso_write.specs.declared.tasks.Task.{Task}
use Rattle.iso_write.specs.Tasks.{placed, needs_brackets, with_task, with_tasks, tasks_load}

pub on_ok_then : {T E P : Type 0} (r : Result T E) → (is_ok r ≡ true → P) → OnOk r P
on_ok_then (Ok x) f = f refl
on_ok_then (Err e) f = tt

pub with_tasks-append : (style : pieces.Style) (table : List ops.Operator) (seen : List ℕ) (after : List pieces.Piece) (xs ys : List Task)
    → with_tasks style table seen after (xs ++ ys) ≡ with_tasks style table seen (with_tasks style table seen after xs) ys
with_tasks-append style table seen after [] ys = refl
with_tasks-append style table seen after (x ∷ xs) ys = with_tasks-append style table seen (with_task style table seen x after) xs ys

pub tasks_load-append : (xs ys : List Task) → tasks_load (xs ++ ys) ≡ tasks_load ys + tasks_load xs
tasks_load-append [] ys = omega arith
tasks_load-append (x ∷ xs) ys = omega (arith, tasks_load-append xs ys)

twice_by : (a b : Bool) (x y : List pieces.Piece) → (if a then x else (if b then x else y)) ≡ (if a || b then x else y)
twice_by true b x y = refl
twice_by false b x y = refl

-- a term in its place, by the test of its brackets
pub placed_by : (place : Place) (w : pieces.Written) → placed place w ≡ (if needs_brackets place w then pieces.bracketed w.bare else w.bare)
placed_by (Whole most) w = refl
placed_by (Left o) w = twice_by _ _ (pieces.bracketed w.bare) w.bare
placed_by (Right o) w = refl

pub placed_bracketed : (place : Place) (w : pieces.Written) (after : List pieces.Piece) → needs_brackets place w ≡ true
    → pieces.piece (40 ∷ []) ∷ (w.bare ++ (pieces.piece (41 ∷ []) ∷ after)) ≡ placed place w ++ after
placed_bracketed place w after held =
    let by = placed_by place w in
    rw (by, held) (ap (λ z. pieces.piece (40 ∷ []) ∷ z) (sym (append_assoc w.bare (pieces.piece (41 ∷ []) ∷ []) after)))

pub placed_bare : (place : Place) (w : pieces.Written) (after : List pieces.Piece) → needs_brackets place w ≡ false → w.bare ++ after ≡ placed place w ++ after
placed_bare place w after failed = let by = placed_by place w in rw (by, failed) refl
