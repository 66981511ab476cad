-- The code of a goal's arguments: all that it names is there, and what it makes is the goal.
use Rattle.std.proofs.Common.{◌≡◌, ◌<◌, ◌+◌, ℕ, List, [], ◌∷◌, ◌++◌, length, map, true, Some, inl, inr, refl, sym, ap, ap₂, subst, ◌∙◌, ◌&&◌, nat_le, arith, append-nil, pos}
use Rattle.std.specs.List.{All, slice_get}
use Rattle.std.specs.Option.{option_map}
use Rattle.std.specs.String.{string_bytes}
use Rattle.std.proofs.lemmas.Bool.{false≢true, or_cases, and_parts}
use Rattle.std.proofs.lemmas.Bool.Decides.{nat_tests}
use Rattle.std.proofs.lemmas.List.{length-map}
use Rattle.std.proofs.lemmas.Simd.{map-map}
use Rattle.std.proofs.lemmas.List.Elements.{All-same}
use Rattle.std.proofs.lemmas.Option.{slice_get_within, slice_get-get_or, slice_get-map, get_or_from_slice_get}
use Rattle.iso_atoms.specs.Texts.{KeepsTexts, text_at}
use Rattle.iso_model.specs.Terms.Trees.{Tree, Variable, Integer, Name, Apply, End, More, row, count}
use Rattle.iso_model.specs.Terms.Sorts.{is_row}
use Rattle.iso_model.specs.Terms.Variables.{occurs}
use Rattle.iso_model.specs.Terms.Substitutions.{Subst, apply, compose}
use Rattle.iso_model.specs.Terms.Copies.{renamed}
use Rattle.iso_model.specs.Terms.Unification.Applied.{apply_apply, apply_same, apply_none}
use Rattle.iso_model.proofs.OnTerms.SortLemmas.{row_of_arguments, row_fits}
use Rattle.iso_model.proofs.OnTerms.CopyingLemmas.{apply-row}
use Rattle.iso_store_core.specs.Presents.{Present, Holds, meaning}
use Rattle.iso_store_core.proofs.AtomLemmas.{text-is}
use Rattle.iso_search_core.specs.Words.{word_terms}
use Rattle.iso_compile.specs.Table.{Block, Part, part_row, filled}
use Rattle.iso_compile.specs.TermCode.{tops, deep, parts, blocks}
use Rattle.iso_compile.specs.Heads.{head_blocks}
use Rattle.iso_compile.specs.CodeLaws.{Calls}
use Rattle.iso_compile.specs.Control.{IsCall, called_arguments}
use Rattle.iso_compile.specs.Emitted.{block_of, all_parts}
use Rattle.iso_compile.specs.declared.goals.Call as called
use Rattle.iso_compile.specs.declared.instructions.Block as compiled_block
use Rattle.iso_code.specs.declared.operands.Operand.{Operand}
use Rattle.iso_code.specs.declared.operands.Operand.TheVariants as operand
use Rattle.iso_code.specs.Loaded.{IsInside, IsSound, IsMet, part_at}
use Rattle.iso_code.specs.Loading.{IsBelow, IsAbove, IsFull, IsLoadedArguments}
use Rattle.iso_code.proofs.BelowLemmas.{head_below}
use Rattle.iso_code.proofs.FormLemmas.{blocks_above, blocks_full, parts_many}
use Rattle.iso_code.proofs.LoadedLemmas.{all_first, all_last}
use Rattle.iso_writing.specs.Pushing.{IsHeld}
use Rattle.iso_program.specs.Kept.{IsTemplate}
use Rattle.iso_instructions.specs.declared.instructions.Goal.{Goal}
use Rattle.iso_bodies.specs.Instructions.{IsLoadedGoal}
use Rattle.iso_frames.specs.Running.{Knows}
use Rattle.iso_environments.specs.Goals.{goal_of}

-- ---- names

-- The words of atoms stand for the names of the store. So names for which they stand are those of the store.
pub names_kept : {W : Type 0} (atom_word : ℕ → W) (p : Present W) (old new : List (List ℕ)) → Knows atom_word p old
    → ((n : ℕ) → Holds p (atom_word n) → (n < length new) × (p.term (atom_word n) ≡ Name (text_at new n)))
    → KeepsTexts old new
names_kept atom_word p old new knows named n text there =
    let one = knows n (slice_get_within old n text there) in
    let now = named n one.0 in
    let names : Name (text_at new n) ≡ Name (text_at old n) = sym now.1 ∙ one.1 in
    let texts : text_at new n ≡ text_at old n = cc in
    slice_get-get_or new n [] now.0 ∙ ap Some (texts ∙ text-is old n text there)

-- ---- arguments of a goal

module _ {n : ℕ} where
  -- they are terms
  arguments_row : (t : Tree) → IsTemplate n t → is_row (called_arguments t) ≡ true
  arguments_row (Variable x) h = (let none = h.key.1 in absurd (cc))
  arguments_row (Integer z) h = (let none = h.key.1 in absurd (cc))
  arguments_row (Name a) h = refl
  arguments_row (Apply f ts) h = row_of_arguments f ts h.is
  arguments_row End h = (let none = h.key.1 in absurd (cc))
  arguments_row (More t ts) h = (let none = h.key.1 in absurd (cc))

  -- and their variables are of the clause
  arguments_low : (t : Tree) → IsTemplate n t → (x : ℕ) → occurs x (called_arguments t) ≡ true → x < n
  arguments_low (Variable x) h y is = (let none = h.key.1 in absurd (cc))
  arguments_low (Integer z) h y is = (let none = h.key.1 in absurd (cc))
  arguments_low (Name a) h y is = absurd (false≢true is)
  arguments_low (Apply f ts) h y is = h.below y is
  arguments_low End h y is = (let none = h.key.1 in absurd (cc))
  arguments_low (More t ts) h y is = (let none = h.key.1 in absurd (cc))

-- ---- what the code names is there

module _ {names : List (List ℕ)} {low n : ℕ} {c : called.Call} {g : Goal} {t : Tree}
    (loads : IsLoadedGoal names low c g) (call : IsCall low c t) (template : IsTemplate n t) where
  abbrev terms : Tree
  terms = called_arguments t

  -- The code of the arguments is that of a compound, but for the compound's own block.
  arguments_below : All (IsBelow n) (c.arguments.parts.items ++ all_parts c.arguments.blocks.items)
  arguments_below =
      let inner = tops terms + deep terms in
      let own : compiled_block.Block =
      record { register = 0; name = c.name; parts = c.arguments.parts; inner = inner } in
      let block_with : List Part → List Block → List Block =
      λ ps bs. record { register = 0; name = string_bytes c.name; parts = ps; inner = inner } ∷ bs in
      let code : map block_of (own ∷ c.arguments.blocks.items)
      ≡ head_blocks 0 low (More (Apply (string_bytes c.name) terms) End) =
      ap₂ block_with call.parts_are call.blocks_are
      ∙ sym (append-nil (block_with (parts low terms) (blocks low (low + tops terms) terms))) in
      head_below n low [] (own ∷ c.arguments.blocks.items) (More (Apply (string_bytes c.name) terms) End) refl code
      (λ x is. elim (or_cases (occurs x terms) (occurs x End) is) [
        | inl here ↦ arguments_low t template x here
        | inr none ↦ absurd (false≢true none)
      ])

  -- the code that was compiled
  pub arguments_loaded : IsLoadedArguments names low c.arguments g.arguments
  arguments_loaded =
      let high = low + tops terms in
      loads.arguments
      (All-same (IsAbove low) (map block_of c.arguments.blocks.items) (blocks low high terms) call.blocks_are
      (blocks_above low low high terms (omega arith) (omega arith)))
      (All-same IsFull (map block_of c.arguments.blocks.items) (blocks low high terms) call.blocks_are
      (blocks_full low high terms (row_fits terms (arguments_row t template))))

  pub operands_there : All (IsInside (length names) n g.arguments.compounds) g.arguments.operands.items
  operands_there =
      arguments_loaded.operands_sound n
      (all_first (IsBelow n) c.arguments.parts.items (all_parts c.arguments.blocks.items) arguments_below)

  pub blocks_there : All (IsSound (length names) n g.arguments.compounds) g.arguments.blocks.items
  blocks_there =
      arguments_loaded.blocks_sound n
      (all_last (IsBelow n) c.arguments.parts.items (all_parts c.arguments.blocks.items) arguments_below)

  -- there are as many operands as arguments
  pub operands_many : length g.arguments.operands.items ≡ count terms
  operands_many =
      sym (length-map g.arguments.operands.items (part_at names low))
      ∙ (ap length (arguments_loaded.parts_are ∙ call.parts_are) ∙ parts_many low terms)

-- ---- words for variables

place_held : {W : Type 0} (p : Present W) (ws : List W) → All (Holds p) ws → (x : ℕ) (w : W) → slice_get ws x ≡ Some w
    → p.holds w ≡ true
place_held p ws hold x w is =
    subst (Holds p) (get_or_from_slice_get ws x w w is) (hold x w (slice_get_within ws x w is))

-- each variable has a word
pub word_held : {W : Type 0} (p : Present W) (ws : List W) → All (Holds p) ws → (o : Operand) → IsHeld p ws [] o
word_held p ws hold (operand.New x) = place_held p ws hold x
word_held p ws hold (operand.Old x) = place_held p ws hold x
word_held p ws hold (operand.Integer z) = tt
word_held p ws hold (operand.Atom a) = tt
word_held p ws hold (operand.Inner k) = λ w is. absurd (let none : ⊥ = cc is in none)

-- the term of a word, by its place
pub word_at : {W : Type 0} (p : Present W) (ws : List W) (x : ℕ) (w : W) → slice_get ws x ≡ Some w
    → apply (word_terms p ws) (Variable (0 + x)) ≡ p.term w
word_at p ws x w is =
    let here : 0 + x ≡ x = omega arith in
    ap (word_terms p ws) here
    ∙ get_or_from_slice_get (map p.term ws) x (p.term w) End
    (slice_get-map p.term ws x ∙ ap (option_map p.term) is)

-- where all variables were met, those of each operand were
pub all_met : (o : Operand) → IsMet (λ x. true) o
all_met (operand.New x) = refl
all_met (operand.Old x) = refl
all_met (operand.Integer z) = tt
all_met (operand.Atom a) = tt
all_met (operand.Inner k) = tt

-- ---- what the code makes

-- where variables are numbered from 0 on, nothing is renamed
pub renamed_none : (s : Subst) (t : Tree) → apply s (renamed 0 t) ≡ apply s t
renamed_none s t =
    apply_apply (λ x. Variable (0 + x)) s t
    ∙ apply_same (compose (λ x. Variable (0 + x)) s) s t (λ x is. ap s (let same : 0 + x ≡ x = omega arith in same))

-- the goal is its name with the arguments that the code makes
pub goal_made : {n : ℕ} (t : Tree) (f : List ℕ) (bs : List Block) (ps : List Part) (us : List Tree) (s : Subst)
    → IsTemplate n t → Calls f bs ps t → length us ≡ count (called_arguments t)
    → apply Variable (row us) ≡ apply s (part_row 0 (filled 0 bs (λ r. Integer (pos 0))) ps)
    → apply s t ≡ goal_of f us
goal_made (Name a) f bs ps [] s h calls many are = ap Name (sym calls.0)
goal_made (Name a) f bs ps (u ∷ us) s h calls many are = absurd (omega (arith, many))
goal_made (Apply g ts) f bs ps [] s h calls many are =
    let some = and_parts (nat_le 1 (count ts)) (nat_le (count ts) 255 && is_row ts) h.is in
    absurd (grind (arith, nat_tests, many, some.0))
goal_made (Apply g ts) f bs ps (u ∷ us) s h calls many are =
    let made = calls.1 0 (λ r. Integer (pos 0)) (row_of_arguments g ts h.is) in
    ap₂ Apply (sym calls.0)
    (sym (renamed_none s ts) ∙ (sym (ap (apply s) made) ∙ (sym are ∙ apply_none (row (u ∷ us)))))
goal_made (Variable x) f bs ps us s h calls many are = (let none = h.key.1 in absurd (cc))
goal_made (Integer z) f bs ps us s h calls many are = (let none = h.key.1 in absurd (cc))
goal_made End f bs ps us s h calls many are = (let none = h.key.1 in absurd (cc))
goal_made (More t ts) f bs ps us s h calls many are = (let none = h.key.1 in absurd (cc))

-- what a goal of words stands for
pub goal_means : {W : Type 0} (q : Present W) (f : List ℕ) (ws : List W)
    → apply q.substitution (goal_of f (map q.term ws)) ≡ goal_of f (map (meaning q) ws)
goal_means q f [] = refl
goal_means q f (w ∷ ws) =
    ap (Apply f) (apply-row q.substitution (map q.term (w ∷ ws))
    ∙ ap row (map-map (apply q.substitution) q.term (w ∷ ws)))
