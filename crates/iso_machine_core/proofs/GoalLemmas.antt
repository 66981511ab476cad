-- The arguments of a goal are put as the table says.
use Rattle.std.proofs.Common.{◌≡◌, ℕ, Bool, List, length, map, get_or, Result, Ok, Err, OnOk, Some, slice_get, pos}
use Rattle.std.specs.List.{All}
use Rattle.std.proofs.lemmas.Option.{slice_get-get_or}
use Rattle.iso_model.specs.Terms.Trees.{Variable, Integer, row}
use Rattle.iso_model.specs.Terms.Substitutions.{Subst, apply}
use Rattle.iso_store_core.specs.Presents.{Present, Holds, KeepsWords}
use Rattle.iso_compile.specs.Table.{Registers, part_row, filled}
use Rattle.iso_code.specs.declared.operands.Arguments.{Arguments}
use Rattle.iso_code.specs.Loaded.{IsMet, part_at, block_at, all_operands}
use Rattle.iso_code.specs.Standing.{IsFor, Known}
use Rattle.iso_writing.specs.Writing.{MakesAll}
use Rattle.iso_writing.proofs.KnownLemmas.{for_on, all_left, all_right}
use Rattle.iso_machine_core.specs.Goals.{Puts}

-- words that are for an integer at each place stand
pub fillers_hold : {W : Type 0} (p : Present W) (ws : List W) → ((own by : Subst) (k : ℕ) (w : W) → slice_get ws k ≡ Some w → IsFor p own by w (Integer (pos 0))) → All (Holds p) ws
fillers_hold p ws fillers k d below = (fillers Variable Variable k (get_or ws k d) (slice_get-get_or ws k d below)).holds

-- All arguments were put: the compounds were filled and then made, and words came for the operands.
pub all_put : {W X E : Type 0} (names : List (List ℕ)) (code : Arguments) (p q r s : Present W) (environment compounds compounds' words : List W) (result : Result X E) → KeepsWords p q
    → ((own by : Subst) (k : ℕ) (w : W) → slice_get compounds k ≡ Some w → IsFor q own by w (Integer (pos 0)))
    → MakesAll names code.blocks.items q r environment compounds compounds'
    → ((own by : Subst) (next low : ℕ) (met : ℕ → Bool) (rs : Registers) → Known r own by next low met environment compounds' rs → All (IsMet met) code.operands.items
    → OnOk result (apply own (row (map s.term words)) ≡ apply by (part_row next rs (map (part_at names low) code.operands.items))))
    → OnOk result (All (Holds s) words) → OnOk result (length words ≡ length code.operands.items) → OnOk result (Puts names code p s environment words)
all_put names code p q r s environment compounds compounds' words (Ok x) keeps fillers made are hold many = record {
  many = many;
  hold = hold;
  are = λ own by next low met known are_met.
      (let before : Known q own by next low met environment compounds (λ n. Integer (pos 0)) = record { variables = λ x w is there. for_on keeps (known x w is there); compounds = λ k w there. fillers own by k w there } in
      are own by next low met (filled next (map (block_at names low) code.blocks.items) (λ n. Integer (pos 0)))
      (made own by next low met (λ n. Integer (pos 0)) before (all_right (IsMet met) code.operands.items (all_operands code.blocks.items) are_met))
      (all_left (IsMet met) code.operands.items (all_operands code.blocks.items) are_met));
}
all_put names code p q r s environment compounds compounds' words (Err e) keeps fillers made are hold many = tt
