use Rattle.std.proofs.Common.{drop, Some, None}
use Rattle.std.proofs.lemmas.List.{take_rest}
use Rattle.iso_model.specs.Syntax.Numbers.{quoted_character}
use Rattle.iso_token.proofs.PieceLemmas.{two_behind}
use Rattle.iso_token.proofs.numbers.character_code.Goals as goal

pub returns-in-Some-clause-value : goal.returns-in-Some-clause-value
returns-in-Some-clause-value c =
    let z = c.args.bytes.now in two_behind (Some c.in-Some.code) (quoted_character (drop 2 z)) (rw (take_rest z 2) at c.in-Some.ensures.value)

pub returns-in-None-clause-value : goal.returns-in-None-clause-value
returns-in-None-clause-value c = let z = c.args.bytes.now in two_behind None (quoted_character (drop 2 z)) (rw (take_rest z 2) at c.in-None.ensures.value)
