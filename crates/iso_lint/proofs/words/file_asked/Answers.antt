use Rattle.std.proofs.Common.{map}
use Rattle.clap.specs.Words.{app_of}
use Rattle.iso_lint.proofs.WordsLemmas.{words_taken, words_refused}
use Rattle.iso_lint.proofs.words.file_asked.Goals as goal

pub returns-in-Ok : goal.returns-in-Ok
returns-in-Ok c =
    words_taken (app_of c.in_ok-command.command) (map (λ word. word.now) c.args.words.now) c.in-Ok.matches c.file_in.result c.in_ok-command.ensures c.in-Ok.ensures.matches c.in-Ok.ensures.kinds c.file_in.ensures

pub returns-in-Err : goal.returns-in-Err
returns-in-Err c =
    words_refused (app_of c.in_ok-command.command) (map (λ word. word.now) c.args.words.now) c.in-Err.error c.fault_by.result c.in_ok-command.ensures c.in-Err.ensures.kinds c.fault_by.ensures
