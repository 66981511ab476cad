use Rattle.std.proofs.Common.{[], refl, ap, sym, ◌∙◌}
use Rattle.iso_model.specs.Syntax.Clauses.{split_clause}
use Rattle.iso_model.specs.Syntax.Grammar.{numbered}
use Rattle.iso_model.specs.Syntax.Pieces.{Writeq, at_most, term_written}
use Rattle.iso_model.proofs.Syntax.PieceTokens.{shown_pieces}
use Rattle.iso_model.proofs.Syntax.PieceLexemes.{signed_tokens, term_signed, pieces_inner, splits_there}
use Rattle.iso_model.proofs.Syntax.PieceGrammar.{written_read}
use Rattle.iso_model.proofs.laws_of_writing.written_terms_are_read_again.Goals as goal

pub returns : goal.returns
returns c = λ table flags good seen t writable.
    let ps = at_most 1200 (term_written Writeq table seen t) in
    let before = shown_pieces 0 [] ps in
    let signed = term_signed table seen 1200 t writable.integers writable.numbered in
    let whole = signed_tokens ps signed in
    let read = written_read table flags good good.brackets seen t writable before (record { at = 0; before = []; are = refl }) in
    record {
      before = before;
      last = whole.last;
      are = whole.are;
      ends = whole.ends;
      node = read.node;
      names = read.names;
      reads = read.reads;
      priority = read.priority;
      term = read.term;
      clause = λ height. record {
        before = before;
        others = [];
        splits = ap split_clause whole.are ∙ splits_there before whole.last (pieces_inner 0 [] ps signed) whole.ends;
        clause = record { node = read.node; names = read.names; reads = read.reads; priority = read.priority; height = height; is = ap (λ x. record { term = x; names = numbered 0 read.names }) (sym read.term) };
      };
    }
