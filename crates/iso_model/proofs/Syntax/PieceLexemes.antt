-- How the tokens of pieces begin, by what the first piece is; and that the tokens of the text of pieces are those of the pieces.
pub use Rattle.iso_model.proofs.Syntax.SignFirsts.{spaced_piece, mark_first, name_first, nil_first, curly_first, place_first, count_first, negative_first}
pub use Rattle.iso_model.proofs.Syntax.TermSigns.{term_signed}
pub use Rattle.iso_model.proofs.Syntax.SignTokens.{sign_tokens}
pub use Rattle.iso_model.proofs.Syntax.SignedText.{HasTokens, signed_tokens, pieces_inner, splits_there}
