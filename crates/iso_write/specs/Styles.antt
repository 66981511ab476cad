-- The style of the definition that a declared one is.
use Rattle.iso_model.specs.Syntax.Pieces as pieces
use Rattle.iso_write.specs.declared.style.Style.{Style}
use Rattle.iso_write.specs.declared.style.Style.TheVariants.{Write, Writeq, Canonical}

abbrev pub style_of : Style → pieces.Style
style_of Write = pieces.Write
style_of Writeq = pieces.Writeq
style_of Canonical = pieces.Canonical
