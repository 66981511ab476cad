-- How the code's forms of texts stand for those of the language.
use Rattle.iso_model.specs.Search.AtomTexts as table
use Rattle.iso_text.specs.declared.atoms.Form.{Form}
use Rattle.iso_text.specs.declared.atoms.Form.TheVariants.{Characters, Codes}

abbrev pub form_of : Form → table.Form
form_of Characters = table.Characters
form_of Codes = table.Codes
