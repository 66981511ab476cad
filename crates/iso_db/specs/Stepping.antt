-- Views, whose clauses are taken one after another.
pub use Rattle.iso_clauses.specs.Stepping.{first_number, behind}
pub use Rattle.iso_clauses.specs.declared.views.View.{View}
