-- Words that stand on in a store.
use Rattle.std.proofs.Common.{◌∙◌, refl}
use Rattle.iso_store_core.specs.Presents.{Present, KeepsWords}

pub words_same : {W : Type 0} (p : Present W) → KeepsWords p p
words_same p = record { stand = λ w h. h; terms = λ w h. refl }

pub words_on : {W : Type 0} {p q r : Present W} → KeepsWords p q → KeepsWords q r → KeepsWords p r
words_on a b = record { stand = λ w h. b.stand w (a.stand w h); terms = λ w h. b.terms w (a.stand w h) ∙ a.terms w h }
