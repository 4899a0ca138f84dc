-- What is seen of a reader that keeps what it read.
use Rattle.config_text.specs.declared.kept.Kept.{Kept}
use Rattle.std.specs.Prelude.{ℕ, List}

module _ {X : Type 0} where
  abbrev pub reader_of : Kept X → X
  reader_of kept = kept.reader

  abbrev pub text_of : Kept X → List ℕ
  text_of kept = kept.text.items
