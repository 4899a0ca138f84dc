-- What is seen of the file of a configuration.
use Rattle.config_text.specs.Kept.{text_of}
use Rattle.config_text.specs.declared.file.ConfigFile.{ConfigFile}
use Rattle.std.specs.Prelude.{ℕ, List, []}
use Rattle.config_text.specs.declared.file.ConfigFile.TheVariants as file

module _ {X : Type 0} where
  -- what was read and kept of it; one that couldn't be opened has nothing
  abbrev pub file_text : ConfigFile X → List ℕ
  file_text (file.Open kept) = text_of kept
  file_text (file.Shut kind) = []
