-- The words that are appended together.
use Rattle.std.specs.Prelude.{ℕ, List, [], ◌∷◌, ◌++◌, Option, None, Some, codes, map}
use Rattle.std.specs.Fmt.{decimal}
use Rattle.hex.specs.Hex.{encode_lower}
use Rattle.flow_notes.specs.Flow.{flow_word}
use Rattle.flow_notes.specs.declared.writing.words.Word.{Word}
use Rattle.flow_notes.specs.declared.writing.words.Word.TheVariants.{Text, Number, Flow, Hex, Numbers}

abbrev pub words_of : Word → List (List ℕ)
words_of (Text text) = text.now ∷ []
words_of (Number n) = decimal n ∷ []
words_of (Flow flow) = flow_word flow ∷ []
words_of (Hex octets) = encode_lower octets.now ∷ []
words_of (Numbers numbers) = map decimal numbers.now

-- the words in front of an event's, where the line is a turn's
abbrev pub turn_words : Option ℕ → List (List ℕ)
turn_words None = []
turn_words (Some number) = codes "turn" ∷ decimal number ∷ []

-- the same with the space behind them
abbrev pub turn_front : Option ℕ → List ℕ
turn_front None = []
turn_front (Some number) = codes "turn " ++ (decimal number ++ codes " ")
