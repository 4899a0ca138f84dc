-- What the keys of the code stand for.
use denote.Ref.{Bor}
use Rattle.std.specs.Option.{option_map_or}
use Rattle.std.specs.Prelude.{ℕ, Bool, List, true, ◌&&◌, not, nat_le, length, map}
use Rattle.std.specs.List.{list_all, list_any}
use Rattle.std.specs.Str.{bytes_eq}
use Rattle.config_tables.specs.declared.keys.Key.{Key as CodeKey}
use Rattle.config_tables.specs.declared.keys.Kind.{Kind as CodeKind}
use Rattle.config_tables.specs.declared.keys.Kind.TheVariants as code
use Rattle.config_tables.specs.Keys.{Key, Kind, number, text, tables, section, texts, any_text, are_names_up_to}
use Rattle.config_tables.specs.Tables.{is_taken}
use Rattle.config_tables.specs.Texts.{is_name, is_among}

-- at most so many of these words
abbrev pub are_words_up_to : ℕ → List (Bor (List ℕ)) → List (List ℕ) → Bool
are_words_up_to most words ts = nat_le (length ts) most && list_all (λ t. list_any (λ w. bytes_eq t w.now) words) ts

abbrev pub kind_of : CodeKind → Kind
kind_of (code.Number least most other) = number least most other
kind_of code.Text = any_text
kind_of code.Name = text is_name
kind_of (code.NewName clusters) = text (λ t. is_name t && not (is_taken clusters.now t))
kind_of (code.OneOf words) = text (λ t. list_any (λ w. bytes_eq t w.now) words.now)
kind_of (code.Listed names) = text (is_among names.now)
kind_of (code.Names most) = texts (are_names_up_to most)
kind_of (code.Words most words) = texts (are_words_up_to most words.now)
kind_of (code.Tables most) = tables (λ n. option_map_or (nat_le n) most true)
kind_of code.Section = section

abbrev pub key_of : CodeKey → Key
key_of key = record { name = key.name.now; needed = key.needed; kind = kind_of key.kind }

-- the name is none of these keys'
abbrev pub is_unknown : List CodeKey → List ℕ → Bool
is_unknown keys name = not (is_among (map (λ key. key.name) (map key_of keys)) name)
