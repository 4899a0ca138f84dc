-- The line that tells of a refused configuration.
use Rattle.std.specs.Char.{is_ascii_alphanumeric, is_ascii_digit}
use Rattle.flow_notes.specs.Line.{newline}
use Rattle.config_tables.specs.declared.fault.ConfigFault.{ConfigFault}
use Rattle.std.specs.Fmt.{decimal}
use Rattle.std.specs.List.{find, list_all, starts_with}
use Rattle.std.specs.Option.{option_map_or}
use Rattle.std.specs.Prelude.{Bool, List, [], codes, drop, flat_map, if◌then◌else◌, length, nat_eq, nat_lt, not, position, take, ℕ, ◌%◌, ◌&&◌, ◌++◌, ◌+◌, ◌/◌, ◌==◌, ◌||◌, ◌∷◌}
use Rattle.config_tables.specs.declared.fault.ConfigFault.TheVariants as fault

-- the kinds of faults are numbered; out of memory, which refuses no configuration, is the last
abbrev pub fault_number : ConfigFault → ℕ
fault_number fault.NotToml = 1
fault_number (fault.Missing key) = 2
fault_number (fault.WrongKind key) = 3
fault_number (fault.OutOfRange key) = 4
fault_number (fault.Unknown key) = 5
fault_number (fault.UnknownCluster key) = 6
fault_number fault.NoMemory = 7

-- the tables whose keys are known, and the lists of tables, whose rows are counted from 0: what stands before a key of theirs
abbrev pub table_places : List (List ℕ)
table_places = codes "limits." ∷ codes "timeouts." ∷ codes "overload." ∷ codes "proxy." ∷ []

abbrev pub list_places : List (List ℕ)
list_places = codes "clusters." ∷ codes "routes." ∷ codes "overload.triggers." ∷ codes "overload.shed." ∷ []

abbrev pub begins_with : List ℕ → List ℕ → Bool
begins_with key place = starts_with nat_eq key place

-- how many octets a row's number has, with the dot behind it
abbrev pub row_len : List ℕ → ℕ
row_len text = option_map_or (λ n. n + 1) (position (λ c. not (is_ascii_digit c)) text) 0

-- how many octets the first of these places has that stands in front, 0 where none does
unfoldable pub front_len : List (List ℕ) → List ℕ → ℕ
front_len places key = option_map_or length (find (begins_with key) places) 0

abbrev pub list_len : List ℕ → ℕ
list_len key = front_len list_places key

abbrev pub table_len : List ℕ → ℕ
table_len key = front_len table_places key

-- how many octets stand before the key itself: its table, or its list and row
abbrev pub place_len : List ℕ → ℕ
place_len key = if list_len key == 0 then table_len key else list_len key + row_len (drop (list_len key) key)

-- a bare key of TOML (version 1.0, "Keys")
abbrev pub is_bare_octet : ℕ → Bool
is_bare_octet c = is_ascii_alphanumeric c || c == 45 || c == 95

abbrev pub is_bare : List ℕ → Bool
is_bare name = nat_lt 0 (length name) && list_all is_bare_octet name

-- an octet of a basic string of TOML (version 1.0, "String"): a control character has an escape of one letter, or its number
abbrev pub digit : ℕ → ℕ
digit n = if nat_lt n 10 then 48 + n else 55 + n

abbrev pub is_control : ℕ → Bool
is_control c = nat_lt c 32 || c == 127

abbrev pub control_text : ℕ → List ℕ
control_text c = codes "\\u00" ++ (digit (c / 16) ∷ digit (c % 16) ∷ [])

abbrev pub string_octet : ℕ → List ℕ
string_octet c =
    if c == 8 then codes "\\b" else (if c == 9 then codes "\\t" else (if c == 10 then codes "\\n" else (if c == 12 then codes "\\f" else (if c == 13 then codes "\\r"
    else (if c == 34 then codes "\\\"" else (if c == 92 then codes "\\\\"
    else (if is_control c then control_text c else c ∷ [])))))))

abbrev pub string_text : List ℕ → List ℕ
string_text name = codes "\"" ++ (flat_map string_octet name ++ codes "\"")

-- a key that is no bare key stands as a basic string, so that the line that tells it stays one line
abbrev pub key_name : List ℕ → List ℕ
key_name name = if is_bare name then name else string_text name

abbrev pub unknown_text : List ℕ → List ℕ
unknown_text key = take (place_len key) key ++ key_name (drop (place_len key) key)

-- the key of a fault, and a dash where it has none
abbrev pub key_text : ConfigFault → List ℕ
key_text fault.NotToml = codes "-"
key_text (fault.Missing key) = key
key_text (fault.WrongKind key) = key
key_text (fault.OutOfRange key) = key
key_text (fault.Unknown key) = unknown_text key
key_text (fault.UnknownCluster key) = key
key_text fault.NoMemory = codes "-"

abbrev pub refusal_line : ConfigFault → List ℕ
refusal_line why = codes "refused config " ++ (decimal (fault_number why) ++ (codes " " ++ (key_text why ++ newline)))
