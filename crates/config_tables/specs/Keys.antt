-- A key of a table: what may stand there, and what is wrong with what does.
use Rattle.std.specs.List.{list_all, best_of, filter}
use Rattle.std.specs.Option.{option_and_then}
use Rattle.std.specs.Ordering.{nat_cmp, is_lt}
use Rattle.std.specs.Cmp.Lexicographic.{slice_cmp}
use Rattle.std.specs.Prelude.{ℕ, ℤ, Bool, true, ◌&&◌, List, [], ◌∷◌, ◌++◌, length, nat_le, not, map, Option, Some, None, if◌then◌else◌}
use Rattle.toml.specs.Data.{Data, Members, get_member, as_str, as_integer, as_table}
use Rattle.config_tables.specs.declared.fault.ConfigFault.{ConfigFault}
use Rattle.config_tables.specs.declared.fault.ConfigFault.TheVariants.{Missing, WrongKind, OutOfRange, Unknown}
use Rattle.config_tables.specs.declared.judge.Verdict.{Verdict}
use Rattle.config_tables.specs.declared.judge.Verdict.TheVariants.{Fits, OtherKind, Beyond}
use Rattle.config_tables.specs.Texts.{is_name, is_among, are_distinct}
use Rattle.config_tables.specs.Values.{keys_of, as_strings, as_list, is_between, number_or}

-- what may stand at a key: an integer from a least to a most, with what stands for it where it is absent; a string that
-- passes a test; a list of strings that passes one; a list of so many tables; or a table
pub data Kind : Type 0 where
  number : ℕ → ℕ → ℕ → Kind
  text : (List ℕ → Bool) → Kind
  texts : (List (List ℕ) → Bool) → Kind
  tables : (ℕ → Bool) → Kind
  section : Kind

abbrev pub any_text : Kind
any_text = text (λ t. true)

-- at most so many names, none twice
abbrev pub are_names_up_to : ℕ → List (List ℕ) → Bool
are_names_up_to most ts = (nat_le (length ts) most && list_all is_name ts) && are_distinct ts

-- at most so many of these words
abbrev pub words_up_to : ℕ → List (List ℕ) → Kind
words_up_to most words = texts (λ ts. nat_le (length ts) most && list_all (is_among words) ts)

-- a value at a key is of another kind, or fits, or is beyond what its kind takes
abbrev pub judged : {T : Type 0} → Option T → (T → Bool) → Verdict
judged None test = OtherKind
judged (Some x) test = if test x then Fits else Beyond

abbrev pub verdict : Kind → Data → Verdict
verdict (number least most other) d = judged (as_integer d) (is_between least most)
verdict (text test) d = judged (as_str d) test
verdict (texts test) d = judged (option_and_then as_strings (as_list d)) test
verdict (tables test) d = judged (as_list d) (λ ds. test (length ds))
verdict section d = judged (as_table d) (λ ms. true)

-- a key: its name, whether it must be there, and what may stand there
pub record Key : Type 0 where
  pub name : List ℕ
  pub needed : Bool
  pub kind : Kind

-- the number at a key, where it is in the key's range, or else what stands for it
abbrev pub number_by : Kind → Option ℤ → ℕ
number_by (number least most other) found = number_or least most other found
number_by _ found = 0

abbrev pub number_at : Key → Members → ℕ
number_at key ms = number_by key.kind (option_and_then as_integer (get_member key.name ms))

-- the fault of a key that is spelled so, or none
abbrev pub value_fault : Verdict → List ℕ → List ConfigFault
value_fault Fits spelled = []
value_fault OtherKind spelled = WrongKind spelled ∷ []
value_fault Beyond spelled = OutOfRange spelled ∷ []

abbrev pub found_fault : Key → List ℕ → Option Data → List ConfigFault
found_fault key spelled None = if key.needed then Missing spelled ∷ [] else []
found_fault key spelled (Some d) = value_fault (verdict key.kind d) spelled

-- the same of a key of the table whose keys are spelled after this place
unfoldable pub key_faults : List ℕ → Members → Key → List ConfigFault
key_faults place ms key = found_fault key (place ++ key.name) (get_member key.name ms)

-- the faults of these keys, in their order
abbrev pub keys_faults : List ℕ → Members → List Key → List ConfigFault
keys_faults place ms [] = []
keys_faults place ms (key ∷ keys) = key_faults place ms key ++ keys_faults place ms keys

-- the least of some texts by their octets
abbrev pub least : List (List ℕ) → Option (List ℕ)
least [] = None
least (t ∷ ts) = Some (best_of (λ k l. is_lt (slice_cmp nat_cmp k l)) t ts)

abbrev pub unknown_fault : List ℕ → Option (List ℕ) → List ConfigFault
unknown_fault place None = []
unknown_fault place (Some name) = Unknown (place ++ name) ∷ []

-- the least key of a table that isn't one of these
unfoldable pub unknown_faults : List ℕ → Members → List Key → List ConfigFault
unknown_faults place ms keys = unknown_fault place (least (filter (λ name. not (is_among (map (λ key. key.name) keys) name)) (keys_of ms)))

-- the faults of a table that has these keys alone
abbrev pub table_faults : List ℕ → Members → List Key → List ConfigFault
table_faults place ms keys = keys_faults place ms keys ++ unknown_faults place ms keys
