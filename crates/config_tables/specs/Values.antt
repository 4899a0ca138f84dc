-- What stands at the keys of a table of the document.
use Rattle.std.specs.List.{list_all, filter_map}
use Rattle.std.specs.Option.{is_some, option_and_then}
use Rattle.std.specs.Prelude.{ℕ, ℤ, pos, negsuc, Bool, false, ◌&&◌, List, [], ◌∷◌, nat_le, Option, Some, None, if◌then◌else◌, unwrap_or, option_map}
use Rattle.toml.specs.Data.{Data, Items, no_items, item, Members, no_members, member, get_member, as_str, as_array, as_table}

-- the items of a list, and the keys of a table, in their order
abbrev pub list_of : Items → List Data
list_of no_items = []
list_of (item d ds) = d ∷ list_of ds

abbrev pub keys_of : Members → List (List ℕ)
keys_of no_members = []
keys_of (member k d ms) = k ∷ keys_of ms

-- the strings in a list, and the list of strings that a value is
abbrev pub strings_in : List Data → List (List ℕ)
strings_in ds = filter_map as_str ds

abbrev pub as_strings : List Data → Option (List (List ℕ))
as_strings ds = if list_all (λ d. is_some (as_str d)) ds then Some (strings_in ds) else None

abbrev pub as_list : Data → Option (List Data)
as_list d = option_map list_of (as_array d)

-- a number from the least to the most
abbrev pub is_between : ℕ → ℕ → ℤ → Bool
is_between least most (pos n) = nat_le least n && nat_le n most
is_between least most (negsuc n) = false

module _ (name : List ℕ) (ms : Members) where
  -- the key stands in the table
  abbrev pub has_key : Bool
  has_key = is_some (get_member name ms)

  -- the string at the key
  abbrev pub text_at : Option (List ℕ)
  text_at = option_and_then as_str (get_member name ms)

  -- the list at the key, and the strings in it
  abbrev pub list_at : List Data
  list_at = unwrap_or (option_and_then as_list (get_member name ms)) []

  abbrev pub strings_at : List (List ℕ)
  strings_at = strings_in list_at

  -- the table at the key
  abbrev pub table_at : Members
  table_at = unwrap_or (option_and_then as_table (get_member name ms)) no_members

-- the number, where it is one from the least to the most, or else the other
abbrev pub number_or : ℕ → ℕ → ℕ → Option ℤ → ℕ
number_or least most other None = other
number_or least most other (Some (negsuc n)) = other
number_or least most other (Some (pos n)) = if nat_le least n && nat_le n most then n else other
