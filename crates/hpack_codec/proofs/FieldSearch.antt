-- One search for a field, which finds its name and the whole of it.
use Rattle.std.proofs.Common.{◌≡◌, ℕ, ◌+◌, ◌<◌, ◌≤◌, ◌∙◌, ◌&&◌, Bool, true, false, List, length, drop, get_or, Option, Some, None, refl, sym, ap}
use Rattle.std.proofs.lemmas.Bool.{and_from, and_left, and_parts, and_right}
use Rattle.std.specs.List.{slice_get}
use Rattle.std.specs.Option.{option_or}
use Rattle.std.specs.Str.{bytes_eq}
use Rattle.hpack_codec.specs.Encoding.{index_from}
use Rattle.hpack_codec.specs.Table.{places_of, row_of, static_table}
use Rattle.hpack_codec.specs.declared.line.Line.{Line}
use Rattle.hpack_codec.proofs.StaticPlaces.{OnlyNamed, among, named_alike, search_begins, searched, searched_all, searches_on}

abbrev pub has_name : List ℕ → Line → Bool
has_name name = λ l. bytes_eq l.name name

abbrev pub is_field : List ℕ → List ℕ → Line → Bool
is_field name value = λ l. bytes_eq l.name name && bytes_eq l.value value

-- What the lowest indexes of the name and of the field are, where these places are left: that of the name is known already, or is among
-- them.
pub record Left (name value : List ℕ) (first : Option ℕ) (places : List ℕ) : Type 0 where
  pub named : index_from 1 (has_name name) static_table ≡ option_or first (among (has_name name) static_table places)
  pub whole : index_from 1 (is_field name value) static_table ≡ among (is_field name value) static_table places

-- what the search has found
pub record Finds (name value : List ℕ) (first index : Option ℕ) : Type 0 where
  pub named : first ≡ index_from 1 (has_name name) static_table
  pub whole : index ≡ index_from 1 (is_field name value) static_table

field_alike : (name value : List ℕ) → OnlyNamed (is_field name value) (row_of name)
field_alike name value l passed = named_alike name l (and_parts (bytes_eq l.name name) (bytes_eq l.value value) passed).0

pub all_left : (name value places : List ℕ) → places ≡ places_of (row_of name) → Left name value None places
all_left name value places same = record {
  named = search_begins (has_name name) (row_of name) (named_alike name) ∙ ap (among (has_name name) static_table) (sym same);
  whole = search_begins (is_field name value) (row_of name) (field_alike name value) ∙ ap (among (is_field name value) static_table) (sym same);
}

-- the entry at the k-th place
pub record IsEntry (places : List ℕ) (k p : ℕ) (l : Line) : Type 0 where
  pub within : k < length places
  pub place : p ≡ get_or places k 0
  pub found : slice_get static_table p ≡ Some l

named_here : (name value : List ℕ) (first : Option ℕ) (places : List ℕ) (k p : ℕ) (l : Line) → Left name value first (drop k places) → IsEntry places k p l → bytes_eq l.name name ≡ true
    → index_from 1 (has_name name) static_table ≡ option_or first (Some (p + 1))
named_here name value first places k p l left e same =
    left.named ∙ ap (option_or first) (searched (has_name name) static_table places k p 0 l e.within e.place e.found same)

pub found_here : (name value : List ℕ) (first : Option ℕ) (places : List ℕ) (k p : ℕ) (l : Line) → Left name value first (drop k places) → IsEntry places k p l
    → bytes_eq l.name name ≡ true → bytes_eq l.value value ≡ true → Finds name value (option_or first (Some (p + 1))) (Some (p + 1))
found_here name value first places k p l left e same equal = record {
  named = sym (named_here name value first places k p l left e same);
  whole = sym (left.whole ∙ searched (is_field name value) static_table places k p 0 l e.within e.place e.found (and_from _ _ same equal));
}

known : (first : Option ℕ) (n : ℕ) (rest : Option ℕ) → option_or first (Some n) ≡ option_or (option_or first (Some n)) rest
known None n rest = refl
known (Some m) n rest = refl

-- an entry with the name and another value
pub named_on : (name value : List ℕ) (first : Option ℕ) (places : List ℕ) (k p : ℕ) (l : Line) → Left name value first (drop k places) → IsEntry places k p l
    → bytes_eq l.name name ≡ true → bytes_eq l.value value ≡ false → Left name value (option_or first (Some (p + 1))) (drop (k + 1) places)
named_on name value first places k p l left e same other = record {
  named = named_here name value first places k p l left e same ∙ known first (p + 1) (among (has_name name) static_table (drop (k + 1) places));
  whole = left.whole ∙ searches_on (is_field name value) static_table places k p 0 l e.within e.place e.found (and_right _ _ other);
}

-- an entry with another name
pub passed_on : (name value : List ℕ) (first : Option ℕ) (places : List ℕ) (k p : ℕ) (l : Line) → Left name value first (drop k places) → IsEntry places k p l
    → bytes_eq l.name name ≡ false → Left name value first (drop (k + 1) places)
passed_on name value first places k p l left e other = record {
  named = left.named ∙ ap (option_or first) (searches_on (has_name name) static_table places k p 0 l e.within e.place e.found other);
  whole = left.whole ∙ searches_on (is_field name value) static_table places k p 0 l e.within e.place e.found (and_left _ _ other);
}

or_none : (first : Option ℕ) → option_or first None ≡ first
or_none None = refl
or_none (Some n) = refl

pub none_left : (name value : List ℕ) (first : Option ℕ) (places : List ℕ) (k : ℕ) → length places ≤ k → Left name value first (drop k places) → Finds name value first None
none_left name value first places k h left = record {
  named = sym (left.named ∙ ap (option_or first) (searched_all (has_name name) static_table places k h) ∙ or_none first);
  whole = sym (left.whole ∙ searched_all (is_field name value) static_table places k h);
}
