-- Names of clusters.
use Rattle.std.specs.Prelude.{◌≢◌, ◌<◌, ◌^◌, ◌==◌, ◌||◌, ◌&&◌, ℕ, nat_le, nat_lt, Bool, IsTrue, List, [], length, AllPairs, All, Option, position}
use Rattle.std.specs.List.{list_all, slice_index_or}
use Rattle.std.specs.Str.{bytes_eq}

-- `a` to `z`, `0` to `9`, `-` and `_`
abbrev pub is_name_octet : ℕ → Bool
is_name_octet c = nat_le 97 c && nat_le c 122 || nat_le 48 c && nat_le c 57 || c == 45 || c == 95

-- 1 to 64 such octets
abbrev pub is_name : List ℕ → Bool
is_name name = nat_lt 0 (length name) && nat_le (length name) 64 && list_all is_name_octet name

abbrev pub IsName : List ℕ → Type 0
IsName name = IsTrue (is_name name)

-- each is a name, none stands twice, and they are counted in 32 bits
pub record AreNames (names : List (List ℕ)) : Type 0 where
  pub few : length names < 2 ^ 32
  pub each : All IsName names
  pub once : AllPairs ◌≢◌ names

-- the name of cluster k
abbrev pub cluster_name : List (List ℕ) → ℕ → List ℕ
cluster_name names k = slice_index_or names k []

-- the cluster of a name, if it is listed
abbrev pub place_of : List (List ℕ) → List ℕ → Option ℕ
place_of names name = position (λ known. bytes_eq known name) names
