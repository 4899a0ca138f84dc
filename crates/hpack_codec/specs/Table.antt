-- The static and the dynamic table of field compression (RFC 7541 section 2.3 and Appendix A).
use Rattle.hpack_codec.specs.declared.line.Line.{Line}
use Rattle.std.specs.Prelude.{List, None, Option, [], codes, if◌then◌else◌, length, nat_le, slice_get, suc, unwrap_or, zero, ℕ, ◌%◌, ◌*◌, ◌++◌, ◌+◌, ◌-◌, ◌==◌, ◌∷◌}

-- an entry of the tables
abbrev pub line : List ℕ → List ℕ → Line
line name value = record { name = name; value = value }

-- a name with the empty value
abbrev pub bare : List ℕ → Line
bare name = line name []

-- the static table, from index 1 on
unfoldable pub static_table : List Line
static_table =
    bare (codes ":authority") ∷ line (codes ":method") (codes "GET") ∷ line (codes ":method") (codes "POST")
    ∷ line (codes ":path") (codes "/") ∷ line (codes ":path") (codes "/index.html")
    ∷ line (codes ":scheme") (codes "http") ∷ line (codes ":scheme") (codes "https")
    ∷ line (codes ":status") (codes "200") ∷ line (codes ":status") (codes "204") ∷ line (codes ":status") (codes "206")
    ∷ line (codes ":status") (codes "304") ∷ line (codes ":status") (codes "400") ∷ line (codes ":status") (codes "404")
    ∷ line (codes ":status") (codes "500") ∷ bare (codes "accept-charset") ∷ line (codes "accept-encoding") (codes "gzip, deflate")
    ∷ bare (codes "accept-language") ∷ bare (codes "accept-ranges") ∷ bare (codes "accept") ∷ bare (codes "access-control-allow-origin")
    ∷ bare (codes "age") ∷ bare (codes "allow") ∷ bare (codes "authorization") ∷ bare (codes "cache-control")
    ∷ bare (codes "content-disposition") ∷ bare (codes "content-encoding") ∷ bare (codes "content-language")
    ∷ bare (codes "content-length") ∷ bare (codes "content-location") ∷ bare (codes "content-range") ∷ bare (codes "content-type")
    ∷ bare (codes "cookie") ∷ bare (codes "date") ∷ bare (codes "etag") ∷ bare (codes "expect") ∷ bare (codes "expires")
    ∷ bare (codes "from") ∷ bare (codes "host") ∷ bare (codes "if-match") ∷ bare (codes "if-modified-since")
    ∷ bare (codes "if-none-match") ∷ bare (codes "if-range") ∷ bare (codes "if-unmodified-since") ∷ bare (codes "last-modified")
    ∷ bare (codes "link") ∷ bare (codes "location") ∷ bare (codes "max-forwards") ∷ bare (codes "proxy-authenticate")
    ∷ bare (codes "proxy-authorization") ∷ bare (codes "range") ∷ bare (codes "referer") ∷ bare (codes "refresh")
    ∷ bare (codes "retry-after") ∷ bare (codes "server") ∷ bare (codes "set-cookie") ∷ bare (codes "strict-transport-security")
    ∷ bare (codes "transfer-encoding") ∷ bare (codes "user-agent") ∷ bare (codes "vary") ∷ bare (codes "via")
    ∷ bare (codes "www-authenticate") ∷ []

-- names are sorted into 64 rows, by their length and their last octet
abbrev pub row_of : List ℕ → ℕ
row_of name = (length name % 64 * 31 + unwrap_or (slice_get name (length name - 1)) 0) % 64

-- the places of the entries whose names are in a row, counted from i
abbrev pub places_from : ℕ → ℕ → List Line → List ℕ
places_from i n [] = []
places_from i n (l ∷ ls) = if row_of l.name == n then i ∷ places_from (i + 1) n ls else places_from (i + 1) n ls

abbrev pub places_of : ℕ → List ℕ
places_of n = places_from 0 n static_table

-- the dynamic table, newest first, and the size in force
pub record Table : Type 0 where
  pub lines : List Line
  pub size : ℕ

abbrev pub empty_table : ℕ → Table
empty_table size = record { lines = []; size = size }

-- the size of an entry counts 32 octets of overhead (section 4.1)
abbrev pub line_size : Line → ℕ
line_size l = length l.name + length l.value + 32

-- the newest entries that fit into the size
abbrev pub kept : ℕ → List Line → List Line
kept room [] = []
kept room (l ∷ ls) = if nat_le (line_size l) room then l ∷ kept (room - line_size l) ls else []

-- the oldest entries are evicted until the new one fits; one that is larger than the table empties it (section 4.4)
abbrev pub added : Line → Table → Table
added l t = record t { lines = kept t.size (l ∷ t.lines) }

abbrev pub resized : ℕ → Table → Table
resized size t = record { lines = kept size t.lines; size = size }

-- the entry at an index: the static ones from 1, then the dynamic ones, newest first (section 2.3.3)
abbrev pub entry_at : Table → ℕ → Option Line
entry_at t zero = None
entry_at t (suc i) = slice_get (static_table ++ t.lines) i
