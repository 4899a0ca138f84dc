-- Pseudo-fields and their names (RFC 9113 sections 8.3.1 and 8.3.2).
use Rattle.h2_heads.specs.declared.malformed.Message.{Message}
use Rattle.h2_heads.specs.declared.malformed.Message.TheVariants.{Connect, Request, Response, Trailers}
use Rattle.h2_heads.specs.declared.pseudo.Pseudo.{Pseudo}
use Rattle.h2_heads.specs.declared.pseudo.Pseudo.TheVariants.{Authority, Method, Path, Scheme, Status}
use Rattle.hpack_codec.specs.declared.fields.Field.{Field}
use Rattle.std.specs.Prelude.{List, None, Option, Some, [], codes, false, if◌then◌else◌, ℕ, ◌∷◌}
use Rattle.std.specs.Str.{bytes_eq}

abbrev pub name_of : Pseudo → List ℕ
name_of Method = codes ":method"
name_of Scheme = codes ":scheme"
name_of Authority = codes ":authority"
name_of Path = codes ":path"
name_of Status = codes ":status"

-- its place in a row of all
abbrev pub index_of : Pseudo → ℕ
index_of Method = 0
index_of Scheme = 1
index_of Authority = 2
index_of Path = 3
index_of Status = 4

-- the pseudo-field with a value
abbrev pub field_of : Pseudo → List ℕ → Field
field_of pseudo value = record { name = name_of pseudo; value = value; never = false }

-- the pseudo-field of a name
abbrev pub pseudo_of : List ℕ → Option Pseudo
pseudo_of name =
    if bytes_eq name (codes ":method") then Some Method
    else if bytes_eq name (codes ":scheme") then Some Scheme
    else if bytes_eq name (codes ":authority") then Some Authority
    else if bytes_eq name (codes ":path") then Some Path
    else if bytes_eq name (codes ":status") then Some Status
    else None

-- those that a message must have
abbrev pub needed_by : Message → List Pseudo
needed_by Request = Method ∷ Scheme ∷ Path ∷ []
needed_by Connect = Method ∷ Authority ∷ []
needed_by Response = Status ∷ []
needed_by Trailers = []
