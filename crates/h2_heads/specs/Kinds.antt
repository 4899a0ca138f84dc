-- The numbers of the rules.
use Rattle.std.specs.Prelude.{ℕ}
use Rattle.h2_heads.specs.declared.malformed.Kind.{Kind}
use Rattle.h2_heads.specs.declared.malformed.Kind.TheVariants.{BadLength, BadName, BadPseudo, BadValue, Forbidden, InnerColon, LatePseudo, Missing, Repeated, UnknownPseudo}

abbrev pub number_of : Kind → ℕ
number_of BadName = 1
number_of InnerColon = 2
number_of BadValue = 3
number_of LatePseudo = 4
number_of UnknownPseudo = 5
number_of Repeated = 6
number_of Forbidden = 7
number_of Missing = 8
number_of BadPseudo = 9
number_of BadLength = 10
