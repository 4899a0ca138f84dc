-- A block that is read representation by representation.
use Rattle.std.proofs.Common.{◌≡◌, ℕ, ◌^◌, ◌<◌, ◌≤◌, List, [], ◌∷◌, ◌++◌, length, get_or, Bool, true, false, Result, Ok, Err, MatchResult, arith, refl, sym, subst, inl, inr}
use Rattle.std.specs.Prelude.{IfOk}
use Rattle.hpack_codec.specs.Collecting.{Advances, Stops, HasRead, Holds}
use Rattle.hpack_codec.specs.Decoding.{Answers, Decoding}
use Rattle.hpack_codec.specs.Faults.{OrNoMemory}
use Rattle.hpack_codec.specs.Integers.{BreaksInteger}
use Rattle.hpack_codec.specs.Sections.{field_of, form_of, list_size, literal_form, reading, BreaksBlock, BreaksForm, BreaksLiteral, IsLiteral, Reading, ReadsForm, ReadsPiece, Runs}
use Rattle.hpack_codec.specs.Strings.{BreaksString}
use Rattle.hpack_codec.specs.Table.{Table}
use Rattle.hpack_codec.proofs.BlockSizes.{few_fields}
use Rattle.hpack_codec.specs.declared.collected.Collected.{Collected}
use Rattle.hpack_codec.specs.declared.fault.HpackFault.{HpackFault}
use Rattle.hpack_codec.specs.declared.fault.HpackFault.TheVariants.{BadIndex, BadInteger, BadHuffman, BadUpdate, Truncated, ListTooLong, NoMemory, Failed}
use Rattle.hpack_codec.specs.declared.fields.Field.{Field}
use Rattle.hpack_codec.specs.declared.form.Form.{Form}
use Rattle.hpack_codec.specs.declared.form.Form.TheVariants.{Indexed, WithIndexing, SizeUpdate, NeverIndexed, WithoutIndexing}
use Rattle.hpack_codec.specs.declared.line.Line.{Line}

-- ---- a fault that a block shows
abbrev pub IsShown : HpackFault → Type 0
IsShown ListTooLong = ⊥
IsShown NoMemory = ⊥
IsShown Failed = ⊥
IsShown _ = Unit {0}

shown : (a b : HpackFault) → a ≡ b → IsShown b → IsShown a
shown a b e h = let P : HpackFault → Type 0 = λ f. IsShown f in subst P (sym e) h

integer_shown : (prefix : ℕ) (octets : List ℕ) (fault : HpackFault) → BreaksInteger prefix octets fault → IsShown fault
integer_shown prefix octets fault (inl cut) = shown fault Truncated cut.1 tt
integer_shown prefix octets fault (inr large) = shown fault BadInteger large.1 tt

string_shown : (octets : List ℕ) (fault : HpackFault) → BreaksString octets fault → IsShown fault
string_shown octets fault (inl integer) = integer_shown 7 octets fault integer
string_shown octets fault (inr (inl short)) = shown fault Truncated short.1 tt
string_shown octets fault (inr (inr none)) = shown fault BadHuffman none.1 tt

literal_shown : (prefix : ℕ) (t : Table) (octets : List ℕ) (fault : HpackFault) → BreaksLiteral prefix t octets fault → IsShown fault
literal_shown prefix t octets fault (inl (inl integer)) = integer_shown prefix octets fault integer
literal_shown prefix t octets fault (inl (inr (inl none))) = shown fault BadIndex none.1 tt
literal_shown prefix t octets fault (inl (inr (inr new))) = string_shown new.behind fault new.breaks
literal_shown prefix t octets fault (inr value) = string_shown value.behind fault value.breaks

pub form_shown : (form : Form) (greatest : ℕ) (r : Reading) (octets : List ℕ) (fault : HpackFault) → BreaksForm form greatest r octets fault → IsShown fault
form_shown Indexed greatest r octets fault (inl integer) = integer_shown 7 octets fault integer
form_shown Indexed greatest r octets fault (inr none) = shown fault BadIndex none.1 tt
form_shown WithIndexing greatest r octets fault breaks = literal_shown 6 r.table octets fault breaks
form_shown SizeUpdate greatest r octets fault (inl integer) = integer_shown 5 octets fault integer
form_shown SizeUpdate greatest r octets fault (inr bad) = shown fault BadUpdate bad.1 tt
form_shown NeverIndexed greatest r octets fault breaks = literal_shown 4 r.table octets fault breaks
form_shown WithoutIndexing greatest r octets fault breaks = literal_shown 4 r.table octets fault breaks

-- ---- one representation more
runs_more : (greatest : ℕ) (r : Reading) (octets : List ℕ) (readings : List Reading) (last : Reading) (rest : List ℕ) (next : Reading) (behind : List ℕ) → Runs greatest r octets readings last rest → ReadsPiece greatest last rest next behind → Runs greatest r octets (readings ++ next ∷ []) next behind
runs_more greatest r octets [] last rest next behind run piece =
    let P : Reading → Type 0 = λ x. ReadsPiece greatest x rest next behind in
    let Q : List ℕ → Type 0 = λ x. ReadsPiece greatest r x next behind in
    (behind, subst Q (sym run.1) (subst P (sym run.0) piece), (refl, refl))
runs_more greatest r octets (x ∷ others) last rest next behind run piece =
    (run.0, run.1, runs_more greatest x run.0 others last rest next behind run.2 piece)

pub has_read_none : (greatest most : ℕ) (t : Table) (block : List ℕ) → (c : Collected) → Holds most c [] → HasRead greatest most t block t c block
has_read_none greatest most t block c h = record { fields = []; readings = []; runs = (refl, refl); holds = h }

pub has_read_more : (greatest most : ℕ) (before : Table) (block : List ℕ) (t next : Table) (rest behind : List ℕ) → (c d : Collected) → HasRead greatest most before block t c rest → Advances (form_of (get_or rest 0 0)) greatest t c rest next d behind → HasRead greatest most before block next d behind
has_read_more greatest most before block t next rest behind c d r a =
    let b = a most r.fields r.holds in record {
      fields = b.0;
      readings = r.readings ++ reading next b.0 ∷ [];
      runs = runs_more greatest (reading before []) block r.readings (reading t r.fields) rest (reading next b.0) behind r.runs b.1;
      holds = b.2;
    }

-- ---- the answer
at_fault : (d : Decoding) (block : List ℕ) (fault : HpackFault) (after : Table) → IsShown fault → BreaksBlock d.greatest block d.table fault → Answers d block (Err fault) after
at_fault d block BadIndex after h b = b
at_fault d block BadInteger after h b = b
at_fault d block BadHuffman after h b = b
at_fault d block BadUpdate after h b = b
at_fault d block Truncated after h b = b
at_fault d block ListTooLong after h b = absurd h
at_fault d block NoMemory after h b = tt
at_fault d block Failed after h b = absurd h

pub breaks_here : (d : Decoding) (block : List ℕ) (t : Table) (c : Collected) (rest : List ℕ) (fault : HpackFault) (after : Table) → HasRead d.greatest d.most d.table block t c rest → 0 < length rest → OrNoMemory fault (Stops (form_of (get_or rest 0 0)) d.greatest t c rest fault) → Answers d block (Err fault) after
breaks_here d block t c rest fault after r some (inl memory) = let P : HpackFault → Type 0 = λ f. Answers d block (Err f) after in subst P (sym memory) tt
breaks_here d block t c rest fault after r some (inr stops) =
    let b = stops d.most r.fields r.holds in
    at_fault d block fault after (form_shown (form_of (get_or rest 0 0)) d.greatest (reading t r.fields) rest fault b) (record {
      readings = r.readings;
      last = reading t r.fields;
      rest = rest;
      reads = r.runs;
      some = some;
      breaks = b;
    })

pub finishes : (d : Decoding) (block : List ℕ) (t : Table) (c : Collected) (result : Result (List Field) HpackFault) → HasRead d.greatest d.most d.table block t c [] → ((most : ℕ) (fields : List Field) → Holds most c fields → MatchResult result (λ list. (list ≡ fields) × (list_size fields ≤ most)) (λ e. (e ≡ ListTooLong) × (most < list_size fields))) → Answers d block result t
finishes d block t c (Ok list) r given =
    let m = given d.most r.fields r.holds in
    let P : List Field → Type 0 = λ x. Answers d block (Ok x) t in
    subst P (sym m.0) ((r.readings, r.runs), m.1)
finishes d block t c (Err e) r given =
    let m = given d.most r.fields r.holds in
    let P : HpackFault → Type 0 = λ x. Answers d block (Err x) t in
    subst P (sym m.0) (record { fields = r.fields; spelled = (r.readings, r.runs); long = m.1 })

-- ---- a list within its limit
pub is_within : (d : Decoding) (block : List ℕ) (result : Result (List Field) HpackFault) (after : Table) → Answers d block result after → IfOk result (λ list. list_size list ≤ d.most)
is_within d block (Ok list) after a = a.1
is_within d block (Err e) after a = tt

pub is_few : (most : ℕ) (result : Result (List Field) HpackFault) → most < 2 ^ 32 → IfOk result (λ list. list_size list ≤ most) → IfOk result (λ list. length list < 2 ^ 32)
is_few most (Ok list) small within = omega (arith, few_fields list)
is_few most (Err e) small within = tt

-- ---- a literal that changes no table
pub unindexed_reads : (never : Bool) (greatest : ℕ) (t : Table) (fields : List Field) (octets rest : List ℕ) (l : Line) → IsLiteral 4 t octets l rest → ReadsForm (literal_form never) greatest (reading t fields) octets (reading t (fields ++ field_of l never ∷ [])) rest
unindexed_reads true greatest t fields octets rest l is = (l, is, refl)
unindexed_reads false greatest t fields octets rest l is = (l, is, refl)

pub unindexed_breaks : (never : Bool) (greatest : ℕ) (t : Table) (fields : List Field) (octets : List ℕ) (fault : HpackFault) → BreaksLiteral 4 t octets fault → BreaksForm (literal_form never) greatest (reading t fields) octets fault
unindexed_breaks true greatest t fields octets fault breaks = breaks
unindexed_breaks false greatest t fields octets fault breaks = breaks

-- ---- the form that an octet begins
pub advances_as : (form other : Form) (greatest : ℕ) (t : Table) (c : Collected) (octets : List ℕ) (next : Table) (d : Collected) (rest : List ℕ) → form ≡ other → Advances form greatest t c octets next d rest → Advances other greatest t c octets next d rest
advances_as form other greatest t c octets next d rest e a =
    let P : Form → Type 0 = λ f. Advances f greatest t c octets next d rest in subst P e a

pub stops_as : (form other : Form) (greatest : ℕ) (t : Table) (c : Collected) (octets : List ℕ) (fault : HpackFault) → form ≡ other → OrNoMemory fault ((any : ℕ) → Stops form any t c octets fault) → OrNoMemory fault (Stops other greatest t c octets fault)
stops_as form other greatest t c octets fault e (inl memory) = inl memory
stops_as form other greatest t c octets fault e (inr stops) =
    let P : Form → Type 0 = λ f. Stops f greatest t c octets fault in inr (subst P e (stops greatest))

pub update_stops_as : (form other : Form) (greatest : ℕ) (t : Table) (c : Collected) (octets : List ℕ) (fault : HpackFault) → form ≡ other → Stops form greatest t c octets fault → OrNoMemory fault (Stops other greatest t c octets fault)
update_stops_as form other greatest t c octets fault e stops =
    let P : Form → Type 0 = λ f. Stops f greatest t c octets fault in inr (subst P e stops)
