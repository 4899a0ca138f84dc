-- A block is read in one way only.
use Rattle.std.proofs.Common.{◌≡◌, ◌⊎◌, ℕ, ◌<◌, ◌≤◌, ◌∙◌, Bool, true, false, List, [], ◌∷◌, ◌++◌, length, take, drop, get_or, Option, Some, None, Result, Ok, Err, refl, sym, ap, subst, arith, inl, inr}
use Rattle.std.proofs.lemmas.List.{length-append, take_at, drop_at}
use Rattle.std.specs.Option.{IsSomeAnd}
use Rattle.huffman.specs.Huffman.{octet_bits}
use Rattle.huffman.specs.Reading.{SpellsNone}
use Rattle.hpack_codec.specs.Sections.{form_of, reading, with_field, BlockIs, BreaksForm, BreaksIndexed, BreaksLiteral, BreaksName, BreaksPiece, IsIndexed, IsLiteral, IsName, Reading, ReadsForm, ReadsPiece, Runs}
use Rattle.hpack_codec.specs.Strings.{is_coded, BreaksString, IsString, Says}
use Rattle.hpack_codec.specs.Table.{added, entry_at, resized, Table}
use Rattle.hpack_codec.specs.declared.fault.HpackFault.{HpackFault}
use Rattle.hpack_codec.specs.declared.fault.HpackFault.TheVariants.{BadHuffman, BadIndex, BadUpdate, Truncated}
use Rattle.hpack_codec.specs.declared.fields.Field.{Field}
use Rattle.hpack_codec.specs.declared.form.Form.{Form}
use Rattle.hpack_codec.specs.declared.form.Form.TheVariants.{Indexed, WithIndexing, SizeUpdate, NeverIndexed, WithoutIndexing}
use Rattle.hpack_codec.specs.declared.line.Line.{Line}
use Rattle.huffman.proofs.Symbols.{one_reading}
use Rattle.hpack_codec.proofs.OneInteger.{IntegerIs, integer_one, integer_some}

-- ---- one part after another

abbrev pub Answer : Type 0 → Type 0
Answer X = Result X HpackFault

-- at most one answer
abbrev pub One : {X : Type 0} → (Answer X → Type 0) → Type 0
One {X} P = (r s : Answer X) → P r → P s → r ≡ s

-- the first part breaks, or it is read and the second part answers
pub record Breaks {X Y : Type 0} (P : Answer X → Type 0) (r : Answer Y) : Type 0 where
  pub fault : HpackFault
  pub breaks : P (Err fault)
  pub is : r ≡ Err fault

pub record Goes {X Y : Type 0} (P : Answer X → Type 0) (Q : X → Answer Y → Type 0) (r : Answer Y) : Type 0 where
  pub item : X
  pub reads : P (Ok item)
  pub next : Q item r

abbrev pub Then : {X Y : Type 0} → (Answer X → Type 0) → (X → Answer Y → Type 0) → Answer Y → Type 0
Then P Q r = Breaks P r ⊎ Goes P Q r

pub then_one : {X Y : Type 0} (P : Answer X → Type 0) (Q : X → Answer Y → Type 0) → One P → ((x : X) → One (Q x)) → One (Then P Q)
then_one P Q one each r s (inl a) (inl b) = let e : a.fault ≡ b.fault = (let h = one (Err a.fault) (Err b.fault) a.breaks b.breaks in cc) in a.is ∙ ap Err e ∙ sym b.is
then_one P Q one each r s (inl a) (inr b) = let h = one (Err a.fault) (Ok b.item) a.breaks b.reads in cc
then_one P Q one each r s (inr a) (inl b) = let h = one (Ok a.item) (Err b.fault) a.reads b.breaks in cc
then_one {X} P Q one each r s (inr a) (inr b) =
    let e : a.item ≡ b.item = (let h = one (Ok a.item) (Ok b.item) a.reads b.reads in cc) in
    let R : X → Type 0 = λ x. Q x r in
    each b.item r s (subst R e a.next) b.next

-- ---- strings
abbrev pub StringIs : List ℕ → Answer (List ℕ × List ℕ) → Type 0
StringIs octets (Ok x) = IsString octets x.0 x.1
StringIs octets (Err e) = BreaksString octets e

-- what the octets of a string say
pub record Text (coded : Bool) (there : List ℕ) (n : ℕ) (r : Answer (List ℕ × List ℕ)) : Type 0 where
  pub body : List ℕ
  pub rest : List ℕ
  pub whole : there ≡ body ++ rest
  pub len : length body ≡ n
  pub says : ((text : List ℕ) × Says coded body text × (r ≡ Ok (text, rest))) ⊎ ((coded ≡ true) × SpellsNone (octet_bits body) × (r ≡ Err BadHuffman))

abbrev pub Body : Bool → ℕ × List ℕ → Answer (List ℕ × List ℕ) → Type 0
Body coded x r = ((length x.1 < x.0) × (r ≡ Err Truncated)) ⊎ Text coded x.1 x.0 r

says_one : (coded : Bool) (body text other : List ℕ) → Says coded body text → Says coded body other → text ≡ other
says_one true body text other p q = one_reading (octet_bits body) text other p q
says_one false body text other p q = sym p ∙ q

says_none : (coded : Bool) (body text : List ℕ) → coded ≡ true → Says coded body text → SpellsNone (octet_bits body) → ⊥
says_none true body text e s none = none.none text s
says_none false body text e s none = cc

text_one : (coded : Bool) (there : List ℕ) (n : ℕ) → One (Text coded there n)
text_one coded there n r s a b =
    let same : a.body ++ a.rest ≡ b.body ++ b.rest = sym a.whole ∙ b.whole in
    let body : a.body ≡ b.body = sym (take_at a.body a.rest n a.len) ∙ ap (take n) same ∙ take_at b.body b.rest n b.len in
    let rest : a.rest ≡ b.rest = sym (drop_at a.body a.rest n a.len) ∙ ap (drop n) same ∙ drop_at b.body b.rest n b.len in
    let S : List ℕ → Type 0 = λ x. SpellsNone (octet_bits x) in
    elim a.says [
      | inl p ↦ (let T : List ℕ → Type 0 = λ x. Says coded x p.0 in
          elim b.says [
            | inl q ↦ p.2 ∙ ap (λ x. Ok (x, a.rest)) (says_one coded b.body p.0 q.0 (subst T body p.1) q.1) ∙ ap (λ x. Ok (q.0, x)) rest ∙ sym q.2
            | inr q ↦ absurd (says_none coded b.body p.0 q.0 (subst T body p.1) q.1)
          ])
      | inr p ↦ elim b.says [
        | inl q ↦ absurd (says_none coded b.body q.0 p.0 q.1 (subst S body p.1))
        | inr q ↦ p.2 ∙ sym q.2
      ]
    ]

body_one : (coded : Bool) (x : ℕ × List ℕ) → One (Body coded x)
body_one coded x r s (inl a) (inl b) = a.1 ∙ sym b.1
body_one coded x r s (inl a) (inr b) = absurd (omega (arith, a.0, b.len, ap length b.whole, length-append b.body b.rest))
body_one coded x r s (inr a) (inl b) = absurd (omega (arith, b.0, a.len, ap length a.whole, length-append a.body a.rest))
body_one coded x r s (inr a) (inr b) = text_one coded x.1 x.0 r s a b

string_then : (octets : List ℕ) (r : Answer (List ℕ × List ℕ)) → StringIs octets r → Then (IntegerIs 7 octets) (Body (is_coded octets)) r
string_then octets (Ok x) s =
    inr (record { item = (length s.body, s.body ++ x.1); reads = s.sized; next = inr (record { body = s.body; rest = x.1; whole = refl; len = refl; says = inl (x.0, s.says, refl) }) })
string_then octets (Err e) (inl i) = inl (record { fault = e; breaks = i; is = refl })
string_then octets (Err e) (inr (inl short)) =
    inr (record { item = (short.0.len, short.0.there); reads = short.0.sized; next = inl (short.0.short, ap Err short.1) })
string_then octets (Err e) (inr (inr none)) =
    inr (record {
      item = (length none.0.body, none.0.body ++ none.0.rest);
      reads = none.0.sized;
      next = inr (record { body = none.0.body; rest = none.0.rest; whole = refl; len = refl; says = inr (none.0.coded, none.0.none, ap Err none.1) });
    })

pub string_one : (octets : List ℕ) → One (StringIs octets)
string_one octets r s a b =
    then_one (IntegerIs 7 octets) (Body (is_coded octets)) (integer_one 7 octets) (body_one (is_coded octets)) r s (string_then octets r a) (string_then octets s b)

-- ---- indexed fields
abbrev pub IndexedIs : Table → List ℕ → Answer (Line × List ℕ) → Type 0
IndexedIs t octets (Ok x) = IsIndexed t octets x.0 x.1
IndexedIs t octets (Err e) = BreaksIndexed t octets e

abbrev pub EntryIs : Table → ℕ × List ℕ → Answer (Line × List ℕ) → Type 0
EntryIs t x r = ((l : Line) × (entry_at t x.0 ≡ Some l) × (r ≡ Ok (l, x.1))) ⊎ ((entry_at t x.0 ≡ None) × (r ≡ Err BadIndex))

entry_one : (t : Table) (x : ℕ × List ℕ) → One (EntryIs t x)
entry_one t x r s (inl a) (inl b) = let e : a.0 ≡ b.0 = (let h = sym a.1 ∙ b.1 in cc) in a.2 ∙ ap (λ l. Ok (l, x.1)) e ∙ sym b.2
entry_one t x r s (inl a) (inr b) = let h = sym a.1 ∙ b.0 in cc
entry_one t x r s (inr a) (inl b) = let h = sym b.1 ∙ a.0 in cc
entry_one t x r s (inr a) (inr b) = a.1 ∙ sym b.1

indexed_then : (t : Table) (octets : List ℕ) (r : Answer (Line × List ℕ)) → IndexedIs t octets r → Then (IntegerIs 7 octets) (EntryIs t) r
indexed_then t octets (Ok x) i = inr (record { item = (i.index, x.1); reads = i.spelled; next = inl (x.0, i.entry, refl) })
indexed_then t octets (Err e) (inl i) = inl (record { fault = e; breaks = i; is = refl })
indexed_then t octets (Err e) (inr n) = inr (record { item = (n.0.index, n.0.rest); reads = n.0.spelled; next = inr (n.0.none, ap Err n.1) })

pub indexed_one : (t : Table) (octets : List ℕ) → One (IndexedIs t octets)
indexed_one t octets r s a b = then_one (IntegerIs 7 octets) (EntryIs t) (integer_one 7 octets) (entry_one t) r s (indexed_then t octets r a) (indexed_then t octets s b)

-- ---- names
abbrev pub NameIs : ℕ → Table → List ℕ → Answer (List ℕ × List ℕ) → Type 0
NameIs prefix t octets (Ok x) = IsName prefix t octets x.0 x.1
NameIs prefix t octets (Err e) = BreaksName prefix t octets e

-- an index above 0, or a string behind 0
abbrev pub CalledIs : Table → ℕ × List ℕ → Answer (List ℕ × List ℕ) → Type 0
CalledIs t x r =
    ((x.0 ≡ 0) × StringIs x.1 r)
    ⊎ (((0 < x.0) × ((l : Line) × (entry_at t x.0 ≡ Some l) × (r ≡ Ok (l.name, x.1)))) ⊎ ((0 < x.0) × (entry_at t x.0 ≡ None) × (r ≡ Err BadIndex)))

called_one : (t : Table) (x : ℕ × List ℕ) → One (CalledIs t x)
called_one t x r s (inl a) (inl b) = string_one x.1 r s a.1 b.1
called_one t x r s (inl a) (inr (inl b)) = absurd (omega (arith, a.0, b.0))
called_one t x r s (inl a) (inr (inr b)) = absurd (omega (arith, a.0, b.0))
called_one t x r s (inr (inl a)) (inl b) = absurd (omega (arith, b.0, a.0))
called_one t x r s (inr (inr a)) (inl b) = absurd (omega (arith, b.0, a.0))
called_one t x r s (inr (inl a)) (inr (inl b)) = let e : a.1.0 ≡ b.1.0 = (let h = sym a.1.1 ∙ b.1.1 in cc) in a.1.2 ∙ ap (λ l. Ok (l.name, x.1)) e ∙ sym b.1.2
called_one t x r s (inr (inl a)) (inr (inr b)) = let h = sym a.1.1 ∙ b.1 in cc
called_one t x r s (inr (inr a)) (inr (inl b)) = let h = sym b.1.1 ∙ a.1 in cc
called_one t x r s (inr (inr a)) (inr (inr b)) = a.2 ∙ sym b.2

entry_named : (o : Option Line) (name : List ℕ) → IsSomeAnd o (λ l. l.name ≡ name) → (l : Line) × (o ≡ Some l) × (l.name ≡ name)
entry_named None name h = absurd h
entry_named (Some l) name h = (l, refl, h)

name_then : (prefix : ℕ) (t : Table) (octets : List ℕ) (r : Answer (List ℕ × List ℕ)) → NameIs prefix t octets r → Then (IntegerIs prefix octets) (CalledIs t) r
name_then prefix t octets (Ok x) (inl i) =
    let e = entry_named (entry_at t i.index) x.0 i.entry in
    inr (record { item = (i.index, x.1); reads = i.spelled; next = inr (inl (i.some, (e.0, e.1, ap (λ n. Ok (n, x.1)) (sym e.2)))) })
name_then prefix t octets (Ok x) (inr n) = inr (record { item = (0, n.behind); reads = n.zero; next = inl (refl, n.spelled) })
name_then prefix t octets (Err e) (inl i) = inl (record { fault = e; breaks = i; is = refl })
name_then prefix t octets (Err e) (inr (inl n)) = inr (record { item = (n.0.index, n.0.rest); reads = n.0.spelled; next = inr (inr (n.0.some, n.0.none, ap Err n.1)) })
name_then prefix t octets (Err e) (inr (inr n)) = inr (record { item = (0, n.behind); reads = n.zero; next = inl (refl, n.breaks) })

pub name_one : (prefix : ℕ) (t : Table) (octets : List ℕ) → One (NameIs prefix t octets)
name_one prefix t octets r s a b =
    then_one (IntegerIs prefix octets) (CalledIs t) (integer_one prefix octets) (called_one t) r s (name_then prefix t octets r a) (name_then prefix t octets s b)

-- ---- literals
abbrev pub LiteralIs : ℕ → Table → List ℕ → Answer (Line × List ℕ) → Type 0
LiteralIs prefix t octets (Ok x) = IsLiteral prefix t octets x.0 x.1
LiteralIs prefix t octets (Err e) = BreaksLiteral prefix t octets e

abbrev pub LineIs : List ℕ → List ℕ × List ℕ → Answer (Line × List ℕ) → Type 0
LineIs name x r = r ≡ Ok (record { name = name; value = x.0 }, x.1)

abbrev pub ValueIs : List ℕ × List ℕ → Answer (Line × List ℕ) → Type 0
ValueIs x r = Then (StringIs x.1) (LineIs x.0) r

value_one : (x : List ℕ × List ℕ) → One (ValueIs x)
value_one x = then_one (StringIs x.1) (LineIs x.0) (string_one x.1) (λ y r s a b. a ∙ sym b)

literal_then : (prefix : ℕ) (t : Table) (octets : List ℕ) (r : Answer (Line × List ℕ)) → LiteralIs prefix t octets r → Then (NameIs prefix t octets) ValueIs r
literal_then prefix t octets (Ok x) l = inr (record { item = (x.0.name, l.behind); reads = l.name; next = inr (record { item = (x.0.value, x.1); reads = l.value; next = refl }) })
literal_then prefix t octets (Err e) (inl n) = inl (record { fault = e; breaks = n; is = refl })
literal_then prefix t octets (Err e) (inr v) = inr (record { item = (v.called, v.behind); reads = v.name; next = inl (record { fault = e; breaks = v.breaks; is = refl }) })

pub literal_one : (prefix : ℕ) (t : Table) (octets : List ℕ) → One (LiteralIs prefix t octets)
literal_one prefix t octets r s a b = then_one (NameIs prefix t octets) ValueIs (name_one prefix t octets) value_one r s (literal_then prefix t octets r a) (literal_then prefix t octets s b)

-- ---- representations
abbrev pub FormIs : Form → ℕ → Reading → List ℕ → Answer (Reading × List ℕ) → Type 0
FormIs form greatest r octets (Ok x) = ReadsForm form greatest r octets x.0 x.1
FormIs form greatest r octets (Err e) = BreaksForm form greatest r octets e

-- a line becomes a field
abbrev pub FieldIs : (Line → Reading) → Line × List ℕ → Answer (Reading × List ℕ) → Type 0
FieldIs next x r = r ≡ Ok (next x.0, x.1)

field_one : (P : Answer (Line × List ℕ) → Type 0) (next : Line → Reading) → One P → One (Then P (FieldIs next))
field_one P next one = then_one P (FieldIs next) one (λ y r s a b. a ∙ sym b)

line_then : (P : Answer (Line × List ℕ) → Type 0) (next : Line → Reading) (l : Line) (rest : List ℕ) (after : Reading) → P (Ok (l, rest)) → after ≡ next l → Then P (FieldIs next) (Ok (after, rest))
line_then P next l rest after reads e = inr (record { item = (l, rest); reads = reads; next = ap (λ x. Ok (x, rest)) e })

fault_then : (P : Answer (Line × List ℕ) → Type 0) (next : Line → Reading) (fault : HpackFault) → P (Err fault) → Then P (FieldIs next) (Err fault)
fault_then P next fault breaks = inl (record { fault = fault; breaks = breaks; is = refl })

-- an update is taken or refused
abbrev pub UpdateIs : ℕ → Reading → ℕ × List ℕ → Answer (Reading × List ℕ) → Type 0
UpdateIs greatest r x a =
    ((x.0 ≤ greatest) × (r.fields ≡ []) × (a ≡ Ok (reading (resized x.0 r.table) [], x.1)))
    ⊎ (((0 < length r.fields) ⊎ (greatest < x.0)) × (a ≡ Err BadUpdate))

refused : (greatest size : ℕ) (r : Reading) → size ≤ greatest → r.fields ≡ [] → (0 < length r.fields) ⊎ (greatest < size) → ⊥
refused greatest size r fits none (inl some) = omega (arith, some, ap length none)
refused greatest size r fits none (inr above) = omega arith

update_one : (greatest : ℕ) (r : Reading) (x : ℕ × List ℕ) → One (UpdateIs greatest r x)
update_one greatest r x p q (inl a) (inl b) = a.2 ∙ sym b.2
update_one greatest r x p q (inl a) (inr b) = absurd (refused greatest x.0 r a.0 a.1 b.0)
update_one greatest r x p q (inr a) (inl b) = absurd (refused greatest x.0 r b.0 b.1 a.0)
update_one greatest r x p q (inr a) (inr b) = a.1 ∙ sym b.1

update_then : (greatest : ℕ) (r : Reading) (octets : List ℕ) (a : Answer (Reading × List ℕ)) → FormIs SizeUpdate greatest r octets a → Then (IntegerIs 5 octets) (UpdateIs greatest r) a
update_then greatest r octets (Ok x) u = inr (record { item = (u.0, x.1); reads = u.1; next = inl (u.2, u.3, ap (λ y. Ok (y, x.1)) u.4) })
update_then greatest r octets (Err e) (inl i) = inl (record { fault = e; breaks = i; is = refl })
update_then greatest r octets (Err e) (inr b) = inr (record { item = (b.0.size, b.0.rest); reads = b.0.spelled; next = inr (b.0.bad, ap Err b.1) })

indexed_field : (greatest : ℕ) (r : Reading) (octets : List ℕ) (a : Answer (Reading × List ℕ)) → FormIs Indexed greatest r octets a → Then (IndexedIs r.table octets) (FieldIs (λ l. with_field l false r.table r)) a
indexed_field greatest r octets (Ok x) f = line_then (IndexedIs r.table octets) (λ l. with_field l false r.table r) f.0 x.1 x.0 f.1 f.2
indexed_field greatest r octets (Err e) f = fault_then (IndexedIs r.table octets) (λ l. with_field l false r.table r) e f

inserted_field : (greatest : ℕ) (r : Reading) (octets : List ℕ) (a : Answer (Reading × List ℕ)) → FormIs WithIndexing greatest r octets a → Then (LiteralIs 6 r.table octets) (FieldIs (λ l. with_field l false (added l r.table) r)) a
inserted_field greatest r octets (Ok x) f = line_then (LiteralIs 6 r.table octets) (λ l. with_field l false (added l r.table) r) f.0 x.1 x.0 f.1 f.2
inserted_field greatest r octets (Err e) f = fault_then (LiteralIs 6 r.table octets) (λ l. with_field l false (added l r.table) r) e f

never_field : (greatest : ℕ) (r : Reading) (octets : List ℕ) (a : Answer (Reading × List ℕ)) → FormIs NeverIndexed greatest r octets a → Then (LiteralIs 4 r.table octets) (FieldIs (λ l. with_field l true r.table r)) a
never_field greatest r octets (Ok x) f = line_then (LiteralIs 4 r.table octets) (λ l. with_field l true r.table r) f.0 x.1 x.0 f.1 f.2
never_field greatest r octets (Err e) f = fault_then (LiteralIs 4 r.table octets) (λ l. with_field l true r.table r) e f

plain_field : (greatest : ℕ) (r : Reading) (octets : List ℕ) (a : Answer (Reading × List ℕ)) → FormIs WithoutIndexing greatest r octets a → Then (LiteralIs 4 r.table octets) (FieldIs (λ l. with_field l false r.table r)) a
plain_field greatest r octets (Ok x) f = line_then (LiteralIs 4 r.table octets) (λ l. with_field l false r.table r) f.0 x.1 x.0 f.1 f.2
plain_field greatest r octets (Err e) f = fault_then (LiteralIs 4 r.table octets) (λ l. with_field l false r.table r) e f

pub form_one : (form : Form) (greatest : ℕ) (r : Reading) (octets : List ℕ) → One (FormIs form greatest r octets)
form_one Indexed greatest r octets p q a b =
    field_one (IndexedIs r.table octets) (λ l. with_field l false r.table r) (indexed_one r.table octets) p q (indexed_field greatest r octets p a) (indexed_field greatest r octets q b)
form_one WithIndexing greatest r octets p q a b =
    field_one (LiteralIs 6 r.table octets) (λ l. with_field l false (added l r.table) r) (literal_one 6 r.table octets) p q (inserted_field greatest r octets p a) (inserted_field greatest r octets q b)
form_one SizeUpdate greatest r octets p q a b =
    then_one (IntegerIs 5 octets) (UpdateIs greatest r) (integer_one 5 octets) (update_one greatest r) p q (update_then greatest r octets p a) (update_then greatest r octets q b)
form_one NeverIndexed greatest r octets p q a b =
    field_one (LiteralIs 4 r.table octets) (λ l. with_field l true r.table r) (literal_one 4 r.table octets) p q (never_field greatest r octets p a) (never_field greatest r octets q b)
form_one WithoutIndexing greatest r octets p q a b =
    field_one (LiteralIs 4 r.table octets) (λ l. with_field l false r.table r) (literal_one 4 r.table octets) p q (plain_field greatest r octets p a) (plain_field greatest r octets q b)

-- ---- blocks
literal_some : (prefix : ℕ) (t : Table) (octets : List ℕ) (l : Line) (rest : List ℕ) → IsLiteral prefix t octets l rest → 0 < length octets
literal_some prefix t octets l rest is = elim is.name [
  | inl i ↦ integer_some prefix octets i.index is.behind i.spelled
  | inr n ↦ integer_some prefix octets 0 n.behind n.zero
]

form_some : (form : Form) (greatest : ℕ) (r next : Reading) (octets rest : List ℕ) → ReadsForm form greatest r octets next rest → 0 < length octets
form_some Indexed greatest r next octets rest f = integer_some 7 octets f.1.index rest f.1.spelled
form_some WithIndexing greatest r next octets rest f = literal_some 6 r.table octets f.0 rest f.1
form_some SizeUpdate greatest r next octets rest f = integer_some 5 octets f.0 rest f.1
form_some NeverIndexed greatest r next octets rest f = literal_some 4 r.table octets f.0 rest f.1
form_some WithoutIndexing greatest r next octets rest f = literal_some 4 r.table octets f.0 rest f.1

-- how a run ends: at the end of the block, or before a representation that breaks
abbrev pub Ends : ℕ → Reading → List ℕ → Answer (List Field × Table) → Type 0
Ends greatest last rest r =
    ((rest ≡ []) × (r ≡ Ok (last.fields, last.table))) ⊎ ((0 < length rest) × ((e : HpackFault) × BreaksPiece greatest last rest e × (r ≡ Err e)))

ends_as : (greatest : ℕ) (last other : Reading) (rest behind : List ℕ) (r : Answer (List Field × Table)) → other ≡ last → behind ≡ rest → Ends greatest last rest r → Ends greatest other behind r
ends_as greatest last other rest behind r l b e =
    let P : Reading → Type 0 = λ x. Ends greatest x rest r in
    let Q : List ℕ → Type 0 = λ x. Ends greatest other x r in
    subst Q (sym b) (subst P (sym l) e)

ends_one : (greatest : ℕ) (last : Reading) (rest : List ℕ) → One (Ends greatest last rest)
ends_one greatest last rest r s (inl a) (inl b) = a.1 ∙ sym b.1
ends_one greatest last rest r s (inl a) (inr b) = absurd (omega (arith, b.0, ap length a.0))
ends_one greatest last rest r s (inr a) (inl b) = absurd (omega (arith, a.0, ap length b.0))
ends_one greatest last rest r s (inr a) (inr b) =
    let e : a.1.0 ≡ b.1.0 = (let h = form_one (form_of (get_or rest 0 0)) greatest last rest (Err a.1.0) (Err b.1.0) a.1.1 b.1.1 in cc) in a.1.2 ∙ ap Err e ∙ sym b.1.2

-- no run ends where a representation is read
goes_further : (greatest : ℕ) (last next : Reading) (rest behind : List ℕ) (r : Answer (List Field × Table)) → Ends greatest last rest r → ReadsPiece greatest last rest next behind → ⊥
goes_further greatest last next rest behind r (inl a) piece = omega (arith, form_some (form_of (get_or rest 0 0)) greatest last next rest behind piece, ap length a.0)
goes_further greatest last next rest behind r (inr a) piece =
    let h = form_one (form_of (get_or rest 0 0)) greatest last rest (Err a.1.0) (Ok (next, behind)) a.1.1 piece in cc

run_one : (greatest : ℕ) (start : Reading) (octets : List ℕ) (readings others : List Reading) (last final : Reading) (rest behind : List ℕ) (r s : Answer (List Field × Table)) → Runs greatest start octets readings last rest → Ends greatest last rest r → Runs greatest start octets others final behind → Ends greatest final behind s → r ≡ s
run_one greatest start octets [] [] last final rest behind r s a ea b eb =
    ends_one greatest start octets r s (ends_as greatest last start rest octets r a.0 a.1 ea) (ends_as greatest final start behind octets s b.0 b.1 eb)
run_one greatest start octets [] (y ∷ others) last final rest behind r s a ea b eb =
    absurd (goes_further greatest start y octets b.0 r (ends_as greatest last start rest octets r a.0 a.1 ea) b.1)
run_one greatest start octets (x ∷ readings) [] last final rest behind r s a ea b eb =
    absurd (goes_further greatest start x octets a.0 s (ends_as greatest final start behind octets s b.0 b.1 eb) a.1)
run_one greatest start octets (x ∷ readings) (y ∷ others) last final rest behind r s a ea b eb =
    let h = form_one (form_of (get_or octets 0 0)) greatest start octets (Ok (x, a.0)) (Ok (y, b.0)) a.1 b.1 in
    let pair : (x, a.0) ≡ (y, b.0) = cc in
    let same = ap (λ (p : Reading × List ℕ). p.0) pair in
    let there = ap (λ (p : Reading × List ℕ). p.1) pair in
    let P : Reading → Type 0 = λ z. Runs greatest z a.0 readings last rest in
    let Q : List ℕ → Type 0 = λ z. Runs greatest y z readings last rest in
    run_one greatest y b.0 readings others last final rest behind r s (subst Q there (subst P same a.2)) ea b.2 eb

pub record Run (greatest : ℕ) (block : List ℕ) (before : Table) (r : Answer (List Field × Table)) : Type 0 where
  pub readings : List Reading
  pub last : Reading
  pub rest : List ℕ
  pub runs : Runs greatest (reading before []) block readings last rest
  pub ends : Ends greatest last rest r

run_of : (greatest : ℕ) (block : List ℕ) (before : Table) (r : Answer (List Field × Table)) → BlockIs greatest block before r → Run greatest block before r
run_of greatest block before (Ok x) b = record { readings = b.0; last = reading x.1 x.0; rest = []; runs = b.1; ends = inl (refl, refl) }
run_of greatest block before (Err e) b = record { readings = b.readings; last = b.last; rest = b.rest; runs = b.reads; ends = inr (b.some, (e, b.breaks, refl)) }

-- No block has two readings.
pub block_one : (greatest : ℕ) (block : List ℕ) (before : Table) → One (BlockIs greatest block before)
block_one greatest block before r s a b =
    let p = run_of greatest block before r a in
    let q = run_of greatest block before s b in
    run_one greatest (reading before []) block p.readings q.readings p.last q.last p.rest q.rest r s p.runs p.ends q.runs q.ends
