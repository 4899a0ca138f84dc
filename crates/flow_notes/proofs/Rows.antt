-- The notes that rows of flows stand for.
use Rattle.flow_rules.specs.declared.ids.FlowId.{FlowId}
use Rattle.flow_notes.specs.Rows.{all_notes, alone_in, flows_in, notes_of, rows_of, with_row}
use Rattle.flow_notes.specs.declared.notes.Note.{Note}
use Rattle.flow_notes.specs.declared.passages.Item.{Item}
use Rattle.std.proofs.Common.{ap, arith, refl, subst, suc, sym, zero, ◌∙◌}
use Rattle.std.proofs.Math.Seq.{take-append_seam, take-length}
use Rattle.io_ports.specs.declared.octets.NoMemory.{NoMemory}
use Rattle.std.proofs.lemmas.Bool.Decides.{nat_tests}
use Rattle.std.proofs.lemmas.Iterator.{YieldsList, items_from_drains}
use Rattle.std.proofs.lemmas.List.{append-nil, append_assoc, drop-append-le, length-append, length-drop, length-map, length-take-le, map-id, take-append-le}
use Rattle.std.proofs.lemmas.List.Sums.{sum_by-cons}
use Rattle.std.proofs.lemmas.Result.{on_ok_weaker}
use Rattle.std.specs.Iterator.{Drains}
use Rattle.std.specs.List.{AllByRecursion, sum_by}
use Rattle.std.specs.Prelude.{Bool, Err, IfOk, List, Ok, OnErr, OnOk, Option, Result, [], drop, false, if◌then◌else◌, length, take, ℕ, ◌++◌, ◌+◌, ◌-◌, ◌<◌, ◌==◌, ◌≤◌, ◌∷◌, ◌≡◌}
use Rattle.flow_notes.specs.declared.notes.Note.TheVariants as note
use Rattle.flow_notes.specs.declared.passages.Item.TheVariants.{One, Pauses, Resumes}

-- ---- counts

one_at_most : (i : Item) → alone_in i ≤ 1
one_at_most (One n) = omega arith
one_at_most (Pauses k b) = omega arith
one_at_most (Resumes k b) = omega arith

pub alone_le : (items : List Item) → sum_by alone_in items ≤ length items
alone_le [] = omega arith
alone_le (i ∷ is) = let c = sum_by-cons alone_in i is in let a = one_at_most i in let b = alone_le is in omega (arith, a, b, c)

length_of : (i : Item) (fs : List FlowId) → length fs ≡ flows_in i → length (notes_of i fs) ≡ alone_in i + flows_in i
length_of (One n) fs e = refl
length_of (Pauses k b) fs e = let m = length-map fs (λ (f : FlowId). note.Pause f b) in omega (arith, m, e)
length_of (Resumes k b) fs e = let m = length-map fs (λ (f : FlowId). note.Resume f b) in omega (arith, m, e)

first_fits : (i : Item) (is : List Item) (fs : List FlowId) → sum_by flows_in (i ∷ is) ≡ length fs → flows_in i ≤ length fs
first_fits i is fs e = let c = sum_by-cons flows_in i is in omega (arith, c, e)

rest_fits : (i : Item) (is : List Item) (fs : List FlowId) → sum_by flows_in (i ∷ is) ≡ length fs → sum_by flows_in is ≡ length (drop (flows_in i) fs)
rest_fits i is fs e = let c = sum_by-cons flows_in i is in let d = length-drop (flows_in i) fs in omega (arith, c, d, e)

pub all_length : (items : List Item) (fs : List FlowId) → sum_by flows_in items ≡ length fs → length (all_notes items fs) ≡ sum_by alone_in items + length fs
all_length [] fs e = omega (arith, e)
all_length (i ∷ is) fs e =
    let a = sum_by-cons alone_in i is in
    let b = sum_by-cons flows_in i is in
    let own = length_of i (take (flows_in i) fs) (length-take-le (flows_in i) fs (first_fits i is fs e)) in
    let rest = all_length is (drop (flows_in i) fs) (rest_fits i is fs e) in
    let fits = rest_fits i is fs e in
    let both = length-append (notes_of i (take (flows_in i) fs)) (all_notes is (drop (flows_in i) fs)) in
    omega (arith, a, b, own, rest, fits, both, e)

-- ---- no passage is empty

pub all_full : (items : List Item) (fs : List FlowId) → sum_by flows_in items ≡ length fs → AllByRecursion (λ i. 0 < alone_in i + flows_in i) items
    → AllByRecursion (λ notes. 0 < length notes) (rows_of items fs)
all_full [] fs e full = tt
all_full (i ∷ is) fs e full =
    let own = length_of i (take (flows_in i) fs) (length-take-le (flows_in i) fs (first_fits i is fs e)) in
    let f = full.0 in
    (omega (arith, own, f), all_full is (drop (flows_in i) fs) (rest_fits i is fs e) full.1)

-- ---- one item more

take_all : (gs : List FlowId) (n : ℕ) → length gs ≡ n → take n gs ≡ gs
take_all gs n e = let P : ℕ → Type 0 = λ k. take k gs ≡ gs in subst P e (take-length gs)

pub item_more : (items : List Item) (fs gs : List FlowId) (item : Item) → sum_by flows_in items ≡ length fs → length gs ≡ flows_in item
    → all_notes (items ++ item ∷ []) (fs ++ gs) ≡ all_notes items fs ++ notes_of item gs
item_more [] [] gs item e g = append-nil (notes_of item (take (flows_in item) gs)) ∙ ap (λ (v : List FlowId). notes_of item v) (take_all gs (flows_in item) g)
item_more [] (f ∷ fs) gs item e g = let no : ⊥ = omega (arith, e) in absurd no
item_more (i ∷ is) fs gs item e g =
    let fits = first_fits i is fs e in
    let own = notes_of i (take (flows_in i) fs) in
    ap (λ (v : List FlowId). notes_of i v ++ all_notes (is ++ item ∷ []) (drop (flows_in i) (fs ++ gs))) (take-append-le (flows_in i) fs gs fits)
    ∙ ap (λ (v : List FlowId). own ++ all_notes (is ++ item ∷ []) v) (drop-append-le (flows_in i) fs gs fits)
    ∙ ap (λ (v : List Note). own ++ v) (item_more is (drop (flows_in i) fs) gs item (rest_fits i is fs e) g)
    ∙ sym (append_assoc own (all_notes is (drop (flows_in i) fs)) (notes_of item gs))

pub note_more : (items new : List Item) (fs : List FlowId) (n : Note) (old : List Note) → sum_by flows_in items ≡ length fs → all_notes items fs ≡ old
    → new ≡ items ++ One n ∷ [] → all_notes new fs ≡ old ++ n ∷ []
note_more items new fs n old e was is =
    ap (λ (v : List Item). all_notes v fs) is
    ∙ ap (λ (v : List FlowId). all_notes (items ++ One n ∷ []) v) (sym (append-nil fs))
    ∙ item_more items fs [] (One n) e refl
    ∙ ap (λ (v : List Note). v ++ n ∷ []) was

-- ---- one row more

none_if : (k : ℕ) (xs ys : List Item) → 0 ≡ k → (if k == 0 then xs else ys) ≡ xs
none_if zero xs ys e = refl
none_if (suc k) xs ys e = let no : ⊥ = omega (arith, e) in absurd no

some_if : (k : ℕ) (xs ys : List Item) → 0 < k → (if k == 0 then xs else ys) ≡ ys
some_if k xs ys e = let no : (k == 0) ≡ false = grind (arith, nat_tests) in ap (λ (b : Bool). if b then xs else ys) no

no_notes : (row : Item) → alone_in row ≡ 0 → notes_of row [] ≡ []
no_notes (One n) a = let no : ⊥ = omega (arith, a) in absurd no
no_notes (Pauses k b) a = refl
no_notes (Resumes k b) a = refl

row_more : (items : List Item) (fs gs : List FlowId) (row : Item) → alone_in row ≡ 0 → sum_by flows_in items ≡ length fs → length gs ≡ flows_in row
    → all_notes (with_row items row) (fs ++ gs) ≡ all_notes items fs ++ notes_of row gs
row_more items fs [] row a e g =
    ap (λ (v : List Item). all_notes v (fs ++ [])) (none_if (flows_in row) items (items ++ row ∷ []) g)
    ∙ ap (λ (v : List FlowId). all_notes items v) (append-nil fs)
    ∙ sym (append-nil (all_notes items fs))
    ∙ ap (λ (v : List Note). all_notes items fs ++ v) (sym (no_notes row a))
row_more items fs (x ∷ gs) row a e g =
    ap (λ (v : List Item). all_notes v (fs ++ x ∷ gs)) (some_if (flows_in row) items (items ++ row ∷ []) (omega (arith, g)))
    ∙ item_more items fs (x ∷ gs) row e g

-- what a row leaves, where there was memory
pub row_pushed : (r : Result (Unit {0}) NoMemory) (items new : List Item) (fs both end added : List FlowId) (row : Item) (old : List Note)
    → alone_in row ≡ 0 → sum_by flows_in items ≡ length fs → all_notes items fs ≡ old → both ≡ fs ++ added → length added ≡ flows_in row
    → OnOk r ((end ≡ both) × (new ≡ with_row items row)) → OnOk r (all_notes new end ≡ old ++ notes_of row added)
row_pushed r items new fs both end added row old a e was b g =
    on_ok_weaker r (λ k.
    ap (λ (v : List FlowId). all_notes new v) (k.0 ∙ b)
    ∙ ap (λ (v : List Item). all_notes v (fs ++ added)) k.1
    ∙ row_more items fs added row a e g
    ∙ ap (λ (v : List Note). v ++ notes_of row added) was)

-- and where there was none
front_again : (fs added both : List FlowId) (k : ℕ) → both ≡ fs ++ added → length added ≡ k → take (length both - k) both ≡ fs
front_again fs added both k b g =
    let lens = length-append fs added in
    let n : length (fs ++ added) - k ≡ length fs = omega (arith, lens, g) in
    ap (λ (v : List FlowId). take (length v - k) v) b ∙ ap (λ (v : ℕ). take v (fs ++ added)) n ∙ take-append_seam fs added

pub row_unpushed : (r : Result (Unit {0}) NoMemory) (items new : List Item) (fs both end added : List FlowId) (row : Item) (old : List Note)
    → all_notes items fs ≡ old → both ≡ fs ++ added → length added ≡ flows_in row
    → OnErr r ((new ≡ items) × (end ≡ take (length both - flows_in row) both)) → OnErr r (all_notes new end ≡ old)
row_unpushed (Ok u) items new fs both end added row old was b g k = tt
row_unpushed (Err why) items new fs both end added row old was b g k =
    ap (λ (v : List Item). all_notes v end) k.0
    ∙ ap (λ (v : List FlowId). all_notes items v) (k.1 ∙ front_again fs added both (flows_in row) b g)
    ∙ was

-- ---- the flows of an iterator

all_drained : {S : Type 0} {steps : S → Option FlowId → S → Type 0} {s : S} (added all : List FlowId) → Drains steps s added → YieldsList steps (λ (f : FlowId). f) s all
    → added ≡ all
all_drained added all d road =
    let t = d.1.0 in
    sym (map-id added) ∙ items_from_drains added (t, d.1.1, λ _. (d.0, d.1.2)) road

pub all_appended : {S : Type 0} {steps : S → Option FlowId → S → Type 0} {s : S} (r : Result ℕ NoMemory) (old new all : List FlowId)
    → IfOk r (λ count. (added : List FlowId) × Drains steps s added × (new ≡ old ++ added) × (count ≡ length added)) → YieldsList steps (λ (f : FlowId). f) s all
    → IfOk r (λ count. (new ≡ old ++ all) × (count ≡ length all))
all_appended (Ok count) old new all a road =
    let same = all_drained a.0 all a.1 road in
    (a.2 ∙ ap (λ (v : List FlowId). old ++ v) same, a.3 ∙ ap (λ (v : List FlowId). length v) same)
all_appended (Err why) old new all a road = tt
