-- A session that breaks no rule is replayed to its end.
use Rattle.flow_notes.proofs.Lines.{line_of_cons}
use Rattle.flow_notes.proofs.NoteLines.{event_one}
use Rattle.flow_notes.proofs.Numbers.{own}
use Rattle.flow_notes.proofs.Octets.{and_left, and_right, hex_all}
use Rattle.flow_notes.specs.Event.{HasEventSpelling, event_spelling, plain_words}
use Rattle.flow_notes.specs.Fields.{Fits32, FitsPlain}
use Rattle.flow_notes.specs.Line.{line_of, newline, spaced}
use Rattle.flow_notes.specs.Name.{AreNames}
use Rattle.flow_notes.specs.declared.events.Event.{Event}
use Rattle.flow_notes.specs.declared.events.PlainEvent.{PlainEvent}
use Rattle.tape_summary.proofs.Spots.{number_is}
use Rattle.session_lines.proofs.Readings.{in_ranges, numbers_fit}
use Rattle.replay_run.specs.Allowed.{Completes, IsAllowed, IsUnrefused}
use Rattle.session_run.specs.Ending.{Cut, IsRefused, Long, MayNotCome, longest_line}
use Rattle.session_run.specs.Newlines.{has_newline}
use Rattle.replay_run.specs.Replays.{Replays}
use Rattle.replay_run.specs.SeenTape.{IsSeen}
use Rattle.session_lines.specs.Seen.{EventOf, Headed, HeaderOf, Item, LimitsOf, MayCome, Playing, Seen, SpellsNothing, Unread, are_limits, event_lines, header_line, is_playing, item_line, limit_numbers, limits_line, seen_text}
use Rattle.session_lines.specs.declared.order.Format.{Format}
use Rattle.session_run.specs.declared.status.Status.{Status}
use Rattle.std.proofs.Common.{ap, append_assoc, arith, inl, inr, length-append, refl, subst, sym, ◌∙◌}
use Rattle.std.proofs.lemmas.Bool.{false_from_ne_true}
use Rattle.std.proofs.lemmas.Fmt.{digits_decimal}
use Rattle.std.proofs.lemmas.Grind.{common_steps}
use Rattle.std.proofs.lemmas.List.{append-nil, get_or_default, take-append-le}
use Rattle.std.proofs.lemmas.List.Sums.{list_all-from_AllPass}
use Rattle.std.proofs.lemmas.Str.Parse.{not_in_digits}
use Rattle.std.specs.Fmt.{decimal}
use Rattle.std.specs.List.{AllByRecursion, list_all}
use Rattle.std.specs.Prelude.{Bool, IsTrue, List, None, Option, Some, [], codes, false, get_or, length, map, not, suc, take, true, zero, ℕ, ◌++◌, ◌+◌, ◌<◌, ◌==◌, ◌^◌, ◌||◌, ◌∷◌, ◌≡◌, ◌≢◌, ◌⊎◌}
use Rattle.tape_laws.specs.Following.{MayFollowAll, MayFollowEvent}
use Rattle.tape_laws.specs.declared.PlainLimits.{PlainLimits}
use Rattle.flow_notes.specs.declared.events.Event.TheVariants as event
use Rattle.flow_notes.specs.declared.events.PlainEvent.TheVariants as plain
use Rattle.session_lines.specs.declared.order.Format.TheVariants as format
use Rattle.session_run.specs.declared.status.Status.TheVariants as status

-- ---- a spelling has no newline

neither : (b c : Bool) → (b || c) ≡ false → (b ≡ false) × (c ≡ false)
neither true c e = cc
neither false c e = (refl, e)

opposite : (b : Bool) → not b ≡ true → b ≡ false
opposite true e = cc
opposite false e = refl

both_whole : (xs ys : List ℕ) → has_newline xs ≡ false → has_newline ys ≡ false → has_newline (xs ++ ys) ≡ false
both_whole [] ys a b = b
both_whole (x ∷ xs) ys a b = let k = neither (x == 10) (has_newline xs) a in rw (k.0) (both_whole xs ys k.1 b)

none_whole : (xs : List ℕ) → list_all (λ c. not (c == 10)) xs ≡ true → has_newline xs ≡ false
none_whole [] h = refl
none_whole (x ∷ xs) h = rw (opposite (x == 10) (and_left _ _ h)) (none_whole xs (and_right _ _ h))

not_ten : (c : ℕ) → c ≢ 10 → not (c == 10) ≡ true
not_ten c other = ap not (false_from_ne_true (c == 10) (λ is. other (number_is c 10 is)))

abbrev IsWhole : List ℕ → Type 0
IsWhole octets = has_newline octets ≡ false

decimal_whole : (n : ℕ) → n < 2 ^ 64 → IsWhole (decimal n)
decimal_whole n fits = none_whole (decimal n) (list_all-from_AllPass (λ c. not (c == 10)) (decimal n) (λ k d lt.
    not_ten _ (λ is. not_in_digits own (decimal n) 10 (digits_decimal own n fits) (λ within. omega arith) k lt (get_or_default (decimal n) k 0 d lt ∙ is))))

numbers_whole : (ns : List ℕ) → AllByRecursion Fits32 ns → AllByRecursion IsWhole (map decimal ns)
numbers_whole [] fit = tt
numbers_whole (n ∷ ns) fit = (decimal_whole n (omega (arith, fit.0)), numbers_whole ns fit.1)

spaced_whole : (words : List (List ℕ)) → AllByRecursion IsWhole words → IsWhole (spaced words)
spaced_whole [] all = refl
spaced_whole (w ∷ ws) all = both_whole (32 ∷ w) (spaced ws) all.0 (spaced_whole ws all.1)

line_whole : (words : List (List ℕ)) → AllByRecursion IsWhole words → IsWhole (line_of words)
line_whole [] all = refl
line_whole (w ∷ ws) all = ap has_newline (line_of_cons w ws) ∙ both_whole w (spaced ws) all.0 (spaced_whole ws all.1)

words_whole : (p : PlainEvent) → FitsPlain p → AllByRecursion IsWhole (plain_words p)
words_whole (plain.Begin stream) fits = (refl, (decimal_whole stream (omega (arith, fits)), tt))
words_whole (plain.Pair first second) fits = (refl, (decimal_whole first (omega (arith, fits.0)), (decimal_whole second (omega (arith, fits.1)), tt)))
words_whole (plain.Body stream octets) fits = (refl, (decimal_whole stream (omega (arith, fits.0)), (none_whole (get_or (plain_words (plain.Body stream octets)) 2 []) (hex_all (λ c. not (c == 10)) refl octets fits.1), tt)))
words_whole (plain.Finish stream) fits = (refl, (decimal_whole stream (omega (arith, fits)), tt))
words_whole (plain.Cut stream) fits = (refl, (decimal_whole stream (omega (arith, fits)), tt))
words_whole (plain.Room n) fits = (refl, (decimal_whole n (omega (arith, fits)), tt))

event_spelled : (es : List Event) (e : Event) → MayFollowEvent es e → IsWhole (event_spelling [] e) × HasEventSpelling [] e
event_spelled es (event.Plain p) m = (line_whole (plain_words p) (words_whole p m.1), (m.0, m.1))
event_spelled es (event.Accept c) m = absurd m
event_spelled es (event.Join c cluster) m = absurd m
event_spelled es (event.Read c octets) m = absurd m
event_spelled es (event.Gone c) m = absurd m
event_spelled es (event.Room c n) m = absurd m
event_spelled es (event.Tick now) m = absurd m
event_spelled es (event.Post poster number job) m = absurd m
event_spelled es (event.Obey version pressures) m = absurd m

pub header_whole : (f : Format) → IsWhole (header_line f)
header_whole format.One = refl
header_whole format.Two = refl

pub limits_whole : (f : Format) (l : PlainLimits) → IsTrue (are_limits f l) → IsWhole (limits_line f l)
limits_whole f l may = line_whole (codes "limits" ∷ map decimal (limit_numbers f l)) (refl, numbers_whole (limit_numbers f l) (numbers_fit f l (in_ranges f l may)))

-- ---- a text falls into lines in one way

pub same_line : (a b x y : List ℕ) → IsWhole a → IsWhole b → a ++ 10 ∷ x ≡ b ++ 10 ∷ y → (a ≡ b) × (x ≡ y)
same_line [] [] x y p q e = (refl, (let k : x ≡ y = cc in k))
same_line [] (c ∷ b) x y p q e =
    let is : c ≡ 10 = cc in
    let P : ℕ → Type 0 = λ v. (v == 10) ≡ false in
    let no : true ≡ false = subst P is (neither (c == 10) (has_newline b) q).0 in
    cc
same_line (c ∷ a) [] x y p q e =
    let is : c ≡ 10 = cc in
    let P : ℕ → Type 0 = λ v. (v == 10) ≡ false in
    let no : true ≡ false = subst P is (neither (c == 10) (has_newline a) p).0 in
    cc
same_line (c ∷ a) (d ∷ b) x y p q e =
    let h : c ≡ d = cc in
    let t : a ++ 10 ∷ x ≡ b ++ 10 ∷ y = cc in
    let k = same_line a b x y (neither (c == 10) (has_newline a) p).1 (neither (d == 10) (has_newline b) q).1 t in
    (ap (λ (v : List ℕ). c ∷ v) k.0 ∙ ap (λ (n : ℕ). n ∷ b) h, k.1)

no_names : AreNames []
no_names = record { few = omega arith; each = λ k d lt. absurd (omega (arith, lt)); once = λ i j d le lt. absurd (omega (arith, lt)) }

one_more : (l s t : List ℕ) → (l ++ (s ++ newline)) ++ t ≡ l ++ (s ++ 10 ∷ t)
one_more l s t = append_assoc l (s ++ newline) t ∙ ap (λ (v : List ℕ). l ++ v) (append_assoc s newline t)

pub same_events : (ds es : List Event) (x y : List ℕ) → length ds ≡ length es → MayFollowAll ds → MayFollowAll es → event_lines ds ++ x ≡ event_lines es ++ y → (ds ≡ es) × (x ≡ y)
same_events [] [] x y n a b e = (refl, e)
same_events [] (f ∷ es) x y n a b e = absurd (omega (arith, n))
same_events (d ∷ ds) [] x y n a b e = absurd (omega (arith, n))
same_events (d ∷ ds) (f ∷ es) x y n a b e =
    let s = event_spelled ds d a.0 in
    let t = event_spelled es f b.0 in
    let k = same_events ds es (event_spelling [] d ++ 10 ∷ x) (event_spelling [] f ++ 10 ∷ y) (omega (arith, n)) a.1 b.1
    (sym (one_more (event_lines ds) (event_spelling [] d) x) ∙ e ∙ one_more (event_lines es) (event_spelling [] f) y) in
    let l = same_line (event_spelling [] d) (event_spelling [] f) x y s.0 t.0 k.1 in
    let i : d ≡ f = event_one [] d f no_names s.1 t.1 l.0 in
    (ap (λ (v : List Event). d ∷ v) k.0 ∙ ap (λ (v : Event). v ∷ es) i, l.1)

-- the event of the next line
pub record NextEvent (ds : List Event) (x : List ℕ) : Type 0 where
  pub next : Event
  pub more : List ℕ
  pub may : MayFollowEvent ds next
  pub is : x ≡ event_spelling [] next ++ 10 ∷ more

pub less_or_same : (m n : ℕ) → m < suc n → (m < n) ⊎ (m ≡ n)
less_or_same zero zero lt = inr refl
less_or_same zero (suc n) lt = inl (omega arith)
less_or_same (suc m) zero lt = absurd (omega (arith, lt))
less_or_same (suc m) (suc n) lt = shift (less_or_same m n (omega (arith, lt)))
  where
    shift : (m < n) ⊎ (m ≡ n) → (suc m < suc n) ⊎ (suc m ≡ suc n)
    shift (inl less) = inl (omega (arith, less))
    shift (inr same) = inr (ap suc same)

next_of : (ds es : List Event) (f : Event) (x y : List ℕ) → MayFollowAll ds → MayFollowAll (f ∷ es) → (length ds < length es → NextEvent ds x) → event_lines ds ++ x ≡ event_lines es ++ (event_spelling [] f ++ 10 ∷ y)
    → (length ds < length es) ⊎ (length ds ≡ length es) → NextEvent ds x
next_of ds es f x y a b earlier e (inl less) = earlier less
next_of ds es f x y a b earlier e (inr same) =
    let k = same_events ds es x (event_spelling [] f ++ 10 ∷ y) same a b.1 e in
    let P : List Event → Type 0 = λ v. MayFollowEvent v f in
    record { next = f; more = y; may = subst P (sym k.0) b.0; is = k.1 }

pub next_event : (ds es : List Event) (x y : List ℕ) → length ds < length es → MayFollowAll ds → MayFollowAll es → event_lines ds ++ x ≡ event_lines es ++ y → NextEvent ds x
next_event ds [] x y n a b e = absurd (omega (arith, n))
next_event ds (f ∷ es) x y n a b e =
    let split = e ∙ one_more (event_lines es) (event_spelling [] f) y in
    next_of ds es f x y a b (λ less. next_event ds es x (event_spelling [] f ++ 10 ∷ y) less a b.1 split) split (less_or_same (length ds) (length es) (omega (arith, n)))

pub nothing_more : (xs ys : List ℕ) → [] ≡ xs ++ 10 ∷ ys → ⊥
nothing_more [] ys e = cc
nothing_more (x ∷ xs) ys e = cc

-- ---- what stands behind lines of the session

record NextLine (seen : Seen) (rest : List ℕ) : Type 0 where
  item : Item
  more : List ℕ
  may : MayCome seen item
  whole : IsWhole (item_line seen item)
  is : rest ≡ item_line seen item ++ 10 ∷ more

abbrev GoesOnAt : Seen → List ℕ → Type 0
GoesOnAt seen rest = ((rest ≡ []) × IsTrue (is_playing seen)) ⊎ NextLine seen rest

pub same_header : (g f : Format) → header_line g ≡ header_line f → g ≡ f
same_header format.One format.One e = refl
same_header format.One format.Two e = let k : 49 ≡ 50 = ap (λ (v : List ℕ). get_or v 17 0) e in absurd (omega (arith, k))
same_header format.Two format.One e = let k : 50 ≡ 49 = ap (λ (v : List ℕ). get_or v 17 0) e in absurd (omega (arith, k))
same_header format.Two format.Two e = refl

pub opened : (h l v : List ℕ) → (h ++ newline) ++ (l ++ newline) ++ v ≡ h ++ 10 ∷ (l ++ 10 ∷ v)
opened h l v = grind (arith, common_steps)

grouped : (h l v t : List ℕ) → ((h ++ newline) ++ (l ++ newline) ++ v) ++ t ≡ h ++ 10 ∷ (l ++ 10 ∷ (v ++ t))
grouped h l v t = grind (arith, common_steps)

pub compare : (m n : ℕ) → (m < n) ⊎ ((m ≡ n) ⊎ (n < m))
compare zero zero = inr (inl refl)
compare zero (suc n) = inl (omega arith)
compare (suc m) zero = inr (inr (omega arith))
compare (suc m) (suc n) = shift (compare m n)
  where
    shift : (m < n) ⊎ ((m ≡ n) ⊎ (n < m)) → (suc m < suc n) ⊎ ((suc m ≡ suc n) ⊎ (suc n < suc m))
    shift (inl less) = inl (omega (arith, less))
    shift (inr (inl same)) = inr (inl (ap suc same))
    shift (inr (inr more)) = inr (inr (omega (arith, more)))

after_events : (g : Format) (m : PlainLimits) (ds es : List Event) (rest : List ℕ) → MayFollowAll ds → MayFollowAll es → event_lines ds ++ rest ≡ event_lines es → GoesOnAt (Playing g m ds) rest
after_events g m ds es rest a b e = by (compare (length ds) (length es))
  where
    by : (length ds < length es) ⊎ ((length ds ≡ length es) ⊎ (length es < length ds)) → GoesOnAt (Playing g m ds) rest
    by (inl less) =
        let k = next_event ds es rest [] less a b (e ∙ sym (append-nil (event_lines es))) in
        inr (record { item = EventOf k.next; more = k.more; may = k.may; whole = (event_spelled ds k.next k.may).0; is = k.is })
    by (inr (inl same)) = inl ((same_events ds es rest [] same a b (e ∙ sym (append-nil (event_lines es)))).1, refl)
    by (inr (inr more)) = let k = next_event es ds [] rest more b a (append-nil (event_lines es) ∙ sym e) in absurd (nothing_more (event_spelling [] k.next) k.more k.is)

goes_on : (seen : Seen) (f : Format) (l : PlainLimits) (es : List Event) (rest : List ℕ) → IsSeen seen → IsSeen (Playing f l es) → seen_text seen ++ rest ≡ seen_text (Playing f l es) → GoesOnAt seen rest
goes_on Unread f l es rest i k e =
    inr (record { item = HeaderOf f; more = limits_line f l ++ 10 ∷ event_lines es; may = tt; whole = header_whole f; is = e ∙ opened (header_line f) (limits_line f l) (event_lines es) })
goes_on (Headed g) f l es rest i k e =
    let behind = limits_line f l ++ 10 ∷ event_lines es in
    let first = sym (append_assoc (header_line g) newline rest) ∙ e ∙ opened (header_line f) (limits_line f l) (event_lines es) in
    let h = same_line (header_line g) (header_line f) rest behind (header_whole g) (header_whole f) first in
    let P : Format → Type 0 = λ v. GoesOnAt (Headed v) rest in
    subst P (sym (same_header g f h.0)) (inr (record { item = LimitsOf l; more = event_lines es; may = k.0; whole = limits_whole f l k.0; is = h.1 }))
goes_on (Playing g m ds) f l es rest i k e =
    let first = sym (grouped (header_line g) (limits_line g m) (event_lines ds) rest) ∙ e ∙ opened (header_line f) (limits_line f l) (event_lines es) in
    let h = same_line (header_line g) (header_line f) (limits_line g m ++ 10 ∷ (event_lines ds ++ rest)) (limits_line f l ++ 10 ∷ event_lines es) (header_whole g) (header_whole f) first in
    let n = same_line (limits_line g m) (limits_line f l) (event_lines ds ++ rest) (event_lines es) (limits_whole g m i.0) (limits_whole f l k.0) h.1 in
    after_events g m ds es rest i.1 k.1 n.1

-- ---- so no line is refused

nothing_left : (rest ys : List ℕ) → rest ++ ys ≡ [] → length rest ≡ 0
nothing_left [] ys e = refl
nothing_left (x ∷ rest) ys e = cc

or_true : (b : Bool) → (b || true) ≡ true
or_true true = refl
or_true false = refl

within_reach : (n : ℕ) (line more : List ℕ) → length line < n → has_newline (take n (line ++ 10 ∷ more)) ≡ true
within_reach zero line more lt = absurd (omega (arith, lt))
within_reach (suc n) [] more lt = refl
within_reach (suc n) (c ∷ line) more lt = ap (λ b. (c == 10) || b) (within_reach n line more (omega (arith, lt))) ∙ or_true (c == 10)

has_one : (line more : List ℕ) → has_newline (line ++ 10 ∷ more) ≡ true
has_one [] more = refl
has_one (c ∷ line) more = ap (λ b. (c == 10) || b) (has_one line more) ∙ or_true (c == 10)

unlike : (b : Bool) → b ≡ true → b ≡ false → ⊥
unlike b is isnt = let k : true ≡ false = sym is ∙ isnt in cc

unrefused : (text read ys rest : List ℕ) (seen : Seen) → IsAllowed text → IsSeen seen → text ≡ read ++ ys → read ≡ seen_text seen ++ rest → IsRefused (SpellsNothing seen) (is_playing seen) (seen_text seen) rest (Some ys) → ⊥
unrefused text read ys rest seen k may split reads refused =
    by refused (goes_on seen k.format k.limits k.events (rest ++ ys) may k.may (sym whole ∙ k.is))
  where
    whole : text ≡ seen_text seen ++ (rest ++ ys)
    whole = split ∙ ap (λ (v : List ℕ). v ++ ys) reads ∙ append_assoc (seen_text seen) rest ys

    by : IsRefused (SpellsNothing seen) (is_playing seen) (seen_text seen) rest (Some ys) → GoesOnAt seen (rest ++ ys) → ⊥
    by (MayNotCome n has none) (inl over) = let none_left = nothing_left rest ys over.0 in let some = has.begins.within in omega (arith, none_left, some)
    by (MayNotCome n has none) (inr line) =
        let same = same_line (take n rest) (item_line seen line.item) (has.begins.rest ++ ys) line.more has.begins.whole line.whole
        (sym (append_assoc (take n rest) (10 ∷ has.begins.rest) ys) ∙ ap (λ (v : List ℕ). v ++ ys) (sym has.begins.is) ∙ line.is) in
        none line.item (record { may = line.may; is = sym same.0 })
    by (Long broken short) (inl over) = let none_left = nothing_left rest ys over.0 in let some = broken.within in omega (arith, none_left, some)
    by (Long broken short) (inr line) =
        let n = longest_line + 1 in
        let most = k.short (seen_text seen) (item_line seen line.item) line.more (whole ∙ ap (λ (v : List ℕ). seen_text seen ++ v) line.is) line.whole in
        let found = sym (ap (λ (v : List ℕ). has_newline v) (take-append-le n rest ys broken.within)) ∙ ap (λ (v : List ℕ). has_newline (take n v)) line.is in
        unlike _ (within_reach n (item_line seen line.item) line.more (omega (arith, most))) (sym found ∙ broken.whole)
    by (Cut no_line fits unended end) (inl over) = unended (sym (append-nil rest) ∙ ap (λ (v : List ℕ). rest ++ v) (sym end) ∙ over.0, over.1)
    by (Cut no_line fits unended end) (inr line) =
        let P : List ℕ → Type 0 = λ v. has_newline v ≡ false in
        unlike _ (has_one (item_line seen line.item) line.more) (subst P (sym (append-nil rest) ∙ ap (λ (v : List ℕ). rest ++ v) (sym end) ∙ line.is) no_line)

completed : (how : Status) (text : List ℕ) (left_new out_old out_new : Option (List ℕ)) → (how ≡ status.Usage → ⊥) → Replays (Some text) left_new out_old out_new how → IsAllowed text → IsUnrefused how
completed status.Done text left_new out_old out_new some r k = tt
completed status.Memory text left_new out_old out_new some r k = tt
completed status.ReadFault text left_new out_old out_new some r k = tt
completed status.WriteFault text left_new out_old out_new some r k = tt
completed status.Usage text left_new out_old out_new some r k = some refl
completed status.Config text left_new out_old out_new some r k = r.tells.ends
completed status.Session text None out_old out_new some r k = r.consumes
completed status.Session text (Some ys) out_old out_new some r k = unrefused text r.read ys r.tells.rest r.tells.seen k r.tells.tape.may r.consumes r.tells.reads r.tells.ends
completed status.TooLong text None out_old out_new some r k = r.consumes
completed status.TooLong text (Some ys) out_old out_new some r k =
    let most = k.within in
    let more = r.tells.ends.more in
    let a = ap length r.consumes ∙ length-append r.read ys in
    let b = ap length r.tells.reads ∙ length-append (seen_text r.tells.seen) r.tells.rest in
    omega (arith, most, more, a, b)

pub completes : (left_old left_new out_old out_new : Option (List ℕ)) (how : Status) → (how ≡ status.Usage → ⊥) → Replays left_old left_new out_old out_new how → Completes left_old how
completes None left_new out_old out_new how some r = tt
completes (Some text) left_new out_old out_new how some r = completed how text left_new out_old out_new some r

pub completes_memory : (left : Option (List ℕ)) → Completes left status.Memory
completes_memory None = tt
completes_memory (Some text) = λ k. tt
