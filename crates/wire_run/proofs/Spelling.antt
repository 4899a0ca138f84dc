-- A spelled line has no newline, so a text falls into lines in one way.
use Rattle.flow_notes.proofs.Lines.{line_of_cons}
use Rattle.flow_notes.proofs.NoteLines.{event_one}
use Rattle.flow_notes.proofs.Numbers.{own}
use Rattle.flow_notes.proofs.Octets.{and_left, and_right, hex_all}
use Rattle.flow_notes.specs.Event.{event_spelling, event_words}
use Rattle.flow_notes.specs.Fields.{Fits32, FitsJob}
use Rattle.flow_notes.specs.Job.{job_words}
use Rattle.flow_notes.specs.Line.{line_of, spaced}
use Rattle.flow_notes.specs.Name.{AreNames, IsName, cluster_name, is_name_octet}
use Rattle.flow_notes.specs.declared.events.Event.{Event}
use Rattle.flow_notes.specs.declared.events.Job.{Job}
use Rattle.hex.specs.Hex.{IsBytes, encode_lower}
use Rattle.session_lines.specs.WireOrder.{MayFollowWire}
use Rattle.session_run.specs.Newlines.{has_newline}
use Rattle.std.proofs.Common.{ap, arith, refl, subst, sym, true≢false, ◌∙◌}
use Rattle.std.proofs.lemmas.Bool.{false_from_ne_true}
use Rattle.std.proofs.lemmas.Fmt.{digits_decimal}
use Rattle.std.proofs.lemmas.List.{get_or_default}
use Rattle.std.proofs.lemmas.List.Sums.{list_all-from_AllPass}
use Rattle.std.proofs.lemmas.Str.Parse.{not_in_digits}
use Rattle.std.specs.Fmt.{decimal}
use Rattle.std.specs.List.{AllByRecursion, list_all}
use Rattle.std.specs.Prelude.{Bool, IsTrue, List, [], false, map, not, true, ℕ, ◌++◌, ◌<◌, ◌==◌, ◌^◌, ◌||◌, ◌∷◌, ◌≡◌, ◌≢◌}
use Rattle.tape_summary.proofs.Spots.{number_is}
use Rattle.flow_notes.specs.declared.events.Event.TheVariants as event
use Rattle.flow_notes.specs.declared.events.Job.TheVariants as job

neither : (b c : Bool) → (b || c) ≡ false → (b ≡ false) × (c ≡ false)
neither true c e = cc
neither false c e = (refl, e)

opposite : (b : Bool) → not b ≡ true → b ≡ false
opposite true e = cc
opposite false e = refl

abbrev pub IsWhole : List ℕ → Type 0
IsWhole octets = has_newline octets ≡ false

both_whole : (xs ys : List ℕ) → IsWhole xs → IsWhole ys → IsWhole (xs ++ ys)
both_whole [] ys a b = b
both_whole (x ∷ xs) ys a b = let k = neither (x == 10) (has_newline xs) a in rw (k.0) (both_whole xs ys k.1 b)

none_whole : (xs : List ℕ) → list_all (λ c. not (c == 10)) xs ≡ true → IsWhole xs
none_whole [] h = refl
none_whole (x ∷ xs) h = rw (opposite (x == 10) (and_left _ _ h)) (none_whole xs (and_right _ _ h))

not_ten : (c : ℕ) → c ≢ 10 → not (c == 10) ≡ true
not_ten c other = ap not (false_from_ne_true (c == 10) (λ is. other (number_is c 10 is)))

-- ---- words

decimal_whole : (n : ℕ) → n < 2 ^ 64 → IsWhole (decimal n)
decimal_whole n fits = none_whole (decimal n) (list_all-from_AllPass (λ c. not (c == 10)) (decimal n) (λ k d lt.
    not_ten _ (λ is. not_in_digits own (decimal n) 10 (digits_decimal own n fits) (λ within. omega arith) k lt (get_or_default (decimal n) k 0 d lt ∙ is))))

hex_whole : (octets : List ℕ) → IsBytes octets → IsWhole (encode_lower octets)
hex_whole octets bytes = none_whole (encode_lower octets) (hex_all (λ c. not (c == 10)) refl octets bytes)

weaker : (p q : ℕ → Bool) → ((c : ℕ) → p c ≡ true → q c ≡ true) → (xs : List ℕ) → list_all p xs ≡ true → list_all q xs ≡ true
weaker p q follows [] h = refl
weaker p q follows (x ∷ xs) h = rw (follows x (and_left _ _ h)) (weaker p q follows xs (and_right _ _ h))

name_octet : (c : ℕ) → is_name_octet c ≡ true → not (c == 10) ≡ true
name_octet c is = not_ten c (λ ten. true≢false (sym is ∙ ap is_name_octet ten))

name_whole : (name : List ℕ) → IsName name → IsWhole name
name_whole name is = none_whole name (weaker is_name_octet (λ c. not (c == 10)) name_octet name (and_right _ _ is))

numbers_whole : (ns : List ℕ) → AllByRecursion Fits32 ns → AllByRecursion IsWhole (map decimal ns)
numbers_whole [] fit = tt
numbers_whole (n ∷ ns) fit = (decimal_whole n (omega (arith, fit.0)), numbers_whole ns fit.1)

job_whole : (j : Job) → FitsJob j → AllByRecursion IsWhole (job_words j)
job_whole job.Drain fits = (refl, tt)
job_whole (job.Cancel x) fits = (refl, (decimal_whole x fits, tt))
job_whole job.Look fits = (refl, tt)

-- ---- lines

spaced_whole : (words : List (List ℕ)) → AllByRecursion IsWhole words → IsWhole (spaced words)
spaced_whole [] all = refl
spaced_whole (w ∷ ws) all = both_whole (32 ∷ w) (spaced ws) all.0 (spaced_whole ws all.1)

line_whole : (words : List (List ℕ)) → AllByRecursion IsWhole words → IsWhole (line_of words)
line_whole [] all = refl
line_whole (w ∷ ws) all = ap has_newline (line_of_cons w ws) ∙ both_whole w (spaced ws) all.0 (spaced_whole ws all.1)

words_whole : (names : List (List ℕ)) (resources : ℕ) (es : List Event) (e : Event) → AreNames names → MayFollowWire names resources es e → AllByRecursion IsWhole (event_words names e)
words_whole names resources es (event.Accept c) are m = (refl, (decimal_whole c (let k = m.1 in omega (arith, k)), tt))
words_whole names resources es (event.Join c k) are m = (refl, (decimal_whole c (let f = m.1.0 in omega (arith, f)), (name_whole (cluster_name names k) (are.each k [] m.0), tt)))
words_whole names resources es (event.Read c o) are m = (refl, (decimal_whole c (let k = m.1.0 in omega (arith, k)), (hex_whole o m.1.1, tt)))
words_whole names resources es (event.Gone c) are m = (refl, (decimal_whole c (let k = m.1 in omega (arith, k)), tt))
words_whole names resources es (event.Room c n) are m = (refl, (decimal_whole c (let k = m.1.0 in omega (arith, k)), (decimal_whole n (let k = m.1.1 in omega (arith, k)), tt)))
words_whole names resources es (event.Tick t) are m = (refl, (decimal_whole t m.1, tt))
words_whole names resources es (event.Post p n j) are m = (refl, (decimal_whole p (let k = m.1.0 in omega (arith, k)), (decimal_whole n m.1.1, job_whole j m.1.2)))
words_whole names resources es (event.Obey v ps) are m = (refl, (decimal_whole v m.1.0, numbers_whole ps m.1.1))
words_whole names resources es (event.Plain p) are m = absurd (false_is m.2)
  where
    false_is : IsTrue false → ⊥
    false_is e = cc

pub event_whole : (names : List (List ℕ)) (resources : ℕ) (es : List Event) (e : Event) → AreNames names → MayFollowWire names resources es e → IsWhole (event_spelling names e)
event_whole names resources es e are m = line_whole (event_words names e) (words_whole names resources es e are m)

-- ---- one way

pub same_line : (a b x y : List ℕ) → IsWhole a → IsWhole b → a ++ 10 ∷ x ≡ b ++ 10 ∷ y → (a ≡ b) × (x ≡ y)
same_line [] [] x y p q e = (refl, (let k : x ≡ y = cc in k))
same_line [] (c ∷ b) x y p q e =
    let is : c ≡ 10 = cc in
    let P : ℕ → Type 0 = λ v. (v == 10) ≡ false in
    let no : true ≡ false = subst P is (neither (c == 10) (has_newline b) q).0 in
    cc
same_line (c ∷ a) [] x y p q e =
    let is : c ≡ 10 = cc in
    let P : ℕ → Type 0 = λ v. (v == 10) ≡ false in
    let no : true ≡ false = subst P is (neither (c == 10) (has_newline a) p).0 in
    cc
same_line (c ∷ a) (d ∷ b) x y p q e =
    let h : c ≡ d = cc in
    let t : a ++ 10 ∷ x ≡ b ++ 10 ∷ y = cc in
    let k = same_line a b x y (neither (c == 10) (has_newline a) p).1 (neither (d == 10) (has_newline b) q).1 t in
    (ap (λ (v : List ℕ). c ∷ v) k.0 ∙ ap (λ (n : ℕ). n ∷ b) h, k.1)

pub same_event : (names : List (List ℕ)) (resources : ℕ) (ds es : List Event) (d e : Event) → AreNames names → MayFollowWire names resources ds d → MayFollowWire names resources es e → event_spelling names d ≡ event_spelling names e → d ≡ e
same_event names resources ds es d e are a b is = event_one names d e are (a.0, a.1) (b.0, b.1) is
