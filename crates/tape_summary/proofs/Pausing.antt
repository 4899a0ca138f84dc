-- A log of pauses, note by note.
use Rattle.flow_rules.specs.declared.ids.BufferId.{BufferId}
use Rattle.flow_rules.specs.declared.ids.FlowId.{FlowId}
use Rattle.flow_notes.specs.declared.events.Event.{Event}
use Rattle.flow_notes.specs.Passages.{notes_of_passage}
use Rattle.flow_notes.specs.declared.notes.Note.{Note}
use Rattle.flow_notes.specs.declared.passages.Passage.{Passage}
use Rattle.io_ports.specs.declared.octets.NoMemory.{NoMemory}
use Rattle.tape_summary.specs.Pausing.{LogIs, Logs, ended, ended_at, lone, pauses_of, places, told_pause}
use Rattle.tape_summary.specs.Placing.{ArePlaced, ChangedAt, Changes, kept_of}
use Rattle.tape_summary.specs.Tracking.{Lone, PausesTrack, ResumesTrack}
use Rattle.tape_summary.proofs.Spots.{equal_is, number_is, same_spot, spot_is, spots_equal}
use Rattle.tape_summary.specs.declared.pauses.Pause.{Pause}
use Rattle.tape_summary.specs.declared.pauses.PauseLog.{PauseLog}
use Rattle.tape_summary.specs.declared.pauses.Spot.{Spot}
use Rattle.tape_summary.specs.declared.tracks.Tracks.{Tracks}
use Rattle.std.proofs.Common.{ap, append_assoc, arith, length-append, refl, subst, sym, ◌∙◌}
use Rattle.std.proofs.lemmas.Bool.Decides.{nat_tests}
use Rattle.std.proofs.lemmas.List.{append-nil, length-map, map-append}
use Rattle.std.specs.List.{flat_map}
use Rattle.std.specs.Prelude.{Bool, Err, List, None, Ok, OnOk, Option, Result, Some, [], drop, false, if◌then◌else◌, length, map, slice_get, slice_set, suc, true, zero, ℕ, ◌&&◌, ◌++◌, ◌+◌, ◌<◌, ◌==◌, ◌∷◌, ◌≡◌, ◌≤◌}
use Rattle.tape_laws.specs.Dispatches.{turns}
use Rattle.tape_laws.specs.Flows.{same_buffer, same_flow}
use Rattle.tape_laws.specs.History.{History, Marked, NoMark, Noted, onto}
use Rattle.tape_laws.specs.Summary.{Paused, pause_turns, paused_in, paused_lines, resume_turns}
use Rattle.flow_notes.specs.declared.notes.Note.TheVariants as note

-- ---- lists

-- an element behind a list is the one with the next number
last_at : (xs : List ℕ) (t n : ℕ) → slice_get (xs ++ t ∷ []) n ≡ (if length xs == n then Some t else slice_get xs n)
last_at [] t zero = refl
last_at [] t (suc n) = sym (ap (λ b. if b then Some t else None) (zero_apart n))
  where
    zero_apart : (n : ℕ) → (0 == suc n) ≡ false
    zero_apart n = grind (arith, nat_tests)
last_at (x ∷ xs) t zero = sym (ap (λ b. if b then Some t else Some x) (apart_zero (length xs)))
  where
    apart_zero : (n : ℕ) → (suc n == 0) ≡ false
    apart_zero n = grind (arith, nat_tests)
last_at (x ∷ xs) t (suc n) = last_at xs t n ∙ ap (λ b. if b then Some t else slice_get xs n) (next_equal (length xs) n)
  where
    next_equal : (m n : ℕ) → (m == n) ≡ (suc m == suc n)
    next_equal m n = grind (arith, nat_tests)

none_at : {A : Type 0} (xs : List A) (n : ℕ) → length xs ≤ n → slice_get xs n ≡ None
none_at [] zero e = refl
none_at [] (suc n) e = refl
none_at (x ∷ xs) zero e = absurd (omega (arith, e))
none_at (x ∷ xs) (suc n) e = none_at xs n (omega (arith, e))

some_below : {A : Type 0} (xs : List A) (n : ℕ) (x : A) → slice_get xs n ≡ Some x → n < length xs
some_below [] zero x e = cc
some_below [] (suc n) x e = cc
some_below (y ∷ ys) zero x e = omega arith
some_below (y ∷ ys) (suc n) x e = let k = some_below ys n x e in omega (arith, k)

-- the first of what is behind n elements
first_behind : {A : Type 0} (xs : List A) (n : ℕ) → slice_get xs n ≡ slice_get (drop n xs) 0
first_behind [] zero = refl
first_behind [] (suc n) = refl
first_behind (x ∷ xs) zero = refl
first_behind (x ∷ xs) (suc n) = first_behind xs n

all_behind : {A : Type 0} (xs : List A) (n : ℕ) → drop n xs ≡ [] → length xs ≤ n
all_behind [] n e = omega arith
all_behind (x ∷ xs) zero e = cc
all_behind (x ∷ xs) (suc n) e = let k = all_behind xs n e in omega (arith, k)

none_behind : {A : Type 0} (xs : List A) (n : ℕ) → length xs ≤ n → drop n xs ≡ []
none_behind [] zero e = refl
none_behind [] (suc n) e = refl
none_behind (x ∷ xs) zero e = absurd (omega (arith, e))
none_behind (x ∷ xs) (suc n) e = none_behind xs n (omega (arith, e))

drop_front : {A : Type 0} (xs ys : List A) (n : ℕ) → n ≤ length xs → drop n (xs ++ ys) ≡ drop n xs ++ ys
drop_front [] ys zero e = refl
drop_front [] ys (suc n) e = absurd (omega (arith, e))
drop_front (x ∷ xs) ys zero e = refl
drop_front (x ∷ xs) ys (suc n) e = drop_front xs ys n (omega (arith, e))

drop_next : {A : Type 0} (xs rest : List A) (n : ℕ) (x : A) → drop n xs ≡ x ∷ rest → drop (suc n) xs ≡ rest
drop_next [] rest zero x e = cc
drop_next [] rest (suc n) x e = cc
drop_next (y ∷ ys) rest zero x e = cc
drop_next (y ∷ ys) rest (suc n) x e = drop_next ys rest n x e

-- ---- the pauses of a history, each with the dispatch of its resume

abbrev until_set : ℕ → ℕ → List Paused → List Paused
until_set i t [] = []
until_set zero t (x ∷ xs) = record { flow = x.flow; buffer = x.buffer; at = x.at; until = Some t } ∷ xs
until_set (suc i) t (x ∷ xs) = x ∷ until_set i t xs

abbrev until_at : Option ℕ → ℕ → List Paused → List Paused
until_at None t xs = xs
until_at (Some i) t xs = until_set i t xs

set_front : (i t : ℕ) (xs ys : List Paused) → i < length xs → until_set i t (xs ++ ys) ≡ until_set i t xs ++ ys
set_front i t [] ys e = absurd (omega (arith, e))
set_front zero t (x ∷ xs) ys e = refl
set_front (suc i) t (x ∷ xs) ys e = ap (λ (v : List Paused). x ∷ v) (set_front i t xs ys (omega (arith, e)))

at_front : (o : Option ℕ) (t : ℕ) (xs ys : List Paused) → ((i : ℕ) → o ≡ Some i → i < length xs) → until_at o t (xs ++ ys) ≡ until_at o t xs ++ ys
at_front None t xs ys b = refl
at_front (Some i) t xs ys b = set_front i t xs ys (b i refl)

set_last : (t : ℕ) (xs : List Paused) (x : Paused) → until_set (length xs) t (xs ++ x ∷ []) ≡ xs ++ record { flow = x.flow; buffer = x.buffer; at = x.at; until = Some t } ∷ []
set_last t [] x = refl
set_last t (y ∷ ys) x = ap (λ (v : List Paused). y ∷ v) (set_last t ys x)

longer : (b : Bool) (xs : List ℕ) (t : ℕ) → length (xs ++ (if b then t ∷ [] else [])) ≡ length xs + (if b then 1 else 0)
longer true xs t = length-append xs (t ∷ [])
longer false xs t = ap length (append-nil xs) ∙ omega arith

places_long : (s : Spot) (h : History NoMark) → length (places s h) ≡ length (pause_turns s.flow s.buffer h)
places_long s [] = refl
places_long s (Noted (note.Pause f b) ∷ past) =
    longer (same_flow f s.flow && same_buffer b s.buffer) (places s past) (pauses_of past)
    ∙ ap (λ n. n + (if same_flow f s.flow && same_buffer b s.buffer then 1 else 0)) (places_long s past)
    ∙ sym (longer (same_flow f s.flow && same_buffer b s.buffer) (pause_turns s.flow s.buffer past) (turns past))
places_long s (Marked m ∷ past) = places_long s past
places_long s (Noted (note.Turn k e) ∷ past) = places_long s past
places_long s (Noted (note.Arrive f o) ∷ past) = places_long s past
places_long s (Noted (note.Move f p n) ∷ past) = places_long s past
places_long s (Noted (note.Frame c f n last) ∷ past) = places_long s past
places_long s (Noted (note.Out c n) ∷ past) = places_long s past
places_long s (Noted (note.Resume f b) ∷ past) = places_long s past
places_long s (Noted (note.Credit c x n) ∷ past) = places_long s past
places_long s (Noted (note.Head c x o) ∷ past) = places_long s past
places_long s (Noted (note.Answer c o) ∷ past) = places_long s past
places_long s (Noted (note.Waste c x n) ∷ past) = places_long s past
places_long s (Noted (note.Start x c y d) ∷ past) = places_long s past
places_long s (Noted (note.Doom x why) ∷ past) = places_long s past
places_long s (Noted (note.Gone x) ∷ past) = places_long s past
places_long s (Noted (note.Close c code why) ∷ past) = places_long s past
places_long s (Noted (note.Fire kind id) ∷ past) = places_long s past

pub paused_long : (w h : History NoMark) → length (paused_in w h) ≡ pauses_of h
paused_long w [] = refl
paused_long w (Noted (note.Pause f b) ∷ past) = length-append (paused_in w past) _ ∙ ap (λ n. n + 1) (paused_long w past)
paused_long w (Marked m ∷ past) = paused_long w past
paused_long w (Noted (note.Turn k e) ∷ past) = paused_long w past
paused_long w (Noted (note.Arrive f o) ∷ past) = paused_long w past
paused_long w (Noted (note.Move f p n) ∷ past) = paused_long w past
paused_long w (Noted (note.Frame c f n last) ∷ past) = paused_long w past
paused_long w (Noted (note.Out c n) ∷ past) = paused_long w past
paused_long w (Noted (note.Resume f b) ∷ past) = paused_long w past
paused_long w (Noted (note.Credit c s n) ∷ past) = paused_long w past
paused_long w (Noted (note.Head c s o) ∷ past) = paused_long w past
paused_long w (Noted (note.Answer c o) ∷ past) = paused_long w past
paused_long w (Noted (note.Waste c s n) ∷ past) = paused_long w past
paused_long w (Noted (note.Start x c s d) ∷ past) = paused_long w past
paused_long w (Noted (note.Doom x why) ∷ past) = paused_long w past
paused_long w (Noted (note.Gone x) ∷ past) = paused_long w past
paused_long w (Noted (note.Close c code why) ∷ past) = paused_long w past
paused_long w (Noted (note.Fire kind id) ∷ past) = paused_long w past

places_below : (s : Spot) (h : History NoMark) (r i : ℕ) → slice_get (places s h) r ≡ Some i → i < pauses_of h
places_below s [] zero i e = cc
places_below s [] (suc r) i e = cc
places_below s (Noted (note.Pause f b) ∷ past) r i e = by (λ x. places_below s past r i x) (same_flow f s.flow && same_buffer b s.buffer) e
  where
    at : (slice_get (places s past) r ≡ Some i → i < pauses_of past) → (c : Bool) → (if c then Some (pauses_of past) else slice_get (places s past) r) ≡ Some i → i < pauses_of past + 1
    at below true x = let k : pauses_of past ≡ i = cc in omega (arith, k)
    at below false x = let k = below x in omega (arith, k)

    by : (slice_get (places s past) r ≡ Some i → i < pauses_of past) → (c : Bool) → slice_get (places s past ++ (if c then pauses_of past ∷ [] else [])) r ≡ Some i → i < pauses_of past + 1
    by below true x = at below (length (places s past) == r) (sym (last_at (places s past) (pauses_of past) r) ∙ x)
    by below false x = let k = below (ap (λ (v : List ℕ). slice_get v r) (sym (append-nil (places s past))) ∙ x) in omega (arith, k)
places_below s (Marked m ∷ past) r i e = places_below s past r i e
places_below s (Noted (note.Turn k x) ∷ past) r i e = places_below s past r i e
places_below s (Noted (note.Arrive f o) ∷ past) r i e = places_below s past r i e
places_below s (Noted (note.Move f p n) ∷ past) r i e = places_below s past r i e
places_below s (Noted (note.Frame c f n last) ∷ past) r i e = places_below s past r i e
places_below s (Noted (note.Out c n) ∷ past) r i e = places_below s past r i e
places_below s (Noted (note.Resume f b) ∷ past) r i e = places_below s past r i e
places_below s (Noted (note.Credit c x n) ∷ past) r i e = places_below s past r i e
places_below s (Noted (note.Head c x o) ∷ past) r i e = places_below s past r i e
places_below s (Noted (note.Answer c o) ∷ past) r i e = places_below s past r i e
places_below s (Noted (note.Waste c x n) ∷ past) r i e = places_below s past r i e
places_below s (Noted (note.Start x c y d) ∷ past) r i e = places_below s past r i e
places_below s (Noted (note.Doom x why) ∷ past) r i e = places_below s past r i e
places_below s (Noted (note.Gone x) ∷ past) r i e = places_below s past r i e
places_below s (Noted (note.Close c code why) ∷ past) r i e = places_below s past r i e
places_below s (Noted (note.Fire kind id) ∷ past) r i e = places_below s past r i e

-- they are the same in every history with the same resumes
whole_same : (w now : History NoMark) → ((f : FlowId) (b : BufferId) → resume_turns f b now ≡ resume_turns f b w) → (h : History NoMark) → paused_in now h ≡ paused_in w h
whole_same w now same [] = refl
whole_same w now same (Noted (note.Pause f b) ∷ past) =
    ap (λ (v : List Paused). v ++ record { flow = f; buffer = b; at = turns past; until = slice_get (resume_turns f b now) (length (pause_turns f b past)) } ∷ []) (whole_same w now same past)
    ∙ ap (λ (v : List ℕ). paused_in w past ++ record { flow = f; buffer = b; at = turns past; until = slice_get v (length (pause_turns f b past)) } ∷ []) (same f b)
whole_same w now same (Marked m ∷ past) = whole_same w now same past
whole_same w now same (Noted (note.Turn k e) ∷ past) = whole_same w now same past
whole_same w now same (Noted (note.Arrive f o) ∷ past) = whole_same w now same past
whole_same w now same (Noted (note.Move f p n) ∷ past) = whole_same w now same past
whole_same w now same (Noted (note.Frame c f n last) ∷ past) = whole_same w now same past
whole_same w now same (Noted (note.Out c n) ∷ past) = whole_same w now same past
whole_same w now same (Noted (note.Resume f b) ∷ past) = whole_same w now same past
whole_same w now same (Noted (note.Credit c s n) ∷ past) = whole_same w now same past
whole_same w now same (Noted (note.Head c s o) ∷ past) = whole_same w now same past
whole_same w now same (Noted (note.Answer c o) ∷ past) = whole_same w now same past
whole_same w now same (Noted (note.Waste c s n) ∷ past) = whole_same w now same past
whole_same w now same (Noted (note.Start x c s d) ∷ past) = whole_same w now same past
whole_same w now same (Noted (note.Doom x why) ∷ past) = whole_same w now same past
whole_same w now same (Noted (note.Gone x) ∷ past) = whole_same w now same past
whole_same w now same (Noted (note.Close c code why) ∷ past) = whole_same w now same past
whole_same w now same (Noted (note.Fire kind id) ∷ past) = whole_same w now same past

-- ---- notes

pub logs_none : (log : PauseLog) → Logs log [] log
logs_none log = record { goes = λ h a. a }

pub onto_more : (ns ms : List Note) (h : History NoMark) → onto (ns ++ ms) h ≡ onto ms (onto ns h)
onto_more [] ms h = refl
onto_more (n ∷ ns) ms h = onto_more ns ms (Noted n ∷ h)

pub logs_more : (a b c : PauseLog) (ns ms : List Note) → Logs a ns b → Logs b ms c → Logs a (ns ++ ms) c
logs_more a b c ns ms p q = record {
  goes = λ h l.
      let P : History NoMark → Type 0 = λ v. LogIs c v in
      subst P (sym (onto_more ns ms h)) (q.goes (onto ns h) (p.goes h l));
}

-- ---- a resume ends the pause that has its number

turned : (k q : Spot) → same_spot k q ≡ same_spot q k
turned k q = turn (same_spot k q) (same_spot q k) (λ e. back k q e) (λ e. back q k e)
  where
    back : (k q : Spot) → same_spot k q ≡ true → same_spot q k ≡ true
    back k q e = ap (λ v. same_spot q v) (spot_is k q e) ∙ (ap (λ v. same_spot v q) (sym (spot_is k q e)) ∙ e)

    turn : (a b : Bool) → (a ≡ true → b ≡ true) → (b ≡ true → a ≡ true) → a ≡ b
    turn true b x y = sym (x refl)
    turn false true x y = y refl
    turn false false x y = refl

apart_is : (a b : ℕ) → (a == b) ≡ false → (b == a) ≡ false
apart_is a b e = grind (arith, nat_tests)

-- one pause more: it is the one that the resume ends, or stands behind it
one_joined : (R ps : List ℕ) (t p n : ℕ) (xs now : List Paused) (entry : Option ℕ → Paused)
    → ((o : Option ℕ) → record { flow = (entry o).flow; buffer = (entry o).buffer; at = (entry o).at; until = Some t } ≡ entry (Some t))
    → length ps ≡ p → length xs ≡ n → ((i : ℕ) → slice_get ps (length R) ≡ Some i → i < n)
    → now ≡ until_at (slice_get ps (length R)) t xs
    → now ++ entry (slice_get (R ++ t ∷ []) p) ∷ [] ≡ until_at (slice_get (ps ++ n ∷ []) (length R)) t (xs ++ entry (slice_get R p) ∷ [])
one_joined R ps t p n xs now entry same lp lx below ih = by (length R == p) refl
  where
    by : (c : Bool) → (length R == p) ≡ c → now ++ entry (slice_get (R ++ t ∷ []) p) ∷ [] ≡ until_at (slice_get (ps ++ n ∷ []) (length R)) t (xs ++ entry (slice_get R p) ∷ [])
    by true c =
        let e : length R ≡ p = number_is (length R) p c in
        let none : slice_get ps (length R) ≡ None = none_at ps (length R) (omega (arith, e, lp)) in
        let here : slice_get (ps ++ n ∷ []) (length R) ≡ Some n = last_at ps n (length R) ∙ ap (λ v. if v then Some n else slice_get ps (length R)) (equal_is (length ps) (length R) (lp ∙ sym e)) in
        ap (λ (o : Option ℕ). now ++ entry o ∷ []) (last_at R t p ∙ ap (λ v. if v then Some t else slice_get R p) c)
        ∙ ap (λ (v : List Paused). v ++ entry (Some t) ∷ []) (ih ∙ ap (λ o. until_at o t xs) none)
        ∙ ap (λ (v : Paused). xs ++ v ∷ []) (sym (same (slice_get R p)))
        ∙ sym (set_last t xs (entry (slice_get R p)))
        ∙ ap (λ m. until_set m t (xs ++ entry (slice_get R p) ∷ [])) lx
        ∙ ap (λ o. until_at o t (xs ++ entry (slice_get R p) ∷ [])) (sym here)
    by false c =
        let there : slice_get (ps ++ n ∷ []) (length R) ≡ slice_get ps (length R) = last_at ps n (length R) ∙ ap (λ v. if v then Some n else slice_get ps (length R)) (ap (λ m. m == length R) lp ∙ apart_is (length R) p c) in
        ap (λ (o : Option ℕ). now ++ entry o ∷ []) (last_at R t p ∙ ap (λ v. if v then Some t else slice_get R p) c)
        ∙ ap (λ (v : List Paused). v ++ entry (slice_get R p) ∷ []) ih
        ∙ sym (at_front (slice_get ps (length R)) t xs (entry (slice_get R p) ∷ []) (λ i is. let k = below i is in omega (arith, k, lx)))
        ∙ ap (λ o. until_at o t (xs ++ entry (slice_get R p) ∷ [])) (sym there)

-- the pauses of a history w, with a resume of the spot behind it
paused_resumed : (k : Spot) (w h : History NoMark)
    → paused_in (Noted (note.Resume k.flow k.buffer) ∷ w) h ≡ until_at (slice_get (places k h) (length (resume_turns k.flow k.buffer w))) (turns w) (paused_in w h)
paused_resumed k w [] = none (length (resume_turns k.flow k.buffer w))
  where
    none : (r : ℕ) → [] ≡ until_at (slice_get [] r) (turns w) []
    none zero = refl
    none (suc r) = refl
paused_resumed k w (Noted (note.Pause f b) ∷ past) = by (paused_resumed k w past) (same_spot (record { flow = f; buffer = b }) k) refl
  where
    q : Spot
    q = record { flow = f; buffer = b }

    entry : Option ℕ → Paused
    entry o = record { flow = f; buffer = b; at = turns past; until = o }

    R : List ℕ
    R = resume_turns k.flow k.buffer w

    by : paused_in (Noted (note.Resume k.flow k.buffer) ∷ w) past ≡ until_at (slice_get (places k past) (length R)) (turns w) (paused_in w past) → (c : Bool) → same_spot q k ≡ c
        → paused_in (Noted (note.Resume k.flow k.buffer) ∷ w) past ++ entry (slice_get (resume_turns f b (Noted (note.Resume k.flow k.buffer) ∷ w)) (length (pause_turns f b past))) ∷ []
        ≡ until_at (slice_get (places k past ++ (if same_spot q k then pauses_of past ∷ [] else [])) (length R)) (turns w) (paused_in w past ++ entry (slice_get (resume_turns f b w) (length (pause_turns f b past))) ∷ [])
    by before true is =
        let s : q ≡ k = spot_is q k is in
        let old : resume_turns f b w ≡ R = ap (λ (v : Spot). resume_turns v.flow v.buffer w) s in
        let new : resume_turns f b (Noted (note.Resume k.flow k.buffer) ∷ w) ≡ R ++ turns w ∷ [] =
        ap (λ c. resume_turns f b w ++ (if c then turns w ∷ [] else [])) (turned k q ∙ is) ∙ ap (λ (v : List ℕ). v ++ turns w ∷ []) old in
        ap (λ (v : List ℕ). paused_in (Noted (note.Resume k.flow k.buffer) ∷ w) past ++ entry (slice_get v (length (pause_turns f b past))) ∷ []) new
        ∙ one_joined R (places k past) (turns w) (length (pause_turns f b past)) (pauses_of past) (paused_in w past) (paused_in (Noted (note.Resume k.flow k.buffer) ∷ w) past) entry (λ o. refl)
        (places_long k past ∙ ap (λ (v : Spot). length (pause_turns v.flow v.buffer past)) (sym s)) (paused_long w past) (λ i e. places_below k past (length R) i e) before
        ∙ ap (λ (v : List ℕ). until_at (slice_get (places k past ++ pauses_of past ∷ []) (length R)) (turns w) (paused_in w past ++ entry (slice_get v (length (pause_turns f b past))) ∷ [])) (sym old)
        ∙ ap (λ c. until_at (slice_get (places k past ++ (if c then pauses_of past ∷ [] else [])) (length R)) (turns w) (paused_in w past ++ entry (slice_get (resume_turns f b w) (length (pause_turns f b past))) ∷ [])) (sym is)
    by before false is =
        let same : resume_turns f b (Noted (note.Resume k.flow k.buffer) ∷ w) ≡ resume_turns f b w =
        ap (λ c. resume_turns f b w ++ (if c then turns w ∷ [] else [])) (turned k q ∙ is) ∙ append-nil (resume_turns f b w) in
        let e : Paused = entry (slice_get (resume_turns f b w) (length (pause_turns f b past))) in
        ap (λ (v : List ℕ). paused_in (Noted (note.Resume k.flow k.buffer) ∷ w) past ++ entry (slice_get v (length (pause_turns f b past))) ∷ []) same
        ∙ ap (λ (v : List Paused). v ++ e ∷ []) before
        ∙ sym (at_front (slice_get (places k past) (length R)) (turns w) (paused_in w past) (e ∷ []) (λ i x. let n = places_below k past (length R) i x in let l = paused_long w past in omega (arith, n, l)))
        ∙ ap (λ (v : List ℕ). until_at (slice_get v (length R)) (turns w) (paused_in w past ++ e ∷ [])) (sym (append-nil (places k past)))
        ∙ ap (λ c. until_at (slice_get (places k past ++ (if c then pauses_of past ∷ [] else [])) (length R)) (turns w) (paused_in w past ++ e ∷ [])) (sym is)
paused_resumed k w (Marked m ∷ past) = paused_resumed k w past
paused_resumed k w (Noted (note.Turn k2 e) ∷ past) = paused_resumed k w past
paused_resumed k w (Noted (note.Arrive f o) ∷ past) = paused_resumed k w past
paused_resumed k w (Noted (note.Move f p n) ∷ past) = paused_resumed k w past
paused_resumed k w (Noted (note.Frame c f n last) ∷ past) = paused_resumed k w past
paused_resumed k w (Noted (note.Out c n) ∷ past) = paused_resumed k w past
paused_resumed k w (Noted (note.Resume f b) ∷ past) = paused_resumed k w past
paused_resumed k w (Noted (note.Credit c s n) ∷ past) = paused_resumed k w past
paused_resumed k w (Noted (note.Head c s o) ∷ past) = paused_resumed k w past
paused_resumed k w (Noted (note.Answer c o) ∷ past) = paused_resumed k w past
paused_resumed k w (Noted (note.Waste c s n) ∷ past) = paused_resumed k w past
paused_resumed k w (Noted (note.Start x c s d) ∷ past) = paused_resumed k w past
paused_resumed k w (Noted (note.Doom x why) ∷ past) = paused_resumed k w past
paused_resumed k w (Noted (note.Gone x) ∷ past) = paused_resumed k w past
paused_resumed k w (Noted (note.Close c code why) ∷ past) = paused_resumed k w past
paused_resumed k w (Noted (note.Fire kind id) ∷ past) = paused_resumed k w past

-- ---- a pause

lone_is : (l : Lone) (waiting early : List ℕ) → l.waiting ≡ waiting → l.early ≡ early → l ≡ record { waiting = waiting; early = early }
lone_is l waiting early o e =
    ap (λ (v : List ℕ). let r : Lone = record { waiting = v; early = l.early } in r) o ∙ ap (λ (v : List ℕ). let r : Lone = record { waiting = waiting; early = v } in r) e

-- what a pause makes of the track, and which resume it takes
pause_begun : (R ps : List ℕ) (p n : ℕ) (until : Option ℕ) (new : Lone) → length ps ≡ p
    → PausesTrack (record { waiting = drop (length R) ps; early = drop p R }) n new until
    → (until ≡ slice_get R p) × (new ≡ record { waiting = drop (length R) (ps ++ n ∷ []); early = drop (suc p) R })
pause_begun R ps p n None new lp k =
    let short = all_behind R p k.0 in
    (sym (none_at R p short), lone_is new _ _ (k.1 ∙ sym (drop_front ps (n ∷ []) (length R) (omega (arith, short, lp)))) (k.2 ∙ sym (none_behind R (suc p) (omega (arith, short)))))
pause_begun R ps p n (Some t) new lp k =
    let is : slice_get R p ≡ Some t = first_behind R p ∙ ap (λ (v : List ℕ). slice_get v 0) k.0 in
    let below = some_below R p t is in
    let long = length-append ps (n ∷ []) in
    (sym is, lone_is new _ _ (k.1 ∙ none_behind ps (length R) (omega (arith, below, lp)) ∙ sym (none_behind (ps ++ n ∷ []) (length R) (omega (arith, below, lp, long)))) (sym (drop_next R new.early p t k.0)))

-- and what a resume makes of it, and which pause it ends
resume_begun : (R ps : List ℕ) (p t : ℕ) (place : Option ℕ) (new : Lone) → length ps ≡ p
    → ResumesTrack (record { waiting = drop (length R) ps; early = drop p R }) t new place
    → (place ≡ slice_get ps (length R)) × (new ≡ record { waiting = drop (suc (length R)) ps; early = drop p (R ++ t ∷ []) })
resume_begun R ps p t None new lp k =
    let short = all_behind ps (length R) k.0 in
    (sym (none_at ps (length R) short), lone_is new _ _ (k.2 ∙ sym (none_behind ps (suc (length R)) (omega (arith, short)))) (k.1 ∙ sym (drop_front R (t ∷ []) p (omega (arith, short, lp)))))
resume_begun R ps p t (Some i) new lp k =
    let is : slice_get ps (length R) ≡ Some i = first_behind ps (length R) ∙ ap (λ (v : List ℕ). slice_get v 0) k.0 in
    let below = some_below ps (length R) i is in
    let long = length-append R (t ∷ []) in
    (sym is, lone_is new _ _ (sym (drop_next ps new.waiting (length R) i k.0)) (k.1 ∙ none_behind R p (omega (arith, below, lp)) ∙ sym (none_behind (R ++ t ∷ []) p (omega (arith, below, lp, long)))))

count_is : (log : PauseLog) (h : History NoMark) → LogIs log h → length log.pauses.items ≡ pauses_of h
count_is log h a = sym (length-map log.pauses.items told_pause) ∙ ap length a.pauses ∙ paused_long h h

-- the track of another flow or buffer
kept : (xs ps R : List ℕ) (n t r : ℕ) (c : Bool) → c ≡ false
    → ◌≡◌ {A = Lone} (record { waiting = drop r xs; early = drop (length ps) R }) (record { waiting = drop r (xs ++ (if c then n ∷ [] else [])); early = drop (length (ps ++ (if c then t ∷ [] else []))) R })
kept xs ps R n t r true e = cc
kept xs ps R n t r false e =
    ap (λ (v : List ℕ). let l : Lone = record { waiting = drop r v; early = drop (length ps) R } in l) (sym (append-nil xs))
    ∙ ap (λ (v : List ℕ). let l : Lone = record { waiting = drop r (xs ++ []); early = drop (length v) R } in l) (sym (append-nil ps))

pub pause_logged : (old new : PauseLog) (k : Spot) (until : Option ℕ) → Changes old.tracks k (λ a b. PausesTrack a (length old.pauses.items) b until) new.tracks → new.turn ≡ old.turn
    → new.pauses.items ≡ old.pauses.items ++ record { spot = k; at = old.turn; until = until } ∷ []
    → Logs old (note.Pause k.flow k.buffer ∷ []) new
pause_logged old new k until t et ep = record { goes = goes }
  where
    goes : (h : History NoMark) → LogIs old h → LogIs new (Noted (note.Pause k.flow k.buffer) ∷ h)
    goes h a = record {
      turn = et ∙ a.turn;
      pauses =
          ap (map told_pause) ep
          ∙ map-append told_pause old.pauses.items (record { spot = k; at = old.turn; until = until } ∷ [])
          ∙ ap (λ (v : List Paused). v ++ told old.turn until ∷ []) a.pauses
          ∙ ap (λ (v : ℕ). paused_lines h ++ told v until ∷ []) a.turn
          ∙ ap (λ (v : Option ℕ). paused_lines h ++ told (turns h) v ∷ []) here.0
          ∙ ap (λ (v : List Paused). v ++ told (turns h) (slice_get R p) ∷ []) (sym (whole_same h (Noted (note.Pause k.flow k.buffer) ∷ h) (λ f b. refl) h));
      placed = w.placed;
      tracks = λ q. pick q (same_spot k q) refl;
    }
      where
        w : ChangedAt old.tracks k (λ b c. PausesTrack b (length old.pauses.items) c until) new.tracks
        w = t.goes a.placed

        R : List ℕ
        R = resume_turns k.flow k.buffer h

        p : ℕ
        p = length (pause_turns k.flow k.buffer h)

        told : ℕ → Option ℕ → Paused
        told n o = record { flow = k.flow; buffer = k.buffer; at = n; until = o }

        here : (until ≡ slice_get R p) × (kept_of new.tracks k ≡ record { waiting = drop (length R) (places k h ++ pauses_of h ∷ []); early = drop (suc p) R })
        here =
            let P : Lone → Type 0 = λ v. PausesTrack v (length old.pauses.items) (kept_of new.tracks k) until in
            let Q : ℕ → Type 0 = λ v. PausesTrack (lone k h) v (kept_of new.tracks k) until in
            pause_begun R (places k h) p (pauses_of h) until (kept_of new.tracks k) (places_long k h) (subst Q (count_is old h a) (subst P (a.tracks k) w.here))

        at_spot : same_spot k k ≡ true → kept_of new.tracks k ≡ lone k (Noted (note.Pause k.flow k.buffer) ∷ h)
        at_spot s =
            here.1
            ∙ ap (λ (m : ℕ). let l : Lone = record { waiting = drop (length R) (places k h ++ pauses_of h ∷ []); early = drop m R } in l) (one_longer (pause_turns k.flow k.buffer h) (turns h))
            ∙ ap (λ (c : Bool). let l : Lone = record { waiting = drop (length R) (places k h ++ (if c then pauses_of h ∷ [] else [])); early = drop (length (pause_turns k.flow k.buffer h ++ (if c then turns h ∷ [] else []))) R } in l) (sym s)
          where
            one_longer : (xs : List ℕ) (x : ℕ) → suc (length xs) ≡ length (xs ++ x ∷ [])
            one_longer xs x = let l = length-append xs (x ∷ []) in omega (arith, l)

        pick : (q : Spot) (c : Bool) → same_spot k q ≡ c → kept_of new.tracks q ≡ lone q (Noted (note.Pause k.flow k.buffer) ∷ h)
        pick q true is =
            let P : Spot → Type 0 = λ v. kept_of new.tracks v ≡ lone v (Noted (note.Pause k.flow k.buffer) ∷ h) in
            subst P (spot_is k q is) (at_spot (ap (λ v. same_spot k v) (spot_is k q is) ∙ is))
        pick q false is =
            w.others q (spots_equal k q ∙ is) ∙ a.tracks q
            ∙ kept (places q h) (pause_turns q.flow q.buffer h) (resume_turns q.flow q.buffer h) (pauses_of h) (turns h) (length (resume_turns q.flow q.buffer h)) (same_spot k q) is

pub pause_told : (old new : PauseLog) (k : Spot) (n : ℕ) (until : Option ℕ) → n ≡ length old.pauses.items → Changes old.tracks k (λ a b. PausesTrack a n b until) new.tracks → new.turn ≡ old.turn
    → new.pauses.items ≡ old.pauses.items ++ record { spot = k; at = old.turn; until = until } ∷ []
    → Logs old (note.Pause k.flow k.buffer ∷ []) new
pause_told old new k n until en t et ep =
    let P : ℕ → Type 0 = λ v. Changes old.tracks k (λ a b. PausesTrack a v b until) new.tracks in
    pause_logged old new k until (subst P en t) et ep

-- ---- a resume

ended_told : (i t : ℕ) (ps : List Pause) → map told_pause (ended i t ps) ≡ until_set i t (map told_pause ps)
ended_told i t [] = refl
ended_told zero t (p ∷ ps) = refl
ended_told (suc i) t (p ∷ ps) = ap (λ (v : List Paused). told_pause p ∷ v) (ended_told i t ps)

ended_at_told : (o : Option ℕ) (t : ℕ) (ps : List Pause) → map told_pause (ended_at o t ps) ≡ until_at o t (map told_pause ps)
ended_at_told None t ps = refl
ended_at_told (Some i) t ps = ended_told i t ps

kept_resumes : (xs ps R : List ℕ) (t : ℕ) (c : Bool) → c ≡ false
    → ◌≡◌ {A = Lone} (record { waiting = drop (length R) xs; early = drop (length ps) R }) (record { waiting = drop (length (R ++ (if c then t ∷ [] else []))) xs; early = drop (length ps) (R ++ (if c then t ∷ [] else [])) })
kept_resumes xs ps R t true e = cc
kept_resumes xs ps R t false e = ap (λ (v : List ℕ). let l : Lone = record { waiting = drop (length v) xs; early = drop (length ps) v } in l) (sym (append-nil R))

pub resume_logged : (old new : PauseLog) (k : Spot) (place : Option ℕ) → Changes old.tracks k (λ a b. ResumesTrack a old.turn b place) new.tracks → new.turn ≡ old.turn
    → new.pauses.items ≡ ended_at place old.turn old.pauses.items
    → Logs old (note.Resume k.flow k.buffer ∷ []) new
resume_logged old new k place t et ep = record { goes = goes }
  where
    goes : (h : History NoMark) → LogIs old h → LogIs new (Noted (note.Resume k.flow k.buffer) ∷ h)
    goes h a = record {
      turn = et ∙ a.turn;
      pauses =
          ap (map told_pause) ep
          ∙ ended_at_told place old.turn old.pauses.items
          ∙ ap (until_at place old.turn) a.pauses
          ∙ ap (λ t. until_at place t (paused_lines h)) a.turn
          ∙ ap (λ o. until_at o (turns h) (paused_lines h)) here.0
          ∙ sym (paused_resumed k h h);
      placed = w.placed;
      tracks = λ q. pick q (same_spot k q) refl;
    }
      where
        w : ChangedAt old.tracks k (λ b c. ResumesTrack b old.turn c place) new.tracks
        w = t.goes a.placed

        R : List ℕ
        R = resume_turns k.flow k.buffer h

        p : ℕ
        p = length (pause_turns k.flow k.buffer h)

        here : (place ≡ slice_get (places k h) (length R)) × (kept_of new.tracks k ≡ record { waiting = drop (suc (length R)) (places k h); early = drop p (R ++ turns h ∷ []) })
        here =
            let P : Lone → Type 0 = λ v. ResumesTrack v old.turn (kept_of new.tracks k) place in
            let Q : ℕ → Type 0 = λ v. ResumesTrack (lone k h) v (kept_of new.tracks k) place in
            resume_begun R (places k h) p (turns h) place (kept_of new.tracks k) (places_long k h) (subst Q a.turn (subst P (a.tracks k) w.here))

        at_spot : same_spot k k ≡ true → kept_of new.tracks k ≡ lone k (Noted (note.Resume k.flow k.buffer) ∷ h)
        at_spot s =
            here.1
            ∙ ap (λ (m : ℕ). let l : Lone = record { waiting = drop m (places k h); early = drop p (R ++ turns h ∷ []) } in l) (one_longer R (turns h))
            ∙ ap (λ (c : Bool). let l : Lone = record { waiting = drop (length (R ++ (if c then turns h ∷ [] else []))) (places k h); early = drop p (R ++ (if c then turns h ∷ [] else [])) } in l) (sym s)
          where
            one_longer : (xs : List ℕ) (x : ℕ) → suc (length xs) ≡ length (xs ++ x ∷ [])
            one_longer xs x = let l = length-append xs (x ∷ []) in omega (arith, l)

        pick : (q : Spot) (c : Bool) → same_spot k q ≡ c → kept_of new.tracks q ≡ lone q (Noted (note.Resume k.flow k.buffer) ∷ h)
        pick q true is =
            let P : Spot → Type 0 = λ v. kept_of new.tracks v ≡ lone v (Noted (note.Resume k.flow k.buffer) ∷ h) in
            subst P (spot_is k q is) (at_spot (ap (λ v. same_spot k v) (spot_is k q is) ∙ is))
        pick q false is =
            w.others q (spots_equal k q ∙ is) ∙ a.tracks q
            ∙ kept_resumes (places q h) (pause_turns q.flow q.buffer h) (resume_turns q.flow q.buffer h) (turns h) (same_spot k q) is

pub resume_some : (old mid new : PauseLog) (k : Spot) (o : Option ℕ) (i : ℕ) → o ≡ Some i → Changes old.tracks k (λ a b. ResumesTrack a old.turn b o) mid.tracks → mid.pauses ≡ old.pauses → mid.turn ≡ old.turn
    → new.pauses.items ≡ ended i mid.turn mid.pauses.items → new.turn ≡ mid.turn → new.tracks ≡ mid.tracks → Logs old (note.Resume k.flow k.buffer ∷ []) new
resume_some old mid new k o i is t mp mt ep et ec =
    let P : Option ℕ → Type 0 = λ v. Changes old.tracks k (λ a b. ResumesTrack a old.turn b v) mid.tracks in
    let Q : Tracks → Type 0 = λ v. Changes old.tracks k (λ a b. ResumesTrack a old.turn b (Some i)) v in
    resume_logged old new k (Some i) (subst Q (sym ec) (subst P is t)) (et ∙ mt) (ep ∙ ap (λ v. ended i v mid.pauses.items) mt ∙ ap (λ v. ended i old.turn v.items) mp)

pub resume_none : (old new : PauseLog) (k : Spot) (o : Option ℕ) → o ≡ None → Changes old.tracks k (λ a b. ResumesTrack a old.turn b o) new.tracks → new.pauses.items ≡ old.pauses.items → new.turn ≡ old.turn
    → Logs old (note.Resume k.flow k.buffer ∷ []) new
resume_none old new k o is t ep et =
    let P : Option ℕ → Type 0 = λ v. Changes old.tracks k (λ a b. ResumesTrack a old.turn b v) new.tracks in
    resume_logged old new k None (subst P is t) et ep

-- ---- other notes

pub turn_logged : (old new : PauseLog) (n : ℕ) (e : Event) → new.turn ≡ old.turn + 1 → new.pauses ≡ old.pauses → new.tracks ≡ old.tracks → Logs old (note.Turn n e ∷ []) new
turn_logged old new n e et ep ec = record {
  goes = λ h a. record {
    turn = et ∙ ap (λ m. m + 1) a.turn;
    pauses = ap (λ v. map told_pause v.items) ep ∙ a.pauses ∙ sym (whole_same h (Noted (note.Turn n e) ∷ h) (λ f b. refl) h);
    placed = let P : Tracks → Type 0 = λ v. ArePlaced v in subst P (sym ec) a.placed;
    tracks = λ s. ap (λ m. kept_of m s) ec ∙ a.tracks s;
  };
}

pub other_logged : (log : PauseLog) (n : Note) → ((k : ℕ) (e : Event) → n ≡ note.Turn k e → ⊥) → ((f : FlowId) (b : BufferId) → n ≡ note.Pause f b → ⊥) → ((f : FlowId) (b : BufferId) → n ≡ note.Resume f b → ⊥)
    → Logs log (n ∷ []) log
other_logged log (note.Turn k e) a b c = absurd (a k e refl)
other_logged log (note.Pause f x) a b c = absurd (b f x refl)
other_logged log (note.Resume f x) a b c = absurd (c f x refl)
other_logged log (note.Arrive f o) nt np nr = record { goes = λ h l. record { turn = l.turn; pauses = l.pauses ∙ sym (whole_same h (Noted (note.Arrive f o) ∷ h) (λ g a. refl) h); placed = l.placed; tracks = l.tracks } }
other_logged log (note.Move f p n) nt np nr = record { goes = λ h l. record { turn = l.turn; pauses = l.pauses ∙ sym (whole_same h (Noted (note.Move f p n) ∷ h) (λ g a. refl) h); placed = l.placed; tracks = l.tracks } }
other_logged log (note.Frame c f n last) nt np nr = record { goes = λ h l. record { turn = l.turn; pauses = l.pauses ∙ sym (whole_same h (Noted (note.Frame c f n last) ∷ h) (λ g a. refl) h); placed = l.placed; tracks = l.tracks } }
other_logged log (note.Out c n) nt np nr = record { goes = λ h l. record { turn = l.turn; pauses = l.pauses ∙ sym (whole_same h (Noted (note.Out c n) ∷ h) (λ g a. refl) h); placed = l.placed; tracks = l.tracks } }
other_logged log (note.Credit c s n) nt np nr = record { goes = λ h l. record { turn = l.turn; pauses = l.pauses ∙ sym (whole_same h (Noted (note.Credit c s n) ∷ h) (λ g a. refl) h); placed = l.placed; tracks = l.tracks } }
other_logged log (note.Head c s o) nt np nr = record { goes = λ h l. record { turn = l.turn; pauses = l.pauses ∙ sym (whole_same h (Noted (note.Head c s o) ∷ h) (λ g a. refl) h); placed = l.placed; tracks = l.tracks } }
other_logged log (note.Answer c o) nt np nr = record { goes = λ h l. record { turn = l.turn; pauses = l.pauses ∙ sym (whole_same h (Noted (note.Answer c o) ∷ h) (λ g a. refl) h); placed = l.placed; tracks = l.tracks } }
other_logged log (note.Waste c s n) nt np nr = record { goes = λ h l. record { turn = l.turn; pauses = l.pauses ∙ sym (whole_same h (Noted (note.Waste c s n) ∷ h) (λ g a. refl) h); placed = l.placed; tracks = l.tracks } }
other_logged log (note.Start x c s d) nt np nr = record { goes = λ h l. record { turn = l.turn; pauses = l.pauses ∙ sym (whole_same h (Noted (note.Start x c s d) ∷ h) (λ g a. refl) h); placed = l.placed; tracks = l.tracks } }
other_logged log (note.Doom x why) nt np nr = record { goes = λ h l. record { turn = l.turn; pauses = l.pauses ∙ sym (whole_same h (Noted (note.Doom x why) ∷ h) (λ g a. refl) h); placed = l.placed; tracks = l.tracks } }
other_logged log (note.Gone x) nt np nr = record { goes = λ h l. record { turn = l.turn; pauses = l.pauses ∙ sym (whole_same h (Noted (note.Gone x) ∷ h) (λ g a. refl) h); placed = l.placed; tracks = l.tracks } }
other_logged log (note.Close c code why) nt np nr = record { goes = λ h l. record { turn = l.turn; pauses = l.pauses ∙ sym (whole_same h (Noted (note.Close c code why) ∷ h) (λ g a. refl) h); placed = l.placed; tracks = l.tracks } }
other_logged log (note.Fire kind id) nt np nr = record { goes = λ h l. record { turn = l.turn; pauses = l.pauses ∙ sym (whole_same h (Noted (note.Fire kind id) ∷ h) (λ g a. refl) h); placed = l.placed; tracks = l.tracks } }

-- ---- the pause of a resume

pub ended_set : (ps : List Pause) (i t : ℕ) (p : Pause) → slice_get ps i ≡ Some p → slice_set ps i (record { spot = p.spot; at = p.at; until = Some t }) ≡ ended i t ps
ended_set [] zero t p e = cc
ended_set [] (suc i) t p e = cc
ended_set (q ∷ ps) zero t p e = let same : q ≡ p = cc in ap (λ (v : Pause). let r : Pause = record { spot = v.spot; at = v.at; until = Some t } in r ∷ ps) (sym same)
ended_set (q ∷ ps) (suc i) t p e = ap (λ (v : List Pause). q ∷ v) (ended_set ps i t p e)

pub ended_past : (ps : List Pause) (i t : ℕ) → length ps ≤ i → ended i t ps ≡ ps
ended_past [] i t e = refl
ended_past (q ∷ ps) zero t e = absurd (omega (arith, e))
ended_past (q ∷ ps) (suc i) t e = ap (λ (v : List Pause). q ∷ v) (ended_past ps i t (omega (arith, e)))

-- ---- by how the step ended

pub turn_ends : (old new : PauseLog) (m : Note) (n : ℕ) (e : Event) (r : Result (Unit {0}) NoMemory) → m ≡ note.Turn n e
    → OnOk r (new.turn ≡ old.turn + 1) → new.pauses ≡ old.pauses → new.tracks ≡ old.tracks
    → OnOk r (Logs old (m ∷ []) new)
turn_ends old new m n e (Ok x) is et ep ec = let P : Note → Type 0 = λ v. Logs old (v ∷ []) new in subst P (sym is) (turn_logged old new n e et ep ec)
turn_ends old new m n e (Err x) is et ep ec = tt

-- the note that was matched
pub logged_as : (old new : PauseLog) (n m : Note) (r : Result (Unit {0}) NoMemory) → n ≡ m → OnOk r (Logs old (m ∷ []) new) → OnOk r (Logs old (n ∷ []) new)
logged_as old new n m r e k = let P : Note → Type 0 = λ v. OnOk r (Logs old (v ∷ []) new) in subst P (sym e) k

-- the notes so far, with one more
pub one_more : (notes done after : List Note) (n : Note) → notes ≡ done ++ n ∷ after → notes ≡ (done ++ n ∷ []) ++ after
one_more notes done after n e = e ∙ sym (append_assoc done (n ∷ []) after)

-- the notes of the passages that are left
pub all_left : (notes : List Note) (all passages : List (List Note)) → all ≡ passages → flat_map (λ notes. notes) passages ≡ notes → notes ≡ flat_map (λ notes. notes) all
all_left notes all passages e is = sym (ap (λ (v : List (List Note)). flat_map (λ notes. notes) v) e ∙ is)

-- with those of one passage more
pub passage_more : (notes done ns : List Note) (left after : List (List Note)) → notes ≡ done ++ flat_map (λ notes. notes) left → left ≡ ns ∷ after
    → notes ≡ (done ++ ns) ++ flat_map (λ notes. notes) after
passage_more notes done ns left after e is =
    e ∙ ap (λ (v : List (List Note)). done ++ flat_map (λ notes. notes) v) is ∙ sym (append_assoc done ns (flat_map (λ notes. notes) after))

pub no_passages : (left : List (List Note)) → left ≡ [] → flat_map (λ notes. notes) left ≡ []
no_passages left e = ap (λ (v : List (List Note)). flat_map (λ notes. notes) v) e

pub none_left : {A : Type 0} (rest : List A) → length rest ≡ 0 → rest ≡ []
none_left [] e = refl
none_left (n ∷ ns) e = absurd (omega (arith, e))

pub all_logged : (a b : PauseLog) (notes done rest : List Note) → notes ≡ done ++ rest → rest ≡ [] → Logs a done b → Logs a notes b
all_logged a b notes done rest e none l =
    let P : List Note → Type 0 = λ v. Logs a v b in
    subst P (sym (e ∙ ap (λ (v : List Note). done ++ v) none ∙ append-nil done)) l

pub passage_logged : (a c : PauseLog) (p q : Passage) (r : Result (Unit {0}) NoMemory) → p ≡ q → OnOk r (Logs a (notes_of_passage q) c) → OnOk r (Logs a (notes_of_passage p) c)
passage_logged a c p q r e k = let P : Passage → Type 0 = λ v. OnOk r (Logs a (notes_of_passage v) c) in subst P (sym e) k
