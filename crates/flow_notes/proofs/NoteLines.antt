-- A note's line, there and back.
use Rattle.std.proofs.Common.{◌≡◌, ◌-◌, ◌<◌, ◌^◌, ◌≤◌, ◌++◌, ℕ, List, [], ◌∷◌, length, get_or, take, Option, Some, None, Result, Ok, Err, IfOk, IfSome, IfNone, Bool, true, false, eqb, refl, ap, sym, ◌∙◌, arith, length-append}
use Rattle.std.specs.Fmt.{decimal}
use Rattle.std.specs.List.{AllByRecursion}
use Rattle.std.specs.Option.{option_map}
use Rattle.std.proofs.lemmas.Bool.{false_from_ne_true, eqb-true}
use Rattle.std.proofs.lemmas.List.{get_or-append_right}
use Rattle.std.proofs.lemmas.List.Folds.{list_all-append}
use Rattle.std.proofs.Math.Seq.{take-append_seam}
use Rattle.std.proofs.lemmas.Option.{same_Some, none-some}
use Rattle.flow_rules.specs.declared.ids.BufferId.{BufferId}
use Rattle.flow_rules.specs.declared.ids.BufferId.TheVariants as buffers
use Rattle.flow_rules.specs.declared.ids.FlowId.{FlowId}
use Rattle.flow_notes.specs.Buffer.{buffer_words}
use Rattle.flow_rules.specs.Pausing.{CanPause}
use Rattle.flow_notes.specs.Cause.{cause_words}
use Rattle.flow_notes.specs.Close.{close_word}
use Rattle.flow_notes.specs.Event.{HasEventSpelling, IsEvent, event_spelling, event_words, is_plain, plain_words}
use Rattle.flow_notes.specs.EventOf.{wire_of, short_of, room_of, event_of}
use Rattle.flow_notes.specs.Fields.{FitsBuffer, FitsCause, FitsEvent, FitsFlow, FitsNote}
use Rattle.flow_notes.specs.Fire.{fire_word}
use Rattle.flow_notes.specs.Flow.{flow_word}
use Rattle.flow_notes.specs.Line.{line_of}
use Rattle.flow_notes.specs.Meaning.{u16_of, counted_of, flow_of, number_of}
use Rattle.flow_notes.specs.Name.{AreNames}
use Rattle.flow_notes.specs.Note.{HasNoteSpelling, IsNote, note_words, note_spelling, last_word}
use Rattle.flow_notes.specs.NoteOf.{kind_of, close_of, last_of, cause_of_one, cause_of_two, posted_of, cause_of, numbered_of, buffer_of, crossing_of, any_of, turn_of, arrive_of, move_of, frame_of, out_of, pause_of, resume_of, credit_of, head_of, answer_of, waste_of, start_of, doom_of, over_of, closed_of, fire_of, flow_note_of, life_note_of, note_of}
use Rattle.flow_notes.specs.Spells.{SpellsNote}
use Rattle.flow_notes.specs.Split.{words_in, one_of, two_of, three_of, four_of}
use Rattle.flow_notes.specs.declared.events.Event.{Event}
use Rattle.flow_notes.specs.declared.events.Event.TheVariants as event
use Rattle.flow_notes.specs.declared.events.PlainEvent.{PlainEvent}
use Rattle.flow_notes.specs.declared.events.PlainEvent.TheVariants as plain
use Rattle.flow_rules.specs.declared.causes.Cause.{Cause}
use Rattle.flow_rules.specs.declared.causes.Cause.TheVariants as causes
use Rattle.flow_notes.specs.declared.notes.CloseCause.{CloseCause}
use Rattle.flow_notes.specs.declared.notes.CloseCause.TheVariants as closes
use Rattle.flow_rules.specs.declared.causes.FireKind.{FireKind}
use Rattle.flow_rules.specs.declared.causes.FireKind.TheVariants as kinds
use Rattle.flow_notes.specs.declared.notes.Note.{Note}
use Rattle.flow_notes.specs.declared.notes.Note.TheVariants as notes
use Rattle.flow_notes.proofs.EventLines.{u32_again, u64_again, octets_again, plain_again, event_again, event_are}
use Rattle.flow_notes.proofs.Numbers.{in_range}
use Rattle.flow_notes.proofs.Splitting.{AreWords, IsWord, line_of_words, words_of_line}
use Rattle.flow_notes.proofs.Words.{decimal_word, hex_word}

u16_again : (n : ℕ) → n < 2 ^ 16 → u16_of (decimal n) ≡ Some n
u16_again n fits = in_range 0 65535 n (decimal n) (omega arith) refl (omega arith) (omega arith)

counted_again : (n : ℕ) → 1 ≤ n → n < 2 ^ 32 → counted_of (decimal n) ≡ Some n
counted_again n some fits = in_range 1 4294967295 n (decimal n) (omega arith) refl some (omega arith)

turn_again : (n : ℕ) → 1 ≤ n → n < 2 ^ 64 → number_of 1 18446744073709551615 (decimal n) ≡ Some n
turn_again n some fits = in_range 1 18446744073709551615 n (decimal n) fits refl some (omega arith)

-- a flow's word without its last octet, and that octet
without_side : (digits : List ℕ) (c : ℕ) → take (length (digits ++ c ∷ []) - 1) (digits ++ c ∷ []) ≡ digits
without_side digits c =
    let long : length (digits ++ c ∷ []) - 1 ≡ length digits = omega (arith, length-append digits (c ∷ [])) in
    ap (λ n. take n (digits ++ c ∷ [])) long ∙ take-append_seam digits (c ∷ [])

side_is : (digits : List ℕ) (c : ℕ) → get_or (digits ++ c ∷ []) (length (digits ++ c ∷ []) - 1) 0 ≡ c
side_is digits c =
    let long : length (digits ++ c ∷ []) - 1 ≡ length digits = omega (arith, length-append digits (c ∷ [])) in
    let back : length digits - length digits ≡ 0 = omega arith in
    ap (λ n. get_or (digits ++ c ∷ []) n 0) long ∙ get_or-append_right digits (c ∷ []) (length digits) (length digits) 0 refl (omega arith) ∙ ap (λ k. get_or (c ∷ []) k 0) back

some_side : (digits : List ℕ) (c : ℕ) → eqb (length (digits ++ c ∷ [])) 0 ≡ false
some_side digits c = false_from_ne_true _ (λ is. absurd (omega (arith, length-append digits (c ∷ []), eqb-true _ _ is)))

flow_by : (x : ℕ) (back : Bool) → x < 2 ^ 64 → flow_of (flow_word (record { exchange = x; back = back })) ≡ Some (record { exchange = x; back = back })
unfolding flow_of
flow_by x true fits = rw (some_side (decimal x) 114) (rw (without_side (decimal x) 114) (rw (u64_again x fits) (rw (side_is (decimal x) 114) refl)))
flow_by x false fits = rw (some_side (decimal x) 113) (rw (without_side (decimal x) 113) (rw (u64_again x fits) (rw (side_is (decimal x) 113) refl)))

flow_again : (flow : FlowId) → FitsFlow flow → flow_of (flow_word flow) ≡ Some flow
flow_again flow fits = flow_by flow.exchange flow.back fits

side_word : (x : ℕ) (back : Bool) → x < 2 ^ 64 → IsWord (flow_word (record { exchange = x; back = back }))
side_word x true fits = list_all-append _ (decimal x) (114 ∷ []) ∙ rw (decimal_word x fits) refl
side_word x false fits = list_all-append _ (decimal x) (113 ∷ []) ∙ rw (decimal_word x fits) refl

flow_is_word : (flow : FlowId) → FitsFlow flow → IsWord (flow_word flow)
flow_is_word flow fits = side_word flow.exchange flow.back fits

kind_again : (kind : FireKind) → kind_of (fire_word kind) ≡ Some kind
unfolding kind_of
kind_again kinds.Route = refl
kind_again kinds.StreamIdle = refl
kind_again kinds.ConnectionIdle = refl

kind_is_word : (kind : FireKind) → IsWord (fire_word kind)
kind_is_word kinds.Route = refl
kind_is_word kinds.StreamIdle = refl
kind_is_word kinds.ConnectionIdle = refl

close_again : (cause : CloseCause) → close_of (close_word cause) ≡ Some cause
unfolding close_of
close_again closes.Protocol = refl
close_again closes.Lost = refl
close_again closes.Drained = refl
close_again closes.Idle = refl
close_again closes.Overload = refl
close_again closes.Flood = refl

close_is_word : (cause : CloseCause) → IsWord (close_word cause)
close_is_word closes.Protocol = refl
close_is_word closes.Lost = refl
close_is_word closes.Drained = refl
close_is_word closes.Idle = refl
close_is_word closes.Overload = refl
close_is_word closes.Flood = refl

last_again : (last : Bool) → last_of (last_word last) ≡ Some last
unfolding last_of
last_again true = refl
last_again false = refl

last_is_word : (last : Bool) → IsWord (last_word last)
last_is_word true = refl
last_is_word false = refl

cause_again : (cause : Cause) → FitsCause cause → cause_of (cause_words cause) ≡ Some cause
unfolding cause_of cause_of_one cause_of_two posted_of one_of two_of three_of
cause_again causes.Done fits = refl
cause_again (causes.PeerReset code) fits = rw (u32_again code fits) refl
cause_again (causes.StreamError code) fits = rw (u32_again code fits) refl
cause_again causes.TooLarge fits = refl
cause_again (causes.Timeout kind) fits = rw (kind_again kind) refl
cause_again causes.Overload fits = refl
cause_again causes.Overflow fits = refl
cause_again (causes.ConnLost conn) fits = rw (u32_again conn fits) refl
cause_again causes.EarlyEnd fits = refl
cause_again (causes.Posted poster number) fits = rw (u32_again poster fits.0) (rw (u64_again number fits.1) refl)
cause_again (causes.Refused status) fits = rw (u16_again status fits) refl

cause_are : (cause : Cause) → FitsCause cause → AllByRecursion IsWord (cause_words cause)
cause_are causes.Done fits = (refl, tt)
cause_are (causes.PeerReset code) fits = (refl, (decimal_word code (omega arith), tt))
cause_are (causes.StreamError code) fits = (refl, (decimal_word code (omega arith), tt))
cause_are causes.TooLarge fits = (refl, tt)
cause_are (causes.Timeout kind) fits = (refl, (kind_is_word kind, tt))
cause_are causes.Overload fits = (refl, tt)
cause_are causes.Overflow fits = (refl, tt)
cause_are (causes.ConnLost conn) fits = (refl, (decimal_word conn (omega arith), tt))
cause_are causes.EarlyEnd fits = (refl, tt)
cause_are (causes.Posted poster number) fits = (refl, (decimal_word poster (omega (arith, fits.0)), (decimal_word number fits.1, tt)))
cause_are (causes.Refused status) fits = (refl, (decimal_word status (omega arith), tt))

buffer_again : (flow : FlowId) (buffer : BufferId) → CanPause flow buffer → FitsBuffer buffer → buffer_of flow (buffer_words buffer) ≡ Some buffer
unfolding buffer_of numbered_of one_of two_of
buffer_again flow (buffers.Recv other) can fits = absurd can
buffer_again flow (buffers.Stage other i) can fits = rw (counted_again i can.1 fits.1) (ap (λ (f : FlowId). Some (buffers.Stage f i)) (sym can.0))
buffer_again flow (buffers.Send other) can fits = ap (λ (f : FlowId). Some (buffers.Send f)) (sym can)
buffer_again flow (buffers.Write conn) can fits = rw (u32_again conn fits) refl

buffer_are : (buffer : BufferId) → FitsBuffer buffer → AllByRecursion IsWord (buffer_words buffer)
buffer_are (buffers.Recv other) fits = tt
buffer_are (buffers.Stage other i) fits = (refl, (decimal_word i (omega (arith, fits.1)), tt))
buffer_are (buffers.Send other) fits = (refl, tt)
buffer_are (buffers.Write conn) fits = (refl, (decimal_word conn (omega arith), tt))

crossing_again : (flow : FlowId) (buffer : BufferId) → CanPause flow buffer → FitsFlow flow → FitsBuffer buffer → crossing_of (flow_word flow ∷ buffer_words buffer) ≡ Some (flow, buffer)
unfolding crossing_of
crossing_again flow buffer can fits fits_buffer = rw (flow_again flow fits) (rw (buffer_again flow buffer can fits_buffer) refl)

-- no wire session has a plain session's line
not_wire : (names : List (List ℕ)) (p : PlainEvent) → wire_of names (plain_words p) ≡ None
unfolding wire_of short_of room_of two_of
not_wire names (plain.Begin stream) = refl
not_wire names (plain.Pair first second) = refl
not_wire names (plain.Body stream octets) = refl
not_wire names (plain.Finish stream) = refl
not_wire names (plain.Cut stream) = refl
not_wire names (plain.Room n) = refl

wire_again : (names : List (List ℕ)) → AreNames names → (e : Event) → IsEvent names e → FitsEvent e → is_plain e ≡ false → wire_of names (event_words names e) ≡ Some e
unfolding event_of
wire_again names are e is fits side = sym (ap (λ (b : Bool). event_of names b (event_words names e)) side) ∙ event_again names are e is fits

any_again : (names : List (List ℕ)) → AreNames names → (e : Event) → IsEvent names e → FitsEvent e → any_of names (event_words names e) ≡ Some e
unfolding any_of
any_again names are (event.Plain p) is fits = rw (not_wire names p) (ap (option_map event.Plain) (plain_again p is fits))
any_again names are e is fits = rw (wire_again names are e is fits refl) refl

-- each note is read again
pub note_again : (names : List (List ℕ)) → AreNames names → (n : Note) → IsNote names n → FitsNote n → note_of names (note_words names n) ≡ Some n
unfolding note_of life_note_of flow_note_of turn_of arrive_of move_of frame_of out_of pause_of resume_of credit_of head_of answer_of waste_of start_of doom_of over_of closed_of fire_of one_of two_of three_of four_of
note_again names are (notes.Turn number happens) is fits = rw (turn_again number is.0 fits.0) (rw (any_again names are happens is.1 fits.1) refl)
note_again names are (notes.Arrive flow octets) is fits = rw (flow_again flow fits.0) (rw (octets_again octets is fits.1) refl)
note_again names are (notes.Move flow place n) is fits = rw (flow_again flow fits.0) (rw (u32_again place fits.1) (rw (u32_again n fits.2) refl))
note_again names are (notes.Frame conn flow n last) is fits = rw (u32_again conn fits.0) (rw (flow_again flow fits.1) (rw (u32_again n fits.2) (rw (last_again last) refl)))
note_again names are (notes.Out conn n) is fits = rw (u32_again conn fits.0) (rw (counted_again n is fits.1) refl)
note_again names are (notes.Pause flow buffer) is fits = rw (crossing_again flow buffer is fits.0 fits.1) refl
note_again names are (notes.Resume flow buffer) is fits = rw (crossing_again flow buffer is fits.0 fits.1) refl
note_again names are (notes.Credit conn stream n) is fits = rw (u32_again conn fits.0) (rw (u32_again stream fits.1) (rw (u32_again n fits.2) refl))
note_again names are (notes.Head conn stream octets) is fits = rw (u32_again conn fits.0) (rw (u32_again stream fits.1) (rw (octets_again octets is fits.2) refl))
note_again names are (notes.Answer conn octets) is fits = rw (u32_again conn fits.0) (rw (octets_again octets is fits.1) refl)
note_again names are (notes.Waste conn stream n) is fits = rw (u32_again conn fits.0) (rw (u32_again stream fits.1) (rw (u32_again n fits.2) refl))
note_again names are (notes.Start exchange conn stream to) is fits = rw (u64_again exchange fits.0) (rw (u32_again conn fits.1) (rw (u32_again stream fits.2) (rw (u32_again to fits.3) refl)))
note_again names are (notes.Doom exchange cause) is fits = rw (u64_again exchange fits.0) (rw (cause_again cause fits.1) refl)
note_again names are (notes.Gone exchange) is fits = rw (u64_again exchange fits) refl
note_again names are (notes.Close conn code cause) is fits = rw (u32_again conn fits.0) (rw (u32_again code fits.1) (rw (close_again cause) refl))
note_again names are (notes.Fire kind id) is fits = rw (kind_again kind) (rw (u64_again id fits) refl)

from_words : (words : List (List ℕ)) → AreWords words → AllByRecursion IsWord words
from_words [] are = absurd are
from_words (word ∷ words) are = are

wide : (n : ℕ) → n < 2 ^ 32 → IsWord (decimal n)
wide n fits = decimal_word n (omega arith)

-- the words of a note have no spaces
pub note_are : (names : List (List ℕ)) → AreNames names → (n : Note) → IsNote names n → FitsNote n → AreWords (note_words names n)
note_are names are (notes.Turn number happens) is fits = (refl, (decimal_word number fits.0, from_words (event_words names happens) (event_are names are happens is.1 fits.1)))
note_are names are (notes.Arrive flow octets) is fits = (refl, (flow_is_word flow fits.0, (hex_word octets fits.1, tt)))
note_are names are (notes.Move flow place n) is fits = (refl, (flow_is_word flow fits.0, (wide place fits.1, (wide n fits.2, tt))))
note_are names are (notes.Frame conn flow n last) is fits = (refl, (wide conn fits.0, (flow_is_word flow fits.1, (wide n fits.2, (last_is_word last, tt)))))
note_are names are (notes.Out conn n) is fits = (refl, (wide conn fits.0, (wide n fits.1, tt)))
note_are names are (notes.Pause flow buffer) is fits = (refl, (flow_is_word flow fits.0, buffer_are buffer fits.1))
note_are names are (notes.Resume flow buffer) is fits = (refl, (flow_is_word flow fits.0, buffer_are buffer fits.1))
note_are names are (notes.Credit conn stream n) is fits = (refl, (wide conn fits.0, (wide stream fits.1, (wide n fits.2, tt))))
note_are names are (notes.Head conn stream octets) is fits = (refl, (wide conn fits.0, (wide stream fits.1, (hex_word octets fits.2, tt))))
note_are names are (notes.Answer conn octets) is fits = (refl, (wide conn fits.0, (hex_word octets fits.1, tt)))
note_are names are (notes.Waste conn stream n) is fits = (refl, (wide conn fits.0, (wide stream fits.1, (wide n fits.2, tt))))
note_are names are (notes.Start exchange conn stream to) is fits = (refl, (decimal_word exchange fits.0, (wide conn fits.1, (wide stream fits.2, (wide to fits.3, tt)))))
note_are names are (notes.Doom exchange cause) is fits = (refl, (decimal_word exchange fits.0, cause_are cause fits.1))
note_are names are (notes.Gone exchange) is fits = (refl, (decimal_word exchange fits, tt))
note_are names are (notes.Close conn code cause) is fits = (refl, (wide conn fits.0, (wide code fits.1, (close_is_word cause, tt))))
note_are names are (notes.Fire kind id) is fits = (refl, (kind_is_word kind, (decimal_word id fits, tt)))

-- what is found in the line of a note
pub note_found : (names : List (List ℕ)) → AreNames names → (line : List ℕ) (n : Note) → FitsNote n → IsNote names n → note_spelling names n ≡ line → note_of names (words_in line) ≡ Some n
note_found names are line n fits is spelled =
    let words : words_in line ≡ note_words names n = ap words_in (sym spelled) ∙ words_of_line (note_words names n) (note_are names are n is fits) in
    ap (note_of names) words ∙ note_again names are n is fits

-- what is read spells the line
pub note_some : {E : Type 0} (names : List (List ℕ)) (line : List ℕ) (r : Result (Option Note) E) → IfOk r (λ read. IfSome read (SpellsNote names (words_in line)))
    → IfOk r (λ read. IfSome read (λ n. (line ≡ note_spelling names n) × IsNote names n × FitsNote n))
note_some names line (Err x) h = tt
note_some names line (Ok None) h = tt
note_some names line (Ok (Some n)) h = (sym (line_of_words line) ∙ ap line_of h.0, h.1, h.2)

-- and nothing else does
pub note_only : {E : Type 0} (names : List (List ℕ)) → AreNames names → (line : List ℕ) (r : Result (Option Note) E) → IfOk r (λ read. read ≡ note_of names (words_in line))
    → IfOk r (λ read. IfSome read (λ n. (m : Note) → FitsNote m → IsNote names m → note_spelling names m ≡ line → m ≡ n))
note_only names are line (Err x) h = tt
note_only names are line (Ok None) h = tt
note_only names are line (Ok (Some n)) h = λ m fits is spelled. same_Some m n (sym (h ∙ note_found names are line m fits is spelled))

pub note_none : {E : Type 0} (names : List (List ℕ)) → AreNames names → (line : List ℕ) (r : Result (Option Note) E) → IfOk r (λ read. read ≡ note_of names (words_in line))
    → IfOk r (λ read. IfNone read ((n : Note) → FitsNote n → IsNote names n → note_spelling names n ≡ line → ⊥))
note_none names are line (Err x) h = tt
note_none names are line (Ok (Some n)) h = tt
note_none names are line (Ok None) h = λ n fits is spelled. none-some n (h ∙ note_found names are line n fits is spelled)

-- a text spells at most one note
pub note_one : (names : List (List ℕ)) (m n : Note) → AreNames names → HasNoteSpelling names m → HasNoteSpelling names n → note_spelling names m ≡ note_spelling names n → m ≡ n
note_one names m n are of_m of_n same =
    same_Some m n (sym (note_found names are (note_spelling names m) m of_m.1 of_m.0 refl) ∙ note_found names are (note_spelling names m) n of_n.1 of_n.0 (sym same))

event_words_in : (names : List (List ℕ)) → AreNames names → (e : Event) → HasEventSpelling names e → any_of names (words_in (event_spelling names e)) ≡ Some e
event_words_in names are e of_e = ap (any_of names) (words_of_line (event_words names e) (event_are names are e of_e.0 of_e.1)) ∙ any_again names are e of_e.0 of_e.1

-- a text spells at most one event, of whichever session
pub event_one : (names : List (List ℕ)) (e f : Event) → AreNames names → HasEventSpelling names e → HasEventSpelling names f → event_spelling names e ≡ event_spelling names f → e ≡ f
event_one names e f are of_e of_f same =
    same_Some e f (sym (event_words_in names are e of_e) ∙ ap (λ (line : List ℕ). any_of names (words_in line)) same ∙ event_words_in names are f of_f)
