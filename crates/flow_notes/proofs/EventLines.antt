-- An event's line, there and back.
use Rattle.std.proofs.Common.{◌≡◌, ◌<◌, ◌^◌, ℕ, List, length, Option, Some, None, Result, Ok, Err, IfOk, IfSome, IfNone, Bool, true, false, leb, refl, ap, sym, ◌∙◌, arith}
use Rattle.std.specs.Fmt.{decimal}
use Rattle.std.specs.Option.{option_map}
use Rattle.std.proofs.lemmas.Bool.{le-leb}
use Rattle.std.proofs.lemmas.Option.{same_Some, none-some}
use Rattle.hex.proofs.HexLemmas.{length-encode_with}
use Rattle.hex.specs.Hex.{IsBytes, encode_lower, lower_digits}
use Rattle.flow_notes.specs.Event.{IsEvent, IsPlainEvent, event_words, event_spelling, plain_words, is_plain}
use Rattle.flow_notes.specs.EventOf.{accept_of, join_of, read_of, gone_of, room_of, tick_of, short_job_of, cancel_of, job_of, post_of, obey_of, short_of, wire_of, open_of, pair_of, body_of, end_of, reset_of, plain_room_of, short_plain_of, plain_of, event_of}
use Rattle.flow_notes.specs.Fields.{FitsEvent, FitsPlain}
use Rattle.flow_notes.specs.Hex.{IsPiece, HasOctets}
use Rattle.flow_notes.specs.Job.{IsJob, job_words}
use Rattle.flow_notes.specs.Line.{line_of}
use Rattle.flow_notes.specs.Meaning.{u32_of, u64_of, positive_of, moment_of, count_of, octets_of, piece_of}
use Rattle.flow_notes.specs.Name.{AreNames}
use Rattle.flow_notes.specs.Number.{IsCount, IsMoment, IsRoom}
use Rattle.flow_notes.specs.Spells.{SpellsEvent, SpellsWire}
use Rattle.flow_notes.specs.Split.{words_in, one_of, two_of}
use Rattle.flow_notes.specs.declared.events.Event.{Event}
use Rattle.flow_notes.specs.declared.events.Event.TheVariants as event
use Rattle.flow_notes.specs.declared.events.Job.{Job}
use Rattle.flow_notes.specs.declared.events.Job.TheVariants as jobs
use Rattle.flow_notes.specs.declared.events.PlainEvent.{PlainEvent}
use Rattle.flow_notes.specs.declared.events.PlainEvent.TheVariants as plain
use Rattle.flow_notes.proofs.NameLemmas.{place_again}
use Rattle.flow_notes.proofs.NumberLists.{numbers_again}
use Rattle.flow_notes.proofs.Numbers.{in_range}
use Rattle.flow_notes.proofs.Octets.{octets_is}
use Rattle.flow_notes.proofs.Splitting.{AreWords, line_of_words, words_of_line}
use Rattle.flow_notes.proofs.Words.{decimal_word, hex_word, cluster_word, number_words}

-- each word is read again
pub u32_again : (n : ℕ) → n < 2 ^ 32 → u32_of (decimal n) ≡ Some n
u32_again n fits = in_range 0 4294967295 n (decimal n) (omega arith) refl (omega arith) (omega arith)

pub u64_again : (n : ℕ) → n < 2 ^ 64 → u64_of (decimal n) ≡ Some n
u64_again n fits = in_range 0 18446744073709551615 n (decimal n) fits refl (omega arith) (omega arith)

pub positive_again : (n : ℕ) → IsRoom n → positive_of (decimal n) ≡ Some n
positive_again n is = in_range 1 2147483647 n (decimal n) (omega (arith, is.0, is.1)) refl is.0 is.1

pub moment_again : (n : ℕ) → IsMoment n → moment_of (decimal n) ≡ Some n
moment_again n is = in_range 0 1152921504606846975 n (decimal n) (omega arith) refl (omega arith) (omega arith)

pub count_again : (n : ℕ) → IsCount n → count_of (decimal n) ≡ Some n
count_again n is = in_range 0 9223372036854775807 n (decimal n) (omega arith) refl (omega arith) (omega arith)

pub octets_again : (octets : List ℕ) → HasOctets octets → IsBytes octets → octets_of (encode_lower octets) ≡ Some octets
octets_again octets some bytes = octets_is (encode_lower octets) octets refl bytes some

pub piece_again : (octets : List ℕ) → IsPiece octets → IsBytes octets → piece_of (encode_lower octets) ≡ Some octets
unfolding piece_of
piece_again octets is bytes =
    let few : leb (length (encode_lower octets)) 32768 ≡ true = le-leb _ _ (omega (arith, length-encode_with lower_digits octets, is.1)) in
    rw few (octets_again octets is.0 bytes)

job_again : (job : Job) → IsJob job → job_of (job_words job) ≡ Some job
unfolding job_of short_job_of cancel_of one_of two_of
job_again jobs.Drain is = refl
job_again (jobs.Cancel exchange) is = rw (count_again exchange is) refl
job_again jobs.Look is = refl

pub plain_again : (p : PlainEvent) → IsPlainEvent p → FitsPlain p → plain_of (plain_words p) ≡ Some p
unfolding plain_of short_plain_of open_of pair_of body_of end_of reset_of plain_room_of one_of two_of
plain_again (plain.Begin stream) is fits = rw (positive_again stream is) refl
plain_again (plain.Pair first second) is fits = rw (positive_again first is.0) (rw (positive_again second is.1) refl)
plain_again (plain.Body stream octets) is fits = rw (positive_again stream is.0) (rw (piece_again octets is.1 fits.1) refl)
plain_again (plain.Finish stream) is fits = rw (positive_again stream is) refl
plain_again (plain.Cut stream) is fits = rw (positive_again stream is) refl
plain_again (plain.Room n) is fits = rw (positive_again n is) refl

-- each event is read again
pub event_again : (names : List (List ℕ)) → AreNames names → (e : Event) → IsEvent names e → FitsEvent e → event_of names (is_plain e) (event_words names e) ≡ Some e
unfolding event_of wire_of short_of accept_of join_of read_of gone_of room_of tick_of post_of obey_of one_of two_of
event_again names are (event.Accept conn) is fits = rw (u32_again conn fits) refl
event_again names are (event.Join conn cluster) is fits = rw (u32_again conn fits.0) (rw (place_again names cluster are is) refl)
event_again names are (event.Read conn octets) is fits = rw (u32_again conn fits.0) (rw (piece_again octets is fits.1) refl)
event_again names are (event.Gone conn) is fits = rw (u32_again conn fits) refl
event_again names are (event.Room conn n) is fits = rw (u32_again conn fits.0) (rw (positive_again n is) refl)
event_again names are (event.Tick now) is fits = rw (moment_again now is) refl
event_again names are (event.Post poster number job) is fits = rw (u32_again poster fits.0) (rw (count_again number is.0) (rw (job_again job is.1) refl))
event_again names are (event.Obey version pressures) is fits = rw (count_again version is) (rw (numbers_again pressures fits.1) refl)
event_again names are (event.Plain p) is fits = ap (option_map event.Plain) (plain_again p is fits)

pub plain_are : (p : PlainEvent) → FitsPlain p → AreWords (plain_words p)
plain_are (plain.Begin stream) fits = (refl, (decimal_word stream (omega arith), tt))
plain_are (plain.Pair first second) fits = (refl, (decimal_word first (omega (arith, fits.0)), (decimal_word second (omega (arith, fits.1)), tt)))
plain_are (plain.Body stream octets) fits = (refl, (decimal_word stream (omega (arith, fits.0)), (hex_word octets fits.1, tt)))
plain_are (plain.Finish stream) fits = (refl, (decimal_word stream (omega arith), tt))
plain_are (plain.Cut stream) fits = (refl, (decimal_word stream (omega arith), tt))
plain_are (plain.Room n) fits = (refl, (decimal_word n (omega arith), tt))

-- the words of an event have no spaces
pub event_are : (names : List (List ℕ)) → AreNames names → (e : Event) → IsEvent names e → FitsEvent e → AreWords (event_words names e)
event_are names are (event.Accept conn) is fits = (refl, (decimal_word conn (omega arith), tt))
event_are names are (event.Join conn cluster) is fits = (refl, (decimal_word conn (omega (arith, fits.0)), (cluster_word names cluster are is, tt)))
event_are names are (event.Read conn octets) is fits = (refl, (decimal_word conn (omega (arith, fits.0)), (hex_word octets fits.1, tt)))
event_are names are (event.Gone conn) is fits = (refl, (decimal_word conn (omega arith), tt))
event_are names are (event.Room conn n) is fits = (refl, (decimal_word conn (omega (arith, fits.0)), (decimal_word n (omega (arith, fits.1)), tt)))
event_are names are (event.Tick now) is fits = (refl, (decimal_word now fits, tt))
event_are names are (event.Post poster number jobs.Drain) is fits = (refl, (decimal_word poster (omega (arith, fits.0)), (decimal_word number fits.1, (refl, tt))))
event_are names are (event.Post poster number (jobs.Cancel exchange)) is fits = (refl, (decimal_word poster (omega (arith, fits.0)), (decimal_word number fits.1, (refl, (decimal_word exchange fits.2, tt)))))
event_are names are (event.Post poster number jobs.Look) is fits = (refl, (decimal_word poster (omega (arith, fits.0)), (decimal_word number fits.1, (refl, tt))))
event_are names are (event.Obey version pressures) is fits = (refl, (decimal_word version fits.0, number_words pressures fits.1))
event_are names are (event.Plain p) is fits = plain_are p fits

-- what is found in the line of an event
pub event_found : (names : List (List ℕ)) → AreNames names → (line : List ℕ) (plain : Bool) (e : Event) → FitsEvent e → IsEvent names e → is_plain e ≡ plain → event_spelling names e ≡ line → event_of names plain (words_in line) ≡ Some e
event_found names are line plain e fits is side spelled =
    let words : words_in line ≡ event_words names e = ap words_in (sym spelled) ∙ words_of_line (event_words names e) (event_are names are e is fits) in
    ap (event_of names plain) words ∙ ap (λ (b : Bool). event_of names b (event_words names e)) (sym side) ∙ event_again names are e is fits

-- what is read spells the line
pub event_some : {E : Type 0} (names : List (List ℕ)) (line : List ℕ) (plain : Bool) (r : Result (Option Event) E) → IfOk r (λ read. IfSome read (λ e. SpellsEvent names (words_in line) e × (is_plain e ≡ plain)))
    → IfOk r (λ read. IfSome read (λ e. (line ≡ event_spelling names e) × IsEvent names e × FitsEvent e × (is_plain e ≡ plain)))
event_some names line plain (Err x) h = tt
event_some names line plain (Ok None) h = tt
event_some names line plain (Ok (Some e)) h = (sym (line_of_words line) ∙ ap line_of h.0.0, h.0.1, h.0.2, h.1)

-- and nothing else does
pub event_only : {E : Type 0} (names : List (List ℕ)) → AreNames names → (line : List ℕ) (plain : Bool) (r : Result (Option Event) E) → IfOk r (λ read. read ≡ event_of names plain (words_in line))
    → IfOk r (λ read. IfSome read (λ e. (f : Event) → FitsEvent f → IsEvent names f → is_plain f ≡ plain → event_spelling names f ≡ line → f ≡ e))
event_only names are line plain (Err x) h = tt
event_only names are line plain (Ok None) h = tt
event_only names are line plain (Ok (Some e)) h = λ f fits is side spelled. same_Some f e (sym (h ∙ event_found names are line plain f fits is side spelled))

pub event_none : {E : Type 0} (names : List (List ℕ)) → AreNames names → (line : List ℕ) (plain : Bool) (r : Result (Option Event) E) → IfOk r (λ read. read ≡ event_of names plain (words_in line))
    → IfOk r (λ read. IfNone read ((e : Event) → FitsEvent e → IsEvent names e → is_plain e ≡ plain → event_spelling names e ≡ line → ⊥))
event_none names are line plain (Err x) h = tt
event_none names are line plain (Ok (Some e)) h = tt
event_none names are line plain (Ok None) h = λ e fits is side spelled. none-some e (h ∙ event_found names are line plain e fits is side spelled)

-- what is read of a wire session's line
pub wire_spelled : {E : Type 0} (names words : List (List ℕ)) (plain : Bool) (r : Result (Option Event) E) → plain ≡ false → IfOk r (λ read. IfSome read (SpellsWire names words))
    → IfOk r (λ read. IfSome read (λ e. SpellsEvent names words e × (is_plain e ≡ plain)))
wire_spelled names words plain (Err x) side h = tt
wire_spelled names words plain (Ok None) side h = tt
wire_spelled names words plain (Ok (Some e)) side h = ((h.0, h.1, h.2), h.3 ∙ sym side)
