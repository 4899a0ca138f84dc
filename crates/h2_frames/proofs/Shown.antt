-- Which fault some octets show.
use Rattle.std.proofs.Common.{◌≡◌, ℕ, ◌+◌, ◌<◌, ◌≤◌, Bool, true, false, cond, ltb, List, ◌++◌, length, take, Option, Some, None, refl, sym, ap, subst, ◌∙◌, arith, inl, inr}
use Rattle.std.proofs.lemmas.Bool.{le-ltb, lt-ltb, ltb-false, cases_lt, false≢true}
use Rattle.std.proofs.lemmas.List.{length-append, take-append-le, take_at}
use Rattle.std.proofs.Math.Seq.{take-append-add}
use Rattle.h2_frames.specs.declared.types.FrameFault.{FrameFault}
use Rattle.h2_frames.specs.declared.types.FrameFault.TheVariants as fault
use Rattle.h2_frames.specs.Frame.{Frame}
use Rattle.h2_frames.specs.Payload.{Says}
use Rattle.h2_frames.specs.Head.{Head, head_octets}
use Rattle.h2_frames.specs.Fault.{first_fault, first_of, forbids_length, forbids_stream, head_fault, payload_fault}
use Rattle.h2_frames.specs.Frames.{Begins, BeginsNoFrame, Shows, ShowsNoFault, SpellsFrame}
use Rattle.h2_frames.specs.Reading.{BeginsWhole}
use Rattle.h2_frames.proofs.Heads.{begins_once, begins-more}
use Rattle.h2_frames.proofs.Faultless.{frame_shows_none}

none_is : (f : FrameFault) → None ≡ Some f → ⊥
none_is f e = cc

abbrev shown : FrameFault → Option FrameFault
shown f = Some f

same_shown : (f g : FrameFault) → shown f ≡ shown g → f ≡ g
same_shown f g e = cc

pub fault_once : (max : ℕ) (octets : List ℕ) (fault other : FrameFault) → Shows max octets fault → Shows max octets other → fault ≡ other
fault_once max octets fault other a b =
    let both = begins_once octets a.0 b.0 a.1 b.1 a.2 b.2 in
    let moved : first_fault max b.0 b.1 ≡ Some fault = subst (λ (h : Head). first_fault max h b.1 ≡ Some fault) both.0 (subst (λ (l : List ℕ). first_fault max a.0 l ≡ Some fault) both.1 a.3) in
    same_shown fault other (sym moved ∙ b.3)

-- more octets show no other fault
kept : (max : ℕ) (len : ℕ) (first : Option FrameFault) (whole : List ℕ → Option FrameFault) (came more : List ℕ) (short : Bool) (fault : FrameFault)
    → short ≡ ltb (length came) len → first_of first (cond short None (whole (take len came))) ≡ Some fault
    → first_of first (cond (ltb (length (came ++ more)) len) None (whole (take len (came ++ more)))) ≡ Some fault
kept max len (Some f) whole came more short fault e h = h
kept max len None whole came more true fault e h = absurd (none_is fault h)
kept max len None whole came more false fault e h =
    elim (cases_lt (length came) len) [
      | inl lt ↦ absurd (false≢true (e ∙ lt-ltb _ _ lt))
      | inr le ↦ rw (le-ltb (length (came ++ more)) len (omega (arith, length-append came more)), take-append-le len came more le) h
    ]

pub fault_stays : (max : ℕ) (octets more : List ℕ) (fault : FrameFault) → Shows max octets fault → Shows max (octets ++ more) fault
fault_stays max octets more fault a =
    (a.0, a.1 ++ more, begins-more octets more a.0 a.1 a.2, kept max a.0.len (head_fault max a.0) (payload_fault a.0) a.1 more (ltb (length a.1) a.0.len) fault refl a.3)

-- what a frame shows at the front of some octets
frame_front : (max : ℕ) (octets piece after : List ℕ) (frame : Frame) (e : octets ≡ piece ++ after) (s : SpellsFrame max piece frame) → Begins octets s.head (s.payload ++ after)
frame_front max octets piece after frame e s = subst (λ (l : List ℕ). Begins l s.head (s.payload ++ after)) (sym e) (begins-more piece after s.head s.payload s.begins)

pub fault_no_frame : (max : ℕ) (octets : List ℕ) (fault : FrameFault) → Shows max octets fault → BeginsNoFrame max octets
fault_no_frame max octets fault a piece after frame e s =
    let both = begins_once octets a.0 s.head a.1 (s.payload ++ after) a.2 (frame_front max octets piece after frame e s) in
    let moved : first_fault max s.head (s.payload ++ after) ≡ Some fault = subst (λ (h : Head). first_fault max h (s.payload ++ after) ≡ Some fault) both.0 (subst (λ (l : List ℕ). first_fault max a.0 l ≡ Some fault) both.1 a.3) in
    none_is fault (sym (frame_shows_none max s.head s.payload after frame s.whole s.within s.says) ∙ moved)

pub shown_by_head : (max : ℕ) (octets : List ℕ) (h : Head) (came : List ℕ) (fault : FrameFault) → Begins octets h came → head_fault max h ≡ Some fault → Shows max octets fault
shown_by_head max octets h came fault b e = (h, came, b, rw e refl)

pub part_no_fault : (max : ℕ) (octets : List ℕ) (h : Head) (came : List ℕ) → Begins octets h came → head_fault max h ≡ None → length came < h.len → ShowsNoFault max octets
part_no_fault max octets h came b none short fault a =
    let both = begins_once octets h a.0 came a.1 b a.2 in
    let ours : first_fault max h came ≡ None = rw (none, lt-ltb _ _ short) refl in
    let moved : first_fault max a.0 a.1 ≡ None = subst (λ (g : Head). first_fault max g a.1 ≡ None) both.0 (subst (λ (l : List ℕ). first_fault max h l ≡ None) both.1 ours) in
    none_is fault (sym moved ∙ a.3)

pub part_no_frame : (max : ℕ) (octets : List ℕ) (h : Head) (came : List ℕ) → Begins octets h came → length came < h.len → BeginsNoFrame max octets
part_no_frame max octets h came b short piece after frame e s =
    let both = begins_once octets h s.head came (s.payload ++ after) b (frame_front max octets piece after frame e s) in
    let lens : h.len ≡ s.head.len = ap (λ (g : Head). g.len) both.0 in
    absurd (omega (arith, ap length both.1, length-append s.payload after, s.whole))

not_first : (b : Bool) (f : FrameFault) (x : Option FrameFault) → cond b (Some f) x ≡ None → (b ≡ false) × (x ≡ None)
not_first true f x e = absurd (none_is f (sym e))
not_first false f x e = (refl, e)

-- a head without a fault tells a length within the greatest
within : (max : ℕ) (h : Head) → head_fault max h ≡ None → h.len ≤ max
within max h e = ltb-false max h.len (not_first (ltb max h.len) fault.TooLong (cond (forbids_stream h) (Some fault.BadStream) (cond (forbids_length h) (Some fault.BadSize) None)) e).0

-- the octets of a head and of its payload are those that they begin with
whole_front : (octets : List ℕ) (h : Head) (payload after : List ℕ) → length payload ≡ h.len → Begins octets h (payload ++ after) → Begins (take (h.len + 9) octets) h payload
whole_front octets h payload after whole b = record {
  fits = b.fits;
  reserved = b.reserved;
  front =
      let moved : take (h.len + 9) octets ≡ take (9 + h.len) (head_octets b.reserved h ++ (payload ++ after)) = ap (take (h.len + 9)) b.front ∙ ap (λ (n : ℕ). take n (head_octets b.reserved h ++ (payload ++ after))) (omega arith) in
      moved ∙ take-append-add (head_octets b.reserved h) (payload ++ after) h.len ∙ ap (λ (l : List ℕ). head_octets b.reserved h ++ l) (take_at payload after h.len whole);
}

-- what a whole payload says is the frame at the front
pub frame_by_payload : (max : ℕ) (octets : List ℕ) (h : Head) (payload : List ℕ) (f : Frame) → BeginsWhole max octets h payload → Says h payload f → (h.len + 9 ≤ length octets) × SpellsFrame max (take (h.len + 9) octets) f
frame_by_payload max octets h payload f b says = (
  omega (arith, ap length b.begins.front, length-append (head_octets b.begins.reserved h) (payload ++ b.after), length-append payload b.after, b.whole),
  record {
    head = h;
    payload = payload;
    begins = whole_front octets h payload b.after b.whole b.begins;
    whole = b.whole;
    within = within max h b.sound;
    says = says;
  },
)

-- a fault that a whole payload shows is the first one
pub shown_by_payload : (max : ℕ) (octets : List ℕ) (h : Head) (payload : List ℕ) (fault : FrameFault) → BeginsWhole max octets h payload → payload_fault h payload ≡ Some fault → Shows max octets fault
shown_by_payload max octets h payload fault b e =
    let long : h.len ≤ length (payload ++ b.after) = omega (arith, length-append payload b.after, b.whole) in
    (h, payload ++ b.after, b.begins, rw (b.sound, le-ltb (length (payload ++ b.after)) h.len long, take_at payload b.after h.len b.whole) e)
