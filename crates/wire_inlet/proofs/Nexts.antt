-- A frame that is taken from the octets that aren't read.
use Rattle.std.proofs.Common.{◌≡◌, ℕ, ◌+◌, ◌-◌, ◌<◌, ◌^◌, true, List, ◌++◌, length, take, drop, sym, ap, ◌∙◌, arith}
use Rattle.std.proofs.Math.Seq.{drop-append-add}
use Rattle.std.proofs.lemmas.List.{length-append, take-append-drop}
use Rattle.h2_frames.specs.Frame.{Frame}
use Rattle.h2_frames.specs.Frames.{SpellsFrame}
use Rattle.h2_session.specs.Acts.{stream_of}
use Rattle.wire_inlet.specs.Incoming.{AreBehind, Incoming, meaning_of, preface_left}
use Rattle.wire_inlet.specs.Meaning.{IsKnown, Means}
use Rattle.wire_inlet.specs.Next.{IsWithin, TakesFrame}
use Rattle.wire_inlet.specs.declared.intake.Taken.{Taken}
use Rattle.wire_inlet.proofs.Spelled.{content_within}

-- behind a front and a piece of what follows it, where the octets are looked at as a slice
pub left_behind : (front frames octets slice : List ℕ) (used read : ℕ) → slice ≡ octets → slice ≡ front ++ frames → read ≡ length slice - length frames + used
    → drop read octets ≡ drop used frames
left_behind front frames octets slice used read is e at =
    let n : read ≡ length front + used = omega (arith, ap length e, length-append front frames, at) in
    ap (λ (k : ℕ). drop k octets) n ∙ ap (λ (l : List ℕ). drop (length front + used) l) (sym is ∙ e) ∙ drop-append-add front frames used

-- a frame of so many octets was taken from those behind the preface
pub takes : (max : ℕ) (old new : Incoming) (taken : Taken) (frame : Frame) (frames : List ℕ) (used : ℕ) → AreBehind old frames
    → SpellsFrame max (take used frames) frame → new.unread ≡ drop used frames → Means frame (meaning_of old) taken (meaning_of new)
    → new.prefaced ≡ true → TakesFrame max old taken new
takes max old new taken frame frames used behind spells left means prefaced = record {
  frame = frame;
  piece = take used frames;
  unread = behind ∙ ap (λ (l : List ℕ). preface_left old.prefaced ++ l) (sym (take-append-drop used frames) ∙ ap (λ (l : List ℕ). take used frames ++ l) (sym left));
  spells = spells;
  means = means;
  prefaced = prefaced;
}

-- the numbers of a frame that was taken
pub within : (max : ℕ) (old new : Incoming) (taken : Taken) → TakesFrame max old taken new → stream_of taken.act < 2 ^ 31 → IsKnown taken.reading → IsWithin max old taken new
within max old new taken t stream fields =
    let content = content_within max t.piece t.frame t.spells in
    record {
      stream = stream;
      fields = fields;
      content = omega (arith, content.0, t.means.content);
      read = omega (arith, content.1, t.means.content, ap length t.unread, length-append (preface_left old.prefaced) (t.piece ++ new.unread), length-append t.piece new.unread);
    }
