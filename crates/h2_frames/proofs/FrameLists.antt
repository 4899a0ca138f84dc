-- The frames of a list of octets are one list, however the octets are cut.
use Rattle.std.proofs.Common.{◌≡◌, ℕ, List, [], ◌∷◌, ◌++◌, refl, sym, ap, subst, ◌∙◌, append_assoc}
use Rattle.std.proofs.lemmas.List.{append_cancel_right}
use Rattle.h2_frames.specs.Frame.{Frame}
use Rattle.h2_frames.specs.Head.{Head}
use Rattle.h2_frames.specs.Payload.{Says}
use Rattle.h2_frames.specs.Frames.{AreFrames, Begins, IsReading, SpellsFrame}
use Rattle.h2_frames.proofs.Heads.{begins_once, begins-more, split_once}
use Rattle.h2_frames.proofs.Once.{says_once}

pub cut : (max : ℕ) (octets more : List ℕ) (frames others : List Frame) (rest other : List ℕ) → AreFrames max octets frames rest → AreFrames max (rest ++ more) others other → AreFrames max (octets ++ more) (frames ++ others) other
cut max octets more [] others rest other e a = subst (λ (l : List ℕ). AreFrames max (l ++ more) others other) (sym e) a
cut max octets more (f ∷ fs) others rest other h a =
    (h.0, h.1 ++ more, ap (λ (l : List ℕ). l ++ more) h.2 ∙ append_assoc h.0 h.1 more, h.3, cut max h.1 more fs others rest other h.4 a)

-- the frame at the front is one, and so is what stands behind it
pub record SameFront (p q a b : List ℕ) (f g : Frame) : Type 0 where
  pub frame : f ≡ g
  pub piece : p ≡ q
  pub after : a ≡ b

pub frame_once : (max : ℕ) (p q a b : List ℕ) (f g : Frame) → SpellsFrame max p f → SpellsFrame max q g → p ++ a ≡ q ++ b → SameFront p q a b f g
frame_once max p q a b f g one other e =
    let ours = begins-more p a one.head one.payload one.begins in
    let theirs = begins-more q b other.head other.payload other.begins in
    let both = begins_once (p ++ a) one.head other.head (one.payload ++ a) (other.payload ++ b) ours (subst (λ (l : List ℕ). Begins l other.head (other.payload ++ b)) (sym e) theirs) in
    let lens : one.head.len ≡ other.head.len = ap (λ (h : Head). h.len) both.0 in
    let parts = split_once one.payload other.payload a b (one.whole ∙ lens ∙ sym other.whole) both.1 in
    let again : Says other.head other.payload f = subst (λ (h : Head). Says h other.payload f) both.0 (subst (λ (l : List ℕ). Says one.head l f) parts.0 one.says) in
    record {
      frame = says_once other.head other.payload f g again other.says;
      piece = append_cancel_right p q a (e ∙ ap (λ (l : List ℕ). q ++ l) (sym parts.1));
      after = parts.1;
    }

pub reading_once : (max : ℕ) (octets : List ℕ) (frames others : List Frame) (rest other : List ℕ) → IsReading max octets frames rest → IsReading max octets others other → (frames ≡ others) × (rest ≡ other)
reading_once max octets [] [] rest other r s = (refl, sym r.frames_are ∙ s.frames_are)
reading_once max octets [] (g ∷ gs) rest other r s = absurd (r.no_more s.frames_are.0 s.frames_are.1 g (sym r.frames_are ∙ s.frames_are.2) s.frames_are.3)
reading_once max octets (f ∷ fs) [] rest other r s = absurd (s.no_more r.frames_are.0 r.frames_are.1 f (sym s.frames_are ∙ r.frames_are.2) r.frames_are.3)
reading_once max octets (f ∷ fs) (g ∷ gs) rest other r s =
    let a = r.frames_are in
    let b = s.frames_are in
    let front = frame_once max a.0 b.0 a.1 b.1 f g a.3 b.3 (sym a.2 ∙ b.2) in
    let theirs : AreFrames max a.1 gs other = subst (λ (l : List ℕ). AreFrames max l gs other) (sym front.after) b.4 in
    let behind = reading_once max a.1 fs gs rest other (record { frames_are = a.4; no_more = r.no_more }) (record { frames_are = theirs; no_more = s.no_more }) in
    (joined f g fs gs front.frame behind.0, behind.1)
  where
    joined : (f g : Frame) (fs gs : List Frame) → f ≡ g → fs ≡ gs → f ∷ fs ≡ g ∷ gs
    joined f g fs gs x y = cc
