-- A head and a payload say one frame at most.
use Rattle.std.proofs.Common.{◌≡◌, ℕ, ◌^◌, ◌<◌, Bool, true, false, List, [], ◌∷◌, ◌++◌, length, Option, Some, None, refl, sym, ap, subst, ◌∙◌, arith}
use Rattle.std.specs.Int.{w32, to_be_bytes}
use Rattle.std.proofs.lemmas.List.{length-append}
use Rattle.h2_frames.specs.declared.types.Weighting.{Weighting}
use Rattle.h2_frames.specs.Frame.{Continuation, DataFrame, Frame, GoAway, Headers, Ping, Priority, Push, Reset, Settings, Unknown, WindowUpdate}
use Rattle.h2_frames.specs.Head.{Head, tells_padding, tells_priority, word}
use Rattle.h2_frames.specs.Payload.{Is31Bits, IsPadded, IsWeighted, Says, weighting_octets}
use Rattle.h2_frames.proofs.Heads.{number_once, split_once, word_once}

padded_once : (b : Bool) (payload : List ℕ) (n m : ℕ) (c d : List ℕ) → IsPadded b payload n c → IsPadded b payload m d → (n ≡ m) × (c ≡ d)
padded_once false payload n m c d one other = (one.1 ∙ sym other.1, sym one.0 ∙ other.0)
padded_once true payload n m c d one other =
    let front = tails one.0 other.0 (c ++ one.1) (d ++ other.1) (sym one.2 ∙ other.2) in
    let lens : length c ≡ length d = omega (arith, ap length front.1, length-append c one.1, length-append d other.1, one.3, other.3, front.0) in
    (omega (arith, one.4, other.4, front.0), (split_once c d one.1 other.1 lens front.1).0)
  where
    tails : (a b : ℕ) (x y : List ℕ) → a ∷ x ≡ b ∷ y → (a ≡ b) × (x ≡ y)
    tails a b x y e = (cc, cc)

abbrev weighting_with : Bool → ℕ → ℕ → Weighting
weighting_with e d w = record { exclusive = e; dependency = d; weight = w }

same_weighting : (e f : Bool) (d i w v : ℕ) → e ≡ f → d ≡ i → w ≡ v → weighting_with e d w ≡ weighting_with f i v
same_weighting e f d i w v a b c = cc

weighting_once : (w v : Weighting) (x y : List ℕ) → w.dependency < 2 ^ 31 → v.dependency < 2 ^ 31 → weighting_octets w ++ x ≡ weighting_octets v ++ y → (w ≡ v) × (x ≡ y)
weighting_once w v x y h i e =
    let front = word_once w.exclusive v.exclusive w.dependency v.dependency (w.weight ∷ x) (v.weight ∷ y) h i e in
    (same_weighting w.exclusive v.exclusive w.dependency v.dependency w.weight v.weight front.0 front.1 (heads w.weight v.weight x y front.2).0, (heads w.weight v.weight x y front.2).1)
  where
    heads : (a b : ℕ) (x y : List ℕ) → a ∷ x ≡ b ∷ y → (a ≡ b) × (x ≡ y)
    heads a b x y e = (cc, cc)

weighted_once : (b : Bool) (p q : Option Weighting) (content x y : List ℕ) → IsWeighted b p content x → IsWeighted b q content y → (p ≡ q) × (x ≡ y)
weighted_once b None None content x y one other = (refl, sym one.1 ∙ other.1)
weighted_once b None (Some v) content x y one other = absurd (apart b one.0 other.0)
  where
    apart : (b : Bool) → b ≡ false → b ≡ true → ⊥
    apart b e f = cc
weighted_once b (Some w) None content x y one other = absurd (apart b one.0 other.0)
  where
    apart : (b : Bool) → b ≡ true → b ≡ false → ⊥
    apart b e f = cc
weighted_once b (Some w) (Some v) content x y one other =
    let front = weighting_once w v x y one.2 other.2 (sym one.1 ∙ other.1) in
    (ap (λ (u : Weighting). Some u) front.0, front.1)

bits_once : (n m : ℕ) (x y p q : List ℕ) → Is31Bits n x → Is31Bits m y → x ++ p ≡ y ++ q → (n ≡ m) × (p ≡ q)
bits_once n m x y p q one other e =
    let moved : word one.0 n ++ p ≡ word other.0 m ++ q = ap (λ (l : List ℕ). l ++ p) (sym one.1) ∙ e ∙ ap (λ (l : List ℕ). l ++ q) other.1 in
    let both = word_once one.0 other.0 n m p q one.2 other.2 moved in
    (both.1, both.2)

bare_once : (n m : ℕ) (x : List ℕ) → Is31Bits n x → Is31Bits m x → n ≡ m
bare_once n m x one other = (bits_once n m x x [] [] one other refl).0

code_once : (a b : ℕ) (x : List ℕ) → a < 2 ^ 32 → b < 2 ^ 32 → x ≡ to_be_bytes w32 a → x ≡ to_be_bytes w32 b → a ≡ b
code_once a b x h i e f = (number_once a b [] [] h i (sym e ∙ f)).0

data_once : (h : Head) (p : List ℕ) (s : ℕ) (l : Bool) (n : ℕ) (o : List ℕ) (g : Frame) → Says h p (DataFrame s l n o) → Says h p g → DataFrame s l n o ≡ g
data_once h p s l n o (DataFrame t m k u) a b =
    let content = padded_once (tells_padding h) p n k o u a.4 b.4 in
    made s t l m n k o u (sym a.2 ∙ b.2) (sym a.3 ∙ b.3) content.0 content.1
  where
    made : (s t : ℕ) (l m : Bool) (n k : ℕ) (o u : List ℕ) → s ≡ t → l ≡ m → n ≡ k → o ≡ u → DataFrame s l n o ≡ DataFrame t m k u
    made s t l m n k o u a b c d = cc
data_once h p s l n o g a b = absurd (omega arith)

headers_once : (h : Head) (p : List ℕ) (s : ℕ) (l e : Bool) (n : ℕ) (w : Option Weighting) (o : List ℕ) (g : Frame) → Says h p (Headers s l e n w o) → Says h p g → Headers s l e n w o ≡ g
headers_once h p s l e n w o (Headers t m d k v u) a b =
    let content = padded_once (tells_padding h) p n k a.5.0 b.5.0 a.5.1 b.5.1 in
    let moved : IsWeighted (tells_priority h) v a.5.0 u = subst (λ (c : List ℕ). IsWeighted (tells_priority h) v c u) (sym content.1) b.5.2 in
    let block = weighted_once (tells_priority h) w v a.5.0 o u a.5.2 moved in
    made s t l m e d n k w v o u (sym a.2 ∙ b.2) (sym a.3 ∙ b.3) (sym a.4 ∙ b.4) content.0 block.0 block.1
  where
    made : (s t : ℕ) (l m e d : Bool) (n k : ℕ) (w v : Option Weighting) (o u : List ℕ) → s ≡ t → l ≡ m → e ≡ d → n ≡ k → w ≡ v → o ≡ u → Headers s l e n w o ≡ Headers t m d k v u
    made s t l m e d n k w v o u a b c f i j = cc
headers_once h p s l e n w o g a b = absurd (omega arith)

priority_once : (h : Head) (p : List ℕ) (s : ℕ) (w : Weighting) (g : Frame) → Says h p (Priority s w) → Says h p g → Priority s w ≡ g
priority_once h p s w (Priority t v) a b =
    made s t w v (sym a.2 ∙ b.2) (weighting_once w v [] [] a.4 b.4 (sym a.3 ∙ b.3)).0
  where
    made : (s t : ℕ) (w v : Weighting) → s ≡ t → w ≡ v → Priority s w ≡ Priority t v
    made s t w v a b = cc
priority_once h p s w g a b = absurd (omega arith)

reset_once : (h : Head) (p : List ℕ) (s c : ℕ) (g : Frame) → Says h p (Reset s c) → Says h p g → Reset s c ≡ g
reset_once h p s c (Reset t d) a b = made s t c d (sym a.2 ∙ b.2) (code_once c d p a.4 b.4 a.3 b.3)
  where
    made : (s t c d : ℕ) → s ≡ t → c ≡ d → Reset s c ≡ Reset t d
    made s t c d a b = cc
reset_once h p s c g a b = absurd (omega arith)

settings_once : (h : Head) (p : List ℕ) (k : Bool) (o : List ℕ) (g : Frame) → Says h p (Settings k o) → Says h p g → Settings k o ≡ g
settings_once h p k o (Settings l u) a b = made k l o u (sym a.2 ∙ b.2) (sym a.3 ∙ b.3)
  where
    made : (k l : Bool) (o u : List ℕ) → k ≡ l → o ≡ u → Settings k o ≡ Settings l u
    made k l o u a b = cc
settings_once h p k o g a b = absurd (omega arith)

push_once : (h : Head) (p : List ℕ) (s : ℕ) (e : Bool) (n r : ℕ) (o : List ℕ) (g : Frame) → Says h p (Push s e n r o) → Says h p g → Push s e n r o ≡ g
push_once h p s e n r o (Push t d m q u) a b =
    let content = padded_once (tells_padding h) p n m a.4.0 b.4.0 a.4.2 b.4.2 in
    let block = bits_once r q a.4.1 b.4.1 o u a.4.4 b.4.4 (sym a.4.3 ∙ content.1 ∙ b.4.3) in
    made s t e d n m r q o u (sym a.2 ∙ b.2) (sym a.3 ∙ b.3) content.0 block.0 block.1
  where
    made : (s t : ℕ) (e d : Bool) (n m r q : ℕ) (o u : List ℕ) → s ≡ t → e ≡ d → n ≡ m → r ≡ q → o ≡ u → Push s e n r o ≡ Push t d m q u
    made s t e d n m r q o u a b c f i = cc
push_once h p s e n r o g a b = absurd (omega arith)

ping_once : (h : Head) (p : List ℕ) (k : Bool) (o : List ℕ) (g : Frame) → Says h p (Ping k o) → Says h p g → Ping k o ≡ g
ping_once h p k o (Ping l u) a b = made k l o u (sym a.2 ∙ b.2) (sym a.3 ∙ b.3)
  where
    made : (k l : Bool) (o u : List ℕ) → k ≡ l → o ≡ u → Ping k o ≡ Ping l u
    made k l o u a b = cc
ping_once h p k o g a b = absurd (omega arith)

goaway_once : (h : Head) (p : List ℕ) (l c : ℕ) (o : List ℕ) (g : Frame) → Says h p (GoAway l c o) → Says h p g → GoAway l c o ≡ g
goaway_once h p l c o (GoAway m d u) a b =
    let front = bits_once l m a.2.0 b.2.0 (to_be_bytes w32 c ++ o) (to_be_bytes w32 d ++ u) a.2.1 b.2.1 (sym a.2.2 ∙ b.2.2) in
    let back = number_once c d o u a.3 b.3 front.1 in
    made l m c d o u front.0 back.0 back.1
  where
    made : (l m c d : ℕ) (o u : List ℕ) → l ≡ m → c ≡ d → o ≡ u → GoAway l c o ≡ GoAway m d u
    made l m c d o u a b e = cc
goaway_once h p l c o g a b = absurd (omega arith)

update_once : (h : Head) (p : List ℕ) (s n : ℕ) (g : Frame) → Says h p (WindowUpdate s n) → Says h p g → WindowUpdate s n ≡ g
update_once h p s n (WindowUpdate t m) a b = made s t n m (sym a.1 ∙ b.1) (bare_once n m p a.2 b.2)
  where
    made : (s t n m : ℕ) → s ≡ t → n ≡ m → WindowUpdate s n ≡ WindowUpdate t m
    made s t n m a b = cc
update_once h p s n g a b = absurd (omega arith)

continuation_once : (h : Head) (p : List ℕ) (s : ℕ) (e : Bool) (o : List ℕ) (g : Frame) → Says h p (Continuation s e o) → Says h p g → Continuation s e o ≡ g
continuation_once h p s e o (Continuation t d u) a b = made s t e d o u (sym a.2 ∙ b.2) (sym a.3 ∙ b.3) (sym a.4 ∙ b.4)
  where
    made : (s t : ℕ) (e d : Bool) (o u : List ℕ) → s ≡ t → e ≡ d → o ≡ u → Continuation s e o ≡ Continuation t d u
    made s t e d o u a b c = cc
continuation_once h p s e o g a b = absurd (omega arith)

unknown_once : (h : Head) (p : List ℕ) (k f s : ℕ) (o : List ℕ) (g : Frame) → Says h p (Unknown k f s o) → Says h p g → Unknown k f s o ≡ g
unknown_once h p k f s o (Unknown l e t u) a b = made k l f e s t o u (sym a.1 ∙ b.1) (sym a.2 ∙ b.2) (sym a.3 ∙ b.3) (sym a.4 ∙ b.4)
  where
    made : (k l f e s t : ℕ) (o u : List ℕ) → k ≡ l → f ≡ e → s ≡ t → o ≡ u → Unknown k f s o ≡ Unknown l e t u
    made k l f e s t o u a b c d = cc
unknown_once h p k f s o g a b = absurd (omega arith)

pub says_once : (h : Head) (p : List ℕ) (f g : Frame) → Says h p f → Says h p g → f ≡ g
says_once h p (DataFrame s l n o) g a b = data_once h p s l n o g a b
says_once h p (Headers s l e n w o) g a b = headers_once h p s l e n w o g a b
says_once h p (Priority s w) g a b = priority_once h p s w g a b
says_once h p (Reset s c) g a b = reset_once h p s c g a b
says_once h p (Settings k o) g a b = settings_once h p k o g a b
says_once h p (Push s e n r o) g a b = push_once h p s e n r o g a b
says_once h p (Ping k o) g a b = ping_once h p k o g a b
says_once h p (GoAway l c o) g a b = goaway_once h p l c o g a b
says_once h p (WindowUpdate s n) g a b = update_once h p s n g a b
says_once h p (Continuation s e o) g a b = continuation_once h p s e o g a b
says_once h p (Unknown k f s o) g a b = unknown_once h p k f s o g a b
