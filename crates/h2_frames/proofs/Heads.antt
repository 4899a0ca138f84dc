-- Octets begin with one head at most.
use Rattle.std.proofs.Common.{◌≡◌, ℕ, ◌+◌, ◌/◌, ◌%◌, ◌^◌, ◌<◌, Bool, true, false, cond, List, ◌∷◌, ◌++◌, length, take, drop, refl, sym, ap, ◌∙◌, append_assoc, arith}
use Rattle.std.specs.Int.{w32, to_be_bytes, from_be_bytes}
use Rattle.std.proofs.lemmas.List.{take_at, drop_at}
use Rattle.std.proofs.lemmas.Nat.{from_be_bytes-to_be_bytes_4}
use Rattle.h2_frames.specs.Head.{Head, FitsHead, word, head_octets}
use Rattle.h2_frames.specs.Frames.{Begins}

-- two lists that begin with pieces of one length
pub split_once : {A : Type 0} (a b x y : List A) → length a ≡ length b → a ++ x ≡ b ++ y → (a ≡ b) × (x ≡ y)
split_once a b x y same e = (
  sym (take_at a x (length a) refl) ∙ ap (take (length a)) e ∙ take_at b y (length a) (sym same),
  sym (drop_at a x (length a) refl) ∙ ap (drop (length a)) e ∙ drop_at b y (length a) (sym same),
)

pub number_once : (a b : ℕ) (x y : List ℕ) → a < 2 ^ 32 → b < 2 ^ 32 → to_be_bytes w32 a ++ x ≡ to_be_bytes w32 b ++ y → (a ≡ b) × (x ≡ y)
number_once a b x y below other e = (
  sym (from_be_bytes-to_be_bytes_4 a below) ∙ ap (λ (l : List ℕ). from_be_bytes w32 (take 4 l)) e ∙ from_be_bytes-to_be_bytes_4 b other,
  ap (drop 4) e,
)

same_numbers : (p q : Bool) (a b : ℕ) → a < 2 ^ 31 → b < 2 ^ 31 → cond p (2 ^ 31 + a) a ≡ cond q (2 ^ 31 + b) b → (p ≡ q) × (a ≡ b)
same_numbers true true a b h i e = (refl, omega arith)
same_numbers true false a b h i e = absurd (omega arith)
same_numbers false true a b h i e = absurd (omega arith)
same_numbers false false a b h i e = (refl, omega arith)

below_32 : (p : Bool) (a : ℕ) → a < 2 ^ 31 → cond p (2 ^ 31 + a) a < 2 ^ 32
below_32 true a h = omega arith
below_32 false a h = omega arith

pub word_once : (p q : Bool) (a b : ℕ) (x y : List ℕ) → a < 2 ^ 31 → b < 2 ^ 31 → word p a ++ x ≡ word q b ++ y → (p ≡ q) × (a ≡ b) × (x ≡ y)
word_once p q a b x y h i e =
    let both = number_once (cond p (2 ^ 31 + a) a) (cond q (2 ^ 31 + b) b) x y (below_32 p a h) (below_32 q b i) e in
    let numbers = same_numbers p q a b h i both.0 in
    (numbers.0, numbers.1, both.1)

cells : (a b c d e f g h i j : ℕ) (x y : List ℕ) → a ∷ b ∷ c ∷ d ∷ e ∷ x ≡ f ∷ g ∷ h ∷ i ∷ j ∷ y → (a ≡ f) × (b ≡ g) × (c ≡ h) × (d ≡ i) × (e ≡ j) × (x ≡ y)
cells a b c d e f g h i j x y same = (cc, cc, cc, cc, cc, cc)

length_once : (a b : ℕ) → a < 2 ^ 24 → b < 2 ^ 24 → a / 256 ^ 2 % 256 ≡ b / 256 ^ 2 % 256 → a / 256 ^ 1 % 256 ≡ b / 256 ^ 1 % 256 → a % 256 ≡ b % 256 → a ≡ b
length_once a b h i high mid low = omega arith

abbrev head_with : ℕ → ℕ → ℕ → ℕ → Head
head_with l k f s = record { len = l; kind = k; flags = f; stream = s }

made : (l m k j f g s t : ℕ) → l ≡ m → k ≡ j → f ≡ g → s ≡ t → head_with l k f s ≡ head_with m j g t
made l m k j f g s t a b c d = cc

pub head_once : (p q : Bool) (a b : Head) (x y : List ℕ) → FitsHead a → FitsHead b → head_octets p a ++ x ≡ head_octets q b ++ y → (a ≡ b) × (x ≡ y)
head_once p q a b x y fits others e =
    let front = cells _ _ _ _ _ _ _ _ _ _ (word p a.stream ++ x) (word q b.stream ++ y) e in
    let back = word_once p q a.stream b.stream x y fits.stream others.stream front.5 in
    let lens : a.len ≡ b.len = length_once a.len b.len fits.len others.len front.0 front.1 front.2 in
    (made a.len b.len a.kind b.kind a.flags b.flags a.stream b.stream lens front.3 front.4 back.1, back.2)

pub begins_once : (octets : List ℕ) (a b : Head) (x y : List ℕ) → Begins octets a x → Begins octets b y → (a ≡ b) × (x ≡ y)
begins_once octets a b x y one other = head_once one.reserved other.reserved a b x y one.fits other.fits (sym one.front ∙ other.front)

-- more octets behind those that came
pub begins-more : (octets more : List ℕ) (head : Head) (came : List ℕ) → Begins octets head came → Begins (octets ++ more) head (came ++ more)
begins-more octets more head came b = record {
  fits = b.fits;
  reserved = b.reserved;
  front = ap (λ (l : List ℕ). l ++ more) b.front ∙ append_assoc (head_octets b.reserved head) came more;
}
