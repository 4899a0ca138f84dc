-- Which exchange is reset next.
use Rattle.std.proofs.Common.{◌≡◌, ℕ, zero, suc, ◌+◌, ◌-◌, ◌<◌, List, [], ◌∷◌, ◌++◌, map, length, take, drop, get_or, refl, ap, ◌∙◌, add-one, drop-cons, arith}
use Rattle.std.specs.Prelude.{Option, None, Some, MatchOption, reverse}
use Rattle.std.specs.Borrow.{Bor}
use Rattle.std.specs.Option.{option_copied}
use Rattle.std.specs.List.{flat_map}
use Rattle.std.proofs.lemmas.List.{get_or-reverse, length-reverse}
use denote.RawPtr.{Ptr}
use Rattle.link_lists.specs.Lists.{front_of, head_of}
use Rattle.overload_core.specs.Accounts.{first_of}
use Rattle.overload_core.specs.Tied.{classes_of}

abbrev Nodes : Type 0
Nodes = List (Ptr × ℕ)

-- the lists, one behind the other
abbrev joined : List (List ℕ) → List ℕ
joined = flat_map (λ l. l)

abbrev pub snd_of : Option (Ptr × ℕ) → Option ℕ
snd_of None = None
snd_of (Some n) = Some n.1

head-first : (l : Nodes) → first_of (map (λ n. n.1) l) ≡ snd_of (head_of l)
head-first [] = refl
head-first (n ∷ l) = refl

front-first : (k : ℕ) (ls : List Nodes) → first_of (get_or (classes_of ls) k []) ≡ snd_of (front_of k ls)
unfolding front_of
front-first k [] = refl
front-first zero (l ∷ ls) = head-first l
front-first (suc k) (l ∷ ls) = front-first k ls

first-behind : (xs ys : List ℕ) → first_of xs ≡ None → first_of (xs ++ ys) ≡ first_of ys
first-behind [] ys h = refl
first-behind (x ∷ xs) ys h = absurd (cc)

first-here : (xs ys : List ℕ) (e : ℕ) → first_of xs ≡ Some e → first_of (xs ++ ys) ≡ Some e
first-here [] ys e h = absurd (cc)
first-here (x ∷ xs) ys e h = h

-- what is behind the first i of the c greatest classes
abbrev pub behind : ℕ → ℕ → List (List ℕ) → List ℕ
behind c i cs = joined (take (c - i) (drop i (reverse cs)))

pub behind-none : (c : ℕ) (cs : List (List ℕ)) → behind c 0 cs ≡ joined (take c (reverse cs))
behind-none c cs = let n : c - 0 ≡ c = omega arith in ap (λ m. joined (take m (reverse cs))) n

length-classes : (ls : List Nodes) → length (classes_of ls) ≡ length ls
length-classes [] = refl
length-classes (l ∷ ls) = ap suc (length-classes ls)

module _ (c i : ℕ) (ls : List Nodes) (low : i < c) (eight : length ls ≡ 8) (here : i < 8) where
  next : behind c i (classes_of ls) ≡ get_or (classes_of ls) (7 - i) [] ++ behind c (i + 1) (classes_of ls)
  next =
      let cs = classes_of ls in let m = length-classes ls in let n = length-reverse cs in
      let within : i < length (reverse cs) = omega (arith, n, m, eight, here) in
      let d : drop i (reverse cs) ≡ get_or (reverse cs) i [] ∷ drop (i + 1) (reverse cs) = rw add-one (drop-cons (reverse cs) i [] within) in
      let k : c - i ≡ suc (c - (i + 1)) = omega (arith, low) in
      let at : length cs - 1 - i ≡ 7 - i = omega (arith, m, eight) in
      (λ j. joined (take (k j) (d j)))
      ∙ ap (λ l. l ++ behind c (i + 1) cs) (get_or-reverse cs i [] (omega (arith, m, eight, here)) ∙ ap (λ a. get_or cs a []) at)

  -- the class is empty
  pub passed : snd_of (front_of (7 - i) ls) ≡ None → first_of (behind c i (classes_of ls)) ≡ first_of (behind c (i + 1) (classes_of ls))
  passed h = ap first_of next ∙ first-behind (get_or (classes_of ls) (7 - i) []) (behind c (i + 1) (classes_of ls)) (front-first (7 - i) ls ∙ h)

  -- or its first exchange is the next
  pub hit : (e : ℕ) → snd_of (front_of (7 - i) ls) ≡ Some e → first_of (behind c i (classes_of ls)) ≡ Some e
  hit e h = ap first_of next ∙ first-here (get_or (classes_of ls) (7 - i) []) (behind c (i + 1) (classes_of ls)) e (front-first (7 - i) ls ∙ h)

-- what the front of a list tells
pub told : (o : Option (Ptr × ℕ)) (front : Option (Bor ℕ)) → MatchOption o (front ≡ None) (λ n. option_copied front ≡ Some n.1) → option_copied front ≡ snd_of o
told None front h = ap option_copied h
told (Some n) front h = h
