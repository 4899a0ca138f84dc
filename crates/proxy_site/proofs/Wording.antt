-- The words of the proxy.
use Rattle.proxy_site.specs.Forms.{HasNoServeForm, IsNoTurns, IsRelay, IsTurnsWord, SpellsServe, endless}
use Rattle.proxy_site.specs.declared.form.ServeForm.{ServeForm}
use Rattle.std.proofs.Common.{Decides, ap, arith, inl, inr, refl, subst, sym, ◌∙◌}
use Rattle.std.proofs.lemmas.Fmt.{decimal_injective, parse-decimal}
use Rattle.std.proofs.lemmas.Slice.Eq.{bytes_eq-Decides}
use Rattle.std.specs.Fmt.{decimal}
use Rattle.std.specs.Prelude.{Bool, List, Ok, Result, [], codes, false, length, true, ℕ, ◌<◌, ◌^◌, ◌∷◌, ◌≡◌, ◌≤◌, ◌⊎◌}
use Rattle.std.specs.Str.{bytes_eq}
use Rattle.std.specs.Str.Parse.{ParsesUnsigned}
use Rattle.proxy_site.specs.declared.form.ServeForm.TheVariants as form

found : (b : Bool) (P : Type 0) → Decides b P → P → b ≡ true
found b P d p = d.1 p

-- ---- the word of a number of turns
fits : (m : ℕ) → m ≤ 4294967295 → (m < 2 ^ 32) × (m < 2 ^ 64)
fits m le = (omega (arith, le), omega (arith, le))

parsed_as : {E : Type 0} (word : List ℕ) (m : ℕ) (r : Result ℕ E) → ParsesUnsigned 32 10 word r → IsTurnsWord word m → r ≡ Ok m
parsed_as word m r p k = let f = fits m k.most in parse-decimal 32 m word r f.0 f.1 k.is p

pub number_no : {E : Type 0} (word : List ℕ) (r : Result ℕ E) → ((n : ℕ) → r ≡ Ok n → ⊥) → ParsesUnsigned 32 10 word r → IsNoTurns word
number_no word r other p = record { none = λ m k. other m (parsed_as word m r p k) }

-- one of the tests failed
pub number_else : {E : Type 0} (word digits : List ℕ) (n : ℕ) (r : Result ℕ E) (b : Bool) → r ≡ Ok n → ParsesUnsigned 32 10 word r → digits ≡ decimal n → b ≡ bytes_eq digits word
    → ((b ≡ true) × (n < 1)) ⊎ (b ≡ false) → IsNoTurns word
number_else word digits n r b e p ed eb failed = record { none = by failed }
  where
    same_number : (m : ℕ) → IsTurnsWord word m → n ≡ m
    same_number m k = let i : Ok n ≡ Ok m = sym e ∙ parsed_as word m r p k in cc

    spelled : (m : ℕ) → IsTurnsWord word m → b ≡ true
    spelled m k = eb ∙ found (bytes_eq digits word) (digits ≡ word) (bytes_eq-Decides digits word) (ed ∙ ap decimal (same_number m k) ∙ sym k.is)

    by : ((b ≡ true) × (n < 1)) ⊎ (b ≡ false) → (m : ℕ) → IsTurnsWord word m → ⊥
    by (inl few) m k = let i = same_number m k in let less = few.1 in let least = k.least in omega (arith, i, less, least)
    by (inr f) m k = let t = spelled m k in cc

-- ---- words without a form
word_is : (word other : List ℕ) (rest last : List (List ℕ)) → word ∷ rest ≡ other ∷ last → word ≡ other
word_is word other rest last e = cc

rest_is : (word other : List ℕ) (rest last : List (List ℕ)) → word ∷ rest ≡ other ∷ last → rest ≡ last
rest_is word other rest last e = cc

pub other_word : (word : List ℕ) (rest : List (List ℕ)) → (word ≡ codes "relay" → ⊥) → HasNoServeForm (word ∷ rest)
other_word word rest differs = record { none = by }
  where
    by : (f : ServeForm) → SpellsServe (word ∷ rest) f → ⊥
    by (form.Relay n) s = differs (word_is word (codes "relay") rest (s.name ∷ s.last) s.is)

pub other_turns : (word name turns : List ℕ) → IsNoTurns turns → HasNoServeForm (word ∷ name ∷ turns ∷ [])
other_turns word name turns none = record { none = by }
  where
    behind : (n : ℕ) (last : List (List ℕ)) → turns ∷ [] ≡ last → ((last ≡ []) × (n ≡ endless)) ⊎ ((w : List ℕ) × (last ≡ w ∷ []) × IsTurnsWord w n) → ⊥
    behind n last e (inl all) = let i : turns ∷ [] ≡ [] = e ∙ all.0 in cc
    behind n last e (inr k) =
        let i : turns ∷ [] ≡ k.0 ∷ [] = e ∙ k.1 in
        none.none n (subst (λ w. IsTurnsWord w n) (sym (word_is turns k.0 [] [] i)) k.2)

    by : (f : ServeForm) → SpellsServe (word ∷ name ∷ turns ∷ []) f → ⊥
    by (form.Relay n) s =
        behind n s.last (rest_is name s.name (turns ∷ []) s.last (rest_is word (codes "relay") (name ∷ turns ∷ []) (s.name ∷ s.last) s.is)) s.turns

pub is_relay : (word name : List ℕ) → word ≡ codes "relay" → IsRelay (word ∷ name ∷ []) endless
is_relay word name e = record { name = name; last = []; is = ap (λ (w : List ℕ). w ∷ name ∷ []) e; turns = inl (refl, refl) }

pub is_counted : (word name turns : List ℕ) (n : ℕ) → word ≡ codes "relay" → IsTurnsWord turns n → IsRelay (word ∷ name ∷ turns ∷ []) n
is_counted word name turns n e k = record { name = name; last = turns ∷ []; is = ap (λ (w : List ℕ). w ∷ name ∷ turns ∷ []) e; turns = inr (turns, refl, k) }

-- two numbers of turns are one
pub one_form : (words : List (List ℕ)) (m n : ℕ) → IsRelay words m → IsRelay words n → m ≡ n
one_form words m n s t = by s.turns t.turns
  where
    lasts : s.last ≡ t.last
    lasts = let i : codes "relay" ∷ s.name ∷ s.last ≡ codes "relay" ∷ t.name ∷ t.last = sym s.is ∙ t.is in
        rest_is s.name t.name s.last t.last (rest_is (codes "relay") (codes "relay") (s.name ∷ s.last) (t.name ∷ t.last) i)

    by : ((s.last ≡ []) × (m ≡ endless)) ⊎ ((w : List ℕ) × (s.last ≡ w ∷ []) × IsTurnsWord w m)
        → ((t.last ≡ []) × (n ≡ endless)) ⊎ ((w : List ℕ) × (t.last ≡ w ∷ []) × IsTurnsWord w n) → m ≡ n
    by (inl a) (inl b) = a.1 ∙ sym b.1
    by (inl a) (inr b) = let i : [] ≡ b.0 ∷ [] = sym a.0 ∙ lasts ∙ b.1 in cc
    by (inr a) (inl b) = let i : a.0 ∷ [] ≡ [] = sym a.1 ∙ lasts ∙ b.0 in cc
    by (inr a) (inr b) =
        let i : a.0 ∷ [] ≡ b.0 ∷ [] = sym a.1 ∙ lasts ∙ b.1 in
        let k : decimal m ≡ decimal n = sym a.2.is ∙ word_is a.0 b.0 [] [] i ∙ b.2.is in
        decimal_injective m n (fits m a.2.most).1 (fits n b.2.most).1 k

-- words of another number
pub other_lengths : (words : List (List ℕ)) → (length words ≡ 2 → ⊥) → (length words ≡ 3 → ⊥) → HasNoServeForm words
other_lengths words no_two no_three = record { none = by }
  where
    behind : (n : ℕ) (name : List ℕ) (last : List (List ℕ)) → words ≡ codes "relay" ∷ name ∷ last → ((last ≡ []) × (n ≡ endless)) ⊎ ((w : List ℕ) × (last ≡ w ∷ []) × IsTurnsWord w n) → ⊥
    behind n name last e (inl none) = no_two (ap (λ (ws : List (List ℕ)). length ws) (e ∙ ap (λ (ws : List (List ℕ)). codes "relay" ∷ name ∷ ws) none.0))
    behind n name last e (inr k) = no_three (ap (λ (ws : List (List ℕ)). length ws) (e ∙ ap (λ (ws : List (List ℕ)). codes "relay" ∷ name ∷ ws) k.1))

    by : (f : ServeForm) → SpellsServe words f → ⊥
    by (form.Relay n) s = behind n s.name s.last s.is s.turns
