-- A keyword and numbers behind it, there and back.
use Rattle.std.proofs.Common.{◌≡◌, ◌-◌, ◌<◌, ◌≢◌, ℕ, List, [], ◌∷◌, ◌++◌, length, map, get_or, take, drop, Option, Some, None, Result, Ok, Err, IfOk, IfSome, IfNone, MatchOption, refl, ap, sym, ◌∙◌, arith}
use Rattle.std.specs.Fmt.{decimal}
use Rattle.std.specs.List.{AllByRecursion}
use Rattle.std.proofs.lemmas.List.{take_all, append_cancel_left, nil_from_length}
use Rattle.std.proofs.lemmas.Option.{same_Some, none-some}
use Rattle.flow_notes.specs.Fields.{Fits32}
use Rattle.flow_notes.specs.Line.{line_of, spaced}
use Rattle.flow_notes.specs.Meaning.{numbers_of}
use Rattle.flow_notes.specs.Split.{words_in}
use Rattle.flow_notes.proofs.Lines.{line_of_cons}
use Rattle.flow_notes.proofs.NumberLists.{numbers_again}
use Rattle.flow_notes.proofs.Splitting.{IsWord, line_of_words, some_words, words_of_line}
use Rattle.flow_notes.proofs.Words.{number_words}

spaced_line : (words : List (List ℕ)) → 0 < length words → spaced words ≡ 32 ∷ line_of words
spaced_line [] some = absurd (omega arith)
spaced_line (word ∷ words) some = ap (λ (text : List ℕ). 32 ∷ text) (sym (line_of_cons word words))

same_tail : (x y : ℕ) (xs ys : List ℕ) → x ∷ xs ≡ y ∷ ys → xs ≡ ys
same_tail x y xs ys e = cc

-- what stands behind the keyword of a line, as words
pub record IsCut (keyword line : List ℕ) (left : List (List ℕ)) : Type 0 where
  pub is : line ≡ keyword ++ spaced left
  pub back : (ws : List (List ℕ)) → AllByRecursion IsWord ws → spaced ws ≡ spaced left → left ≡ ws

none_back : (ws : List (List ℕ)) → spaced ws ≡ [] → [] ≡ ws
none_back [] e = refl
none_back (w ∷ ws) e = absurd cc

-- nothing stands there
pub cut_none : (keyword line behind : List ℕ) → line ≡ keyword ++ behind → length behind ≡ 0 → IsCut keyword line []
cut_none keyword line behind is none = record {
  is = is ∙ ap (λ (text : List ℕ). keyword ++ text) (nil_from_length behind none);
  back = λ ws are e. none_back ws e;
}

some_back : (rest : List ℕ) (ws : List (List ℕ)) → AllByRecursion IsWord ws → spaced ws ≡ 32 ∷ rest → words_in rest ≡ ws
some_back rest [] are e = absurd cc
some_back rest (w ∷ ws) are e =
    ap words_in (sym (same_tail 32 32 (line_of (w ∷ ws)) rest (ap (λ (text : List ℕ). 32 ∷ text) (line_of_cons w ws) ∙ e))) ∙ words_of_line (w ∷ ws) are

spaced_rest : (rest : List ℕ) → spaced (words_in rest) ≡ 32 ∷ rest
spaced_rest rest = spaced_line (words_in rest) (some_words rest) ∙ ap (λ (text : List ℕ). 32 ∷ text) (line_of_words rest)

-- a text that begins with a space
pub space_first : (xs : List ℕ) → length xs ≢ 0 → get_or xs 0 0 ≡ 32 → xs ≡ 32 ∷ take (length xs - 1) (drop 1 xs)
space_first [] some is = absurd (some refl)
space_first (x ∷ xs) some is =
    let all : take (length (x ∷ xs) - 1) xs ≡ xs = take_all _ xs (omega arith) in
    ap (λ (c : ℕ). c ∷ xs) is ∙ ap (λ (text : List ℕ). 32 ∷ text) (sym all)

-- a space and words stand there
pub cut_some : (keyword line behind : List ℕ) → line ≡ keyword ++ behind → (length behind ≡ 0 → ⊥) → get_or behind 0 0 ≡ 32 → IsCut keyword line (words_in (take (length behind - 1) (drop 1 behind)))
cut_some keyword line behind is some space =
    let rest = take (length behind - 1) (drop 1 behind) in
    record {
      is = is ∙ ap (λ (text : List ℕ). keyword ++ text) (space_first behind some space ∙ sym (spaced_rest rest));
      back = λ ws are e. some_back rest ws are (e ∙ spaced_rest rest);
    }

numbers_found : (keyword line : List ℕ) (left : List (List ℕ)) → IsCut keyword line left → (ms : List ℕ) → AllByRecursion Fits32 ms → line_of (keyword ∷ map decimal ms) ≡ line → numbers_of left ≡ Some ms
numbers_found keyword line left cut ms fit spelled =
    let behind : spaced (map decimal ms) ≡ spaced left = append_cancel_left keyword _ _ (sym (line_of_cons keyword (map decimal ms)) ∙ spelled ∙ cut.is) in
    ap numbers_of (cut.back (map decimal ms) (number_words ms fit) behind) ∙ numbers_again ms fit

pub numbers_some : {V E : Type 0} (items : V → List ℕ) (keyword line : List ℕ) (left : List (List ℕ)) (r : Result (Option V) E) → IsCut keyword line left
    → IfOk r (λ read. IfSome read (λ v. (left ≡ map decimal (items v)) × AllByRecursion Fits32 (items v)))
    → IfOk r (λ read. IfSome read (λ v. line ≡ line_of (keyword ∷ map decimal (items v))))
numbers_some items keyword line left (Err x) cut h = tt
numbers_some items keyword line left (Ok None) cut h = tt
numbers_some items keyword line left (Ok (Some v)) cut h =
    cut.is ∙ ap (λ (ws : List (List ℕ)). keyword ++ spaced ws) h.0 ∙ sym (line_of_cons keyword (map decimal (items v)))

pub numbers_only : {V E : Type 0} (items : V → List ℕ) (keyword line : List ℕ) (left : List (List ℕ)) (r : Result (Option V) E) → IsCut keyword line left
    → IfOk r (λ read. MatchOption read (numbers_of (left) ≡ None) (λ v. numbers_of (left) ≡ Some (items v)))
    → IfOk r (λ read. IfSome read (λ v. (ms : List ℕ) → AllByRecursion Fits32 ms → line_of (keyword ∷ map decimal ms) ≡ line → ms ≡ items v))
numbers_only items keyword line left (Err x) cut h = tt
numbers_only items keyword line left (Ok None) cut h = tt
numbers_only items keyword line left (Ok (Some v)) cut h = λ ms fit spelled. same_Some ms (items v) (sym (numbers_found keyword line left cut ms fit spelled) ∙ h)

pub numbers_none : {V E : Type 0} (items : V → List ℕ) (keyword line : List ℕ) (left : List (List ℕ)) (r : Result (Option V) E) → IsCut keyword line left
    → IfOk r (λ read. MatchOption read (numbers_of (left) ≡ None) (λ v. numbers_of (left) ≡ Some (items v)))
    → IfOk r (λ read. IfNone read ((ms : List ℕ) → AllByRecursion Fits32 ms → line_of (keyword ∷ map decimal ms) ≡ line → ⊥))
numbers_none items keyword line left (Err x) cut h = tt
numbers_none items keyword line left (Ok (Some v)) cut h = tt
numbers_none items keyword line left (Ok None) cut h = λ ms fit spelled. none-some ms (sym h ∙ numbers_found keyword line left cut ms fit spelled)

-- what stands behind the keyword begins with a space, if there is any
pub other_front : (keyword line behind : List ℕ) → line ≡ keyword ++ behind → length behind ≢ 0 → get_or behind 0 0 ≢ 32 → (ms : List ℕ) → line_of (keyword ∷ map decimal ms) ≡ line → ⊥
other_front keyword line behind cut some other [] spelled =
    some (ap (length {A = ℕ}) (sym (append_cancel_left keyword (spaced []) behind (sym (line_of_cons keyword []) ∙ spelled ∙ cut))))
other_front keyword line behind cut some other (m ∷ ms) spelled =
    other (ap (λ (xs : List ℕ). get_or xs 0 0) (sym (append_cancel_left keyword (spaced (map decimal (m ∷ ms))) behind (sym (line_of_cons keyword (map decimal (m ∷ ms))) ∙ spelled ∙ cut))))

-- a line that doesn't begin with the keyword
pub no_keyword : (keyword line : List ℕ) → ((rest : List ℕ) → line ≢ keyword ++ rest) → (ms : List ℕ) → line_of (keyword ∷ map decimal ms) ≡ line → ⊥
no_keyword keyword line never ms spelled = never (spaced (map decimal ms)) (sym spelled ∙ line_of_cons keyword (map decimal ms))
