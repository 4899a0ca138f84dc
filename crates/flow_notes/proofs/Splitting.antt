-- A line and its words.
use Rattle.std.proofs.Common.{◌≡◌, ◌+◌, ◌<◌, ℕ, List, [], ◌∷◌, length, get_or, take, drop, None, Some, Bool, true, false, not, refl, ap, ◌∙◌, arith}
use Rattle.std.specs.List.{All, AllByRecursion, list_all, position_or_len, slice_split}
use Rattle.std.proofs.lemmas.Bool.{false_from_ne_true}
use Rattle.std.proofs.lemmas.List.{get_or_default}
use Rattle.std.proofs.lemmas.List.Splits.{slice_split_none, slice_split_at, slice_split_first, length-slice_split, join_with_byte-slice_split}
use Rattle.std.proofs.lemmas.List.Sums.{position_or_len_is, AllPass-from_list_all}
use Rattle.memchr.specs.Find.{IsFirstByte, is_byte}
use Rattle.flow_notes.specs.Line.{line_of}
use Rattle.flow_notes.specs.Split.{is_space, words_in, one_of}

-- a text without a space
abbrev pub is_word : List ℕ → Bool
is_word word = list_all (λ c. not (is_space c)) word

abbrev pub IsWord : List ℕ → Type 0
IsWord word = is_word word ≡ true

-- at least one word
abbrev pub AreWords : List (List ℕ) → Type 0
AreWords [] = ⊥
AreWords (word ∷ words) = IsWord word × AllByRecursion IsWord words

-- the words of a line give it back
pub line_of_words : (line : List ℕ) → line_of (words_in line) ≡ line
unfolding words_in
line_of_words line = join_with_byte-slice_split 32 line

not_space : (line : List ℕ) (k d : ℕ) → k < length line → ((is_space (get_or line k 0) ≡ true) → ⊥) → is_space (get_or line k d) ≡ false
not_space line k d lt differs = rw (get_or_default line k d 0 lt) (false_from_ne_true _ differs)

-- a line without a space
pub words_in_one : (line : List ℕ) → IsFirstByte (is_byte 32) line None → words_in line ≡ line ∷ []
unfolding words_in
words_in_one line none = slice_split_none is_space line (λ k d lt. not_space line k d lt (none k (omega arith) lt))

-- a line with a first space
pub words_in_first : (line : List ℕ) (k : ℕ) → IsFirstByte (is_byte 32) line (Some k) → words_in line ≡ take k line ∷ words_in (drop (k + 1) line)
unfolding words_in
words_in_first line k first =
    let within = first.0.high in
    let at : position_or_len is_space line ≡ k = position_or_len_is is_space line k 0 (omega arith) (λ i lt. false_from_ne_true _ (first.0.before i (omega arith) lt)) (λ lt. first.1) in
    slice_split_first is_space line 0 (omega arith) ∙ ap (λ n. take n line ∷ slice_split is_space (drop (n + 1) line)) at

off : (b : Bool) → not b ≡ true → b ≡ false
off true e = absurd cc
off false e = refl

-- no octet of a word is a space
no_space : (word : List ℕ) → IsWord word → All (λ c. is_space c ≡ false) word
no_space word is k d lt = off _ (AllPass-from_list_all (λ c. not (is_space c)) word is k d lt)

-- words are those of their line
pub words_of_line : (words : List (List ℕ)) → AreWords words → words_in (line_of words) ≡ words
unfolding words_in
words_of_line [] are = absurd are
words_of_line (word ∷ []) are = slice_split_none is_space word (no_space word are.0)
words_of_line (word ∷ next ∷ words) are =
    slice_split_at is_space word 32 (line_of (next ∷ words)) (no_space word are.0) refl ∙ ap (λ (ws : List (List ℕ)). word ∷ ws) (words_of_line (next ∷ words) are.1)

-- a line has a word
pub some_words : (line : List ℕ) → 0 < length (words_in line)
unfolding words_in
some_words line = omega (arith, length-slice_split is_space line)

more : (word : List ℕ) (words : List (List ℕ)) → 0 < length words → one_of (word ∷ words) ≡ None
unfolding one_of
more word [] some = absurd (omega arith)
more word (next ∷ words) some = refl

-- a word and a line behind it are more than one word
pub not_one : (word line : List ℕ) → one_of (word ∷ words_in line) ≡ None
not_one word line = more word (words_in line) (some_words line)
