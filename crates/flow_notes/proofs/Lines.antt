-- Words one after the other.
use Rattle.std.proofs.Common.{◌≡◌, ◌+◌, ◌<◌, ℕ, List, [], ◌∷◌, ◌++◌, length, get_or, map, take, ap, sym, ◌∙◌, append_assoc}
use Rattle.std.specs.Fmt.{decimal}
use Rattle.std.proofs.lemmas.List.{append-nil, map_more}
use Rattle.std.proofs.lemmas.List.Concat.{flat_map-append}
use Rattle.flow_notes.specs.Line.{line_of, spaced}

pub spaced-append : (xs ys : List (List ℕ)) → spaced (xs ++ ys) ≡ spaced xs ++ spaced ys
spaced-append xs ys = flat_map-append (λ word. 32 ∷ word) xs ys

-- one word more
pub spaced_push : (xs : List (List ℕ)) (word : List ℕ) → spaced (xs ++ word ∷ []) ≡ spaced xs ++ (32 ∷ word)
spaced_push xs word = spaced-append xs (word ∷ []) ∙ ap (λ (text : List ℕ). spaced xs ++ (32 ∷ text)) (append-nil word)

-- one number more
pub numbers_more : (old : List ℕ) (numbers : List ℕ) (i : ℕ) (a b : List ℕ) → i < length numbers → a ≡ old ++ spaced (map decimal (take i numbers))
    → b ≡ a ++ (32 ∷ decimal (get_or numbers i 0)) → b ≡ old ++ spaced (map decimal (take (i + 1) numbers))
numbers_more old numbers i a b lt before now =
    let more : map decimal (take (i + 1) numbers) ≡ map decimal (take i numbers) ++ decimal (get_or numbers i 0) ∷ [] = map_more decimal numbers i 0 lt in
    now ∙ ap (λ (text : List ℕ). text ++ (32 ∷ decimal (get_or numbers i 0))) before
    ∙ append_assoc old (spaced (map decimal (take i numbers))) (32 ∷ decimal (get_or numbers i 0))
    ∙ ap (λ (text : List ℕ). old ++ text) (sym (ap spaced more ∙ spaced_push (map decimal (take i numbers)) (decimal (get_or numbers i 0))))

-- a line is its first word, with the others behind it
pub line_of_cons : (word : List ℕ) (words : List (List ℕ)) → line_of (word ∷ words) ≡ word ++ spaced words
line_of_cons word [] = sym (append-nil word)
line_of_cons word (next ∷ words) = ap (λ (text : List ℕ). word ++ (32 ∷ text)) (line_of_cons next words)
