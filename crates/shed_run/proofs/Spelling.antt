-- The line of what was shed, word by word.
use Rattle.flow_notes.specs.Line.{newline}
use Rattle.proxy_config.specs.declared.overload.Point.{Point}
use Rattle.shed_run.specs.ShedLines.{point_word, shed_line}
use Rattle.std.proofs.Common.{ap, append_assoc, sym, ◌∙◌}
use Rattle.std.specs.Fmt.{decimal}
use Rattle.std.specs.Prelude.{List, [], codes, ℕ, ◌++◌, ◌∷◌, ◌≡◌}

behind_number : (n w c s nl : List ℕ) → n ++ ((32 ∷ (w ++ 32 ∷ [])) ++ (c ++ (32 ∷ (s ++ nl)))) ≡ (n ++ 32 ∷ (w ++ 32 ∷ (c ++ 32 ∷ s))) ++ nl
behind_number n w c s nl =
    ap (λ (v : List ℕ). n ++ 32 ∷ v) (append_assoc w (32 ∷ []) (c ++ 32 ∷ (s ++ nl)))
    ∙ sym (append_assoc n (32 ∷ (w ++ 32 ∷ (c ++ 32 ∷ s))) nl ∙ ap (λ (v : List ℕ). n ++ 32 ∷ v) (append_assoc w (32 ∷ (c ++ 32 ∷ s)) nl ∙ ap (λ (v : List ℕ). w ++ 32 ∷ v) (append_assoc c (32 ∷ s) nl)))

in_words : (into n w c s nl : List ℕ) → ((((into ++ (codes "shed " ++ n)) ++ (codes " " ++ (w ++ codes " "))) ++ c) ++ (codes " " ++ s)) ++ nl ≡ into ++ ((codes "shed" ++ 32 ∷ (n ++ 32 ∷ (w ++ 32 ∷ (c ++ 32 ∷ s)))) ++ nl)
in_words into n w c s nl =
    append_assoc (((into ++ (codes "shed " ++ n)) ++ (codes " " ++ (w ++ codes " "))) ++ c) (codes " " ++ s) nl
    ∙ append_assoc ((into ++ (codes "shed " ++ n)) ++ (codes " " ++ (w ++ codes " "))) c ((codes " " ++ s) ++ nl)
    ∙ append_assoc (into ++ (codes "shed " ++ n)) (codes " " ++ (w ++ codes " ")) (c ++ ((codes " " ++ s) ++ nl))
    ∙ append_assoc into (codes "shed " ++ n) ((codes " " ++ (w ++ codes " ")) ++ (c ++ ((codes " " ++ s) ++ nl)))
    ∙ ap (λ (v : List ℕ). into ++ (codes "shed " ++ v)) (behind_number n w c s nl)

pub line_spelled : (number : ℕ) (p : Point) (conn state : ℕ) (old a b word c d new : List ℕ) → a ≡ old ++ (codes "shed " ++ decimal number) → word ≡ codes " " ++ (point_word p ++ codes " ") → b ≡ a ++ word → c ≡ b ++ decimal conn
    → d ≡ c ++ (codes " " ++ decimal state) → new ≡ d ++ codes "\n" → new ≡ old ++ shed_line (record { number = number; point = p; conn = conn; state = state })
line_spelled number p conn state old a b word c d new ea ew eb ec ed en =
    en ∙ ap (λ (v : List ℕ). v ++ newline) (ed ∙ ap (λ (v : List ℕ). v ++ (codes " " ++ decimal state)) (ec ∙ ap (λ (v : List ℕ). v ++ decimal conn) (eb ∙ ap (λ (v : List ℕ). a ++ v) ew ∙ ap (λ (v : List ℕ). v ++ (codes " " ++ (point_word p ++ codes " "))) ea)))
    ∙ in_words old (decimal number) (point_word p) (decimal conn) (decimal state) newline
