-- The line is cut at its first space.
use Rattle.std.proofs.Common.{◌≡◌, ◌+◌, ◌-◌, ◌∷◌, List, ℕ, length, drop, take, ap, sym, ◌∙◌, arith, length-drop}
use Rattle.std.proofs.lemmas.List.{take_all}
use Rattle.flow_notes.specs.Split.{words_in}
use Rattle.flow_notes.proofs.Splitting.{words_in_one, words_in_first}
use Rattle.flow_notes.proofs.reading.split.first_word.Goals as goal

pub returns-in-Some : goal.returns-in-Some
returns-in-Some c =
    let line = c.args.line.now in
    let from = c.in-Some.space + 1 in
    let rest : take (length line - from) (drop from line) ≡ drop from line = take_all _ _ (omega (arith, length-drop from line)) in
    words_in_first line c.in-Some.space c.in-Some.ensures ∙ ap (λ (left : List ℕ). take c.in-Some.space line ∷ words_in left) (sym rest)

pub returns-in-None : goal.returns-in-None
returns-in-None c = words_in_one c.args.line.now c.in-None.ensures
