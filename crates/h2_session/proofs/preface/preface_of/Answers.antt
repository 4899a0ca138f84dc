use Rattle.std.proofs.Common.{◌≡◌, ℕ, ◌∷◌, ◌++◌, [], List, ap, arith, drop, get_or, subst, sym, take, ◌∙◌}
use Rattle.std.proofs.lemmas.List.{take-append-drop, take_more}
use Rattle.h2_session.specs.Preface.{preface}
use Rattle.h2_session.proofs.preface.preface_of.Goals as goal

joined : (x y : List ℕ) (m n : ℕ) → x ≡ y → m ≡ n → x ++ m ∷ [] ≡ y ++ n ∷ []
joined x y m n e f = cc

pub loop-place-preserved : goal.loop-place-preserved
loop-place-preserved c =
    let input = c.args.input.now in
    let place = c.loop-place.place in
    let came = take_more input place 0 c.if-place-input.false in
    let wanted = take_more preface place 0 c.loop-place-test.true in
    (omega arith, came ∙ joined (take place input) (take place preface) (get_or input place 0) (get_or preface place 0) c.loop-place.invariant.1 c.if-input-place.false ∙ sym wanted)

pub returns : goal.returns
returns c =
    let input = c.args.input.now in
    let whole : c.loop-place.place ≡ 24 = omega arith in
    let front : take 24 input ≡ take 24 preface = subst (λ (n : ℕ). take n input ≡ take n preface) whole c.loop-place.invariant.1 in
    (drop 24 input, sym (take-append-drop 24 input) ∙ ap (λ (l : List ℕ). l ++ drop 24 input) front)
