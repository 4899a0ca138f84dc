-- A path is put point after point.
use Rattle.io_ports.specs.declared.octets.NoMemory.{NoMemory}
use Rattle.std.proofs.Common.{ap, append_assoc, arith, sym, ◌∙◌}
use Rattle.std.proofs.lemmas.List.{append-nil}
use Rattle.std.specs.Fmt.{decimal}
use Rattle.std.specs.Prelude.{Err, List, Ok, OnOk, Result, [], length, ℕ, ◌++◌, ◌∷◌, ◌≡◌}
use Rattle.tape_plot.specs.Path.{point_text, points_text}
use Rattle.tape_plot.specs.declared.draw.line.Scene.{Scene}
use Rattle.tape_plot.specs.declared.lane.Point.{Point}

pub points_next : (scene : Scene) (old into new : List ℕ) (all rest after : List Point) (p : Point) → rest ≡ p ∷ after → new ≡ into ++ point_text scene p → into ++ points_text scene rest ≡ old ++ points_text scene all
    → new ++ points_text scene after ≡ old ++ points_text scene all
points_next scene old into new all rest after p e f g =
    ap (λ (v : List ℕ). v ++ points_text scene after) f
    ∙ append_assoc into (point_text scene p) (points_text scene after)
    ∙ ap (λ (v : List Point). into ++ points_text scene v) (sym e)
    ∙ g

pub points_done : (scene : Scene) (old into : List ℕ) (all rest : List Point) → length rest ≡ 0 → into ++ points_text scene rest ≡ old ++ points_text scene all → into ≡ old ++ points_text scene all
points_done scene old into all [] e g = sym (append-nil into) ∙ g
points_done scene old into all (p ∷ ps) e g = absurd (omega (arith, e))

-- three pieces behind one another, and a last one
pub last_of_four : (t0 t1 t2 t3 t4 a b c d : List ℕ) (r : Result (Unit {0}) NoMemory) → t1 ≡ t0 ++ a → t2 ≡ t1 ++ b → t3 ≡ t2 ++ c → OnOk r (t4 ≡ t3 ++ d) → OnOk r (t4 ≡ t0 ++ (a ++ (b ++ (c ++ d))))
last_of_four t0 t1 t2 t3 t4 a b c d (Ok x) e1 e2 e3 e4 =
    e4
    ∙ ap (λ (v : List ℕ). v ++ d) (e3 ∙ ap (λ (v : List ℕ). v ++ c) (e2 ∙ ap (λ (v : List ℕ). v ++ b) e1))
    ∙ simp append_assoc
last_of_four t0 t1 t2 t3 t4 a b c d (Err x) e1 e2 e3 e4 = tt

-- a piece and three more, and three behind them
pub last_of_seven : (t0 t1 t2 t3 t4 t5 t6 t7 a b c d e f g : List ℕ) (r : Result (Unit {0}) NoMemory) → t1 ≡ t0 ++ a → t2 ≡ t1 ++ b → t3 ≡ t2 ++ c → t4 ≡ t3 ++ d → t5 ≡ t4 ++ e → t6 ≡ t5 ++ f → OnOk r (t7 ≡ t6 ++ g)
    → OnOk r (t7 ≡ t0 ++ (a ++ (b ++ (c ++ (d ++ (e ++ (f ++ g)))))))
last_of_seven t0 t1 t2 t3 t4 t5 t6 t7 a b c d e f g (Ok x) e1 e2 e3 e4 e5 e6 e7 =
    e7
    ∙ ap (λ (v : List ℕ). v ++ g) (e6 ∙ ap (λ (v : List ℕ). v ++ f) (e5 ∙ ap (λ (v : List ℕ). v ++ e) (e4 ∙ ap (λ (v : List ℕ). v ++ d) (e3 ∙ ap (λ (v : List ℕ). v ++ c) (e2 ∙ ap (λ (v : List ℕ). v ++ b) e1)))))
    ∙ simp append_assoc
last_of_seven t0 t1 t2 t3 t4 t5 t6 t7 a b c d e f g (Err x) e1 e2 e3 e4 e5 e6 e7 = tt

-- a piece that ends with a number
pub with_number : (t0 t1 words : List ℕ) (n m : ℕ) → t1 ≡ t0 ++ (words ++ decimal n) → n ≡ m → t1 ≡ t0 ++ (words ++ decimal m)
with_number t0 t1 words n m e f = e ∙ ap (λ (v : ℕ). t0 ++ (words ++ decimal v)) f

pub ends_with_number : (t0 t1 words : List ℕ) (n m : ℕ) (r : Result (Unit {0}) NoMemory) → OnOk r (t1 ≡ t0 ++ (words ++ decimal n)) → n ≡ m → OnOk r (t1 ≡ t0 ++ (words ++ decimal m))
ends_with_number t0 t1 words n m (Ok x) e f = with_number t0 t1 words n m e f
ends_with_number t0 t1 words n m (Err x) e f = tt
