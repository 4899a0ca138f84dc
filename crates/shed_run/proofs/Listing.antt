-- The shed lines of a session's events, and where they stand.
use Rattle.flow_notes.specs.declared.events.Event.{Event}
use Rattle.shed_points.specs.ShedList.{as_list, comes_to, dispatched, instead, kept}
use Rattle.shed_points.specs.Shedding.{Became, Judged, shed_at}
use Rattle.shed_points.specs.declared.verdict.Verdict.{Verdict}
use Rattle.shed_run.specs.ShedLines.{At, Placed, ShedLine, lines_at, shed_line, shed_lines}
use Rattle.std.proofs.Common.{ap, arith, length-append, refl, ◌∙◌}
use Rattle.std.proofs.lemmas.Bool.{ne_eqb}
use Rattle.std.proofs.lemmas.List.{length-reverse}
use Rattle.std.specs.Prelude.{List, [], if◌then◌else◌, length, reverse, ℕ, ◌++◌, ◌+◌, ◌<◌, ◌∷◌, ◌≡◌, ◌≤◌}
use Rattle.proxy_config.specs.declared.overload.Point.TheVariants as point
use Rattle.shed_points.specs.declared.verdict.Verdict.TheVariants as verdict

-- how many events are dispatched for one more
dispatched_more : (e : Event) (v : Verdict) (js : List Judged) → length (dispatched js) + length (kept e v) ≤ length (dispatched (Became e v ∷ js))
dispatched_more e v js =
    let n = shed_at point.Drain js in
    let a = length-append (reverse (comes_to e v n)) (dispatched js) in
    let b = length-reverse (comes_to e v n) in
    let c = length-append (kept e v) (as_list (instead e v n)) in
    omega (arith, a, b, c)

-- no line stands behind more than all dispatches
pub elsewhere : (k n : ℕ) (l : ShedLine) (lines : List Placed) → k < n → lines_at n lines ≡ [] → lines_at n (At k l ∷ lines) ≡ []
elsewhere k n l lines less none = ap (λ b. if b then lines_at n lines ++ shed_line l else lines_at n lines) (ne_eqb k n (λ same. omega (arith, same, less))) ∙ none

pub none_behind : (js : List Judged) (n : ℕ) → length (dispatched js) < n → lines_at n (shed_lines js) ≡ []
none_behind [] n less = refl
none_behind (Became e verdict.Pass ∷ js) n less = let k = dispatched_more e verdict.Pass js in none_behind js n (omega (arith, k, less))
none_behind (Became e verdict.Silent ∷ js) n less = let k = dispatched_more e verdict.Silent js in none_behind js n (omega (arith, k, less))
none_behind (Became e (verdict.Shed p x) ∷ js) n less =
    let k = dispatched_more e (verdict.Shed p x) js in
    elsewhere (length (dispatched js) + length (kept e (verdict.Shed p x))) n _ (shed_lines js) (omega (arith, k, less)) (none_behind js n (omega (arith, k, less)))
