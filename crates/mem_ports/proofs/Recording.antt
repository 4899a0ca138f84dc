-- Steps that are kept behind others.
use Rattle.mem_ports.specs.Steps.{octets_in, steps_in}
use Rattle.mem_ports.specs.declared.steps.Kept.{Kept}
use Rattle.mem_ports.specs.declared.steps.Kept.TheVariants as kept
use Rattle.std.proofs.Common.{ap, arith, refl, ◌∙◌}
use Rattle.std.proofs.Math.Seq.{take-length}
use Rattle.std.proofs.lemmas.List.{drop-append-le, length-drop, take-append-le}
use Rattle.std.specs.Prelude.{List, [], drop, length, take, ℕ, ◌+◌, ◌++◌, ◌∷◌, ◌≡◌, ◌≤◌}
use Rattle.worker_ports.specs.declared.wires.WireStep.TheVariants as step
use Rattle.worker_ports.specs.declared.wires.Wired.{Wired}

pub gave_behind : (ks : List Kept) (ps : List ℕ) (w : Wired) → steps_in (ks ++ kept.Gave w ∷ []) ps ≡ steps_in ks ps ++ step.Gave w ∷ []
gave_behind [] ps w = refl
gave_behind (kept.Gave v ∷ ks) ps w = ap (λ r. step.Gave v ∷ r) (gave_behind ks ps w)
gave_behind (kept.Offered c n t ∷ ks) ps w = ap (λ r. step.Offered c (take n ps) t ∷ r) (gave_behind ks (drop n ps) w)
gave_behind (kept.Closed c ∷ ks) ps w = ap (λ r. step.Closed c ∷ r) (gave_behind ks ps w)

pub closed_behind : (ks : List Kept) (ps : List ℕ) (d : ℕ) → steps_in (ks ++ kept.Closed d ∷ []) ps ≡ steps_in ks ps ++ step.Closed d ∷ []
closed_behind [] ps d = refl
closed_behind (kept.Gave v ∷ ks) ps d = ap (λ r. step.Gave v ∷ r) (closed_behind ks ps d)
closed_behind (kept.Offered c n t ∷ ks) ps d = ap (λ r. step.Offered c (take n ps) t ∷ r) (closed_behind ks (drop n ps) d)
closed_behind (kept.Closed c ∷ ks) ps d = ap (λ r. step.Closed c ∷ r) (closed_behind ks ps d)

pub offered_behind : (ks : List Kept) (ps piece : List ℕ) (d m : ℕ) → octets_in ks ≡ length ps → steps_in (ks ++ kept.Offered d (length piece) m ∷ []) (ps ++ piece) ≡ steps_in ks ps ++ step.Offered d piece m ∷ []
offered_behind [] [] piece d m e = ap (λ p. step.Offered d p m ∷ []) (take-length piece)
offered_behind [] (p ∷ ps) piece d m e = absurd (omega (arith, e))
offered_behind (kept.Gave v ∷ ks) ps piece d m e = ap (λ r. step.Gave v ∷ r) (offered_behind ks ps piece d m e)
offered_behind (kept.Closed c ∷ ks) ps piece d m e = ap (λ r. step.Closed c ∷ r) (offered_behind ks ps piece d m e)
offered_behind (kept.Offered c n t ∷ ks) ps piece d m e =
    let within : n ≤ length ps = omega (arith, e) in
    let rest : octets_in ks ≡ length (drop n ps) = omega (arith, e, length-drop n ps) in
    ap (λ q. step.Offered c q t ∷ steps_in (ks ++ kept.Offered d (length piece) m ∷ []) (drop n (ps ++ piece))) (take-append-le n ps piece within)
    ∙ ap (λ q. step.Offered c (take n ps) t ∷ steps_in (ks ++ kept.Offered d (length piece) m ∷ []) q) (drop-append-le n ps piece within)
    ∙ ap (λ r. step.Offered c (take n ps) t ∷ r) (offered_behind ks (drop n ps) piece d m rest)

-- ---- how many octets they have
pub octets_behind : (ks : List Kept) (k : Kept) → octets_in (ks ++ k ∷ []) ≡ octets_in ks + octets_in (k ∷ [])
octets_behind [] k = omega arith
octets_behind (kept.Gave v ∷ ks) k = octets_behind ks k
octets_behind (kept.Closed c ∷ ks) k = octets_behind ks k
octets_behind (kept.Offered c n t ∷ ks) k = omega (arith, octets_behind ks k)
