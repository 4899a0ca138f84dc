-- The levels of a relay's write buffers, note by note.
use Rattle.relay_laws.specs.Pairs.{Tape}
use Rattle.relay_laws.specs.Report.{peak}
use Rattle.relay_laws.specs.World.{out}
use Rattle.relay_run.specs.Writes.{level_of}
use Rattle.std.proofs.Common.{ap, arith, sym, ◌∙◌}
use Rattle.std.specs.Prelude.{[], length, ℕ, ◌+◌, ◌-◌, ◌∷◌, ◌≡◌, ◌≤◌}
use Rattle.tape_laws.specs.History.{NoMark, Step}
use Rattle.tape_summary.specs.Levels.{emptied, fallen, risen}
use Rattle.tape_summary.specs.declared.level.Level.{Level}

-- a buffer holds at most what it ever held
held_most : (c : ℕ) (h : Tape) → length (out c h) ≤ peak c h
held_most c [] = omega arith
held_most c (step ∷ past) = omega arith

level_is : (a b c d : ℕ) → a ≡ c → b ≡ d → (let l : Level = record { held = a; most = b } in l) ≡ record { held = c; most = d }
level_is a b c d p q =
    ap (λ (v : ℕ). let l : Level = record { held = v; most = b } in l) p ∙ ap (λ (v : ℕ). let l : Level = record { held = c; most = v } in l) q

pub level_same : (c : ℕ) (step : Step NoMark) (h : Tape) → length (out c (step ∷ h)) ≡ length (out c h) → level_of c h ≡ level_of c (step ∷ h)
level_same c step h e = level_is _ _ _ _ (sym e) (let m = held_most c h in omega (arith, e, m))

pub level_risen : (c : ℕ) (step : Step NoMark) (h : Tape) (n : ℕ) → length (out c (step ∷ h)) ≡ length (out c h) + n → risen (level_of c h) n ≡ level_of c (step ∷ h)
level_risen c step h n e = level_is _ _ _ _ (sym e) (omega (arith, e))

pub level_fallen : (c : ℕ) (step : Step NoMark) (h : Tape) (n : ℕ) → length (out c (step ∷ h)) ≡ length (out c h) - n → fallen (level_of c h) n ≡ level_of c (step ∷ h)
level_fallen c step h n e = level_is _ _ _ _ (sym e) (let m = held_most c h in omega (arith, e, m))

pub level_emptied : (c : ℕ) (step : Step NoMark) (h : Tape) → length (out c (step ∷ h)) ≡ 0 → emptied (level_of c h) ≡ level_of c (step ∷ h)
level_emptied c step h e = level_is _ _ _ _ (sym e) (omega (arith, e))
