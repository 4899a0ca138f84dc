-- Notes one after the other.
use Rattle.flow_notes.specs.declared.notes.Note.{Note}
use Rattle.plain_laws.proofs.Tellings.{owed_cons}
use Rattle.plain_laws.specs.Owing.{owed_times, pause_notes}
use Rattle.std.proofs.Common.{arith, refl, subst}
use Rattle.std.specs.Prelude.{List, [], ℕ, ◌++◌, ◌+◌, ◌∷◌, ◌≡◌}
use Rattle.plain_laws.specs.Words.{Past}
use Rattle.tape_laws.specs.Flows.{request}
use Rattle.tape_laws.specs.History.{Noted, onto}
use Rattle.tape_laws.specs.Pauses.{Owed, pauses}
use Rattle.tape_laws.specs.PlainTape.{IsPlainLawful}
use Rattle.tape_laws.specs.declared.PlainLimits.{PlainLimits}
use Rattle.flow_notes.specs.declared.notes.Note.TheVariants as note

pub onto_append : (ms ns : List Note) (h : Past) → onto (ms ++ ns) h ≡ onto ns (onto ms h)
onto_append [] ns h = refl
onto_append (m ∷ ms) ns h = onto_append ms ns (Noted m ∷ h)

-- what stood before a note of a lawful history is lawful
module _ (limits : PlainLimits) where
  pub tail_lawful : (n : Note) (h : Past) → IsPlainLawful limits (Noted n ∷ h) → IsPlainLawful limits h
  tail_lawful n h l = record {
    allowed = l.allowed.1;
    paused = l.paused.1;
    counted = l.counted.1;
    bounded = l.bounded.1;
    tied = l.tied.1;
    ends = l.ends.1;
    in_turn = l.in_turn.1;
    doomed = l.doomed.1;
    swept = l.swept.1;
    answered = l.answered.1;
    only = l.only.1;
    licensed = l.licensed.1;
    may = l.may.1;
    quiet = l.quiet.1;
  }

  pub before_lawful : (ns : List Note) (h : Past) → IsPlainLawful limits (onto ns h) → IsPlainLawful limits h
  before_lawful [] h l = l
  before_lawful (n ∷ ns) h l = tail_lawful n h (before_lawful ns (Noted n ∷ h) l)

  -- notes that were cut short
  pub front_lawful : (front rest : List Note) (h : Past) → IsPlainLawful limits (onto (front ++ rest) h) → IsPlainLawful limits (onto front h)
  front_lawful front rest h l =
      before_lawful rest (onto front h) (subst (IsPlainLawful limits) (onto_append front rest h) l)

-- how often a stream was paused once all pauses that were due are written
pub pauses_written : (x : ℕ) (due : List Owed) (h : Past) → pauses (request x) (onto (pause_notes due) h) ≡ owed_times x due + pauses (request x) h
pauses_written x [] h = none (pauses (request x) h)
  where
    none : (n : ℕ) → n ≡ 0 + n
    none n = omega arith
pauses_written x (o ∷ due) h =
    sums _ _ _ _ _ (pauses_written x due (Noted (note.Pause o.flow o.buffer) ∷ h)) (owed_cons x o due)
  where
    sums : (t d k s p : ℕ) → t ≡ d + (k + p) → s ≡ k + d → t ≡ s + p
    sums t d k s p e f = omega arith
