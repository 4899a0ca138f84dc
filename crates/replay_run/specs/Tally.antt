-- What a tally stands for.
use Rattle.flow_notes.specs.declared.notes.Note.{Note}
use Rattle.tape_summary.specs.Levels.{WriteGoes, level_of}
use Rattle.replay_run.specs.ShortSummary.{counts_text, octets_framed, octets_in, pauses_in, resets_in, streams_in}
use Rattle.replay_run.specs.declared.tally.Tally.{Tally}
use Rattle.std.specs.List.{sum_by}
use Rattle.std.specs.Prelude.{List, ℕ, ◌+◌, ◌≡◌}
use Rattle.tape_laws.specs.History.{History, NoMark, notes_of, onto}
use Rattle.tape_laws.specs.PlainTape.{IsPlainLawful}
use Rattle.tape_laws.specs.declared.PlainLimits.{PlainLimits}
use Rattle.flow_rules.specs.declared.ids.BufferId.TheVariants as buffer

pub record TallyIs (limits : PlainLimits) (t : Tally) (h : History NoMark) : Type 0 where
  pub streams_are : t.streams ≡ sum_by streams_in (notes_of h)
  pub received_is : t.received ≡ sum_by octets_in (notes_of h)
  pub sent_is : t.sent ≡ sum_by octets_framed (notes_of h)
  pub write_is : t.write ≡ level_of limits (buffer.Write 0) h
  pub pauses_are : t.pauses ≡ sum_by pauses_in (notes_of h)
  pub resets_are : t.resets ≡ sum_by resets_in (notes_of h)

-- the notes of a lawful tape were counted
pub record TallyGoes (old : Tally) (ns : List Note) (new : Tally) : Type 0 where
  pub goes : (limits : PlainLimits) (h : History NoMark) → IsPlainLawful limits (onto ns h) → TallyIs limits old h → TallyIs limits new (onto ns h)

-- one note was
pub record Counted (old : Tally) (n : Note) (new : Tally) : Type 0 where
  pub streams : new.streams ≡ old.streams + streams_in n
  pub received : new.received ≡ old.received + octets_in n
  pub sent : new.sent ≡ old.sent + octets_framed n
  pub pauses : new.pauses ≡ old.pauses + pauses_in n
  pub resets : new.resets ≡ old.resets + resets_in n
  pub write : WriteGoes old.write n new.write

abbrev pub tally_text : Tally → List ℕ
tally_text t = counts_text t.streams t.received t.sent t.write.most t.pauses t.resets
