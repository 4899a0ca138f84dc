-- An exchange began: its mark stands before its note, and the pauses that hold it back from the start behind that.
use Rattle.flow_notes.specs.declared.notes.Note.{Note}
use Rattle.proxy_config.specs.declared.config.Config.{Config}
use Rattle.std.proofs.Common.{ap, append_assoc, refl, subst, sym, ◌∙◌}
use Rattle.std.specs.Prelude.{List, Option, [], ℕ, ◌++◌, ◌∷◌, ◌≡◌}
use Rattle.tape_laws.specs.History.{Marked, Noted}
use Rattle.tape_laws.specs.Units.{StageKind}
use Rattle.tape_laws.specs.World.{gone}
use Rattle.wire_state.proofs.Goings.{KeepsLeft, after_append, rows_append, shown_append, told_on}
use Rattle.wire_state.proofs.Holding.{AreHolds, holds_gone, holds_rows, holds_stand, holds_ways, noted, shown_noted}
use Rattle.wire_state.specs.Counts.{Counts}
use Rattle.wire_state.specs.Marks.{AreWays, Footing, footing_of, rows_in, with_rows}
use Rattle.wire_state.specs.Ways.{Passes, WayHistory, WayStep, after, shown, world_setup}
use Rattle.wire_state.specs.Worlds.{Owes, Stands, Told, ToldBy}
use Rattle.wire_state.specs.declared.wire_core.WireCore.{WireCore}

module _ (x : ℕ) (row to : Option ℕ) (there back : List StageKind) (n : Note) (tail : List Note) (holds : AreHolds tail) (old new : WireCore) where
  abbrev steps : List WayStep
  steps = Marked (Passes x row to there back) ∷ Noted n ∷ noted tail

  abbrev begun : WayHistory → WayHistory
  begun h = Noted n ∷ Marked (Passes x row to there back) ∷ h

  abbrev grown : Footing
  grown = with_rows (footing_of old) (old.rows.items ++ row ∷ [])

  module _ (same : footing_of new ≡ grown) (keeps : KeepsLeft (Marked (Passes x row to there back) ∷ Noted n ∷ []))
      (ways : (h : WayHistory) → Stands old.config.limits old.conns old.flows old.links h → AreWays old.config h → AreWays old.config (begun h))
      (goes : (h : WayHistory) → Stands old.config.limits old.conns old.flows old.links h → Stands old.config.limits new.conns new.flows new.links (begun h))
      (counts : (t u : Option ℕ) (h : WayHistory) → Stands old.config.limits old.conns old.flows old.links h → Stands old.config.limits new.conns new.flows new.links (begun h) → Counts old.config.limits t u old.conns old.flows h
      → Counts old.config.limits t u new.conns new.flows (after (noted tail) (begun h))) where
    begun_told : {k : Config} {t u : Option ℕ} → (h : WayHistory) (g : ℕ → List ℕ) (start notes : List Note) → Told k t u h g start old notes → ToldBy k grown t u h g start new.conns new.flows new.links (notes ++ n ∷ shown (noted tail))
    begun_told {t = t} {u = u} h g start notes told =
        let past = after told.steps h in
        let stood = goes past told.stands in
        record {
          steps = told.steps ++ steps;
          is = ap (λ (ns : List Note). ns ++ shown steps) told.is ∙ (append_assoc start (shown told.steps) (shown steps) ∙ ap (λ (ns : List Note). start ++ ns) (sym (shown_append told.steps steps)));
          stands = subst (λ (p : WayHistory). Stands old.config.limits new.conns new.flows new.links p) (sym (after_append told.steps steps h)) (holds_stand tail holds new.conns new.flows new.links (begun past) stood);
          counts = subst (λ (p : WayHistory). Counts old.config.limits t u new.conns new.flows p) (sym (after_append told.steps steps h)) (counts t u past told.stands stood told.counts);
          left = λ c. ap (gone world_setup c) (after_append told.steps steps h) ∙ (holds_gone tail holds (begun past) c ∙ (keeps past c ∙ told.left c));
          under = told.under;
          ways = λ was. subst (λ (p : WayHistory). AreWays old.config p) (sym (after_append told.steps steps h)) (holds_ways old.config tail holds (begun past) (ways past told.stands (told.ways was)));
          rows = ap (λ (rows : List (Option ℕ)). rows ++ row ∷ []) told.rows ∙ sym (rows_append told.steps steps ∙ ap (λ (rows : List (Option ℕ)). rows_in told.steps ++ row ∷ rows) (holds_rows tail));
          since = told.since;
        }

    -- its notes are still to be noted
    pub begun_owed : Owes (n ∷ tail) old new
    begun_owed = record {
      goes = λ {k} {t} {u} h g start notes told. told_on grown new same h g start (notes ++ n ∷ tail)
          (subst (λ (ns : List Note). ToldBy k grown t u h g start new.conns new.flows new.links (notes ++ n ∷ ns)) (shown_noted tail) (begun_told h g start notes told));
    }
