-- Those who watch a source that crosses are paused, or are to be told.
use Rattle.flow_rules.specs.declared.ids.BufferId.{BufferId}
use Rattle.flow_rules.specs.declared.ids.FlowId.{FlowId}
use Rattle.flow_laws.proofs.Crossings.{sources_cross}
use Rattle.flow_laws.proofs.Induction.{new_then}
use Rattle.flow_laws.proofs.Lists.{both, buffer_same, by_case, not_both}
use Rattle.flow_laws.proofs.Lives.{is_live_is, is_of, lives}
use Rattle.flow_laws.proofs.Spared.{lives_spared}
use Rattle.flow_laws.specs.Balance.{IsPaced}
use Rattle.flow_laws.specs.Steps.{eased_by, fed_by}
use Rattle.flow_laws.specs.Tellings.{Crosses}
use Rattle.flow_laws.specs.Ways.{HasWays, starts}
use Rattle.flow_notes.specs.declared.notes.CloseCause.{CloseCause}
use Rattle.std.proofs.Common.{ap, refl, sym, ◌∙◌}
use Rattle.std.proofs.lemmas.List.{append-nil}
use Rattle.std.specs.List.{AllByRecursion}
use Rattle.std.specs.Prelude.{Bool, List, Some, [], false, filter, flat_map, if◌then◌else◌, map, true, ℕ, ◌&&◌, ◌++◌, ◌+◌, ◌∷◌, ◌≡◌}
use Rattle.tape_laws.specs.Dispatches.{has, live}
use Rattle.tape_laws.specs.Flows.{same_buffer}
use Rattle.tape_laws.specs.History.{History, Noted, Step}
use Rattle.tape_laws.specs.Pauses.{Owed, due_pauses, pending_lows, place_buffer}
use Rattle.tape_laws.specs.Setup.{Setup}
use Rattle.tape_laws.specs.Sources.{is_live, source_buffers, watchers}
use Rattle.tape_laws.specs.Watermark.{drains_at, rises_at}
use Rattle.flow_rules.specs.declared.ids.BufferId.TheVariants as buffer
use Rattle.flow_notes.specs.declared.notes.CloseCause.TheVariants as closed
use Rattle.flow_notes.specs.declared.notes.Note.TheVariants as note

named : (a b : BufferId) → Some a ≡ Some b → a ≡ b
named a b e = cc

module _ {Mark : Type 0} (setup : Setup Mark) (h : History Mark) (b : BufferId) where
  abbrev all_paused : List Owed
  all_paused = map (λ f. record { flow = f; buffer = b }) (watchers setup b h)

  abbrev due_for : Step Mark → BufferId → List Owed
  due_for step c = flat_map (λ v. map (λ f. record { flow = f; buffer = v }) (watchers setup v h)) (filter (λ v. rises_at setup v step h) (c ∷ []))

  rose : (step : Step Mark) (c : BufferId) → Some c ≡ Some b → rises_at setup b step h ≡ true → due_for step c ≡ all_paused
  rose step c e r = ap (due_for step) (named c b e) ∙ (at (rises_at setup b step h) r ∙ append-nil all_paused)
    where
      at : (x : Bool) → x ≡ true → flat_map (λ v. map (λ f. record { flow = f; buffer = v }) (watchers setup v h)) (if x then b ∷ [] else []) ≡ all_paused ++ []
      at true e = refl
      at false e = cc

  paused : (step : Step Mark) → fed_by setup step h ≡ Some b → rises_at setup b step h ≡ true → due_pauses setup (step ∷ h) ≡ all_paused
  paused (Noted (note.Move f p n)) e r = rose (Noted (note.Move f p n)) (place_buffer setup f (p + 1) h) e r
  paused (Noted (note.Frame c f n last)) e r = rose (Noted (note.Frame c f n last)) (buffer.Write c) e r
  paused (Noted (note.Head c s octets)) e r = rose (Noted (note.Head c s octets)) (buffer.Write c) e r
  paused (Noted (note.Answer c octets)) e r = rose (Noted (note.Answer c octets)) (buffer.Write c) e r
  paused (Noted (note.Credit c s n)) e r = rose (Noted (note.Credit c s n)) (buffer.Write c) e r
  paused step e1 r = cc

  abbrev told_then : Step Mark → BufferId → List FlowId
  told_then step c = pending_lows setup b h ++ (if same_buffer b c && drains_at setup b step h then watchers setup b h else [])

  drained : (step : Step Mark) (c : BufferId) → Some c ≡ Some b → drains_at setup b step h ≡ true → told_then step c ≡ pending_lows setup b h ++ watchers setup b h
  drained step c e d = at (same_buffer b c) (drains_at setup b step h) (ap (λ v. same_buffer b v) (named c b e) ∙ buffer_same b) d
    where
      at : (x y : Bool) → x ≡ true → y ≡ true → pending_lows setup b h ++ (if x && y then watchers setup b h else []) ≡ pending_lows setup b h ++ watchers setup b h
      at true true e i = refl
      at true false e i = cc
      at false y e i = cc

  close_told : (c code : ℕ) (why : CloseCause) → eased_by setup (Noted (note.Close c code why)) h ≡ Some b → drains_at setup b (Noted (note.Close c code why)) h ≡ true
      → pending_lows setup b (Noted (note.Close c code why) ∷ h) ≡ pending_lows setup b h ++ watchers setup b h
  close_told c code closed.Lost e d = drained (Noted (note.Close c code closed.Lost)) (buffer.Write c) e d
  close_told c code ev e d = cc

  told : (step : Step Mark) → eased_by setup step h ≡ Some b → drains_at setup b step h ≡ true → pending_lows setup b (step ∷ h) ≡ pending_lows setup b h ++ watchers setup b h
  told (Noted (note.Move f p n)) e d = drained (Noted (note.Move f p n)) (place_buffer setup f p h) e d
  told (Noted (note.Frame c f n last)) e d = drained (Noted (note.Frame c f n last)) (buffer.Send f) e d
  told (Noted (note.Out c n)) e d = drained (Noted (note.Out c n)) (buffer.Write c) e d
  told (Noted (note.Close c code why)) e d = close_told c code why e d
  told step e1 d1 = cc

module _ {Mark : Type 0} (setup : Setup Mark) (ways : HasWays setup) (step : Step Mark) (h : History Mark) (paced : IsPaced setup (step ∷ h)) (f : FlowId) where
  all_cross : (bs : List BufferId) → AllByRecursion (λ b. (rises_at setup b step h ≡ true → fed_by setup step h ≡ Some b) × (drains_at setup b step h ≡ true → eased_by setup step h ≡ Some b)) bs
      → AllByRecursion (Crosses setup step h) bs
  all_cross [] a = tt
  all_cross (b ∷ bs) a = (
    record { fed = a.0.0; pauses = λ r. paused setup h b step (a.0.0 r) r; eased = a.0.1; tells = λ d. told setup h b step (a.0.1 d) d },
    all_cross bs a.1,
  )

  pub each_crosses : is_live setup f h ≡ true → is_live setup f (step ∷ h) ≡ true → AllByRecursion (Crosses setup step h) (source_buffers setup f h)
  each_crosses before now =
      let alive : has (live h) f.exchange ≡ true = (both (has (live h) f.exchange) (is_of setup ways f) (sym (is_live_is setup ways f h (lives h paced.doomed.1)) ∙ before)).0 in
      let later : has (live (step ∷ h)) f.exchange ≡ true = (both (has (live (step ∷ h)) f.exchange) (is_of setup ways f) (sym (is_live_is setup ways f (step ∷ h) (lives (step ∷ h) paced.doomed)) ∙ now)).0 in
      by_case (starts f step) (λ t. not_both (has (live h) f.exchange) alive ((lives h paced.doomed.1).born f.exchange (new_then setup ways f step h paced.doomed.0 t)))
      (λ o. all_cross (source_buffers setup f h) (sources_cross setup ways f step h o (lives_spared f step h later) paced.closed.0 before))
