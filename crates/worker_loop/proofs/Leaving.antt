-- What the connections took, against what left them, by how the work ended.
use Rattle.flow_notes.specs.declared.events.Event.{Event}
use Rattle.flow_notes.specs.declared.notes.Note.{Note}
use Rattle.std.proofs.Common.{ap, arith, refl, subst, sym, ◌∙◌}
use Rattle.std.proofs.lemmas.List.{append_cancel_left}
use Rattle.std.specs.Option.{option_map}
use Rattle.std.specs.Prelude.{List, Some, [], if◌then◌else◌, take, ℕ, ◌++◌, ◌==◌, ◌∷◌, ◌≡◌, ◌≤◌}
use Rattle.tape_laws.specs.World.{gone}
use Rattle.wire_state.specs.Ways.{WayHistory, after, world_setup}
use Rattle.worker_core.proofs.Turning.{stands_keep, stands_promise}
use Rattle.worker_core.specs.Sessions.{RestsWire, StandsAt}
use Rattle.worker_core.specs.declared.worker.Kind.{Kind}
use Rattle.worker_loop.proofs.Coming.{up_more}
use Rattle.worker_loop.proofs.Ending.{LacksOf, ends_lack, handed, steps_same, turn_is}
use Rattle.worker_loop.proofs.Matching.{Closes, Grows, MatchesTo, close_one, gave_steps, grows_more, grows_none, runs_match}
use Rattle.worker_loop.proofs.Sending.{Stood, rises, runs_stand, same_greatest, taken_in, then_rises}
use Rattle.worker_loop.proofs.Working.{Ends, EndsAt}
use Rattle.worker_loop.specs.Cutting.{AtWires, Cuts, CutsOne, Midway}
use Rattle.worker_loop.specs.Did.{Did, Admitted, Dispatched, Ended, Gave, Left, Noted, Offered, Refused, TurnedAway, events_of}
use Rattle.worker_loop.specs.Parts.{AreCloses, EndsStanding, Hands, InWorld, Matches, TakesWhatLeft, outside_events, taken_of, turn_events}
use Rattle.worker_loop.specs.Places.{Becomes, Place}
use Rattle.worker_loop.specs.Turns.{Sides}
use Rattle.worker_loop.specs.declared.turns.Ended.{Ended as End}
use Rattle.worker_loop.specs.declared.turns.Ended.TheVariants as ended
use Rattle.worker_ports.specs.Told.{with_last}
use Rattle.worker_ports.specs.Wires.{Seen}
use Rattle.worker_ports.specs.declared.wires.WireStep.{WireStep}
use Rattle.worker_ports.specs.declared.wires.WireStep.TheVariants as step

-- ---- what was taken, by the steps that are told
closes_take : (c : ℕ) (cs ss : List WireStep) → AreCloses cs → taken_of c (cs ++ ss) ≡ taken_of c ss
closes_take c [] ss over = refl
closes_take c (step.Closed d ∷ cs) ss over = closes_take c cs ss over
closes_take c (step.Gave w ∷ cs) ss over = absurd over
closes_take c (step.Offered d piece n ∷ cs) ss over = absurd over

-- the steps that were added, of which as much was taken as in what was done
pub record TookTo (old new : Seen) (ds : List Did) : Type 0 where
  pub steps : List WireStep
  pub grows : Grows old steps new
  pub taken : (c : ℕ) → taken_of c steps ≡ taken_in c ds

took_none : (old new : Seen) → new ≡ old → TookTo old new []
took_none old new e = record { steps = []; grows = ap (λ (s : Seen). s.steps) e ∙ grows_none old; taken = λ c. refl }

-- closes in front
took_closes : (a b c : Seen) (ds es : List Did) → ((x : ℕ) → taken_in x es ≡ taken_in x ds) → Closes a b → TookTo b c ds → TookTo a c es
took_closes a b c ds es same one two = record {
  steps = one.steps ++ two.steps;
  grows = grows_more a b c one.steps two.steps one.grows two.grows;
  taken = λ x. closes_take x one.steps two.steps one.over ∙ two.taken x ∙ sym (same x);
}

-- nothing is told of what stands in front
took_same : (a b c : Seen) (ds es : List Did) → ((x : ℕ) → taken_in x es ≡ taken_in x ds) → b ≡ a → TookTo b c ds → TookTo a c es
took_same a b c ds es same e two = record { steps = two.steps; grows = two.grows ∙ ap (λ (s : Seen). option_map (λ before. before ++ two.steps) s.steps) e; taken = λ x. two.taken x ∙ sym (same x) }

-- one step in front
took_step : (a b c : Seen) (s : WireStep) (ds es : List Did) → b.steps ≡ with_last s a.steps → ((x : ℕ) (ss : List WireStep) → taken_of x ss ≡ taken_in x ds → taken_of x (s ∷ ss) ≡ taken_in x es) → TookTo b c ds → TookTo a c es
took_step a b c s ds es e one two = record {
  steps = (s ∷ []) ++ two.steps;
  grows = grows_more a b c (s ∷ []) two.steps e two.grows;
  taken = λ x. one x two.steps (two.taken x);
}

took_did : (names : List (List ℕ)) (ds : List Did) (v w : Place) → Becomes names v ds w → TookTo v.seen w.seen ds
took_did names [] v w b = took_none v.seen w.seen (ap (λ (p : Place). p.seen) b)
took_did names (Gave g ∷ ds) v w b = took_step v.seen b.0.seen w.seen (step.Gave g) ds (Gave g ∷ ds) (gave_steps v.seen b.0.seen g b.1.1) (λ x ss e. e) (took_did names ds b.0 w b.2)
took_did names (Admitted n ∷ ds) v w b = took_same v.seen b.0.seen w.seen ds (Admitted n ∷ ds) (λ x. refl) (ap (λ (p : Place). p.seen) b.1.0) (took_did names ds b.0 w b.2)
took_did names (Refused n ∷ ds) v w b = took_same v.seen b.0.seen w.seen ds (Refused n ∷ ds) (λ x. refl) (ap (λ (p : Place). p.seen) b.1.0) (took_did names ds b.0 w b.2)
took_did names (TurnedAway n ∷ ds) v w b = took_closes v.seen b.0.seen w.seen ds (TurnedAway n ∷ ds) (λ x. refl) (close_one n v.seen b.0.seen (ap (λ (p : Place). p.seen) b.1)) (took_did names ds b.0 w b.2)
took_did names (Left n ∷ ds) v w b = took_same v.seen b.0.seen w.seen ds (Left n ∷ ds) (λ x. refl) (ap (λ (p : Place). p.seen) b.1) (took_did names ds b.0 w b.2)
took_did names (Dispatched e ∷ ds) v w b = took_same v.seen b.0.seen w.seen ds (Dispatched e ∷ ds) (λ x. refl) (ap (λ (p : Place). p.seen) b.1.0) (took_did names ds b.0 w b.2)
took_did names (Ended n ∷ ds) v w b = took_closes v.seen b.0.seen w.seen ds (Ended n ∷ ds) (λ x. refl) (close_one n v.seen b.0.seen (ap (λ (p : Place). p.seen) b.1)) (took_did names ds b.0 w b.2)
took_did names (Noted notes ∷ ds) v w b = took_same v.seen b.0.seen w.seen ds (Noted notes ∷ ds) (λ x. refl) (ap (λ (p : Place). p.seen) b.1) (took_did names ds b.0 w b.2)
took_did names (Offered d piece n ∷ ds) v w b =
    took_step v.seen b.0.seen w.seen (step.Offered d piece n) ds (Offered d piece n ∷ ds) (ap (λ (p : Place). p.seen.steps) b.1)
    (λ x ss e. ap (λ (xs : List ℕ). (if d == x then take n piece else []) ++ xs) e) (took_did names ds b.0 w b.2)

-- the steps that were added are these
added_are : (old new : Seen) (before steps ss : List WireStep) → Grows old ss new → old.steps ≡ Some before → new.steps ≡ Some (before ++ steps) → steps ≡ ss
added_are old new before steps ss grows at_old at_new =
    append_cancel_left before steps ss (steps_same (before ++ steps) (before ++ ss) (sym at_new ∙ grows ∙ ap (option_map (λ (b : List WireStep). b ++ ss)) at_old))

-- ---- the core, and the greatest number that came, by how the work ended
module _ (names : List (List ℕ)) (h : WayHistory) where
  one_stands : (end : End) (k k' : Kind) (v w : Place) → StandsAt k h → CutsOne names end k v k' w → EndsStanding end k' h
  one_stands ended.Turns k k' v w stands cut = absurd cut
  one_stands ended.Stopped k k' v w stands cut = absurd cut
  one_stands ended.WiresFault k k' v w stands cut = absurd cut
  one_stands ended.JournalFault k k' v w stands cut = subst (λ (j : Kind). StandsAt j h) (sym cut.0) stands
  one_stands ended.Memory k k' v w stands cut = (k, stands)

  cuts_stand : {end : End} {k' : Kind} {w : Place} (k : Kind) (v : Place) → StandsAt k h → Cuts names k v end k' w → EndsStanding end k' h
  cuts_stand k v stands AtWires = stands
  cuts_stand k v stands (Midway end head mid new w begun b cut) = one_stands end k new mid w stands cut

  ends_stand : (end : End) (k k' : Kind) (v w : Place) → StandsAt k h → EndsAt names end k v k' w → EndsStanding end k' h
  ends_stand ended.Turns k k' v w stands e = subst (λ (j : Kind). StandsAt j h) (sym e.0) stands
  ends_stand ended.Stopped k k' v w stands e = subst (λ (j : Kind). StandsAt j h) (sym e.0) stands
  ends_stand ended.WiresFault k k' v w stands e = cuts_stand k v stands e
  ends_stand ended.JournalFault k k' v w stands e = cuts_stand k v stands e
  ends_stand ended.Memory k k' v w stands e = cuts_stand k v stands e

one_rises : (names : List (List ℕ)) (end : End) (k k' : Kind) (v w : Place) → CutsOne names end k v k' w → v.seen.greatest ≤ w.seen.greatest
one_rises names ended.Turns k k' v w cut = absurd cut
one_rises names ended.Stopped k k' v w cut = absurd cut
one_rises names ended.WiresFault k k' v w cut = absurd cut
one_rises names ended.JournalFault k k' v w cut = same_greatest v w (ap (λ (p : Place). p.seen.greatest) cut.1.rest)
one_rises names ended.Memory k k' v w cut = rises names cut.did v w cut.becomes

cuts_rise : {end : End} {k' : Kind} {w : Place} (names : List (List ℕ)) (k : Kind) (v : Place) → Cuts names k v end k' w → v.seen.greatest ≤ w.seen.greatest
cuts_rise names k v AtWires = omega arith
cuts_rise names k v (Midway end head mid new w begun b cut) = then_rises v.seen.greatest mid.seen.greatest w.seen.greatest (rises names head v mid b) (one_rises names end k new mid w cut)

ends_rise : (names : List (List ℕ)) (end : End) (k k' : Kind) (v w : Place) → EndsAt names end k v k' w → v.seen.greatest ≤ w.seen.greatest
ends_rise names ended.Turns k k' v w e = same_greatest v w (ap (λ (p : Place). p.seen.greatest) e.1)
ends_rise names ended.Stopped k k' v w e = same_greatest v w (ap (λ (p : Place). p.seen.greatest) e.1)
ends_rise names ended.WiresFault k k' v w e = cuts_rise names k v e
ends_rise names ended.JournalFault k k' v w e = cuts_rise names k v e
ends_rise names ended.Memory k k' v w e = cuts_rise names k v e

-- ---- the part
module _ (names : List (List ℕ)) (end : End) (old new : Sides) (k0 k' : Kind) (v0 w : Place) (e : Ends names end old k0 v0 new k' w) (rests : RestsWire k0) where
  takes_left : (notes : List Note) (h now : WayHistory) (before told : List WireStep) → Hands v0.told w.told notes → ((c : ℕ) → gone world_setup c now ≡ gone world_setup c h ++ taken_in c e.did)
      → v0.seen.steps ≡ Some before → w.seen.steps ≡ Some (before ++ told) → TakesWhatLeft end notes h now told
  takes_left notes h now before told hands left at_old at_new =
      let m : MatchesTo v0.seen e.mid.seen (events_of e.did) = runs_match names v0 e.mid e.runs e.becomes in
      let t : TookTo v0.seen e.mid.seen e.did = took_did names e.did v0 e.mid e.becomes in
      let l : LacksOf end e.mid.seen w.seen = ends_lack names end e.kind k' e.mid w e.ends in
      let at_mid : e.mid.seen.steps ≡ Some (before ++ t.steps) = t.grows ∙ ap (option_map (λ (b : List WireStep). b ++ t.steps)) at_old in
      record {
        kept = t.steps;
        lost = l.lost;
        are = added_are v0.seen w.seen before told (t.steps ++ l.lost) (grows_more v0.seen e.mid.seen w.seen t.steps l.lost t.grows l.grows) at_old at_new;
        lacks = l.may;
        matches = subst (λ (ss : List WireStep). Matches ss (outside_events (turn_events notes))) (sym (added_are v0.seen e.mid.seen before t.steps m.steps m.grows at_old at_mid))
            (subst (λ (es : List Event). Matches m.steps (outside_events es)) (sym (turn_is names end old new k0 k' v0 w e rests notes hands)) m.matches);
        left = λ c. left c ∙ ap (λ (xs : List ℕ). gone world_setup c h ++ xs) (sym (t.taken c));
      }

  pub part_octets : InWorld end k0 k' v0.seen w.seen v0.told w.told
  part_octets = record {
    goes = λ notes h hands stands up.
        let s : Stood k0 h e.did e.kind e.mid.seen.greatest = runs_stand names v0 e.mid e.runs e.becomes h stands up in
        record {
          steps = s.steps;
          is = handed names end old new k0 k' v0 w e rests notes hands ∙ s.is;
          stands = ends_stand names (after s.steps h) end e.kind k' e.mid w s.stands e.ends;
          ways = s.ways;
          promises = stands_promise k0 e.kind (after s.steps h) s.under s.stands;
          keeps = stands_keep k0 e.kind (after s.steps h) s.under s.stands;
          came = up_more e.mid.seen.greatest w.seen.greatest (after s.steps h) (ends_rise names end e.kind k' e.mid w e.ends) s.up;
          takes = λ before told at_old at_new. takes_left notes h (after s.steps h) before told hands s.left at_old at_new;
        };
  }
