-- A source of a flow that lives on rises only where it is fed, and drains only where it is eased.
use Rattle.flow_rules.specs.declared.ids.BufferId.{BufferId}
use Rattle.flow_rules.specs.declared.ids.FlowId.{FlowId}
use Rattle.flow_laws.proofs.Flags.{no_drain, no_rise}
use Rattle.flow_laws.proofs.Lengths.{Arrives, Comes, Doomed, Easing, Feeding, Framed, Leaves, NotEased, NotFed, easing, feeding, out_eased, out_fed}
use Rattle.flow_laws.proofs.Lists.{not_both, not_so, same_number}
use Rattle.flow_laws.proofs.Lives.{each_at}
use Rattle.flow_laws.proofs.Sources.{at_send, at_stage, each_source}
use Rattle.flow_laws.proofs.Spared.{spares}
use Rattle.flow_laws.specs.Balance.{LeavesClosed}
use Rattle.flow_laws.specs.Steps.{eased_by, fed_by}
use Rattle.flow_laws.specs.Ways.{HasWays, starts}
use Rattle.std.proofs.Common.{ap, arith, inl, inr, refl, subst, sym, ◌∙◌}
use Rattle.std.proofs.lemmas.Bool.Decides.{nat_tests}
use Rattle.std.specs.List.{AllByRecursion}
use Rattle.std.specs.Prelude.{IfSome, List, None, Option, Some, false, length, true, ℕ, ◌+◌, ◌<◌, ◌==◌, ◌∷◌, ◌≡◌, ◌≤◌, ◌⊎◌}
use Rattle.tape_laws.specs.Connections.{was_closed}
use Rattle.tape_laws.specs.History.{BeforeTurn, History, Noted, Step}
use Rattle.tape_laws.specs.Pauses.{place_buffer}
use Rattle.tape_laws.specs.Setup.{Setup}
use Rattle.tape_laws.specs.Sources.{is_live, live_flows, source_buffers}
use Rattle.tape_laws.specs.Units.{StageKind}
use Rattle.tape_laws.specs.Watermark.{drains_at, limit, rises_at, stage_limit}
use Rattle.tape_laws.specs.World.{last_place, len, out, place}
use Rattle.flow_rules.specs.declared.ids.BufferId.TheVariants as buffer
use Rattle.flow_notes.specs.declared.notes.Note.TheVariants as note

-- what holds before a turn
pub before_turn : {Mark : Type 0} (P Q : History Mark → Type 0) (step : Step Mark) (h : History Mark) → (P h → Q h) → BeforeTurn P step h → BeforeTurn Q step h
before_turn P Q (Noted (note.Turn k e)) h f b = f b
before_turn P Q step h f b = tt

pub at_turn : {Mark : Type 0} (P : History Mark → Type 0) (step : Step Mark) (h : History Mark) → P h → BeforeTurn P step h
at_turn P (Noted (note.Turn k e)) h p = p
at_turn P step h p1 = tt

some_of : (P : ℕ → Type 0) (o : Option ℕ) (c : ℕ) → o ≡ Some c → IfSome o P → P c
some_of P None c e i = cc
some_of P (Some d) c e i = subst P (number e) i
  where
    number : Some d ≡ Some c → d ≡ c
    number e = cc

fits : (a b c d : ℕ) → a ≡ c → b ≡ d → c ≤ d → a ≤ b
fits a b c d e f le = omega (arith, e, f, le)

above_none : (p : ℕ) → 1 ≤ p → (p == 0) ≡ false
above_none p le = grind (arith, nat_tests)

below_last : (p l : ℕ) → p < l → (p == l) ≡ false
below_last p l lt = grind (arith, nat_tests)

never_first : (p : ℕ) → 1 ≤ p → p ≡ 0 → ⊥
never_first p le e = omega (arith, le, e)

module _ {Mark : Type 0} (setup : Setup Mark) (ways : HasWays setup) (f : FlowId) (step : Step Mark) (h : History Mark)
    (old : starts f step ≡ false) (spared : spares f step ≡ true) where
  last_stays : last_place setup f (step ∷ h) ≡ last_place setup f h
  last_stays = ap (λ (ss : List StageKind). length ss + 1) (ways.stages f step h old)

  abbrev pub FedToRise : BufferId → Type 0
  FedToRise b = rises_at setup b step h ≡ true → fed_by setup step h ≡ Some b

  abbrev pub EasedToDrain : BufferId → Type 0
  EasedToDrain b = drains_at setup b step h ≡ true → eased_by setup step h ≡ Some b

  -- a buffer of one of its places
  module _ (b : BufferId) (p : ℕ) (now : len setup b (step ∷ h) ≡ length (place setup f p (step ∷ h))) (before : len setup b h ≡ length (place setup f p h))
      (same : limit setup b (step ∷ h) ≡ limit setup b h) (some : 1 ≤ p) (is : place_buffer setup f p h ≡ b) where
    place_rises : FedToRise b
    place_rises r = at (feeding setup f p step h)
      where
        at : Feeding setup f p step h → fed_by setup step h ≡ Some b
        at (Arrives octets e z) = absurd (never_first p some z)
        at (Comes q n e z) =
            ap (λ s. fed_by setup s h) e ∙ (ap (λ v. Some (place_buffer setup f v h)) (sym z) ∙ ap (λ v. Some v) is)
        at (NotFed le) = not_both (rises_at setup b step h) r (no_rise setup b step h same (fits _ _ _ _ now before le))

    place_drains : EasedToDrain b
    place_drains d = at (easing setup f p step h)
      where
        at : Easing setup f p step h → eased_by setup step h ≡ Some b
        at (Leaves n e) = ap (λ s. eased_by setup s h) e ∙ ap (λ v. Some v) is
        at (Framed c n last e z) =
            ap (λ s. eased_by setup s h) e ∙ ap (λ v. Some v) (sym (at_send setup f h) ∙ (ap (λ v. place_buffer setup f v h) (sym z) ∙ is))
        at (Doomed why e) =
            not_both (f.exchange == f.exchange) (same_number f.exchange) (not_so (f.exchange == f.exchange) (ap (λ s. spares f s) (sym e) ∙ spared))
        at (NotEased le) = not_both (drains_at setup b step h) d (no_drain setup b step h same (fits _ _ _ _ before now le))

  module _ (closed : BeforeTurn (LeavesClosed setup) step h) (live : is_live setup f h ≡ true) where
    open_at : (c : ℕ) → setup.goes_to f h ≡ Some c → BeforeTurn (λ past. was_closed c past ≡ false) step h
    open_at c e = before_turn (LeavesClosed setup) (λ past. was_closed c past ≡ false) step h
        (λ l. some_of (λ d. was_closed d h ≡ false) (setup.goes_to f h) c e (each_at (λ g. IfSome (setup.goes_to g h) (λ d. was_closed d h ≡ false)) (live_flows setup h) f l live)) closed

    write_rises : (c : ℕ) → FedToRise (buffer.Write c)
    write_rises c r = at (out_fed setup c step h)
      where
        at : (fed_by setup step h ≡ Some (buffer.Write c)) ⊎ (length (out setup c (step ∷ h)) ≤ length (out setup c h)) → fed_by setup step h ≡ Some (buffer.Write c)
        at (inl e) = e
        at (inr le) = not_both (rises_at setup (buffer.Write c) step h) r (no_rise setup (buffer.Write c) step h refl le)

    write_drains : (c : ℕ) → setup.goes_to f h ≡ Some c → EasedToDrain (buffer.Write c)
    write_drains c g d = at (out_eased setup c step h (open_at c g))
      where
        at : (eased_by setup step h ≡ Some (buffer.Write c)) ⊎ (length (out setup c h) ≤ length (out setup c (step ∷ h))) → eased_by setup step h ≡ Some (buffer.Write c)
        at (inl e) = e
        at (inr le) = not_both (drains_at setup (buffer.Write c) step h) d (no_drain setup (buffer.Write c) step h refl le)

    pub sources_cross : AllByRecursion (λ b. FedToRise b × EasedToDrain b) (source_buffers setup f h)
    sources_cross = each_source setup f h (λ b. FedToRise b × EasedToDrain b) stage send (λ c g. (write_rises c, write_drains c g))
      where
        stage : (p : ℕ) → 1 ≤ p → p < last_place setup f h → FedToRise (buffer.Stage f p) × EasedToDrain (buffer.Stage f p)
        stage p some lt =
            let same : limit setup (buffer.Stage f p) (step ∷ h) ≡ limit setup (buffer.Stage f p) h = ap (λ ss. stage_limit ss p) (ways.stages f step h old) in
            let is = at_stage setup f h p (above_none p some) (below_last p (last_place setup f h) lt) in
            (place_rises (buffer.Stage f p) p refl refl same some is, place_drains (buffer.Stage f p) p refl refl same some is)

        send : FedToRise (buffer.Send f) × EasedToDrain (buffer.Send f)
        send =
            let now : len setup (buffer.Send f) (step ∷ h) ≡ length (place setup f (last_place setup f h) (step ∷ h)) = ap (λ v. length (place setup f v (step ∷ h))) last_stays in
            let some : 1 ≤ last_place setup f h = one (length (setup.stages f h)) in
            (place_rises (buffer.Send f) (last_place setup f h) now refl refl some (at_send setup f h), place_drains (buffer.Send f) (last_place setup f h) now refl refl some (at_send setup f h))
          where
            one : (k : ℕ) → 1 ≤ k + 1
            one k = omega arith
