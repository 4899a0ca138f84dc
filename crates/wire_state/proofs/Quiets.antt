-- What the counts are with a note by which no buffer rises or drains.
use Rattle.flow_gate.specs.Board.{Board, lows, pending_on}
use Rattle.flow_rules.specs.declared.ids.BufferId.{BufferId}
use Rattle.flow_rules.specs.declared.ids.FlowId.{FlowId}
use Rattle.paged_map.specs.PagedMap.{PagedMap}
use Rattle.proxy_config.specs.declared.config.LimitKeys.{LimitKeys}
use Rattle.std.proofs.Common.{ap, arith, inl, inr, refl, subst, sym, ◌∙◌}
use Rattle.std.specs.Option.{option_map_or}
use Rattle.std.specs.Prelude.{IsSome, List, Option, [], false, true, ℕ, ◌+◌, ◌∷◌, ◌≡◌, ◌⊎◌}
use Rattle.tape_laws.specs.Dispatches.{has, live}
use Rattle.tape_laws.specs.Pauses.{pauses, resumes}
use Rattle.wire_flows.specs.Flows.{Flows, is_live_in, is_there}
use Rattle.wire_flows.specs.Sound.{IsSound}
use Rattle.wire_flows.specs.Writes.{Write}
use Rattle.wire_state.proofs.Counting.{AboveGoes, CountsGo, FlowsGo, WayStays, above_same, same_go}
use Rattle.wire_state.proofs.CountsKept.{AboveStays, write_stays}
use Rattle.wire_state.proofs.Rising.{drained, risen}
use Rattle.wire_state.specs.Counts.{Counts, Heeds, MayLag}
use Rattle.wire_state.specs.Ways.{WayHistory, WayStep}
use Rattle.wire_state.specs.declared.conn.Conn.{Conn}

same_above : (conns : PagedMap Conn) → AboveStays conns conns
same_above conns = record { above_stays = λ c. refl; came = λ c e. e }

module _ {l : LimitKeys} {t u : Option ℕ} (conns conns' : PagedMap Conn) (flows : Flows) (step : WayStep) (h : WayHistory) (c : Counts l t u conns flows h) where
  more : (a b : ℕ) → b ≡ 0 → a + 0 ≡ a + b
  more a b e = omega (arith, e)

  pub quiet_go : ((d : ℕ) → AboveGoes l conns conns' d) → AboveStays conns conns' → ((f : FlowId) → is_there flows f ≡ true → WayStays step h f) → live (step ∷ h) ≡ live h → Heeds l step h
      → ((f : FlowId) → (pauses f (step ∷ h) ≡ pauses f h) × (resumes f (step ∷ h) ≡ resumes f h)) → ((f : FlowId) → risen l f step h ≡ 0) → ((f : FlowId) → drained l f step h ≡ 0)
      → CountsGo l t u t u conns conns' flows flows step [] h
  quiet_go writes stays ways living turned quiet rise drain = record {
    sound = c.sound;
    flows_go = same_go flows flows refl;
    ways = ways;
    lives = λ x. ap (λ (xs : List ℕ). has xs x) living ∙ c.living x;
    writes = writes;
    marks = λ d. c.marks d ∙ sym (stays.above_stays d);
    known = λ d there. c.known d (stays.came d there);
    told = c.told;
    turns = turned;
    holds = tt;
    quiet = quiet;
    paused = λ f flow seen. sym (rise f);
    resumed = λ f flow seen. more _ _ (drain f);
    none = λ f lt. (refl, refl);
  }

-- of which nothing changed
pub idle_go : {l : LimitKeys} {t u : Option ℕ} → (conns : PagedMap Conn) (flows : Flows) (step : WayStep) (h : WayHistory) → Counts l t u conns flows h
    → ((f : FlowId) → is_there flows f ≡ true → WayStays step h f) → live (step ∷ h) ≡ live h → Heeds l step h
    → ((f : FlowId) → (pauses f (step ∷ h) ≡ pauses f h) × (resumes f (step ∷ h) ≡ resumes f h)) → ((f : FlowId) → risen l f step h ≡ 0) → ((f : FlowId) → drained l f step h ≡ 0)
    → CountsGo l t u t u conns conns flows flows step [] h
idle_go {l} conns flows step h c ways living turned quiet rise drain = quiet_go conns conns flows step h c (above_same l conns) (same_above conns) ways living turned quiet rise drain

-- the flows go on, and the gates stay
pub gates_go : {l : LimitKeys} {t u : Option ℕ} → (conns : PagedMap Conn) (old new : Flows) (step : WayStep) (h : WayHistory) → Counts l t u conns old h → FlowsGo old new → ((x : ℕ) → is_live_in new x ≡ is_live_in old x) → new.gates ≡ old.gates → IsSound new
    → ((f : FlowId) → is_there new f ≡ true → WayStays step h f) → live (step ∷ h) ≡ live h → Heeds l step h
    → ((f : FlowId) → (pauses f (step ∷ h) ≡ pauses f h) × (resumes f (step ∷ h) ≡ resumes f h)) → ((f : FlowId) → risen l f step h ≡ 0) → ((f : FlowId) → drained l f step h ≡ 0)
    → CountsGo l t u t u conns conns old new step [] h
gates_go {l} {t} {u} conns old new step h c go same gates sound ways living turned quiet rise drain = record {
  sound = sound;
  flows_go = go;
  ways = ways;
  lives = λ x. ap (λ (xs : List ℕ). has xs x) living ∙ (c.living x ∙ sym (same x));
  writes = above_same l conns;
  marks = λ d. ap (λ (o : Option Write). option_map_or (λ w. w.above) o false) (write_stays d old new gates) ∙ c.marks d;
  known = λ d there. subst IsSome (sym (write_stays d old new gates)) (c.known d there);
  told = λ b. at b (c.told b);
  turns = turned;
  holds = tt;
  quiet = quiet;
  paused = λ f flow seen. sym (rise f);
  resumed = λ f flow seen. kept _ _ _ (ap (λ (v : Board). lows v f) gates) (drain f);
  none = λ f lt. (refl, refl);
}
  where
    kept : (a b d : ℕ) → a ≡ b → d ≡ 0 → a + 0 ≡ b + d
    kept a b d e i = omega (arith, e, i)

    at : (b : BufferId) → (pending_on old.gates b ≡ []) ⊎ MayLag t u b → (pending_on new.gates b ≡ []) ⊎ MayLag t u b
    at b (inl none) = inl (ap (λ (v : Board). pending_on v b) gates ∙ none)
    at b (inr may) = inr may
