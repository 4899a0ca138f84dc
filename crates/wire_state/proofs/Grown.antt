-- Octets that went into a write buffer, and what the gates have of it.
use Rattle.flow_gate.specs.Board.{Board, pending_on}
use Rattle.flow_rules.specs.declared.ids.BufferId.{BufferId}
use Rattle.flow_rules.specs.declared.ids.BufferId.TheVariants as buffer
use Rattle.io_ports.specs.declared.octets.NoMemory.{NoMemory}
use Rattle.std.proofs.Common.{ap, arith, refl, subst, sym, ◌∙◌}
use Rattle.std.proofs.lemmas.Bool.Decides.{nat_tests}
use Rattle.std.specs.Option.{option_map}
use Rattle.std.specs.Prelude.{Bool, Err, IfOk, IfSome, List, Ok, Option, Result, [], false, if◌then◌else◌, length, not, true, ℕ, ◌&&◌, ◌==◌, ◌∷◌, ◌≡◌}
use Rattle.wire_flows.proofs.Crossings.{high_of, low_of}
use Rattle.wire_flows.specs.Flows.{Flows}
use Rattle.wire_flows.specs.Moves.{is_high, is_low}
use Rattle.wire_flows.specs.Sound.{IsSound}
use Rattle.wire_flows.specs.Writes.{ChangesWrite, KeepsLows, KeepsOtherLows, raised, watchers_on, write_at}
use Rattle.wire_outlet.specs.Outgoing.{FramesFirst, Outgoing}
use Rattle.wire_outlet.specs.declared.outlet.Framed.{Framed}
use Rattle.wire_outlet.specs.declared.waiting.Waiting.{Waiting}
use Rattle.wire_state.proofs.CountsKept.{write_stays}
use Rattle.wire_state.specs.Counts.{Fills, Frees, Grows, eased}
use Rattle.wm_buffer.specs.Buffer.{AppendsOctets, Buffer, DropsOctets}
use Rattle.wm_buffer.specs.Watermark.{above_after, crossing}
use Rattle.wm_buffer.specs.declared.watermark.Crossed.{Crossed}

-- ---- a frame
pub grows_by : (old new : Buffer) (crossed : Crossed) → old.above ≡ false → crossed ≡ crossing old.above new.above → new.above ≡ above_after old.limit old.above (length new.octets) → Grows (is_high crossed) old new
grows_by old new crossed low is now = record { low = low; above = now; rose = ap is_high is ∙ (high_of old.above new.above ∙ ap (λ b. not b && new.above) low) }

-- the first that waits
pub first_grows : (r : Result (Option (Framed × Crossed)) NoMemory) (old new : Outgoing) → old.write.above ≡ false → IfOk r (λ framed. FramesFirst old.waiting old new framed) → IfOk r (λ framed. IfSome framed (λ f. Grows (is_high f.1) old.write new.write))
first_grows (Err x) old new low first = tt
first_grows (Ok framed) old new low first = at old.waiting first
  where
    at : (units : List Waiting) → FramesFirst units old new framed → IfSome framed (λ f. Grows (is_high f.1) old.write new.write)
    at [] e = subst (λ (v : Option (Framed × Crossed)). IfSome v (λ f. Grows (is_high f.1) old.write new.write)) (sym e.0) tt
    at (unit ∷ later) e = subst (λ (v : Option (Framed × Crossed)). IfSome v (λ f. Grows (is_high f.1) old.write new.write)) (sym e.0) (grows_by old.write new.write (crossing old.write.above new.write.above) low refl e.1.write.above)

-- with the gates
pub grown_fills : (n : ℕ) (up rose : Bool) (old new : Buffer) (before after : Flows) → Grows up old new → rose ≡ up → ChangesWrite n (option_map (raised rose) (write_at n before)) before after → KeepsLows before after → (IsSound before → IsSound after) → Fills n rose old new before after
grown_fills n up rose old new before after g is writes lows sound = record { low = g.low; above = g.above; rose = is ∙ g.rose; writes = writes; lows = lows; sound = sound }

-- where the flows were changed before, and the gates stayed
pub gates_fills : (n : ℕ) (up rose : Bool) (old new : Buffer) (before mid after : Flows) → Grows up old new → rose ≡ up → mid.gates ≡ before.gates → ChangesWrite n (option_map (raised rose) (write_at n mid)) mid after → KeepsLows mid after → (IsSound mid → IsSound after) → IsSound mid → Fills n rose old new before after
gates_fills n up rose old new before mid after g is gates writes lows sound mid_sound = record {
  low = g.low;
  above = g.above;
  rose = is ∙ g.rose;
  writes = record { writes = λ d. writes.writes d ∙ (λ i. if n == d then option_map (raised rose) (write_stays n before mid gates i) else write_stays d before mid gates i) };
  lows = record { lows = λ b. lows.lows b ∙ ap (λ (v : Board). pending_on v b) gates };
  sound = λ s. sound mid_sound;
}

-- a DATA frame
pub framed_fills : (n : ℕ) (rose : Bool) (old new : Buffer) (piece : List ℕ) (before after : Flows) → old.above ≡ false → AppendsOctets old new piece → rose ≡ (not old.above && new.above) → ChangesWrite n (option_map (raised rose) (write_at n before)) before after
    → ((b : BufferId) → pending_on after.gates b ≡ pending_on before.gates b) → IsSound after → Fills n rose old new before after
framed_fills n rose old new piece before after low appends is writes lows sound = record { low = low; above = appends.above; rose = is ∙ ap (λ b. not b && new.above) low; writes = writes; lows = record { lows = lows }; sound = λ s. sound }

-- ---- octets that leave
falls : (a b : Bool) → a ≡ true → b ≡ false → (a && not b) ≡ true
falls true false e i = refl
falls true true e i = cc
falls false b e i = cc

stays_up : (a b : Bool) → b ≡ true → (a && not b) ≡ false
stays_up true true e = refl
stays_up false true e = refl
stays_up a false e = cc

pub left_frees : (n k : ℕ) (old new : Buffer) (crossed : Crossed) (before after : Flows) → DropsOctets old new k → crossed ≡ crossing old.above new.above → ChangesWrite n (option_map (eased (is_low crossed) (watchers_on n before)) (write_at n before)) before after
    → KeepsOtherLows (buffer.Write n) before after → after.exchanges ≡ before.exchanges → (IsSound before → IsSound after) → Frees n (old.above && not new.above) old new before after
left_frees n k old new crossed before after drops is writes lows rest sound = record {
  above = drops.above;
  drains = λ a b. falls old.above new.above a b;
  stays = λ b. stays_up old.above new.above b;
  writes = subst (λ (d : Bool). ChangesWrite n (option_map (eased d (watchers_on n before)) (write_at n before)) before after) (ap is_low is ∙ low_of old.above new.above) writes;
  lows = lows;
  rest = rest;
  sound = sound;
}

none_up : (n : ℕ) (a : Bool) → above_after n a 0 ≡ true → ⊥
none_up n true e = grind (arith, nat_tests)
none_up n false e = grind (arith, nat_tests)

pub never_above : (n : ℕ) (a : Bool) → above_after n a 0 ≡ false
never_above n a = at (above_after n a 0) refl
  where
    at : (b : Bool) → above_after n a 0 ≡ b → b ≡ false
    at true e = absurd (none_up n a e)
    at false e = refl

-- all of them
pub dropped_frees : (n : ℕ) (old new : Buffer) (before after : Flows) → new.octets ≡ [] → new.above ≡ false → ChangesWrite n (option_map (eased true (watchers_on n before)) (write_at n before)) before after
    → KeepsOtherLows (buffer.Write n) before after → after.exchanges ≡ before.exchanges → (IsSound before → IsSound after) → Frees n true old new before after
dropped_frees n old new before after none low writes lows rest sound = record {
  above = low ∙ sym (ap (λ (xs : List ℕ). above_after old.limit old.above (length xs)) none ∙ never_above old.limit old.above);
  drains = λ a b. refl;
  stays = λ b. absurd (cc (low, b));
  writes = writes;
  lows = lows;
  rest = rest;
  sound = sound;
}
