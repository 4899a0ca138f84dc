-- What the flows are after octets left the write buffer.
use Rattle.flow_gate.specs.Board.{Board, IsSound as IsSoundBoard}
use Rattle.flow_gate.specs.Changes.{Drains}
use Rattle.flow_rules.specs.declared.ids.FlowId.{FlowId}
use Rattle.plain_laws.proofs.EventChanges.{room_high, room_keeps}
use Rattle.plain_laws.proofs.Keepings.{turn_keeps_write}
use Rattle.plain_laws.proofs.Outs.{out_lows}
use Rattle.plain_laws.specs.StepNotes.{room_notes}
use Rattle.std.proofs.Common.{ap, arith, refl, sym, ◌∙◌}
use Rattle.std.proofs.lemmas.List.{append-nil}
use Rattle.std.specs.Prelude.{Bool, List, [], drop, false, if◌then◌else◌, length, map, not, true, ℕ, ◌&&◌, ◌++◌, ◌∷◌, ◌≡◌, ◌≤◌}
use Rattle.plain_laws.specs.Words.{Past, conn_drains, conn_high, conn_lows, conn_out, turn_of}
use Rattle.tape_laws.specs.Dispatches.{live}
use Rattle.tape_laws.specs.Flows.{request}
use Rattle.tape_laws.specs.History.{NoMark, Noted, Step, onto}
use Rattle.tape_laws.specs.declared.PlainLimits.{PlainLimits}
use Rattle.wm_buffer.specs.Buffer.{Buffer, DropsOctets}
use Rattle.wm_buffer.specs.Watermark.{above_after}
use Rattle.plain_core.specs.Carries.{Leaves}
use Rattle.plain_core.specs.Flows.{ConnectionIs, GatesAre}
use Rattle.plain_core.specs.declared.conn.Connection.{Connection}
use Rattle.plain_core.specs.declared.flows.Flows.{Flows}
use Rattle.flow_rules.specs.declared.ids.BufferId.TheVariants as buffer
use Rattle.flow_notes.specs.declared.events.PlainEvent.TheVariants as plain
use Rattle.flow_notes.specs.declared.notes.Note.TheVariants as note
use Rattle.plain_core.proofs.FlowStreams.{same_exchanges}
use Rattle.plain_core.proofs.FlowGates.{CountsAre, KeepsNames, gates_from}
use Rattle.plain_laws.proofs.Flags.{no_rise, write_now}
use Rattle.std.proofs.Common.{length-drop}
use Rattle.plain_core.proofs.FlowHolds.{holding_kept}
use Rattle.plain_core.proofs.FlowUnits.{keeps_piece}

abbrev pub DrainsWrite : Bool → Board → Board → Type 0
DrainsWrite true old new = Drains (buffer.Write 0) old new
DrainsWrite false old new = new ≡ old

pub flag_same : (l l' : ℕ) (a a' : Bool) (o o' : List ℕ) → l ≡ l' → a ≡ a' → o ≡ o' → above_after l a (length o) ≡ above_after l' a' (length o')
flag_same l l' a a' o o' e f g = rw (e, f, g) refl

-- the flag of the write buffer, and whether it drains
module _ (limits : PlainLimits) (n : ℕ) where
  left_flag : (conn : Connection) (w : Buffer) (h : Past) → ConnectionIs limits conn h → DropsOctets conn.write w n
      → w.above ≡ above_after limits.write (conn_high limits h) (length (drop n (conn_out limits h)))
  left_flag conn w h c d = d.above ∙ flag_same _ _ _ _ _ _ c.limit c.above (cc)

  drains_is : (low : Bool) (conn : Connection) (w : Buffer) (h : Past) → ConnectionIs limits conn h → DropsOctets conn.write w n
      → low ≡ (conn.write.above && not w.above) → low ≡ conn_drains limits (Noted (note.Out 0 n)) h
  drains_is low conn w h c d is = cc (left_flag conn w h c d)

module _ (limits : PlainLimits) (k m n : ℕ) (h : Past) where
  abbrev after : Past
  after = onto (room_notes k m n) h

  -- where it doesn't drain its flag stays
  flag_stays : conn_drains limits (Noted (note.Out 0 n)) h ≡ false
      → conn_high limits h ≡ conn_high limits after
  flag_stays none = pick (conn_high limits h) refl none ∙ sym (room_high limits k m n h)
    where
      pick : (a : Bool) → conn_high limits h ≡ a → (a && not (above_after limits.write (conn_high limits h) (length (drop n (conn_out limits h))))) ≡ false
          → a ≡ above_after limits.write (conn_high limits h) (length (drop n (conn_out limits h)))
      pick true e none = sym (is_true _ none)
        where
          is_true : (b : Bool) → not b ≡ false → b ≡ true
          is_true true e = refl
          is_true false e = sym e
      pick false e none = sym (no_rise limits.write _ (length (conn_out limits h)) _ (write_now limits h) (shorter n (conn_out limits h)) e)
        where
          shorter : (n : ℕ) (o : List ℕ) → length (drop n o) ≤ length o
          shorter n o = omega (arith, length-drop n o)

  lows_after : conn_lows limits h ≡ []
      → conn_lows limits after ≡ (if conn_drains limits (Noted (note.Out 0 n)) h then map request (live h) else [])
  lows_after none =
      let turn : Step NoMark = turn_of k (plain.Room m) in
      let w = turn_keeps_write limits k (plain.Room m) h in
      out_lows limits n (turn ∷ h) (w.lows ∙ none)
      ∙ (ap (λ b. if b && not (conn_high limits after) then map request (live h) else []) w.high
      ∙ ap (λ b. if conn_high limits h && not b then map request (live h) else []) (room_high limits k m n h))

  left_counts : (low : Bool) (old new : Board) → low ≡ conn_drains limits (Noted (note.Out 0 n)) h → GatesAre limits old h → DrainsWrite low old new
      → conn_lows limits h ≡ [] → CountsAre limits new after
  left_counts true old new is g d none = record {
    counts = λ y e. d.counts (request y) ∙ g.counts y e;
    write_mark = d.marks (buffer.Write 0) ∙ sym (room_high limits k m n h ∙ drained _ _ (sym is));
    write_pending = d.pending (buffer.Write 0) ∙ (joined _ _ _ (g.write_pending ∙ none) g.write_watchers ∙ (cc (lows_after none)));
    send_mark = λ y. d.marks (buffer.Send (request y)) ∙ (g.send_mark y ∙ sym (room_keeps limits k m n y h).high);
    send_pending = λ y. d.pending (buffer.Send (request y)) ∙ (append-nil _ ∙ g.send_pending y);
  }
    where
      drained : (a b : Bool) → (a && not b) ≡ true → b ≡ false
      drained true false e = refl
      drained true true e = sym e
      drained false b e = cc

      joined : (a b d : List FlowId) → a ≡ [] → b ≡ d → a ++ b ≡ d
      joined a b d e f = rw (e, f) refl
  left_counts false old new is g d none = record {
    counts = λ y e. cc (g.counts y e);
    write_mark = cc (flag_stays (sym is));
    write_pending = cc (lows_after none);
    send_mark = λ y. cc (g.send_mark y, (room_keeps limits k m n y h).high);
    send_pending = λ y. cc (g.send_pending y);
  }

names_left : (low : Bool) (old new : Board) → DrainsWrite low old new → KeepsNames old new
names_left true old new d = record { flows = d.flows; buffers = d.buffers; watchers = d.watchers }
names_left false old new d = record { flows = λ f. cc; buffers = λ c. cc; watchers = λ c. cc }

pub leaves : (n : ℕ) (low : Bool) (old : Flows) (w : Buffer) (b : Board) → DropsOctets old.conn.write w n → low ≡ (old.conn.write.above && not w.above) → DrainsWrite low old.gates b → IsSoundBoard b
    → Leaves n low old (record old { gates = b; conn = record old.conn { write = w } })
leaves n low old w b d is change sound = record {
  goes = λ limits k m h settled none.
      let st = settled.stands in
      let c = st.conn in
      let h' = onto (room_notes k m n) h in
      let drains = drains_is limits n low old.conn w h c d is in
      record {
        drains = drains;
        stands = record {
          limits_are = st.limits_are;
          ranges = st.ranges;
          exchanges = same_exchanges limits old.exchanges h h' st.exchanges (record { lives = refl; begun = refl; doomed = refl }) (λ y. room_keeps limits k m n y h);
          gates = gates_from limits old.gates b h h' st.gates sound (names_left low old.gates b change) refl (left_counts limits k m n h low old.gates b drains st.gates change none);
          conn = record {
            limit = d.limit ∙ c.limit;
            octets = cc;
            above = left_flag limits n old.conn w h c d ∙ sym (room_high limits k m n h);
            framed_last = c.framed_last;
            ready = λ y. cc (c.ready y, keeps_piece limits y h h' (room_keeps limits k m n y h));
          };
          holding = holding_kept limits old.holding h h' st.holding refl (λ y. (room_keeps limits k m n y h).recv);
        };
      };
}
