-- Units that went into a write buffer, with the notes that are owed for them.
use Rattle.exchange_core.specs.Changes.{ChangesFlow}
use Rattle.exchange_core.specs.Effects.{body_framed, list_framed}
use Rattle.exchange_core.specs.Exchange.{flow_in as side_of}
use Rattle.exchange_core.specs.Exchanges.{exchange_at, is_send_above}
use Rattle.exchange_core.specs.Flow.{Flow, last_place as send_place, send}
use Rattle.exchange_core.specs.declared.exchange.Exchange.{Exchange}
use Rattle.filter_chain.specs.Chain.{above_in}
use Rattle.flow_gate.proofs.SameIds.{same_flow_exact}
use Rattle.flow_gate.specs.Board.{watched_by}
use Rattle.flow_gate.specs.Ids.{same_flow}
use Rattle.flow_rules.specs.declared.ids.BufferId.TheVariants as buffer
use Rattle.flow_rules.specs.declared.ids.FlowId.{FlowId}
use Rattle.flow_laws.proofs.Flags.{flag_now}
use Rattle.flow_laws.proofs.Lists.{one_if}
use Rattle.flow_laws.proofs.Spared.{spares}
use Rattle.flow_laws.specs.Steps.{fed_by}
use Rattle.flow_notes.specs.declared.notes.Note.{Note}
use Rattle.flow_notes.specs.declared.notes.Note.TheVariants as note
use Rattle.h2_frames.specs.Frame.{WindowUpdate}
use Rattle.h2_frames.specs.Head.{data_head}
use Rattle.h2_frames.specs.Spelling.{spelling}
use Rattle.io_ports.specs.declared.octets.NoMemory.{NoMemory}
use Rattle.proxy_config.specs.declared.config.LimitKeys.{LimitKeys}
use Rattle.std.proofs.Common.{ap, arith, refl, subst, sym, ◌∙◌}
use Rattle.std.proofs.lemmas.List.{append-nil}
use Rattle.paged_map.specs.PagedMap.{PagedMap, WritesThrough, value_at}
use Rattle.std.specs.Option.{option_and_then, option_map_or}
use Rattle.std.specs.Prelude.{Bool, Err, IfOk, IfSome, IsSome, List, MatchOption, None, Ok, Option, Result, Some, [], drop, false, if◌then◌else◌, is_some, length, not, take, true, ℕ, ◌&&◌, ◌++◌, ◌+◌, ◌<◌, ◌==◌, ◌∷◌, ◌≡◌, ◌≤◌}
use Rattle.tape_laws.specs.Flows.{request}
use Rattle.tape_laws.specs.Dispatches.{live}
use Rattle.tape_laws.specs.History.{Noted}
use Rattle.tape_laws.specs.Pauses.{pauses, resumes}
use Rattle.tape_laws.specs.Watermark.{above, drains_at}
use Rattle.tape_laws.specs.World.{last_place, out, window_update}
use Rattle.wire_flows.proofs.Found.{live_after}
use Rattle.wire_flows.specs.Flows.{Flows, flow_in, is_there}
use Rattle.wire_flows.specs.Sound.{IsSound}
use Rattle.wire_flows.specs.Writes.{Write, watchers_on}
use Rattle.wire_flows.specs.declared.framing.Framed.{Framed}
use Rattle.wire_links.specs.Links.{Links, ends_of}
use Rattle.wire_links.specs.declared.links.exchanges.Ends.{Ends}
use Rattle.wire_state.proofs.Bodies.{flow_goes, frames}
use Rattle.wire_state.proofs.Counting.{CountsGo, FlowsGo, IsSeen, changed_go, counts_go, same_go}
use Rattle.wire_state.proofs.CountsKept.{FlowsKeep, counts_conns, counts_gates, exchanges_keep}
use Rattle.wire_state.proofs.Filled.{fills_go, fills_known, fills_marks, fills_told, risen_holds}
use Rattle.wire_state.proofs.Holding.{AreHolds, all_append, holds_gone, holds_rows, holds_stand, holds_ways, noted, paused_in, resumed_in, shown_noted}
use Rattle.wire_state.proofs.Overs.{framed_goes, send_over}
use Rattle.wire_state.proofs.Promised.{same_out}
use Rattle.wire_state.proofs.Rising.{drained}
use Rattle.wire_state.proofs.Watching.{last_one, lows_same, send_times, watches}
use Rattle.wire_state.proofs.Givens.{stream_given}
use Rattle.wire_state.proofs.Goings.{KeepsLeft, above_through, config_told, conn_keeps, footing_kept, gates_stand, links_kept, owes_by, rest_of, told_at}
use Rattle.wire_state.proofs.Held.{listed_keeps}
use Rattle.wire_state.proofs.Standing.{ConnsAre, KeepsFlows, KeepsShut, Writes, answer_flows, answer_shut, answer_writes, at_one, conns_go, conns_written, credit_flows, credit_shut, credit_writes, head_flows, head_shut, head_writes, one_room, same_octets, wrote}
use Rattle.wire_state.specs.Counts.{Counts, Fills, Heeds, IsCounted, is_above_at}
use Rattle.wire_state.specs.Limits.{OutFits}
use Rattle.wire_state.specs.Marks.{AreWays, footing_of}
use Rattle.wire_state.specs.Sound.{AreKept, IsKept, unit_of}
use Rattle.wire_state.specs.Tapes.{conn_to, tape_setup}
use Rattle.wire_state.specs.Ways.{Way, WayHistory, WayStep, after, stages_passed, stream_to}
use Rattle.wire_state.specs.Worlds.{EndsAre, FlowIs, Keeps, Owes, Stands, Told, octets_of, stream_in}
use Rattle.wire_state.specs.Noting.{answers_of, framed_of, heads_of, risen_of, told_of}
use Rattle.wm_buffer.specs.Watermark.{above_after}
use Rattle.wire_state.specs.declared.conn.Conn.{Conn}
use Rattle.wire_state.specs.declared.wire_core.WireCore.{WireCore}

-- what holds of the octets of the flows goes on to
pub record BodiesStand (old new : Flows) : Type 0 where
  pub goes : {l : LimitKeys} → (conns : PagedMap Conn) (links : Links) (h : WayHistory) → Stands l conns old links h → Stands l conns new links h

pub gate_bodies : (old new : Flows) → new.exchanges ≡ old.exchanges → BodiesStand old new
gate_bodies old new e = record { goes = gates_stand old new e }

pub listed_bodies : (f : FlowId) (last : Bool) (old new : Flows) → ChangesFlow f (list_framed last) old.exchanges new.exchanges → BodiesStand old new
listed_bodies f last old new c = record { goes = flow_goes f (list_framed last) old new (λ flow e. listed_keeps last flow) c }

pub owes_none : (old new : WireCore) → Keeps old new → Owes [] old new
owes_none old new k = record { goes = λ h g start notes t. told_at h g start new.conns new.conns new.flows new.links notes (notes ++ []) refl (sym (append-nil notes)) (k.goes h g start notes t) }

-- a note, and pauses and resumes behind it, are still to be noted
pub owes_held : (n : Note) (tail : List Note) → AreHolds tail → KeepsLeft (Noted n ∷ []) → (old new : WireCore)
    → ((h : WayHistory) → Stands old.config.limits old.conns old.flows old.links h → AreWays old.config h → AreWays old.config (Noted n ∷ h)) → footing_of new ≡ footing_of old
    → ((h : WayHistory) → Stands old.config.limits old.conns old.flows old.links h → Stands old.config.limits new.conns new.flows new.links (Noted n ∷ h))
    → ((t u : Option ℕ) (h : WayHistory) → Stands old.config.limits old.conns old.flows old.links h → Stands old.config.limits new.conns new.flows new.links (Noted n ∷ h) → Counts old.config.limits t u old.conns old.flows h
    → CountsGo old.config.limits t u t u old.conns new.conns old.flows new.flows (Noted n) tail h) → Owes (n ∷ tail) old new
owes_held n tail holds left old new ways same stand go = subst (λ (ns : List Note). Owes (n ∷ ns) old new) (shown_noted tail)
    (owes_by (Noted n ∷ noted tail) (λ h c. holds_gone tail holds (Noted n ∷ h) c ∙ left h c) old new
    (record { ways = λ h s w. holds_ways old.config tail holds (Noted n ∷ h) (ways h s w); rows = holds_rows tail }) same
    (λ h s. holds_stand tail holds new.conns new.flows new.links (Noted n ∷ h) (stand h s))
    (λ t u h s c. counts_go old.config.limits t u t u old.conns new.conns old.flows new.flows (Noted n) tail h old.links new.links (go t u h s (stand h s) c) s (stand h s) c))

module _ (n : ℕ) (old new : WireCore) (v w : Conn) (found : value_at n old.conns ≡ Some v) (written : WritesThrough n old.conns w new.conns)
    (opened : w.open ≡ v.open) (bodies : BodiesStand old.flows new.flows) (rest : rest_of new ≡ rest_of old)
    (go : FlowsGo old.flows new.flows) (keep : FlowsKeep old.flows new.flows) (limit : v.outlet.write.limit ≡ old.config.limits.write_buffer)
    (rose : Bool) (fills : Fills n rose v.outlet.write w.outlet.write old.flows new.flows) where
  -- what is in the write buffer fits again
  abbrev pub Room : Type 0
  Room = OutFits old.config.limits v.outlet.write.octets → OutFits old.config.limits w.outlet.write.octets

  same_one : (b : Bool) (xs : List ℕ) → (if b then xs else xs) ≡ xs
  same_one true xs = refl
  same_one false xs = refl

  stays : w.outlet.write.octets ≡ v.outlet.write.octets → ConnsAre same_octets old.conns new.conns
  stays e =
      let c = conns_written n old.conns new.conns v w found written (λ xs. xs) e opened in
      record { octets = λ d. c.octets d ∙ same_one (n == d) (octets_of d old.conns); shut = c.shut; there = c.there }

  abbrev held : List Note
  held = risen_of rose n (watchers_on n new.flows)

  -- a step writes these
  step_stands : (g : List ℕ → List ℕ) (step : WayStep) → w.outlet.write.octets ≡ g v.outlet.write.octets → Room
      → ((h : WayHistory) → Writes (at_one n g) step h) → ((h : WayHistory) → KeepsFlows step h) → ((h : WayHistory) → KeepsShut step h)
      → (h : WayHistory) → Stands old.config.limits old.conns old.flows old.links h → Stands old.config.limits new.conns new.flows new.links (step ∷ h)
  step_stands g step e room outs flows shut h s = links_kept old new rest (step ∷ h)
      (bodies.goes new.conns old.links (step ∷ h) (wrote (at_one n g) step h old.conns new.conns old.flows old.links (outs h) (flows h) (shut h) (conns_written n old.conns new.conns v w found written g e opened) (one_room old.config.limits n old.conns new.conns v w found written room) s))

  nobody : (xs : List Note) → xs ++ [] ≡ xs
  nobody xs = append-nil xs

  -- with its note
  note_written : (g : List ℕ → List ℕ) (m : Note) → KeepsLeft (Noted m ∷ []) → ((h : WayHistory) → AreWays old.config h → AreWays old.config (Noted m ∷ h)) → w.outlet.write.octets ≡ g v.outlet.write.octets → Room
      → ((h : WayHistory) → Writes (at_one n g) (Noted m) h) → ((h : WayHistory) → KeepsFlows (Noted m) h) → ((h : WayHistory) → KeepsShut (Noted m) h)
      → ((h : WayHistory) → fed_by (tape_setup old.config.limits) (Noted m) h ≡ Some (buffer.Write n)) → ((h : WayHistory) (f : FlowId) → conn_to f (Noted m ∷ h) ≡ conn_to f h) → ((f : FlowId) → spares {Mark = Way} f (Noted m) ≡ true)
      → ((h : WayHistory) → live (Noted m ∷ h) ≡ live h) → ((h : WayHistory) → Heeds old.config.limits (Noted m) h)
      → ((h : WayHistory) (f : FlowId) → (pauses f (Noted m ∷ h) ≡ pauses f h) × (resumes f (Noted m ∷ h) ≡ resumes f h)) → ((h : WayHistory) (f : FlowId) → drained old.config.limits f (Noted m) h ≡ 0)
      → Owes (m ∷ held) old new
  note_written g m left ways e room outs flows shut fed conn spared living turned quiet drop = subst (λ (ns : List Note). Owes (m ∷ ns) old new) (nobody held)
      (owes_held m (held ++ []) (all_append held [] (risen_holds rose n (watchers_on n new.flows)) tt) left old new (λ h s. ways h) (footing_kept old new rest) (step_stands g (Noted m) e room outs flows shut)
      (λ t u h s s' c. fills_go n old.conns new.conns v w found written rose old.flows new.flows fills limit h c old.links new.links (Noted m) s s' (fed h) go keep.live [] tt (λ f. refl) (λ f lt. refl)
      (λ f. record { stages = (flows h).stages f; conn = conn h f; spared = spared f }) (living h) (turned h) (quiet h) (λ f flow seen. sym (drop h f))))

  -- where none were written it didn't rise
  settled : w.outlet.write.octets ≡ v.outlet.write.octets → {t u : Option ℕ} (h : WayHistory) → Stands old.config.limits old.conns old.flows old.links h → Counts old.config.limits t u old.conns old.flows h → w.outlet.write.above ≡ v.outlet.write.above
  settled e h s c =
      let was : is_above_at n old.conns ≡ v.outlet.write.above = ap (λ (o : Option Conn). option_map_or (λ conn. conn.outlet.write.above) o false) found in
      let octets : octets_of n old.conns ≡ v.outlet.write.octets = ap (λ (o : Option Conn). option_map_or (λ conn. conn.outlet.write.octets) o []) found in
      let long : out (tape_setup old.config.limits) n h ≡ w.outlet.write.octets = same_out old.config.limits n h ∙ (sym (s.writes n) ∙ (octets ∙ sym e)) in
      let over : above (tape_setup old.config.limits) (buffer.Write n) h ≡ v.outlet.write.above = sym (c.over n) ∙ was in
      fills.above ∙ ((λ i. above_after (limit i) (sym over i) (length (sym long i))) ∙ (flag_now (tape_setup old.config.limits) (buffer.Write n) h ∙ over))

  none_stands : w.outlet.write.octets ≡ v.outlet.write.octets → (h : WayHistory) → Stands old.config.limits old.conns old.flows old.links h → Stands old.config.limits new.conns new.flows new.links h
  none_stands e h s = links_kept old new rest h (bodies.goes new.conns old.links h (conns_go old.conns new.conns old.flows old.links h (stays e) s))

  watched_same : (h : WayHistory) → Stands old.config.limits old.conns old.flows old.links h → Stands old.config.limits new.conns new.flows new.links h → {t u : Option ℕ} → Counts old.config.limits t u old.conns old.flows h
      → (f : FlowId) → is_there new.flows f ≡ true → watched_by new.flows.gates f ≡ watched_by old.flows.gates f
  watched_same h s s' c f there = at (flow_in new.flows f) refl there
    where
      at : (o : Option Flow) → flow_in new.flows f ≡ o → is_some o ≡ true → watched_by new.flows.gates f ≡ watched_by old.flows.gates f
      at None is some = cc
      at (Some flow) is some =
          let k = keep.each f flow is in
          let counted : IsCounted old.config.limits old.flows f h k.0 = subst (λ (o : Option Flow). IfSome o (IsCounted old.config.limits old.flows f h)) k.1 (c.each f) in
          watches old.config.limits new.flows h (fills.sound c.sound) f flow is (subst (λ (o : Option Flow). IfSome o (FlowIs old.config.limits f h)) is (s'.flows_are f)) (keep.goes f ∙ counted.goes)
          ∙ sym (watches old.config.limits old.flows h c.sound f k.0 k.1 (subst (λ (o : Option Flow). IfSome o (FlowIs old.config.limits f h)) k.1 (s.flows_are f)) counted.goes)

  none_counts : w.outlet.write.octets ≡ v.outlet.write.octets → {t u : Option ℕ} (h : WayHistory) → Stands old.config.limits old.conns old.flows old.links h → Counts old.config.limits t u old.conns old.flows h → Counts old.config.limits t u new.conns new.flows h
  none_counts e {t} {u} h s c = counts_gates {t = t} {u = u} {t' = t} {u' = u} new.conns old.flows new.flows h keep (fills.sound c.sound) (record {
    low = λ f there. lows_same f old.flows.gates new.flows.gates (watched_same h s (none_stands e h s) c f there) fills.lows.lows;
    marks = fills_marks n old.conns new.conns v w found written rose old.flows new.flows fills limit h c;
    known = fills_known n old.conns new.conns v w found written rose old.flows new.flows fills limit h c;
    told = fills_told n old.conns new.conns v w found written rose old.flows new.flows fills limit h c;
  }) (counts_conns old.conns new.conns old.flows h (above_through n old.conns new.conns v w found written (settled e h s c)) c)

  pub none_written : w.outlet.write.octets ≡ v.outlet.write.octets → Owes held old new
  none_written e = record {
    goes = λ {k} {t} {u} h g start notes told.
        let past = after told.steps h in
        let low : rose ≡ false = fills.rose ∙ (settled e past told.stands told.counts ∙ fills.low) in
        subst (λ (b : Bool). Told k t u h g start new (notes ++ risen_of b n (watchers_on n new.flows))) (sym low)
        (told_at h g start new.conns new.conns new.flows new.links notes (notes ++ []) refl (sym (append-nil notes))
        (config_told old new (footing_kept old new rest) h g start notes
        (record { steps = told.steps; is = told.is; stands = none_stands e past told.stands; counts = none_counts e past told.stands told.counts; left = told.left; under = told.under; ways = told.ways; rows = told.rows; since = told.since })));
  }

  pub answer_written : (octets : List ℕ) → Room → w.outlet.write.octets ≡ v.outlet.write.octets ++ octets → Owes (answers_of n octets ++ held) old new
  answer_written [] room e = none_written (e ∙ append-nil v.outlet.write.octets)
  answer_written (o ∷ os) room e = note_written (λ xs. xs ++ o ∷ os) (note.Answer n (o ∷ os)) (λ h c. refl) (λ h w. w) e room (λ h. answer_writes h n (o ∷ os)) (λ h. answer_flows h n (o ∷ os)) (λ h. answer_shut h n (o ∷ os))
      (λ h. refl) (λ h f. refl) (λ f. refl) (λ h. refl) (λ h. tt) (λ h f. (refl, refl)) (λ h f. refl)

  pub head_written : (s : ℕ) (octets : List ℕ) → Room → w.outlet.write.octets ≡ v.outlet.write.octets ++ octets → Owes (heads_of n s octets ++ held) old new
  head_written s [] room e = none_written (e ∙ append-nil v.outlet.write.octets)
  head_written s (o ∷ os) room e = note_written (λ xs. xs ++ o ∷ os) (note.Head n s (o ∷ os)) (λ h c. refl) (λ h w. w) e room (λ h. head_writes h n (o ∷ os) s) (λ h. head_flows h n (o ∷ os) s) (λ h. head_shut h n (o ∷ os) s)
      (λ h. refl) (λ h f. refl) (λ f. refl) (λ h. refl) (λ h. tt) (λ h f. (refl, refl)) (λ h f. refl)

  -- a WINDOW_UPDATE frame is spelled as the definitions have it
  update_is : (s k : ℕ) → spelling (WindowUpdate s k) ≡ window_update s k
  update_is s k = refl

  pub credit_written : (s k : ℕ) → Room → w.outlet.write.octets ≡ v.outlet.write.octets ++ spelling (WindowUpdate s k) → Owes (note.Credit n s k ∷ held) old new
  credit_written s k room e = note_written (λ xs. xs ++ window_update s k) (note.Credit n s k) (λ h c. refl) (λ h w. w) (e ∙ ap (λ xs. v.outlet.write.octets ++ xs) (update_is s k)) room
      (λ h. credit_writes h n s k) (λ h. credit_flows h n s k) (λ h. credit_shut h n s k)
      (λ h. refl) (λ h f. refl) (λ f. refl) (λ h. refl) (λ h. tt) (λ h f. (refl, refl)) (λ h f. refl)

-- nothing went in, and nothing else changed
pub nothing_written : (n : ℕ) (old new : WireCore) (v w : Conn) → value_at n old.conns ≡ Some v → WritesThrough n old.conns w new.conns → w ≡ v → new.flows ≡ old.flows → rest_of new ≡ rest_of old → Keeps old new
nothing_written n old new v w found written same f r = conn_keeps n old new v w found written (ap (λ (k : Conn). k.outlet.write) same) (ap (λ (k : Conn). k.open) same) f r

-- a write buffer that is kept within its bounds has its limit
pub limit_of : (n : ℕ) (l : LimitKeys) (conns : PagedMap Conn) (v : Conn) → value_at n conns ≡ Some v → AreKept l conns → v.outlet.write.limit ≡ l.write_buffer
limit_of n l conns v found kept = (subst (λ (o : Option Conn). IfSome o (λ conn. IsKept l conn.outlet)) found (kept n)).limit

-- a write buffer that is kept within its bounds has room
pub room_of : (n : ℕ) (l : LimitKeys) (conns : PagedMap Conn) (v w : Conn) → value_at n conns ≡ Some v → AreKept l conns → (IsKept l v.outlet → IsKept l w.outlet) → OutFits l v.outlet.write.octets → OutFits l w.outlet.write.octets
room_of n l conns v w found kept keeps fits = λ some.
    let is = keeps (subst (λ (o : Option Conn). IfSome o (λ conn. IsKept l conn.outlet)) found (kept n)) in
    subst (λ (limit : ℕ). length w.outlet.write.octets ≤ limit + unit_of l) is.limit (is.write.bound (subst (λ (limit : ℕ). 0 < limit) (sym is.limit) some))

-- a GOAWAY went in, or nothing did
pub farewell_written : (n : ℕ) (old new : WireCore) (v w : Conn) → value_at n old.conns ≡ Some v → WritesThrough n old.conns w new.conns → w.open ≡ v.open
    → rest_of new ≡ rest_of old → AreKept old.config.limits old.conns → (IsKept old.config.limits v.outlet → IsKept old.config.limits w.outlet) → (r : Result (Option (List ℕ × Bool)) NoMemory)
    → IfOk r (λ o. MatchOption o (w ≡ v) (λ f. w.outlet.write.octets ≡ v.outlet.write.octets ++ f.0))
    → IfOk r (λ o. MatchOption o (new.flows ≡ old.flows) (λ f. new.flows.exchanges ≡ old.flows.exchanges))
    → IfOk r (λ o. IfSome o (λ f. Fills n f.1 v.outlet.write w.outlet.write old.flows new.flows))
    → IfOk r (λ o. MatchOption o (Keeps old new) (λ f. Owes (answers_of n f.0 ++ risen_of f.1 n (watchers_on n new.flows)) old new))
farewell_written n old new v w found written opened l kept keeps (Err e) p q fills = tt
farewell_written n old new v w found written opened l kept keeps (Ok None) p q fills = nothing_written n old new v w found written p q l
farewell_written n old new v w found written opened l kept keeps (Ok (Some u)) p q fills = answer_written n old new v w found written opened (gate_bodies old.flows new.flows q) l (same_go old.flows new.flows q) (exchanges_keep old.flows new.flows q)
    (limit_of n old.config.limits old.conns v found kept) u.1 fills u.0 (room_of n old.config.limits old.conns v w found kept keeps) p

-- ---- DATA frames
-- the stream of a flow where it goes is that of the world
pub stream_known : (f : FlowId) (links : Links) (h : WayHistory) (k : ℕ) → ((x : ℕ) → IfSome (ends_of x links) (EndsAre x h)) → stream_in links f ≡ Some k → k ≡ stream_to f h
stream_known f links h k ends is = at f.back (ends_of f.exchange links) (ends f.exchange) is
  where
    same_some : (a b : ℕ) → Some a ≡ Some b → a ≡ b
    same_some a b e = cc

    some_of : (o : Option ℕ) → o ≡ Some k → IfSome o (λ s. s ≡ stream_to (request f.exchange) h) → k ≡ stream_to (request f.exchange) h
    some_of None e p = cc
    some_of (Some s) e p = same_some k s (sym e) ∙ p

    at : (back : Bool) (o : Option Ends) → IfSome o (EndsAre f.exchange h) → option_and_then (λ e. if back then Some e.stream else e.cluster_stream) o ≡ Some k
        → k ≡ stream_to (record { exchange = f.exchange; back = back }) h
    at back None is e = cc
    at true (Some v) is e = same_some k v.stream (sym e) ∙ is.client
    at false (Some v) is e = some_of v.cluster_stream e is.cluster

-- the octets of a DATA frame went from a flow's send buffer into the write buffer
module _ (n : ℕ) (old new : WireCore) (v w : Conn) (found : value_at n old.conns ≡ Some v) (written : WritesThrough n old.conns w new.conns) (opened : w.open ≡ v.open) (rest : rest_of new ≡ rest_of old)
    (room : OutFits old.config.limits v.outlet.write.octets → OutFits old.config.limits w.outlet.write.octets) (limit : v.outlet.write.limit ≡ old.config.limits.write_buffer)
    (f : FlowId) (s : ℕ) (framed : Framed) (flow : Flow) (on : stream_in old.links f ≡ Some s) (there : flow_in old.flows f ≡ Some flow) (few : framed.n ≤ length (send flow))
    (octets : w.outlet.write.octets ≡ v.outlet.write.octets ++ (data_head s framed.n framed.last ++ take framed.n (send flow))) (change : ChangesFlow f (body_framed framed.n framed.last) old.flows.exchanges new.flows.exchanges)
    (fills : Fills n framed.rose v.outlet.write w.outlet.write old.flows new.flows) (drains : framed.drained ≡ (is_send_above old.flows.exchanges f && not (is_send_above new.flows.exchanges f))) where
  abbrev step : WayStep
  step = Noted (note.Frame n f framed.n framed.last)

  frame_stands : (h : WayHistory) → Stands old.config.limits old.conns old.flows old.links h → Stands old.config.limits new.conns new.flows new.links (step ∷ h)
  frame_stands h stands = links_kept old new rest (step ∷ h)
      (frames n f framed.n framed.last h old.conns new.conns old.flows new.flows old.links s flow (stream_known f old.links h s stands.ends on) there few change
      (conns_written n old.conns new.conns v w found written (λ xs. xs ++ (data_head s framed.n framed.last ++ take framed.n (send flow))) octets opened) (one_room old.config.limits n old.conns new.conns v w found written room) stands)

  told_hold : (b : Bool) → AreHolds (told_of b f)
  told_hold true = (tt, tt)
  told_hold false = tt

  told_pauses : (b : Bool) (g : FlowId) → paused_in g (told_of b f) ≡ 0
  told_pauses true g = refl
  told_pauses false g = refl

  told_times : (b : Bool) (g : FlowId) → resumed_in g (told_of b f) ≡ (if b then one_if (same_flow f g) else 0)
  told_times true g = last_one (same_flow f g)
  told_times false g = refl

  too_great : (x last : ℕ) → x ≤ last → last < x → ⊥
  too_great x last a b = omega (arith, a, b)

  -- a flow of a number that wasn't given is another
  stranger : IsSound old.flows → (g : FlowId) → old.flows.exchanges.last < g.exchange → same_flow f g ≡ false
  stranger sound g lt = at (same_flow f g) refl
    where
      at : (b : Bool) → same_flow f g ≡ b → b ≡ false
      at true e = absurd (never (subst (λ (k : FlowId). old.flows.exchanges.last < k.exchange) (sym (same_flow_exact f g e)) lt))
        where
          born : old.flows.exchanges.last < f.exchange → (o : Option Exchange) → exchange_at old.flows.exchanges f.exchange ≡ o → option_and_then (side_of f.back) (exchange_at old.flows.exchanges f.exchange) ≡ Some flow → ⊥
          born over None is e = cc (ap (λ (v : Option Exchange). option_and_then (side_of f.back) v) is, e)
          born over (Some x) is e = too_great f.exchange old.flows.exchanges.last (sound.exchanges.below f.exchange (subst (λ (v : Option Exchange). IsSome v) (sym is) refl)) over

          never : old.flows.exchanges.last < f.exchange → ⊥
          never over = born over (exchange_at old.flows.exchanges f.exchange) refl there
      at false e = refl

  -- how the send buffer of the flow stood, and stands
  send_drains : {t u : Option ℕ} (tail : List Note) (h : WayHistory) (g : FlowId) (now : Flow) → same_flow f g ≡ true → IsSeen old.config.limits t u t u old.conns new.conns old.flows new.flows step tail h g now → drains_at (tape_setup old.config.limits) (buffer.Send f) step h ≡ framed.drained
  send_drains tail h g now same seen =
      let is = same_flow_exact f g same in
      let before : is_send_above old.flows.exchanges f ≡ above (tape_setup old.config.limits) (buffer.Send f) h =
      ap (λ (k : FlowId). is_send_above old.flows.exchanges k) is ∙ (ap (λ (o : Option Flow). option_map_or (λ x. above_in x.chain.places (send_place x)) o false) seen.found_was
      ∙ (send_over old.config.limits g h seen.was seen.is_was seen.over_was ∙ ap (λ (k : FlowId). above (tape_setup old.config.limits) (buffer.Send k) h) (sym is))) in
      let after_it : is_send_above new.flows.exchanges f ≡ above (tape_setup old.config.limits) (buffer.Send f) (step ∷ h) =
      ap (λ (k : FlowId). is_send_above new.flows.exchanges k) is ∙ (ap (λ (o : Option Flow). option_map_or (λ x. above_in x.chain.places (send_place x)) o false) seen.found
      ∙ (send_over old.config.limits g (step ∷ h) now seen.is_now seen.over_is ∙ ap (λ (k : FlowId). above (tape_setup old.config.limits) (buffer.Send k) (step ∷ h)) (sym is))) in
      sym (drains ∙ (λ i. before i && not (after_it i)))

  -- it is told of that
  drops : {t u : Option ℕ} (tail : List Note) (h : WayHistory) (g : FlowId) (now : Flow) → IsSeen old.config.limits t u t u old.conns new.conns old.flows new.flows step tail h g now → resumed_in g (told_of framed.drained f) ≡ drained old.config.limits g step h
  drops tail h g now seen =
      told_times framed.drained g
      ∙ (at (same_flow f g) refl
      ∙ ap (λ (k : ℕ). if drains_at (tape_setup old.config.limits) (buffer.Send f) step h then k else 0) (sym (send_times f g (last_place (tape_setup old.config.limits) g h + 1) (conn_to g h) 1 (stages_passed g h))))
    where
      none_if : (b : Bool) {k : ℕ} → k ≡ 0 → (if b then k else 0) ≡ 0
      none_if true e = e
      none_if false e = refl

      at : (b : Bool) → same_flow f g ≡ b → (if framed.drained then one_if b else 0) ≡ (if drains_at (tape_setup old.config.limits) (buffer.Send f) step h then one_if b else 0)
      at true e = ap (λ (d : Bool). if d then 1 else 0) (sym (send_drains tail h g now e seen))
      at false e = none_if framed.drained refl ∙ sym (none_if (drains_at (tape_setup old.config.limits) (buffer.Send f) step h) refl)

  pub body_written : Owes (framed_of n f framed (watchers_on n new.flows)) old new
  body_written = owes_held (note.Frame n f framed.n framed.last) (risen_of framed.rose n (watchers_on n new.flows) ++ told_of framed.drained f)
      (all_append (risen_of framed.rose n (watchers_on n new.flows)) (told_of framed.drained f) (risen_holds framed.rose n (watchers_on n new.flows)) (told_hold framed.drained)) (λ h c. refl) old new
      (λ h st w. (stream_given old.conns old.flows old.links h f s on st, w)) (footing_kept old new rest) frame_stands
      (λ t u h st st' c. fills_go n old.conns new.conns v w found written framed.rose old.flows new.flows fills limit h c old.links new.links step st st' refl
      (changed_go f (body_framed framed.n framed.last) old.flows new.flows (λ x e. framed_goes framed.n framed.last x) change) (λ x. live_after f (body_framed framed.n framed.last) old.flows.exchanges new.flows.exchanges change x)
      (told_of framed.drained f) (told_hold framed.drained) (told_pauses framed.drained) (λ g lt. told_times framed.drained g ∙ strange framed.drained (same_flow f g) (stranger c.sound g lt))
      (λ g. record { stages = refl; conn = refl; spared = refl }) refl tt (λ g. (refl, refl)) (λ g now seen. drops _ h g now seen))
    where
      strange : (b s : Bool) → s ≡ false → (if b then one_if s else 0) ≡ 0
      strange true true e = cc
      strange true false e = refl
      strange false s e = refl
