-- What a call that frames a unit at a connection owes: its note, or none.
use Rattle.exchange_core.specs.Changes.{ChangesFlow}
use Rattle.exchange_core.specs.Effects.{body_framed, list_framed}
use Rattle.exchange_core.specs.Exchanges.{is_send_above}
use Rattle.exchange_core.specs.Flow.{Flow, send}
use Rattle.flow_rules.specs.declared.ids.FlowId.{FlowId}
use Rattle.flow_notes.specs.declared.notes.Note.TheVariants as note
use Rattle.h2_frames.specs.Frame.{WindowUpdate}
use Rattle.h2_frames.specs.Head.{data_head}
use Rattle.h2_frames.specs.Spelling.{spelling}
use Rattle.io_ports.specs.declared.octets.NoMemory.{NoMemory}
use Rattle.std.proofs.Common.{refl}
use Rattle.paged_map.specs.PagedMap.{WritesThrough, value_at}
use Rattle.std.specs.Prelude.{Bool, Err, IfOk, IfSome, IsSome, List, MatchOption, None, Ok, OnOk, Option, Result, Some, length, not, take, ℕ, ◌&&◌, ◌++◌, ◌∷◌, ◌≡◌, ◌≤◌}
use Rattle.wire_flows.specs.Flows.{IsThere, flow_in}
use Rattle.wire_flows.specs.Writes.{watchers_on}
use Rattle.wire_flows.specs.declared.framing.Framed.{Framed as FramedBody}
use Rattle.wire_outlet.specs.Waiting.{octets_of}
use Rattle.wire_outlet.specs.declared.outlet.Framed.{Framed}
use Rattle.wire_outlet.specs.declared.outlet.Framed.TheVariants as framed
use Rattle.wire_state.proofs.Counting.{changed_go, same_go}
use Rattle.wire_state.proofs.CountsKept.{changed_keep, exchanges_keep, listed_places}
use Rattle.wire_state.proofs.Goings.{rest_of}
use Rattle.wire_state.proofs.Overs.{still_goes}
use Rattle.wire_state.proofs.Results.{on_ok}
use Rattle.wire_state.proofs.Wrote.{answer_written, body_written, credit_written, gate_bodies, head_written, limit_of, listed_bodies, nothing_written, room_of}
use Rattle.wire_state.specs.Counts.{Fills}
use Rattle.wire_state.specs.Limits.{OutFits}
use Rattle.wire_state.specs.Noting.{framed_of, heads_of, risen_of}
use Rattle.wire_state.specs.Sound.{AreKept, IsKept}
use Rattle.wire_state.specs.Worlds.{Keeps, Owes, stream_in, waited_of}
use Rattle.wire_state.specs.declared.conn.Conn.{Conn}
use Rattle.wire_state.specs.declared.wire_core.WireCore.{WireCore}

module _ (n : ℕ) (old new : WireCore) (v w : Conn) (found : value_at n old.conns ≡ Some v) (written : WritesThrough n old.conns w new.conns) (opened : w.open ≡ v.open) where
  abbrev octets_now : Conn → List ℕ
  octets_now k = k.outlet.write.octets

  -- the octets fit again
  abbrev Room : Type 0
  Room = OutFits old.config.limits v.outlet.write.octets → OutFits old.config.limits w.outlet.write.octets

  room_on : {A : Type 0} (r : Result A NoMemory) → AreKept old.config.limits old.conns → (IsKept old.config.limits v.outlet → OnOk r (IsKept old.config.limits w.outlet)) → OnOk r Room
  room_on (Ok u) kept keeps = room_of n old.config.limits old.conns v w found kept keeps
  room_on (Err e) kept keeps = tt

  -- a unit that waited
  waits_on : rest_of new ≡ rest_of old → v.outlet.write.limit ≡ old.config.limits.write_buffer → (r : Result (Option (Framed × Bool)) NoMemory) → OnOk r Room
      → IfOk r (λ o. MatchOption o (w ≡ v) (λ f. w.outlet.write.octets ≡ v.outlet.write.octets ++ octets_of f.0))
      → IfOk r (λ o. MatchOption o (new.flows ≡ old.flows) (λ f. new.flows.exchanges ≡ old.flows.exchanges)) → IfOk r (λ o. IfSome o (λ f. Fills n f.1 v.outlet.write w.outlet.write old.flows new.flows))
      → IfOk r (λ o. MatchOption o (Keeps old new) (λ f. Owes (waited_of n f.0 ++ risen_of f.1 n (watchers_on n new.flows)) old new))
  waits_on l limit (Err e) room p q fills = tt
  waits_on l limit (Ok None) room p q fills = nothing_written n old new v w found written p q l
  waits_on l limit (Ok (Some (framed.Answer octets, rose))) room p q fills = answer_written n old new v w found written opened (gate_bodies old.flows new.flows q) l (same_go old.flows new.flows q) (exchanges_keep old.flows new.flows q) limit rose fills octets room p
  waits_on l limit (Ok (Some (framed.Reply stream octets, rose))) room p q fills = head_written n old new v w found written opened (gate_bodies old.flows new.flows q) l (same_go old.flows new.flows q) (exchanges_keep old.flows new.flows q) limit rose fills stream octets room p

  -- a WINDOW_UPDATE frame
  update_on : (s k : ℕ) → rest_of new ≡ rest_of old → v.outlet.write.limit ≡ old.config.limits.write_buffer → (r : Result (Option Bool) NoMemory) → OnOk r Room
      → IfOk r (λ o. MatchOption o (w ≡ v) (λ c. w.outlet.write.octets ≡ v.outlet.write.octets ++ spelling (WindowUpdate s k)))
      → IfOk r (λ o. MatchOption o (new.flows ≡ old.flows) (λ c. new.flows.exchanges ≡ old.flows.exchanges)) → IfOk r (λ o. IfSome o (λ c. Fills n c v.outlet.write w.outlet.write old.flows new.flows))
      → IfOk r (λ o. MatchOption o (Keeps old new) (λ c. Owes (note.Credit n s k ∷ risen_of c n (watchers_on n new.flows)) old new))
  update_on s k l limit (Err e) room p q fills = tt
  update_on s k l limit (Ok None) room p q fills = nothing_written n old new v w found written p q l
  update_on s k l limit (Ok (Some rose)) room p q fills = credit_written n old new v w found written opened (gate_bodies old.flows new.flows q) l (same_go old.flows new.flows q) (exchanges_keep old.flows new.flows q) limit rose fills s k room p

  -- a list of fields
  list_on : (s : ℕ) (f : FlowId) (last : Bool) → rest_of new ≡ rest_of old → v.outlet.write.limit ≡ old.config.limits.write_buffer → (r : Result (Option (List ℕ × Bool)) NoMemory) → OnOk r Room
      → IfOk r (λ o. MatchOption o (w ≡ v) (λ u. w.outlet.write.octets ≡ v.outlet.write.octets ++ u.0))
      → IfOk r (λ o. MatchOption o (new.flows ≡ old.flows) (λ u. ChangesFlow f (list_framed last) old.flows.exchanges new.flows.exchanges)) → IfOk r (λ o. IfSome o (λ u. Fills n u.1 v.outlet.write w.outlet.write old.flows new.flows))
      → IfOk r (λ o. MatchOption o (Keeps old new) (λ u. Owes (heads_of n s u.0 ++ risen_of u.1 n (watchers_on n new.flows)) old new))
  list_on s f last l limit (Err e) room p q fills = tt
  list_on s f last l limit (Ok None) room p q fills = nothing_written n old new v w found written p q l
  list_on s f last l limit (Ok (Some u)) room p q fills = head_written n old new v w found written opened (listed_bodies f last old.flows new.flows q) l
      (changed_go f (list_framed last) old.flows new.flows (λ flow e. still_goes flow (list_framed last flow) refl) q) (changed_keep f (list_framed last) old.flows new.flows (λ flow e. listed_places last flow) q) limit u.1 fills s u.0 room p

  -- a DATA frame
  body_on : (s : ℕ) (f : FlowId) → rest_of new ≡ rest_of old → v.outlet.write.limit ≡ old.config.limits.write_buffer → stream_in old.links f ≡ Some s → IsThere old.flows f → (r : Result (Option FramedBody) NoMemory) → OnOk r Room
      → IfOk r (λ o. MatchOption o (w ≡ v) (λ u. IfSome (flow_in old.flows f) (λ g. w.outlet.write.octets ≡ v.outlet.write.octets ++ (data_head s u.n u.last ++ take u.n (send g)))))
      → IfOk r (λ o. IfSome o (λ u. IfSome (flow_in old.flows f) (λ g. u.n ≤ length (send g))))
      → IfOk r (λ o. MatchOption o (new.flows ≡ old.flows) (λ u. ChangesFlow f (body_framed u.n u.last) old.flows.exchanges new.flows.exchanges)) → IfOk r (λ o. IfSome o (λ u. Fills n u.rose v.outlet.write w.outlet.write old.flows new.flows))
      → IfOk r (λ o. IfSome o (λ u. u.drained ≡ (is_send_above old.flows.exchanges f && not (is_send_above new.flows.exchanges f))))
      → IfOk r (λ o. MatchOption o (Keeps old new) (λ u. Owes (framed_of n f u (watchers_on n new.flows)) old new))
  body_on s f l limit on there (Err e) room p few q fills drains = tt
  body_on s f l limit on there (Ok None) room p few q fills drains = nothing_written n old new v w found written p q l
  body_on s f l limit on there (Ok (Some u)) room p few q fills drains = at (flow_in old.flows f) refl there p few
    where
      at : (o : Option Flow) → flow_in old.flows f ≡ o → IsSome o → IfSome o (λ g. w.outlet.write.octets ≡ v.outlet.write.octets ++ (data_head s u.n u.last ++ take u.n (send g))) → IfSome o (λ g. u.n ≤ length (send g)) → Owes (framed_of n f u (watchers_on n new.flows)) old new
      at None is some octets few = absurd (cc some)
      at (Some g) is some octets few = body_written n old new v w found written opened l room limit f s u g on is few octets q fills drains

pub waits_written : (r : Result (Option (Framed × Bool)) NoMemory) (n : ℕ) (old new : WireCore) (v w : Conn) (found : value_at n old.conns ≡ Some v) → WritesThrough n old.conns w new.conns → w.open ≡ v.open → AreKept old.config.limits old.conns → (IsKept old.config.limits v.outlet → IsKept old.config.limits w.outlet) → rest_of new ≡ rest_of old
    → IfOk r (λ o. MatchOption o (w ≡ v) (λ f. w.outlet.write.octets ≡ v.outlet.write.octets ++ octets_of f.0))
    → IfOk r (λ o. MatchOption o (new.flows ≡ old.flows) (λ f. new.flows.exchanges ≡ old.flows.exchanges)) → IfOk r (λ o. IfSome o (λ f. Fills n f.1 v.outlet.write w.outlet.write old.flows new.flows))
    → IfOk r (λ o. MatchOption o (Keeps old new) (λ f. Owes (waited_of n f.0 ++ risen_of f.1 n (watchers_on n new.flows)) old new))
waits_written r n old new v w found written opened kept keeps l p q fills = waits_on n old new v w found written opened l (limit_of n old.config.limits old.conns v found kept) r (room_on n old new v w found written opened r kept (λ k. on_ok r (keeps k))) p q fills

pub update_written : (r : Result (Option Bool) NoMemory) (n s k : ℕ) (old new : WireCore) (v w : Conn) (found : value_at n old.conns ≡ Some v) → WritesThrough n old.conns w new.conns → w.open ≡ v.open → AreKept old.config.limits old.conns → (IsKept old.config.limits v.outlet → IsKept old.config.limits w.outlet) → rest_of new ≡ rest_of old
    → IfOk r (λ o. MatchOption o (w ≡ v) (λ c. w.outlet.write.octets ≡ v.outlet.write.octets ++ spelling (WindowUpdate s k)))
    → IfOk r (λ o. MatchOption o (new.flows ≡ old.flows) (λ c. new.flows.exchanges ≡ old.flows.exchanges)) → IfOk r (λ o. IfSome o (λ c. Fills n c v.outlet.write w.outlet.write old.flows new.flows))
    → IfOk r (λ o. MatchOption o (Keeps old new) (λ c. Owes (note.Credit n s k ∷ risen_of c n (watchers_on n new.flows)) old new))
update_written r n s k old new v w found written opened kept keeps l p q fills = update_on n old new v w found written opened s k l (limit_of n old.config.limits old.conns v found kept) r (room_on n old new v w found written opened r kept (λ k. on_ok r (keeps k))) p q fills

pub list_written : (r : Result (Option (List ℕ × Bool)) NoMemory) (n s : ℕ) (f : FlowId) (last : Bool) (old new : WireCore) (v w : Conn) (found : value_at n old.conns ≡ Some v) → WritesThrough n old.conns w new.conns → w.open ≡ v.open → AreKept old.config.limits old.conns → (IsKept old.config.limits v.outlet → OnOk r (IsKept old.config.limits w.outlet)) → rest_of new ≡ rest_of old
    → IfOk r (λ o. MatchOption o (w ≡ v) (λ u. w.outlet.write.octets ≡ v.outlet.write.octets ++ u.0))
    → IfOk r (λ o. MatchOption o (new.flows ≡ old.flows) (λ u. ChangesFlow f (list_framed last) old.flows.exchanges new.flows.exchanges)) → IfOk r (λ o. IfSome o (λ u. Fills n u.1 v.outlet.write w.outlet.write old.flows new.flows))
    → IfOk r (λ o. MatchOption o (Keeps old new) (λ u. Owes (heads_of n s u.0 ++ risen_of u.1 n (watchers_on n new.flows)) old new))
list_written r n s f last old new v w found written opened kept keeps l p q fills = list_on n old new v w found written opened s f last l (limit_of n old.config.limits old.conns v found kept) r (room_on n old new v w found written opened r kept keeps) p q fills

pub body_written_on : (r : Result (Option FramedBody) NoMemory) (n s : ℕ) (f : FlowId) (old new : WireCore) (v w : Conn) (found : value_at n old.conns ≡ Some v) → WritesThrough n old.conns w new.conns → w.open ≡ v.open → AreKept old.config.limits old.conns → (IsKept old.config.limits v.outlet → OnOk r (IsKept old.config.limits w.outlet)) → rest_of new ≡ rest_of old
    → stream_in old.links f ≡ Some s → IsThere old.flows f
    → IfOk r (λ o. MatchOption o (w ≡ v) (λ u. IfSome (flow_in old.flows f) (λ g. w.outlet.write.octets ≡ v.outlet.write.octets ++ (data_head s u.n u.last ++ take u.n (send g)))))
    → IfOk r (λ o. IfSome o (λ u. IfSome (flow_in old.flows f) (λ g. u.n ≤ length (send g))))
    → IfOk r (λ o. MatchOption o (new.flows ≡ old.flows) (λ u. ChangesFlow f (body_framed u.n u.last) old.flows.exchanges new.flows.exchanges)) → IfOk r (λ o. IfSome o (λ u. Fills n u.rose v.outlet.write w.outlet.write old.flows new.flows))
    → IfOk r (λ o. IfSome o (λ u. u.drained ≡ (is_send_above old.flows.exchanges f && not (is_send_above new.flows.exchanges f))))
    → IfOk r (λ o. MatchOption o (Keeps old new) (λ u. Owes (framed_of n f u (watchers_on n new.flows)) old new))
body_written_on r n s f old new v w found written opened kept keeps l on there p few q fills drains = body_on n old new v w found written opened s f l (limit_of n old.config.limits old.conns v found kept) on there r (room_on n old new v w found written opened r kept keeps) p few q fills drains
