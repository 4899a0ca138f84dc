-- What the counts are where a connection is closed, and where it is lost.
use Rattle.flow_gate.specs.Board.{times_of_buffer}
use Rattle.flow_rules.specs.declared.ids.BufferId.TheVariants as buffer
use Rattle.flow_rules.specs.declared.ids.FlowId.{FlowId}
use Rattle.flow_notes.specs.declared.events.Event.TheVariants as event
use Rattle.flow_notes.specs.declared.notes.CloseCause.{CloseCause}
use Rattle.flow_notes.specs.declared.notes.CloseCause.TheVariants as cause
use Rattle.flow_notes.specs.declared.notes.Note.TheVariants as note
use Rattle.paged_map.specs.PagedMap.{WritesThrough, value_at}
use Rattle.proxy_config.specs.declared.config.LimitKeys.{LimitKeys}
use Rattle.std.proofs.Common.{ap, arith, inl, refl, subst, sym, ◌∙◌}
use Rattle.std.specs.Option.{option_map_or}
use Rattle.std.specs.Prelude.{Bool, List, None, Option, Some, [], false, if◌then◌else◌, length, not, true, ℕ, ◌&&◌, ◌==◌, ◌∷◌, ◌≡◌, ◌≢◌, ◌≤◌}
use Rattle.tape_laws.specs.Connections.{was_closed}
use Rattle.tape_laws.specs.History.{Noted}
use Rattle.tape_laws.specs.Sources.{source_buffers}
use Rattle.tape_laws.specs.Watermark.{above}
use Rattle.tape_laws.specs.World.{out}
use Rattle.wire_flows.specs.Flows.{Flows}
use Rattle.wire_links.specs.Links.{Links, ends_of, is_known}
use Rattle.wire_state.proofs.Counted.{counts_sources}
use Rattle.wire_state.proofs.Counting.{counts_go}
use Rattle.wire_state.proofs.CountsKept.{AboveStays}
use Rattle.wire_state.proofs.Drained.{frees_go}
use Rattle.wire_state.proofs.Goings.{above_through, eases_by, gates_stand, owes_by}
use Rattle.wire_state.proofs.Linked.{drops_rest, none_drops, one_drops}
use Rattle.wire_state.proofs.Quiets.{quiet_go}
use Rattle.wire_state.proofs.Rising.{drained}
use Rattle.wire_state.proofs.Standing.{closes, conn_shut, octets_written}
use Rattle.wire_state.proofs.Turned.{turn_go}
use Rattle.wire_state.proofs.Left.{may_lag}
use Rattle.wire_state.specs.Counts.{Counts, Frees}
use Rattle.wire_state.specs.Marks.{footing_of}
use Rattle.wire_state.specs.Tapes.{tape_setup}
use Rattle.wire_state.specs.Ways.{WayHistory, WayStep}
use Rattle.wire_state.specs.Worlds.{Eases, Owes, Stands, left_by, octets_of}
use Rattle.wire_state.specs.declared.conn.Conn.{Conn}
use Rattle.wire_state.specs.declared.wire_core.WireCore.{WireCore}
use Rattle.wm_buffer.specs.Buffer.{Buffer}

-- ---- a close for another cause
pub left_all : (why : CloseCause) → why ≢ cause.Lost → (xs : List ℕ) → left_by why xs ≡ xs
left_all cause.Lost other xs = absurd (other refl)
left_all cause.Protocol other xs = refl
left_all cause.Idle other xs = refl
left_all cause.Drained other xs = refl
left_all cause.Overload other xs = refl
left_all cause.Flood other xs = refl

close_drained : (l : LimitKeys) (f : FlowId) (n code : ℕ) (why : CloseCause) → why ≢ cause.Lost → (h : WayHistory) → drained l f (Noted (note.Close n code why)) h ≡ 0
close_drained l f n code cause.Lost other h = absurd (other refl)
close_drained l f n code cause.Protocol other h = refl
close_drained l f n code cause.Idle other h = refl
close_drained l f n code cause.Drained other h = refl
close_drained l f n code cause.Overload other h = refl
close_drained l f n code cause.Flood other h = refl

same_if : (b : Bool) (xs : List ℕ) → (if b then xs else xs) ≡ xs
same_if true xs = refl
same_if false xs = refl

-- one connection was written through, and isn't open any more
pub shut_owes : (n code : ℕ) (why : CloseCause) → why ≢ cause.Lost → (old new : WireCore) (v w : Conn) → value_at n old.conns ≡ Some v → WritesThrough n old.conns w new.conns → w.outlet.write ≡ v.outlet.write → w.open ≡ false
    → footing_of new ≡ footing_of old → new.flows ≡ old.flows → ((x : ℕ) → ends_of x new.links ≡ ends_of x old.links) → ((d : ℕ) → is_known d new.links ≡ is_known d old.links) → Owes (note.Close n code why ∷ []) old new
shut_owes n code why other old new v w found written same shut config f ends known =
    owes_by (Noted (note.Close n code why) ∷ []) (λ h d. refl) old new (record { ways = λ h s w. w; rows = refl }) config stand (λ t u h s c. subst (λ (fs : Flows). Counts old.config.limits t u new.conns fs (Noted (note.Close n code why) ∷ h)) (sym f)
    (counts_go old.config.limits t u t u old.conns new.conns old.flows old.flows (Noted (note.Close n code why)) [] h old.links new.links
    (quiet_go old.conns new.conns old.flows (Noted (note.Close n code why)) h c
    (λ d. inl (stays.above_stays d, octets_written n old.conns new.conns v w found written (λ xs. xs) (ap (λ (b : Buffer). b.octets) same) d ∙ same_if (n == d) (octets_of d old.conns))) stays
    (λ g there. record { stages = refl; conn = refl; spared = refl }) refl tt (λ g. (refl, refl)) (λ g. refl) (λ g. close_drained old.config.limits g n code why other h)) s (closed_so h s) c))
  where
    stays : AboveStays old.conns new.conns
    stays = above_through n old.conns new.conns v w found written (ap (λ (b : Buffer). b.above) same)

    closed_so : (h : WayHistory) → Stands old.config.limits old.conns old.flows old.links h → Stands old.config.limits new.conns old.flows new.links (Noted (note.Close n code why) ∷ h)
    closed_so h s = closes n code why h old.conns new.conns old.flows old.links new.links
        (conn_shut n old.conns new.conns v w found written (left_by why) (ap (λ (b : Buffer). b.octets) same ∙ sym (left_all why other v.outlet.write.octets)) shut) ends known s

    stand : (h : WayHistory) → Stands old.config.limits old.conns old.flows old.links h → Stands old.config.limits new.conns new.flows new.links (Noted (note.Close n code why) ∷ h)
    stand h s = subst (λ (fs : Flows). Stands old.config.limits new.conns fs new.links (Noted (note.Close n code why) ∷ h)) (sym f) (closed_so h s)

-- ---- a loss
module _ (n : ℕ) (old new : WireCore) (v w : Conn) (found : value_at n old.conns ≡ Some v) (written : WritesThrough n old.conns w new.conns) (empty : w.outlet.write.octets ≡ []) (limit : v.outlet.write.limit ≡ old.config.limits.write_buffer)
    (frees : Frees n true v.outlet.write w.outlet.write old.flows new.flows) (config : footing_of new ≡ footing_of old) where
  none_left : (b : Bool) (xs : List ℕ) → length (if b then [] else xs) ≤ length xs
  none_left true xs = omega arith
  none_left false xs = omega arith

  -- of one that was open
  pub lost_eases : w.open ≡ false → ((x : ℕ) → ends_of x new.links ≡ ends_of x old.links) → ((d : ℕ) → is_known d new.links ≡ is_known d old.links) → Eases n (note.Close n 0 cause.Lost ∷ []) old new
  lost_eases shut ends known = eases_by n (step ∷ []) (λ h d. refl) old new (record { ways = λ h s w. w; rows = refl }) config stand (λ h s c.
      counts_go old.config.limits None None (Some n) None old.conns new.conns old.flows new.flows step [] h old.links new.links
      (frees_go n old.conns new.conns v w found written true old.flows new.flows frees limit h c old.links new.links step s (stand h s) (none_left (n == n) (out (tape_setup old.config.limits) n h)) refl
      (λ f. record { stages = refl; conn = refl; spared = refl }) refl tt (λ f. (refl, refl)) (λ f. refl)) s (stand h s) c)
    where
      step : WayStep
      step = Noted (note.Close n 0 cause.Lost)

      stand : (h : WayHistory) → Stands old.config.limits old.conns old.flows old.links h → Stands old.config.limits new.conns new.flows new.links (Noted (note.Close n 0 cause.Lost) ∷ h)
      stand h s = gates_stand old.flows new.flows frees.rest new.conns new.links (Noted (note.Close n 0 cause.Lost) ∷ h)
          (closes n 0 cause.Lost h old.conns new.conns old.flows old.links new.links (conn_shut n old.conns new.conns v w found written (left_by cause.Lost) empty shut) ends known s)

  -- of one that was closed
  pub rest_eases : (k : ℕ) → v.open ≡ false → w.open ≡ v.open → new.links ≡ old.links → Eases n (note.Turn k (event.Gone n) ∷ []) old new
  rest_eases k shut opened l = eases_by n (Noted (note.Turn k (event.Gone n)) ∷ []) (λ h d. refl) old new (record { ways = λ h s w. w; rows = refl }) config stand (λ h s c.
      counts_go old.config.limits None None (Some n) None old.conns new.conns old.flows new.flows (Noted (note.Turn k (event.Gone n))) [] h old.links new.links
      (frees_go n old.conns new.conns v w found written true old.flows new.flows frees limit h c old.links new.links (Noted (note.Turn k (event.Gone n))) s (stand h s) (none_left ((n == n) && was_closed n h) (out (tape_setup old.config.limits) n h)) refl
      (λ f. record { stages = refl; conn = refl; spared = refl }) refl (counts_sources old.config.limits old.conns old.flows h c) (λ f. (refl, refl)) (λ f. refl)) s (stand h s) c)
    where
      stand : (h : WayHistory) → Stands old.config.limits old.conns old.flows old.links h → Stands old.config.limits new.conns new.flows new.links (Noted (note.Turn k (event.Gone n)) ∷ h)
      stand h s = subst (λ (ls : Links). Stands old.config.limits new.conns new.flows ls (Noted (note.Turn k (event.Gone n)) ∷ h)) (sym l)
          (gates_stand old.flows new.flows frees.rest new.conns old.links (Noted (note.Turn k (event.Gone n)) ∷ h)
          (drops_rest n k old.conns new.conns (one_drops n old.conns new.conns v w found written empty opened shut) old.flows old.links h s))

-- of one that isn't there
pub gone_eases : (n k : ℕ) (core : WireCore) → value_at n core.conns ≡ None → Eases n (note.Turn k (event.Gone n) ∷ []) core core
gone_eases n k core none = eases_by n (Noted (note.Turn k (event.Gone n)) ∷ []) (λ h d. refl) core core (record { ways = λ h s w. w; rows = refl }) refl stand (λ h s c. may_lag n
    (counts_go core.config.limits None None None None core.conns core.conns core.flows core.flows (Noted (note.Turn k (event.Gone n))) [] h core.links core.links
    (turn_go core.conns core.flows k (event.Gone n) h (λ f. never h c f) c) s (stand h s) c))
  where
    stand : (h : WayHistory) → Stands core.config.limits core.conns core.flows core.links h → Stands core.config.limits core.conns core.flows core.links (Noted (note.Turn k (event.Gone n)) ∷ h)
    stand h s = drops_rest n k core.conns core.conns (none_drops n core.conns none) core.flows core.links h s

    low : (h : WayHistory) → Counts core.config.limits None None core.conns core.flows h → above (tape_setup core.config.limits) (buffer.Write n) h ≡ false
    low h c = sym (c.over n) ∙ ap (λ (o : Option Conn). option_map_or (λ conn. conn.outlet.write.above) o false) none

    never : (h : WayHistory) → Counts core.config.limits None None core.conns core.flows h → (f : FlowId) → drained core.config.limits f (Noted (note.Turn k (event.Gone n))) h ≡ 0
    never h c f = ap (λ (b : Bool). if b && not (above (tape_setup core.config.limits) (buffer.Write n) (Noted (note.Turn k (event.Gone n)) ∷ h)) then times_of_buffer (buffer.Write n) (source_buffers (tape_setup core.config.limits) f h) else 0) (low h c)
