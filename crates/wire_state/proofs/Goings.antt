-- From what holds at every history to what a call does to a core and its notes.
use Rattle.exchange_core.specs.Changes.{ChangesFlow}
use Rattle.exchange_core.specs.Exchange.{flow_in as side_of}
use Rattle.exchange_core.specs.Exchanges.{Exchanges, exchange_at, flow_at}
use Rattle.exchange_core.specs.Flow.{Flow}
use Rattle.exchange_core.specs.declared.exchange.Exchange.{Exchange}
use Rattle.flow_gate.specs.Board.{pending_on}
use Rattle.flow_rules.specs.declared.ids.BufferId.{BufferId}
use Rattle.flow_rules.specs.declared.ids.FlowId.{FlowId}
use Rattle.flow_notes.specs.declared.notes.Note.{Note}
use Rattle.proxy_config.specs.declared.config.Config.{Config}
use Rattle.proxy_config.specs.declared.config.LimitKeys.{LimitKeys}
use Rattle.std.proofs.Common.{ap, append_assoc, arith, refl, subst, sym, ◌∙◌}
use Rattle.std.proofs.lemmas.List.{append-nil}
use Rattle.std.specs.BTreeMap.{is_at}
use Rattle.paged_map.specs.PagedMap.{PagedMap, WritesThrough, value_at}
use Rattle.std.specs.Map.{lookup}
use Rattle.std.specs.Option.{option_and_then, option_map, option_map_or}
use Rattle.std.specs.Ordering.{nat_cmp}
use Rattle.std.specs.Prelude.{Bool, Err, IfSome, List, Ok, None, OnOk, Option, Result, Some, [], false, if◌then◌else◌, is_some, nat_eq, not, true, ℕ, ◌++◌, ◌==◌, ◌∷◌, ◌≡◌, ◌≤◌}
use Rattle.tape_laws.specs.History.{Marked, Noted}
use Rattle.tape_laws.specs.World.{gone}
use Rattle.flow_gate.proofs.SameIds.{same_flow_exact}
use Rattle.flow_gate.specs.Ids.{same_flow}
use Rattle.wire_flows.proofs.Cases.{by_case}
use Rattle.wire_flows.proofs.Found.{flow_after, live_after, target_after}
use Rattle.wire_flows.specs.Flows.{Flows, flow_in}
use Rattle.wire_flows.specs.Sound.{IsSound}
use Rattle.wire_flows.specs.Writes.{KeepsWrites}
use Rattle.wire_links.specs.Links.{Links, ends_of, no_links}
use Rattle.wire_state.proofs.Bodies.{flow_goes, flows_go}
use Rattle.wire_state.proofs.Fitting.{empty_fits}
use Rattle.wire_state.proofs.Held.{KeepsOctets, is_number}
use Rattle.wire_state.proofs.CountsKept.{AboveStays, PlacesKeep, changed_keep, counts_conns, counts_flows, counts_seen}
use Rattle.wire_state.proofs.Marked.{marks_first, ways_opened}
use Rattle.wire_state.proofs.Standing.{ConnsAre, at_one, conns_go, conns_written, other_now, same_octets, there_now}
use Rattle.wire_state.specs.Counts.{Counts, is_above_at}
use Rattle.wire_state.specs.Marks.{AreWays, Footing, MayOpen, footing_of, rows_in}
use Rattle.wire_state.specs.Ways.{Opens, Passes, WayHistory, WayStep, after, shown, world_setup}
use Rattle.wire_state.specs.Worlds.{Eases, EndsAre, EndsOne, FlowIs, Keeps, KeepsOk, Owes, Stands, Told, ToldBy, has_conn, octets_of}
use Rattle.wire_state.specs.declared.conn.Conn.{Conn}
use Rattle.wire_state.specs.declared.wire_core.WireCore.{WireCore}
use Rattle.wm_buffer.specs.Buffer.{Buffer}

pub after_append : (a b : List WayStep) (h : WayHistory) → after (a ++ b) h ≡ after b (after a h)
after_append [] b h = refl
after_append (s ∷ a) b h = after_append a b (s ∷ h)

pub shown_append : (a b : List WayStep) → shown (a ++ b) ≡ shown a ++ shown b
shown_append [] b = refl
shown_append (Noted n ∷ a) b = ap (λ ns. n ∷ ns) (shown_append a b)
shown_append (Marked m ∷ a) b = shown_append a b

-- no octets left a connection by these steps
abbrev pub KeepsLeft : List WayStep → Type 0
KeepsLeft steps = (h : WayHistory) (c : ℕ) → gone world_setup c (after steps h) ≡ gone world_setup c h

pub rows_append : (a b : List WayStep) → rows_in (a ++ b) ≡ rows_in a ++ rows_in b
rows_append [] b = refl
rows_append (Noted n ∷ a) b = rows_append a b
rows_append (Marked (Passes x row to there back) ∷ a) b = ap (λ (rows : List (Option ℕ)). row ∷ rows) (rows_append a b)
rows_append (Marked (Opens x s) ∷ a) b = rows_append a b

-- no mark comes by these steps, and the marks stay tied
pub record KeepsWays (l : Footing) (conns : PagedMap Conn) (flows : Flows) (links : Links) (steps : List WayStep) : Type 0 where
  pub ways : (h : WayHistory) → Stands l.config.limits conns flows links h → AreWays l.config h → AreWays l.config (after steps h)
  pub rows : rows_in steps ≡ []

-- what a call makes of the counts, by these steps
abbrev pub CountsOn : LimitKeys → Option ℕ → Option ℕ → Option ℕ → Option ℕ → PagedMap Conn → PagedMap Conn → Flows → Flows → Links → List WayStep → Type 0
CountsOn l t u t' u' conns conns' flows flows' links steps = (h : WayHistory) → Stands l conns flows links h → Counts l t u conns flows h → Counts l t' u' conns' flows' (after steps h)

-- the steps that a call makes are still to be noted, where the core stands for them
pub told_as : {k : Config} {l : Footing} {t u t' u' : Option ℕ} → (steps : List WayStep) (more : (ℕ → List ℕ) → ℕ → List ℕ) (conns conns' : PagedMap Conn) (flows flows' : Flows) (links links' : Links)
    → ((h : WayHistory) (g : ℕ → List ℕ) → Stands l.config.limits conns flows links h → ((c : ℕ) → gone world_setup c h ≡ g c) → (c : ℕ) → gone world_setup c (after steps h) ≡ more g c)
    → KeepsWays l conns flows links steps → ((h : WayHistory) → Stands l.config.limits conns flows links h → Stands l.config.limits conns' flows' links' (after steps h)) → CountsOn l.config.limits t u t' u' conns conns' flows flows' links steps
    → (h : WayHistory) (g : ℕ → List ℕ) (start notes : List Note) → ToldBy k l t u h g start conns flows links notes → ToldBy k l t' u' h (more g) start conns' flows' links' (notes ++ shown steps)
told_as {l} {t' = t'} {u' = u'} steps more conns conns' flows flows' links links' leaves ways goes counts h g start notes t = record {
  steps = t.steps ++ steps;
  is = ap (λ (ns : List Note). ns ++ shown steps) t.is ∙ (append_assoc start (shown t.steps) (shown steps) ∙ ap (λ (ns : List Note). start ++ ns) (sym (shown_append t.steps steps)));
  stands = subst (λ (past : WayHistory). Stands l.config.limits conns' flows' links' past) (sym (after_append t.steps steps h)) (goes (after t.steps h) t.stands);
  counts = subst (λ (past : WayHistory). Counts l.config.limits t' u' conns' flows' past) (sym (after_append t.steps steps h)) (counts (after t.steps h) t.stands t.counts);
  left = λ c. ap (gone world_setup c) (after_append t.steps steps h) ∙ leaves (after t.steps h) g t.stands t.left c;
  under = t.under;
  ways = λ was. subst (λ (past : WayHistory). AreWays l.config past) (sym (after_append t.steps steps h)) (ways.ways (after t.steps h) t.stands (t.ways was));
  rows = t.rows ∙ (sym (append-nil (rows_in t.steps)) ∙ (ap (λ (rows : List (Option ℕ)). rows_in t.steps ++ rows) (sym ways.rows) ∙ sym (rows_append t.steps steps)));
  since = t.since;
}

pub told_by : {k : Config} {l : Footing} {t u t' u' : Option ℕ} → (steps : List WayStep) → KeepsLeft steps → (conns conns' : PagedMap Conn) (flows flows' : Flows) (links links' : Links) → KeepsWays l conns flows links steps
    → ((h : WayHistory) → Stands l.config.limits conns flows links h → Stands l.config.limits conns' flows' links' (after steps h)) → CountsOn l.config.limits t u t' u' conns conns' flows flows' links steps
    → (h : WayHistory) (g : ℕ → List ℕ) (start notes : List Note) → ToldBy k l t u h g start conns flows links notes → ToldBy k l t' u' h g start conns' flows' links' (notes ++ shown steps)
told_by steps keeps conns conns' flows flows' links links' ways goes counts = told_as steps (λ g. g) conns conns' flows flows' links links' (λ h g s is c. keeps h c ∙ is c) ways goes counts

-- the core has this footing
pub told_on : {k : Config} {t u : Option ℕ} → (l : Footing) (new : WireCore) → footing_of new ≡ l → (h : WayHistory) (g : ℕ → List ℕ) (start notes : List Note) → ToldBy k l t u h g start new.conns new.flows new.links notes → Told k t u h g start new notes
told_on {k} {t} {u} l new same h g start notes told = subst (λ (v : Footing). ToldBy k v t u h g start new.conns new.flows new.links notes) (sym same) told

pub config_told : {k : Config} {t u : Option ℕ} → (old new : WireCore) → footing_of new ≡ footing_of old → (h : WayHistory) (g : ℕ → List ℕ) (start notes : List Note) → ToldBy k (footing_of old) t u h g start new.conns new.flows new.links notes → Told k t u h g start new notes
config_told old new same h g start notes told = told_on (footing_of old) new same h g start notes told

-- the same with connections and notes that are these
pub told_at : {k : Config} {l : Footing} {t u : Option ℕ} → (h : WayHistory) (g : ℕ → List ℕ) (start : List Note) (conns conns' : PagedMap Conn) (flows : Flows) (links : Links) (notes notes' : List Note) → conns ≡ conns' → notes ≡ notes'
    → ToldBy k l t u h g start conns flows links notes → ToldBy k l t u h g start conns' flows links notes'
told_at {k} {l} {t} {u} h g start conns conns' flows links notes notes' c n told = subst (λ (v : PagedMap Conn). ToldBy k l t u h g start v flows links notes') c (subst (λ (ns : List Note). ToldBy k l t u h g start conns flows links ns) n told)

pub owes_by : (steps : List WayStep) → KeepsLeft steps → (old new : WireCore) → KeepsWays (footing_of old) old.conns old.flows old.links steps → footing_of new ≡ footing_of old
    → ((h : WayHistory) → Stands old.config.limits old.conns old.flows old.links h → Stands old.config.limits new.conns new.flows new.links (after steps h))
    → ((t u : Option ℕ) → CountsOn old.config.limits t u t u old.conns new.conns old.flows new.flows old.links steps) → Owes (shown steps) old new
owes_by steps keeps old new ways same goes counts = record {
  goes = λ {k} {t} {u} h g start notes told.
      config_told old new same h g start (notes ++ shown steps)
      (told_by {l = footing_of old} steps keeps old.conns new.conns old.flows new.flows old.links new.links ways goes (counts t u) h g start notes told);
}

-- from then on the flows that go to a connection may be to be told
pub eases_by : (c : ℕ) (steps : List WayStep) → KeepsLeft steps → (old new : WireCore) → KeepsWays (footing_of old) old.conns old.flows old.links steps → footing_of new ≡ footing_of old
    → ((h : WayHistory) → Stands old.config.limits old.conns old.flows old.links h → Stands old.config.limits new.conns new.flows new.links (after steps h))
    → CountsOn old.config.limits None None (Some c) None old.conns new.conns old.flows new.flows old.links steps → Eases c (shown steps) old new
eases_by c steps keeps old new ways same goes counts = record {
  goes = λ h g start notes t.
      config_told old new same h g start (notes ++ shown steps)
      (told_by {l = footing_of old} steps keeps old.conns new.conns old.flows new.flows old.links new.links ways goes counts h g start notes t);
}

-- the exchange that overflowed ends
pub ends_by : (x : ℕ) (steps : List WayStep) → KeepsLeft steps → (old new : WireCore) → KeepsWays (footing_of old) old.conns old.flows old.links steps → footing_of new ≡ footing_of old
    → ((h : WayHistory) → Stands old.config.limits old.conns old.flows old.links h → Stands old.config.limits new.conns new.flows new.links (after steps h))
    → ((t : Option ℕ) → CountsOn old.config.limits t (Some x) t None old.conns new.conns old.flows new.flows old.links steps) → EndsOne x (shown steps) old new
ends_by x steps keeps old new ways same goes counts = record {
  goes = λ {k} {t} h g start notes told.
      config_told old new same h g start (notes ++ shown steps)
      (told_by {l = footing_of old} steps keeps old.conns new.conns old.flows new.flows old.links new.links ways goes (counts t) h g start notes told);
}

pub keeps_by : (old new : WireCore) → footing_of new ≡ footing_of old → ((h : WayHistory) → Stands old.config.limits old.conns old.flows old.links h → Stands old.config.limits new.conns new.flows new.links h)
    → ((t u : Option ℕ) → CountsOn old.config.limits t u t u old.conns new.conns old.flows new.flows old.links []) → Keeps old new
keeps_by old new same goes counts = record {
  goes = λ {k} {t} {u} h g start notes told.
      config_told old new same h g start notes
      (record { steps = told.steps; is = told.is; stands = goes (after told.steps h) told.stands; counts = counts t u (after told.steps h) told.stands told.counts; left = told.left; under = told.under; ways = told.ways; rows = told.rows; since = told.since });
}

-- the same of a call that may fail
pub keeps_on : {A E : Type 0} (r : Result A E) (old new : WireCore) → Keeps old new → KeepsOk r old new
keeps_on (Ok u) old new k = record { goes = k.goes }
keeps_on (Err x) old new k = record { goes = λ h g start notes t. tt }

-- what a call of one connection leaves alone
abbrev pub rest_of : WireCore → Links × Footing
rest_of core = (core.links, footing_of core)

pub footing_kept : (old new : WireCore) → rest_of new ≡ rest_of old → footing_of new ≡ footing_of old
footing_kept old new r = ap (λ (v : Links × Footing). v.1) r

pub links_kept : {l : LimitKeys} → (old new : WireCore) → rest_of new ≡ rest_of old → (h : WayHistory) → Stands l new.conns new.flows old.links h → Stands l new.conns new.flows new.links h
links_kept {l} old new r h s = subst (λ (v : Links × Footing). Stands l new.conns new.flows v.0 h) (sym r) s

-- where these parts are as they were
pub keeps_same : (old new : WireCore) → new.conns ≡ old.conns → new.flows ≡ old.flows → rest_of new ≡ rest_of old → Keeps old new
keeps_same old new c f r = keeps_by old new (footing_kept old new r) (λ h s.
    links_kept old new r h
    (subst (λ (v : PagedMap Conn). Stands old.config.limits v new.flows old.links h) (sym c)
    (subst (λ (v : Flows). Stands old.config.limits old.conns v old.links h) (sym f) s)))
    (λ t u h s k. subst (λ (v : PagedMap Conn). Counts old.config.limits t u v new.flows h) (sym c) (subst (λ (v : Flows). Counts old.config.limits t u old.conns v h) (sym f) k))

-- ---- one connection
abbrev above_in : Option Conn → Bool
above_in o = option_map_or (λ conn. conn.outlet.write.above) o false

-- it was written through, and its write buffer is as it was
pub above_through : (n : ℕ) (old new : PagedMap Conn) (v w : Conn) → value_at n old ≡ Some v → WritesThrough n old w new → w.outlet.write.above ≡ v.outlet.write.above → AboveStays old new
above_through n old new v w found written same = record {
  above_stays = λ c. by_case (n == c)
      (λ e. ap above_in (there_now n old new v w found written c e) ∙ (same ∙ sym (ap (λ d. is_above_at d old) (sym (is_number n c e)) ∙ ap above_in found)))
      (λ e. ap above_in (other_now n old new v w found written c e));
  came = λ c there. by_case (n == c)
      (λ e. ap (λ d. has_conn d old) (sym (is_number n c e)) ∙ ap is_some found)
      (λ e. sym (ap is_some (other_now n old new v w found written c e)) ∙ there);
}

pub conn_keeps : (n : ℕ) (old new : WireCore) (v w : Conn) → value_at n old.conns ≡ Some v → WritesThrough n old.conns w new.conns
    → w.outlet.write ≡ v.outlet.write → w.open ≡ v.open → new.flows ≡ old.flows → rest_of new ≡ rest_of old → Keeps old new
conn_keeps n old new v w found written same opened f r = keeps_by old new (footing_kept old new r) (λ h s.
    links_kept old new r h
    (subst (λ (fs : Flows). Stands old.config.limits new.conns fs old.links h) (sym f)
    (conns_go old.conns new.conns old.flows old.links h (same_conns (conns_written n old.conns new.conns v w found written (λ xs. xs) (ap (λ (b : Buffer). b.octets) same) opened)) s)))
    (λ t u h s k. subst (λ (fs : Flows). Counts old.config.limits t u new.conns fs h) (sym f)
    (counts_conns old.conns new.conns old.flows h (above_through n old.conns new.conns v w found written (ap (λ (b : Buffer). b.above) same)) k))
  where
    same_one : (b : Bool) (xs : List ℕ) → (if b then xs else xs) ≡ xs
    same_one true xs = refl
    same_one false xs = refl

    same_conns : ConnsAre (at_one n (λ xs. xs)) old.conns new.conns → ConnsAre same_octets old.conns new.conns
    same_conns c = record { octets = λ d. c.octets d ∙ same_one (n == d) (octets_of d old.conns); shut = c.shut; there = c.there }

-- ---- flows whose octets stay
pub record KeepBodies (old new : Flows) : Type 0 where
  pub goes : {l : LimitKeys} → (conns : PagedMap Conn) (links : Links) (h : WayHistory) → Stands l conns old links h → Stands l conns new links h
  -- and their counts
  pub counts : {l : LimitKeys} {t u : Option ℕ} → (conns : PagedMap Conn) (h : WayHistory) → Counts l t u conns old h → Counts l t u conns new h

flows_same : {l : LimitKeys} → (old new : Flows) → new ≡ old → (conns : PagedMap Conn) (links : Links) (h : WayHistory) → Stands l conns old links h → Stands l conns new links h
flows_same {l} old new e conns links h s = subst (λ (f : Flows). Stands l conns f links h) (sym e) s

pub same_bodies : (old new : Flows) → new ≡ old → KeepBodies old new
same_bodies old new e = record {
  goes = λ conns links h s. flows_same old new e conns links h s;
  counts = λ {l} {t} {u} conns h c. subst (λ (f : Flows). Counts l t u conns f h) (sym e) c;
}

-- only the gates changed
pub gates_stand : {l : LimitKeys} → (old new : Flows) → new.exchanges ≡ old.exchanges → (conns : PagedMap Conn) (links : Links) (h : WayHistory) → Stands l conns old links h → Stands l conns new links h
gates_stand old new e = flows_go old new (ap (λ (ex : Exchanges). ex.last) e) (λ f. ap (λ (ex : Exchanges). flow_at ex f) e)

-- only one flow did, which keeps its octets, and its places are above where they were
pub changed_bodies : (f : FlowId) (change : Flow → Flow) (old new : Flows) → ((flow : Flow) → flow_in old f ≡ Some flow → KeepsOctets flow (change flow)) → ((flow : Flow) → flow_in old f ≡ Some flow → PlacesKeep flow (change flow))
    → new.gates ≡ old.gates → IsSound new → ChangesFlow f change old.exchanges new.exchanges → KeepBodies old new
changed_bodies f change old new keeps places gates sound c = record {
  goes = flow_goes f change old new keeps c;
  counts = λ conns h k. counts_flows conns old new h (changed_keep f change old new places c) gates sound k;
}

-- one flow is changed into what it is, and the gates are seen as before
pub still_bodies : (f : FlowId) (change : Flow → Flow) (old new : Flows) → ((flow : Flow) → flow_in old f ≡ Some flow → KeepsOctets flow (change flow)) → ((flow : Flow) → flow_in old f ≡ Some flow → change flow ≡ flow)
    → IsSound new → KeepsWrites old new → ((b : BufferId) → pending_on new.gates b ≡ pending_on old.gates b) → ChangesFlow f change old.exchanges new.exchanges → KeepBodies old new
still_bodies f change old new keeps same sound writes lows c = record {
  goes = flow_goes f change old new keeps c;
  counts = λ conns h k. counts_seen conns old new h c.flow.last found (λ g. target_after f change old.exchanges new.exchanges c g) (λ x. live_after f change old.exchanges new.exchanges c x) sound writes lows k;
}
  where
    mapped : (o : Option Flow) → ((flow : Flow) → o ≡ Some flow → change flow ≡ flow) → option_map change o ≡ o
    mapped None e = refl
    mapped (Some flow) e = ap (λ (v : Flow). Some v) (e flow refl)

    found : (g : FlowId) → flow_in new g ≡ flow_in old g
    found g = flow_after f change old.exchanges new.exchanges c g ∙ by_case (same_flow f g)
        (λ is. ap (λ b. if b then option_map change (flow_in old g) else flow_in old g) is ∙ mapped (flow_in old g) (subst (λ (v : FlowId). (flow : Flow) → flow_in old v ≡ Some flow → change flow ≡ flow) (same_flow_exact f g is) same))
        (λ other. ap (λ b. if b then option_map change (flow_in old g) else flow_in old g) other)

pub bodies_told : {k : Config} {l : Footing} {t u : Option ℕ} → (old new : Flows) → KeepBodies old new → (conns : PagedMap Conn) (links : Links) (h : WayHistory) (g : ℕ → List ℕ) (start notes : List Note) → ToldBy k l t u h g start conns old links notes → ToldBy k l t u h g start conns new links notes
bodies_told old new k conns links h g start notes t = record { steps = t.steps; is = t.is; stands = k.goes conns links (after t.steps h) t.stands; counts = k.counts conns (after t.steps h) t.counts; left = t.left; under = t.under; ways = t.ways; rows = t.rows; since = t.since }

-- the same of a call that may fail
pub changed_told : {k : Config} {l : Footing} {t u : Option ℕ} {A E : Type 0} (r : Result A E) (f : FlowId) (change : Flow → Flow) (old new : Flows) → ((flow : Flow) → KeepsOctets flow (change flow)) → ((flow : Flow) → PlacesKeep flow (change flow)) → new.gates ≡ old.gates → IsSound new → OnOk r (ChangesFlow f change old.exchanges new.exchanges)
    → (conns : PagedMap Conn) (links : Links) (h : WayHistory) (g : ℕ → List ℕ) (start notes : List Note) → ToldBy k l t u h g start conns old links notes → OnOk r (ToldBy k l t u h g start conns new links notes)
changed_told (Ok a) f change old new keeps places gates sound c conns links h g start notes t = bodies_told old new (changed_bodies f change old new (λ flow e. keeps flow) (λ flow e. places flow) gates sound c) conns links h g start notes t
changed_told (Err x) f change old new keeps places gates sound c conns links h g start notes t = tt

-- ---- at first
pub first_stands : {l : LimitKeys} → (conns : PagedMap Conn) (flows : Flows) (links : Links) → conns.entries ≡ [] → flows.exchanges.live ≡ [] → flows.exchanges.last ≡ 0 → links ≡ no_links → Stands l conns flows links []
unfolding exchange_at
first_stands {l} conns flows links c f last none = record {
  writes = λ d. ap (λ (es : List (ℕ × Conn)). option_map_or (λ conn. conn.outlet.write.octets) (lookup (is_at (nat_cmp d)) es) []) c;
  flows_are = λ g. subst (λ (es : List (ℕ × Exchange)). IfSome (option_and_then (side_of g.back) (lookup (nat_eq g.exchange) es)) (FlowIs l g [])) (sym f) tt;
  empty = λ g p none. refl;
  ends = λ x. subst (λ (v : Links). IfSome (ends_of x v) (EndsAre x [])) (sym none) tt;
  known = λ d e. ap (λ (es : List (ℕ × Conn)). is_some (lookup (is_at (nat_cmp d)) es)) c;
  closed = λ d e. sym (ap (λ (es : List (ℕ × Conn)). option_map_or (λ conn. not conn.open) (lookup (is_at (nat_cmp d)) es) false) c);
  come = λ d e. (ap (λ (es : List (ℕ × Conn)). is_some (lookup (is_at (nat_cmp d)) es)) c, refl);
  unborn = λ g above. record {
    there = ap (λ (es : List (ℕ × Exchange)). is_some (option_and_then (side_of g.back) (lookup (nat_eq g.exchange) es))) f;
    unread = refl;
    unsent = refl;
  };
  fronts = λ g. refl;
  taking = tt;
  fits = record { flows = λ g. empty_fits g [] (λ p. refl); outs = λ d some. least _ };
  marks = marks_first flows links last none;
}
  where
    least : (n : ℕ) → 0 ≤ n
    least n = omega arith

-- ---- a mark
-- nothing is noted, but the history has one more mark: a request gets its stream
pub marked_told : {k : Config} {l : Footing} {t u : Option ℕ} → (x s : ℕ) (conns conns' : PagedMap Conn) (flows flows' : Flows) (links links' : Links)
    → ((h : WayHistory) → Stands l.config.limits conns flows links h → MayOpen x h) → ((h : WayHistory) → Stands l.config.limits conns flows links h → Stands l.config.limits conns' flows' links' (Marked (Opens x s) ∷ h))
    → CountsOn l.config.limits t u t u conns conns' flows flows' links (Marked (Opens x s) ∷ [])
    → (h : WayHistory) (g : ℕ → List ℕ) (start notes : List Note) → ToldBy k l t u h g start conns flows links notes → ToldBy k l t u h g start conns' flows' links' notes
marked_told {l} {t} {u} x s conns conns' flows flows' links links' may goes counts h g start notes told = record {
  steps = told.steps ++ Marked (Opens x s) ∷ [];
  is = told.is ∙ ap (λ (ns : List Note). start ++ ns) (sym (shown_append told.steps (Marked (Opens x s) ∷ []) ∙ append-nil (shown told.steps)));
  stands = subst (λ (past : WayHistory). Stands l.config.limits conns' flows' links' past) (sym (after_append told.steps (Marked (Opens x s) ∷ []) h)) (goes (after told.steps h) told.stands);
  counts = subst (λ (past : WayHistory). Counts l.config.limits t u conns' flows' past) (sym (after_append told.steps (Marked (Opens x s) ∷ []) h)) (counts (after told.steps h) told.stands told.counts);
  left = λ c. ap (gone world_setup c) (after_append told.steps (Marked (Opens x s) ∷ []) h) ∙ told.left c;
  under = told.under;
  ways = λ was. subst (λ (past : WayHistory). AreWays l.config past) (sym (after_append told.steps (Marked (Opens x s) ∷ []) h)) (ways_opened x s (after told.steps h) l.config (may (after told.steps h) told.stands) (told.ways was));
  rows = told.rows ∙ sym (rows_append told.steps (Marked (Opens x s) ∷ []) ∙ append-nil (rows_in told.steps));
  since = told.since;
}
