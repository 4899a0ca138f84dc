-- Notes that hold flows back or let them go: they move no octets, and no buffer rises or drains by them.
use Rattle.flow_rules.specs.declared.ids.BufferId.{BufferId}
use Rattle.flow_rules.specs.declared.ids.BufferId.TheVariants as buffer
use Rattle.flow_rules.specs.declared.ids.FlowId.{FlowId}
use Rattle.flow_gate.specs.Board.{times}
use Rattle.flow_laws.proofs.Flags.{flag_now}
use Rattle.flow_laws.proofs.Lists.{count_cons, flow_swapped, one_if}
use Rattle.flow_notes.specs.declared.notes.Note.{Note}
use Rattle.flow_notes.specs.declared.notes.Note.TheVariants as note
use Rattle.paged_map.specs.PagedMap.{PagedMap}
use Rattle.proxy_config.specs.declared.config.Config.{Config}
use Rattle.proxy_config.specs.declared.config.LimitKeys.{LimitKeys}
use Rattle.std.proofs.Common.{ap, arith, refl, ◌∙◌}
use Rattle.std.specs.List.{AllByRecursion}
use Rattle.std.specs.Prelude.{List, [], if◌then◌else◌, ℕ, ◌++◌, ◌+◌, ◌∷◌, ◌≡◌}
use Rattle.tape_laws.specs.Dispatches.{live}
use Rattle.tape_laws.specs.Flows.{same_flow}
use Rattle.tape_laws.specs.History.{EachFollows, Noted}
use Rattle.tape_laws.specs.Pauses.{pauses, resumes}
use Rattle.tape_laws.specs.Watermark.{above}
use Rattle.tape_laws.specs.World.{gone}
use Rattle.wire_flows.specs.Flows.{Flows}
use Rattle.wire_links.specs.Links.{Links}
use Rattle.wire_state.proofs.Standing.{conns_same, pause_flows, pause_shut, pause_writes, resume_flows, resume_shut, resume_writes, same_octets, wrote}
use Rattle.wire_state.specs.Counts.{Heeds}
use Rattle.wire_state.specs.Marks.{AreWays, rows_in}
use Rattle.wire_state.specs.Noting.{pauses_of}
use Rattle.wire_state.specs.Tapes.{conn_to, tape_setup}
use Rattle.wire_state.specs.Ways.{WayHistory, WayStep, after, shown, stages_passed, world_setup}
use Rattle.wire_state.specs.Worlds.{Stands}
use Rattle.wire_state.specs.declared.conn.Conn.{Conn}

abbrev pub IsHold : Note → Type 0
IsHold (note.Pause f b) = Unit {0}
IsHold (note.Resume f b) = Unit {0}
IsHold n = ⊥

abbrev pub AreHolds : List Note → Type 0
AreHolds ns = AllByRecursion IsHold ns

-- how often they pause a flow, and how often they resume it
abbrev pub paused_in : FlowId → List Note → ℕ
paused_in f [] = 0
paused_in f (note.Pause g b ∷ ns) = (if same_flow g f then 1 else 0) + paused_in f ns
paused_in f (n ∷ ns) = paused_in f ns

abbrev pub resumed_in : FlowId → List Note → ℕ
resumed_in f [] = 0
resumed_in f (note.Resume g b ∷ ns) = (if same_flow g f then 1 else 0) + resumed_in f ns
resumed_in f (n ∷ ns) = resumed_in f ns

-- as steps
abbrev pub noted : List Note → List WayStep
noted [] = []
noted (n ∷ ns) = Noted n ∷ noted ns

pub shown_noted : (ns : List Note) → shown (noted ns) ≡ ns
shown_noted [] = refl
shown_noted (n ∷ ns) = ap (λ (ms : List Note). n ∷ ms) (shown_noted ns)

-- ---- what stays
pub record IsAlike (l : LimitKeys) (h k : WayHistory) : Type 0 where
  pub above_as : (b : BufferId) → above (tape_setup l) b k ≡ above (tape_setup l) b h
  pub stages_as : (f : FlowId) → stages_passed f k ≡ stages_passed f h
  pub conn_as : (f : FlowId) → conn_to f k ≡ conn_to f h
  pub live_as : live k ≡ live h

pub alike_then : {l : LimitKeys} → (h j k : WayHistory) → IsAlike l h j → IsAlike l j k → IsAlike l h k
alike_then h j k a b = record {
  above_as = λ c. b.above_as c ∙ a.above_as c;
  stages_as = λ f. b.stages_as f ∙ a.stages_as f;
  conn_as = λ f. b.conn_as f ∙ a.conn_as f;
  live_as = b.live_as ∙ a.live_as;
}

pause_above : (l : LimitKeys) (f : FlowId) (a b : BufferId) (h : WayHistory) → above (tape_setup l) b (Noted (note.Pause f a) ∷ h) ≡ above (tape_setup l) b h
pause_above l f a (buffer.Recv g) h = flag_now (tape_setup l) (buffer.Recv g) h
pause_above l f a (buffer.Stage g i) h = flag_now (tape_setup l) (buffer.Stage g i) h
pause_above l f a (buffer.Send g) h = flag_now (tape_setup l) (buffer.Send g) h
pause_above l f a (buffer.Write c) h = flag_now (tape_setup l) (buffer.Write c) h

resume_above : (l : LimitKeys) (f : FlowId) (a b : BufferId) (h : WayHistory) → above (tape_setup l) b (Noted (note.Resume f a) ∷ h) ≡ above (tape_setup l) b h
resume_above l f a (buffer.Recv g) h = flag_now (tape_setup l) (buffer.Recv g) h
resume_above l f a (buffer.Stage g i) h = flag_now (tape_setup l) (buffer.Stage g i) h
resume_above l f a (buffer.Send g) h = flag_now (tape_setup l) (buffer.Send g) h
resume_above l f a (buffer.Write c) h = flag_now (tape_setup l) (buffer.Write c) h

hold_alike : {l : LimitKeys} → (n : Note) → IsHold n → (h : WayHistory) → IsAlike l h (Noted n ∷ h)
hold_alike {l} (note.Pause f a) i h = record { above_as = λ b. pause_above l f a b h; stages_as = λ g. refl; conn_as = λ g. refl; live_as = refl }
hold_alike {l} (note.Resume f a) i h = record { above_as = λ b. resume_above l f a b h; stages_as = λ g. refl; conn_as = λ g. refl; live_as = refl }
hold_alike n i h = absurd i

pub holds_alike : {l : LimitKeys} → (ns : List Note) → AreHolds ns → (h : WayHistory) → IsAlike l h (after (noted ns) h)
holds_alike [] a h = record { above_as = λ b. refl; stages_as = λ f. refl; conn_as = λ f. refl; live_as = refl }
holds_alike (n ∷ ns) a h = alike_then h (Noted n ∷ h) (after (noted ns) (Noted n ∷ h)) (hold_alike n a.0 h) (holds_alike ns a.1 (Noted n ∷ h))

-- ---- counts
pause_one : (f : FlowId) (n : Note) (ns : List Note) → IsHold n → (h : WayHistory) → pauses f (Noted n ∷ h) + paused_in f ns ≡ pauses f h + paused_in f (n ∷ ns)
pause_one f (note.Pause g b) ns i h = omega arith
pause_one f (note.Resume g b) ns i h = refl
pause_one f n ns i h = absurd i

resume_one : (f : FlowId) (n : Note) (ns : List Note) → IsHold n → (h : WayHistory) → resumes f (Noted n ∷ h) + resumed_in f ns ≡ resumes f h + resumed_in f (n ∷ ns)
resume_one f (note.Pause g b) ns i h = refl
resume_one f (note.Resume g b) ns i h = omega arith
resume_one f n ns i h = absurd i

pub holds_paused : (f : FlowId) (ns : List Note) → AreHolds ns → (h : WayHistory) → pauses f (after (noted ns) h) ≡ pauses f h + paused_in f ns
holds_paused f [] a h = omega arith
holds_paused f (n ∷ ns) a h = holds_paused f ns a.1 (Noted n ∷ h) ∙ pause_one f n ns a.0 h

pub holds_resumed : (f : FlowId) (ns : List Note) → AreHolds ns → (h : WayHistory) → resumes f (after (noted ns) h) ≡ resumes f h + resumed_in f ns
holds_resumed f [] a h = omega arith
holds_resumed f (n ∷ ns) a h = holds_resumed f ns a.1 (Noted n ∷ h) ∙ resume_one f n ns a.0 h

-- no exchange begins by them
hold_ways : (config : Config) (n : Note) → IsHold n → (h : WayHistory) → AreWays config h → AreWays config (Noted n ∷ h)
hold_ways config (note.Pause f b) i h w = w
hold_ways config (note.Resume f b) i h w = w
hold_ways config n i h w = absurd i

pub holds_ways : (config : Config) (ns : List Note) → AreHolds ns → (h : WayHistory) → AreWays config h → AreWays config (after (noted ns) h)
holds_ways config [] a h w = w
holds_ways config (n ∷ ns) a h w = holds_ways config ns a.1 (Noted n ∷ h) (hold_ways config n a.0 h w)

pub holds_rows : (ns : List Note) → rows_in (noted ns) ≡ []
holds_rows [] = refl
holds_rows (n ∷ ns) = holds_rows ns

-- no dispatch begins
hold_turns : (l : LimitKeys) (n : Note) → IsHold n → (h : WayHistory) → Heeds l (Noted n) h
hold_turns l (note.Pause f b) i h = tt
hold_turns l (note.Resume f b) i h = tt
hold_turns l n i h = absurd i

pub holds_turns : (l : LimitKeys) (ns : List Note) → AreHolds ns → (h : WayHistory) → EachFollows (Heeds l) h → EachFollows (Heeds l) (after (noted ns) h)
holds_turns l [] a h e = e
holds_turns l (n ∷ ns) a h e = holds_turns l ns a.1 (Noted n ∷ h) (hold_turns l n a.0 h, e)

-- nothing leaves a write buffer
hold_gone : (n : Note) → IsHold n → (h : WayHistory) (c : ℕ) → gone world_setup c (Noted n ∷ h) ≡ gone world_setup c h
hold_gone (note.Pause f b) i h c = refl
hold_gone (note.Resume f b) i h c = refl
hold_gone n i h c = absurd i

pub holds_gone : (ns : List Note) → AreHolds ns → (h : WayHistory) (c : ℕ) → gone world_setup c (after (noted ns) h) ≡ gone world_setup c h
holds_gone [] a h c = refl
holds_gone (n ∷ ns) a h c = holds_gone ns a.1 (Noted n ∷ h) c ∙ hold_gone n a.0 h c

-- ---- several
pub all_append : (xs ys : List Note) → AreHolds xs → AreHolds ys → AreHolds (xs ++ ys)
all_append [] ys a b = b
all_append (x ∷ xs) ys a b = (a.0, all_append xs ys a.1 b)

paused_more : (f : FlowId) (n : Note) (ns ms : List Note) → IsHold n → paused_in f (ns ++ ms) ≡ paused_in f ns + paused_in f ms → paused_in f (n ∷ (ns ++ ms)) ≡ paused_in f (n ∷ ns) + paused_in f ms
paused_more f (note.Pause g b) ns ms i e = more _ _ _ _ e
  where
    more : (a n m k : ℕ) → n ≡ m + k → a + n ≡ (a + m) + k
    more a n m k e = omega (arith, e)
paused_more f (note.Resume g b) ns ms i e = e
paused_more f n ns ms i e = absurd i

pub paused_append : (f : FlowId) (ns ms : List Note) → AreHolds ns → paused_in f (ns ++ ms) ≡ paused_in f ns + paused_in f ms
paused_append f [] ms a = omega arith
paused_append f (n ∷ ns) ms a = paused_more f n ns ms a.0 (paused_append f ns ms a.1)

resumed_more : (f : FlowId) (n : Note) (ns ms : List Note) → IsHold n → resumed_in f (ns ++ ms) ≡ resumed_in f ns + resumed_in f ms → resumed_in f (n ∷ (ns ++ ms)) ≡ resumed_in f (n ∷ ns) + resumed_in f ms
resumed_more f (note.Pause g b) ns ms i e = e
resumed_more f (note.Resume g b) ns ms i e = more _ _ _ _ e
  where
    more : (a n m k : ℕ) → n ≡ m + k → a + n ≡ (a + m) + k
    more a n m k e = omega (arith, e)
resumed_more f n ns ms i e = absurd i

pub resumed_append : (f : FlowId) (ns ms : List Note) → AreHolds ns → resumed_in f (ns ++ ms) ≡ resumed_in f ns + resumed_in f ms
resumed_append f [] ms a = omega arith
resumed_append f (n ∷ ns) ms a = resumed_more f n ns ms a.0 (resumed_append f ns ms a.1)

-- the pauses of these flows
pub pauses_hold : (c : ℕ) (fs : List FlowId) → AreHolds (pauses_of c fs)
pauses_hold c [] = tt
pauses_hold c (f ∷ fs) = (tt, pauses_hold c fs)

pub pauses_resume_none : (f : FlowId) (c : ℕ) (fs : List FlowId) → resumed_in f (pauses_of c fs) ≡ 0
pauses_resume_none f c [] = refl
pauses_resume_none f c (g ∷ gs) = pauses_resume_none f c gs

pub pauses_times : (f : FlowId) (c : ℕ) (fs : List FlowId) → paused_in f (pauses_of c fs) ≡ times f fs
pauses_times f c [] = refl
pauses_times f c (g ∷ gs) = sums _ _ _ _ _ (ap one_if (flow_swapped g f)) (pauses_times f c gs) (count_cons (same_flow f) g gs)
  where
    sums : (a b n m k : ℕ) → a ≡ b → n ≡ m → k ≡ b + m → a + n ≡ k
    sums a b n m k e1 e2 e3 = omega (arith, e1, e2, e3)

-- ---- a core goes on to stand for its tape
hold_stands : {l : LimitKeys} → (n : Note) → IsHold n → (conns : PagedMap Conn) (flows : Flows) (links : Links) (h : WayHistory) → Stands l conns flows links h → Stands l conns flows links (Noted n ∷ h)
hold_stands (note.Pause f b) i conns flows links h s = wrote same_octets (Noted (note.Pause f b)) h conns conns flows links (pause_writes h f b) (pause_flows h f b) (pause_shut h f b) (conns_same conns) (λ c fit. fit) s
hold_stands (note.Resume f b) i conns flows links h s = wrote same_octets (Noted (note.Resume f b)) h conns conns flows links (resume_writes h f b) (resume_flows h f b) (resume_shut h f b) (conns_same conns) (λ c fit. fit) s
hold_stands n i conns flows links h s = absurd i

pub holds_stand : {l : LimitKeys} → (ns : List Note) → AreHolds ns → (conns : PagedMap Conn) (flows : Flows) (links : Links) (h : WayHistory) → Stands l conns flows links h → Stands l conns flows links (after (noted ns) h)
holds_stand [] a conns flows links h s = s
holds_stand (n ∷ ns) a conns flows links h s = holds_stand ns a.1 conns flows links (Noted n ∷ h) (hold_stands n a.0 conns flows links h s)
