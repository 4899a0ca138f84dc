-- Permits, connections and counts of faults, from one call to the next.
use Rattle.io_ports.specs.Faults.{Rose}
use Rattle.shared_state.specs.PermitSeats.{view}
use Rattle.shared_state.specs.declared.permit_rule.PermitView.{PermitView}
use Rattle.shared_state.specs.declared.permits.PermitSeat.{PermitSeat}
use Rattle.shared_state.specs.declared.permits.Permits.{Permits}
use Rattle.std.proofs.Common.{ap, arith, inl, inr, refl, subst, sym, ◌∙◌, ◌⊎◌}
use Rattle.std.proofs.lemmas.Bool.{false≢true}
use Rattle.std.specs.List.{list_any}
use Rattle.number_set.specs.NumberSet.{has}
use Rattle.std.specs.Prelude.{Bool, Err, List, Ok, Result, false, if◌then◌else◌, length, true, ℕ, ◌+◌, ◌<◌, ◌≡◌, ◌≤◌}
use Rattle.worker_loop.specs.Keeping.{AreUpTo, Holds, Keeps, Permitted, Rises}
use Rattle.worker_loop.specs.declared.turns.Ended.{Ended as End}
use Rattle.worker_loop.specs.declared.turns.Ended.TheVariants as ended
use Rattle.worker_ports.specs.Told.{with_last}
use Rattle.worker_ports.specs.Wires.{Gives, Seen, closed, greatest_after, is_live, offered, without}
use Rattle.worker_ports.specs.declared.wires.WireStep.TheVariants as step
use Rattle.worker_ports.specs.declared.wires.Wired.{Wired}
use Rattle.worker_ports.specs.declared.wires.Wired.TheVariants as wired

-- ---- permits
pub none_left : (held : List ℕ) (v : PermitView) → Permitted held v held v
none_left held v = record { kept = refl; refused = omega arith }

pub more_left : (h0 h1 h2 : List ℕ) (v0 v1 v2 : PermitView) → Permitted h0 v0 h1 v1 → Permitted h1 v1 h2 v2 → Permitted h0 v0 h2 v2
more_left h0 h1 h2 v0 v1 v2 a b = record { kept = omega (arith, a.kept, b.kept); refused = omega (arith, a.refused, b.refused) }

pub up_to : (n m : ℕ) (held held' : List ℕ) → n ≤ m → ((c : ℕ) → has held' c ≡ true → has held c ≡ true) → AreUpTo n held → AreUpTo m held'
up_to n m held held' less fewer each c there = let k : c ≤ n = each c (fewer c there) in omega (arith, k, less)

pub up_to_one : (n c : ℕ) (held held' : List ℕ) → c ≤ n → ((d : ℕ) → has held' d ≡ true → (d ≡ c) ⊎ (has held d ≡ true)) → AreUpTo n held → AreUpTo n held'
up_to_one n c held held' less more each d there = elim (more d there) [ inl e ↦ omega (arith, e, less) | inr was ↦ each d was ]

-- a connection above all has none
none_above : (b : Bool) → (b ≡ true → ⊥) → b ≡ false
none_above true isnt = absurd (isnt refl)
none_above false isnt = refl

pub none_yet : (n c : ℕ) (held : List ℕ) → AreUpTo n held → n < c → has held c ≡ false
none_yet n c held each less = none_above (has held c) (λ there. let k : c ≤ n = each c there in absurd (omega (arith, k, less)))

-- ---- all that is kept
pub keeps_same : (permits : Permits) (seen seen' : Seen) (held : List ℕ) (seat : PermitSeat) → Holds permits seat held → seen' ≡ seen → Keeps permits seen held (view seat) seen' held seat
keeps_same permits seen seen' held seat holds e = record {
  holds = holds;
  permitted = none_left held (view seat);
  clusters = ap (λ (s : Seen). s.clusters) e;
  below = λ up. subst (λ (s : Seen). AreUpTo s.greatest held) (sym e) up;
}

pub keeps_more : (permits : Permits) (s0 s1 s2 : Seen) (h0 h1 h2 : List ℕ) (v0 : PermitView) (t1 t2 : PermitSeat) → Keeps permits s0 h0 v0 s1 h1 t1 → Keeps permits s1 h1 (view t1) s2 h2 t2 → Keeps permits s0 h0 v0 s2 h2 t2
keeps_more permits s0 s1 s2 h0 h1 h2 v0 t1 t2 a b = record {
  holds = b.holds;
  permitted = more_left h0 h1 h2 v0 (view t1) (view t2) a.permitted b.permitted;
  clusters = b.clusters ∙ a.clusters;
  below = λ up. b.below (a.below up);
}

-- something was given
given_clusters : (old : Seen) (w : Wired) (new : Seen) → Gives old w new → new.clusters ≡ old.clusters
given_clusters old w new g = ap (λ (s : Seen). s.clusters) g.is

grows_by : (old : Seen) (w : Wired) (new : Seen) → Gives old w new → old.greatest ≤ greatest_after w old.greatest
grows_by old (wired.Accept c) new g = omega (arith, g.may)
grows_by old (wired.Join c k) new g = omega (arith, g.may.0)
grows_by old (wired.Read c octets) new g = omega arith
grows_by old (wired.Lost c) new g = omega arith
grows_by old wired.Idle new g = omega arith
grows_by old wired.Stop new g = omega arith

given_grows : (old : Seen) (w : Wired) (new : Seen) → Gives old w new → old.greatest ≤ new.greatest
given_grows old w new g =
    let grows = grows_by old w new g in
    let is : new.greatest ≡ greatest_after w old.greatest = ap (λ (s : Seen). s.greatest) g.is in
    omega (arith, grows, is)

pub keeps_given : (permits : Permits) (old new : Seen) (w : Wired) (held : List ℕ) (seat : PermitSeat) → Holds permits seat held → Gives old w new → Keeps permits old held (view seat) new held seat
keeps_given permits old new w held seat holds g = record {
  holds = holds;
  permitted = none_left held (view seat);
  clusters = given_clusters old w new g;
  below = λ up. up_to old.greatest new.greatest held held (given_grows old w new g) (λ c there. there) up;
}

-- a connection was closed
abbrev closed_if : Bool → ℕ → Seen → Seen
closed_if b c s = if b then record s { live = without c s.live; held = without c s.held; steps = with_last (step.Closed c) s.steps } else s

clusters_if : (b : Bool) (c : ℕ) (s : Seen) → (closed_if b c s).clusters ≡ s.clusters
clusters_if true c s = refl
clusters_if false c s = refl

greatest_if : (b : Bool) (c : ℕ) (s : Seen) → (closed_if b c s).greatest ≡ s.greatest
greatest_if true c s = refl
greatest_if false c s = refl

closed_clusters : (c : ℕ) (s : Seen) → (closed c s).clusters ≡ s.clusters
closed_clusters c s = clusters_if (is_live c s) c s

closed_greatest : (c : ℕ) (s : Seen) → (closed c s).greatest ≡ s.greatest
closed_greatest c s = greatest_if (is_live c s) c s

-- and its permit was left, or not
pub keeps_closed : (permits : Permits) (c : ℕ) (seen seen' : Seen) (held held' : List ℕ) (v : PermitView) (seat : PermitSeat) → Holds permits seat held' → Permitted held v held' (view seat) → seen' ≡ closed c seen
    → ((d : ℕ) → has held' d ≡ true → has held d ≡ true) → Keeps permits seen held v seen' held' seat
keeps_closed permits c seen seen' held held' v seat holds permitted e fewer = record {
  holds = holds;
  permitted = permitted;
  clusters = ap (λ (s : Seen). s.clusters) e ∙ closed_clusters c seen;
  below = λ up.
      let is : seen'.greatest ≡ seen.greatest = ap (λ (s : Seen). s.greatest) e ∙ closed_greatest c seen in
      up_to seen.greatest seen'.greatest held held' (omega (arith, is)) fewer up;
}

-- a permit was left
pub keeps_left : (permits : Permits) (seen : Seen) (held held' : List ℕ) (v : PermitView) (seat : PermitSeat) → Holds permits seat held' → Permitted held v held' (view seat)
    → ((d : ℕ) → has held' d ≡ true → has held d ≡ true) → Keeps permits seen held v seen held' seat
keeps_left permits seen held held' v seat holds permitted fewer = record {
  holds = holds;
  permitted = permitted;
  clusters = refl;
  below = λ up. up_to seen.greatest seen.greatest held held' (omega arith) fewer up;
}

-- a permit was asked for, for a connection that came
pub keeps_asked : (permits : Permits) (c : ℕ) (seen : Seen) (held held' : List ℕ) (v : PermitView) (seat : PermitSeat) → Holds permits seat held' → Permitted held v held' (view seat) → c ≤ seen.greatest
    → ((d : ℕ) → has held' d ≡ true → (d ≡ c) ⊎ (has held d ≡ true)) → Keeps permits seen held v seen held' seat
keeps_asked permits c seen held held' v seat holds permitted less more = record {
  holds = holds;
  permitted = permitted;
  clusters = refl;
  below = λ up. up_to_one seen.greatest c held held' less more up;
}

-- a piece was offered
pub keeps_offered : (permits : Permits) (c n : ℕ) (piece : List ℕ) (seen seen' : Seen) (held : List ℕ) (seat : PermitSeat) → Holds permits seat held → seen' ≡ offered c piece n seen → Keeps permits seen held (view seat) seen' held seat
keeps_offered permits c n piece seen seen' held seat holds e = record {
  holds = holds;
  permitted = none_left held (view seat);
  clusters = ap (λ (s : Seen). s.clusters) e;
  below = λ up. let is : seen'.greatest ≡ seen.greatest = ap (λ (s : Seen). s.greatest) e in up_to seen.greatest seen'.greatest held held (omega (arith, is)) (λ d there. there) up;
}

-- ---- counts of faults
pub rose_later : (a b d : ℕ) → a ≤ b → Rose b d → Rose a d
rose_later a b d less (inl rose) = inl (omega (arith, less, rose))
rose_later a b d less (inr end) = inr end

same_end : {T : Type 0} (x y : End) → ◌≡◌ {A = Result T End} (Err x) (Err y) → x ≡ y
same_end x y e = cc

err_again : {T U : Type 0} (x y : End) → ◌≡◌ {A = Result T End} (Err x) (Err y) → ◌≡◌ {A = Result U End} (Err x) (Err y)
err_again {T} {U} x y e = ap (λ (z : End). Err z) (same_end {T = T} x y e)

pub rises_ok : {T : Type 0} (x : T) (w w' j j' : ℕ) → w ≤ w' → j ≤ j' → Rises {T = T} (Ok x) w w' j j'
rises_ok x w w' j j' wires journal = record { at_wires = wires; at_journal = journal; wires_fault = λ e. cc; journal_fault = λ e. cc }

pub rises_more : {T : Type 0} (r : Result T End) (w w1 w' j j1 j' : ℕ) → w ≤ w1 → j ≤ j1 → Rises {T = T} r w1 w' j1 j' → Rises {T = T} r w w' j j'
rises_more r w w1 w' j j1 j' wires journal k = record {
  at_wires = omega (arith, wires, k.at_wires);
  at_journal = omega (arith, journal, k.at_journal);
  wires_fault = λ e. rose_later w w1 w' wires (k.wires_fault e);
  journal_fault = λ e. rose_later j j1 j' journal (k.journal_fault e);
}

pub rises_err : {T U : Type 0} (end : End) (w w' j j' : ℕ) → Rises {T = T} (Err end) w w' j j' → Rises {T = U} (Err end) w w' j j'
rises_err {T} {U} end w w' j j' k = record {
  at_wires = k.at_wires;
  at_journal = k.at_journal;
  wires_fault = λ e. k.wires_fault (err_again {T = U} {U = T} end ended.WiresFault e);
  journal_fault = λ e. k.journal_fault (err_again {T = U} {U = T} end ended.JournalFault e);
}

pub rises_memory : {T : Type 0} (w w' j j' : ℕ) → w ≤ w' → j ≤ j' → Rises {T = T} (Err ended.Memory) w w' j j'
rises_memory w w' j j' wires journal = record { at_wires = wires; at_journal = journal; wires_fault = λ e. cc; journal_fault = λ e. cc }

pub rises_wires : {T : Type 0} (w w' j j' : ℕ) → w ≤ w' → j ≤ j' → Rose w w' → Rises {T = T} (Err ended.WiresFault) w w' j j'
rises_wires w w' j j' wires journal rose = record { at_wires = wires; at_journal = journal; wires_fault = λ e. rose; journal_fault = λ e. cc }

-- an event that broke off isn't a fault of the connections
pub rises_event : {T : Type 0} (end : End) (w w' j j' : ℕ) → (end ≡ ended.WiresFault → ⊥) → w ≤ w' → j ≤ j' → (◌≡◌ {A = Result T End} (Err end) (Err ended.JournalFault) → Rose j j') → Rises {T = T} (Err end) w w' j j'
rises_event {T} end w w' j j' other wires journal rose = record { at_wires = wires; at_journal = journal; wires_fault = λ e. absurd (other (same_end {T = T} end ended.WiresFault e)); journal_fault = rose }

pub rises_same : {T : Type 0} (end : End) (w j : ℕ) → end ≡ ended.Memory → Rises {T = T} (Err end) w w j j
rises_same {T} end w j e = subst (λ (x : End). Rises {T = T} (Err x) w w j j) (sym e) (rises_memory {T = T} w w j j (omega arith) (omega arith))
