-- What the counts are where a connection comes and where it is forgotten.
use Rattle.exchange_core.specs.Exchanges.{flow_at, target_of}
use Rattle.flow_gate.specs.Board.{pending_on, watched_by}
use Rattle.flow_rules.specs.declared.ids.BufferId.{BufferId}
use Rattle.flow_rules.specs.declared.ids.BufferId.TheVariants as buffer
use Rattle.flow_rules.specs.declared.ids.FlowId.{FlowId}
use Rattle.flow_laws.proofs.Flags.{flag_now}
use Rattle.paged_map.specs.PagedMap.{PagedMap, Updates, value_at}
use Rattle.proxy_config.specs.declared.config.LimitKeys.{LimitKeys}
use Rattle.std.proofs.Common.{ap, arith, inl, inr, refl, subst, sym, ◌∙◌}
use Rattle.std.proofs.lemmas.Bool.Decides.{nat_tests}
use Rattle.std.specs.Option.{option_map_or}
use Rattle.std.specs.Prelude.{Bool, IsSome, None, Option, Some, [], false, if◌then◌else◌, is_some, length, true, ℕ, ◌==◌, ◌≡◌, ◌⊎◌}
use Rattle.tape_laws.specs.Watermark.{above}
use Rattle.tape_laws.specs.World.{out}
use Rattle.wire_flows.proofs.Cases.{by_case}
use Rattle.wire_flows.specs.Flows.{Flows, watches_of}
use Rattle.wire_flows.specs.Sound.{IsSound}
use Rattle.wire_flows.specs.Writes.{ChangesWrite, KeepsLows, Write, new_write, write_at}
use Rattle.wire_links.specs.Links.{Links}
use Rattle.wire_state.proofs.CountsKept.{AboveStays, counts_conns, counts_gates, exchanges_keep}
use Rattle.wire_state.proofs.Held.{is_number}
use Rattle.wire_state.proofs.Linked.{ForgetsConn, updated_at}
use Rattle.wire_state.proofs.Promised.{same_out}
use Rattle.wire_state.proofs.Watching.{lows_same}
use Rattle.wire_state.specs.Counts.{Counts, MayLag, holds_back, is_above_at}
use Rattle.wire_state.specs.Tapes.{tape_setup}
use Rattle.wire_state.specs.Ways.{WayHistory}
use Rattle.wire_state.specs.Worlds.{Stands, has_conn}
use Rattle.wire_state.specs.declared.conn.Conn.{Conn}
use Rattle.wm_buffer.specs.Watermark.{above_after}

abbrev above_in : Option Conn → Bool
above_in o = option_map_or (λ conn. conn.outlet.write.above) o false

abbrev held : Option Write → Bool
held o = option_map_or (λ k. k.above) o false

-- one that isn't there isn't above
none_above : (n : ℕ) (conns : PagedMap Conn) → has_conn n conns ≡ false → is_above_at n conns ≡ false
none_above n conns e = at (value_at n conns) e
  where
    at : (o : Option Conn) → is_some o ≡ false → above_in o ≡ false
    at None e = refl
    at (Some v) e = cc

-- ---- the gates where exchanges stay
module _ (old new : Flows) (rest : new.exchanges ≡ old.exchanges) (was : IsSound old) (sound : IsSound new) (lows : KeepsLows old new) where
  watched : (f : FlowId) → watched_by new.gates f ≡ watched_by old.gates f
  watched f = sound.watched f ∙ ((λ i. option_map_or (watches_of (target_of (rest i) f)) (flow_at (rest i) f) []) ∙ sym (was.watched f))

  pub gates_counts : {l : LimitKeys} {t u : Option ℕ} → (conns : PagedMap Conn) (h : WayHistory) → ((c : ℕ) → holds_back c new ≡ is_above_at c conns) → ((c : ℕ) → has_conn c conns ≡ true → IsSome (write_at c new))
      → Counts l t u conns old h → Counts l t u conns new h
  gates_counts {t = t} {u = u} conns h marks known c = counts_gates {t = t} {u = u} {t' = t} {u' = u} conns old new h (exchanges_keep old new rest) sound (record {
    low = λ f there. lows_same f old.gates new.gates (watched f) lows.lows;
    marks = marks;
    known = known;
    told = λ b. at b (c.told b);
  }) c
    where
      at : (b : BufferId) → (pending_on old.gates b ≡ []) ⊎ MayLag t u b → (pending_on new.gates b ≡ []) ⊎ MayLag t u b
      at b (inl e) = inl (lows.lows b ∙ e)
      at b (inr may) = inr may

-- ---- a connection comes
pub put_there : (n : ℕ) (old new : PagedMap Conn) (v : Conn) → Updates n old new (Some v) → value_at n new ≡ Some v
put_there n old new v u =
    let self : (n == n) ≡ true = grind (arith, nat_tests) in
    updated_at n old new (Some v) u n ∙ ap (λ b. if b then Some v else value_at n old) self

-- first its write buffer is known, then it is there
module _ {l : LimitKeys} {t u : Option ℕ} (n : ℕ) (old new : PagedMap Conn) (v : Conn) (none : has_conn n old ≡ false) (here : value_at n new ≡ Some v) (others : (c : ℕ) → (n == c) ≡ false → value_at c new ≡ value_at c old) (low : v.outlet.write.above ≡ false)
    (flows flows' : Flows) (rest : flows'.exchanges ≡ flows.exchanges) (sound : IsSound flows') (opened : write_at n flows ≡ None → ChangesWrite n (Some new_write) flows flows') (same : (write_at n flows ≡ None → ⊥) → flows' ≡ flows) (lows : KeepsLows flows flows')
    (h : WayHistory) (c : Counts l t u old flows h) where
  -- it isn't above, and known
  record IsOpen : Type 0 where
    known : IsSome (write_at n flows')
    unheld : holds_back n flows' ≡ false
    kept : (d : ℕ) → (n == d) ≡ false → write_at d flows' ≡ write_at d flows

  self : (n == n) ≡ true
  self = grind (arith, nat_tests)

  open_is : IsOpen
  open_is = at (write_at n flows) refl
    where
      at : (o : Option Write) → write_at n flows ≡ o → IsOpen
      at None e =
          let changes = opened e in
          let now = changes.writes n ∙ ap (λ b. if b then Some new_write else write_at n flows) self in
          record { known = subst IsSome (sym now) refl; unheld = ap held now; kept = λ d other. changes.writes d ∙ ap (λ b. if b then Some new_write else write_at d flows) other }
      at (Some w) e =
          let is = same (λ e'. cc (e, e')) in
          record { known = subst (λ (k : Flows). IsSome (write_at n k)) (sym is) (subst IsSome (sym e) refl); unheld = ap (holds_back n) is ∙ (c.marks n ∙ none_above n old none); kept = λ d other. ap (write_at d) is }

  stays : AboveStays old old
  stays = record { above_stays = λ d. refl; came = λ d e. e }

  flows_first : Counts l t u old flows' h
  flows_first = gates_counts flows flows' rest c.sound sound lows old h
      (λ d. by_case (n == d)
      (λ e. ap (λ q. holds_back q flows') (sym (is_number n d e)) ∙ (open_is.unheld ∙ (sym (none_above n old none) ∙ ap (λ q. is_above_at q old) (is_number n d e))))
      (λ e. ap held (open_is.kept d e) ∙ c.marks d))
      (λ d there. by_case (n == d)
      (λ e. subst (λ (q : ℕ). IsSome (write_at q flows')) (is_number n d e) open_is.known)
      (λ e. subst IsSome (sym (open_is.kept d e)) (c.known d there))) c

  above_now : (d : ℕ) → is_above_at d new ≡ is_above_at d old
  above_now d = by_case (n == d)
      (λ e. ap (λ q. is_above_at q new) (sym (is_number n d e)) ∙ (ap above_in here ∙ (low ∙ (sym (none_above n old none) ∙ ap (λ q. is_above_at q old) (is_number n d e)))))
      (λ e. ap above_in (others d e))

  pub comes_counts : Counts l t u new flows' h
  comes_counts = record {
    sound = flows_first.sound;
    each = flows_first.each;
    unpaused = flows_first.unpaused;
    living = flows_first.living;
    over = λ d. above_now d ∙ flows_first.over d;
    marks = λ d. flows_first.marks d ∙ sym (above_now d);
    known = λ d there. by_case (n == d)
        (λ e. subst (λ (q : ℕ). IsSome (write_at q flows')) (is_number n d e) open_is.known)
        (λ e. flows_first.known d (sym (ap is_some (others d e)) ∙ there));
    told = flows_first.told;
    turns = flows_first.turns;
  }

-- ---- a connection is forgotten, of which no octets wait
none_over : (l : ℕ) (a : Bool) → above_after l a 0 ≡ a → a ≡ false
none_over l true e = absurd (grind (arith, nat_tests))
none_over l false e = refl

module _ {l : LimitKeys} {t u : Option ℕ} (n : ℕ) (old new : PagedMap Conn) (f : ForgetsConn n old new) (flows flows' : Flows) (links : Links) (rest : flows'.exchanges ≡ flows.exchanges) (sound : IsSound flows') (lows : KeepsLows flows flows')
    (r : Bool) (closed : r ≡ true → ChangesWrite n None flows flows') (same : r ≡ false → flows' ≡ flows) (h : WayHistory) (s : Stands l old flows links h) (c : Counts l t u old flows h) where
  low : is_above_at n old ≡ false
  low =
      let empty : out (tape_setup l) n h ≡ [] = same_out l n h ∙ (sym (s.writes n) ∙ f.empty) in
      c.over n ∙ none_over l.write_buffer (above (tape_setup l) (buffer.Write n) h) ((λ i. above_after l.write_buffer (above (tape_setup l) (buffer.Write n) h) (length (sym empty i))) ∙ flag_now (tape_setup l) (buffer.Write n) h)

  above_left : (d : ℕ) → is_above_at d new ≡ is_above_at d old
  above_left d = by_case (n == d)
      (λ e. ap (λ q. is_above_at q new) (sym (is_number n d e)) ∙ (ap above_in f.gone ∙ (sym low ∙ ap (λ q. is_above_at q old) (is_number n d e))))
      (λ e. ap above_in (f.others d e))

  conns_first : Counts l t u new flows h
  conns_first = counts_conns old new flows h (record {
    above_stays = above_left;
    came = λ d there. by_case (n == d)
        (λ e. absurd (cc (ap (λ q. has_conn q new) (sym (is_number n d e)) ∙ ap is_some f.gone, there)))
        (λ e. sym (ap is_some (f.others d e)) ∙ there);
  }) c

  pub forgets_counts : Counts l t u new flows' h
  forgets_counts = at r refl
    where
      at : (b : Bool) → r ≡ b → Counts l t u new flows' h
      at false e = subst (λ (k : Flows). Counts l t u new k h) (sym (same e)) conns_first
      at true e =
          let changes = closed e in
          gates_counts flows flows' rest c.sound sound lows new h
          (λ d. by_case (n == d)
          (λ is. ap held (changes.writes d ∙ ap (λ b. if b then None else write_at d flows) is) ∙ (sym (ap above_in f.gone) ∙ ap (λ q. is_above_at q new) (is_number n d is)))
          (λ other. ap held (changes.writes d ∙ ap (λ b. if b then None else write_at d flows) other) ∙ conns_first.marks d))
          (λ d there. by_case (n == d)
          (λ is. absurd (cc (ap (λ q. has_conn q new) (sym (is_number n d is)) ∙ ap is_some f.gone, there)))
          (λ other. subst IsSome (sym (changes.writes d ∙ ap (λ b. if b then None else write_at d flows) other)) (conns_first.known d there))) conns_first
