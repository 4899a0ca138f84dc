-- A turn note, at rest: the event asks for what has to follow.
use Rattle.plain_laws.proofs.Leaving.{flow_kept}
use Rattle.flow_notes.specs.declared.events.PlainEvent.{PlainEvent}
use Rattle.plain_laws.proofs.Extending.{MayAdd, free_meets, nothing_owed, regular_more}
use Rattle.plain_laws.proofs.Leaving.{Leaves, LeavesWords, lows_kept, once_kept, only_other, only_own, room_kept, send_low_kept, unborn_kept}
use Rattle.plain_laws.proofs.Streams.{apart_from, by_case, not_both, number_is, same_number}
use Rattle.plain_laws.proofs.Unended.{rests_unframed}
use Rattle.plain_laws.specs.Owing.{Owing, arriving, asking, nothing, overrun, starts}
use Rattle.plain_laws.specs.Regular.{Books, FlowBooks, IsLiveFlow, IsUnborn, Regular, Rests}
use Rattle.std.proofs.lemmas.Bool.{lt-ltb}
use Rattle.std.proofs.Common.{ap, arith, refl, subst, sym, ◌∙◌}
use Rattle.std.proofs.lemmas.Bool.Decides.{nat_tests}
use Rattle.std.proofs.lemmas.List.{append-nil}
use Rattle.std.specs.List.{AllByRecursion}
use Rattle.std.specs.Prelude.{Bool, List, [], false, if◌then◌else◌, length, min, nat_lt, true, ℕ, ◌++◌, ◌+◌, ◌<◌, ◌==◌, ◌||◌, ◌∷◌, ◌≡◌, ◌≤◌}
use Rattle.plain_laws.specs.Words.{Past, Alive, conn_lows, conn_out, end_out, recv_at, turn_of}
use Rattle.tape_laws.specs.Dispatches.{events_back, has, live, started, turns}
use Rattle.tape_laws.specs.Flows.{request}
use Rattle.tape_laws.specs.Following.{begun}
use Rattle.tape_laws.specs.History.{NoMark, Step}
use Rattle.tape_laws.specs.Plain.{plain_body, plain_setup}
use Rattle.tape_laws.specs.PlainSession.{ask_if, plain_demand}
use Rattle.tape_laws.specs.Units.{Demand, WantsArrive, WantsDoom, WantsOut, WantsStart}
use Rattle.tape_laws.specs.World.{received, recv}
use Rattle.tape_laws.specs.declared.PlainLimits.{PlainLimits}
use Rattle.flow_notes.specs.declared.events.Event.TheVariants as event
use Rattle.flow_notes.specs.declared.events.PlainEvent.TheVariants as plain
use Rattle.flow_rules.specs.declared.causes.Cause.TheVariants as cause
use Rattle.flow_notes.specs.declared.notes.Note.TheVariants as note

module _ (limits : PlainLimits) where
  pub turn_leaves : (x k : ℕ) (e : PlainEvent) (h : Past) → plain_body x (turn_of k e ∷ h) ≡ plain_body x h
      → Leaves limits x (turn_of k e) h
  turn_leaves x k e h eb = record {
    recv = refl;
    send = refl;
    send_lows = refl;
    paused = refl;
    resumed = refl;
    body = eb;
    received = refl;
    framed = refl;
  }

  same_out : (k : ℕ) (e : PlainEvent) (h : Past) → conn_out limits (turn_of k e ∷ h) ≡ conn_out limits h
  same_out k e h = refl

  same_lows : (k : ℕ) (e : PlainEvent) (h : Past) → conn_lows limits (turn_of k e ∷ h) ≡ conn_lows limits h
  same_lows k e h = refl

  -- a stream of which the event brings no octets
  turn_flow : (o : Owing) (x k : ℕ) (e : PlainEvent) (h : Past) → Rests limits h → Alive h x
      → plain_body x (turn_of k e ∷ h) ≡ plain_body x h → o.due ≡ [] → o.extra x ≡ [] → FlowBooks limits o x (turn_of k e ∷ h)
  turn_flow o x k e h r is eb ed ex =
      flow_kept limits nothing o x (turn_of k e) h (turn_leaves x k e h eb) (r.regular.books.each x is) ex (rests_unframed limits x h r.quiet is)

  -- a turn may stand at rest
  turn_may : (k : ℕ) (e : PlainEvent) (h : Past) → Rests limits h → k ≡ turns h + 1 → MayAdd limits (note.Turn k (event.Plain e)) h
  turn_may k e h r ek =
      let s = r.regular.books in
      record {
        allowed = ek;
        paused = s.due;
        ends = tt;
        in_turn = tt;
        doomed = r.quiet.gone;
        swept = tt;
        answered = free_meets limits _ (note.Turn k (event.Plain e)) s.asks tt;
        only = tt;
        quiet = r.quiet;
        licensed = tt;
      }

  -- what is left of all streams, where each live one's books are those of the event
  turn_books : (o : Owing) (k : ℕ) (e : PlainEvent) (h : Past) → Rests limits h → plain_demand (plain_setup limits) e h ≡ o.asks → o.due ≡ []
      → ((x : ℕ) → has (begun (event.Plain e ∷ events_back h)) x ≡ (starts o.asks x || has (started h) x))
      → ((x : ℕ) → Alive h x → FlowBooks limits o x (turn_of k e ∷ h))
      → ((x : ℕ) → has (started h) x ≡ false → IsUnborn limits x (turn_of k e ∷ h))
      → Books limits o (turn_of k e ∷ h)
  turn_books o k e h r d ed said each unborn =
      let s = r.regular.books in
      let lows_same = same_lows k e h in
      record {
        due = sym ed;
        asks = ap (λ (ds : List Demand). plain_demand (plain_setup limits) e h ++ ds) (nothing_owed _ s.asks) ∙ append-nil _ ∙ d;
        opened = s.opened;
        known = s.known;
        unclosed = s.unclosed;
        write_room = room_kept limits (same_out k e h) s.write_room;
        rising = s.rising;
        born = s.born;
        said = said;
        each = each;
        unborn = unborn;
        owed = subst (AllByRecursion (λ o. IsLiveFlow (live h) o.flow)) (sym ed) tt;
        write_lows = lows_kept (live h) lows_same s.write_lows;
        write_once = once_kept lows_same s.write_once;
        hushed = λ x is. s.hushed x is;
      }

  turn_regular : (o : Owing) (k : ℕ) (e : PlainEvent) (h : Past) → Rests limits h → k ≡ turns h + 1 → plain_demand (plain_setup limits) e h ≡ o.asks → o.due ≡ []
      → ((x : ℕ) → has (begun (event.Plain e ∷ events_back h)) x ≡ (starts o.asks x || has (started h) x))
      → ((x : ℕ) → Alive h x → FlowBooks limits o x (turn_of k e ∷ h))
      → ((x : ℕ) → has (started h) x ≡ false → IsUnborn limits x (turn_of k e ∷ h))
      → Regular limits o (turn_of k e ∷ h)
  turn_regular o k e h r ek d ed said each unborn =
      regular_more limits nothing o (note.Turn k (event.Plain e)) h r.regular (turn_may k e h r ek) (turn_books o k e h r d ed said each unborn)

  -- an event that says nothing of a stream leaves it unborn
  turn_unborn : (x k : ℕ) (e : PlainEvent) (h : Past) → Rests limits h → has (started h) x ≡ false
      → plain_body x (turn_of k e ∷ h) ≡ plain_body x h → LeavesWords x (turn_of k e) h → IsUnborn limits x (turn_of k e ∷ h)
  turn_unborn x k e h r is eb w = unborn_kept limits x (turn_of k e) h (turn_leaves x k e h eb) w (r.regular.books.unborn x is)

  -- an event without a body
  turn_bare : (ds : List Demand) (k : ℕ) (e : PlainEvent) (h : Past) → Rests limits h → k ≡ turns h + 1 → plain_demand (plain_setup limits) e h ≡ ds
      → ((x : ℕ) → has (begun (event.Plain e ∷ events_back h)) x ≡ (starts ds x || has (started h) x))
      → ((x : ℕ) → plain_body x (turn_of k e ∷ h) ≡ plain_body x h)
      → ((x : ℕ) → has (started h) x ≡ false → LeavesWords x (turn_of k e) h) → Regular limits (asking ds) (turn_of k e ∷ h)
  turn_bare ds k e h r ek ed said eb w =
      turn_regular (asking ds) k e h r ek ed refl said (λ x is. turn_flow (asking ds) x k e h r is (eb x) refl refl) (λ x is. turn_unborn x k e h r is (eb x) (w x is))

  pub turn_begin : (k s : ℕ) (h : Past) → Rests limits h → k ≡ turns h + 1
      → Regular limits (asking (WantsStart s 0 s 0 ∷ [])) (turn_of k (plain.Begin s) ∷ h)
  turn_begin k s h r e =
      turn_bare (WantsStart s 0 s 0 ∷ []) k (plain.Begin s) h r e refl (λ x. cc (r.regular.books.said x)) (λ x. refl) (λ x is. record { ended = refl; pairs = refl; must = refl })

  -- the stream that the pair may end was started
  pub turn_pair : (k s t : ℕ) (h : Past) → Rests limits h → k ≡ turns h + 1 → has (started h) t ≡ true
      → Regular limits nothing (turn_of k (plain.Pair s t) ∷ h)
  turn_pair k s t h r e is =
      turn_bare [] k (plain.Pair s t) h r e refl r.regular.books.said (λ x. refl)
      (λ x new. record { ended = refl; pairs = cc (apart_from (started h) t x is new); must = refl })

module _ (limits : PlainLimits) (k s : ℕ) (h : Past) where
  pub turn_finish : Rests limits h → k ≡ turns h + 1 → has (started h) s ≡ true
      → Regular limits nothing (turn_of k (plain.Finish s) ∷ h)
  turn_finish r e is =
      turn_bare limits [] k (plain.Finish s) h r e refl r.regular.books.said (λ x. refl)
      (λ x new. record { ended = cc (apart_from (started h) s x is new); pairs = refl; must = refl })

  -- a live stream is reset
  pub turn_cut : Rests limits h → k ≡ turns h + 1 → Alive h s
      → Regular limits (asking (WantsDoom s (cause.PeerReset 8) ∷ [])) (turn_of k (plain.Cut s) ∷ h)
  turn_cut r e is =
      turn_bare limits (WantsDoom s (cause.PeerReset 8) ∷ []) k (plain.Cut s) h r e (cc) r.regular.books.said (λ x. refl) (λ x new. record { ended = refl; pairs = refl; must = refl })

  -- a stream that isn't live is
  pub turn_cut_late : Rests limits h → k ≡ turns h + 1 → has (live h) s ≡ false
      → Regular limits nothing (turn_of k (plain.Cut s) ∷ h)
  turn_cut_late r e is =
      turn_bare limits [] k (plain.Cut s) h r e (cc) r.regular.books.said (λ x. refl) (λ x new. record { ended = refl; pairs = refl; must = refl })

-- octets leave
pub turn_room : (limits : PlainLimits) (k n m : ℕ) (h : Past) → Rests limits h → k ≡ turns h + 1 → m ≡ min n (length (conn_out limits h)) → 0 < m
    → Regular limits (asking (WantsOut 0 m ∷ [])) (turn_of k (plain.Room n) ∷ h)
turn_room limits k n m h r e is some =
    turn_bare limits (WantsOut 0 m ∷ []) k (plain.Room n) h r e (asks m (min n (length (conn_out limits h))) is some) r.regular.books.said (λ x. refl) (λ x new. record { ended = refl; pairs = refl; must = refl })
  where
    asks : (m l : ℕ) → m ≡ l → 0 < m → (if nat_lt 0 l then WantsOut 0 l ∷ [] else []) ≡ WantsOut 0 m ∷ []
    asks m l e some = rw (← e) (cc (lt-ltb 0 m some))

-- there is nothing that might leave
pub turn_room_none : (limits : PlainLimits) (k n : ℕ) (h : Past) → Rests limits h → k ≡ turns h + 1 → min n (length (conn_out limits h)) ≡ 0
    → Regular limits nothing (turn_of k (plain.Room n) ∷ h)
turn_room_none limits k n h r e none =
    turn_bare limits [] k (plain.Room n) h r e (cc) r.regular.books.said (λ x. refl) (λ x new. record { ended = refl; pairs = refl; must = refl })

-- what is asked for where octets of a live stream come
body_asks : (limits : PlainLimits) (s : ℕ) (octets : List ℕ) (h : Past) (over : Bool) → Alive h s
    → nat_lt limits.recv (length (recv_at limits s h) + length octets) ≡ over
    → plain_demand (plain_setup limits) (plain.Body s octets) h ≡ (if over then WantsDoom s (cause.StreamError 3) else WantsArrive (request s) octets) ∷ []
body_asks limits s octets h over is e = rw (is, e) refl

body_other : (k s x : ℕ) (octets : List ℕ) (h : Past) → (s == x) ≡ false → plain_body x (turn_of k (plain.Body s octets) ∷ h) ≡ plain_body x h
body_other k s x octets h e = cc (append-nil (plain_body x h))

-- the stream whose octets come
body_own : (limits : PlainLimits) (o : Owing) (k s : ℕ) (octets : List ℕ) (h : Past) → Rests limits h → Alive h s → o.due ≡ [] → o.extra s ≡ octets
    → FlowBooks limits o s (turn_of k (plain.Body s octets) ∷ h)
body_own limits o k s octets h r is ed ex =
    let f = r.regular.books.each s is in
    let step : Step NoMark = turn_of k (plain.Body s octets) in
    let ends_not = rests_unframed limits s h r.quiet is in
    let lows_same = refl in
    record {
      send_low = send_low_kept limits s step h refl lows_same f.send_low;
      recv_room = f.recv_room;
      send_room = f.send_room;
      read = ap (λ b. plain_body s h ++ (if b then octets else [])) (same_number s) ∙ ap (λ v. v ++ octets) (f.read ∙ append-nil (received (request s) h))
          ∙ ap (λ v. received (request s) h ++ v) (sym ex);
      over = λ t. not_both (end_out limits s h) t ends_not;
      unframed = ends_not;
    }

-- octets of a stream that began
body_regular : (limits : PlainLimits) (o : Owing) (k s : ℕ) (octets : List ℕ) (h : Past) → Rests limits h → k ≡ turns h + 1
    → plain_demand (plain_setup limits) (plain.Body s octets) h ≡ o.asks → o.due ≡ [] → ((x : ℕ) → starts o.asks x ≡ false) → has (started h) s ≡ true
    → (Alive h s → o.extra s ≡ octets) → ((x : ℕ) → (s == x) ≡ false → o.extra x ≡ [])
    → Regular limits o (turn_of k (plain.Body s octets) ∷ h)
body_regular limits o k s octets h r ek d ed st was own other =
    turn_regular limits o k (plain.Body s octets) h r ek d ed (λ x. cc (r.regular.books.said x, st x))
    (λ x is. by_case (s == x)
    (λ t. let live_s = subst (Alive h) (sym (number_is s x t)) is in
    rw (← number_is s x t) (body_own limits o k s octets h r live_s ed (own live_s)))
    (λ f. turn_flow limits o x k (plain.Body s octets) h r is (body_other k s x octets h f) ed (other x f)))
    (λ x new. let f = apart_from (started h) s x was new in
    turn_unborn limits x k (plain.Body s octets) h r new (body_other k s x octets h f) (record { ended = refl; pairs = refl; must = refl }))

-- octets of a live stream come that its receive buffer has room for
module _ (limits : PlainLimits) (k s : ℕ) (octets : List ℕ) (h : Past) where
  pub turn_body : Rests limits h → k ≡ turns h + 1 → Alive h s
      → length (recv_at limits s h) + length octets ≤ limits.recv
      → Regular limits (arriving s octets) (turn_of k (plain.Body s octets) ∷ h)
  turn_body r e is room =
      body_regular limits (arriving s octets) k s octets h r e (body_asks limits s octets h false is (fits _ _ room)) refl (λ x. refl) (r.regular.books.born s is)
      (λ l. only_own s octets) (λ x f. only_other s x octets f)
    where
      fits : (a b : ℕ) → b ≤ a → nat_lt a b ≡ false
      fits a b e = grind (arith, nat_tests)

  -- more than that
  pub turn_body_over : Rests limits h → k ≡ turns h + 1 → Alive h s
      → limits.recv < length (recv_at limits s h) + length octets
      → Regular limits (overrun s octets) (turn_of k (plain.Body s octets) ∷ h)
  turn_body_over r e is over =
      body_regular limits (overrun s octets) k s octets h r e (body_asks limits s octets h true is (passes _ _ over)) refl (λ x. refl) (r.regular.books.born s is)
      (λ l. only_own s octets) (λ x f. only_other s x octets f)
    where
      passes : (a b : ℕ) → a < b → nat_lt a b ≡ true
      passes a b e = grind (arith, nat_tests)

  -- octets of a stream that began and isn't live
  pub turn_body_late : Rests limits h → k ≡ turns h + 1 → has (started h) s ≡ true → has (live h) s ≡ false
      → Regular limits nothing (turn_of k (plain.Body s octets) ∷ h)
  turn_body_late r e was is =
      body_regular limits nothing k s octets h r e (late (has (live h) s) is) refl (λ x. refl) was (λ l. not_both (has (live h) s) l is) (λ x f. refl)
    where
      late : (b : Bool) → b ≡ false → ask_if b (if nat_lt limits.recv (length (recv (plain_setup limits) (request s) h) + length octets) then WantsDoom s (cause.StreamError 3)
          else WantsArrive (request s) octets) ≡ []
      late true e = cc
      late false e = refl
