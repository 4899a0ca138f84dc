-- The windows stay sound, and what is kept beside them goes with them.
use Rattle.h2_windows.specs.RecvWindow.{AddsUp, Owes, Receiving}
use Rattle.std.proofs.Common.{ap, arith, refl, subst, sym, ◌∙◌}
use Rattle.std.proofs.lemmas.Bool.{false≢true}
use Rattle.std.specs.Cmp.{nat_cmp_total}
use Rattle.std.specs.FinMap.{contains_key, empty, get, get-empty, insert, len, len-empty, len-insert, len-remove, remove}
use Rattle.std.specs.Option.{option_map_or}
use Rattle.std.specs.Ordering.{nat_cmp}
use Rattle.std.specs.Result.{is_err}
use Rattle.std.specs.Prelude.{Bool, Err, IfSome, None, Ok, OnOk, Option, Result, Some, [], cond, false, if◌then◌else◌, is_some, length, nat_eq, true, ℕ, ◌+◌, ◌-◌, ◌≡◌, ◌≤◌}
use Rattle.wire_windows.proofs.Due.{Marks, due_gone, due_put, stays_marked}
use Rattle.wire_windows.proofs.Maps.{get_insert, get_remove, remove_absent}
use Rattle.wire_windows.proofs.Sums.{sum_at_least, sum_insert, sum_none, sum_remove}
use Rattle.number_set.specs.NumberSet.{NumberSet, has}
use Rattle.wire_windows.specs.Kept.{AreKept, windows_of}
use Rattle.wire_windows.specs.RecvWindows.{IsSound, RecvStreams, RecvWindows, begun, changed_at, drops, held_at, is_due_stream, left_in, on_window, received}
use Rattle.wire_windows.specs.declared.recv_stream.RecvStream.{RecvStream}
use Rattle.wire_windows.specs.declared.recv_windows.RecvWindows.TheInside.{Inside}

abbrev pub IsWhole : ℕ → RecvStream → Type 0
IsWhole stream_window s = AddsUp s.window × (s.window.window ≡ stream_window)

abbrev held : RecvStream → ℕ
held s = s.window.held

-- ---- of a stream that is there, and of one that isn't
module _ (streams : RecvStreams) (x : ℕ) (change : RecvStream → RecvStream) where
  pub changed_there : (s : RecvStream) → get streams x ≡ Some s → changed_at x change streams ≡ insert streams x (change s)
  changed_there s there = ap (λ (o : Option RecvStream). option_map_or (λ s. insert streams x (change s)) o streams) there

  pub changed_absent : get streams x ≡ None → changed_at x change streams ≡ streams
  changed_absent none = ap (λ (o : Option RecvStream). option_map_or (λ s. insert streams x (change s)) o streams) none

-- ---- soundness
module _ (w : RecvWindows) (sound : IsSound w) (x : ℕ) where
  pub whole_at : (s : RecvStream) → get w.streams x ≡ Some s → IsWhole w.stream_window s
  whole_at s there = subst (λ (o : Option RecvStream). IfSome o (IsWhole w.stream_window)) there (sound.streams x)

  held_is : (s : RecvStream) → get w.streams x ≡ Some s → option_map_or held (get w.streams x) 0 ≡ s.window.held
  held_is s there = ap (λ (o : Option RecvStream). option_map_or held o 0) there

  -- what a stream holds, the connection holds
  pub held_within : (s : RecvStream) → get w.streams x ≡ Some s → s.window.held + w.stray ≤ w.conn.held
  held_within s there = omega (arith, sound.held, held_is s there, sum_at_least held w.streams x)

  -- a stream changes, or begins
  pub sound_put : (t : RecvStream) (conn : Receiving) (stray : ℕ) → AddsUp conn → IsWhole w.stream_window t
      → (conn.held + option_map_or held (get w.streams x) 0) + w.stray ≡ (w.conn.held + t.window.held) + stray
      → IsSound (record w { conn = conn; stray = stray; streams = insert w.streams x t })
  sound_put t conn stray adds is balance = record {
    held = omega (arith, sound.held, balance, sum_insert held w.streams x t);
    conn = adds;
    streams = λ y. subst (λ (o : Option RecvStream). IfSome o (IsWhole w.stream_window)) (sym (get_insert w.streams x t y)) (at y (nat_eq x y));
  }
    where
      at : (y : ℕ) (b : Bool) → IfSome (cond b (Some t) (get w.streams y)) (IsWhole w.stream_window)
      at y true = is
      at y false = sound.streams y

  -- it goes
  pub sound_gone : (conn : Receiving) (stray : ℕ) → AddsUp conn
      → (conn.held + option_map_or held (get w.streams x) 0) + w.stray ≡ w.conn.held + stray
      → IsSound (record w { conn = conn; stray = stray; streams = remove w.streams x })
  sound_gone conn stray adds balance = record {
    held = omega (arith, sound.held, balance, sum_remove held w.streams x);
    conn = adds;
    streams = λ y. subst (λ (o : Option RecvStream). IfSome o (IsWhole w.stream_window)) (sym (get_remove w.streams x y)) (at y (nat_eq x y));
  }
    where
      at : (y : ℕ) (b : Bool) → IfSome (cond b None (get w.streams y)) (IsWhole w.stream_window)
      at y true = tt
      at y false = sound.streams y

-- no stream changes
pub sound_conn : (w : RecvWindows) (sound : IsSound w) (conn : Receiving) (first stray : ℕ) → AddsUp conn → conn.held + w.stray ≡ w.conn.held + stray
    → IsSound (record w { conn = conn; first = first; stray = stray })
sound_conn w sound conn first stray adds balance = record {
  held = omega (arith, sound.held, balance);
  conn = adds;
  streams = sound.streams;
}

-- ---- what is kept
-- how many streams there are
module _ (streams : RecvStreams) (x : ℕ) where
  as_many : (s t : RecvStream) → get streams x ≡ Some s → len (insert streams x t) ≡ len streams
  as_many s t there = len-insert nat_cmp_total streams x t ∙ ap (λ (o : Option RecvStream). cond (is_some o) (len streams) (len streams + 1)) there

  pub at_most_one_more : (t : RecvStream) → len (insert streams x t) ≤ len streams + 1
  at_most_one_more t = at (contains_key streams x) (len-insert nat_cmp_total streams x t)
    where
      at : (b : Bool) → len (insert streams x t) ≡ cond b (len streams) (len streams + 1) → len (insert streams x t) ≤ len streams + 1
      at true e = omega (arith, e)
      at false e = omega (arith, e)

  no_more : len (remove streams x) ≤ len streams
  no_more = at (contains_key streams x) (len-remove nat_cmp_total streams x)
    where
      at : (b : Bool) → len (remove streams x) ≡ cond b (len streams - 1) (len streams) → len (remove streams x) ≤ len streams
      at true e = omega (arith, e)
      at false e = omega (arith, e)

module _ (c : Inside) (kept : AreKept c) (x : ℕ) (s : RecvStream) (there : get c.streams x ≡ Some s) where
  holds : option_map_or held (get c.streams x) 0 ≡ s.window.held
  holds = ap (λ (o : Option RecvStream). option_map_or held o 0) there

  -- a stream changes
  pub kept_put : (t : RecvStream) (conn : Receiving) (stray : ℕ) (streams : RecvStreams) (due : NumberSet) → streams ≡ insert c.streams x t → AddsUp conn → IsWhole c.stream_window t
      → (conn.held + s.window.held) + c.stray ≡ (c.conn.held + t.window.held) + stray
      → Marks x (is_due_stream t) c.due due → due.room ≡ c.due.room
      → AreKept (record c { conn = conn; stray = stray; streams = streams; due = due })
  kept_put t conn stray streams due put adds is balance marks room =
      subst (λ (m : RecvStreams). AreKept (record c { conn = conn; stray = stray; streams = m; due = due })) (sym put) (record {
        sound = sound_put (windows_of c) kept.sound x t conn stray adds is (omega (arith, balance, holds));
        due = due_put c.streams c.due kept.due x t due marks;
        ready = omega (arith, kept.ready, room, as_many c.streams x s t there);
      })

  -- octets that it held are owed
  pub kept_owed : (n : ℕ) (window conn : Receiving) (streams : RecvStreams) (due : NumberSet) → n ≤ s.window.held
      → Owes s.window window n → AddsUp window → Owes c.conn conn n → AddsUp conn
      → streams ≡ insert c.streams x (record s { window = window })
      → Marks x (is_due_stream (record s { window = window })) c.due due → due.room ≡ c.due.room
      → AreKept (record c { conn = conn; streams = streams; due = due })
  kept_owed n window conn streams due less owes adds conn_owes conn_adds put marks room =
      let within : s.window.held + c.stray ≤ c.conn.held = held_within (windows_of c) kept.sound x s there in
      let left : window.held ≡ s.window.held - n = ap (λ (w : Receiving). w.held) owes in
      let conn_left : conn.held ≡ c.conn.held - n = ap (λ (w : Receiving). w.held) conn_owes in
      let is : IsWhole c.stream_window s = whole_at (windows_of c) kept.sound x s there in
      let t : RecvStream = record s { window = window } in
      kept_put t conn c.stray streams due put conn_adds (adds, ap (λ (w : Receiving). w.window) owes ∙ is.1)
      (omega (arith, within, left, conn_left, less)) marks room

  -- its window changes, but not what it holds, and it is due no more
  pub kept_undue : (t : RecvStream) (streams : RecvStreams) (due : NumberSet) → streams ≡ insert c.streams x t → IsWhole c.stream_window t → t.window.held ≡ s.window.held
      → is_due_stream t ≡ false → Marks x false c.due due → due.room ≡ c.due.room
      → AreKept (record c { streams = streams; due = due })
  kept_undue t streams due put is same undue marks room =
      kept_put t c.conn c.stray streams due put kept.sound.conn is (omega (arith, same)) (subst (λ b. Marks x b c.due due) (sym undue) marks) room

  -- it goes
  pub kept_gone : (n : ℕ) (conn : Receiving) (stray : ℕ) (streams : RecvStreams) (due : NumberSet) → n ≤ s.window.held
      → Owes c.conn conn n → AddsUp conn → stray ≡ c.stray + (s.window.held - n) → streams ≡ remove c.streams x
      → Marks x false c.due due → due.room ≡ c.due.room
      → AreKept (record c { conn = conn; stray = stray; streams = streams; due = due })
  kept_gone n conn stray streams due less owes adds rest gone marks room =
      let within : s.window.held + c.stray ≤ c.conn.held = held_within (windows_of c) kept.sound x s there in
      let conn_left : conn.held ≡ c.conn.held - n = ap (λ (w : Receiving). w.held) owes in
      subst (λ (m : RecvStreams). AreKept (record c { conn = conn; stray = stray; streams = m; due = due })) (sym gone) (record {
        sound = sound_gone (windows_of c) kept.sound x conn stray adds (omega (arith, holds, within, conn_left, less, rest));
        due = due_gone c.streams c.due kept.due x due marks;
        ready = omega (arith, kept.ready, room, no_more c.streams x);
      })

-- no stream changes
pub kept_conn : (c : Inside) → AreKept c → (conn : Receiving) (first stray : ℕ) → AddsUp conn → conn.held + c.stray ≡ c.conn.held + stray
    → AreKept (record c { conn = conn; first = first; stray = stray })
kept_conn c kept conn first stray adds balance = record {
  sound = sound_conn (windows_of c) kept.sound conn first stray adds balance;
  due = kept.due;
  ready = kept.ready;
}

-- what a stream holds, of what is found
pub held_of : (streams : RecvStreams) (x : ℕ) (s : RecvStream) → Some s ≡ get streams x → (n : ℕ) → n ≤ option_map_or held (get streams x) 0 → n ≤ s.window.held
held_of streams x s is n less = subst (λ (o : Option RecvStream). n ≤ option_map_or held o 0) (sym is) less

-- octets came, and fit into the stream's window, of which nothing is left where it isn't there
pub kept_came : (c : Inside) → AreKept c → (x n : ℕ) (conn : Receiving) (streams : RecvStreams) → n ≤ left_in x c.streams → conn.held ≡ c.conn.held + n → AddsUp conn
    → streams ≡ changed_at x (on_window (received n)) c.streams → AreKept (record c { conn = conn; streams = streams })
kept_came c kept x n conn streams fits more adds changed = at (get c.streams x) refl
  where
    at : (o : Option RecvStream) → get c.streams x ≡ o → AreKept (record c { conn = conn; streams = streams })
    at None none =
        let nothing : left_in x c.streams ≡ 0 = ap (λ (o : Option RecvStream). option_map_or (λ s. s.window.left) o 0) none in
        subst (λ (m : RecvStreams). AreKept (record c { conn = conn; streams = m })) (sym (changed ∙ changed_absent c.streams x (on_window (received n)) none))
        (kept_conn c kept conn c.first c.stray adds (omega (arith, more, nothing, fits)))
    at (Some s) there =
        let left : left_in x c.streams ≡ s.window.left = ap (λ (o : Option RecvStream). option_map_or (λ s. s.window.left) o 0) there in
        let is : IsWhole c.stream_window s = whole_at (windows_of c) kept.sound x s there in
        let due : is_due_stream s ≡ has c.due.items x = sym (kept.due.those x ∙ ap (λ (o : Option RecvStream). option_map_or is_due_stream o false) there) in
        kept_put c kept x s there (on_window (received n) s) conn c.stray streams c.due (changed ∙ changed_there c.streams x (on_window (received n)) s there) adds
        (omega (arith, is.0, left, fits), is.1) (omega (arith, more)) (stays_marked c.streams c.due kept.due x (is_due_stream s) c.due refl due) refl

-- a stream begins
pub kept_begun : (c : Inside) → AreKept c → (x : ℕ) (streams : RecvStreams) (due : NumberSet) → get c.streams x ≡ None → streams ≡ insert c.streams x (begun c.stream_window)
    → due.items ≡ c.due.items → len c.streams + 1 ≤ due.room → AreKept (record c { streams = streams; due = due })
kept_begun c kept x streams due none put items room =
    let nothing : option_map_or held (get c.streams x) 0 ≡ 0 = ap (λ (o : Option RecvStream). option_map_or held o 0) none in
    let undue : false ≡ has c.due.items x = sym (kept.due.those x ∙ ap (λ (o : Option RecvStream). option_map_or is_due_stream o false) none) in
    subst (λ (m : RecvStreams). AreKept (record c { streams = m; due = due })) (sym put) (record {
      sound = sound_put (windows_of c) kept.sound x (begun c.stream_window) c.conn c.stray kept.sound.conn (omega arith, refl) (omega (arith, nothing));
      due = due_put c.streams c.due kept.due x (begun c.stream_window) due (stays_marked c.streams c.due kept.due x false due items undue);
      ready = omega (arith, room, at_most_one_more c.streams x (begun c.stream_window));
    })

-- at first
pub kept_first : (c : Inside) → c.streams ≡ empty → c.due.items ≡ [] → AddsUp c.conn → c.conn.held ≡ 0 → c.stray ≡ 0 → AreKept c
kept_first c none items adds held_none stray =
    let nothing : len c.streams ≡ 0 = ap len none ∙ len-empty nat_cmp RecvStream in
    let found : (x : ℕ) → get c.streams x ≡ None = λ x. ap (λ (m : RecvStreams). get m x) none ∙ get-empty nat_cmp x in
    record {
      sound = record {
        held = omega (arith, held_none, stray, sum_none held c.streams nothing);
        conn = adds;
        streams = λ x. subst (λ (o : Option RecvStream). IfSome o (IsWhole c.stream_window)) (sym (found x)) tt;
      };
      due = record {
        those = λ x. ap (λ xs. has xs x) items ∙ sym (ap (λ (o : Option RecvStream). option_map_or is_due_stream o false) (found x));
        counted = ap length items ∙ sym (sum_none (λ (s : RecvStream). if is_due_stream s then 1 else 0) c.streams nothing);
      };
      ready = omega (arith, nothing);
    }

-- what a call says of its success
pub when_ok : {T E : Type 0} (P : Type 0) (r : Result T E) → is_err r ≡ false → OnOk r P → P
when_ok P (Ok x) not h = h
when_ok P (Err e) not h = absurd (false≢true (sym not))

-- with a stream that isn't there nothing goes
pub drops_nothing : (w : RecvWindows) (x n : ℕ) → get w.streams x ≡ None → n ≤ held_at x w → w ≡ drops x n w
drops_nothing w x n none less =
    let nothing : held_at x w ≡ 0 = ap (λ (o : Option RecvStream). option_map_or held o 0) none in
    let held_stays : w.conn.held ≡ w.conn.held - n = omega (arith, less, nothing) in
    let owed_stays : w.conn.owed ≡ w.conn.owed + n = omega (arith, less, nothing) in
    let stray_stays : w.stray ≡ w.stray + (held_at x w - n) = omega (arith, nothing) in
    let streams_stay : w.streams ≡ remove w.streams x = sym (remove_absent w.streams x none) in
    λ i. record w { conn = record w.conn { held = held_stays i; owed = owed_stays i }; stray = stray_stays i; streams = streams_stay i }

pub none_is : {X : Type 0} (o : Option X) → is_some o ≡ false → o ≡ None
none_is None e = refl
none_is (Some x) e = absurd (false≢true (sym e))
