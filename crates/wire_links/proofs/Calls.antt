-- The calls that change the links, as they follow one another on what is kept.
use Rattle.std.proofs.Common.{ap, refl, subst, sym, ◌∙◌}
use Rattle.std.proofs.lemmas.Bool.{false≢true}
use Rattle.std.proofs.lemmas.Map.Steps.{set_value_same}
use Rattle.std.specs.BTreeMap.{insert_entry, is_at}
use Rattle.std.specs.BTreeSet.{insert_key}
use Rattle.std.specs.Borrow.{Bor}
use Rattle.std.specs.Map.{remove_entry}
use Rattle.std.specs.Option.{is_some, option_and_then, option_copied, unwrap_or}
use Rattle.std.specs.Ordering.{nat_cmp}
use Rattle.std.specs.Prelude.{Bool, Err, IfSome, IsSome, IsSomeAnd, List, MatchOption, None, Ok, OnErr, Option, Result, Some, [], false, length, not, slice_get, true, ℕ, ◌+◌, ◌<◌, ◌∷◌, ◌≡◌, ◌≤◌, ◌^◌}
use Rattle.wire_links.proofs.Assigns.{CanFrame, assigned, assigns, frames, framed_seen, leaves, unassigned}
use Rattle.wire_links.proofs.Begins.{CanBegin, at_client, begins, begun, begun_seen, ended, ends, has_ends}
use Rattle.wire_links.proofs.Comes.{CanCome, accepts, come, join_room, joins, room_made, seat_new}
use Rattle.wire_links.proofs.Offered.{Conns, Exchanges, has_room}
use Rattle.wire_links.proofs.Reading.{at_stream, known_is, links_at}
use Rattle.wire_links.proofs.Seen.{IsSeat, client_is, cluster_is, conn_found, keys_seen, numbers_found, seat_found, streams_found}
use Rattle.number_set.proofs.Sorted.{unmarked}
use Rattle.wire_links.proofs.States.{CanPut, clients_put, puts}
use Rattle.wire_links.proofs.Under.{changed_insert, changed_some, changed_twice, remove_changed, remove_insert, seen_changed, seen_changes, seen_inserted, some_is, under_insert, under_it, choice}
use Rattle.wire_links.proofs.Where.{rises_where}
use Rattle.wire_links.specs.Kept.{AreKept, HasRoom, HasRoomFor, IsNext, Offers, Seats, connected, conns_of, disconnected, items_at, room_at, told, told_by}
use Rattle.wire_links.specs.Links.{IsToFrame, Links, cluster_of, doomed, drained, exchange_at, framed, is_client, is_end, new_conn, started, with_conn, with_stream}
use Rattle.number_set.specs.NumberSet.{Rises, has}
use Rattle.wire_links.specs.Numbers.{changed, under}
use Rattle.wire_links.specs.Seats.{Seat, left, linked, opened, placed, with_state}
use Rattle.wire_links.specs.declared.conn.Conn.{Conn}
use Rattle.wire_links.specs.declared.links.exchanges.Ends.{Ends}

pub absent_is : (seats : Seats) (c : ℕ) → is_some (under c (conns_of seats)) ≡ false → under c seats ≡ None
absent_is seats c unknown = by_found (under c seats) (known_is seats c ∙ unknown)
  where
    by_found : (o : Option Seat) → is_some o ≡ false → o ≡ None
    by_found None none = refl
    by_found (Some s) some = absurd (false≢true (sym some))

pub was_dead : (b : Bool) → not b ≡ true → b ≡ false
was_dead true is = sym is
was_dead false is = refl

pub was_live : (b : Bool) → not b ≡ false → b ≡ true
was_live true is = refl
was_live false is = sym is

-- two lists are those of the links
abbrev pub made : Conns → Exchanges → Links
made conns exchanges = record { conns = conns; exchanges = exchanges }

pub same_links : (conns conns' : Conns) (exchanges exchanges' : Exchanges) → conns ≡ conns' → exchanges ≡ exchanges' →
    made conns exchanges ≡ made conns' exchanges'
same_links conns conns' exchanges exchanges' c e = λ i. record { conns = c i; exchanges = e i }

module _ (seats : Seats) (exchanges : Exchanges) (offers : Offers) (clients : List ℕ) (kept : AreKept seats exchanges offers clients) where
  -- each cluster has room to be told of its connections
  pub kept_room : (c : ℕ) → HasRoomFor c seats offers
  kept_room c = record { each = λ seat k found kind. has_room (conns_of seats) exchanges offers k c seat.conn (subst Rises (sym (keys_seen seats)) kept.conns) (conn_found seats c seat found) kind (kept.offers k) (kept.room k) }

  pub rooms : (to : Option ℕ) → IfSome to (λ t. HasRoomFor t seats offers)
  rooms None = tt
  rooms (Some t) = kept_room t

  -- ---- the state of a connection
  pub can_put : (c : ℕ) (state : Conn) → IsSomeAnd (under c (conns_of seats)) (IsNext state) → CanPut seats exchanges offers clients c state
  can_put c state next = by_conn (under c (conns_of seats)) refl next
    where
      by_conn : (o : Option Conn) → under c (conns_of seats) ≡ o → IsSomeAnd o (IsNext state) → CanPut seats exchanges offers clients c state
      by_conn None none is = absurd is
      by_conn (Some conn) found is =
          let s : IsSeat c seats conn = seat_found seats c conn found in
          record {
            kept = kept;
            seat = s.seat;
            found = s.found;
            kind = is.kind ∙ ap (λ (d : Conn). d.cluster) (sym s.conn_is);
            closed = λ live. ap (λ (d : Conn). d.live) s.conn_is ∙ is.closed live;
          }

pub put_room : (seats : Seats) (exchanges : Exchanges) (offers : Offers) (clients : List ℕ) (c : ℕ) (state : Conn) → CanPut seats exchanges offers clients c state → (seats' : Seats) → seats' ≡ changed c (with_state state) seats →
    HasRoomFor c seats' offers
put_room seats exchanges offers clients c state can seats' is = subst (λ s. HasRoomFor c s offers) (sym is) (record {
  each = λ seat k found kind.
      let same : with_state state can.seat ≡ seat = some_is (with_state state can.seat) seat (sym (under_it seats c (with_state state) can.seat can.found) ∙ found) in
      (kept_room seats exchanges offers clients can.kept c).each can.seat k can.found (sym can.kind ∙ ap (λ (s : Seat). s.conn.cluster) same ∙ kind);
})

pub put_kept : (seats : Seats) (exchanges : Exchanges) (offers : Offers) (clients : List ℕ) (c : ℕ) (state : Conn) → CanPut seats exchanges offers clients c state → (seats' : Seats) (offers' : Offers) (clients' : List ℕ) →
    seats' ≡ changed c (with_state state) seats → offers' ≡ told c (under c seats') offers → clients' ≡ clients_put c state clients → AreKept seats' exchanges offers' clients'
put_kept seats exchanges offers clients c state can seats' offers' clients' s o k =
    subst (AreKept seats' exchanges offers') (sym k) (subst (λ p. AreKept seats' exchanges p (clients_put c state clients)) (sym o)
    (subst (λ p. AreKept p exchanges (told c (under c p) offers) (clients_put c state clients)) (sym s) (puts seats exchanges offers clients c state can)))

pub put_seen : (seats seats' : Seats) (exchanges : Exchanges) (c : ℕ) (state : Conn) → seats' ≡ changed c (with_state state) seats → links_at seats' exchanges ≡ with_conn c (λ _. state) (links_at seats exchanges)
put_seen seats seats' exchanges c state is = same_links (conns_of seats') (changed c (λ _. state) (conns_of seats)) exchanges exchanges
    (ap conns_of is ∙ seen_changes (λ (s : Seat). s.conn) seats c (with_state state) (λ _. state) (λ _. refl)) refl

-- ---- a connection comes
pub accept_kept : (seats : Seats) (exchanges : Exchanges) (offers : Offers) (clients : List ℕ) (c : ℕ) → CanCome seats exchanges offers clients c → (seats' : Seats) (clients' : List ℕ) →
    seats' ≡ come c None seats → clients' ≡ insert_key nat_cmp clients c → AreKept seats' exchanges offers clients'
accept_kept seats exchanges offers clients c can seats' clients' s k = subst (AreKept seats' exchanges offers) (sym k) (subst (λ p. AreKept p exchanges offers (insert_key nat_cmp clients c)) (sym s) (accepts seats exchanges offers clients c can))

-- what came goes again
pub undone : {X : Type 0} (es es1 es2 : List (ℕ × X)) (n : ℕ) (v : X) → under n es ≡ None → es1 ≡ insert_entry nat_cmp es n v → es2 ≡ remove_entry (is_at (nat_cmp n)) es1 → es2 ≡ es
undone es es1 es2 n v absent came goes = goes ∙ ap (remove_entry (is_at (nat_cmp n))) came ∙ remove_insert es n v absent

-- made as it is put there
pub come_new : (seats seats' : Seats) (c : ℕ) (cluster : Option ℕ) (conn : Conn) (seat : Seat) → conn ≡ new_conn cluster → seat ≡ record { conn = conn; numbers = []; streams = [] } →
    seats' ≡ insert_entry nat_cmp seats c seat → seats' ≡ come c cluster seats
come_new seats seats' c cluster conn seat made_conn made_seat is = is ∙ ap (insert_entry nat_cmp seats c) (made_seat ∙ (λ i. record { conn = made_conn i; numbers = []; streams = [] }))

pub come_links : (seats seats' : Seats) (exchanges : Exchanges) (c : ℕ) (cluster : Option ℕ) → seats' ≡ come c cluster seats →
    links_at seats' exchanges ≡ record (links_at seats exchanges) { conns = insert_entry nat_cmp (conns_of seats) c (new_conn cluster) }
come_links seats seats' exchanges c cluster is = same_links (conns_of seats') (insert_entry nat_cmp (conns_of seats) c (new_conn cluster)) exchanges exchanges
    (ap conns_of is ∙ seen_inserted (λ (s : Seat). s.conn) seats c (seat_new cluster)) refl

module _ (seats : Seats) (exchanges : Exchanges) (offers offers' : Offers) (clients : List ℕ) (c k : ℕ) (kept : AreKept seats exchanges offers clients) (absent : under c seats ≡ None) (small : c < 2 ^ 32)
    (items : (j : ℕ) → items_at j offers' ≡ items_at j offers) (more : (j : ℕ) → room_at j offers ≤ room_at j offers') (wide : length seats + 1 ≤ room_at k offers')
    (seats' : Seats) (is : seats' ≡ come c (Some k) seats) where
  join_can : CanCome seats exchanges offers' clients c
  join_can = record { kept = room_made seats exchanges offers offers' clients kept items more; absent = absent; small = small }

  pub join_rooms : HasRoomFor c seats' offers'
  join_rooms = subst (λ s. HasRoomFor c s offers') (sym is) (record {
    each = λ seat j found kind.
        let same : seat_new (Some k) ≡ seat = some_is (seat_new (Some k)) seat (sym (under_insert seats c c (seat_new (Some k)) ∙ choice c c (Some (seat_new (Some k))) (under c seats) refl) ∙ found) in
        subst (λ i. HasRoom c i offers') (some_is k j (ap (λ (s : Seat). s.conn.cluster) same ∙ kind)) (join_room seats exchanges offers' clients c k join_can wide);
  })

  pub join_kept : (told' : Offers) → told' ≡ told c (under c seats') offers' → AreKept seats' exchanges told' clients
  join_kept told' o = subst (λ p. AreKept seats' exchanges p clients) (sym o) (subst (λ p. AreKept p exchanges (told c (under c p) offers') clients) (sym is) (joins seats exchanges offers' clients c k join_can wide))

-- ---- an exchange begins
connected_seen : (to : Option ℕ) (x : ℕ) (seats : Seats) → conns_of (connected to x seats) ≡ conns_of seats
connected_seen None x seats = refl
connected_seen (Some t) x seats = seen_changed (λ (s : Seat). s.conn) seats t (linked x) (λ _. refl)

module _ (seats : Seats) (exchanges : Exchanges) (offers : Offers) (clients : List ℕ) (x c stream : ℕ) (kept : AreKept seats exchanges offers clients) (new_one : under x exchanges ≡ None)
    (client : is_client c (links_at seats exchanges) ≡ true) (unused : exchange_at c stream (links_at seats exchanges) ≡ None) where
  start_can : CanBegin seats exchanges offers clients x c stream
  start_can = record { kept = kept; new_one = new_one; client = client_is seats c client; unused = at_stream seats exchanges offers clients kept c stream ∙ unused }

  pub start_begun : AreKept (changed c (opened stream x) seats) (begun x c stream exchanges) offers clients
  start_begun = begins seats exchanges offers clients x c stream start_can

  pub start_rooms : (seats' : Seats) → seats' ≡ changed c (opened stream x) seats → (to : Option ℕ) → IfSome to (λ t. HasRoomFor t seats' offers)
  start_rooms seats' is to = subst (λ s. IfSome to (λ t. HasRoomFor t s offers)) (sym is) (rooms (changed c (opened stream x) seats) (begun x c stream exchanges) offers clients start_begun to)

  -- it is there, and to the connection of a cluster, if there is one
  start_to : (to : Option ℕ) → IfSome to (λ t. IsSome (cluster_of t (links_at seats exchanges))) →
      AreKept (connected to x (changed c (opened stream x) seats)) (insert_entry nat_cmp exchanges x (record { client = c; stream = stream; cluster = to; cluster_stream = None }))
      (told_by to (connected to x (changed c (opened stream x) seats)) offers) clients
  start_to None clusters = start_begun
  start_to (Some t) clusters =
      subst (λ es. AreKept (changed t (linked x) (changed c (opened stream x) seats)) es (told t (under t (changed t (linked x) (changed c (opened stream x) seats))) offers) clients)
      (changed_insert exchanges x (at_client c stream) (assigned t))
      (assigns (changed c (opened stream x) seats) (begun x c stream exchanges) offers clients x t (at_client c stream) (record {
        kept = start_begun;
        found = under_insert exchanges x x (at_client c stream) ∙ choice x x (Some (at_client c stream)) (under x exchanges) refl;
        alone = refl;
        waiting = refl;
        cluster = cluster_is (changed c (opened stream x) seats) t (subst (λ cs. IsSome (option_and_then (λ (conn : Conn). conn.cluster) (under t cs))) (sym (begun_seen seats exchanges offers clients x c stream start_can)) clusters);
      }))

  pub start_kept : (to : Option ℕ) → IfSome to (λ t. IsSome (cluster_of t (links_at seats exchanges))) → (seats1 seats2 : Seats) (offers' : Offers) (exchanges' : Exchanges) →
      seats1 ≡ changed c (opened stream x) seats → seats2 ≡ connected to x seats1 → offers' ≡ told_by to seats2 offers →
      exchanges' ≡ insert_entry nat_cmp exchanges x (record { client = c; stream = stream; cluster = to; cluster_stream = None }) → AreKept seats2 exchanges' offers' clients
  start_kept to clusters seats1 seats2 offers' exchanges' s1 s2 o e =
      let whole : seats2 ≡ connected to x (changed c (opened stream x) seats) = s2 ∙ ap (connected to x) s1 in
      subst (λ p. AreKept seats2 exchanges' p clients) (sym o) (subst (λ p. AreKept seats2 p (told_by to seats2 offers) clients) (sym e)
      (subst (λ p. AreKept p (insert_entry nat_cmp exchanges x (record { client = c; stream = stream; cluster = to; cluster_stream = None })) (told_by to p offers) clients) (sym whole) (start_to to clusters)))

  pub start_seen : (to : Option ℕ) (seats1 seats2 : Seats) (exchanges' : Exchanges) → seats1 ≡ changed c (opened stream x) seats → seats2 ≡ connected to x seats1 →
      exchanges' ≡ insert_entry nat_cmp exchanges x (record { client = c; stream = stream; cluster = to; cluster_stream = None }) → links_at seats2 exchanges' ≡ started x c stream to (links_at seats exchanges)
  start_seen to seats1 seats2 exchanges' s1 s2 e = same_links (conns_of seats2) (conns_of seats) exchanges' (insert_entry nat_cmp exchanges x (record { client = c; stream = stream; cluster = to; cluster_stream = None }))
      (ap conns_of s2 ∙ connected_seen to x seats1 ∙ ap conns_of s1 ∙ begun_seen seats exchanges offers clients x c stream start_can) e

  -- there was no memory: it goes again
  pub start_undone : (seats1 seats2 seats3 : Seats) → seats1 ≡ changed c (opened stream x) seats → seats2 ≡ seats1 → seats3 ≡ changed c (left x (Some stream)) seats2 → seats3 ≡ seats
  start_undone seats1 seats2 seats3 s1 s2 s3 =
      s3 ∙ ap (changed c (left x (Some stream))) (s2 ∙ s1) ∙ changed_twice seats c (opened stream x) (left x (Some stream)) start_can.client.seat start_can.client.found back
    where
      back : left x (Some stream) (opened stream x start_can.client.seat) ≡ start_can.client.seat
      back = λ i. record {
        conn = start_can.client.seat.conn;
        numbers = unmarked start_can.client.seat.numbers x
            (subst Rises (sym (sym (numbers_found seats c start_can.client.seat start_can.client.found) ∙ kept.numbers c)) (rises_where (λ _. is_end c) exchanges kept.order))
            (ap (λ ns. has ns x) (sym (numbers_found seats c start_can.client.seat start_can.client.found) ∙ kept.numbers c) ∙ has_ends exchanges x c None kept.order new_one) i;
        streams = remove_insert start_can.client.seat.streams stream x (ap (under stream) (sym (streams_found seats c start_can.client.seat start_can.client.found)) ∙ start_can.unused) i;
      }

-- ---- its head is framed
module _ (seats : Seats) (exchanges : Exchanges) (offers : Offers) (clients : List ℕ) (x t stream : ℕ) (e : Ends) (kept : AreKept seats exchanges offers clients) (found : under x exchanges ≡ Some e)
    (to : e.cluster ≡ Some t) (frame : IsToFrame stream (links_at seats exchanges) e) where
  frame_can : CanFrame seats exchanges offers clients x t stream e
  frame_can = record {
    kept = kept;
    found = found;
    to = to;
    waiting = frame.unframed;
    unused = at_stream seats exchanges offers clients kept t stream ∙ subst (λ o. IfSome o (λ u. exchange_at u stream (links_at seats exchanges) ≡ None)) to frame.unused;
  }

  pub frame_kept : (seats' : Seats) (exchanges' : Exchanges) → seats' ≡ changed t (placed stream x) seats → exchanges' ≡ changed x (with_stream stream) exchanges → AreKept seats' exchanges' offers clients
  frame_kept seats' exchanges' s k = subst (λ p. AreKept seats' p offers clients) (sym k) (subst (λ p. AreKept p (changed x (with_stream stream) exchanges) offers clients) (sym s) (frames seats exchanges offers clients x t stream e frame_can))

  pub frame_seen : (seats' : Seats) (exchanges' : Exchanges) → seats' ≡ changed t (placed stream x) seats → exchanges' ≡ changed x (with_stream stream) exchanges → links_at seats' exchanges' ≡ framed x stream (links_at seats exchanges)
  frame_seen seats' exchanges' s k = same_links (conns_of seats') (conns_of seats) exchanges' (changed x (with_stream stream) exchanges) (ap conns_of s ∙ framed_seen seats exchanges offers clients x t stream e frame_can) k

-- ---- it is doomed
disconnected_seen : (to : Option ℕ) (x : ℕ) (stream : Option ℕ) (seats : Seats) → conns_of (disconnected to x stream seats) ≡ conns_of seats
disconnected_seen None x stream seats = refl
disconnected_seen (Some t) x stream seats = seen_changed (λ (s : Seat). s.conn) seats t (left x stream) (λ _. refl)

module _ (seats : Seats) (exchanges : Exchanges) (offers : Offers) (clients : List ℕ) (x : ℕ) (e : Ends) (kept : AreKept seats exchanges offers clients) (found : under x exchanges ≡ Some e) where
  doom_to : (to : Option ℕ) → e.cluster ≡ to →
      AreKept (changed e.client (left x (Some e.stream)) (disconnected to x e.cluster_stream seats)) (ended x exchanges) (told_by to (disconnected to x e.cluster_stream seats) offers) clients
  doom_to None alone = ends seats exchanges offers clients x e (record { kept = kept; found = found; alone = alone })
  doom_to (Some t) to = subst (λ es. AreKept (changed e.client (left x (Some e.stream)) (changed t (left x e.cluster_stream) seats)) es (told t (under t (changed t (left x e.cluster_stream) seats)) offers) clients)
      (remove_changed exchanges x unassigned)
      (ends (changed t (left x e.cluster_stream) seats) (changed x unassigned exchanges) (told t (under t (changed t (left x e.cluster_stream) seats)) offers) clients x (unassigned e) (record {
        kept = leaves seats exchanges offers clients x t e e.cluster_stream (record { kept = kept; found = found; to = to; on = refl });
        found = under_it exchanges x unassigned e found;
        alone = refl;
      }))

  pub doom_kept : (seats1 seats2 : Seats) (offers' : Offers) (exchanges' : Exchanges) → seats1 ≡ disconnected e.cluster x e.cluster_stream seats → offers' ≡ told_by e.cluster seats1 offers →
      seats2 ≡ changed e.client (left x (Some e.stream)) seats1 → exchanges' ≡ remove_entry (is_at (nat_cmp x)) exchanges → AreKept seats2 exchanges' offers' clients
  doom_kept seats1 seats2 offers' exchanges' s1 o s2 k =
      subst (λ p. AreKept seats2 exchanges' p clients) (sym (o ∙ ap (λ s. told_by e.cluster s offers) s1)) (subst (λ p. AreKept seats2 p (told_by e.cluster (disconnected e.cluster x e.cluster_stream seats) offers) clients) (sym k)
      (subst (λ p. AreKept p (ended x exchanges) (told_by e.cluster (disconnected e.cluster x e.cluster_stream seats) offers) clients) (sym (s2 ∙ ap (changed e.client (left x (Some e.stream))) s1)) (doom_to e.cluster refl)))

  pub doom_seen : (seats1 seats2 : Seats) (exchanges' : Exchanges) → seats1 ≡ disconnected e.cluster x e.cluster_stream seats →
      seats2 ≡ changed e.client (left x (Some e.stream)) seats1 → exchanges' ≡ remove_entry (is_at (nat_cmp x)) exchanges → links_at seats2 exchanges' ≡ doomed x (links_at seats exchanges)
  doom_seen seats1 seats2 exchanges' s1 s2 k = same_links (conns_of seats2) (conns_of seats) exchanges' (remove_entry (is_at (nat_cmp x)) exchanges)
      (ap conns_of s2 ∙ seen_changed (λ (s : Seat). s.conn) seats1 e.client (left x (Some e.stream)) (λ _. refl) ∙ ap conns_of s1 ∙ disconnected_seen e.cluster x e.cluster_stream seats) k

-- ---- nothing has changed
pub kept_same : (seats seats' : Seats) (exchanges exchanges' : Exchanges) (offers offers' : Offers) (clients : List ℕ) → seats' ≡ seats → exchanges' ≡ exchanges → offers' ≡ offers →
    AreKept seats exchanges offers clients → AreKept seats' exchanges' offers' clients
kept_same seats seats' exchanges exchanges' offers offers' clients s e o kept =
    subst (λ p. AreKept seats' exchanges' p clients) (sym o) (subst (λ p. AreKept seats' p offers clients) (sym e) (subst (λ p. AreKept p exchanges offers clients) (sym s) kept))

pub links_same : (seats seats' : Seats) (exchanges exchanges' : Exchanges) → seats' ≡ seats → exchanges' ≡ exchanges → links_at seats' exchanges' ≡ links_at seats exchanges
links_same seats seats' exchanges exchanges' s e = same_links (conns_of seats') (conns_of seats) exchanges' exchanges (ap conns_of s) e

pub any_err : {A B P : Type 0} (r : Result A B) → P → OnErr r P
any_err (Ok x) p = tt
any_err (Err y) p = p

pub err_of : {A B P : Type 0} (r : Result A B) → ((x : A) → r ≡ Ok x → ⊥) → OnErr r P → P
err_of (Ok x) never p = absurd (never x refl)
err_of (Err y) never p = p

-- a connection that is draining drains no more
pub drain_same : (links : Links) (c last : ℕ) (state : Conn) → under c links.conns ≡ Some state → is_some state.draining ≡ true → links ≡ with_conn c (drained last) links
drain_same links c last state found draining = by_last state.draining refl draining
  where
    by_last : (o : Option ℕ) → state.draining ≡ o → is_some o ≡ true → links ≡ with_conn c (drained last) links
    by_last None none is = absurd (false≢true is)
    by_last (Some d) some is =
        let same : drained last state ≡ state = λ i. record state { draining = (ap (λ o. Some (unwrap_or o last)) some ∙ sym some) i } in
        sym (λ i. record links { conns = (changed_some links.conns c (drained last) state found ∙ set_value_same (is_at (nat_cmp c)) links.conns (drained last state) (found ∙ ap Some (sym same))) i })

-- the first of a range
pub next_first : (o : Option (Bor ℕ)) (xs rest : List ℕ) → MatchOption o ((xs ≡ []) × (rest ≡ [])) (λ x. xs ≡ x.now ∷ rest) → option_copied o ≡ slice_get xs 0
next_first None xs rest h = sym (ap (λ l. slice_get l 0) h.0)
next_first (Some x) xs rest h = sym (ap (λ l. slice_get l 0) h)

pub frame_of : (exchanges : Exchanges) (links : Links) (x stream : ℕ) (e : Ends) → under x exchanges ≡ Some e → IfSome (under x exchanges) (IsToFrame stream links) → IsToFrame stream links e
frame_of exchanges links x stream e found is = subst (λ o. IfSome o (IsToFrame stream links)) found is
