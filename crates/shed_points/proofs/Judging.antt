-- What events of each kind do to a shedder.
use Rattle.flow_notes.specs.declared.events.Event.{Event}
use Rattle.flow_notes.specs.declared.events.Job.{Job}
use Rattle.flow_notes.specs.declared.events.PlainEvent.{PlainEvent}
use Rattle.paged_map.specs.PagedMap.{PagedMap, Updates, value_at}
use Rattle.proxy_config.specs.declared.overload.Point.{Point}
use Rattle.proxy_config.specs.declared.overload.ShedRow.{ShedRow}
use Rattle.shed_points.proofs.Sums.{due_is, rest_is}
use Rattle.shed_points.specs.Shedders.{Forgets, IsNumbered, Judges, ShedderIs, share_at}
use Rattle.shed_points.specs.Shedding.{Became, Judged, accepted_as, events_of, grows, is_point, is_same, is_shed, point_state, read_point, share_of, shed_at, standing_of, state_after, sum_at, verdict_at}
use Rattle.shed_points.specs.declared.shedder.Shedder.{Shedder}
use Rattle.shed_points.specs.declared.shedder.Standing.{Standing}
use Rattle.shed_points.specs.declared.verdict.Verdict.{Verdict}
use Rattle.std.proofs.Common.{ap, arith, refl, subst, sym, ◌∙◌}
use Rattle.std.specs.Cmp.{unsigned_tied}
use Rattle.std.specs.Prelude.{Bool, List, None, Ok, Option, Some, cond, false, if◌then◌else◌, nat_le, true, ℕ, ◌%◌, ◌+◌, ◌<◌, ◌==◌, ◌^◌, ◌∷◌, ◌≡◌, ◌≤◌}
use Rattle.flow_notes.specs.declared.events.Event.TheVariants as event
use Rattle.proxy_config.specs.declared.overload.Point.TheVariants as point
use Rattle.shed_points.specs.declared.shedder.Standing.TheVariants as standing
use Rattle.shed_points.specs.declared.verdict.Verdict.TheVariants as verdict

-- ---- events that arrive nowhere

pub join_passes : (s : Shedder) (c k : ℕ) → Judges s (event.Join c k) s (Ok verdict.Pass)
join_passes s c k = record { goes = λ rows js i. (refl, tt, record { rows_are = i.rows_are; states_are = i.states_are; rests_are = i.rests_are; clients_are = i.clients_are; posts_are = i.posts_are }) }

pub tick_passes : (s : Shedder) (now : ℕ) → Judges s (event.Tick now) s (Ok verdict.Pass)
tick_passes s now = record { goes = λ rows js i. (refl, tt, record { rows_are = i.rows_are; states_are = i.states_are; rests_are = i.rests_are; clients_are = i.clients_are; posts_are = i.posts_are }) }

pub post_passes : (s : Shedder) (p n : ℕ) (job : Job) → Judges s (event.Post p n job) s (Ok verdict.Pass)
post_passes s p n job = record { goes = λ rows js i. (refl, tt, record { rows_are = i.rows_are; states_are = i.states_are; rests_are = i.rests_are; clients_are = i.clients_are; posts_are = i.posts_are }) }

pub plain_passes : (s : Shedder) (e : PlainEvent) → Judges s (event.Plain e) s (Ok verdict.Pass)
plain_passes s e = record { goes = λ rows js i. (refl, tt, record { rows_are = i.rows_are; states_are = i.states_are; rests_are = i.rests_are; clients_are = i.clients_are; posts_are = i.posts_are }) }

-- ---- those of a connection

-- what a verdict leaves that sheds nothing
abbrev silenced : Option Standing → Verdict
silenced s = if is_shed s then verdict.Silent else verdict.Pass

silenced_numbered : (b : Bool) (n : ℕ) → IsNumbered (if b then verdict.Silent else verdict.Pass) n
silenced_numbered true n = tt
silenced_numbered false n = tt

none_shed : (p : Point) (e : Event) (b : Bool) (js : List Judged) → shed_at p (Became e (if b then verdict.Silent else verdict.Pass) ∷ js) ≡ shed_at p js
none_shed p e true js = refl
none_shed p e false js = refl

pub room_judged : (s : Shedder) (c n : ℕ) (v : Verdict) → v ≡ silenced (value_at c s.clients) → Judges s (event.Room c n) s (Ok v)
room_judged s c n v is = record {
  goes = λ rows js i.
      let told : v ≡ silenced (standing_of c js) = is ∙ ap silenced (i.clients_are c) in
      let P : Verdict → Type 0 = λ w. ShedderIs s rows (Became (event.Room c n) w ∷ js) in
      let N : Verdict → Type 0 = λ w. IsNumbered w (shed_at point.Drain js) in
      (told, subst N (sym told) (silenced_numbered (is_shed (standing_of c js)) (shed_at point.Drain js)), subst P (sym told) (stands rows js i (is_shed (standing_of c js))));
}
  where
    stands : (rows : List ShedRow) (js : List Judged) → ShedderIs s rows js → (b : Bool) → ShedderIs s rows (Became (event.Room c n) (if b then verdict.Silent else verdict.Pass) ∷ js)
    stands rows js i true = record { rows_are = i.rows_are; states_are = i.states_are; rests_are = i.rests_are; clients_are = i.clients_are; posts_are = i.posts_are }
    stands rows js i false = record { rows_are = i.rows_are; states_are = i.states_are; rests_are = i.rests_are; clients_are = i.clients_are; posts_are = i.posts_are }

-- what the connections of clients are, where one has changed
clients_after : (c : ℕ) (old new : PagedMap Standing) (w : Option Standing) (find : ℕ → Option Standing) → Updates c old new w → ((q : ℕ) → value_at q old ≡ find q) → (q : ℕ) → value_at q new ≡ (if c == q then w else find q)
clients_after c old new w find u are q = u.0 q ∙ ap (λ b. cond b w (value_at q old)) (unsigned_tied c q) ∙ ap (λ o. cond (c == q) w o) (are q)

pub gone_judged : (old new : Shedder) (c : ℕ) (v : Verdict) → v ≡ silenced (value_at c old.clients) → Updates c old.clients new.clients None → new.rows ≡ old.rows → ((p : Point) → share_at p new ≡ share_at p old) → new.posts ≡ old.posts
    → Judges old (event.Gone c) new (Ok v)
gone_judged old new c v is u er es ep = record {
  goes = λ rows js i. (
    is ∙ ap silenced (i.clients_are c),
    subst (λ (w : Verdict). IsNumbered w (shed_at point.Drain js)) (sym is) (silenced_numbered (is_shed (value_at c old.clients)) (shed_at point.Drain js)),
    record {
      rows_are = ap (λ l. l.items) er ∙ i.rows_are;
      states_are = λ p. ap (λ s. s.state) (es p) ∙ i.states_are p;
      rests_are = λ p. ap (λ s. s.rest) (es p) ∙ i.rests_are p;
      clients_are = clients_after c old.clients new.clients None (λ q. standing_of q js) u i.clients_are;
      posts_are = ep ∙ i.posts_are ∙ sym (ap (λ w. shed_at point.Drain (Became (event.Gone c) w ∷ js)) is ∙ none_shed point.Drain (event.Gone c) (is_shed (value_at c old.clients)) js);
    },
  );
}

pub forgotten : (old new : Shedder) (c : ℕ) (v : Verdict) → Judges old (event.Gone c) new (Ok v) → Forgets old c new
forgotten old new c v j = record {
  goes = λ rows js i.
      let k = j.goes rows js i in
      subst (λ (w : Verdict). ShedderIs new rows (Became (event.Gone c) w ∷ js)) k.0 k.2;
}

-- ---- those that arrive

-- the verdict of an arrival, by whether it is due
abbrev by_due : Point → ℕ → Bool → Verdict
by_due p x due = if due then verdict.Shed p x else verdict.Pass

accept_numbered : (x : ℕ) (b : Bool) (n : ℕ) → IsNumbered (by_due point.Accept x b) n
accept_numbered x true n = tt
accept_numbered x false n = tt

read_numbered : (x : ℕ) (b : Bool) (n : ℕ) → IsNumbered (by_due point.Read x b) n
read_numbered x true n = tt
read_numbered x false n = tt

drain_numbered : (x : ℕ) (b : Bool) (n : ℕ) → n < 2 ^ 63 → IsNumbered (by_due point.Drain x b) n
drain_numbered x true n few = few
drain_numbered x false n few = tt

shed_by : (q p : Point) (e : Event) (x : ℕ) (b : Bool) (js : List Judged) → is_same p q ≡ false → shed_at q (Became e (by_due p x b) ∷ js) ≡ shed_at q js
shed_by q p e x true js other = ap (λ t. if t then shed_at q js + 1 else shed_at q js) other
shed_by q p e x false js other = refl

accepted_is : (x : ℕ) (b : Bool) → (if b then standing.Shed else standing.Served) ≡ accepted_as (by_due point.Accept x b)
accepted_is x true = refl
accepted_is x false = refl

module _ (old new : Shedder) (c : ℕ) (v : Verdict) (st : Standing)
    (most : old.accept.state ≤ 1000000)
    (v_is : v ≡ by_due point.Accept old.accept.state (nat_le 1000000 (old.accept.rest + old.accept.state)))
    (st_is : st ≡ (if nat_le 1000000 (old.accept.rest + old.accept.state) then standing.Shed else standing.Served))
    (u : Updates c old.clients new.clients (Some st))
    (rest : new.accept.rest ≡ (old.accept.rest + old.accept.state) % 1000000) (state : new.accept.state ≡ old.accept.state)
    (er : new.rows ≡ old.rows) (e_read : new.read ≡ old.read) (e_drain : new.drain ≡ old.drain) (ep : new.posts ≡ old.posts) where
  module _ (rows : List ShedRow) (js : List Judged) (i : ShedderIs old rows js) where
    abbrev x : ℕ
    x = state_after rows point.Accept (events_of js)

    abbrev s : ℕ
    s = sum_at rows point.Accept js

    due : nat_le 1000000 (old.accept.rest + old.accept.state) ≡ grows s x
    due = due_is old.accept.rest old.accept.state s x (i.rests_are point.Accept) (i.states_are point.Accept) (let k = i.states_are point.Accept in omega (arith, most, k))

    told : v ≡ share_of point.Accept s x
    told = v_is ∙ ap (λ b. by_due point.Accept old.accept.state b) due ∙ ap (λ n. by_due point.Accept n (grows s x)) (i.states_are point.Accept)

    states : (p : Point) → (share_at p new).state ≡ state_after rows p (events_of js)
    states point.Accept = state ∙ i.states_are point.Accept
    states point.Read = ap (λ k. k.state) e_read ∙ i.states_are point.Read
    states point.Drain = ap (λ k. k.state) e_drain ∙ i.states_are point.Drain

    rests : (p : Point) → (share_at p new).rest ≡ sum_at rows p (Became (event.Accept c) v ∷ js) % 1000000
    rests point.Accept = rest ∙ rest_is old.accept.rest old.accept.state s x (i.rests_are point.Accept) (i.states_are point.Accept)
    rests point.Read = ap (λ k. k.rest) e_read ∙ i.rests_are point.Read
    rests point.Drain = ap (λ k. k.rest) e_drain ∙ i.rests_are point.Drain

    stands_as : st ≡ accepted_as v
    stands_as = st_is ∙ ap (λ b. if b then standing.Shed else standing.Served) due ∙ accepted_is x (grows s x) ∙ sym (ap accepted_as told)

    after : ShedderIs new rows (Became (event.Accept c) v ∷ js)
    after = record {
      rows_are = ap (λ l. l.items) er ∙ i.rows_are;
      states_are = states;
      rests_are = rests;
      clients_are = λ q. clients_after c old.clients new.clients (Some st) (λ d. standing_of d js) u i.clients_are q ∙ ap (λ k. if c == q then Some k else standing_of q js) stands_as;
      posts_are = ep ∙ i.posts_are ∙ sym (ap (λ w. shed_at point.Drain (Became (event.Accept c) w ∷ js)) told ∙ shed_by point.Drain point.Accept (event.Accept c) x (grows s x) js refl);
    }

  pub accept_judged : Judges old (event.Accept c) new (Ok v)
  accept_judged = record {
    goes = λ rows js i.
        let N : Verdict → Type 0 = λ w. IsNumbered w (shed_at point.Drain js) in
        (told rows js i, subst N (sym (told rows js i)) (accept_numbered (x rows js i) (grows (s rows js i) (x rows js i)) (shed_at point.Drain js)), after rows js i);
  }

-- ---- reads

-- by what the connection is
abbrev read_verdict : List ShedRow → List Judged → ℕ → List ℕ → Option Standing → Verdict
read_verdict rows js c octets o = if is_shed o then verdict.Silent else verdict_at rows (event.Read c octets) js (read_point o)

abbrev read_sum : List ShedRow → List Judged → Point → Option Standing → ℕ
read_sum rows js p o = if is_point p (read_point o) then sum_at rows p js + state_after rows p (events_of js) else sum_at rows p js

known_as : (s : Shedder) (rows : List ShedRow) (js : List Judged) (c : ℕ) (o : Option Standing) → ShedderIs s rows js → value_at c s.clients ≡ o → standing_of c js ≡ o
known_as s rows js c o i known = sym (i.clients_are c) ∙ known

pub read_silent : (s : Shedder) (c : ℕ) (octets : List ℕ) → value_at c s.clients ≡ Some standing.Shed → Judges s (event.Read c octets) s (Ok verdict.Silent)
read_silent s c octets known = record {
  goes = λ rows js i.
      let e = known_as s rows js c (Some standing.Shed) i known in (
        sym (ap (read_verdict rows js c octets) e),
        tt,
        record {
          rows_are = i.rows_are;
          states_are = i.states_are;
          rests_are = λ p. i.rests_are p ∙ sym (ap (λ o. read_sum rows js p o % 1000000) e);
          clients_are = i.clients_are;
          posts_are = i.posts_are;
        },
      );
}

pub read_passes : (s : Shedder) (c : ℕ) (octets : List ℕ) → value_at c s.clients ≡ None → Judges s (event.Read c octets) s (Ok verdict.Pass)
read_passes s c octets known = record {
  goes = λ rows js i.
      let e = known_as s rows js c None i known in (
        sym (ap (read_verdict rows js c octets) e),
        tt,
        record {
          rows_are = i.rows_are;
          states_are = i.states_are;
          rests_are = λ p. i.rests_are p ∙ sym (ap (λ o. read_sum rows js p o % 1000000) e);
          clients_are = i.clients_are;
          posts_are = i.posts_are;
        },
      );
}

read_as : (q c : ℕ) (octets : List ℕ) (x : ℕ) (b : Bool) (js : List Judged) → standing_of q (Became (event.Read c octets) (by_due point.Read x b) ∷ js) ≡ (if b then (if c == q then Some standing.Shed else standing_of q js) else standing_of q js)
read_as q c octets x true js = refl
read_as q c octets x false js = refl

module _ (old new : Shedder) (c : ℕ) (octets : List ℕ) (v : Verdict)
    (most : old.read.state ≤ 1000000)
    (known : value_at c old.clients ≡ Some standing.Served)
    (v_is : v ≡ by_due point.Read old.read.state (nat_le 1000000 (old.read.rest + old.read.state)))
    (clients : (q : ℕ) → value_at q new.clients ≡ (if nat_le 1000000 (old.read.rest + old.read.state) then (if c == q then Some standing.Shed else value_at q old.clients) else value_at q old.clients))
    (rest : new.read.rest ≡ (old.read.rest + old.read.state) % 1000000) (state : new.read.state ≡ old.read.state)
    (er : new.rows ≡ old.rows) (e_accept : new.accept ≡ old.accept) (e_drain : new.drain ≡ old.drain) (ep : new.posts ≡ old.posts) where
  module _ (rows : List ShedRow) (js : List Judged) (i : ShedderIs old rows js) where
    abbrev x_read : ℕ
    x_read = state_after rows point.Read (events_of js)

    abbrev s_read : ℕ
    s_read = sum_at rows point.Read js

    served : standing_of c js ≡ Some standing.Served
    served = known_as old rows js c (Some standing.Served) i known

    due_read : nat_le 1000000 (old.read.rest + old.read.state) ≡ grows s_read x_read
    due_read = due_is old.read.rest old.read.state s_read x_read (i.rests_are point.Read) (i.states_are point.Read) (let k = i.states_are point.Read in omega (arith, most, k))

    told_read : v ≡ by_due point.Read x_read (grows s_read x_read)
    told_read = v_is ∙ ap (λ b. by_due point.Read old.read.state b) due_read ∙ ap (λ n. by_due point.Read n (grows s_read x_read)) (i.states_are point.Read)

    states_read : (p : Point) → (share_at p new).state ≡ state_after rows p (events_of js)
    states_read point.Read = state ∙ i.states_are point.Read
    states_read point.Accept = ap (λ k. k.state) e_accept ∙ i.states_are point.Accept
    states_read point.Drain = ap (λ k. k.state) e_drain ∙ i.states_are point.Drain

    rests_read : (p : Point) → (share_at p new).rest ≡ read_sum rows js p (Some standing.Served) % 1000000
    rests_read point.Read = rest ∙ rest_is old.read.rest old.read.state s_read x_read (i.rests_are point.Read) (i.states_are point.Read)
    rests_read point.Accept = ap (λ k. k.rest) e_accept ∙ i.rests_are point.Accept
    rests_read point.Drain = ap (λ k. k.rest) e_drain ∙ i.rests_are point.Drain

    find_read : (q : ℕ) → value_at q new.clients ≡ standing_of q (Became (event.Read c octets) v ∷ js)
    find_read q =
        clients q ∙ ap (λ b. if b then (if c == q then Some standing.Shed else value_at q old.clients) else value_at q old.clients) due_read
        ∙ ap (λ o. if grows s_read x_read then (if c == q then Some standing.Shed else o) else o) (i.clients_are q)
        ∙ sym (read_as q c octets x_read (grows s_read x_read) js) ∙ ap (λ w. standing_of q (Became (event.Read c octets) w ∷ js)) (sym told_read)

    after_read : ShedderIs new rows (Became (event.Read c octets) v ∷ js)
    after_read = record {
      rows_are = ap (λ l. l.items) er ∙ i.rows_are;
      states_are = states_read;
      rests_are = λ p. rests_read p ∙ sym (ap (λ o. read_sum rows js p o % 1000000) served);
      clients_are = find_read;
      posts_are = ep ∙ i.posts_are ∙ sym (ap (λ w. shed_at point.Drain (Became (event.Read c octets) w ∷ js)) told_read ∙ shed_by point.Drain point.Read (event.Read c octets) x_read (grows s_read x_read) js refl);
    }

  pub read_judged : Judges old (event.Read c octets) new (Ok v)
  read_judged = record {
    goes = λ rows js i.
        let N : Verdict → Type 0 = λ w. IsNumbered w (shed_at point.Drain js) in (
          told_read rows js i ∙ sym (ap (read_verdict rows js c octets) (served rows js i)),
          subst N (sym (told_read rows js i)) (read_numbered (x_read rows js i) (grows (s_read rows js i) (x_read rows js i)) (shed_at point.Drain js)),
          after_read rows js i,
        );
  }

-- by whether it is due
pub no_read_shed : (old new : PagedMap Standing) (c : ℕ) (b : Bool) → b ≡ false → new ≡ old → (q : ℕ) → value_at q new ≡ (if b then (if c == q then Some standing.Shed else value_at q old) else value_at q old)
no_read_shed old new c b e same q = ap (λ m. value_at q m) same ∙ sym (ap (λ t. if t then (if c == q then Some standing.Shed else value_at q old) else value_at q old) e)

pub read_shed : (old new : PagedMap Standing) (c : ℕ) (b : Bool) → b ≡ true → Updates c old new (Some standing.Shed) → (q : ℕ) → value_at q new ≡ (if b then (if c == q then Some standing.Shed else value_at q old) else value_at q old)
read_shed old new c b e u q = clients_after c old new (Some standing.Shed) (λ d. value_at d old) u (λ d. refl) q ∙ sym (ap (λ t. if t then (if c == q then Some standing.Shed else value_at q old) else value_at q old) e)

-- ---- obeys

drains_shed : (e : Event) (x : ℕ) (b : Bool) (js : List Judged) → shed_at point.Drain (Became e (by_due point.Drain x b) ∷ js) ≡ (if b then shed_at point.Drain js + 1 else shed_at point.Drain js)
drains_shed e x true js = refl
drains_shed e x false js = refl

module _ (old mid new : Shedder) (version : ℕ) (pressures : List ℕ) (v : Verdict)
    (few : old.posts < 2 ^ 63) (most : mid.drain.state ≤ 1000000)
    (mid_states : (p : Point) → (share_at p mid).state ≡ point_state old.rows.items pressures p)
    (mid_rests : (p : Point) → (share_at p mid).rest ≡ (share_at p old).rest)
    (mid_rows : mid.rows ≡ old.rows) (mid_clients : mid.clients ≡ old.clients) (mid_posts : mid.posts ≡ old.posts)
    (v_is : v ≡ by_due point.Drain mid.drain.state (nat_le 1000000 (mid.drain.rest + mid.drain.state)))
    (rest : new.drain.rest ≡ (mid.drain.rest + mid.drain.state) % 1000000) (state : new.drain.state ≡ mid.drain.state)
    (er : new.rows ≡ mid.rows) (e_accept : new.accept ≡ mid.accept) (e_read : new.read ≡ mid.read) (ec : new.clients ≡ mid.clients)
    (posts : new.posts ≡ (if nat_le 1000000 (mid.drain.rest + mid.drain.state) then mid.posts + 1 else mid.posts)) where
  module _ (rows : List ShedRow) (js : List Judged) (i : ShedderIs old rows js) where
    abbrev x_drain : ℕ
    x_drain = point_state rows pressures point.Drain

    abbrev s_drain : ℕ
    s_drain = sum_at rows point.Drain js

    set : (p : Point) → (share_at p mid).state ≡ point_state rows pressures p
    set p = mid_states p ∙ ap (λ l. point_state l pressures p) i.rows_are

    kept : (p : Point) → (share_at p mid).rest ≡ sum_at rows p js % 1000000
    kept p = mid_rests p ∙ i.rests_are p

    due_drain : nat_le 1000000 (mid.drain.rest + mid.drain.state) ≡ grows s_drain x_drain
    due_drain = due_is mid.drain.rest mid.drain.state s_drain x_drain (kept point.Drain) (set point.Drain) (let k = set point.Drain in omega (arith, most, k))

    told_drain : v ≡ by_due point.Drain x_drain (grows s_drain x_drain)
    told_drain = v_is ∙ ap (λ b. by_due point.Drain mid.drain.state b) due_drain ∙ ap (λ n. by_due point.Drain n (grows s_drain x_drain)) (set point.Drain)

    states_drain : (p : Point) → (share_at p new).state ≡ point_state rows pressures p
    states_drain point.Accept = ap (λ k. k.state) e_accept ∙ set point.Accept
    states_drain point.Read = ap (λ k. k.state) e_read ∙ set point.Read
    states_drain point.Drain = state ∙ set point.Drain

    rests_drain : (p : Point) → (share_at p new).rest ≡ sum_at rows p (Became (event.Obey version pressures) v ∷ js) % 1000000
    rests_drain point.Accept = ap (λ k. k.rest) e_accept ∙ kept point.Accept
    rests_drain point.Read = ap (λ k. k.rest) e_read ∙ kept point.Read
    rests_drain point.Drain = rest ∙ rest_is mid.drain.rest mid.drain.state s_drain x_drain (kept point.Drain) (set point.Drain)

    posts_drain : new.posts ≡ shed_at point.Drain (Became (event.Obey version pressures) v ∷ js)
    posts_drain =
        posts ∙ ap (λ b. if b then mid.posts + 1 else mid.posts) due_drain ∙ ap (λ n. if grows s_drain x_drain then n + 1 else n) (mid_posts ∙ i.posts_are)
        ∙ sym (ap (λ w. shed_at point.Drain (Became (event.Obey version pressures) w ∷ js)) told_drain ∙ drains_shed (event.Obey version pressures) x_drain (grows s_drain x_drain) js)

    after_drain : ShedderIs new rows (Became (event.Obey version pressures) v ∷ js)
    after_drain = record {
      rows_are = ap (λ l. l.items) (er ∙ mid_rows) ∙ i.rows_are;
      states_are = states_drain;
      rests_are = rests_drain;
      clients_are = λ q. ap (λ m. value_at q m) (ec ∙ mid_clients) ∙ i.clients_are q;
      posts_are = posts_drain;
    }

  pub obey_judged : Judges old (event.Obey version pressures) new (Ok v)
  obey_judged = record {
    goes = λ rows js i.
        let N : Verdict → Type 0 = λ w. IsNumbered w (shed_at point.Drain js) in
        let Few : ℕ → Type 0 = λ n. n < 2 ^ 63 in
        (told_drain rows js i, subst N (sym (told_drain rows js i)) (drain_numbered (x_drain rows js i) (grows (s_drain rows js i) (x_drain rows js i)) (shed_at point.Drain js) (subst Few i.posts_are few)), after_drain rows js i);
  }

-- the posts, by whether one is made
pub post_not_made : (mid : Shedder) (b found : Bool) → found ≡ b → found ≡ false → mid.posts ≡ (if b then mid.posts + 1 else mid.posts)
post_not_made mid b found is isnt = ap (λ t. if t then mid.posts + 1 else mid.posts) (sym (sym is ∙ isnt))

pub post_made : (mid : Shedder) (b found : Bool) → found ≡ b → found ≡ true → mid.posts + 1 ≡ (if b then mid.posts + 1 else mid.posts)
post_made mid b found is shed = ap (λ t. if t then mid.posts + 1 else mid.posts) (sym (sym is ∙ shed))
