-- What the links are after each of their calls, as far as a world asks.
use Rattle.flow_notes.specs.declared.events.Event.TheVariants as event
use Rattle.flow_notes.specs.declared.notes.Note.{Note}
use Rattle.flow_notes.specs.declared.notes.Note.TheVariants as note
use Rattle.proxy_config.specs.declared.config.Config.{Config}
use Rattle.proxy_config.specs.declared.config.LimitKeys.{LimitKeys}
use Rattle.std.proofs.Common.{ap, arith, refl, subst, sym, ◌∙◌}
use Rattle.exchange_core.proofs.Maps.{eq_by_number}
use Rattle.paged_map.specs.PagedMap.{PagedMap, Updates, WritesThrough, value_at}
use Rattle.std.specs.Option.{option_map, option_map_or}
use Rattle.std.specs.Prelude.{Bool, IfSome, List, None, Option, Some, [], cond, false, if◌then◌else◌, is_some, length, nat_eq, not, true, ℕ, ◌&&◌, ◌==◌, ◌∷◌, ◌≡◌, ◌≤◌}
use Rattle.tape_laws.specs.Connections.{connections, was_closed}
use Rattle.tape_laws.specs.Dispatches.{has}
use Rattle.tape_laws.specs.History.{Noted}
use Rattle.tape_laws.specs.World.{out}
use Rattle.wire_flows.proofs.Cases.{by_case, some_mapped}
use Rattle.wire_flows.specs.Flows.{Flows, flow_in}
use Rattle.wire_links.proofs.Under.{choice, under_changed, under_insert, under_remove}
use Rattle.wire_links.specs.Links.{IsSound, Links, accepted, doomed, ends_of, forgotten, framed, is_known, joined, new_conn, started, with_conn, with_stream}
use Rattle.wire_links.specs.Numbers.{under}
use Rattle.wire_links.specs.declared.conn.Conn.{Conn as Link}
use Rattle.wire_links.specs.declared.links.exchanges.Ends.{Ends}
use Rattle.wire_state.proofs.Fitting.{fits_now, less_out, outs_fit, still_fits}
use Rattle.wire_state.proofs.Held.{is_number}
use Rattle.wire_state.proofs.Marked.{marks_go}
use Rattle.wire_state.proofs.Sending.{fronts_still, unborn_still}
use Rattle.wire_state.proofs.Standing.{as_if, conns_written, flow_still, if_some}
use Rattle.wire_state.proofs.Lives.{LinksOne, OpensStream, UnlinksOne}
use Rattle.wire_state.specs.Marks.{Footing}
use Rattle.wire_state.specs.Ways.{WayHistory, after, world_setup}
use Rattle.wire_state.specs.Worlds.{EndsAre, Stands, ToldBy, has_conn, is_shut, octets_of}
use Rattle.wire_state.specs.declared.conn.Conn.{Conn}

-- ---- exchanges
pub unlinks : (x : ℕ) (links new : Links) → IsSound links → new ≡ doomed x links → UnlinksOne x links new
unlinks x links new s e = record {
  ends = λ y. ap (λ (l : Links). ends_of y l) e ∙ under_remove links.exchanges x y s.exchanges;
  known = λ c. ap (λ (l : Links). is_known c l) e;
}

pub links_one : (x c s : ℕ) (to : Option ℕ) (links new : Links) → new ≡ started x c s to links → LinksOne x c s to links new
links_one x c s to links new e = record {
  ends = λ y. ap (λ (l : Links). ends_of y l) e ∙ under_insert links.exchanges x y (record { client = c; stream = s; cluster = to; cluster_stream = None });
  known = λ d. ap (λ (l : Links). is_known d l) e;
}

pub links_placed : (x s : ℕ) (links new : Links) → new ≡ framed x s links → OpensStream x s links new
links_placed x s links new e = record {
  ends = λ y. ap (λ (l : Links). ends_of y l) e ∙ under_changed links.exchanges x y (with_stream s);
  known = λ d. ap (λ (l : Links). is_known d l) e;
}

-- ---- connections
-- the exchanges have the ends that they had, and no number was forgotten
pub record KeepsEnds (old new : Links) : Type 0 where
  pub ends : (x : ℕ) → ends_of x new ≡ ends_of x old
  pub known : (c : ℕ) → is_known c new ≡ false → is_known c old ≡ false

pub links_go : {l : LimitKeys} → (old new : Links) → KeepsEnds old new → (conns : PagedMap Conn) (flows : Flows) (h : WayHistory) → Stands l conns flows old h → Stands l conns flows new h
links_go old new k conns flows h s = record {
  writes = s.writes;
  flows_are = s.flows_are;
  empty = s.empty;
  ends = λ x. subst (λ (o : Option Ends). IfSome o (EndsAre x h)) (sym (k.ends x)) (s.ends x);
  known = λ c e. s.known c (k.known c e);
  closed = s.closed;
  come = s.come;
  unborn = s.unborn;
  fronts = s.fronts;
  taking = s.taking;
  fits = s.fits;
  marks = marks_go flows flows old new h h refl k.ends refl (λ x. refl) s.marks;
}

pub links_told : {k : Config} {l : Footing} {t u : Option ℕ} → (old new : Links) → KeepsEnds old new → (conns : PagedMap Conn) (flows : Flows) (h : WayHistory) (g : ℕ → List ℕ) (start notes : List Note) → ToldBy k l t u h g start conns flows old notes → ToldBy k l t u h g start conns flows new notes
links_told old new k conns flows h g start notes t = record { steps = t.steps; is = t.is; stands = links_go old new k conns flows (after t.steps h) t.stands; counts = t.counts; left = t.left; under = t.under; ways = t.ways; rows = t.rows; since = t.since }

still_there : (c d : ℕ) (f : Link → Link) (es : List (ℕ × Link)) → is_some (if nat_eq c d then option_map f (under c es) else under d es) ≡ is_some (under d es)
still_there c d f es = by_case (nat_eq c d)
    (λ e. ap (λ b. is_some (if b then option_map f (under c es) else under d es)) e ∙ (some_mapped f (under c es) ∙ ap (λ v. is_some (under v es)) (is_number c d e)))
    (λ e. ap (λ b. is_some (if b then option_map f (under c es) else under d es)) e)

pub conn_changed_keeps : (c : ℕ) (f : Link → Link) (links new : Links) → new ≡ with_conn c f links → KeepsEnds links new
conn_changed_keeps c f links new e = record {
  ends = λ x. ap (λ (l : Links). ends_of x l) e;
  known = λ d none. sym (ap (λ (l : Links). is_known d l) e ∙ (ap is_some (under_changed links.conns c d f) ∙ still_there c d f links.conns)) ∙ none;
}

pub conn_changed_known : (c : ℕ) (f : Link → Link) (links new : Links) → new ≡ with_conn c f links → (d : ℕ) → is_known d new ≡ is_known d links
conn_changed_known c f links new e d = ap (λ (l : Links). is_known d l) e ∙ (ap is_some (under_changed links.conns c d f) ∙ still_there c d f links.conns)

inserted_none : (b : Bool) (v : Link) (o : Option Link) → is_some (if b then Some v else o) ≡ false → is_some o ≡ false
inserted_none true v o e = cc
inserted_none false v o e = e

pub accepted_keeps : (c : ℕ) (links new : Links) → new ≡ accepted c links → KeepsEnds links new
accepted_keeps c links new e = record {
  ends = λ x. ap (λ (l : Links). ends_of x l) e;
  known = λ d none. inserted_none (nat_eq c d) (new_conn None) _ (sym (ap is_some (under_insert links.conns c d (new_conn None))) ∙ (sym (ap (λ (l : Links). is_known d l) e) ∙ none));
}

pub joined_keeps : (c k : ℕ) (links new : Links) → new ≡ joined c k links → KeepsEnds links new
joined_keeps c k links new e = record {
  ends = λ x. ap (λ (l : Links). ends_of x l) e;
  known = λ d none. inserted_none (nat_eq c d) (new_conn (Some k)) _ (sym (ap is_some (under_insert links.conns c d (new_conn (Some k)))) ∙ (sym (ap (λ (l : Links). is_known d l) e) ∙ none));
}

pub accepted_known : (c : ℕ) (links new : Links) → new ≡ accepted c links → is_known c new ≡ true
accepted_known c links new e = ap (λ (l : Links). is_known c l) e ∙ ap is_some (under_insert links.conns c c (new_conn None) ∙ choice c c (Some (new_conn None)) _ refl)

pub joined_known : (c k : ℕ) (links new : Links) → new ≡ joined c k links → is_known c new ≡ true
joined_known c k links new e = ap (λ (l : Links). is_known c l) e ∙ ap is_some (under_insert links.conns c c (new_conn (Some k)) ∙ choice c c (Some (new_conn (Some k))) _ refl)

-- ---- a connection comes
-- it is there now, open and without octets, where none was; the others are as they were
pub record ComesNew (n : ℕ) (old new : PagedMap Conn) : Type 0 where
  pub none : has_conn n old ≡ false
  pub octets : octets_of n new ≡ []
  pub opened : is_shut n new ≡ false
  pub others : (c : ℕ) → (n == c) ≡ false → value_at c new ≡ value_at c old

pub updated_at : (n : ℕ) (old new : PagedMap Conn) (o : Option Conn) → Updates n old new o → (q : ℕ) → value_at q new ≡ (if n == q then o else value_at q old)
updated_at n old new o u q = u.0 q ∙ (ap (λ b. cond b o (value_at q old)) (eq_by_number n q) ∙ as_if (n == q) o (value_at q old))

other_there : (n : ℕ) (old new : PagedMap Conn) (o : Option Conn) → Updates n old new o → (c : ℕ) → (n == c) ≡ false → value_at c new ≡ value_at c old
other_there n old new o u c e = updated_at n old new o u c ∙ ap (λ b. if b then o else value_at c old) e

pub comes_new : (n : ℕ) (old new : PagedMap Conn) (v : Conn) → has_conn n old ≡ false → Updates n old new (Some v) → v.outlet.write.octets ≡ [] → v.open ≡ true → ComesNew n old new
comes_new n old new v none u empty opened = record {
  none = none;
  octets = ap (λ (o : Option Conn). option_map_or (λ conn. conn.outlet.write.octets) o []) u.1 ∙ empty;
  opened = ap (λ (o : Option Conn). option_map_or (λ conn. not conn.open) o false) u.1 ∙ ap not opened;
  others = other_there n old new (Some v) u;
}

pub none_octets : (n : ℕ) (conns : PagedMap Conn) → has_conn n conns ≡ false → octets_of n conns ≡ []
none_octets n conns e = at (value_at n conns) e
  where
    at : (o : Option Conn) → is_some o ≡ false → option_map_or (λ conn. conn.outlet.write.octets) o [] ≡ []
    at None e = refl
    at (Some v) e = cc

pub comes : {l : LimitKeys} → (n : ℕ) (old new : PagedMap Conn) → ComesNew n old new → (flows : Flows) (links : Links) (h : WayHistory) → is_known n links ≡ true → has (connections world_setup h) n ≡ true → was_closed n h ≡ false
    → Stands l old flows links h → Stands l new flows links h
comes n old new c flows links h known came fresh s = record {
  writes = λ d. by_case (n == d)
      (λ e. let is = is_number n d e in
      ap (λ v. octets_of v new) (sym is) ∙ (c.octets ∙ (sym (none_octets n old c.none) ∙ (s.writes n ∙ ap (λ v. out world_setup v h) is))))
      (λ e. ap (λ (o : Option Conn). option_map_or (λ conn. conn.outlet.write.octets) o []) (c.others d e) ∙ s.writes d);
  flows_are = s.flows_are;
  empty = s.empty;
  ends = s.ends;
  known = λ d none. by_case (n == d)
      (λ e. absurd (cc (ap (λ v. is_known v links) (is_number n d e), known, none)))
      (λ e. ap is_some (c.others d e) ∙ s.known d none);
  closed = λ d there. by_case (n == d)
      (λ e. let is = is_number n d e in ap (λ v. was_closed v h) (sym is) ∙ (fresh ∙ (sym c.opened ∙ ap (λ v. is_shut v new) is)))
      (λ e. s.closed d (sym (ap is_some (c.others d e)) ∙ there) ∙ sym (ap (λ (o : Option Conn). option_map_or (λ conn. not conn.open) o false) (c.others d e)));
  come = λ d e. let never = s.come d e in by_case (n == d)
      (λ same. absurd (cc (ap (λ v. has (connections world_setup h) v) (is_number n d same), came, e)))
      (λ other. (ap is_some (c.others d other) ∙ never.0, never.1));
  unborn = s.unborn;
  fronts = s.fronts;
  taking = s.taking;
  fits = s.fits;
  marks = s.marks;
}

-- ---- a connection is forgotten
pub record ForgetsConn (n : ℕ) (old new : PagedMap Conn) : Type 0 where
  pub empty : octets_of n old ≡ []
  pub gone : value_at n new ≡ None
  pub others : (c : ℕ) → (n == c) ≡ false → value_at c new ≡ value_at c old

pub forgotten_known : (c : ℕ) (links new : Links) → IsSound links → new ≡ forgotten c links → (d : ℕ) → (c == d) ≡ false → is_known d new ≡ is_known d links
forgotten_known c links new s e d apart = ap (λ (l : Links). is_known d l) e ∙ ap is_some (under_remove links.conns c d s.conns ∙ ap (λ b. if b then None else under d links.conns) apart)

pub forgets_conn : (n : ℕ) (old new : PagedMap Conn) → octets_of n old ≡ [] → Updates n old new None → ForgetsConn n old new
forgets_conn n old new empty u = record { empty = empty; gone = u.1; others = other_there n old new None u }

pub forgets : {l : LimitKeys} → (n : ℕ) (old new : PagedMap Conn) → ForgetsConn n old new → (flows : Flows) (links links' : Links) (h : WayHistory) → ((x : ℕ) → ends_of x links' ≡ ends_of x links)
    → ((c : ℕ) → (n == c) ≡ false → is_known c links' ≡ is_known c links) → Stands l old flows links h → Stands l new flows links' h
forgets n old new f flows links links' h same known s = record {
  writes = λ d. by_case (n == d)
      (λ e. let is = is_number n d e in
      ap (λ v. octets_of v new) (sym is) ∙ (ap (λ (o : Option Conn). option_map_or (λ conn. conn.outlet.write.octets) o []) f.gone ∙ (sym f.empty ∙ (s.writes n ∙ ap (λ v. out world_setup v h) is))))
      (λ e. ap (λ (o : Option Conn). option_map_or (λ conn. conn.outlet.write.octets) o []) (f.others d e) ∙ s.writes d);
  flows_are = s.flows_are;
  empty = s.empty;
  ends = λ x. subst (λ (o : Option Ends). IfSome o (EndsAre x h)) (sym (same x)) (s.ends x);
  known = λ d none. by_case (n == d)
      (λ e. ap (λ v. has_conn v new) (sym (is_number n d e)) ∙ ap is_some f.gone)
      (λ e. ap is_some (f.others d e) ∙ s.known d (sym (known d e) ∙ none));
  closed = λ d there. by_case (n == d)
      (λ e. absurd (cc (ap (λ v. has_conn v new) (sym (is_number n d e)) ∙ ap is_some f.gone, there)))
      (λ e. s.closed d (sym (ap is_some (f.others d e)) ∙ there) ∙ sym (ap (λ (o : Option Conn). option_map_or (λ conn. not conn.open) o false) (f.others d e)));
  come = λ d e. let never = s.come d e in
      (by_case (n == d) (λ same. ap (λ v. has_conn v new) (sym (is_number n d same)) ∙ ap is_some f.gone) (λ other. ap is_some (f.others d other) ∙ never.0), never.1);
  unborn = s.unborn;
  fronts = s.fronts;
  taking = s.taking;
  fits = s.fits;
  marks = marks_go flows flows links links' h h refl same refl (λ x. refl) s.marks;
}

-- ---- a connection that is closed is lost
-- its octets are dropped by the turn note that tells so
pub record DropsRest (n : ℕ) (old new : PagedMap Conn) : Type 0 where
  pub closed_ : has_conn n old ≡ true → is_shut n old ≡ true
  pub octets : (c : ℕ) → octets_of c new ≡ (if n == c then [] else octets_of c old)
  pub shut : (c : ℕ) → is_shut c new ≡ is_shut c old
  pub there : (c : ℕ) → has_conn c new ≡ has_conn c old

-- one connection, which isn't open, has no octets any more
pub one_drops : (n : ℕ) (old new : PagedMap Conn) (v w : Conn) → value_at n old ≡ Some v → WritesThrough n old w new → w.outlet.write.octets ≡ [] → w.open ≡ v.open → v.open ≡ false → DropsRest n old new
one_drops n old new v w found written empty opened shut =
    let c = conns_written n old new v w found written (λ xs. []) empty opened in
    record {
      closed_ = λ there. ap (λ (o : Option Conn). option_map_or (λ conn. not conn.open) o false) found ∙ ap not shut;
      octets = c.octets;
      shut = c.shut;
      there = c.there;
    }

-- none is there
pub none_drops : (n : ℕ) (conns : PagedMap Conn) → value_at n conns ≡ None → DropsRest n conns conns
none_drops n conns none = record {
  closed_ = λ there. absurd (cc (ap is_some none, there));
  octets = λ c. by_case (n == c)
      (λ e. ap (λ v. octets_of v conns) (sym (is_number n c e)) ∙ (none_octets n conns (ap is_some none) ∙ sym (ap (λ b. if b then [] else octets_of c conns) e)))
      (λ e. sym (ap (λ b. if b then [] else octets_of c conns) e));
  shut = λ c. refl;
  there = λ c. refl;
}

pub drops_rest : {l : LimitKeys} → (n k : ℕ) (old new : PagedMap Conn) → DropsRest n old new → (flows : Flows) (links : Links) (h : WayHistory)
    → Stands l old flows links h → Stands l new flows links (Noted (note.Turn k (event.Gone n)) ∷ h)
drops_rest {l} n k old new d flows links h s = record {
  writes = at;
  flows_are = λ f. if_some (flow_in flows f) (flow_still f h (Noted (note.Turn k (event.Gone n)) ∷ h) (record { places = λ p. refl; stages = refl; came = refl; went = refl })) (s.flows_are f);
  empty = s.empty;
  ends = λ x. if_some (ends_of x links) (λ e is. record { client = is.client; cluster = is.cluster }) (s.ends x);
  known = λ c e. d.there c ∙ s.known c e;
  closed = λ c e. s.closed c (sym (d.there c) ∙ e) ∙ sym (d.shut c);
  come = λ c e. let never = s.come c e in (d.there c ∙ never.0, never.1);
  unborn = unborn_still flows flows h (Noted (note.Turn k (event.Gone n)) ∷ h) refl (λ f none. none) (λ f none. (refl, refl)) s.unborn;
  fronts = fronts_still (Noted (note.Turn k (event.Gone n))) h (λ f. refl) (λ f. refl) s.fronts;
  taking = (tt, s.taking);
  fits = let fit = fits_now h s.fits in (
    record {
      flows = λ f. still_fits f h (Noted (note.Turn k (event.Gone n)) ∷ h) (record { places = λ p. refl; stages = refl; came = refl; went = refl }) (fit.flows f);
      outs = outs_fit l old new h (Noted (note.Turn k (event.Gone n)) ∷ h) s.writes at (λ c fits. less_out l (octets_of c old) (octets_of c new) (shorter c) fits) fit.outs;
    },
    s.fits,
  );
  marks = marks_go flows flows links links h (Noted (note.Turn k (event.Gone n)) ∷ h) refl (λ x. refl) refl (λ x. refl) s.marks;
}
  where
    -- where it isn't there nothing waited for it
    dropped : (b : Bool) → has_conn n old ≡ b → (if was_closed n h then [] else out world_setup n h) ≡ []
    dropped true e = ap (λ c. if c then [] else out world_setup n h) (s.closed n e ∙ d.closed_ e)
    dropped false e = none (was_closed n h)
      where
        none : (c : Bool) → (if c then [] else out world_setup n h) ≡ []
        none true = refl
        none false = sym (s.writes n) ∙ none_octets n old e

    at : (c : ℕ) → octets_of c new ≡ (if (n == c) && was_closed c h then [] else out world_setup c h)
    at c = by_case (n == c)
        (λ e. let is = is_number n c e in
        d.octets c ∙ (ap (λ b. if b then [] else octets_of c old) e
        ∙ (sym (dropped (has_conn n old) refl) ∙ (ap (λ v. if was_closed v h then [] else out world_setup v h) is ∙ sym (ap (λ b. if b && was_closed c h then [] else out world_setup c h) e)))))
        (λ e. d.octets c ∙ (ap (λ b. if b then [] else octets_of c old) e ∙ (s.writes c ∙ sym (ap (λ b. if b && was_closed c h then [] else out world_setup c h) e))))

    left : (b : Bool) (xs : List ℕ) → length (if b then [] else xs) ≤ length xs
    left true xs = omega arith
    left false xs = omega arith

    shorter : (c : ℕ) → length (octets_of c new) ≤ length (octets_of c old)
    shorter c = subst (λ (xs : List ℕ). length xs ≤ length (octets_of c old)) (sym (d.octets c)) (left (n == c) (octets_of c old))
