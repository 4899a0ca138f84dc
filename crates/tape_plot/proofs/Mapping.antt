-- All exchanges and all connections, note by note.
use Rattle.flow_rules.specs.declared.ids.FlowId.{FlowId}
use Rattle.flow_notes.specs.declared.notes.Note.{Note}
use Rattle.std.proofs.Common.{ap, arith, refl, subst, sym, true≢false, ◌∙◌}
use Rattle.std.proofs.lemmas.Bool.Decides.{nat_tests}
use Rattle.std.proofs.lemmas.Bool.{eqb-false, eqb-true}
use Rattle.std.proofs.lemmas.List.{length-map}
use Rattle.std.specs.BTreeMap.{BTreeMap, get, is_at}
use Rattle.std.specs.Ordering.{nat_cmp}
use Rattle.std.specs.Prelude.{Bool, List, None, Option, Some, cond, false, if◌then◌else◌, is_some, length, nat_eq, true, ℕ, ◌+◌, ◌∷◌, ◌≡◌}
use Rattle.tape_laws.specs.History.{History, NoMark, Noted}
use Rattle.tape_plot.proofs.Columns.{eq_false, eq_true}
use Rattle.tape_plot.proofs.Standing.{StillConnection, connection_still, exchange_still, not_both, not_nothing, nothing_not, quiet, same_connection, same_exchange}
use Rattle.tape_plot.specs.Flows.{FlowIs, IsFresh, LanesAre}
use Rattle.tape_plot.specs.Goes.{ConnectionGoes, ConnectionsFill, ConnectionsGo, ConnectionsStay, ExchangeGoes, ExchangesGo, ExchangesStay, IsNew, LevelsGo, level_of}
use Rattle.tape_plot.specs.Kept.{ConnectionAt, ConnectionIs, ExchangeAt, ExchangeIs, ExchangesAre, IsUntold, goes_to}
use Rattle.tape_plot.specs.Lanes.{Drawn, LaneIs, Sets, drawn_of}
use Rattle.tape_plot.specs.Levels.{places, shown_count, written}
use Rattle.tape_plot.specs.Subjects.{flow_id, subject_of}
use Rattle.tape_plot.specs.declared.clock.Clock.{Clock}
use Rattle.tape_plot.specs.declared.connection.Connection.{Connection}
use Rattle.tape_plot.specs.declared.connections.Connections.{Connections}
use Rattle.tape_plot.specs.declared.exchange.Exchange.{Exchange}
use Rattle.tape_plot.specs.declared.exchange.Fill.{Fill}
use Rattle.tape_plot.specs.declared.exchange.Relay.{Relay}
use Rattle.tape_plot.specs.declared.exchanges.Exchanges.{Exchanges}
use Rattle.tape_plot.specs.declared.flow.Flow.{Flow}
use Rattle.tape_plot.specs.declared.flow.Place.{Place}
use Rattle.tape_plot.specs.declared.levels.Levels.{Levels}
use Rattle.tape_plot.specs.declared.subject.Subject.TheVariants as subject

-- ---- a map that is written at one number

pub at_number : (x y : ℕ) → is_at (nat_cmp x) y ≡ nat_eq x y
at_number x y = grind (arith, nat_tests)

-- at each number the new map has what the old one has, but at x
abbrev pub PutAt : {A : Type 0} → ℕ → Option A → BTreeMap ℕ A → BTreeMap ℕ A → Type 0
PutAt x w m n = (y : ℕ) → get nat_cmp n y ≡ cond (is_at (nat_cmp x) y) w (get nat_cmp m y)

pub each_put : {A : Type 0} (P Q : Option A → ℕ → Type 0) (m n : BTreeMap ℕ A) (x : ℕ) (w : Option A) → PutAt x w m n
    → ((y : ℕ) → (x ≡ y → ⊥) → P (get nat_cmp m y) y → Q (get nat_cmp m y) y) → Q w x → ((y : ℕ) → P (get nat_cmp m y) y) → (y : ℕ) → Q (get nat_cmp n y) y
each_put {A} P Q m n x w puts keeps here was y = by (nat_eq x y) refl
  where
    at_key : (b : Bool) → nat_eq x y ≡ b → get nat_cmp n y ≡ cond b w (get nat_cmp m y)
    at_key b e = puts y ∙ ap (λ (v : Bool). cond v w (get nat_cmp m y)) (at_number x y ∙ e)

    by : (b : Bool) → nat_eq x y ≡ b → Q (get nat_cmp n y) y
    by true e = subst (λ (o : Option A). Q o y) (sym (at_key true e)) (subst (λ (v : ℕ). Q w v) (eqb-true x y e) here)
    by false e = subst (λ (o : Option A). Q o y) (sym (at_key false e)) (keeps y (eqb-false x y e) (was y))

-- ---- one that is new

pub new_flow : (flow : Flow) (f : FlowId) (first : ℕ) (h : History NoMark) → IsFresh flow → IsUntold f first h → FlowIs flow f first h
new_flow flow f first h is u = record {
  held = is.held ∙ u.held;
  lanes = subst (λ (v : List Drawn). LanesAre v (places f) first h) (sym is.lanes) u.lanes;
  many = sym (length-map flow.places.items (λ (p : Place). drawn_of p.lane)) ∙ ap length is.lanes ∙ ap length u.held;
  pauses = is.pauses ∙ u.pauses;
  resumes = is.resumes ∙ u.resumes;
  doomed = is.doomed ∙ u.doomed;
  count = subst (λ (v : Drawn). LaneIs v (shown_count f) first h) (sym is.count) u.count;
}

new_exchange : (e : Exchange) (x first : ℕ) (h : History NoMark) → IsNew e → ((back : Bool) → IsUntold (flow_id x back) first h) → ExchangeIs e x first h
new_exchange e x first h is u = record {
  request = new_flow e.request (flow_id x false) first h is.request (u false);
  response = new_flow e.response (flow_id x true) first h is.response (u true);
  relay = λ back. ap (λ (v : Option Relay). goes_to v back) is.relay ∙ (u back).relay;
}

pub exchange_known : (old new : Exchanges) (x : ℕ) (e : Exchange) → IsNew e → get nat_cmp old.items x ≡ None → PutAt x (Some e) old.items new.items → ExchangesStay old new
exchange_known old new x e is none puts = record {
  goes = λ first h are. record {
    each = each_put (λ o y. ExchangeAt o y first h) (λ o y. ExchangeAt o y first h) old.items new.items x (Some e) puts (λ y differ k. k)
        (new_exchange e x first h is (subst (λ (o : Option Exchange). ExchangeAt o x first h) none (are.each x))) are.each;
  };
}

-- ---- one that is lent

pub not_there : {A : Type 0} (o : Option A) (b : Bool) → b ≡ is_some o → b ≡ false → o ≡ None
not_there None b e f = refl
not_there (Some x) b e f = absurd (true≢false (sym e ∙ f))

pub exchange_goes : (old mid new : Exchanges) (x : ℕ) (e f : Exchange) (n : Note) (clock : Clock) → ExchangesStay old mid → Some e ≡ get nat_cmp mid.items x → PutAt x (Some f) mid.items new.items
    → subject_of n ≡ subject.Exchange x → ExchangeGoes e n clock f → ExchangesGo old n clock new
exchange_goes old mid new x e f n clock stay is puts s g = record {
  goes = λ h t are.
      let m = stay.goes clock.first h are in record {
        each = each_put (λ o y. ExchangeAt o y clock.first h) (λ o y. ExchangeAt o y clock.first (Noted n ∷ h)) mid.items new.items x (Some f) puts
            (λ y differ k. exchange_still (get nat_cmp mid.items y) y clock.first n h (λ u. differ (same_exchange x y (sym s ∙ u))) k)
            (g.goes x h s t (subst (λ (o : Option Exchange). ExchangeAt o x clock.first h) (sym is) (m.each x))) m.each;
      };
}

pub connection_goes : (old mid new : Connections) (c : ℕ) (k l : Connection) (n : Note) (clock : Clock) → ConnectionsStay old mid → Some k ≡ get nat_cmp mid.items c → PutAt c (Some l) mid.items new.items
    → subject_of n ≡ subject.Connection c → ConnectionGoes k n clock l → ConnectionsGo old n clock new
connection_goes old mid new c k l n clock stay is puts s g = record {
  goes = λ h t are.
      let m = stay.goes clock.first h are in record {
        each = each_put (λ o y. ConnectionAt o y clock.first h) (λ o y. ConnectionAt o y clock.first (Noted n ∷ h)) mid.items new.items c (Some l) puts
            (λ y differ p.
            let q : StillConnection y (Noted n) h = quiet n y h (λ x u. not_both (subject_of n) c x s u) (λ u. differ (same_connection c y (sym s ∙ u))) in
            connection_still (get nat_cmp mid.items y) y clock.first (Noted n) h q.write q.closed p)
            (g.goes c h s t (subst (λ (o : Option Connection). ConnectionAt o c clock.first h) (sym is) (m.each c))) m.each;
      };
}

nothing_more : (a : ℕ) → a + 0 ≡ a
nothing_more a = omega arith

-- octets come to one connection
pub connection_fills : (old mid new : Connections) (o : Option Fill) (fill : Fill) (k l : Connection) (clock : Clock) → ConnectionsStay old mid → Some k ≡ get nat_cmp mid.items fill.conn → PutAt fill.conn (Some l) mid.items new.items
    → l.is_closed ≡ k.is_closed → Sets (drawn_of k.write.lane) (level_of k + fill.n) clock (drawn_of l.write.lane) → o ≡ Some fill → ConnectionsFill old o clock new
connection_fills old mid new o fill k l clock stay is puts same w e = subst (λ (v : Option Fill). ConnectionsFill old v clock new) (sym e) (record {
  goes = λ step h t more closed are.
      let m = stay.goes clock.first h are in
      let here : ConnectionIs k fill.conn clock.first h = subst (λ (o : Option Connection). ConnectionAt o fill.conn clock.first h) (sym is) (m.each fill.conn) in record {
        each = each_put (λ o y. ConnectionAt o y clock.first h) (λ o y. ConnectionAt o y clock.first (step ∷ h)) mid.items new.items fill.conn (Some l) puts
            (λ y differ p. connection_still (get nat_cmp mid.items y) y clock.first step h
            (more y ∙ ap (λ (b : Bool). written y h + (if b then fill.n else 0)) (eq_false fill.conn y _ refl differ) ∙ nothing_more (written y h)) (closed y) p)
            (record {
              write = w.goes (written fill.conn) step h here.write t
                  (more fill.conn ∙ ap (λ (b : Bool). written fill.conn h + (if b then fill.n else 0)) (eq_true fill.conn fill.conn _ refl refl) ∙ ap (λ (v : ℕ). v + fill.n) (sym here.write.now));
              closed = same ∙ here.closed ∙ sym (closed fill.conn);
            })
            m.each;
      };
})

-- or none do
pub nothing_fills : (old new : Connections) (clock : Clock) → new.items ≡ old.items → ConnectionsFill old None clock new
nothing_fills old new clock e = record {
  goes = λ step h t more closed are. record {
    each = λ y. subst (λ (m : BTreeMap ℕ Connection). ConnectionAt (get nat_cmp m y) y clock.first (step ∷ h)) (sym e)
        (connection_still (get nat_cmp old.items y) y clock.first step h (more y ∙ nothing_more (written y h)) (closed y) (are.each y));
  };
}

-- ---- all of it

exchanges_still : (es : Exchanges) (first : ℕ) (n : Note) (h : History NoMark) → ((x : ℕ) → subject_of n ≡ subject.Exchange x → ⊥) → ExchangesAre es first h → ExchangesAre es first (Noted n ∷ h)
exchanges_still es first n h none are = record { each = λ x. exchange_still (get nat_cmp es.items x) x first n h (none x) (are.each x) }

pub levels_connected : (old new : Levels) (n : Note) (c : ℕ) (clock : Clock) → subject_of n ≡ subject.Connection c → new.exchanges ≡ old.exchanges → ConnectionsGo old.connections n clock new.connections → LevelsGo old n clock new
levels_connected old new n c clock s e g = record {
  goes = λ h t are. record {
    exchanges = subst (λ (v : Exchanges). ExchangesAre v clock.first (Noted n ∷ h)) (sym e) (exchanges_still old.exchanges clock.first n h (λ x u. not_both (subject_of n) c x s u) are.exchanges);
    connections = g.goes h t are.connections;
  };
}

pub levels_still : (old : Levels) (n : Note) (clock : Clock) → subject_of n ≡ subject.Nothing → LevelsGo old n clock old
levels_still old n clock s = record {
  goes = λ h t are. record {
    exchanges = exchanges_still old.exchanges clock.first n h (λ x u. not_nothing (subject_of n) x s u) are.exchanges;
    connections = record {
      each = λ y.
          let q : StillConnection y (Noted n) h = quiet n y h (λ x u. not_nothing (subject_of n) x s u) (λ u. nothing_not (subject_of n) y s u) in
          connection_still (get nat_cmp old.connections.items y) y clock.first (Noted n) h q.write q.closed (are.connections.each y);
    };
  };
}
