use Rattle.std.proofs.Common.{ap, refl, subst, sym, ◌∙◌}
use Rattle.std.specs.BTreeMap.{is_at}
use Rattle.std.specs.Ordering.{nat_cmp}
use Rattle.std.specs.Set.{remove_key}
use Rattle.wire_links.proofs.Calls.{kept_same}
use Rattle.wire_links.proofs.Comes.{CanForget, forgets, gone}
use Rattle.wire_links.proofs.Reading.{seen_gone}
use Rattle.wire_links.proofs.Forgetting.{IsWithdrawn, none_left, withdrawn}
use Rattle.wire_links.proofs.links.Links.forget.Goals.{After-drop-seat-inside-in-Some}
use Rattle.wire_links.proofs.Under.{remove_absent}
use Rattle.wire_links.specs.Kept.{AreKept}
use Rattle.wire_links.specs.Links.{exchanges_of}
use Rattle.wire_links.specs.declared.conn.Conn.{Conn}
use Rattle.wire_links.proofs.links.Links.forget.Goals as goal

can : (c : After-drop-seat-inside-in-Some) → CanForget c.self.inside.seats.entries c.self.inside.exchanges.entries c.self.inside.offers.entries c.self.inside.clients.keys c.args.conn
can c = record { kept = c.self.invariant; alone = none_left (exchanges_of c.args.conn c.self.inside.exchanges.entries) (rw (← c.self.view_is) at c.requires) }

gone_from : (c : After-drop-seat-inside-in-Some) → IsWithdrawn c.args.conn c.self.inside.offers.entries c.withdraw.new.offers.entries
gone_from c = withdrawn c.self.inside.seats.entries c.self.inside.exchanges.entries c.self.inside.offers.entries c.self.inside.clients.keys c.self.invariant c.args.conn c.in-Some.seat (sym c.in-Some.ensures.value) c.conn.result.cluster c.withdraw.new.offers.entries
    (ap (λ (k : Conn). k.cluster) (sym c.conn.ensures)) c.withdraw.ensures.none c.withdraw.ensures.some

pub invariant_of-self : goal.invariant_of-self
invariant_of-self c =
    let kept : AreKept (gone c.args.conn c.self.inside.seats.entries) c.self.inside.exchanges.entries c.withdraw.new.offers.entries (remove_key (is_at (nat_cmp c.args.conn)) c.self.inside.clients.keys) =
    forgets c.self.inside.seats.entries c.self.inside.exchanges.entries c.self.inside.offers.entries c.self.inside.clients.keys c.args.conn (can c) c.withdraw.new.offers.entries (gone_from c).items (gone_from c).room in
    subst (λ es. AreKept es c.self.inside.exchanges.entries c.withdraw.new.offers.entries c.remove-in-Some.new.self.keys) (sym c.in-Some.ensures.entries)
    (subst (λ ks. AreKept (gone c.args.conn c.self.inside.seats.entries) c.self.inside.exchanges.entries c.withdraw.new.offers.entries ks) (sym c.remove-in-Some.ensures.keys) kept)

pub invariant_of-self-in_default : goal.invariant_of-self-in_default
invariant_of-self-in_default c = kept_same c.self.inside.seats.entries c.remove.new.self.entries c.self.inside.exchanges.entries c.self.inside.exchanges.entries c.self.inside.offers.entries c.self.inside.offers.entries c.self.inside.clients.keys
    (c.in_default.ensures.entries ∙ remove_absent c.self.inside.seats.entries c.args.conn (sym c.in_default.ensures.value)) refl refl c.self.invariant

pub returns-in-Some : goal.returns-in-Some
returns-in-Some c = rw (← c.self.view_is) (seen_gone c.self.inside.seats.entries c.remove.new.self.entries c.self.inside.exchanges.entries c.args.conn c.in-Some.ensures.entries)

pub returns-in_default : goal.returns-in_default
returns-in_default c = rw (← c.self.view_is) (seen_gone c.self.inside.seats.entries c.remove.new.self.entries c.self.inside.exchanges.entries c.args.conn c.in_default.ensures.entries)
