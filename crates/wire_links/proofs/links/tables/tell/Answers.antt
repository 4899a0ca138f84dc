use Rattle.std.proofs.Common.{ap, sym, ◌∙◌}
use Rattle.wire_links.proofs.Written.{told_client, told_cluster, told_none}
use Rattle.wire_links.specs.declared.conn.Conn.{Conn}
use Rattle.wire_links.proofs.links.tables.tell.Goals as goal

pub returns-in_default : goal.returns-in_default
returns-in_default c = told_none c.args.seats.now.entries c.args.offers.now.entries c.args.offers.now.entries c.args.conn (sym c.in_default.ensures.value) (λ _. c.args.offers.now.entries)

pub returns-in_default-cluster : goal.returns-in_default-cluster
returns-in_default-cluster c = told_client c.args.seats.now.entries c.args.offers.now.entries c.args.offers.now.entries c.args.conn c.in-Some.seat.now (sym c.in-Some.ensures.value)
    (ap (λ (k : Conn). k.cluster) (sym c.conn.ensures) ∙ c.in_default-cluster.is) (λ _. c.args.offers.now.entries)

pub note-requires : goal.note-requires
note-requires c = c.requires.each c.in-Some.seat.now c.in-Some-cluster.cluster (sym c.in-Some.ensures.value) (ap (λ (k : Conn). k.cluster) (sym c.conn.ensures) ∙ c.in-Some-cluster.is)

pub returns : goal.returns
returns c = told_cluster c.args.seats.now.entries c.args.offers.now.entries c.note.new.offers.entries c.args.conn c.in-Some.seat.now c.in-Some-cluster.cluster c.takes_one.result (sym c.in-Some.ensures.value)
    (ap (λ (k : Conn). k.cluster) (sym c.conn.ensures) ∙ c.in-Some-cluster.is) c.takes_one.ensures c.note.ensures
