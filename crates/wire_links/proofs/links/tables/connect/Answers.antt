use Rattle.std.proofs.Common.{refl, subst, sym}
use Rattle.std.specs.Prelude.{IfSome}
use Rattle.wire_links.proofs.Written.{room_still}
use Rattle.wire_links.specs.Kept.{HasRoomFor}
use Rattle.wire_links.specs.Seats.{linked}
use Rattle.wire_links.proofs.links.tables.connect.Goals as goal

pub tell-requires : goal.tell-requires
tell-requires c = subst (λ es. HasRoomFor c.in-Some.to es c.args.offers.now.entries) (sym c.in_ok-link.ensures.ok)
    (room_still c.in-Some.to c.args.seats.now.entries c.args.offers.now.entries (linked c.args.exchange) (λ _. refl)
    (subst (λ o. IfSome o (λ t. HasRoomFor t c.args.seats.now.entries c.args.offers.now.entries)) c.in-Some.is c.requires))
