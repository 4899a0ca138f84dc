-- Lines of a wire session that are read, and that are refused.
use Rattle.flow_notes.specs.Event.{IsEvent, event_spelling, is_plain}
use Rattle.flow_notes.specs.Fields.{FitsEvent}
use Rattle.flow_notes.specs.declared.events.Event.{Event}
use Rattle.session_lines.specs.WireLines.{Behind, NoLine, ReadsWireAt, ReadsWireLine, WireEvent, WireLinesAre, WireSeen}
use Rattle.session_lines.specs.WireOrders.{FollowsWire}
use Rattle.session_lines.specs.declared.wire_lines.WireLines.{WireLines}
use Rattle.session_lines.specs.declared.wire_order.WireOrder.{WireOrder}
use Rattle.std.proofs.Common.{refl, subst, sym}
use Rattle.std.specs.Prelude.{Bool, IfSome, List, Ok, Option, Some, false, true, ℕ, ◌≡◌}
use Rattle.flow_notes.specs.declared.events.Event.TheVariants as event
use Rattle.session_lines.specs.declared.order.LineRead.TheVariants as read

differ : (b : Bool) → b ≡ true → b ≡ false → ⊥
differ b t f = cc

-- ---- the header

-- ---- an event

-- an event that was read from its spelling, and the only one that has it
pub record IsOnlyRead (names : List (List ℕ)) (line : List ℕ) (e : Event) : Type 0 where
  pub is : line ≡ event_spelling names e
  pub range : IsEvent names e
  pub fits : FitsEvent e
  pub only : (f : Event) → FitsEvent f → IsEvent names f → is_plain f ≡ false → event_spelling names f ≡ line → f ≡ e

renamed : (old : WireLines) (names : List (List ℕ)) (line : List ℕ) (e : Event) → old.names ≡ names → IsOnlyRead old.names line e → IsOnlyRead names line e
renamed old names line e n k = let P : List (List ℕ) → Type 0 = λ v. IsOnlyRead v line e in subst P n k

pub wire_event_read : (old : WireLines) (line : List ℕ) (e : Event) (order : WireOrder) → old.headed ≡ true → IsOnlyRead old.names line e → FollowsWire old.order e order (Ok true)
    → ReadsWireLine old line (record old { order = order }) (Ok (read.Event e))
wire_event_read old line e order h k f = record { goes = λ names resources seen w. at names resources seen w }
  where
    at : (names : List (List ℕ)) (resources : ℕ) (seen : WireSeen) → WireLinesAre old names resources seen → ReadsWireAt names resources seen line (record old { order = order }) (Ok (read.Event e))
    at names resources NoLine w = absurd (differ old.headed h w.headed_is)
    at names resources (Behind es) w =
        let g = f.goes resources es w.order_is in
        let i = renamed old names line e w.names_are k in
        record { item = WireEvent e; spells = record { may = (i.range, i.fits, g.0); is = sym i.is }; read = refl; lines = record { names_are = w.names_are; headed_is = h; order_is = g.1 } }

-- what reading an event answers
pub only_read : (names : List (List ℕ)) (line : List ℕ) (found : Option Event) (e : Event) → found ≡ Some e
    → IfSome found (λ e. (line ≡ event_spelling names e) × IsEvent names e × FitsEvent e × (is_plain e ≡ false))
    → IfSome found (λ e. (f : Event) → FitsEvent f → IsEvent names f → is_plain f ≡ false → event_spelling names f ≡ line → f ≡ e) → IsOnlyRead names line e
only_read names line found e is some only =
    let P : Option Event → Type 0 = λ v. IfSome v (λ e. (line ≡ event_spelling names e) × IsEvent names e × FitsEvent e × (is_plain e ≡ false)) in
    let Q : Option Event → Type 0 = λ v. IfSome v (λ e. (f : Event) → FitsEvent f → IsEvent names f → is_plain f ≡ false → event_spelling names f ≡ line → f ≡ e) in
    let k = subst P is some in
    record { is = k.0; range = k.1; fits = k.2; only = subst Q is only }

pub followed : (old : WireOrder) (e : Event) (new : WireOrder) (b : Bool) → b ≡ true → FollowsWire old e new (Ok b) → FollowsWire old e new (Ok true)
followed old e new b is f = let P : Bool → Type 0 = λ v. FollowsWire old e new (Ok v) in subst P is f
