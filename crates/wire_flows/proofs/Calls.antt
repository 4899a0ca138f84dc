-- What the calls that name a flow make of it, where the gates stay.
use Rattle.exchange_core.specs.Effects.{arrived, end_came, finished, headed, list_framed, received}
use Rattle.exchange_core.specs.Flow.{Flow, held_by}
use Rattle.exchange_core.specs.Message.{fields_of, head_came, head_waits}
use Rattle.flow_gate.specs.Board.{Board}
use Rattle.hpack_codec.specs.declared.fields.Field.{Field}
use Rattle.std.proofs.Common.{ap, arith, refl, subst, sym, ◌∙◌}
use Rattle.std.proofs.lemmas.Bool.Decides.{nat_tests}
use Rattle.std.proofs.lemmas.List.{length-append}
use Rattle.std.specs.Prelude.{Bool, IsSome, List, None, Option, Some, false, if◌then◌else◌, is_some, length, nat_le, true, ℕ, ◌+◌, ◌++◌, ◌<◌, ◌||◌, ◌≡◌, ◌≤◌}
use Rattle.wire_flows.proofs.Cases.{by_case}
use Rattle.wire_flows.proofs.Kept.{KeepsFlow, KeepsWay}
use Rattle.wire_flows.specs.Sound.{IsBounded, IsWireFlow, MarksAre}

-- ---- a head
pub headed_kept : (fields : List Field) (last : Bool) (board : Board) (flow : Flow) → KeepsFlow board board flow (headed fields last flow)
headed_kept fields true board flow = record {
  way = record { own = refl; kinds = refl; last = refl };
  wire = λ w. record { bounded = record { recv = w.bounded.recv; places = w.bounded.places }; headed = λ some. refl };
  marks = λ m. record { each = m.each };
}
headed_kept fields false board flow = record {
  way = record { own = refl; kinds = refl; last = refl };
  wire = λ w. record { bounded = record { recv = w.bounded.recv; places = w.bounded.places }; headed = λ some. refl };
  marks = λ m. record { each = m.each };
}

pub headed_left : (fields : List Field) (last : Bool) (flow : Flow) → length (headed fields last flow).recv ≡ length flow.recv
headed_left fields true flow = refl
headed_left fields false flow = refl

-- ---- an end
pub finished_kept : (trailers : Option (List Field)) (board : Board) (flow : Flow) → KeepsFlow board board flow (finished trailers flow)
finished_kept trailers board flow = record {
  way = record { own = refl; kinds = refl; last = refl };
  wire = λ w. record { bounded = record { recv = w.bounded.recv; places = w.bounded.places }; headed = w.headed };
  marks = λ m. record { each = m.each };
}

-- ---- a list was framed
listed_came : (last : Bool) (flow : Flow) → head_came flow.message ≡ true → head_came (list_framed last flow).message ≡ true
listed_came last flow came = by_case (head_waits flow.message)
    (λ waits. ap (λ b. head_came (if b then record flow.message { head = None; head_framed = true; end_framed = flow.message.end_framed || last } else record flow.message { trailers = None; end_framed = flow.message.end_framed || last })) waits)
    (λ none. ap (λ b. head_came (if b then record flow.message { head = None; head_framed = true; end_framed = flow.message.end_framed || last } else record flow.message { trailers = None; end_framed = flow.message.end_framed || last })) none ∙ came)

pub listed_kept : (last : Bool) (board : Board) (flow : Flow) → KeepsFlow board board flow (list_framed last flow)
listed_kept last board flow = record {
  way = record { own = refl; kinds = refl; last = refl };
  wire = λ w. record { bounded = record { recv = w.bounded.recv; places = w.bounded.places }; headed = λ some. listed_came last flow (w.headed some) };
  marks = λ m. record { each = m.each };
}

-- ---- octets came
pub received_kept : (octets : List ℕ) (board : Board) (flow : Flow) → head_came flow.message ≡ true → KeepsFlow board board flow (received octets flow)
received_kept octets board flow came = by_case (nat_le (length flow.recv + length octets) flow.window)
    (λ fits. subst (λ b. KeepsFlow board board flow (if b then arrived octets flow else flow)) (sym fits) (record {
      way = record { own = refl; kinds = refl; last = refl };
      wire = λ w. record {
        bounded = record { recv = room (length (flow.recv ++ octets)) (length flow.recv) (length octets) flow.window (length-append flow.recv octets) fits; places = w.bounded.places };
        headed = λ some. came;
      };
      marks = λ m. record { each = m.each };
    }))
    (λ many. subst (λ b. KeepsFlow board board flow (if b then arrived octets flow else flow)) (sym many) (record {
      way = record { own = refl; kinds = refl; last = refl };
      wire = λ w. w;
      marks = λ m. m;
    }))
  where
    room : (c a b w : ℕ) → c ≡ a + b → nat_le (a + b) w ≡ true → c ≤ w
    room c a b w e fits = grind (arith, nat_tests)
