-- What the time leaves of a flow and of an exchange: all but the tokens of Meters.
use Rattle.exchange_core.proofs.Moments.{chain_kept}
use Rattle.exchange_core.proofs.Refilled.{refilled_length, refilled_octets, refilled_source, refilled_sum}
use Rattle.exchange_core.specs.Exchange.{at_moment, ends_of, flow_in, goes_to, held_in, seen_at}
use Rattle.exchange_core.specs.Flow.{Flow, held_by, last_place, octets_in, send, stages_of}
use Rattle.exchange_core.specs.Message.{head_waits, trailers_wait}
use Rattle.exchange_core.specs.Replies.{Word, reckoning, row, said, side_of_cause}
use Rattle.exchange_core.specs.Replies.Word.{Code, CodeUnlessEnded, ReplyOnly, ReplyOr, Silence}
use Rattle.exchange_core.specs.Seen.{IsFoundAs}
use Rattle.exchange_core.specs.State.{ungated}
use Rattle.exchange_core.specs.Units.{IsFrameable, ends_after, next_unit}
use Rattle.flow_rules.specs.Units.{ends_after as is_end_after, next_unit as first_unit}
use Rattle.exchange_core.specs.declared.exchange.Exchange.{Exchange}
use Rattle.exchange_core.specs.declared.causes.Reply.TheVariants as reply
use Rattle.flow_rules.specs.declared.unit.Unit.TheVariants.{Body, Head, Nothing, Trailers}
use Rattle.flow_rules.specs.declared.unit.Unit.{Unit as NextUnit}
use Rattle.filter_chain.specs.Chain.{Chain, octets_at}
use Rattle.filter_chain.specs.Effects.{ticked as chain_ticked}
use Rattle.filter_chain.specs.Place.{Place, kind_of, refilled}
use Rattle.filter_chain.specs.Release.{is_source_at}
use Rattle.flow_rules.specs.declared.causes.Cause.{Cause}
use Rattle.flow_rules.specs.declared.causes.Cause.TheVariants.{ConnLost}
use Rattle.std.proofs.Common.{ap, refl, ◌∙◌}
use Rattle.std.specs.Option.{option_map_or}
use Rattle.std.specs.Prelude.{pos, Bool, List, None, Option, Some, [], false, if◌then◌else◌, is_some, length, map, not, option_map, suc, true, zero, ℕ, ℤ, ◌&&◌, ◌+◌, ◌∷◌, ◌≡◌}

-- ---- a chain
octets_ticked : (now : ℕ) (chain : Chain) (p : ℕ) → octets_at (chain_ticked chain now) p ≡ octets_at chain p
octets_ticked now chain zero = refl
octets_ticked now chain (suc i) = refilled_octets _ chain.places i

kinds_kept : (n : ℕ) (places : List Place) → map (λ place. kind_of place.kind) (map (refilled n) places) ≡ map (λ place. kind_of place.kind) places
kinds_kept n [] = refl
kinds_kept n (place ∷ places) = cc (kinds_kept n places)

-- ---- a flow
module _ (now : ℕ) (flow : Flow) where
  abbrev later : Flow
  later = record flow { chain = chain_ticked flow.chain now }

  places_later : last_place later ≡ last_place flow
  places_later = refilled_length _ flow.chain.places

  octets_later : (p : ℕ) → octets_in later p ≡ octets_in flow p
  octets_later zero = refl
  octets_later (suc p) = octets_ticked now flow.chain (suc p)

  sent_later : send later ≡ send flow
  sent_later = cc (places_later, octets_later (last_place flow))

  kinds_later : map (λ place. kind_of place.kind) later.chain.places ≡ map (λ place. kind_of place.kind) flow.chain.places
  kinds_later = kinds_kept _ flow.chain.places

  unit_later : (room : ℤ) (frame : ℕ) → next_unit room frame later ≡ next_unit room frame flow
  unit_later room frame = λ i. first_unit (record (ungated room frame flow) { last = places_later i; kinds = kinds_later i; len = λ p. length (octets_later p i) })

  pub unit_seen : (room : ℤ) (frame : ℕ) → next_unit room frame (at_moment now flow) ≡ next_unit room frame flow
  unit_seen room frame = chain_kept (λ chain. next_unit room frame (record flow { chain = chain })) now flow.chain (unit_later room frame)

  pub sent_seen : send (at_moment now flow) ≡ send flow
  sent_seen = chain_kept (λ chain. send (record flow { chain = chain })) now flow.chain sent_later

  pub ends_seen : (n : ℕ) → ends_after n (at_moment now flow) ≡ ends_after n flow
  ends_seen n = chain_kept (λ chain. ends_after n (record flow { chain = chain })) now flow.chain
      (λ i. is_end_after (record (ungated (pos 0) 0 flow) { last = places_later i; len = λ p. length (octets_later p i) }) n)

  pub frameable_seen : (unit : NextUnit) → IsFrameable unit flow → IsFrameable unit (at_moment now flow)
  frameable_seen Nothing is = is
  frameable_seen (Head last) is = (is.0, λ h. ap (λ b. b && not (head_waits flow.message && trailers_wait flow.message)) (ends_seen 0) ∙ is.1 h)
  frameable_seen (Body n last) is = (
    is.0,
    rw sent_seen is.1,
    λ h. ap (λ b. b && not (trailers_wait flow.message)) (ends_seen n) ∙ is.2 h,
  )
  frameable_seen Trailers is = (is.0, ap (λ b. b && not (head_waits flow.message && trailers_wait flow.message)) (ends_seen 0) ∙ is.1)

  pub held_seen : held_by (at_moment now flow) ≡ held_by flow
  held_seen = chain_kept (λ chain. held_by (record flow { chain = chain })) now flow.chain (ap (λ m. length flow.recv + m) (refilled_sum _ flow.chain.places))

pub stages_seen : (now : ℕ) (flow : Flow) → stages_of (at_moment now flow) ≡ stages_of flow
stages_seen now flow = chain_kept (λ chain. stages_of (record flow { chain = chain })) now flow.chain (cc (places_later now flow))

source_later : (now : ℕ) (chain : Chain) (p : ℕ) → is_source_at (chain_ticked chain now) p ≡ is_source_at chain p
source_later now chain zero = refl
source_later now chain (suc i) = refilled_source _ chain.places i

pub source_seen : (p now : ℕ) (flow : Flow) → is_source_at (at_moment now flow).chain p ≡ is_source_at flow.chain p
source_seen p now flow = chain_kept (λ chain. is_source_at chain p) now flow.chain (source_later now flow.chain p)

-- ---- a flow that was found, read where the moment leaves it as it is
module _ {X : Type 0} (read : Flow → X) (kept : (now : ℕ) (flow : Flow) → read (at_moment now flow) ≡ read flow) where
  pub read_some : (found seen : Option Flow) → IsFoundAs found seen → option_map read seen ≡ option_map read found
  read_some found seen is = cc (by found)
    where
      by : (o : Option Flow) → option_map read (option_map (at_moment is.now) o) ≡ option_map read o
      by None = refl
      by (Some flow) = cc (kept is.now flow)

  pub read_or : (other : X) (found seen : Option Flow) → IsFoundAs found seen → option_map_or read seen other ≡ option_map_or read found other
  read_or other found seen is = cc (by found)
    where
      by : (o : Option Flow) → option_map_or read (option_map (at_moment is.now) o) other ≡ option_map_or read o other
      by None = refl
      by (Some flow) = kept is.now flow

-- ---- an exchange
response_held : (now : ℕ) (response : Option Flow) → option_map_or held_by (option_map (at_moment now) response) 0 ≡ option_map_or held_by response 0
response_held now None = refl
response_held now (Some flow) = held_seen now flow

module _ (now : ℕ) (exchange : Exchange) where
  pub exchange_held : held_in (seen_at now exchange) ≡ held_in exchange
  exchange_held = λ i. held_seen now exchange.request i + response_held now exchange.response i

  pub exchange_ends : ends_of (seen_at now exchange) ≡ ends_of exchange
  exchange_ends = cc (by_response exchange.response)
    where
      by_response : (response : Option Flow) → option_map_or (λ flow. flow.message.end_framed) (option_map (at_moment now) response) false ≡ option_map_or (λ flow. flow.message.end_framed) response false
      by_response None = refl
      by_response (Some flow) = refl

module _ (now : ℕ) where
  pub target_seen : (back : Bool) (exchange : Exchange) → goes_to back (seen_at now exchange) ≡ goes_to back exchange
  target_seen false exchange = refl
  target_seen true exchange = refl

  pub flow_seen : (back : Bool) (exchange : Exchange) → flow_in back (seen_at now exchange) ≡ option_map (at_moment now) (flow_in back exchange)
  flow_seen false exchange = refl
  flow_seen true exchange = refl

  -- ---- the table of causes
  side_seen : (cause : Cause) (back : Bool) (exchange : Exchange) → side_of_cause cause back (seen_at now exchange) ≡ side_of_cause cause back exchange
  side_seen (ConnLost conn) back exchange = refl
  side_seen _ back exchange = refl

  framed_seen : (response : Option Flow) → option_map_or (λ flow. flow.message.head_framed) (option_map (at_moment now) response) false ≡ option_map_or (λ flow. flow.message.head_framed) response false
  framed_seen None = refl
  framed_seen (Some flow) = refl

  said_seen : (word : Word) (exchange : Exchange) → said word (seen_at now exchange) ≡ said word exchange
  said_seen Silence exchange = refl
  said_seen (ReplyOnly status) exchange = refl
  said_seen (ReplyOr status code) exchange = cc (framed_seen exchange.response)
  said_seen (Code code) exchange = refl
  said_seen (CodeUnlessEnded code) exchange = refl

pub reckoning_seen : (now : ℕ) (cause : Cause) (back : Bool) (exchange : Exchange) → reckoning cause back (seen_at now exchange) ≡ reckoning cause back exchange
reckoning_seen now cause back exchange = λ i. record {
  request_left = length exchange.request.recv;
  response_left = left exchange.response i;
  down = (said_seen now (row cause (side_of_cause cause back (seen_at now exchange))).0 exchange
      ∙ ap (λ side. said (row cause side).0 exchange) (side_seen now cause back exchange)) i;
  up = up exchange.to_conn i;
}
  where
    left : (response : Option Flow) → option_map_or (λ flow. length flow.recv) (option_map (at_moment now) response) 0 ≡ option_map_or (λ flow. length flow.recv) response 0
    left None = refl
    left (Some flow) = refl

    up : (to : Option ℕ) →
        (if is_some to then said (row cause (side_of_cause cause back (seen_at now exchange))).1 (seen_at now exchange) else reply.Nothing)
        ≡ (if is_some to then said (row cause (side_of_cause cause back exchange)).1 exchange else reply.Nothing)
    up None = refl
    up (Some conn) = cc (said_seen now (row cause (side_of_cause cause back (seen_at now exchange))).1 exchange, side_seen now cause back exchange)
