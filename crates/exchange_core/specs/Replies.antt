-- What the peers are told of a doom, by its cause.
use Rattle.exchange_core.specs.declared.exchange.Exchange.{Exchange}
use Rattle.exchange_core.specs.declared.causes.Doomed.{Doomed}
use Rattle.exchange_core.specs.declared.causes.Reply.{Reply}
use Rattle.exchange_core.specs.declared.causes.Reply.TheVariants as reply
use Rattle.flow_rules.specs.declared.causes.Cause.{Cause}
use Rattle.flow_rules.specs.declared.causes.Cause.TheVariants.{Done, PeerReset, StreamError, TooLarge, Timeout, Overload, Overflow, ConnLost, EarlyEnd, Posted, Refused}
use Rattle.std.specs.Option.{option_map_or}
use Rattle.std.specs.Prelude.{Bool, Option, false, if◌then◌else◌, is_some, length, not, ℕ, ◌==◌}

-- what a row of the table says
pub data Word : Type 0 where
  Silence : Word
  -- a reply of this status, or where a response head was framed RST_STREAM with this code
  ReplyOnly : (status : ℕ) → Word
  ReplyOr : (status code : ℕ) → Word
  -- RST_STREAM with this code, or only where the request's end hasn't come
  Code : (code : ℕ) → Word
  CodeUnlessEnded : (code : ℕ) → Word

-- Whose the cause is: the client's or its request's, or the cluster's or its response's. Of a lost connection it is known
-- by its number, of other causes it says nothing.
pub data Side : Type 0 where
  Client : Side
  Cluster : Side

abbrev pub side_of : Bool → Side
side_of back = if back then Cluster else Client

-- the table of causes: what the client is told, and what the cluster
abbrev pub row : Cause → Side → Word × Word
row Done side = (Silence, Silence)
row (PeerReset code) Client = (Silence, Code 8)
row (PeerReset code) Cluster = (ReplyOr 502 2, Silence)
row (StreamError code) Client = (Code code, Code 8)
row (StreamError code) Cluster = (ReplyOr 502 2, Code code)
row TooLarge Client = (ReplyOr 413 2, Code 8)
row TooLarge Cluster = (ReplyOnly 500, Code 8)
row (Timeout kind) side = (ReplyOr 504 2, Code 8)
row Overload side = (ReplyOr 503 11, Code 8)
row Overflow side = (ReplyOr 500 2, Code 8)
row (ConnLost conn) Client = (Silence, Code 8)
row (ConnLost conn) Cluster = (ReplyOr 502 2, Silence)
row EarlyEnd side = (CodeUnlessEnded 0, Code 8)
row (Posted poster number) side = (Code 8, Code 8)
row (Refused status) side = (ReplyOnly status, Silence)

-- a lost connection is the cluster's where the request goes to it
abbrev pub is_target : ℕ → Option ℕ → Bool
is_target conn to = option_map_or (λ c. c == conn) to false

abbrev pub side_of_cause : Cause → Bool → Exchange → Side
side_of_cause (ConnLost conn) back exchange = side_of (is_target conn exchange.to_conn)
side_of_cause cause back exchange = side_of back

-- a response head was framed
abbrev pub head_framed : Exchange → Bool
head_framed exchange = option_map_or (λ flow. flow.message.head_framed) exchange.response false

-- RST_STREAM with NO_ERROR follows a reply where the request's end hasn't come (RFC 9113 section 8.1)
abbrev pub answer : ℕ → Exchange → Reply
answer status exchange = reply.Answer status (not exchange.request.message.ended)

abbrev pub said : Word → Exchange → Reply
said Silence exchange = reply.Nothing
said (ReplyOnly status) exchange = answer status exchange
said (ReplyOr status code) exchange = if head_framed exchange then reply.Reset code else answer status exchange
said (Code code) exchange = reply.Reset code
said (CodeUnlessEnded code) exchange = if exchange.request.message.ended then reply.Nothing else reply.Reset code

abbrev pub reply_down : Cause → Bool → Exchange → Reply
reply_down cause back exchange = said (row cause (side_of_cause cause back exchange)).0 exchange

-- where it goes to no connection nobody is told
abbrev pub reply_up : Cause → Bool → Exchange → Reply
reply_up cause back exchange =
    if is_some exchange.to_conn then said (row cause (side_of_cause cause back exchange)).1 exchange else reply.Nothing

-- what a doom leaves to do: the octets dropped from the receive buffers, and the replies
abbrev pub reckoning : Cause → Bool → Exchange → Doomed
reckoning cause back exchange = record {
  request_left = length exchange.request.recv;
  response_left = option_map_or (λ flow. length flow.recv) exchange.response 0;
  down = reply_down cause back exchange;
  up = reply_up cause back exchange;
}
