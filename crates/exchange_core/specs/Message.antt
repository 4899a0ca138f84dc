-- What came of a message besides its body, and what of it was framed (RFC 9113 section 8.1).
use Rattle.exchange_core.specs.declared.message.Awaited.{Awaited}
use Rattle.exchange_core.specs.declared.message.Awaited.TheVariants.{Body, Head, Nothing}
use Rattle.exchange_core.specs.declared.message.Message.{Message}
use Rattle.hpack_codec.specs.declared.fields.Field.{Field}
use Rattle.std.specs.Prelude.{Bool, List, None, Option, Some, false, if◌then◌else◌, is_some, true, ◌||◌}

abbrev pub empty_message : Message
empty_message = record {
  head = None;
  head_ends = false;
  head_framed = false;
  ended = false;
  trailers = None;
  end_framed = false;
}

-- a head or trailers came and aren't framed
abbrev pub head_waits : Message → Bool
head_waits m = is_some m.head

abbrev pub trailers_wait : Message → Bool
trailers_wait m = is_some m.trailers

-- its head came: it waits, or was framed
abbrev pub head_came : Message → Bool
head_came m = head_waits m || m.head_framed

-- what is still to come of it
abbrev pub awaited : Message → Awaited
awaited m = if m.ended then Nothing else (if head_came m then Body else Head)

-- the list that is framed next: the head, then the trailers
abbrev pub fields_of : Message → Option (List Field)
fields_of m = if head_waits m then m.head else m.trailers

-- the head came, with the message's end or without
abbrev pub headed : List Field → Bool → Message → Message
headed fields last m = record m { head = Some fields; head_ends = last; ended = m.ended || last }

-- the message's end came, with trailers or without
abbrev pub ended_with : Option (List Field) → Message → Message
ended_with trailers m = record m { trailers = trailers; ended = true }

-- its end was framed with this, or wasn't
abbrev pub end_framed_if : Bool → Message → Message
end_framed_if last m = record m { end_framed = m.end_framed || last }

-- the list that is framed next was framed
abbrev pub list_framed : Bool → Message → Message
list_framed last m =
    if head_waits m
    then record m { head = None; head_framed = true; end_framed = m.end_framed || last }
    else record m { trailers = None; end_framed = m.end_framed || last }
