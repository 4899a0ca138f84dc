-- How far one connection has been read.
use Rattle.h2_session.specs.Preface.{preface}
use Rattle.h2_session.specs.Summary.{Summary}
use Rattle.hpack_codec.specs.Decoding.{Decoding}
use Rattle.std.specs.Prelude.{Bool, List, [], false, if◌then◌else◌, true, ℕ, ◌++◌, ◌≡◌}
use Rattle.wire_inlet.specs.Meaning.{Meaning}
use Rattle.wire_inlet.specs.declared.intake.Peer.{Peer}
use Rattle.wire_inlet.specs.declared.intake.Peer.TheVariants.{Client, Cluster}

-- The octets that came and aren't read; whether no preface is to be read any more; the session and the decoder after
-- the frames that were taken; and whether memory ran out within a block: then no further frame is taken.
pub record Incoming : Type 0 where
  pub unread : List ℕ
  pub prefaced : Bool
  pub session : Summary
  pub table : Decoding
  pub lost : Bool

-- a cluster's octets begin with a frame, a client's with the preface (RFC 9113 section 3.4)
abbrev pub is_cluster : Peer → Bool
is_cluster Client = false
is_cluster Cluster = true

-- what is left of the preface: nothing or all, as it is read with the first frame
abbrev pub preface_left : Bool → List ℕ
preface_left prefaced = if prefaced then [] else preface

-- the octets that aren't read are what is left of the preface, and then these
abbrev pub AreBehind : Incoming → List ℕ → Type 0
AreBehind v frames = v.unread ≡ preface_left v.prefaced ++ frames

abbrev pub meaning_of : Incoming → Meaning
meaning_of v = record { session = v.session; table = v.table; lost = v.lost }

-- all but the session is as before
abbrev pub HasSessionOf : Incoming → Incoming → Type 0
HasSessionOf old new = new ≡ record old { session = new.session }
