-- The frames that were taken are those of the octets that came (RFC 9113 sections 3.4 and 4.1).
use Rattle.h2_frames.specs.Fault.{fault_code}
use Rattle.h2_frames.specs.Frames.{AreFrames, BeginsNoFrame, Shows, ShowsNoFault}
use Rattle.h2_frames.specs.declared.types.FrameFault.{FrameFault}
use Rattle.h2_session.specs.Preface.{Begins, preface}
use Rattle.h2_session.specs.declared.preface.Prefaced.{Prefaced}
use Rattle.proxy_config.specs.declared.config.Config.{Config}
use Rattle.std.specs.Prelude.{IsTrue, List, [], if◌then◌else◌, ℕ, ◌++◌, ◌==◌, ◌∷◌, ◌≡◌, ◌⊎◌}
use Rattle.tape_laws.specs.History.{Noted}
use Rattle.wire_laws.specs.Came.{taken}
use Rattle.wire_laws.specs.Marks.{WireHistory}
use Rattle.wire_laws.specs.Peers.{is_client}
use Rattle.flow_notes.specs.declared.events.Event.TheVariants as event
use Rattle.flow_notes.specs.declared.notes.Note.TheVariants as note
use Rattle.h2_session.specs.declared.preface.Prefaced.TheVariants as begun

-- the octets of the read events of a connection, joined
abbrev pub octets_read : ℕ → WireHistory → List ℕ
octets_read c [] = []
octets_read c (Noted (note.Turn k (event.Read d octets)) ∷ past) = octets_read c past ++ (if d == c then octets else [])
octets_read c (step ∷ past) = octets_read c past

-- a client's octets begin with the preface
abbrev pub lead : ℕ → WireHistory → List ℕ
lead c past = if is_client c past then preface else []

-- behind it stand the frames that were taken, and then the rest
pub record HasTaken (config : Config) (c : ℕ) (rest : List ℕ) (past : WireHistory) : Type 0 where
  pub framed : List ℕ
  pub front : octets_read c past ≡ lead c past ++ framed
  pub frames : AreFrames config.limits.frame_size framed (taken c past) rest

-- a client's octets have this to say of the preface, before any frame
pub record IsAtPreface (said : Prefaced) (c : ℕ) (past : WireHistory) : Type 0 where
  pub client : IsTrue (is_client c past)
  pub begins : Begins (octets_read c past) said
  pub none : taken c past ≡ []

-- the rest begins with no frame and shows no fault
pub record TookAll (config : Config) (c : ℕ) (past : WireHistory) : Type 0 where
  pub rest : List ℕ
  pub taken : HasTaken config c rest past
  pub no_more : BeginsNoFrame config.limits.frame_size rest
  pub no_fault : ShowsNoFault config.limits.frame_size rest

-- the rest begins with no frame and shows a fault of this code
pub record ShowsFault (config : Config) (c code : ℕ) (past : WireHistory) : Type 0 where
  pub rest : List ℕ
  pub taken : HasTaken config c rest past
  pub no_more : BeginsNoFrame config.limits.frame_size rest
  pub fault : FrameFault
  pub shown : Shows config.limits.frame_size rest fault
  pub coded : code ≡ fault_code fault

-- nothing is left to take, and the octets break off
abbrev pub IsTakenUp : Config → ℕ → WireHistory → Type 0
IsTakenUp config c past = IsAtPreface begun.Need c past ⊎ TookAll config c past

abbrev pub BreaksOff : Config → ℕ → ℕ → WireHistory → Type 0
BreaksOff config c code past = (IsAtPreface begun.Bad c past × (code ≡ 1)) ⊎ ShowsFault config c code past
