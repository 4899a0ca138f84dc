-- A plain session: streams of one connection, 0, that its events begin, feed and end.
use Rattle.std.specs.Prelude.{Bool, List, None, Some, [], false, if◌then◌else◌, ℕ, ◌++◌, ◌==◌, ◌||◌, ◌∷◌}
use Rattle.tape_laws.specs.Flows.{request}
use Rattle.tape_laws.specs.History.{History, Noted}
use Rattle.tape_laws.specs.Setup.{Setup}
use Rattle.tape_laws.specs.declared.PlainLimits.{PlainLimits}
use Rattle.flow_notes.specs.declared.events.Event.TheVariants as event
use Rattle.flow_notes.specs.declared.notes.Note.TheVariants as note
use Rattle.flow_notes.specs.declared.events.PlainEvent.TheVariants as plain

-- the body of a stream so far, as its events brought it
abbrev pub plain_body : {Mark : Type 0} → ℕ → History Mark → List ℕ
plain_body s [] = []
plain_body s (Noted (note.Turn k (event.Plain (plain.Body t octets))) ∷ past) =
    plain_body s past ++ (if t == s then octets else [])
plain_body s (step ∷ past) = plain_body s past

-- its end came
abbrev pub plain_ended : {Mark : Type 0} → ℕ → History Mark → Bool
plain_ended s [] = false
plain_ended s (Noted (note.Turn k (event.Plain (plain.Finish t))) ∷ past) = (t == s) || plain_ended s past
plain_ended s (step ∷ past) = plain_ended s past

-- the streams whose ends doom this one
abbrev pub paired_with : {Mark : Type 0} → ℕ → History Mark → List ℕ
paired_with s [] = []
paired_with s (Noted (note.Turn k (event.Plain (plain.Pair first second))) ∷ past) =
    (if second == s then first ∷ [] else []) ++ paired_with s past
paired_with s (step ∷ past) = paired_with s past

-- each stream has a request flow alone, without stages, that goes to connection 0
abbrev pub plain_setup : {Mark : Type 0} → PlainLimits → Setup Mark
plain_setup limits = record {
  recv = limits.recv;
  together = None;
  send = limits.send;
  write = limits.write;
  quantum = limits.quantum;
  overflow = 0;
  first_open = 0 ∷ [];
  flows = λ x. request x ∷ [];
  stages = λ f past. [];
  comes_from = λ f past. None;
  goes_to = λ f past. Some 0;
  stream = λ f past. f.exchange;
  body = λ f past. plain_body f.exchange past;
  ended = λ f past. plain_ended f.exchange past;
  carries = λ f past. limits.quantum;
  head_waits = λ f past. false;
  head_ends = λ f past. false;
  trailers_wait = λ f past. false;
  waiting = λ c past. [];
  grants = λ c past. [];
  picks = λ m. None;
}
