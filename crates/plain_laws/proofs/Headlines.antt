-- The headline of a lawful tape of whole dispatches, by the laws of any setup.
use Rattle.flow_laws.proofs.Lists.{flow_same}
use Rattle.flow_laws.proofs.Lives.{each_at}
use Rattle.flow_laws.proofs.Losing.{front_more, front_same}
use Rattle.flow_laws.proofs.Sound.{headline_by}
use Rattle.flow_laws.specs.Octets.{GoesOn, ReadsBody}
use Rattle.flow_notes.specs.declared.events.Event.{Event}
use Rattle.flow_notes.specs.declared.events.PlainEvent.{PlainEvent}
use Rattle.plain_laws.proofs.Balances.{plain_ways}
use Rattle.plain_laws.specs.Words.{Past}
use Rattle.std.proofs.Common.{ap, subst}
use Rattle.std.specs.Prelude.{[], if◌then◌else◌, ℕ, ◌++◌, ◌==◌, ◌∷◌}
use Rattle.tape_laws.specs.Headline.{Headline}
use Rattle.tape_laws.specs.History.{AtEachMoment, EachFollows, Marked, NoMark, Noted, Step}
use Rattle.tape_laws.specs.Plain.{plain_body, plain_setup}
use Rattle.tape_laws.specs.PlainSession.{plain_session}
use Rattle.tape_laws.specs.PlainTape.{IsPlainWhole}
use Rattle.tape_laws.specs.Release.{MayStand}
use Rattle.tape_laws.specs.Sources.{live_flows}
use Rattle.tape_laws.specs.Tied.{IsFront, IsTied}
use Rattle.tape_laws.specs.World.{received}
use Rattle.tape_laws.specs.declared.PlainLimits.{PlainLimits}
use Rattle.flow_notes.specs.declared.events.Event.TheVariants as event
use Rattle.flow_notes.specs.declared.events.PlainEvent.TheVariants as plain
use Rattle.flow_notes.specs.declared.notes.Note.TheVariants as note

module _ (limits : PlainLimits) where
  -- the body of a stream only goes on
  abbrev GoesOnBy : ℕ → Step NoMark → Past → Type 0
  GoesOnBy x step h = IsFront (plain_body x h) (plain_body x (step ∷ h))

  event_further : (x k : ℕ) (e : PlainEvent) (h : Past) → GoesOnBy x (Noted (note.Turn k (event.Plain e))) h
  event_further x k (plain.Body s octets) h = front_more (plain_body x h) (if s == x then octets else [])
  event_further x k (plain.Begin s) h = front_same (plain_body x h)
  event_further x k (plain.Pair s t) h = front_same (plain_body x h)
  event_further x k (plain.Finish s) h = front_same (plain_body x h)
  event_further x k (plain.Cut s) h = front_same (plain_body x h)
  event_further x k (plain.Room n) h = front_same (plain_body x h)

  turn_further : (x k : ℕ) (e : Event) (h : Past) → GoesOnBy x (Noted (note.Turn k e)) h
  turn_further x k (event.Plain e) h = event_further x k e h
  turn_further x k (event.Accept c) h = front_same (plain_body x h)
  turn_further x k (event.Join c cluster) h = front_same (plain_body x h)
  turn_further x k (event.Read c octets) h = front_same (plain_body x h)
  turn_further x k (event.Gone c) h = front_same (plain_body x h)
  turn_further x k (event.Room c n) h = front_same (plain_body x h)
  turn_further x k (event.Tick now) h = front_same (plain_body x h)
  turn_further x k (event.Post poster number job) h = front_same (plain_body x h)
  turn_further x k (event.Obey version pressures) h = front_same (plain_body x h)

  further : (step : Step NoMark) (h : Past) → GoesOn (plain_setup limits) step h
  further (Noted (note.Turn k e)) h f b = turn_further f.exchange k e h
  further (Noted (note.Arrive g octets)) h f1 b1 = front_same (plain_body f1.exchange h)
  further (Noted (note.Move g q n)) h f1 b1 = front_same (plain_body f1.exchange h)
  further (Noted (note.Frame c g n last)) h f1 b1 = front_same (plain_body f1.exchange h)
  further (Noted (note.Out c n)) h f1 b1 = front_same (plain_body f1.exchange h)
  further (Noted (note.Pause g b)) h f1 b1 = front_same (plain_body f1.exchange h)
  further (Noted (note.Resume g b)) h f1 b1 = front_same (plain_body f1.exchange h)
  further (Noted (note.Credit c s n)) h f1 b1 = front_same (plain_body f1.exchange h)
  further (Noted (note.Head c s octets)) h f1 b1 = front_same (plain_body f1.exchange h)
  further (Noted (note.Answer c octets)) h f1 b1 = front_same (plain_body f1.exchange h)
  further (Noted (note.Waste c s n)) h f1 b1 = front_same (plain_body f1.exchange h)
  further (Noted (note.Start x c s d)) h f1 b1 = front_same (plain_body f1.exchange h)
  further (Noted (note.Doom x why)) h f1 b1 = front_same (plain_body f1.exchange h)
  further (Noted (note.Gone x)) h f1 b1 = front_same (plain_body f1.exchange h)
  further (Noted (note.Close c code why)) h f1 b1 = front_same (plain_body f1.exchange h)
  further (Noted (note.Fire k i)) h f1 b1 = front_same (plain_body f1.exchange h)
  further (Marked m) h f1 b1 = front_same (plain_body f1.exchange h)

  all_further : (h : Past) → EachFollows (GoesOn (plain_setup limits)) h
  all_further [] = tt
  all_further (step ∷ h) = (further step h, all_further h)

  -- what arrives is the body's next octets
  reads : (step : Step NoMark) (h : Past) → MayStand (plain_setup limits) step h → IsTied (plain_setup limits) (step ∷ h) → ReadsBody (plain_setup limits) step h
  reads (Noted (note.Arrive f octets)) h m t =
      subst (λ v. IsFront v (plain_body f.exchange h)) (ap (λ b. received f h ++ (if b then octets else [])) (flow_same f))
      (each_at (λ g. IsFront (received g (Noted (note.Arrive f octets) ∷ h)) (plain_body g.exchange h)) (live_flows (plain_setup limits) h) f t m.0)
  reads (Noted (note.Turn k e)) h m1 t1 = tt
  reads (Noted (note.Move g q n)) h m1 t1 = tt
  reads (Noted (note.Frame c g n last)) h m1 t1 = tt
  reads (Noted (note.Out c n)) h m1 t1 = tt
  reads (Noted (note.Pause g b)) h m1 t1 = tt
  reads (Noted (note.Resume g b)) h m1 t1 = tt
  reads (Noted (note.Credit c s n)) h m1 t1 = tt
  reads (Noted (note.Head c s octets)) h m1 t1 = tt
  reads (Noted (note.Answer c octets)) h m1 t1 = tt
  reads (Noted (note.Waste c s n)) h m1 t1 = tt
  reads (Noted (note.Start x c s d)) h m1 t1 = tt
  reads (Noted (note.Doom x why)) h m1 t1 = tt
  reads (Noted (note.Gone x)) h m1 t1 = tt
  reads (Noted (note.Close c code why)) h m1 t1 = tt
  reads (Noted (note.Fire k i)) h m1 t1 = tt
  reads (Marked m) h m1 t1 = tt

  all_read : (h : Past) → EachFollows (MayStand (plain_setup limits)) h → AtEachMoment (IsTied (plain_setup limits)) h → EachFollows (ReadsBody (plain_setup limits)) h
  all_read [] m t = tt
  all_read (step ∷ h) m t = (reads step h m.0 t.0, all_read h m.1 t.1)

  pub headline_of : (h : Past) → IsPlainWhole limits h → Headline (plain_setup limits) h
  headline_of h w = headline_by (plain_session limits) (plain_ways limits) h w.lawful w.quiet (all_read h w.lawful.allowed w.lawful.tied) (all_further h)
