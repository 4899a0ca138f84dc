-- A sound tape on which octets fill a Meter over its limit.
use Rattle.flow_rules.specs.declared.ids.FlowId.{FlowId}
use Rattle.flow_laws.proofs.Losing.{front_more, front_same}
use Rattle.flow_laws.proofs.MadeUp.{laws_apply}
use Rattle.flow_laws.specs.Made.{Asks, Came, Made, made_body, made_session}
use Rattle.flow_laws.specs.Suits.{IsSound}
use Rattle.setup_rows.specs.Rows.{before_full, fills, many}
use Rattle.std.proofs.Common.{arith, refl}
use Rattle.std.specs.Prelude.{[], if◌then◌else◌, ◌∷◌}
use Rattle.tape_laws.specs.Flows.{request, same_flow}
use Rattle.tape_laws.specs.History.{Marked, Noted}
use Rattle.tape_laws.specs.Tied.{IsFront}
use Rattle.tape_laws.specs.Units.{WantsStart}
use Rattle.flow_notes.specs.declared.events.Event.TheVariants as event
use Rattle.flow_notes.specs.declared.notes.Note.TheVariants as note

abbrev past_1 : Made
past_1 = Noted (note.Turn 1 (event.Tick 0)) ∷ []

abbrev past_2 : Made
past_2 = Marked (Asks (WantsStart 1 1 1 2 ∷ [])) ∷ past_1

abbrev past_3 : Made
past_3 = Noted (note.Start 1 1 1 2) ∷ past_2

abbrev past_4 : Made
past_4 = Marked (Came (request 1) many) ∷ past_3

same_body : (past : Made) (f : FlowId) → IsFront (made_body f past) (made_body f past)
same_body past f = front_same (made_body f past)

begun : IsSound made_session past_1
begun = (laws_apply.goes_on [] laws_apply.begins).turns 1 (event.Tick 0) (record {
  next = refl;
  rests = record { paused = refl; told = tt; behind = tt; framed = (refl, (refl, tt)); read = tt; tamed = tt; asked = refl; ended = tt; gone = refl; leaves = tt };
  closed = tt;
  licensed = tt;
  may = tt;
  goes_on = λ f e. same_body [] f;
})

asked : IsSound made_session past_2
asked = (laws_apply.goes_on past_1 begun).marks (Asks (WantsStart 1 1 1 2 ∷ [])) refl
    (record { paused = refl; fresh = refl; answered = tt; licensed = tt; may = tt; goes_on = λ f e. same_body past_1 f })

started : IsSound made_session past_3
started = (laws_apply.goes_on past_2 asked).starts 1 1 1 2 (record {
  now = record { paused = refl; fresh = refl; answered = refl; licensed = tt; may = tt; goes_on = λ f e. same_body past_2 f };
  asked = refl;
  new = refl;
})

came : IsSound made_session past_4
came = (laws_apply.goes_on past_3 started).marks (Came (request 1) many) refl (record {
  paused = refl;
  fresh = refl;
  answered = tt;
  licensed = tt;
  may = tt;
  goes_on = λ f e. front_more (made_body f past_3) (if same_flow (request 1) f then many else []);
})

arrived : IsSound made_session before_full
arrived = (laws_apply.goes_on past_4 came).arrives (request 1) many (record {
  now = record { paused = refl; fresh = refl; answered = tt; licensed = tt; may = tt; goes_on = λ f e. same_body past_4 f };
  lives = refl;
  some = omega arith;
  fits = record { window = omega arith; together = omega arith };
  reads = refl;
  unended = refl;
})

pub full : IsSound made_session (fills ∷ before_full)
full = (laws_apply.goes_on before_full arrived).moves (request 1) 0 1001 (record {
  now = record { paused = refl; fresh = refl; answered = tt; licensed = tt; may = tt; goes_on = λ f e. same_body before_full f };
  moves = record { live = refl; last = refl; all = refl };
  fits = refl;
})
