-- All laws apply to the made-up kind of session.
use Rattle.flow_rules.specs.declared.ids.FlowId.{FlowId}
use Rattle.flow_laws.proofs.Balance.{counts_balance}
use Rattle.flow_laws.proofs.Builders.{steps_are_sound}
use Rattle.flow_laws.proofs.Ends.{at_most_once}
use Rattle.flow_laws.proofs.Losing.{each_loses_nothing, front_more, front_same}
use Rattle.flow_laws.proofs.Quiets.{rest_is_quiet}
use Rattle.flow_laws.proofs.Sound.{begins, each_map, headline_of, paced_of}
use Rattle.flow_laws.specs.Endings.{EndsInTime}
use Rattle.flow_laws.specs.Laws.{GoesOnSoundly}
use Rattle.flow_laws.specs.Made.{Asks, Between, Came, LawsApply, Made, MadeMark, between, made_body, made_session, made_setup, made_tape}
use Rattle.flow_laws.specs.Suits.{IsSound, Suits}
use Rattle.flow_laws.specs.Ways.{HasLimits, HasWays, starts}
use Rattle.std.proofs.Common.{ap, arith, refl}
use Rattle.std.specs.List.{AllByRecursion}
use Rattle.std.specs.Prelude.{Bool, Some, [], false, if◌then◌else◌, option_map, true, ◌&&◌, ◌<◌, ◌==◌, ◌||◌, ◌∷◌, ◌≡◌}
use Rattle.tape_laws.specs.Flows.{request, same_flow}
use Rattle.tape_laws.specs.History.{Marked, Noted, Step}
use Rattle.tape_laws.specs.Tied.{IsFront}
use Rattle.tape_laws.specs.Units.{Hold, Meter, WantsStart}
use Rattle.tape_laws.specs.Watermark.{kind_limit}
use Rattle.flow_notes.specs.declared.events.Event.TheVariants as event
use Rattle.flow_notes.specs.declared.notes.Note.TheVariants as note

-- ---- what it is told of
between_stays : (f : FlowId) (step : Step MadeMark) (past : Made) → starts f step ≡ false → between f.exchange (step ∷ past) ≡ between f.exchange past
between_stays f (Noted (note.Start x c s d)) past o = at (x == f.exchange) o
  where
    at : (b : Bool) → b ≡ false → (if b then Some (record { conn = c; to = d }) else between f.exchange past) ≡ between f.exchange past
    at true e = cc
    at false e = refl
between_stays f step past o = refl

made_ways : HasWays made_setup
made_ways = record {
  own = λ x. (refl, (refl, tt));
  apart = λ x. (other (x == x), (refl, tt));
  stages = λ f step past o. refl;
  comes = λ f step past o. ap (option_map (λ (b : Between). if f.back then b.to else b.conn)) (between_stays f step past o);
  goes = λ f step past o. ap (option_map (λ (b : Between). if f.back then b.conn else b.to)) (between_stays f step past o);
}
  where
    other : (b : Bool) → ((b && false) || false) ≡ false
    other true = refl
    other false = refl

made_limits : HasLimits made_setup
made_limits = record { limits = λ f past. at f.back }
  where
    at : (b : Bool) → AllByRecursion (λ s. 0 < kind_limit s) (if b then Hold 50000 ∷ [] else Meter 1000 500 ∷ [])
    at true = (omega arith, tt)
    at false = (omega arith, tt)

-- ---- a tape that begins
tape_0 : IsSound made_session []
tape_0 = begins made_session made_ways made_limits

abbrev past_1 : Made
past_1 = Noted (note.Turn 1 (event.Tick 0)) ∷ []

abbrev past_2 : Made
past_2 = Marked (Asks (WantsStart 1 1 1 2 ∷ [])) ∷ past_1

abbrev past_3 : Made
past_3 = Noted (note.Start 1 1 1 2) ∷ past_2

abbrev past_4 : Made
past_4 = Marked (Came (request 1) (7 ∷ 8 ∷ 9 ∷ [])) ∷ past_3

abbrev past_5 : Made
past_5 = Noted (note.Arrive (request 1) (7 ∷ 8 ∷ 9 ∷ [])) ∷ past_4

next_made : (past : Made) → IsSound made_session past → GoesOnSoundly made_session past
next_made past s = steps_are_sound made_session made_ways made_limits past s

-- bodies go on by marks alone
same_body : (past : Made) (f : FlowId) → IsFront (made_body f past) (made_body f past)
same_body past f = front_same (made_body f past)

tape_1 : IsSound made_session past_1
tape_1 = (next_made [] tape_0).turns 1 (event.Tick 0) (record {
  next = refl;
  rests = record { paused = refl; told = tt; behind = tt; framed = (refl, (refl, tt)); read = tt; tamed = tt; asked = refl; ended = tt; gone = refl; leaves = tt };
  closed = tt;
  licensed = tt;
  may = tt;
  goes_on = λ f e. same_body [] f;
})

tape_2 : IsSound made_session past_2
tape_2 = (next_made past_1 tape_1).marks (Asks (WantsStart 1 1 1 2 ∷ [])) refl
    (record { paused = refl; fresh = refl; answered = tt; licensed = tt; may = tt; goes_on = λ f e. same_body past_1 f })

tape_3 : IsSound made_session past_3
tape_3 = (next_made past_2 tape_2).starts 1 1 1 2 (record {
  now = record { paused = refl; fresh = refl; answered = refl; licensed = tt; may = tt; goes_on = λ f e. same_body past_2 f };
  asked = refl;
  new = refl;
})

tape_4 : IsSound made_session past_4
tape_4 = (next_made past_3 tape_3).marks (Came (request 1) (7 ∷ 8 ∷ 9 ∷ [])) refl (record {
  paused = refl;
  fresh = refl;
  answered = tt;
  licensed = tt;
  may = tt;
  goes_on = λ f e. front_more (made_body f past_3) (if same_flow (request 1) f then 7 ∷ 8 ∷ 9 ∷ [] else []);
})

tape_5 : IsSound made_session past_5
tape_5 = (next_made past_4 tape_4).arrives (request 1) (7 ∷ 8 ∷ 9 ∷ []) (record {
  now = record { paused = refl; fresh = refl; answered = tt; licensed = tt; may = tt; goes_on = λ f e. same_body past_4 f };
  lives = refl;
  some = omega arith;
  fits = record { window = omega arith; together = omega arith };
  reads = refl;
  unended = refl;
})

tape_6 : IsSound made_session made_tape
tape_6 = (next_made past_5 tape_5).moves (request 1) 0 3 (record {
  now = record { paused = refl; fresh = refl; answered = tt; licensed = tt; may = tt; goes_on = λ f e. same_body past_5 f };
  moves = record { live = refl; last = refl; all = refl };
  fits = refl;
})

pub laws_apply : LawsApply
laws_apply = record {
  ways = made_ways;
  limits = made_limits;
  begins = tape_0;
  goes_on = next_made;
  worked = tape_6;
  balance = counts_balance made_setup made_tape made_ways (paced_of made_session made_tape tape_6);
  lost = each_loses_nothing made_setup made_ways made_tape tape_6.lawful.allowed tape_6.lawful.doomed;
  ends = λ past s f. at_most_once made_setup f past s.lawful.ends (each_map (Suits made_setup) (EndsInTime made_setup) (λ v k a. a.in_time) past s.suited);
  quiet = λ past s r. rest_is_quiet made_session past made_ways (paced_of made_session past s) r;
  headline = λ past s q. headline_of made_session made_ways past s q;
}
