-- Lines that are played.
use Rattle.flow_notes.specs.declared.events.Event.{Event}
use Rattle.io_ports.specs.declared.octets.NoMemory.{NoMemory}
use Rattle.proxy_config.specs.declared.config.Config.{Config}
use Rattle.proxy_config.specs.declared.overload.ShedRow.{ShedRow}
use Rattle.session_config.specs.ClusterNames.{names_in, resources_in}
use Rattle.session_lines.specs.WireLines.{Behind, IsWireSeen, NoLine, WireSeen, wire_events}
use Rattle.session_lines.specs.WireOrder.{MayFollowWire, MayFollowWireAll}
use Rattle.shed_points.specs.ShedList.{as_list, dispatched, instead, keeps, kept, shed_list}
use Rattle.shed_points.specs.Shedders.{IsNumbered, Judges, ShedderIs}
use Rattle.shed_points.specs.Shedding.{Became, Judged, judged, shed_at, verdict_of}
use Rattle.shed_points.specs.declared.shedder.Shedder.{Shedder}
use Rattle.shed_points.specs.declared.verdict.Verdict.{Verdict}
use Rattle.shed_run.proofs.Following.{Comes, comes, kin_all}
use Rattle.shed_run.proofs.Listing.{none_behind}
use Rattle.shed_run.proofs.Texts.{turns_are}
use Rattle.shed_run.specs.Parts.{Lands, MayPlay, PlaysAs, StandsAt, with_line}
use Rattle.shed_run.specs.Played.{CanTake, Happens, PlayIs, PlaysEvent}
use Rattle.shed_run.specs.ShedLines.{IsShedSeen, is_own, shed_lines, shed_seen}
use Rattle.shed_run.specs.ShedText.{text_with}
use Rattle.shed_run.specs.declared.play.ShedPlay.{ShedPlay}
use Rattle.std.proofs.Common.{ap, arith, refl, subst, sym, ◌∙◌}
use Rattle.std.specs.List.{AllByRecursion}
use Rattle.std.specs.Prelude.{Bool, Err, List, None, Ok, Option, Some, [], false, if◌then◌else◌, length, reverse, suc, true, ℕ, ◌++◌, ◌+◌, ◌∷◌, ◌≡◌}
use Rattle.tape_laws.specs.Dispatches.{turns}
use Rattle.tape_laws.specs.History.{History, NoMark}
use Rattle.wire_run.specs.Tapes.{WireTape}
use Rattle.wire_run.specs.declared.play.WirePlay.{WirePlay}
use Rattle.proxy_config.specs.declared.overload.Point.TheVariants as point
use Rattle.session_run.specs.declared.player.Went.TheVariants as went
use Rattle.shed_points.specs.declared.verdict.Verdict.TheVariants as verdict

-- ---- what an event comes to may follow

may_of : (names : List (List ℕ)) (resources : ℕ) (fs : List Event) (e : Event) (b : Bool) (o : Option Event) → MayFollowWireAll names resources fs → (b ≡ true → MayFollowWire names resources fs e)
    → ((f : Event) → o ≡ Some f → MayFollowWire names resources ((if b then e ∷ [] else []) ++ fs) f) → MayFollowWireAll names resources (reverse ((if b then e ∷ [] else []) ++ as_list o) ++ fs)
may_of names resources fs e true None all itself stead = (itself refl, all)
may_of names resources fs e true (Some f) all itself stead = (stead f refl, (itself refl, all))
may_of names resources fs e false None all itself stead = all
may_of names resources fs e false (Some f) all itself stead = (stead f refl, all)

-- the lines of the shed list are those of its events
behind_all : (config : Config) (seen : WireSeen) (h : History NoMark) → WireTape config (shed_seen config.overload.shed seen) h → WireTape config (Behind (shed_list config.overload.shed (wire_events seen))) h
behind_all config NoLine h t = record { may = tt; shown = t.shown; in_order = t.in_order; spelled = t.spelled; octets = t.octets }
behind_all config (Behind es) h t = t

seen_more : (config : Config) (after : WireSeen) (e : Event) (es fs : List Event) (h : History NoMark) → wire_events after ≡ e ∷ es → shed_list config.overload.shed (wire_events after) ≡ fs → WireTape config (Behind fs) h → WireTape config (shed_seen config.overload.shed after) h
seen_more config NoLine e es fs h more is t = cc
seen_more config (Behind all) e es fs h more is t = let P : List Event → Type 0 = λ v. WireTape config (Behind v) h in subst P (sym is) t

judged_length : (rows : List ShedRow) (es : List Event) → length (judged rows es) ≡ length es
judged_length rows [] = refl
judged_length rows (e ∷ es) = ap suc (judged_length rows es)

-- with the line of one event more
lines_more_with : (e : Event) (v : Verdict) (js : List Judged) → shed_lines (Became e v ∷ js) ≡ with_line e v (suc (length js)) (length (dispatched js) + length (kept e v)) (shed_lines js)
lines_more_with e verdict.Pass js = refl
lines_more_with e verdict.Silent js = refl
lines_more_with e (verdict.Shed p x) js = refl

module _ (old : ShedPlay) (e : Event) (v : Verdict) (after_judge : Shedder) (config : Config) (seen after : WireSeen) (h : History NoMark)
    (more : wire_events after ≡ e ∷ wire_events seen) (may : IsShedSeen (names_in config) (resources_in config) after) (is : PlayIs old config seen h)
    (judges : Judges old.shedder e after_judge (Ok v)) where
  abbrev rows : List ShedRow
  rows = config.overload.shed

  abbrev es : List Event
  es = wire_events seen

  abbrev js : List Judged
  js = judged rows es

  abbrev posts : ℕ
  posts = shed_at point.Drain js

  v_is : v ≡ verdict_of rows e js
  v_is = (judges.goes rows js is.shedder).0

  few : IsNumbered v posts
  few = (judges.goes rows js is.shedder).1

  shedder_is : ShedderIs after_judge rows (Became e v ∷ js)
  shedder_is = (judges.goes rows js is.shedder).2

  tape_is : WireTape config (Behind (dispatched js)) h
  tape_is = behind_all config seen h is.tape

  turned : turns h ≡ length (dispatched js)
  turned = turns_are h ∙ ap (λ (l : List Event). length l) tape_is.shown

  stands : StandsAt old.play config (dispatched js) (shed_lines js) h
  stands = record { rests = is.rests; tape = tape_is; none = λ n less. none_behind js n (let t = turned in omega (arith, t, less)) }

  all_may : MayFollowWireAll (names_in config) (resources_in config) (e ∷ es)
  all_may = seen_may after more may.may
    where
      seen_may : (s : WireSeen) → wire_events s ≡ e ∷ es → IsWireSeen (names_in config) (resources_in config) s → MayFollowWireAll (names_in config) (resources_in config) (e ∷ es)
      seen_may NoLine q m = cc
      seen_may (Behind all) q m = let P : List Event → Type 0 = λ l. MayFollowWireAll (names_in config) (resources_in config) l in subst P q m

  none_own : AllByRecursion (λ f. is_own f ≡ false) (e ∷ es)
  none_own = let P : List Event → Type 0 = λ l. AllByRecursion (λ f. is_own f ≡ false) l in subst P more may.none_own

  it_comes : Comes (names_in config) (resources_in config) es e js v
  it_comes =
      let P : Verdict → Type 0 = λ w. Comes (names_in config) (resources_in config) es e js w in
      subst P (sym v_is) (comes (names_in config) (resources_in config) es js (kin_all (names_in config) (resources_in config) rows es all_may.1 none_own.1) rows e all_may.0 none_own.0)

  whole_may : MayFollowWireAll (names_in config) (resources_in config) (reverse (kept e v ++ as_list (instead e v posts)) ++ dispatched js)
  whole_may = may_of (names_in config) (resources_in config) (dispatched js) e (keeps v) (instead e v posts) tape_is.may it_comes.itself (it_comes.stead few)

  -- so it may be played
  pub may_play : (play : WirePlay) (stead : Option Event) (n : ℕ) → play ≡ old.play → stead ≡ instead e v n → n ≡ old.shedder.posts → old.play.lines.names ≡ names_in config → MayPlay play (kept e v ++ as_list stead)
  may_play play stead n same stead_is n_is named =
      let P : Option Event → Type 0 = λ o. MayFollowWireAll (names_in config) (resources_in config) (reverse (kept e v ++ as_list o) ++ dispatched js) in
      let Q : WirePlay → Type 0 = λ p. MayPlay p (kept e v ++ as_list stead) in
      subst Q (sym same) (record {
        config = config;
        fs = dispatched js;
        history = h;
        named = named;
        stands = record { rests = is.rests; tape = tape_is; none = λ n less. refl };
        may = subst P (sym (stead_is ∙ ap (λ m. instead e v m) (n_is ∙ is.shedder.posts_are))) whole_may;
      })

  -- and what it comes to has happened
  module _ (new : ShedPlay) (number : ℕ) (text_old text_new : List ℕ) (named : old.play.lines.names ≡ names_in config)
      (number_is : number ≡ old.events + 1) (events : new.events ≡ number) (shedder : new.shedder ≡ after_judge)
      (played : PlaysAs old.play e v number (kept e v) (as_list (instead e v posts)) text_old new.play text_new) where
    lands : Lands config (shed_lines js) h old.play new.play (dispatched (Became e v ∷ js)) (with_line e v number (turns h + length (kept e v)) (shed_lines js)) text_old text_new
    lands = played.goes config (dispatched js) (shed_lines js) h named stands whole_may

    judged_is : judged rows (wire_events after) ≡ Became e v ∷ js
    judged_is = ap (λ l. judged rows l) more ∙ ap (λ w. Became e w ∷ js) (sym v_is)

    lines_are : with_line e v number (turns h + length (kept e v)) (shed_lines js) ≡ shed_lines (judged rows (wire_events after))
    lines_are =
        ap (λ n. with_line e v n (turns h + length (kept e v)) (shed_lines js)) (let a = judged_length rows es in let b = is.events in omega (arith, number_is, a, b))
        ∙ ap (λ n. with_line e v (suc (length js)) (n + length (kept e v)) (shed_lines js)) turned
        ∙ sym (lines_more_with e v js)
        ∙ ap shed_lines (sym judged_is)

    pub happens : Happens old e new config seen after h text_old text_new
    happens = record {
      history = lands.history;
      added = lands.added;
      is = record {
        shedder =
            let P : List Judged → Type 0 = λ l. ShedderIs new.shedder rows l in
            let Q : Shedder → Type 0 = λ s. ShedderIs s rows (Became e v ∷ js) in
            subst P (sym judged_is) (subst Q (sym shedder) shedder_is);
        events = events ∙ number_is ∙ (let b = is.events in let c = ap (λ (l : List Event). length l) more in omega (arith, b, c));
        rests = lands.stands.rests;
        may = may;
        tape = seen_more config after e es (dispatched (Became e v ∷ js)) lands.history more (ap dispatched judged_is) lands.stands.tape;
      };
      told = ap (λ l. text_with (names_in config) l lands.history) (sym lines_are) ∙ lands.told;
      text = lands.text;
      lines = lands.lines_stay;
    }

-- ---- one event

pub event_can : (old : ShedPlay) (e : Event) (v : Verdict) (after_judge : Shedder) (play : WirePlay) (stead : Option Event) (n : ℕ) → CanTake old e → Judges old.shedder e after_judge (Ok v) → play ≡ old.play → stead ≡ instead e v n → n ≡ old.shedder.posts
    → MayPlay play (kept e v ++ as_list stead)
event_can old e v after_judge play stead n can judges same stead_is n_is = may_play old e v after_judge can.config can.seen can.after can.history can.more can.may can.is judges play stead n same stead_is n_is can.named

pub event_played : (old new : ShedPlay) (e : Event) (v : Verdict) (after_judge : Shedder) (stead : Option Event) (n number : ℕ) (text_old text_new : List ℕ) → Judges old.shedder e after_judge (Ok v) → stead ≡ instead e v n → n ≡ old.shedder.posts
    → number ≡ old.events + 1 → new.events ≡ number → new.shedder ≡ after_judge → PlaysAs old.play e v number (kept e v) (as_list stead) text_old new.play text_new → PlaysEvent old e text_old new text_new (Ok went.On)
event_played old new e v after_judge stead n number text_old text_new judges stead_is n_is number_is events shedder played = record {
  goes = λ config seen after h named more may is.
      let P : Option Event → Type 0 = λ o. PlaysAs old.play e v number (kept e v) (as_list o) text_old new.play text_new in
      let s : stead ≡ instead e v (shed_at point.Drain (judged config.overload.shed (wire_events seen))) = stead_is ∙ ap (λ m. instead e v m) (n_is ∙ is.shedder.posts_are) in
      happens old e v after_judge config seen after h more may is judges new number text_old text_new named number_is events shedder (subst P s played);
}

pub event_failed : (old new : ShedPlay) (e : Event) (text_old text_new : List ℕ) (x : NoMemory) → text_new ≡ text_old → PlaysEvent old e text_old new text_new (Err x)
event_failed old new e text_old text_new x is = record { goes = λ config seen after h named more may k. is }
