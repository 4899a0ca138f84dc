-- From what a core stands for to what its tape promises.
use Rattle.flow_rules.specs.declared.ids.FlowId.{FlowId}
use Rattle.flow_laws.proofs.Sound.{each_map}
use Rattle.flow_notes.specs.declared.events.Event.TheVariants as event
use Rattle.flow_notes.specs.declared.notes.CloseCause.TheVariants as cause
use Rattle.flow_notes.specs.declared.notes.Note.TheVariants as note
use Rattle.h2_frames.specs.Head.{data_head}
use Rattle.paged_map.specs.PagedMap.{PagedMap}
use Rattle.proxy_config.specs.declared.config.LimitKeys.{LimitKeys}
use Rattle.std.proofs.Common.{ap, arith, refl, subst, sym}
use Rattle.std.proofs.lemmas.Bool.Decides.{nat_tests}
use Rattle.std.specs.Bool.{OnTrue}
use Rattle.std.specs.List.{AllByRecursion}
use Rattle.std.specs.Prelude.{Bool, List, [], drop, false, if◌then◌else◌, length, nat_lt, take, true, ℕ, ◌&&◌, ◌++◌, ◌+◌, ◌<◌, ◌==◌, ◌∷◌, ◌≡◌, ◌≤◌}
use Rattle.tape_laws.specs.Bounds.{IsBounded, StagesBounded, unit_size}
use Rattle.tape_laws.specs.Connections.{connections, was_closed}
use Rattle.tape_laws.specs.Flows.{same_flow}
use Rattle.tape_laws.specs.Headline.{CountsItsSources, Headline, SendsItsBody}
use Rattle.tape_laws.specs.History.{AtEachMoment, BeforeTurn, EachFollows, Noted}
use Rattle.tape_laws.specs.Sources.{live_flows}
use Rattle.tape_laws.specs.Tied.{IsFront}
use Rattle.tape_laws.specs.Units.{StageKind}
use Rattle.tape_laws.specs.World.{last_place, out, place, received, sent, window_update}
use Rattle.wire_flows.specs.Flows.{Flows}
use Rattle.wire_links.specs.Links.{Links}
use Rattle.wire_state.specs.Counts.{EachHeeds, Heeds}
use Rattle.wire_state.specs.Limits.{Fits, StagesFit}
use Rattle.wire_state.specs.Tapes.{Promises, tape_setup}
use Rattle.wire_state.specs.Ways.{WayHistory, WayStep, stages_passed, stream_to, world_setup}
use Rattle.wire_state.specs.Worlds.{Stands}
use Rattle.wire_state.specs.declared.conn.Conn.{Conn}

-- ---- limits move no octets
module _ (l : LimitKeys) where
  pub same_place : (f : FlowId) (p : ℕ) (h : WayHistory) → place (tape_setup l) f p h ≡ place world_setup f p h
  same_place f p [] = refl
  same_place f p (Noted (note.Arrive g octets) ∷ h) = ap (λ xs. xs ++ (if same_flow g f && (p == 0) then octets else [])) (same_place f p h)
  same_place f p (Noted (note.Move g q n) ∷ h) = λ i.
      if same_flow g f then (if p == q then drop n (same_place f p h i) else (if p == q + 1 then same_place f p h i ++ take n (same_place f q h i) else same_place f p h i))
      else same_place f p h i
  same_place f p (Noted (note.Frame c g n last) ∷ h) = ap (λ xs. drop (if same_flow g f && (p == last_place world_setup f h) then n else 0) xs) (same_place f p h)
  same_place f p (Noted (note.Doom x why) ∷ h) = ap (λ (xs : List ℕ). if f.exchange == x then [] else xs) (same_place f p h)
  same_place f p (step ∷ h) = same_place f p h

  same_sent : (f : FlowId) (h : WayHistory) → sent (tape_setup l) f h ≡ sent world_setup f h
  same_sent f [] = refl
  same_sent f (Noted (note.Frame c g n last) ∷ h) = λ i. same_sent f h i ++ (if same_flow g f then take n (same_place f (last_place world_setup f h) h i) else [])
  same_sent f (step ∷ h) = same_sent f h

  pub same_out : (c : ℕ) (h : WayHistory) → out (tape_setup l) c h ≡ out world_setup c h
  same_out c [] = refl
  same_out c (Noted (note.Frame d f n last) ∷ h) = λ i. same_out c h i ++ (if d == c then data_head (stream_to f h) n last ++ take n (same_place f (last_place world_setup f h) h i) else [])
  same_out c (Noted (note.Head d s octets) ∷ h) = ap (λ xs. xs ++ (if d == c then octets else [])) (same_out c h)
  same_out c (Noted (note.Answer d octets) ∷ h) = ap (λ xs. xs ++ (if d == c then octets else [])) (same_out c h)
  same_out c (Noted (note.Credit d s n) ∷ h) = ap (λ xs. xs ++ (if d == c then window_update s n else [])) (same_out c h)
  same_out c (Noted (note.Out d n) ∷ h) = ap (λ xs. drop (if d == c then n else 0) xs) (same_out c h)
  same_out c (Noted (note.Close d code cause.Lost) ∷ h) = ap (λ (xs : List ℕ). if d == c then [] else xs) (same_out c h)
  same_out c (Noted (note.Turn k (event.Gone d)) ∷ h) = ap (λ (xs : List ℕ). if (d == c) && was_closed c h then [] else xs) (same_out c h)
  same_out c (step ∷ h) = same_out c h

  -- ---- at one moment
  sends : (h : WayHistory) → SendsItsBody world_setup h → SendsItsBody (tape_setup l) h
  sends h s f = subst (λ (xs : List ℕ). IsFront xs (received f h)) (sym (same_sent f h)) (s f)

  all_flows : (P : FlowId → Type 0) → ((f : FlowId) → P f) → (fs : List FlowId) → AllByRecursion P fs
  all_flows P each [] = tt
  all_flows P each (f ∷ fs) = (each f, all_flows P each fs)

  all_conns : (P : ℕ → Type 0) → ((c : ℕ) → P c) → (cs : List ℕ) → AllByRecursion P cs
  all_conns P each [] = tt
  all_conns P each (c ∷ cs) = (each c, all_conns P each cs)

  under : {A : Type 0} (n : ℕ) → (0 < n → A) → OnTrue (nat_lt 0 n) A
  under {A} n f = at (nat_lt 0 n) (λ e. f (some n e))
    where
      some : (n : ℕ) → nat_lt 0 n ≡ true → 0 < n
      some n e = grind (arith, nat_tests)

      at : (b : Bool) → (b ≡ true → A) → OnTrue b A
      at true g = g refl
      at false g = tt

  fits_in : (f : FlowId) (p n : ℕ) (h : WayHistory) → length (place world_setup f p h) ≤ n → length (place (tape_setup l) f p h) ≤ n
  fits_in f p n h fits = subst (λ (xs : List ℕ). length xs ≤ n) (sym (same_place f p h)) fits

  stages_bounded : (f : FlowId) (p : ℕ) (ss : List StageKind) (h : WayHistory) → StagesFit l f p ss h → StagesBounded (tape_setup l) f p ss h
  stages_bounded f p [] h fits = tt
  stages_bounded f p (s ∷ ss) h fits = (fits_in f p _ h fits.0, stages_bounded f (p + 1) ss h fits.1)

  is_bounded : (h : WayHistory) → Fits l h → IsBounded (tape_setup l) h
  is_bounded h fits = record {
    recv = all_flows (λ f. length (place (tape_setup l) f 0 h) ≤ l.stream_window) (λ f. fits_in f 0 l.stream_window h (fits.flows f).window) (live_flows (tape_setup l) h);
    stages = all_flows (λ f. StagesBounded (tape_setup l) f 1 (stages_passed f h) h) (λ f. stages_bounded f 1 (stages_passed f h) h (fits.flows f).stages) (live_flows (tape_setup l) h);
    send = under l.send_buffer (λ some. all_flows (λ f. length (place (tape_setup l) f (last_place world_setup f h) h) ≤ l.send_buffer + l.quantum)
        (λ f. fits_in f (last_place world_setup f h) (l.send_buffer + l.quantum) h ((fits.flows f).send some)) (live_flows (tape_setup l) h));
    write = under l.write_buffer (λ some. all_conns (λ c. length (out (tape_setup l) c h) ≤ l.write_buffer + unit_size (tape_setup l))
        (λ c. subst (λ (xs : List ℕ). length xs ≤ l.write_buffer + unit_size (tape_setup l)) (sym (same_out c h)) (fits.outs c some)) (connections (tape_setup l) h));
    together = tt;
  }

  -- ---- at each
  each_moment : (P Q : WayHistory → Type 0) → ((h : WayHistory) → P h → Q h) → (h : WayHistory) → AtEachMoment P h → AtEachMoment Q h
  each_moment P Q goes [] a = goes [] a
  each_moment P Q goes (step ∷ h) a = (goes (step ∷ h) a.0, each_moment P Q goes h a.1)

pub promised : {l : LimitKeys} → (conns : PagedMap Conn) (flows : Flows) (links : Links) (h : WayHistory) → Stands l conns flows links h → Promises l h
promised {l} conns flows links h s = record {
  sent = each_moment l (SendsItsBody world_setup) (SendsItsBody (tape_setup l)) (sends l) h s.fronts;
  bounded = each_moment l (Fits l) (IsBounded (tape_setup l)) (is_bounded l) h s.fits;
}

before_turns : (l : LimitKeys) (step : WayStep) (h : WayHistory) → Heeds l step h → BeforeTurn (CountsItsSources (tape_setup l)) step h
before_turns l (Noted (note.Turn k e)) h heeds = heeds
before_turns l step h heeds = tt

-- with the counts it is the headline, as a plain session has it
pub headline_of : {l : LimitKeys} → (h : WayHistory) → Promises l h → EachHeeds l h → CountsItsSources (tape_setup l) h → Headline (tape_setup l) h
headline_of {l} h p counted last = record { sent = p.sent; bounded = p.bounded; counted = each_map (Heeds l) (BeforeTurn (CountsItsSources (tape_setup l))) (before_turns l) h counted; last = last }
