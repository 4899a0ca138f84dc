-- Notes that move no octets, and notes that were owed.
use Rattle.flow_notes.specs.declared.notes.Note.{Note}
use Rattle.flow_notes.specs.declared.notes.Note.TheVariants as note
use Rattle.proxy_config.specs.declared.config.Config.{Config}
use Rattle.proxy_config.specs.declared.config.LimitKeys.{LimitKeys}
use Rattle.std.proofs.Common.{ap, append_assoc, refl, sym, ◌∙◌}
use Rattle.std.proofs.lemmas.List.{append-nil}
use Rattle.paged_map.specs.PagedMap.{PagedMap}
use Rattle.std.specs.Prelude.{Err, List, Ok, OnOk, Option, Result, [], ℕ, ◌++◌, ◌∷◌, ◌≡◌}
use Rattle.tape_laws.specs.History.{Noted}
use Rattle.wire_flows.specs.Flows.{Flows}
use Rattle.wire_links.specs.Links.{Links}
use Rattle.wire_state.proofs.Goings.{KeepsLeft, told_at, told_by}
use Rattle.wire_state.proofs.Counting.{CountsGo, counts_go}
use Rattle.wire_state.proofs.Quiets.{idle_go}
use Rattle.wire_state.proofs.Standing.{KeepsFlows, KeepsShut, Writes, conns_same, same_octets, wrote}
use Rattle.wire_state.specs.Counts.{Counts}
use Rattle.wire_state.specs.Marks.{AreWays, Footing}
use Rattle.wire_state.specs.Ways.{WayHistory}
use Rattle.wire_state.specs.Worlds.{IsIdle, Pays, Shows, Stands, ToldBy}
use Rattle.wire_state.specs.declared.conn.Conn.{Conn}

pub paid : {A E : Type 0} (r : Result A E) (owed before now : List Note) → OnOk r (now ≡ before ++ owed) → Pays r owed before now
paid (Ok u) owed before now e = record {
  goes = λ h g start conns flows links t. told_at h g start conns conns flows links (before ++ owed) now refl (sym e) t;
  front = λ h g start rest conns flows links t.
      told_at h g start conns conns flows links (before ++ (owed ++ rest)) (now ++ rest) refl (sym (ap (λ (ns : List Note). ns ++ rest) e ∙ append_assoc before owed rest)) t;
}
paid (Err x) owed before now e = record { goes = λ h g start conns flows links t. tt; front = λ h g start rest conns flows links t. tt }

-- nothing was to be noted
pub nothing_paid : {A E : Type 0} {a : A} → (notes : List Note) → Pays {A = A} {E = E} (Ok a) [] notes notes
nothing_paid {A = A} {E = E} {a = a} notes = paid {A = A} {E = E} (Ok a) [] notes notes (sym (append-nil notes))

-- nor was this, which is none
pub owed_none : {A E : Type 0} {a : A} → (owed notes : List Note) → owed ≡ [] → Pays {A = A} {E = E} (Ok a) owed notes notes
owed_none {A = A} {E = E} {a = a} owed notes e = paid {A = A} {E = E} (Ok a) owed notes notes (sym (ap (λ (ns : List Note). notes ++ ns) e ∙ append-nil notes))

-- one after the other
pub both_paid : {A B E : Type 0} {b : B} (r : Result A E) (owed later before mid now : List Note) → Pays {A = B} {E = E} (Ok b) owed before mid → Pays r later mid now → Pays r (owed ++ later) before now
both_paid r owed later before mid now first second = record {
  goes = λ h g start conns flows links t. second.goes h g start conns flows links (first.front h g start later conns flows links t);
  front = λ h g start rest conns flows links t. second.front h g start rest conns flows links
      (first.front h g start (later ++ rest) conns flows links (told_at h g start conns conns flows links (before ++ ((owed ++ later) ++ rest)) (before ++ (owed ++ (later ++ rest))) refl (ap (λ (ns : List Note). before ++ ns) (append_assoc owed later rest)) t));
}

-- a step that changes nothing
record IsNothing (n : Note) : Type 0 where
  writes : (h : WayHistory) → Writes same_octets (Noted n) h
  flows : (h : WayHistory) → KeepsFlows (Noted n) h
  shut : (h : WayHistory) → KeepsShut (Noted n) h
  left : KeepsLeft (Noted n ∷ [])
  ways : (config : Config) (h : WayHistory) → AreWays config h → AreWays config (Noted n ∷ h)
  counts : {l : LimitKeys} {t u : Option ℕ} (conns : PagedMap Conn) (fs : Flows) (h : WayHistory) → Counts l t u conns fs h → CountsGo l t u t u conns conns fs fs (Noted n) [] h

nothing_of : (n : Note) → IsIdle n → IsNothing n
nothing_of (note.Waste c s n) i = record {
  writes = λ h. record { outs = λ d. refl; taken = tt };
  flows = λ h. record { places = λ g p. refl; stages = λ g. refl; stream = λ g. refl; came = λ g. refl; went = λ g. refl; began = refl; opened = λ x. refl };
  shut = λ h. record { closed = λ d. refl; come = λ d e. e };
  left = λ h d. refl;
  ways = λ config h w. w;
  counts = λ conns fs h counted. idle_go conns fs (Noted (note.Waste c s n)) h counted (λ f there. record { stages = refl; conn = refl; spared = refl }) refl tt (λ f. (refl, refl)) (λ f. refl) (λ f. refl);
}
nothing_of (note.Fire k x) i = record {
  writes = λ h. record { outs = λ d. refl; taken = tt };
  flows = λ h. record { places = λ g p. refl; stages = λ g. refl; stream = λ g. refl; came = λ g. refl; went = λ g. refl; began = refl; opened = λ x. refl };
  shut = λ h. record { closed = λ d. refl; come = λ d e. e };
  left = λ h d. refl;
  ways = λ config h w. w;
  counts = λ conns fs h counted. idle_go conns fs (Noted (note.Fire k x)) h counted (λ f there. record { stages = refl; conn = refl; spared = refl }) refl tt (λ f. (refl, refl)) (λ f. refl) (λ f. refl);
}
nothing_of (note.Gone x) i = record {
  writes = λ h. record { outs = λ d. refl; taken = tt };
  flows = λ h. record { places = λ g p. refl; stages = λ g. refl; stream = λ g. refl; came = λ g. refl; went = λ g. refl; began = refl; opened = λ x. refl };
  shut = λ h. record { closed = λ d. refl; come = λ d e. e };
  left = λ h d. refl;
  ways = λ config h w. w;
  counts = λ conns fs h counted. idle_go conns fs (Noted (note.Gone x)) h counted (λ f there. record { stages = refl; conn = refl; spared = refl }) refl tt (λ f. (refl, refl)) (λ f. refl) (λ f. refl);
}
nothing_of (note.Pause f b) i = absurd i
nothing_of (note.Resume f b) i = absurd i
nothing_of (note.Turn k e) i = absurd i
nothing_of (note.Start x c s d) i = absurd i
nothing_of (note.Arrive f octets) i = absurd i
nothing_of (note.Move f p n) i = absurd i
nothing_of (note.Frame c f n last) i = absurd i
nothing_of (note.Head c s octets) i = absurd i
nothing_of (note.Answer c octets) i = absurd i
nothing_of (note.Credit c s n) i = absurd i
nothing_of (note.Out c n) i = absurd i
nothing_of (note.Doom x why) i = absurd i
nothing_of (note.Close c code why) i = absurd i

module _ (conns : PagedMap Conn) (flows : Flows) (links : Links) where
  one_told : {k : Config} {l : Footing} {t u : Option ℕ} → (n : Note) → IsIdle n → (h : WayHistory) (g : ℕ → List ℕ) (start before : List Note) → ToldBy k l t u h g start conns flows links before → ToldBy k l t u h g start conns flows links (before ++ n ∷ [])
  one_told {l = l} {t = t} {u = u} n i =
      let e = nothing_of n i in
      let stand : (h : WayHistory) → Stands l.config.limits conns flows links h → Stands l.config.limits conns flows links (Noted n ∷ h) = λ h s. wrote same_octets (Noted n) h conns conns flows links (e.writes h) (e.flows h) (e.shut h) (conns_same conns) (λ c fit. fit) s in
      told_by {l = l} (Noted n ∷ []) (e.left) conns conns flows flows links links (record { ways = λ h s w. e.ways l.config h w; rows = refl }) stand
      (λ h s c. counts_go l.config.limits t u t u conns conns flows flows (Noted n) [] h links links (e.counts conns flows h c) s (stand h s) c)

pub idle : {A E : Type 0} (r : Result A E) (n : Note) (before now : List Note) → OnOk r (now ≡ before ++ n ∷ []) → IsIdle n → Shows r before now
idle (Ok u) n before now e i = record { goes = λ h g start conns flows links t. told_at h g start conns conns flows links (before ++ n ∷ []) now refl (sym e) (one_told conns flows links n i h g start before t) }
idle (Err x) n before now e i = record { goes = λ h g start conns flows links t. tt }
