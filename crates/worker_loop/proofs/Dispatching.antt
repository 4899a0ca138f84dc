-- An event whose line is written, and which is dispatched.
use Rattle.flow_notes.specs.Event.{IsEvent}
use Rattle.flow_notes.specs.declared.events.Event.{Event}
use Rattle.flow_notes.specs.declared.events.Event.TheVariants as event
use Rattle.flow_notes.specs.declared.notes.Note.{Note}
use Rattle.shared_state.specs.declared.permit_rule.PermitView.{PermitView}
use Rattle.std.proofs.Common.{ap, inl, inr, refl, subst, sym, ◌∙◌}
use Rattle.std.specs.Io.KnownBytes.{Appends}
use Rattle.std.specs.Prelude.{Err, List, None, Option, Result, [], filter, ℕ, ◌++◌, ◌<◌, ◌^◌, ◌∷◌, ◌≡◌}
use Rattle.worker_core.specs.Sessions.{CarriesOut, MayTake, RestsWire}
use Rattle.worker_core.specs.declared.worker.Kind.{Kind}
use Rattle.worker_core.specs.declared.worker.Kind.TheVariants as kind
use Rattle.worker_loop.proofs.Becoming.{becomes_append}
use Rattle.worker_loop.specs.Carrying.{Nothing, One, carried, is_done, named_in}
use Rattle.worker_loop.specs.Clauses.{Carries, DispatchesAs, EndsAll, KeepsLine, KeepsText, ends_in}
use Rattle.worker_loop.specs.Cutting.{CutsOne, CutsShort}
use Rattle.worker_loop.specs.Did.{Dispatched, Noted}
use Rattle.worker_loop.specs.Places.{Becomes, Changes, Place, event_line, place_of, tick_line}
use Rattle.worker_loop.specs.declared.turns.Ended.{Ended as End}
use Rattle.worker_loop.specs.declared.turns.Ended.TheVariants as ended
use Rattle.worker_parts.specs.Journals.{with_notes}
use Rattle.worker_ports.specs.Wires.{Seen}

-- ---- the core
pub may_take : (k : Kind) (notes : List Note) (e : Event) → RestsWire k → MayTake k notes e
may_take (kind.Plain core) notes e rests = absurd rests
may_take (kind.Wire session) notes e rests = λ well. rests.1

-- wire sessions stay, at rest
pub rests_after : (k : Kind) (before : List Note) (e : Event) (new : Kind) (after : List Note) → RestsWire k → CarriesOut k before e new after → RestsWire new
rests_after (kind.Wire old) before e (kind.Wire new) after rests carries = (carries.well, carries.sound)
rests_after (kind.Wire old) before e (kind.Plain new) after rests carries = absurd carries
rests_after (kind.Plain old) before e new after rests carries = absurd rests

-- ---- its line
pub keeps_as : (line text : List ℕ) (old new : Option (List ℕ)) (r : Result (Unit {0}) End) → text ≡ line → KeepsText text old r new → KeepsText line old r new
keeps_as line text old new r e keeps = subst (λ (t : List ℕ). KeepsText t old r new) e keeps

-- that of a tick
pub tick_as : (names : List (List ℕ)) (e : Event) (now : ℕ) → e ≡ event.Tick now → tick_line now ≡ event_line names e
tick_as names e now is = sym (ap (λ (x : Event). event_line names x) is)

pub tick_moment : (names : List (List ℕ)) (e : Event) (now : ℕ) → e ≡ event.Tick now → IsEvent names e → now < 2 ^ 60
tick_moment names e now is may = subst (λ (x : Event). IsEvent names x) is may

-- no line is kept
pub unkept : (line : List ℕ) (told : Option (List ℕ)) → told ≡ None → Appends told told line
unkept line told e = subst (λ (v : Option (List ℕ)). Appends v v line) (sym e) tt

pub line_err : (names : List (List ℕ)) (e : Event) (k : Kind) (notes : List Note) (old new : Option (List ℕ)) (end : End) → KeepsLine names e old (Err end) new → DispatchesAs names e k old (Err end) k notes new
line_err names e k notes old new ended.Turns line = line
line_err names e k notes old new ended.Stopped line = line
line_err names e k notes old new ended.WiresFault line = line
line_err names e k notes old new ended.JournalFault line = (refl, line)
line_err names e k notes old new ended.Memory line = inl line

pub not_wires : (names : List (List ℕ)) (e : Event) (k k' : Kind) (notes : List Note) (old new : Option (List ℕ)) (end : End) → DispatchesAs names e k old (Err end) k' notes new → end ≡ ended.WiresFault → ⊥
not_wires names e k k' notes old new ended.Turns d is = d
not_wires names e k k' notes old new ended.Stopped d is = d
not_wires names e k k' notes old new ended.WiresFault d is = d
not_wires names e k k' notes old new ended.JournalFault d is = cc
not_wires names e k k' notes old new ended.Memory d is = cc

-- ---- it breaks off
pub cut_dispatched : (names : List (List ℕ)) (e : Event) (k k' : Kind) (notes : List Note) (text text' : Option (List ℕ)) (told told' : Option (List Note)) (seen : Seen) (held : List ℕ) (seat : PermitView) (end : End)
    → DispatchesAs names e k text (Err end) k' notes text' → told' ≡ told → CutsOne names end k (place_of text told seen held seat) k' (place_of text' told' seen held seat)
cut_dispatched names e k k' notes text text' told told' seen held seat ended.Turns d same = d
cut_dispatched names e k k' notes text text' told told' seen held seat ended.Stopped d same = d
cut_dispatched names e k k' notes text text' told told' seen held seat ended.WiresFault d same = d
cut_dispatched names e k k' notes text text' told told' seen held seat ended.JournalFault d same =
    (d.0, record { happens = e; front = d.1; rest = ap (λ (t : Option (List Note)). place_of text' t seen held seat) same })
cut_dispatched names e k k' notes text text' told told' seen held seat ended.Memory (inl none) same = record {
  did = [];
  is = inl refl;
  becomes = ap (λ (t : Option (List ℕ)). place_of t told' seen held seat) none ∙ ap (λ (t : Option (List Note)). place_of text t seen held seat) same;
}
cut_dispatched names e k k' notes text text' told told' seen held seat ended.Memory (inr line) same = record {
  did = Dispatched e ∷ [];
  is = inr (e, [], refl);
  becomes = (place_of text' told' seen held seat, (ap (λ (t : Option (List Note)). place_of text' t seen held seat) same, line), refl);
}

-- ---- it is carried out
module _ (names : List (List ℕ)) (e : Event) (k k' : Kind) (notes : List Note) (text text' : Option (List ℕ)) (told told' : Option (List Note)) (seen seen' : Seen) (held held' : List ℕ) (seat seat' : PermitView)
    (carries : CarriesOut k [] e k' notes) (line : Appends text text' (event_line names e)) (same : told' ≡ told) (ends : EndsAll k' notes seen held seat seen' held' seat') where
  dispatched : Becomes names (place_of text told seen held seat) (Dispatched e ∷ ends_in k' notes) (place_of text' told seen' held' seat')
  dispatched = (place_of text' told seen held seat, (refl, line), ends.goes names text' told)

  -- its notes aren't handed over
  pub cut_noted : (text'' : Option (List ℕ)) (told'' : Option (List Note)) → text'' ≡ text' → told'' ≡ told' → CutsShort names (place_of text told seen held seat) (place_of text'' told'' seen' held' seat')
  cut_noted text'' told'' at_text at_told = record {
    did = Dispatched e ∷ ends_in k' notes;
    is = inr (e, filter (is_done k') (named_in notes), refl);
    becomes = subst (λ (p : Place). Becomes names (place_of text told seen held seat) (Dispatched e ∷ ends_in k' notes) p)
        (sym (ap (λ (t : Option (List ℕ)). place_of t told'' seen' held' seat') at_text ∙ ap (λ (t : Option (List Note)). place_of text' t seen' held' seat') (at_told ∙ same))) dispatched;
  }

  -- they are
  pub carried_whole : RestsWire k → (text'' : Option (List ℕ)) (told'' : Option (List Note)) → text'' ≡ text' → told'' ≡ with_notes notes told'
      → Carries names (e ∷ []) k (place_of text told seen held seat) k' (place_of text'' told'' seen' held' seat')
  carried_whole rests text'' told'' at_text at_told =
      let w : Place = place_of text'' told'' seen' held' seat' in
      let noted : Changes names (place_of text' told seen' held' seat') (Noted notes) w
      = ap (λ (t : Option (List ℕ)). place_of t told'' seen' held' seat') at_text ∙ ap (λ (t : Option (List Note)). place_of text' t seen' held' seat') (at_told ∙ ap (with_notes notes) same) in
      let all : Becomes names (place_of text told seen held seat) (carried e k' notes) w
      = becomes_append names (Dispatched e ∷ ends_in k' notes) (Noted notes ∷ []) (place_of text told seen held seat) (place_of text' told seen' held' seat') w dispatched (w, noted, refl) in
      record {
        did = carried e k' notes ++ [];
        all = One e [] k k' k' (carried e k' notes) [] (record { notes = notes; carries = carries; is = refl }) (Nothing k');
        becomes = becomes_append names (carried e k' notes) [] (place_of text told seen held seat) w w all refl;
        rests = rests_after k [] e k' notes rests carries;
      }
