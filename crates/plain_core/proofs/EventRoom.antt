-- Octets leave the write buffer.
use Rattle.flow_rules.specs.declared.ids.FlowId.{FlowId}
use Rattle.plain_laws.proofs.EventChanges.{room_high, room_keeps, room_lows}
use Rattle.plain_laws.proofs.EventSteps.{room_none_step, room_step}
use Rattle.plain_laws.proofs.Quiets.{rests_told}
use Rattle.plain_laws.proofs.Streams.{not_both}
use Rattle.std.proofs.Common.{ap, arith, inl, inr, refl, sym, ◌∙◌}
use Rattle.std.specs.List.{AllByRecursion, list_any}
use Rattle.std.specs.Prelude.{Bool, List, [], false, if◌then◌else◌, length, map, min, not, true, ℕ, ◌&&◌, ◌+◌, ◌<◌, ◌∷◌, ◌≡◌, ◌⊎◌}
use Rattle.plain_laws.specs.Words.{Past, conn_out}
use Rattle.tape_laws.specs.Dispatches.{live}
use Rattle.tape_laws.specs.Flows.{request}
use Rattle.tape_laws.specs.History.{Noted}
use Rattle.tape_laws.specs.Plain.{plain_setup}
use Rattle.tape_laws.specs.Watermark.{above}
use Rattle.tape_laws.specs.declared.PlainLimits.{PlainLimits}
use Rattle.plain_core.proofs.EventOpens.{IsOpened, good_of, pairs_kept, turn_number, underway_of, underway_round}
use Rattle.plain_core.proofs.Fronts.{Opened}
use Rattle.plain_core.proofs.Rested.{at_rest, may_same, rest_still, rest_unended}
use Rattle.plain_core.proofs.TurnStands.{turn_stands, turned}
use Rattle.plain_core.specs.Agenda.{Agenda, is_rounded, is_telling}
use Rattle.plain_core.specs.Carries.{Leaves}
use Rattle.plain_core.specs.Progress.{HasReason}
use Rattle.plain_core.specs.Stands.{Rests}
use Rattle.plain_core.specs.declared.flows.Flows.{Flows}
use Rattle.plain_core.specs.declared.plain.PlainCore.{PlainCore}
use Rattle.flow_rules.specs.declared.ids.BufferId.TheVariants as buffer
use Rattle.flow_notes.specs.declared.events.PlainEvent.TheVariants as plain
use Rattle.flow_notes.specs.declared.notes.Note.TheVariants as note
use Rattle.plain_core.specs.declared.agenda.Task.TheVariants as task

octets_of : (limits : PlainLimits) (core : PlainCore) (h : Past) → Rests limits core h → length core.flows.conn.write.octets ≡ length (conn_out limits h)
octets_of limits core h r = cc

least_of : (a n b c : ℕ) → a ≡ min n b → b ≡ c → a ≡ min n c
least_of a n b c e f = cc

none_least : (n b c : ℕ) → min n b ≡ 0 → b ≡ c → min n c ≡ 0
none_least n b c e f = cc

-- nothing may leave
pub none_opened : (old new : PlainCore) (n k : ℕ) → IsOpened old old.flows old.pairs (task.Round ∷ old.agenda) new → min n (length old.flows.conn.write.octets) ≡ 0 → k ≡ old.turn + 1
    → Opened old k (plain.Room n) [] new
none_opened old new n k o none ek = record {
  number = omega (arith, ek);
  spelled = λ i. tt;
  silent = tt;
  goes = λ limits h r m.
      let rest = at_rest limits old h r in
      good_of limits old new old.flows old.pairs (task.Round ∷ old.agenda) (task.Round ∷ []) h (turned k (plain.Room n) ∷ h) o r (λ e. cc)
      (turn_stands limits k (plain.Room n) h old.flows (λ y e. refl) r.good.flows.stands)
      (room_none_step limits k n h rest (turn_number limits old k h r ek) (none_least n _ _ none (octets_of limits old h r))) refl (pairs_kept limits old h (turned k (plain.Room n) ∷ h) r (λ y. refl))
      (underway_round limits old.pairs _ (λ y e. rest_still limits old y h r e) (rests_told limits h rest)
      (λ y e. rest_unended limits old y h r e) refl);
  well = o.failed;
}

-- the telling is begun where the buffer drained
abbrev pub with_telling : Bool → Agenda → Agenda
with_telling low a = if low then task.Tell 0 ∷ a else a

telling_told : (low : Bool) (fs : List FlowId) (lows : List FlowId) → lows ≡ (if low then fs else []) → (lows ≡ []) ⊎ (list_any (is_telling 0) (with_telling low (task.Round ∷ [])) ≡ true)
telling_told true fs lows e = inr refl
telling_told false fs lows e = inl e

telling_reasons : (limits : PlainLimits) (h : Past) (low : Bool) → AllByRecursion (HasReason limits h) (with_telling low (task.Round ∷ []))
telling_reasons limits h true = (tt, (tt, tt))
telling_reasons limits h false = (tt, tt)

telling_rounded : (low : Bool) → is_rounded (with_telling low (task.Round ∷ [])) ≡ true
telling_rounded true = refl
telling_rounded false = refl

pub room_opened : (old new : PlainCore) (n m k : ℕ) (low : Bool) (f : Flows) → IsOpened old f old.pairs (with_telling low (task.Round ∷ old.agenda)) new → Leaves m low old.flows f
    → m ≡ min n (length old.flows.conn.write.octets) → 0 < m → k ≡ old.turn + 1 → Opened old k (plain.Room n) (note.Out 0 m ∷ []) new
room_opened old new n m k low f o l em some ek = record {
  number = omega (arith, ek);
  spelled = λ i. (omega (arith, some), tt);
  silent = (record { events = λ h. refl }, tt);
  goes = λ limits h r i.
      let rest = at_rest limits old h r in
      let s = l.goes limits k n h r.good.flows (rests_told limits h rest) in
      let b = buffer.Write 0 in
      let new_h = Noted (note.Out 0 m) ∷ turned k (plain.Room n) ∷ h in
      let drained : low ≡ (above (plain_setup limits) b h && not (above (plain_setup limits) b new_h)) = s.drains ∙ ap (λ v. above (plain_setup limits) b h && not v) (sym (room_high limits k n m h)) in
      good_of limits old new f old.pairs (with_telling low (task.Round ∷ old.agenda)) (with_telling low (task.Round ∷ [])) h new_h o r (λ e. cc)
      s.stands (room_step limits k n m h rest (turn_number limits old k h r ek) (least_of m n _ _ em (octets_of limits old h r)) some) refl (pairs_kept limits old h new_h r (λ y. refl))
      (underway_of limits old.pairs (with_telling low (task.Round ∷ [])) new_h
      (λ y e t. not_both _ t (may_same limits y h new_h refl (room_keeps limits k n m y h).recv ∙ rest_still limits old y h r e))
      (telling_told low (map request (live h)) _ (cc (room_lows limits k n m h rest)))
      (λ y e. rest_unended limits old y h r e) (telling_reasons limits new_h low) (telling_rounded low) refl);
  well = o.failed;
}
