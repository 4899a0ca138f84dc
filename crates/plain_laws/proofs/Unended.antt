-- A stream that need not end.
use Rattle.std.proofs.lemmas.Bool.{or_parts}
use Rattle.plain_laws.proofs.Streams.{swapped}
use Rattle.std.proofs.lemmas.Bool.{or_from}
use Rattle.std.proofs.Math.Bool.{and-false}
use Rattle.flow_rules.specs.declared.ids.FlowId.{FlowId}
use Rattle.plain_laws.proofs.Streams.{all_at}
use Rattle.std.proofs.Common.{refl}
use Rattle.std.specs.Prelude.{Bool, List, [], false, if◌then◌else◌, true, ℕ, ◌&&◌, ◌==◌, ◌||◌, ◌∷◌, ◌≡◌}
use Rattle.plain_laws.specs.Words.{Past, Alive, end_out}
use Rattle.tape_laws.specs.Dispatches.{has, live}
use Rattle.tape_laws.specs.Flows.{request, same_flow}
use Rattle.tape_laws.specs.History.{Noted}
use Rattle.tape_laws.specs.Plain.{paired_with}
use Rattle.tape_laws.specs.PlainSession.{plain_must_end, plain_session}
use Rattle.tape_laws.specs.Quiet.{IsQuiet}
use Rattle.tape_laws.specs.declared.PlainLimits.{PlainLimits}
use Rattle.flow_notes.specs.declared.notes.Note.TheVariants as note

-- no end of it was framed
pub unframed_of : (limits : PlainLimits) (x : ℕ) (h : Past) → plain_must_end x h ≡ false → end_out limits x h ≡ false
unframed_of limits x [] e = refl
unframed_of limits x (Noted (note.Frame c f n last) ∷ past) e =
    let k = or_parts (last && has (x ∷ paired_with x past) f.exchange) (plain_must_end x past) e in
    or_from (same_flow f (request x) && last) _ (not_last f last (paired_with x past) k.0) (unframed_of limits x past k.1)
  where
    none : (a b c l : Bool) → (l && (a || b)) ≡ false → ((a && c) && l) ≡ false
    none true b c true e = cc
    none true true c false e = and-false c
    none true false c false e = and-false c
    none false b c l e = refl

    not_last : (f : FlowId) (last : Bool) (xs : List ℕ) → (last && has (x ∷ xs) f.exchange) ≡ false → (same_flow f (request x) && last) ≡ false
    not_last f last xs e =
        none (f.exchange == x) (has xs f.exchange) (if f.back then false else true) last (cc (swapped f.exchange x))
unframed_of limits x (step ∷ past) e = unframed_of limits x past e

-- at the end of a dispatch no live stream need end
pub rests_unframed : (limits : PlainLimits) (x : ℕ) (h : Past) → IsQuiet (plain_session limits) h → Alive h x → end_out limits x h ≡ false
rests_unframed limits x h q e = unframed_of limits x h (all_at (λ y. plain_must_end y h ≡ false) (live h) x q.ended e)
