-- Octets leave the write buffer.
use Rattle.plain_laws.specs.Words.{Past, conn_high, conn_lows, conn_out, lows_of}
use Rattle.tape_laws.specs.Doomed.{is_swept}
use Rattle.flow_rules.specs.declared.ids.FlowId.{FlowId}
use Rattle.plain_laws.proofs.Extending.{MayAdd, one_owed, regular_more, under_test}
use Rattle.plain_laws.proofs.Leaving.{Leaves, flow_kept, once_kept, unborn_kept}
use Rattle.plain_laws.proofs.Tellings.{all_requests}
use Rattle.plain_laws.proofs.Watching.{write_watchers}
use Rattle.plain_laws.specs.Owing.{asking, nothing}
use Rattle.plain_laws.specs.Regular.{Books, IsLiveFlow, IsRising, Regular}
use Rattle.std.proofs.Common.{arith, length-drop, refl, subst, sym, ◌∙◌}
use Rattle.std.proofs.lemmas.List.{append-nil}
use Rattle.std.specs.List.{AllByRecursion}
use Rattle.std.specs.Prelude.{Bool, List, [], false, if◌then◌else◌, length, map, nat_lt, not, true, ℕ, ◌&&◌, ◌++◌, ◌∷◌, ◌≡◌, ◌≤◌}
use Rattle.tape_laws.specs.Dispatches.{live}
use Rattle.tape_laws.specs.Flows.{request}
use Rattle.tape_laws.specs.History.{NoMark, Noted, Step}
use Rattle.tape_laws.specs.Pauses.{Heads}
use Rattle.tape_laws.specs.Units.{WantsOut}
use Rattle.tape_laws.specs.declared.PlainLimits.{PlainLimits}
use Rattle.flow_notes.specs.declared.notes.Note.TheVariants as note

-- where it drains, all live flows are to be told
pub out_lows : (limits : PlainLimits) (n : ℕ) (h : Past) → conn_lows limits h ≡ []
    → conn_lows limits (Noted (note.Out 0 n) ∷ h)
    ≡ (if conn_high limits h && not (conn_high limits (Noted (note.Out 0 n) ∷ h)) then map request (live h) else [])
out_lows limits n h none =
    told_where (conn_high limits h && not (conn_high limits (Noted (note.Out 0 n) ∷ h))) _ _ (map request (live h)) none (write_watchers limits h)
  where
    told_where : (b : Bool) (pending watching fs : List FlowId) → pending ≡ [] → watching ≡ fs → pending ++ (if b then watching else []) ≡ (if b then fs else [])
    told_where true pending watching fs e w = rw (e, w) refl
    told_where false pending watching fs e w = rw e refl

pub out_leaves : (limits : PlainLimits) (n x : ℕ) (h : Past) → Leaves limits x (Noted (note.Out 0 n)) h
out_leaves limits n x h = record {
  recv = refl;
  send = refl;
  send_lows = append-nil (lows_of limits x h);
  paused = refl;
  resumed = refl;
  body = refl;
  received = refl;
  framed = refl;
}

module _ (limits : PlainLimits) (n : ℕ) (h : Past) where
  out_may : Books limits (asking (WantsOut 0 n ∷ [])) h → is_swept h ≡ false → MayAdd limits (note.Out 0 n) h
  out_may s fresh = record {
    allowed = tt;
    paused = s.due;
    ends = tt;
    in_turn = tt;
    doomed = tt;
    swept = fresh;
    answered = rw s.asks refl;
    only = subst (Heads (WantsOut 0 n)) (sym s.asks) refl;
    quiet = tt;
    licensed = tt;
  }

  pub out_less : length (conn_out limits (Noted (note.Out 0 n) ∷ h)) ≤ length (conn_out limits h)
  out_less = omega (arith, length-drop n (conn_out limits h))

out_books : (limits : PlainLimits) (n : ℕ) (h : Past) → Books limits (asking (WantsOut 0 n ∷ [])) h → conn_lows limits h ≡ []
    → Books limits nothing (Noted (note.Out 0 n) ∷ h)
out_books limits n h s none =
    let step : Step NoMark = Noted (note.Out 0 n) in
    let drained = conn_high limits h && not (conn_high limits (step ∷ h)) in
    record {
      due = refl;
      asks = one_owed _ _ s.asks;
      opened = s.opened;
      known = s.known;
      unclosed = s.unclosed;
      write_room = under_test (nat_lt 0 limits.write) _ _ (less _ _ _ (out_less limits n h)) s.write_room;
      rising = s.rising;
      born = s.born;
      said = s.said;
      each = λ x e. flow_kept limits (asking (WantsOut 0 n ∷ [])) nothing x step h (out_leaves limits n x h) (s.each x e) refl (s.each x e).unframed;
      unborn = λ x e. unborn_kept limits x step h (out_leaves limits n x h) (record { ended = refl; pairs = refl; must = refl }) (s.unborn x e);
      owed = tt;
      write_lows = subst (AllByRecursion (IsLiveFlow (live h))) (sym (out_lows limits n h none)) (all_if drained);
      write_once = once_kept (out_lows limits n h none) (once_if drained);
      hushed = λ x e. append-nil (lows_of limits x h) ∙ s.hushed x e;
    }
  where
    less : (a b l : ℕ) → a ≤ b → b ≤ l → a ≤ l
    less a b l e f = omega arith

    all_if : (b : Bool) → AllByRecursion (IsLiveFlow (live h)) (if b then map request (live h) else [])
    all_if true = all_requests (live h) (live h) (λ x e. e)
    all_if false = tt

    exchanges : (xs : List ℕ) → map (λ (f : FlowId). f.exchange) (map request xs) ≡ xs
    exchanges [] = refl
    exchanges (x ∷ xs) = cc (exchanges xs)

    once_if : (b : Bool) → IsRising (map (λ (f : FlowId). f.exchange) (if b then map request (live h) else []))
    once_if true = subst IsRising (sym (exchanges (live h))) s.rising
    once_if false = tt

pub out_regular : (limits : PlainLimits) (n : ℕ) (h : Past) → Regular limits (asking (WantsOut 0 n ∷ [])) h → is_swept h ≡ false → conn_lows limits h ≡ []
    → Regular limits nothing (Noted (note.Out 0 n) ∷ h)
out_regular limits n h r fresh none =
    regular_more limits (asking (WantsOut 0 n ∷ [])) nothing (note.Out 0 n) h r (out_may limits n h r.books fresh) (out_books limits n h r.books none)
