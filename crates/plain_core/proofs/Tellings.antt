-- Histories in which flows are told that the write buffer drained, one after the other.
use Rattle.plain_laws.specs.Words.{Past, Alive, conn_high, conn_lows, conn_out, last_out}
use Rattle.tape_laws.specs.Doomed.{is_swept}
use Rattle.flow_gate.specs.Board.{times}
use Rattle.flow_rules.specs.declared.ids.FlowId.{FlowId}
use Rattle.plain_laws.proofs.Counting.{one_if}
use Rattle.plain_laws.proofs.Counts.{tell_count}
use Rattle.plain_laws.proofs.Keepings.{lists_more, resume_keeps, resume_keeps_lists, stream_more, write_resume_high, write_resume_out}
use Rattle.plain_laws.proofs.Steps.{tell_step}
use Rattle.plain_laws.specs.Keeping.{KeepsLists, KeepsStream}
use Rattle.plain_laws.specs.Regular.{IsLiveFlow}
use Rattle.plain_laws.specs.Settled.{Settled}
use Rattle.std.proofs.Common.{ap, arith, refl, subst, sym, ◌∙◌}
use Rattle.std.proofs.lemmas.Bool.Decides.{nat_tests}
use Rattle.std.proofs.lemmas.List.Sums.{sum_by-cons}
use Rattle.std.specs.List.{AllByRecursion}
use Rattle.std.specs.Prelude.{Bool, List, [], cond, false, true, ℕ, ◌&&◌, ◌++◌, ◌+◌, ◌==◌, ◌∷◌, ◌≡◌}
use Rattle.tape_laws.specs.Dispatches.{live}
use Rattle.tape_laws.specs.Flows.{request, same_flow}
use Rattle.tape_laws.specs.History.{Noted, onto}
use Rattle.tape_laws.specs.Pauses.{count}
use Rattle.tape_laws.specs.Plain.{paired_with}
use Rattle.tape_laws.specs.declared.PlainLimits.{PlainLimits}
use Rattle.plain_core.specs.Noting.{resumes_of}
use Rattle.flow_rules.specs.declared.ids.BufferId.TheVariants as buffer
use Rattle.flow_notes.specs.declared.notes.Note.TheVariants as note

-- a history with one more flow told
abbrev pub with_told : FlowId → Past → Past
with_told f h = Noted (note.Resume f (buffer.Write 0)) ∷ h

-- a history with these flows told
abbrev pub with_all_told : List FlowId → Past → Past
with_all_told fs h = onto (resumes_of (buffer.Write 0) fs) h

-- a flow that is to be told is the request of a live stream
module _ (limits : PlainLimits) (f : FlowId) (rest : List FlowId) (h : Past) where
  pub first_is : Settled limits h → conn_lows limits h ≡ f ∷ rest
      → IsLiveFlow (live h) f
  first_is s first = (subst (AllByRecursion (IsLiveFlow (live h))) first s.regular.books.write_lows).0

  pub tell_settled : Settled limits h → is_swept h ≡ false
      → conn_lows limits h ≡ f ∷ rest → Settled limits (with_told f h)
  tell_settled s fresh first =
      let is = (first_is s first).is in
      subst (λ (g : FlowId). Settled limits (with_told g h)) (sym is) (tell_step limits f.exchange rest h s fresh (cc))

-- what stays, and what is told of
pub record AreTold (limits : PlainLimits) (fs rest : List FlowId) (h k : Past) : Type 0 where
  pub settled : Settled limits k
  pub lists : KeepsLists h k
  pub streams : (y : ℕ) → KeepsStream limits y h k
  pub octets : conn_out limits k ≡ conn_out limits h
  pub high : conn_high limits k ≡ conn_high limits h
  pub last : last_out limits k ≡ last_out limits h
  pub paired : (y : ℕ) → paired_with y k ≡ paired_with y h
  pub lows : conn_lows limits k ≡ rest
  pub counts : (y : ℕ) → Alive h y → count (request y) k + times (request y) fs ≡ count (request y) h

same_turned : (x y : ℕ) → same_flow (request y) (request x) ≡ (x == y)
same_turned x y = pick (x == y) (y == x) (swapped x y)
  where
    swapped : (x y : ℕ) → (x == y) ≡ (y == x)
    swapped x y = grind (arith, nat_tests)

    pick : (a b : Bool) → a ≡ b → (b && true) ≡ a
    pick true true e = refl
    pick false false e = refl
    pick true false e = cc
    pick false true e = cc

plus_none : (n : ℕ) → n + 0 ≡ n
plus_none n = omega arith

-- how often a flow is among those of which the first is another, or itself
times_cons : (x y : ℕ) (fs : List FlowId) → times (request y) (request x ∷ fs) ≡ one_if (x == y) + times (request y) fs
times_cons x y fs = sum_by-cons (λ (f : FlowId). cond (same_flow (request y) f) 1 0) (request x) fs ∙ ap (λ (b : Bool). cond b 1 0 + times (request y) fs) (same_turned x y)

pub times_one : (x y : ℕ) → times (request y) (request x ∷ []) ≡ one_if (x == y)
times_one x y = times_cons x y [] ∙ plus_none (one_if (x == y))

none_told : (limits : PlainLimits) (rest : List FlowId) (h : Past) → Settled limits h → conn_lows limits h ≡ rest → AreTold limits [] rest h h
none_told limits rest h s lows = record {
  settled = s;
  lists = record { lives = refl; begun = refl; doomed = refl; numbers = refl; events = refl };
  streams = λ y. record { recv = refl; send = refl; high = refl; ended = refl; framed = refl; pairs = refl; recv_most = refl; send_most = refl };
  octets = refl;
  high = refl;
  last = refl;
  paired = λ y. refl;
  lows = lows;
  counts = λ y is. plus_none (count (request y) h);
}

more_told : (limits : PlainLimits) (x : ℕ) (fs rest : List FlowId) (h k : Past) → Settled limits h → conn_lows limits h ≡ request x ∷ (fs ++ rest)
    → AreTold limits fs rest (with_told (request x) h) k → AreTold limits (request x ∷ fs) rest h k
more_told limits x fs rest h k s first t = record {
  settled = t.settled;
  lists = lists_more h (with_told (request x) h) k (resume_keeps_lists (request x) (buffer.Write 0) h) t.lists;
  streams = λ y. stream_more limits y h (with_told (request x) h) k (resume_keeps limits y (request x) (buffer.Write 0) h) (t.streams y);
  octets = t.octets ∙ write_resume_out limits (request x) h;
  high = t.high ∙ write_resume_high limits (request x) h;
  last = t.last;
  paired = t.paired;
  lows = t.lows;
  counts = λ y is. both_fewer _ _ _ _ _ _ (times_cons x y fs) (t.counts y is) (tell_count limits x y (fs ++ rest) h s is first);
}
  where
    both_fewer : (k t o a b h : ℕ) → t ≡ o + a → k + a ≡ b → b + o ≡ h → k + t ≡ h
    both_fewer k t o a b h e1 e2 e3 = omega (arith, e1, e2, e3)

pub are_told : (limits : PlainLimits) (fs rest : List FlowId) (h : Past) → Settled limits h → is_swept h ≡ false
    → conn_lows limits h ≡ fs ++ rest → AreTold limits fs rest h (with_all_told fs h)
are_told limits [] rest h s fresh e = none_told limits rest h s e
are_told limits (f ∷ fs) rest h s fresh e =
    let is = (first_is limits f (fs ++ rest) h s e).is in
    let next : Settled limits (with_told f h) = tell_settled limits f (fs ++ rest) h s fresh e in
    let all : AreTold limits fs rest (with_told f h) (with_all_told fs (with_told f h)) = are_told limits fs rest (with_told f h) next refl (cc) in
    subst (λ (g : FlowId). AreTold limits (g ∷ fs) rest h (with_all_told fs (with_told f h))) (sym is) (more_told limits f.exchange fs rest h (with_all_told fs (with_told f h)) s (cc) (subst (λ (g : FlowId). AreTold limits fs rest (with_told g h) (with_all_told fs (with_told f h))) is all))
