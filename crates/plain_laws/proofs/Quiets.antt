-- When a dispatch is whole, and what follows from that.
use Rattle.plain_laws.proofs.Balances.{count_is}
use Rattle.flow_rules.specs.declared.ids.FlowId.{FlowId}
use Rattle.plain_laws.proofs.Counting.{lows_are, send_left, told_of, write_left}
use Rattle.plain_laws.proofs.Extending.{}
use Rattle.plain_laws.proofs.Moves.{first_place}
use Rattle.plain_laws.proofs.Streams.{all_of, each_live, live_each}
use Rattle.plain_laws.proofs.Tellings.{told_own}
use Rattle.plain_laws.specs.Done.{IsDone}
use Rattle.plain_laws.specs.Owing.{nothing}
use Rattle.plain_laws.specs.Regular.{IsLiveFlow, Regular, Rests}
use Rattle.std.proofs.Common.{ap, arith, refl, subst, sym, ◌∙◌}
use Rattle.std.proofs.lemmas.Bool.Decides.{nat_tests}
use Rattle.std.proofs.lemmas.List.{append-nil}
use Rattle.std.specs.Bool.{OnFalse, OnTrue}
use Rattle.std.specs.List.{AllByRecursion}
use Rattle.std.specs.Prelude.{Bool, List, None, [], false, if◌then◌else◌, length, min, nat_lt, true, ℕ, ◌&&◌, ◌+◌, ◌==◌, ◌∷◌, ◌≡◌}
use Rattle.plain_laws.specs.Words.{Past, Alive, conn_high, conn_lows, lows_at, recv_at}
use Rattle.tape_laws.specs.Dispatches.{live}
use Rattle.tape_laws.specs.Flows.{request}
use Rattle.tape_laws.specs.Order.{Nothing, next_on}
use Rattle.tape_laws.specs.Pauses.{count, lows}
use Rattle.tape_laws.specs.Plain.{plain_body, plain_setup}
use Rattle.tape_laws.specs.PlainSession.{plain_must_end, plain_session}
use Rattle.tape_laws.specs.Quiet.{EachPlace, IsQuiet}
use Rattle.tape_laws.specs.Release.{last_free, may_release}
use Rattle.tape_laws.specs.Sources.{disabled}
use Rattle.tape_laws.specs.Watermark.{above}
use Rattle.tape_laws.specs.World.{received}
use Rattle.tape_laws.specs.declared.PlainLimits.{PlainLimits}
use Rattle.flow_rules.specs.declared.ids.BufferId.TheVariants as buffer

release_none : (c q n : ℕ) → (c ≡ 0 → n ≡ 0) → (if c == 0 then min q n else 0) ≡ 0
release_none c q n f = pick (c == 0) refl
  where
    zero_of : (c : ℕ) → (c == 0) ≡ true → c ≡ 0
    zero_of c e = grind (arith, nat_tests)

    least : (q n : ℕ) → n ≡ 0 → min q n ≡ 0
    least q n e = omega (arith, e)

    pick : (b : Bool) → (c == 0) ≡ b → (if b then min q n else 0) ≡ 0
    pick true e = least q n (f (zero_of c e))
    pick false e = refl

-- what may not be released isn't free
not_free : (r : ℕ) (b : Bool) → r ≡ 0 → first_place (nat_lt 0 r && b) ≡ None
not_free r b e = cc

pub on_true : (b : Bool) (A : Type 0) → A → OnTrue b A
on_true true A a = a
on_true false A a = tt

on_false : (b : Bool) (B : Type 0) → (b ≡ false → B) → OnFalse b B
on_false true B g = tt
on_false false B g = g refl

sum_none : (l s m : ℕ) → l ≡ s + m → s ≡ 0 → m ≡ 0 → l ≡ 0
sum_none l s m e es em = omega arith

counted_alone : (c d l : ℕ) → c ≡ d + l → l ≡ 0 → c ≡ d
counted_alone c d l e z = omega arith

module _ (limits : PlainLimits) where
  done_lows : (x : ℕ) (h : Past) → IsDone limits h → Alive h x → lows_at limits x h ≡ 0
  done_lows x h d e = sum_none _ _ _ (lows_are limits x h) (cc (d.send_told x e)) (cc)

  done_still : (x : ℕ) (h : Past) → IsDone limits h → Alive h x → may_release (plain_setup limits) (request x) 0 h ≡ 0
  done_still x h d e = release_none (count (request x) h) limits.quantum (length (recv_at limits x h)) (λ z. ap length (d.moved x e z))

  done_quiet : (h : Past) → Regular limits nothing h → IsDone limits h → IsQuiet (plain_session limits) h
  done_quiet h r d =
      let s = r.books in
      record {
        paused = s.due;
        told = each_live limits (λ g. lows (plain_setup limits) g h ≡ 0) h (λ x e. done_lows x h d e);
        counted = each_live limits (λ g. count g h ≡ disabled (plain_setup limits) g h) h (λ x e. counted_alone _ _ _ (count_is limits x h r.lawful r.books.due e) (done_lows x h d e));
        still = each_live limits (λ g. OnTrue (count g h == 0) (EachPlace (λ p. may_release (plain_setup limits) g p h ≡ 0) 0)) h (λ x e. on_true _ _ (done_still x h d e));
        behind = each_live limits (λ g. last_free (plain_setup limits) g h ≡ None) h (λ x e. not_free _ _ (done_still x h d e));
        framed = subst (AllByRecursion (λ c. OnFalse (above (plain_setup limits) (buffer.Write c) h) (next_on (plain_setup limits) c h ≡ Nothing))) (sym s.opened) (on_false (conn_high limits h) _ d.framed, tt);
        read = each_live limits (λ g. received g h ≡ plain_body g.exchange h) h (λ x e. sym ((s.each x e).read ∙ append-nil (received (request x) h)));
        tamed = tt;
        asked = s.asks;
        ended = all_of (λ x. plain_must_end x h ≡ false) (live h) d.ended;
        gone = d.gone;
        leaves = tt;
      }

  pub done_rests : (h : Past) → Regular limits nothing h → IsDone limits h → Rests limits h
  done_rests h r d = record { regular = r; quiet = done_quiet h r d }

  pub told_none : (x : ℕ) (h : Past) → IsQuiet (plain_session limits) h → Alive h x → (send_left limits x h ≡ 0) × (write_left limits x h ≡ 0)
  told_none x h q e = none _ _ _ (lows_are limits x h) (live_each limits (λ g. lows (plain_setup limits) g h ≡ 0) h x q.told e)
    where
      none : (l s m : ℕ) → l ≡ s + m → l ≡ 0 → (s ≡ 0) × (m ≡ 0)
      none l s m e z = (omega arith, omega arith)

  -- at rest nobody is to be told of the write buffer
  pub rests_told : (h : Past) → Rests limits h → conn_lows limits h ≡ []
  rests_told h r = nobody _ r.regular.books.write_lows (λ x e. (told_none x h r.quiet e).1)
    where
      one_isnt : (n m : ℕ) → n ≡ 1 + m → n ≡ 0 → ⊥
      one_isnt n m e z = omega (arith, e, z)

      nobody : (fs : List FlowId) → AllByRecursion (IsLiveFlow (live h)) fs → ((x : ℕ) → Alive h x → told_of x fs ≡ 0) → fs ≡ []
      nobody [] a f = refl
      nobody (g ∷ gs) a f =
          absurd (one_isnt _ _ (told_own g.exchange gs) (subst (λ (v : FlowId). told_of g.exchange (v ∷ gs) ≡ 0) a.0.is (f g.exchange a.0.live)))
