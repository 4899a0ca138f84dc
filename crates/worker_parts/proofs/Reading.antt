-- Readings so far, and one more.
use Rattle.io_ports.specs.Faults.{Rose}
use Rattle.io_ports.specs.declared.ports.Failed.{Failed}
use Rattle.std.proofs.Common.{ap, append_assoc, arith, inl, inr, refl, sym, ◌∙◌}
use Rattle.std.proofs.lemmas.List.{append-nil}
use Rattle.std.specs.List.{AllByRecursion}
use Rattle.std.specs.Prelude.{Err, IfOk, List, None, Ok, Option, Result, Some, [], length, slice_set, suc, ℕ, ◌+◌, ◌++◌, ◌<◌, ◌∷◌, ◌≡◌, ◌≤◌}
use Rattle.worker_parts.specs.Samples.{AreSampled, FailedByFaults, count_failed, readings_from, replaced}
use Rattle.worker_ports.specs.Told.{TellsAll, TellsLast, with_last}
use Rattle.worker_ports.specs.declared.ports.Reading.{Reading}

abbrev Answer : Type 0
Answer = Result ℕ Failed

abbrev IsAnswer : Answer → Type 0
IsAnswer answer = IfOk answer (λ p. p ≤ 1000000)

abbrev reading : ℕ → Answer → Reading
reading n answer = record { resource = n; answer = answer }

-- n resources were asked for
pub record SoFar (told told_now : Option (List Reading)) (old now : List ℕ) (n failed before after : ℕ) : Type 0 where
  pub answers : List (Result ℕ Failed)
  pub each : length answers ≡ n
  pub most : AllByRecursion IsAnswer answers
  pub tells : TellsAll told (readings_from 0 answers) told_now
  pub replaces : now ≡ replaced answers old
  pub fails : failed ≡ count_failed answers
  pub few : failed ≤ n
  pub cause : FailedByFaults before after failed

-- ---- what is told
tells_none : {A : Type 0} (told : Option (List A)) → TellsAll told [] told
tells_none None = inl refl
tells_none (Some before) = inr (ap (λ (xs : List _). Some xs) (sym (append-nil before)))

tells_one : {A : Type 0} (told mid now : Option (List A)) (xs ys : List A) (x : A) → ys ≡ xs ++ x ∷ [] → TellsAll told xs mid → TellsLast mid x now → TellsAll told ys now
tells_one told mid now xs ys x e all (inl none) = inl none
tells_one told mid now xs ys x e (inl none) (inr more) = inl (more ∙ ap (λ (t : Option (List _)). with_last x t) none)
tells_one None mid now xs ys x e (inr is) (inr more) = inl (more ∙ ap (λ (t : Option (List _)). with_last x t) is)
tells_one (Some before) mid now xs ys x e (inr is) (inr more) =
    inr (more ∙ ap (λ (t : Option (List _)). with_last x t) is ∙ ap (λ (zs : List _). Some zs) (append_assoc before xs (x ∷ [])) ∙ ap (λ (zs : List _). Some (before ++ zs)) (sym e))

readings_more : (rs : List Answer) (r : Answer) (n i : ℕ) → n + length rs ≡ i → readings_from n (rs ++ r ∷ []) ≡ readings_from n rs ++ reading i r ∷ []
readings_more [] r n i e = ap (λ (k : ℕ). reading k r ∷ []) (omega (arith, e))
readings_more (x ∷ rs) r n i e = ap (λ (ys : List Reading). reading n x ∷ ys) (readings_more rs r (suc n) i (omega (arith, e)))

-- ---- what was read
pub none_yet : (told : Option (List Reading)) (old : List ℕ) (before : ℕ) → SoFar told told old old 0 0 before before
none_yet told old before = record { answers = []; each = refl; most = tt; tells = tells_none told; replaces = refl; fails = refl; few = omega arith; cause = inr (omega arith) }

all_more : (rs : List Answer) (r : Answer) → AllByRecursion IsAnswer rs → IsAnswer r → AllByRecursion IsAnswer (rs ++ r ∷ [])
all_more [] r all one = (one, tt)
all_more (x ∷ rs) r all one = (all.0, all_more rs r all.1 one)

length_more : (rs : List Answer) (r : Answer) → length (rs ++ r ∷ []) ≡ length rs + 1
length_more [] r = refl
length_more (x ∷ rs) r = omega (arith, length_more rs r)

count_ok : (rs : List Answer) (p : ℕ) → count_failed (rs ++ Ok p ∷ []) ≡ count_failed rs
count_ok [] p = refl
count_ok (Err f ∷ rs) p = omega (arith, count_ok rs p)
count_ok (Ok x ∷ rs) p = count_ok rs p

count_err : (rs : List Answer) (f : Failed) → count_failed (rs ++ Err f ∷ []) ≡ count_failed rs + 1
count_err [] f = refl
count_err (Err g ∷ rs) f = omega (arith, count_err rs f)
count_err (Ok x ∷ rs) f = count_err rs f

replaced_ok : (rs : List Answer) (old : List ℕ) (p : ℕ) → length rs < length old → slice_set (replaced rs old) (length rs) p ≡ replaced (rs ++ Ok p ∷ []) old
replaced_ok [] [] p less = absurd (omega (arith, less))
replaced_ok [] (x ∷ old) p less = refl
replaced_ok (r ∷ rs) [] p less = absurd (omega (arith, less))
replaced_ok (Err f ∷ rs) (x ∷ old) p less = ap (λ ys. x ∷ ys) (replaced_ok rs old p (omega (arith, less)))
replaced_ok (Ok y ∷ rs) (x ∷ old) p less = ap (λ ys. y ∷ ys) (replaced_ok rs old p (omega (arith, less)))

replaced_err : (rs : List Answer) (old : List ℕ) (f : Failed) → replaced rs old ≡ replaced (rs ++ Err f ∷ []) old
replaced_err [] [] f = refl
replaced_err [] (x ∷ old) f = refl
replaced_err (r ∷ rs) [] f = refl
replaced_err (Err g ∷ rs) (x ∷ old) f = ap (λ ys. x ∷ ys) (replaced_err rs old f)
replaced_err (Ok y ∷ rs) (x ∷ old) f = ap (λ ys. y ∷ ys) (replaced_err rs old f)

more_faults : (before after later failed : ℕ) → FailedByFaults before after failed → after ≤ later → FailedByFaults before later failed
more_faults before after later failed (inl end) grows = inl (omega (arith, end, grows))
more_faults before after later failed (inr few) grows = inr (omega (arith, few, grows))

one_fault : (before after later failed : ℕ) → FailedByFaults before after failed → after ≤ later → Rose after later → FailedByFaults before later (failed + 1)
one_fault before after later failed (inl end) grows rose = inl (omega (arith, end, grows))
one_fault before after later failed (inr few) grows (inl less) = inr (omega (arith, few, less))
one_fault before after later failed (inr few) grows (inr end) = inl (omega (arith, end))

pub one_read : {told mid : Option (List Reading)} {old now : List ℕ} {n failed before after : ℕ} (later p : ℕ) (told_later : Option (List Reading)) → SoFar told mid old now n failed before after → TellsLast mid (reading n (Ok p)) told_later → p ≤ 1000000 → after ≤ later → n < length old
    → SoFar told told_later old (slice_set now n p) (n + 1) failed before later
one_read {told} {mid} {old} {now} {n} {failed} {before} {after} later p told_later s tells most grows less = record {
  answers = s.answers ++ Ok p ∷ [];
  each = omega (arith, length_more s.answers (Ok p), s.each);
  most = all_more s.answers (Ok p) s.most most;
  tells = tells_one told mid told_later (readings_from 0 s.answers) (readings_from 0 (s.answers ++ Ok p ∷ [])) (reading n (Ok p)) (readings_more s.answers (Ok p) 0 n (omega (arith, s.each))) s.tells tells;
  replaces = ap (λ xs. slice_set xs n p) s.replaces ∙ sym_at s.each ∙ replaced_ok s.answers old p (omega (arith, s.each, less));
  fails = s.fails ∙ sym (count_ok s.answers p);
  few = omega (arith, s.few);
  cause = more_faults before after later failed s.cause grows;
}
  where
    sym_at : (e : length s.answers ≡ n) → slice_set (replaced s.answers old) n p ≡ slice_set (replaced s.answers old) (length s.answers) p
    sym_at e = ap (λ i. slice_set (replaced s.answers old) i p) (sym e)

pub one_failed : {told mid : Option (List Reading)} {old now : List ℕ} {n failed before after : ℕ} (later : ℕ) (fault : Failed) (told_later : Option (List Reading)) → SoFar told mid old now n failed before after → TellsLast mid (reading n (Err fault)) told_later → Rose after later → after ≤ later
    → SoFar told told_later old now (n + 1) (failed + 1) before later
one_failed {told} {mid} {old} {now} {n} {failed} {before} {after} later fault told_later s tells rose grows = record {
  answers = s.answers ++ Err fault ∷ [];
  each = omega (arith, length_more s.answers (Err fault), s.each);
  most = all_more s.answers (Err fault) s.most tt;
  tells = tells_one told mid told_later (readings_from 0 s.answers) (readings_from 0 (s.answers ++ Err fault ∷ [])) (reading n (Err fault)) (readings_more s.answers (Err fault) 0 n (omega (arith, s.each))) s.tells tells;
  replaces = s.replaces ∙ replaced_err s.answers old fault;
  fails = omega (arith, s.fails, count_err s.answers fault);
  few = omega (arith, s.few);
  cause = one_fault before after later failed s.cause grows rose;
}

pub all_read : {told told_now : Option (List Reading)} {old now : List ℕ} {n failed before after : ℕ} → SoFar told told_now old now n failed before after → n ≡ length old → AreSampled told told_now old now failed
all_read s e = record { answers = s.answers; each = s.each ∙ e; most = s.most; tells = s.tells; replaces = s.replaces; fails = s.fails }
