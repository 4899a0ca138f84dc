-- A pair is named: its first stream's end will doom the second.
use Rattle.std.proofs.lemmas.Bool.{or_left}
use Rattle.plain_laws.proofs.EventSteps.{pair_step}
use Rattle.plain_laws.proofs.Followings.{pair_may}
use Rattle.plain_laws.proofs.Pairing.{pairs_agree}
use Rattle.plain_laws.proofs.Quiets.{rests_told}
use Rattle.plain_laws.proofs.Streams.{by_case, same_number}
use Rattle.plain_laws.specs.Pairs.{seconds}
use Rattle.std.proofs.Common.{Equal, Greater, Less, ap, arith, refl, subst, sym, ◌∙◌}
use Rattle.std.specs.BTreeMap.{Updates, get, is_at}
use Rattle.std.specs.Ordering.{is_eq, nat_cmp}
use Rattle.std.specs.Prelude.{Bool, List, Option, Some, [], cond, false, if◌then◌else◌, nat_lt, true, ℕ, ◌++◌, ◌+◌, ◌==◌, ◌∷◌, ◌≡◌}
use Rattle.plain_laws.specs.Words.{Past}
use Rattle.tape_laws.specs.Dispatches.{has, is_some_of}
use Rattle.tape_laws.specs.Plain.{paired_with}
use Rattle.plain_core.proofs.EventOpens.{IsOpened, good_of, turn_number, underway_round}
use Rattle.plain_core.proofs.Fronts.{Opened}
use Rattle.plain_core.proofs.Rested.{at_rest, rest_still, rest_unended}
use Rattle.plain_core.proofs.TurnStands.{turn_stands, turned}
use Rattle.plain_core.specs.Progress.{Pairs}
use Rattle.plain_core.specs.declared.plain.PlainCore.{PlainCore}
use Rattle.flow_notes.specs.declared.events.PlainEvent.TheVariants as plain
use Rattle.plain_core.specs.declared.agenda.Task.TheVariants as task
use Rattle.plain_laws.proofs.Streams.{number_is as eq_of}

apart_at : (a b : ℕ) → (a == b) ≡ false → is_at (nat_cmp a) b ≡ false
apart_at a b d = by (nat_lt a b)
  where
    by : (l : Bool) → is_eq (cond l Less (cond (a == b) Equal Greater)) ≡ false
    by true = refl
    by false = cc

-- the second of the first stream
own_pair : (first second x : ℕ) (ps : List ℕ) (b : Bool) → has ps first ≡ false → has ((if b then first ∷ [] else []) ++ ps) first ≡ b
own_pair first second x ps true e = or_left (first == first) (has ps first) (same_number first)
own_pair first second x ps false e = e

-- another stream's
other_pair : (first s : ℕ) (ps : List ℕ) (b : Bool) → (first == s) ≡ false → has ((if b then first ∷ [] else []) ++ ps) s ≡ has ps s
other_pair first s ps true d = cc
other_pair first s ps false d = refl

pair_books : (old new : Pairs) (first second k : ℕ) (h : Past) → ((s x : ℕ) → has (paired_with x h) s ≡ is_some_of (get nat_cmp old s) x) → Updates nat_cmp old new first (Some second)
    → seconds first h ≡ [] → (s x : ℕ) → has (paired_with x (turned k (plain.Pair first second) ∷ h)) s ≡ is_some_of (get nat_cmp new s) x
pair_books old new first second k h books u none s x =
    by_case (first == s) (λ e. rw (← eq_of first s e) own)
    (λ d. cc (other_pair first s (paired_with x h) (second == x) d, books s x, u.2 s (apart_at first s d)))
  where
    own : has (paired_with x (turned k (plain.Pair first second) ∷ h)) first ≡ is_some_of (get nat_cmp new first) x
    own = own_pair first second x (paired_with x h) (second == x) (cc (pairs_agree first x h))
        ∙ ap (λ (v : Option ℕ). is_some_of v x) (sym u.1)

pair_named : (old new : PlainCore) (first second k : ℕ) (p : Pairs) → IsOpened old old.flows p (task.Round ∷ old.agenda) new → Updates nat_cmp old.pairs p first (Some second) → k ≡ old.turn + 1
    → Opened old k (plain.Pair first second) [] new
pair_named old new first second k p o u ek = record {
  number = omega (arith, ek);
  spelled = λ i. tt;
  silent = tt;
  goes = λ limits h r m.
      let n = turn_number limits old k h r ek in
      let rest = at_rest limits old h r in
      good_of limits old new old.flows p (task.Round ∷ old.agenda) (task.Round ∷ []) h (turned k (plain.Pair first second) ∷ h) o r (λ e. cc)
      (turn_stands limits k (plain.Pair first second) h old.flows (λ x is. refl) r.good.flows.stands)
      (pair_step limits k first second h rest n m.2) refl
      (pair_books old.pairs p first second k h r.good.books.pairs u (pair_may limits first second h rest.regular m.2).none)
      (underway_round limits p (turned k (plain.Pair first second) ∷ h) (λ x is. rest_still limits old x h r is)
      (rests_told limits h rest) (λ x is. rest_unended limits old x h r is) refl);
  well = o.failed;
}

pub pair_opened : (old new : PlainCore) (a b first second k : ℕ) (p : Pairs) → a ≡ first → b ≡ second → IsOpened old old.flows p (task.Round ∷ old.agenda) new → Updates nat_cmp old.pairs p a (Some b)
    → k ≡ old.turn + 1 → Opened old k (plain.Pair first second) [] new
pair_opened old new a b first second k p ea eb o u ek =
    pair_named old new first second k p o (rw (← eb) (subst (λ (v : ℕ). Updates nat_cmp old.pairs p v (Some b)) ea u)) ek
