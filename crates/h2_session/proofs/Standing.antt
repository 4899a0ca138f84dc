-- What a session stands for after one more happening that opens no stream.
use Rattle.std.proofs.Common.{◌≡◌, ℕ, Bool, true, false, List, ◌∷◌, Option, refl, sym, ap, subst, ◌∙◌}
use Rattle.std.specs.Prelude.{IfSome, nat_lt, not, ◌%◌, ◌&&◌, ◌==◌}
use Rattle.h2_session.specs.Blocks.{greatest, open_block}
use Rattle.h2_session.specs.Errors.{empty_run}
use Rattle.h2_session.specs.Happened.{Happening, Side, failure, next_number, none_came, was_opened}
use Rattle.h2_session.specs.Streams.{is_among, is_new, open_count, opened, state_of}
use Rattle.h2_session.specs.Summary.{AreDifferent, IsUntouched, StandsFor, Summary}
use Rattle.h2_session.specs.Table.{Puts}
use Rattle.h2_session.specs.declared.streams.Stream.{Stream}
use Rattle.h2_session.proofs.States.{MovesOne, count_moves, table_moves}

-- what a happening does beside moving one stream
pub record Keeps (side : Side) (x : Happening) (past : List Happening) (w : Summary) : Type 0 where
  pub failed : w.failed ≡ failure (x ∷ past)
  pub started : w.started ≡ not (none_came (x ∷ past))
  pub block : w.block ≡ open_block (x ∷ past)
  pub greatest_as : w.greatest ≡ greatest (x ∷ past)
  pub next : w.next ≡ next_number (x ∷ past)
  pub numbered : (s : ℕ) → was_opened s (x ∷ past) ≡ (nat_lt s w.next && (s % 2 == 1))
  pub empties : w.empties ≡ empty_run (x ∷ past)
  pub new : (q : ℕ) → is_new side.client_side q (x ∷ past) ≡ true → is_new side.client_side q past ≡ true
  pub untouched : (q : ℕ) → is_new side.client_side q (x ∷ past) ≡ true → IsUntouched q (x ∷ past)
  pub within : side.client_side ≡ true → IfSome (open_block (x ∷ past)) (λ b. was_opened b.stream (x ∷ past) ≡ true)

pub still : (a b : Bool) → (a ≡ true → b ≡ true) → b ≡ false → a ≡ false
still true b f e = absurd (no b (f refl) e)
  where
    no : (b : Bool) → b ≡ true → b ≡ false → ⊥
    no b e f = cc
still false b f e = refl

pub stands_moved : (x : Happening) (past : List Happening) (v w : Summary) (s : ℕ) (target : Option Stream)
    → StandsFor past v → w.side ≡ v.side → Keeps v.side x past w → MovesOne v.side s x past
    → Puts s target v.streams w.streams → target ≡ state_of v.side s (x ∷ past) → StandsFor (x ∷ past) w
stands_moved x past v w s target h same k m put is = record {
  failed = k.failed;
  started = k.started;
  block = k.block;
  greatest = k.greatest_as;
  next = k.next;
  numbered = k.numbered;
  empties = k.empties;
  streams = λ q. table_moves v.side s x past target v.streams w.streams h.streams m put is q ∙ ap (λ (side : Side). state_of side q (x ∷ past)) (sym same);
  count = count_moves v.side s x past target v.streams w.streams h.streams h.different h.count m put is ∙ ap (λ (side : Side). open_count side (x ∷ past)) (sym same);
  different = subst (λ (side : Side). AreDifferent (opened side (x ∷ past))) (sym same) (subst AreDifferent (sym m.opened_as) h.different);
  begun = subst (λ (side : Side). (q : ℕ) → is_among q (opened side (x ∷ past)) ≡ true → is_new side.client_side q (x ∷ past) ≡ false) (sym same)
      (λ q e. still (is_new v.side.client_side q (x ∷ past)) (is_new v.side.client_side q past) (k.new q) (h.begun q (ap (is_among q) (sym m.opened_as) ∙ e)));
  untouched = subst (λ (side : Side). (q : ℕ) → is_new side.client_side q (x ∷ past) ≡ true → IsUntouched q (x ∷ past)) (sym same) k.untouched;
  within = subst (λ (side : Side). side.client_side ≡ true → IfSome (open_block (x ∷ past)) (λ b. was_opened b.stream (x ∷ past) ≡ true)) (sym same) k.within;
}
