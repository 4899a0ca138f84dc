-- A doomed stream is gone.
use Rattle.plain_laws.proofs.Leaving.{flow_kept}
use Rattle.plain_laws.proofs.Extending.{MayAdd, free_meets, nothing_owed, regular_more}
use Rattle.plain_laws.proofs.Leaving.{Leaves, lows_kept, once_kept, room_kept, unborn_kept}
use Rattle.plain_laws.specs.Owing.{nothing}
use Rattle.plain_laws.specs.Regular.{Books, Regular}
use Rattle.std.proofs.Common.{refl, subst, sym}
use Rattle.std.specs.Prelude.{List, ℕ, ◌∷◌, ◌≡◌}
use Rattle.plain_laws.specs.Words.{Past, conn_lows, conn_out}
use Rattle.tape_laws.specs.Dispatches.{live}
use Rattle.tape_laws.specs.Doomed.{condemned}
use Rattle.tape_laws.specs.History.{NoMark, Noted, Step}
use Rattle.tape_laws.specs.Pauses.{Heads}
use Rattle.tape_laws.specs.declared.PlainLimits.{PlainLimits}
use Rattle.flow_notes.specs.declared.notes.Note.TheVariants as note

pub gone_leaves : (limits : PlainLimits) (x y : ℕ) (h : Past) → Leaves limits y (Noted (note.Gone x)) h
gone_leaves limits x y h = record {
  recv = refl;
  send = refl;
  send_lows = refl;
  paused = refl;
  resumed = refl;
  body = refl;
  received = refl;
  framed = refl;
}

gone_may : (limits : PlainLimits) (x : ℕ) (rest : List ℕ) (h : Past) → Books limits nothing h → condemned h ≡ x ∷ rest → MayAdd limits (note.Gone x) h
gone_may limits x rest h s e = record {
  allowed = tt;
  paused = s.due;
  ends = tt;
  in_turn = tt;
  doomed = subst (Heads x) (sym e) refl;
  swept = tt;
  answered = free_meets limits _ (note.Gone x) s.asks tt;
  only = tt;
  quiet = tt;
  licensed = tt;
}

gone_books : (limits : PlainLimits) (x : ℕ) (h : Past) → Books limits nothing h → Books limits nothing (Noted (note.Gone x) ∷ h)
gone_books limits x h s =
    let step : Step NoMark = Noted (note.Gone x) in
    let out_same : conn_out limits (step ∷ h) ≡ conn_out limits h = refl in
    let lows_same : conn_lows limits (step ∷ h) ≡ conn_lows limits h = refl in
    record {
      due = refl;
      asks = nothing_owed _ s.asks;
      opened = s.opened;
      known = s.known;
      unclosed = s.unclosed;
      write_room = room_kept limits out_same s.write_room;
      rising = s.rising;
      born = s.born;
      said = s.said;
      each = λ y e. flow_kept limits nothing nothing y step h (gone_leaves limits x y h) (s.each y e) refl (s.each y e).unframed;
      unborn = λ y e. unborn_kept limits y step h (gone_leaves limits x y h) (record { ended = refl; pairs = refl; must = refl }) (s.unborn y e);
      owed = tt;
      write_lows = lows_kept (live h) lows_same s.write_lows;
      write_once = once_kept lows_same s.write_once;
      hushed = λ y e. s.hushed y e;
    }

pub gone_regular : (limits : PlainLimits) (x : ℕ) (rest : List ℕ) (h : Past) → Regular limits nothing h → condemned h ≡ x ∷ rest
    → Regular limits nothing (Noted (note.Gone x) ∷ h)
gone_regular limits x rest h r e = regular_more limits nothing nothing (note.Gone x) h r (gone_may limits x rest h r.books e) (gone_books limits x h r.books)
