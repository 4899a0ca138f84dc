-- A readable flow moves what its receive buffer may release.
use Rattle.plain_laws.proofs.Leaving.{flow_kept}
use Rattle.plain_laws.proofs.Balances.{count_is}
use Rattle.plain_laws.specs.Words.{Past, Alive, conn_high, conn_lows, conn_out, lows_of, move_of, recv_at, send_at, send_high}
use Rattle.tape_laws.specs.Doomed.{is_swept}
use Rattle.plain_laws.proofs.Counting.{disabled_is, lows_are, one_if, send_left, told_of, write_left}
use Rattle.plain_laws.proofs.Extending.{MayAdd, free_meets, nothing_owed, regular_more}
use Rattle.plain_laws.proofs.Flags.{low_len, send_now, write_now}
use Rattle.plain_laws.proofs.Leaving.{Leaves, lows_kept, once_kept, room_kept, unborn_kept}
use Rattle.plain_laws.proofs.Rises.{low_rises, rise_due}
use Rattle.plain_laws.proofs.Streams.{apart_from, flow_is_live, has_one, number_is, own_or_other, same_number}
use Rattle.plain_laws.proofs.Tellings.{live_owed, told_own}
use Rattle.plain_laws.proofs.Watching.{send_watchers}
use Rattle.plain_laws.specs.Owing.{Owing, due_if, nothing, owed}
use Rattle.plain_laws.specs.Regular.{Books, FlowBooks, Regular}
use Rattle.std.proofs.lemmas.Bool.{lt-ltb}
use Rattle.std.proofs.Common.{ap, arith, inl, inr, length-append, length-drop, length-take, refl, sym, ◌∙◌}
use Rattle.std.proofs.lemmas.Bool.Decides.{nat_tests}
use Rattle.std.proofs.lemmas.List.{append-nil}
use Rattle.std.specs.Bool.{OnTrue}
use Rattle.std.specs.Prelude.{Bool, List, None, Option, Some, [], drop, false, if◌then◌else◌, length, min, nat_lt, not, take, true, ℕ, ◌&&◌, ◌++◌, ◌+◌, ◌-◌, ◌<◌, ◌==◌, ◌||◌, ◌∷◌, ◌≡◌, ◌≤◌, ◌⊎◌}
use Rattle.tape_laws.specs.Dispatches.{live, started}
use Rattle.tape_laws.specs.Flows.{request}
use Rattle.tape_laws.specs.History.{NoMark, Step}
use Rattle.tape_laws.specs.Pauses.{count}
use Rattle.tape_laws.specs.Plain.{plain_setup}
use Rattle.tape_laws.specs.Sources.{watchers}
use Rattle.tape_laws.specs.World.{len}
use Rattle.tape_laws.specs.declared.PlainLimits.{PlainLimits}
use Rattle.flow_rules.specs.declared.ids.BufferId.TheVariants as buffer
use Rattle.flow_notes.specs.declared.notes.Note.TheVariants as note

-- two flags and what is left, whose sum is nothing
low_of : (a w : Bool) (s m : ℕ) → (one_if a + one_if w) + (s + m) ≡ 0 → (a ≡ false) × (w ≡ false) × (s ≡ 0)
low_of true w s m e = absurd (omega arith)
low_of false true s m e = absurd (omega arith)
low_of false false s m e = (refl, refl, omega arith)

sums_none : (c d l a w s m : ℕ) → c ≡ d + l → d ≡ a + w → l ≡ s + m → c ≡ 0 → (a + w) + (s + m) ≡ 0
sums_none c d l a w s m e ed el z = omega arith

module _ (limits : PlainLimits) (x : ℕ) (h : Past) where
  readable_none : Regular limits nothing h → Alive h x → count (request x) h ≡ 0
      → (send_high limits x h ≡ false) × (conn_high limits h ≡ false) × (send_left limits x h ≡ 0)
  readable_none r is z =
      low_of _ _ (send_left limits x h) (write_left limits x h) (sums_none _ _ _ _ _ _ _ (count_is limits x h r.lawful r.books.due is) (disabled_is limits x h) (lows_are limits x h) z)

  -- a readable flow has no source above, and nothing to be told
  pub readable_low : Regular limits nothing h → Alive h x → count (request x) h ≡ 0
      → (send_high limits x h ≡ false) × (conn_high limits h ≡ false)
  readable_low r is readable = let k = readable_none r is readable in (k.0, k.1)

-- a send buffer that isn't to be told is empty of lows
pub untold : (limits : PlainLimits) (o : Owing) (x : ℕ) (h : Past) → FlowBooks limits o x h → send_left limits x h ≡ 0 → lows_of limits x h ≡ []
untold limits o x h f z = pick f.send_low z
  where
    pick : (lows_of limits x h ≡ [])
        ⊎ ((lows_of limits x h ≡ request x ∷ []) × (send_high limits x h ≡ false))
        → send_left limits x h ≡ 0 → lows_of limits x h ≡ []
    pick (inl e) z = e
    pick (inr e) z = absurd (one_isnt (told_of x (request x ∷ [])) (told_own x []) (cc))
      where
        one_isnt : (n : ℕ) → n ≡ 1 + 0 → n ≡ 0 → ⊥
        one_isnt n e f = omega (arith, e, f)

-- what a receive buffer may release at a count
abbrev let_go_at : ℕ → ℕ → ℕ
let_go_at c n = if c == 0 then n else 0

abbrev pub first_place : Bool → Option ℕ
first_place b = if b then Some 0 else None

move_may : (limits : PlainLimits) (x n : ℕ) (h : Past) → Regular limits nothing h → is_swept h ≡ false → Alive h x → count (request x) h ≡ 0
    → 0 < n → n ≡ min limits.quantum (length (recv_at limits x h)) → MayAdd limits (note.Move (request x) 0 n) h
move_may limits x n h r fresh is readable some all =
    let s = r.books in
    let k = readable_none limits x h r is readable in
    record {
      allowed = record {
        live = flow_is_live limits x h is;
        last = free_first (count (request x) h) _ _ _ readable (rw (← all) some) k.0 k.1;
        all = cc;
      };
      paused = s.due;
      ends = tt;
      in_turn = tt;
      doomed = is;
      swept = fresh;
      answered = free_meets limits _ (note.Move (request x) 0 n) s.asks tt;
      only = tt;
      quiet = tt;
      licensed = tt;
    }
  where
    free_first : (c n : ℕ) (a w : Bool) → c ≡ 0 → 0 < n → a ≡ false → w ≡ false
        → first_place (nat_lt 0 (let_go_at c n) && not ((true && a) || ((true && w) || false))) ≡ Some 0
    free_first c n a w ec en ea ew = rw (ec, ea, ew) (rw (lt-ltb 0 n en) refl)

pub move_leaves : (limits : PlainLimits) (x y n : ℕ) (h : Past) → (x == y) ≡ false → Leaves limits y (move_of x n) h
move_leaves limits x y n h e = record {
  recv = rw e refl;
  send = rw e refl;
  send_lows = append-nil (lows_of limits y h);
  paused = refl;
  resumed = refl;
  body = refl;
  received = refl;
  framed = refl;
}

-- the pauses of its send buffer
abbrev after_move : PlainLimits → ℕ → ℕ → Past → Owing
after_move limits x n h = owed (due_if (send_high limits x (move_of x n ∷ h)) (buffer.Send (request x)) (x ∷ []))

-- a low buffer holds at most its limit
pub send_within : (limits : PlainLimits) (x : ℕ) (h : Past) → send_high limits x h ≡ false → 0 < limits.send
    → length (send_at limits x h) ≤ limits.send
send_within limits x h low p =
    low_len limits.send (send_high limits x h) (len (plain_setup limits) (buffer.Send (request x)) h) (send_now limits (request x) h ∙ low) p

pub write_within : (limits : PlainLimits) (h : Past) → conn_high limits h ≡ false → 0 < limits.write → length (conn_out limits h) ≤ limits.write
write_within limits h low p =
    low_len limits.write (conn_high limits h) (len (plain_setup limits) (buffer.Write 0) h) (write_now limits h ∙ low) p

-- a bound that holds where there is a limit
pub where_limited : (l : ℕ) (A : Type 0) → (0 < l → A) → OnTrue (nat_lt 0 l) A
where_limited l A f = under_eq (nat_lt 0 l) A (λ e. f (some l e))
  where
    under_eq : (b : Bool) (B : Type 0) → (b ≡ true → B) → OnTrue b B
    under_eq true B g = g refl
    under_eq false B g = tt

    some : (k : ℕ) → nat_lt 0 k ≡ true → 0 < k
    some k e = grind (arith, nat_tests)

move_own : (limits : PlainLimits) (x n : ℕ) (h : Past) → Regular limits nothing h → Alive h x → count (request x) h ≡ 0
    → 0 < n → n ≡ min limits.quantum (length (recv_at limits x h)) → FlowBooks limits (after_move limits x n h) x (move_of x n ∷ h)
move_own limits x n h r is readable some all =
    let f = r.books.each x is in
    let step : Step NoMark = move_of x n in
    let k = readable_none limits x h r is readable in
    let recv_is : recv_at limits x (step ∷ h) ≡ drop n (recv_at limits x h) = rw (same_number x) refl in
    let send_is : send_at limits x (step ∷ h) ≡ send_at limits x h ++ take n (recv_at limits x h) = rw (same_number x) refl in
    let lows_is : lows_of limits x (step ∷ h) ≡ lows_of limits x h = append-nil _ in
    record {
      send_low = inl (lows_is ∙ untold limits nothing x h f k.2);
      recv_room = less _ _ _ n recv_is f.recv_room;
      send_room = where_limited limits.send _ (λ p. more _ _ _ n limits.send limits.quantum send_is (send_within limits x h k.0 p) (few _ _ _ all));
      read = f.read;
      over = λ t. absurd (empty _ _ _ (f.over t).0 some all);
      unframed = f.unframed;
    }
  where
    less : (xs ys : List ℕ) (l n : ℕ) → xs ≡ drop n ys → length ys ≤ l → length xs ≤ l
    less xs ys l n e le = let k : length xs ≡ length ys - n = ap length e ∙ length-drop n ys in omega (arith, k, le)

    more : (xs ys zs : List ℕ) (n l q : ℕ) → xs ≡ ys ++ take n zs → length ys ≤ l → n ≤ q → length xs ≤ l + q
    more xs ys zs n l q e le fits = let k : length xs ≡ length ys + length (take n zs) = ap length e ∙ length-append ys (take n zs) in omega (arith, k, le, fits, length-take n zs)

    few : (n q l : ℕ) → n ≡ min q l → n ≤ q
    few n q l e = omega (arith, e)

    empty : (n q : ℕ) (xs : List ℕ) → xs ≡ [] → 0 < n → n ≡ min q (length xs) → ⊥
    empty n q xs e some all = let k : length xs ≡ 0 = ap length e in omega (arith, k, some, all)

move_books : (limits : PlainLimits) (x n : ℕ) (h : Past) → Regular limits nothing h → Alive h x → count (request x) h ≡ 0
    → 0 < n → n ≡ min limits.quantum (length (recv_at limits x h)) → Books limits (after_move limits x n h) (move_of x n ∷ h)
move_books limits x n h r is readable some all =
    let s = r.books in
    let step : Step NoMark = move_of x n in
    let k = readable_none limits x h r is readable in
    let a = send_high limits x (step ∷ h) in
    let out_same : conn_out limits (step ∷ h) ≡ conn_out limits h = refl in
    let lows_same : conn_lows limits (step ∷ h) ≡ conn_lows limits h = append-nil _ in
    record {
      due = rise_due (buffer.Send (request x)) (not (send_high limits x h) && a) (λ b. watchers (plain_setup limits) b h) (x ∷ [])
          (send_watchers limits x h s.rising is)
          ∙ ap (λ b. due_if b (buffer.Send (request x)) (x ∷ [])) (low_rises (send_high limits x h) a k.0);
      asks = nothing_owed _ s.asks;
      opened = s.opened;
      known = s.known;
      unclosed = s.unclosed;
      write_room = room_kept limits out_same s.write_room;
      rising = s.rising;
      born = s.born;
      said = s.said;
      each = λ y e. own_or_other (λ z. FlowBooks limits (after_move limits x n h) z (step ∷ h)) x y (move_own limits x n h r is readable some all)
          (λ d. flow_kept limits nothing (after_move limits x n h) y step h (move_leaves limits x y n h d) (s.each y e) refl (s.each y e).unframed);
      unborn = λ y e. let d = apart_from (started h) x y (s.born x is) e in
          unborn_kept limits y step h (move_leaves limits x y n h d) (record { ended = refl; pairs = refl; must = refl }) (s.unborn y e);
      owed = live_owed a (buffer.Send (request x)) (x ∷ []) (live h) (λ y e. rw (← (number_is x y (sym (has_one x y) ∙ e))) is);
      write_lows = lows_kept (live h) lows_same s.write_lows;
      write_once = once_kept lows_same s.write_once;
      hushed = λ y e. append-nil (lows_of limits y h) ∙ s.hushed y e;
    }

pub move_regular : (limits : PlainLimits) (x n : ℕ) (h : Past) → Regular limits nothing h → is_swept h ≡ false → Alive h x → count (request x) h ≡ 0
    → 0 < n → n ≡ min limits.quantum (length (recv_at limits x h))
    → Regular limits (owed (due_if (send_high limits x (move_of x n ∷ h)) (buffer.Send (request x)) (x ∷ [])))
    (move_of x n ∷ h)
move_regular limits x n h r fresh is readable some all =
    regular_more limits nothing (after_move limits x n h) (note.Move (request x) 0 n) h r (move_may limits x n h r fresh is readable some all) (move_books limits x n h r is readable some all)
