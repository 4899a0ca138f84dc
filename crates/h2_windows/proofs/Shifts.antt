-- New initial windows, one after another, and the greatest and the last of them.
use Rattle.std.proofs.Common.{Bool, List, None, Option, Some, [], ap, arith, cond, false, refl, sym, true, ℕ, ◌<◌, ◌∙◌, ◌∷◌, ◌≡◌, ◌≤◌}
use Rattle.std.proofs.lemmas.Bool.{leb-false, leb-true}
use Rattle.std.proofs.lemmas.Int.{ints}
use Rattle.std.specs.Option.{option_and_then}
use Rattle.std.specs.Prelude.{int_le, max, nat_le, pos, ℤ, ◌&&◌, ◌+ℤ◌, ◌-ℤ◌, ◌≤ℤ◌, ◌-◌, ◌^◌}
use Rattle.h2_windows.specs.InitialWindows.{greatest, last, moved_through, moved_to}
use Rattle.h2_windows.specs.SendWindow.{Sending}

again : (v : ℕ) (w : Sending) → moved_through (v ∷ []) w ≡ moved_through (v ∷ v ∷ []) w
again v w = grind (arith, ints)

abbrev room_after : ℤ → ℕ → ℕ → ℤ
room_after room old new = room +ℤ (pos new -ℤ pos old)

abbrev fits : ℤ → Bool
fits room = int_le room (pos (2 ^ 31 - 1))

at_most : (x y m : ℤ) → x ≤ℤ y → int_le y m ≡ true → int_le x m ≡ true
at_most x y m h e = grind (arith, ints)

first_follows : (a b : Bool) → (b ≡ true → a ≡ true) → b ≡ a && b
first_follows true b h = refl
first_follows false true h = sym (h refl)
first_follows false false h = refl

second_follows : (a b : Bool) → (a ≡ true → b ≡ true) → a ≡ a && b
second_follows true b h = sym (h refl)
second_follows false b h = refl

less : (room : ℤ) (i v g : ℕ) → v ≤ g → room_after room i v ≤ℤ room_after room i g
less room i v g h = omega (arith, ints)

back : (room : ℤ) (i v g : ℕ) → room_after (room_after room i v) v g ≡ room_after room i g
back room i v g = omega (arith, ints)

-- the greater of two decides on both
greater : (room : ℤ) (i v g : ℕ) → fits (room_after room i (max v g)) ≡ fits (room_after room i v) && fits (room_after (room_after room i v) v g)
greater room i v g = cases (nat_le v g) refl
  where
    up : v ≤ g → fits (room_after room i g) ≡ fits (room_after room i v) && fits (room_after room i g)
    up h = first_follows (fits (room_after room i v)) (fits (room_after room i g)) (at_most (room_after room i v) (room_after room i g) (pos (2 ^ 31 - 1)) (less room i v g h))

    down : g ≤ v → fits (room_after room i v) ≡ fits (room_after room i v) && fits (room_after room i g)
    down h = second_follows (fits (room_after room i v)) (fits (room_after room i g)) (at_most (room_after room i g) (room_after room i v) (pos (2 ^ 31 - 1)) (less room i g v h))

    there : fits (room_after room i v) && fits (room_after room i g) ≡ fits (room_after room i v) && fits (room_after (room_after room i v) v g)
    there = ap (λ z. fits (room_after room i v) && fits z) (sym (back room i v g))

    cases : (b : Bool) → nat_le v g ≡ b → fits (room_after room i (max v g)) ≡ fits (room_after room i v) && fits (room_after (room_after room i v) v g)
    cases true e =
        let h : v ≤ g = leb-true v g e in
        let m : max v g ≡ g = omega arith in
        ap (λ n. fits (room_after room i n)) m ∙ up h ∙ there
    cases false e =
        let h : g < v = leb-false v g e in
        let m : max v g ≡ v = omega arith in
        ap (λ n. fits (room_after room i n)) m ∙ down (omega arith) ∙ there

same_end : (room : ℤ) (i v g m l : ℕ) → room_after (room_after (room_after room i v) v g) g l ≡ room_after (room_after room i m) m l
same_end room i v g m l = omega (arith, ints)

abbrev at_room : ℕ → ℤ → Option Sending
at_room new room = cond (fits room) (Some (record { initial = new; room = room })) None

joined : (v g l : ℕ) (w : Sending) → moved_through (v ∷ g ∷ l ∷ []) w ≡ moved_through (max v g ∷ l ∷ []) w
joined v g l w = cases (fits (room_after w.room w.initial v)) (fits (room_after (room_after w.room w.initial v) v g)) refl refl
  where
    both : (a b : Bool) → fits (room_after w.room w.initial v) ≡ a → fits (room_after (room_after w.room w.initial v) v g) ≡ b → fits (room_after w.room w.initial (max v g)) ≡ a && b
    both a b ea eb = greater w.room w.initial v g ∙ ap (λ x. x && fits (room_after (room_after w.room w.initial v) v g)) ea ∙ ap (λ x. a && x) eb

    ended : option_and_then Some (at_room l (room_after (room_after (room_after w.room w.initial v) v g) g l)) ≡ option_and_then Some (at_room l (room_after (room_after w.room w.initial (max v g)) (max v g) l))
    ended = ap (λ z. option_and_then Some (at_room l z)) (same_end w.room w.initial v g (max v g) l)

    cases : (a b : Bool) → fits (room_after w.room w.initial v) ≡ a → fits (room_after (room_after w.room w.initial v) v g) ≡ b → moved_through (v ∷ g ∷ l ∷ []) w ≡ moved_through (max v g ∷ l ∷ []) w
    cases true true ea eb = rw (ea, eb, both true true ea eb) ended
    cases true false ea eb = rw (ea, eb, both true false ea eb) refl
    cases false b ea eb = rw (ea, both false b ea eb) refl

behind : (f g : Sending → Option Sending) → ((w : Sending) → f w ≡ g w) → (o : Option Sending) → option_and_then f o ≡ option_and_then g o
behind f g same None = refl
behind f g same (Some w) = same w

pub greatest_then_last : (v : ℕ) (vs : List ℕ) (w : Sending) → moved_through (v ∷ vs) w ≡ moved_through (greatest v vs ∷ last v vs ∷ []) w
greatest_then_last v [] w = again v w
greatest_then_last v (u ∷ us) w =
    behind (moved_through (u ∷ us)) (moved_through (greatest u us ∷ last u us ∷ [])) (greatest_then_last u us) (moved_to v w) ∙ joined v (greatest u us) (last u us) w
