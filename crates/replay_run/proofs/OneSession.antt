-- A text spells at most one session.
use Rattle.flow_notes.proofs.NumberLists.{numbers_again}
use Rattle.flow_notes.proofs.Splitting.{words_of_line}
use Rattle.flow_notes.proofs.Words.{number_words}
use Rattle.flow_notes.specs.Fields.{Fits32}
use Rattle.flow_notes.specs.Line.{line_of}
use Rattle.flow_notes.specs.Meaning.{numbers_of}
use Rattle.flow_notes.specs.Split.{words_in}
use Rattle.flow_notes.specs.declared.events.Event.{Event}
use Rattle.replay_run.proofs.Completing.{compare, header_whole, limits_whole, next_event, nothing_more, opened, same_events, same_header, same_line}
use Rattle.session_lines.proofs.Readings.{in_ranges, numbers_fit}
use Rattle.replay_run.specs.SeenTape.{IsSeen}
use Rattle.session_lines.specs.Seen.{Headed, Playing, Seen, Unread, are_limits, event_lines, header_line, is_quantum, limit_numbers, limits_line, seen_text}
use Rattle.session_lines.specs.declared.order.Format.{Format}
use Rattle.std.proofs.Common.{ap, arith, inl, inr, refl, subst, sym, ◌∙◌}
use Rattle.std.proofs.lemmas.Bool.Decides.{nat_tests}
use Rattle.std.proofs.lemmas.List.{append-nil}
use Rattle.std.proofs.lemmas.Option.{same_Some}
use Rattle.std.specs.Fmt.{decimal}
use Rattle.std.specs.List.{AllByRecursion}
use Rattle.std.specs.Prelude.{IsTrue, List, [], codes, drop, length, map, true, ℕ, ◌++◌, ◌<◌, ◌==◌, ◌∷◌, ◌≡◌, ◌⊎◌}
use Rattle.tape_laws.specs.Following.{MayFollowAll}
use Rattle.tape_laws.specs.declared.PlainLimits.{PlainLimits}
use Rattle.session_lines.specs.declared.order.Format.TheVariants as format

-- a line of a keyword spells one list of numbers
same_numbers : (ms ns : List ℕ) → AllByRecursion Fits32 ms → AllByRecursion Fits32 ns → line_of (codes "limits" ∷ map decimal ms) ≡ line_of (codes "limits" ∷ map decimal ns) → ms ≡ ns
same_numbers ms ns f g e =
    let words : codes "limits" ∷ map decimal ms ≡ codes "limits" ∷ map decimal ns =
    sym (words_of_line (codes "limits" ∷ map decimal ms) (refl, number_words ms f)) ∙ ap words_in e ∙ words_of_line (codes "limits" ∷ map decimal ns) (refl, number_words ns g) in
    let texts : map decimal ms ≡ map decimal ns = ap (drop 1) words in
    same_Some ms ns (sym (numbers_again ms f) ∙ ap numbers_of texts ∙ numbers_again ns g)

one_quantum : (q : ℕ) → (q == 16384) ≡ true → q ≡ 16384
one_quantum q e = grind (arith, nat_tests)

abbrev limits_of : ℕ → ℕ → ℕ → ℕ → PlainLimits
limits_of recv send write quantum = record { recv = recv; send = send; write = write; quantum = quantum }

same_fields : (l m : PlainLimits) → l.recv ≡ m.recv → l.send ≡ m.send → l.write ≡ m.write → l.quantum ≡ m.quantum → l ≡ m
same_fields l m r s w q =
    ap (λ v. limits_of v l.send l.write l.quantum) r ∙ ap (λ v. limits_of m.recv v l.write l.quantum) s ∙ ap (λ v. limits_of m.recv m.send v l.quantum) w
    ∙ ap (λ v. limits_of m.recv m.send m.write v) q

same_limits : (f : Format) (l m : PlainLimits) → limit_numbers f l ≡ limit_numbers f m → is_quantum f l.quantum ≡ true → is_quantum f m.quantum ≡ true → l ≡ m
same_limits format.One l m e p q =
    let recv : l.recv ≡ m.recv = cc in
    let send : l.send ≡ m.send = cc in
    let write : l.write ≡ m.write = cc in
    same_fields l m recv send write (one_quantum l.quantum p ∙ sym (one_quantum m.quantum q))
same_limits format.Two l m e p q =
    let recv : l.recv ≡ m.recv = cc in
    let send : l.send ≡ m.send = cc in
    let write : l.write ≡ m.write = cc in
    let quantum : l.quantum ≡ m.quantum = cc in
    same_fields l m recv send write quantum

limits_same : (f : Format) (l m : PlainLimits) → IsTrue (are_limits f l) → IsTrue (are_limits f m) → limits_line f l ≡ limits_line f m → l ≡ m
limits_same f l m a b e =
    let p = in_ranges f l a in
    let q = in_ranges f m b in
    same_limits f l m (same_numbers (limit_numbers f l) (limit_numbers f m) (numbers_fit f l p) (numbers_fit f m q) e) p.quantum q.quantum

events_same : (ds es : List Event) → MayFollowAll ds → MayFollowAll es → event_lines ds ≡ event_lines es → ds ≡ es
events_same ds es a b e = by (compare (length ds) (length es))
  where
    whole : event_lines ds ++ [] ≡ event_lines es ++ []
    whole = append-nil (event_lines ds) ∙ e ∙ sym (append-nil (event_lines es))

    by : (length ds < length es) ⊎ ((length ds ≡ length es) ⊎ (length es < length ds)) → ds ≡ es
    by (inl less) = let k = next_event ds es [] [] less a b whole in absurd (nothing_more _ k.more k.is)
    by (inr (inl same)) = (same_events ds es [] [] same a b whole).0
    by (inr (inr more)) = let k = next_event es ds [] [] more b a (sym whole) in absurd (nothing_more _ k.more k.is)

playing_same : (f g : Format) (l m : PlainLimits) (ds es : List Event) → f ≡ g → IsSeen (Playing f l ds) → IsSeen (Playing g m es)
    → limits_line f l ++ 10 ∷ event_lines ds ≡ limits_line g m ++ 10 ∷ event_lines es → Playing f l ds ≡ Playing g m es
playing_same f g l m ds es same i j e =
    let P : Format → Type 0 = λ v. IsSeen (Playing v m es) in
    let Q : Format → Type 0 = λ v. limits_line f l ++ 10 ∷ event_lines ds ≡ limits_line v m ++ 10 ∷ event_lines es in
    let k = subst P (sym same) j in
    let h = same_line (limits_line f l) (limits_line f m) (event_lines ds) (event_lines es) (limits_whole f l i.0) (limits_whole f m k.0) (subst Q (sym same) e) in
    let limits = limits_same f l m i.0 k.0 h.0 in
    let events = events_same ds es i.1 k.1 h.1 in
    ap (λ (v : Format). Playing v l ds) same ∙ ap (λ (v : PlainLimits). Playing g v ds) limits ∙ ap (λ (v : List Event). Playing g m v) events

pub one_session : (s t : Seen) → IsSeen s → IsSeen t → seen_text s ≡ seen_text t → s ≡ t
one_session Unread Unread i j e = refl
one_session Unread (Headed g) i j e = absurd (nothing_more (header_line g) [] e)
one_session Unread (Playing g m es) i j e = absurd (nothing_more (header_line g) _ (e ∙ opened (header_line g) (limits_line g m) (event_lines es)))
one_session (Headed f) Unread i j e = absurd (nothing_more (header_line f) [] (sym e))
one_session (Headed f) (Headed g) i j e = ap Headed (same_header f g (same_line (header_line f) (header_line g) [] [] (header_whole f) (header_whole g) e).0)
one_session (Headed f) (Playing g m es) i j e =
    let h = same_line (header_line f) (header_line g) [] _ (header_whole f) (header_whole g) (e ∙ opened (header_line g) (limits_line g m) (event_lines es)) in
    absurd (nothing_more (limits_line g m) (event_lines es) h.1)
one_session (Playing f l ds) Unread i j e = absurd (nothing_more (header_line f) _ (sym e ∙ opened (header_line f) (limits_line f l) (event_lines ds)))
one_session (Playing f l ds) (Headed g) i j e =
    let h = same_line (header_line g) (header_line f) [] _ (header_whole g) (header_whole f) (sym e ∙ opened (header_line f) (limits_line f l) (event_lines ds)) in
    absurd (nothing_more (limits_line f l) (event_lines ds) h.1)
one_session (Playing f l ds) (Playing g m es) i j e =
    let whole = sym (opened (header_line f) (limits_line f l) (event_lines ds)) ∙ e ∙ opened (header_line g) (limits_line g m) (event_lines es) in
    let h = same_line (header_line f) (header_line g) _ _ (header_whole f) (header_whole g) whole in
    playing_same f g l m ds es (same_header f g h.0) i j h.1
