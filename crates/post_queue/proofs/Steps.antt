-- Each kind of step keeps the rule.
use Rattle.std.proofs.Common.{◌≡◌, ◌≢◌, ℕ, zero, suc, ◌+◌, ◌≤◌, true, false, true≢false, List, [], ◌∷◌, ◌++◌, length, set, sym, refl, ap, ◌∙◌, subst, ⊎_elim, append_assoc, append-nil, arith}
use Rattle.std.proofs.lemmas.List.Elements.{All-cons, All-head, All-tail, All-append}
use mathlib.Core.Logic.{dite}
use mathlib.Core.Option.{Option, some, none, some-injective, some-ne-none}
use native.Mathlib.Decide.{ℕ_discrete}
use lib.ListN.{get_elem?}
use Rattle.crossbeam_queue.specs.Fifo.{Pushes, Pops, Forks, Merges, Learns}
use Rattle.crossbeam_queue.proofs.Lists.{at_set, at_snoc}
use Rattle.flow_notes.specs.declared.events.Job.{Job}
use Rattle.post_queue.specs.declared.posts.Post.{Post}
use Rattle.post_queue.specs.declared.hand.Known.{Known}
use Rattle.post_queue.specs.declared.hand.Hand.{Hand}
use Rattle.post_queue.specs.Posts.{posts_of, numbered, IsAllowed}
use Rattle.post_queue.specs.Rule.{total, made_by_ended, made_in, posters_in, FitsPoster, FitsKnown, FitsRunner, Fits, IsInOrder}
use Rattle.post_queue.specs.Steps.{idle, runner, poster, posted, popped, enrolled, ended, Popped, Learned}
use Rattle.post_queue.proofs.Totals.{length_snoc, total_set, total_snoc, settles, made_more, made_by_poster, made_by_runner}
use Rattle.post_queue.proofs.Numbers.{posts_of-append, mine, not_mine, numbered-append, numbered-front}
use Rattle.post_queue.proofs.Seats.{at_put, put_here, put_else, some_not_none, each_set, idle_fits, at_end}

pub begins : IsInOrder [] (runner ∷ [])
begins = record {
  reader = 0;
  seat = λ _. none;
  sent = λ _. [];
  ran = [];
  count = 0;
  in_order = λ p. refl;
  no_more = λ p _. (refl, refl);
  each = only;
  allowed = λ k d lt. absurd (omega arith);
  all_posts = refl;
  all_posters = refl;
}
  where
    only : (i : ℕ) (v : Hand) → get_elem? (runner ∷ []) i ≡ some v → Fits 0 (λ _. none) (λ _. []) [] 0 i v
    only zero v e = subst (Fits 0 (λ _. none) (λ _. []) [] 0 0) (some-injective runner v e)
        ((λ p. absurd (true≢false (sym p))), λ _. (refl, refl, refl, refl, λ j k at. absurd (some-ne-none k (sym at))))
    only (suc i) v e = absurd (some-ne-none v (sym e))

pub posts : (n i : ℕ) (v : Hand) (x : Post) → v.posts ≡ true → x.poster ≡ v.number → x.number ≡ length v.made → IsAllowed x → Pushes IsInOrder n i v x (λ w. w ≡ posted v x)
posts n i v x may from next fine items views _ h at =
    let w : Hand = posted v x in let reader = h.reader in let seat = h.seat in let sent = h.sent in let ran = h.ran in let count = h.count in
    let old = (h.each i v at).0 may in let p : ℕ = v.number in
    let more : ℕ → List Job = at_put p (sent p ++ x.job ∷ []) sent in
    let others : (q : ℕ) → p ≢ q → more q ≡ sent q = put_else p (sent p ++ x.job ∷ []) sent in
    let now : more p ≡ sent p ++ x.job ∷ [] = put_here p (sent p ++ x.job ∷ []) sent in
    let here : numbered p 0 (more p) ≡ numbered p 0 (sent p) ++ x ∷ [] =
    ap (numbered p 0) now ∙ numbered-append p 0 (sent p) x.job ∙ ap (λ l. numbered p 0 (sent p) ++ l ∷ []) (λ k. record { poster = sym from k; number = (let e : 0 + length (sent p) ≡ x.number = omega (arith, next, ap length old.1) in e) k; job = x.job }) in
    let free : (q : ℕ) → seat q ≡ none → more q ≡ sent q = λ q is. others q (λ same. some_not_none (seat p) i old.0 (ap seat same ∙ is)) in
    let theirs : (j : ℕ) (u : Hand) → j ≢ i → get_elem? views j ≡ some u → FitsPoster seat more j u =
    λ j u ne e is. let f = (h.each j u e).0 is in (f.0, f.1 ∙ sym (others u.number (λ same. ne (some-injective j i (sym f.0 ∙ ap seat (sym same) ∙ old.0))))) in
    let runs : (j : ℕ) (u : Hand) → FitsRunner reader seat sent ran count j u → FitsRunner reader seat more ran count j u =
    λ j u f is. let g = f is in (g.0, g.1, g.2, g.3, λ m k e. let r = g.4 m k e in (r.0, r.1 ∙ sym (free k.number r.0))) in
    let made = total_set made_in views i v w at in let made_now = made_more v x may in
    let posters = total_set posters_in views i v w at in let posters_now : posters_in w ≡ posters_in v = refl in
    let longer = length_snoc items x in let all_posts = h.all_posts in let all_posters = h.all_posters in (
      w,
      record {
        reader = reader;
        seat = seat;
        sent = more;
        ran = ran;
        count = count;
        in_order = λ q. ap (posts_of q) (sym (append_assoc ran items (x ∷ []))) ∙ posts_of-append q (ran ++ items) (x ∷ []) ∙ dite (ℕ_discrete p q)
            (λ same. ap (λ l. posts_of q (ran ++ items) ++ l) (subst (λ r. posts_of r (x ∷ []) ≡ x ∷ []) (from ∙ same) (mine x)) ∙ ap (λ l. l ++ x ∷ []) (h.in_order q) ∙ subst (λ r. numbered r 0 (sent r) ++ x ∷ [] ≡ numbered r 0 (more r)) same (sym here))
            (λ ne. ap (λ l. posts_of q (ran ++ items) ++ l) (not_mine q x (λ e. ne (sym (e ∙ from)))) ∙ append-nil (posts_of q (ran ++ items)) ∙ h.in_order q ∙ ap (numbered q 0) (sym (others q ne)));
        no_more = λ q le. let r = h.no_more q le in (r.0, free q r.0 ∙ r.1);
        each = each_set reader seat more ran count views i w ((λ _. (old.0, ap (λ l. l ++ x.job ∷ []) old.1 ∙ sym now)), runs i w (h.each i v at).1) (λ j u ne e. (theirs j u ne e, runs j u (h.each j u e).1));
        allowed = All-append IsAllowed items (x ∷ []) h.allowed (All-cons IsAllowed x [] fine (λ k d lt. absurd (omega arith)));
        all_posts = omega arith;
        all_posters = omega arith;
      },
      refl,
    )

pub pops : (i : ℕ) (v : Hand) → v.runs ≡ true → Pops IsInOrder i v (Popped v)
pops i v may x items views h at =
    let w : Hand = popped v x in let reader = h.reader in let seat = h.seat in let sent = h.sent in let ran = h.ran ++ x ∷ [] in let count = h.count in
    let old = (h.each i v at).1 may in let whole : ran ++ items ≡ h.ran ++ x ∷ items = append_assoc h.ran (x ∷ []) items in
    let made = total_set made_in views i v w at in let made_now : made_in w ≡ made_in v = refl in
    let posters = total_set posters_in views i v w at in let posters_now : posters_in w ≡ posters_in v = refl in
    let longer = length_snoc h.ran x in let one : length (x ∷ items) ≡ suc (length items) = refl in let all_posts = h.all_posts in let all_posters = h.all_posters in (
      w,
      record {
        reader = reader;
        seat = seat;
        sent = sent;
        ran = ran;
        count = count;
        in_order = λ q. ap (posts_of q) whole ∙ h.in_order q;
        no_more = h.no_more;
        each = each_set reader seat sent ran count views i w ((h.each i v at).0, λ _. (old.0, old.1, ap (λ l. l ++ x ∷ []) old.2, old.3, old.4))
            (λ j u ne e. ((h.each j u e).0, λ is. absurd (ne (((h.each j u e).1 is).0 ∙ sym old.0))));
        allowed = All-tail IsAllowed x items h.allowed;
        all_posts = omega arith;
        all_posters = omega arith;
      },
      record {
        step = refl;
        in_order = λ q. numbered-front q 0 (sent q) (posts_of q w.ran) (posts_of q items) (ap (λ l. posts_of q (l ++ x ∷ []) ++ posts_of q items) old.2 ∙ sym (posts_of-append q ran items) ∙ ap (posts_of q) whole ∙ h.in_order q);
        allowed = All-head IsAllowed x items h.allowed;
        within = λ all.
            let known = made_by_runner v old.1 in let same = settles views i v at (h.all_posters ∙ sym old.3 ∙ sym all ∙ sym known.1) in
            let mine = known.0 in let ran_now : length w.ran ≡ length (h.ran ++ x ∷ []) = ap (λ l. length (l ++ x ∷ [])) old.2 in omega arith;
      },
    )

-- a pass's own counts may change at a step that makes an idle pass
pub counts : (i : ℕ) (v w : Hand) → w.posts ≡ v.posts → w.number ≡ v.number → w.made ≡ v.made → w.runs ≡ v.runs → w.ran ≡ v.ran → w.count ≡ v.count → w.known ≡ v.known
    → made_in w ≡ made_in v → posters_in w ≡ posters_in v → Forks IsInOrder i v w idle
counts i v w e0 e1 e2 e3 e4 e5 e6 made_now posters_now items views h at =
    let reader = h.reader in let seat = h.seat in let sent = h.sent in let ran = h.ran in let count = h.count in let f = h.each i v at in
    let vs : List Hand = set views i w in
    let each : (j : ℕ) (u : Hand) → get_elem? vs j ≡ some u → Fits reader seat sent ran count j u = each_set reader seat sent ran count views i w (
      (λ is. let g = f.0 (sym e0 ∙ is) in (ap seat e1 ∙ g.0, e2 ∙ g.1 ∙ ap sent (sym e1))),
      (λ is. let g = f.1 (sym e3 ∙ is) in (g.0, e0 ∙ g.1, e4 ∙ g.2, e5 ∙ g.3, subst (FitsKnown seat sent) (sym e6) g.4)),
    )
    (λ j u ne e. h.each j u e) in
    let made = total_set made_in views i v w at in let posters = total_set posters_in views i v w at in
    let made_all = total_snoc made_in vs idle in let posters_all = total_snoc posters_in vs idle in
    let no_post : made_in idle ≡ 0 = refl in let no_poster : posters_in idle ≡ 0 = refl in let all_posts = h.all_posts in let all_posters = h.all_posters in record {
      reader = reader;
      seat = seat;
      sent = sent;
      ran = ran;
      count = count;
      in_order = h.in_order;
      no_more = h.no_more;
      each = λ j u e. ⊎_elim (λ was. each j u was) (λ (is : idle ≡ u). subst (Fits reader seat sent ran count j) is (idle_fits reader seat sent ran count j)) (at_snoc vs idle u j e);
      allowed = h.allowed;
      all_posts = omega arith;
      all_posters = omega arith;
    }

pub enrols : (i : ℕ) (v : Hand) → v.runs ≡ true → v.known ≡ [] → Forks IsInOrder i v (enrolled v) (poster v.count)
enrols i v may no_known items views h at =
    let reader = h.reader in let seat = h.seat in let sent = h.sent in let ran = h.ran in let count : ℕ = h.count in let old = (h.each i v at).1 may in let p : ℕ = v.count in
    let p_is : p ≡ count = old.3 in
    let w : Hand = enrolled v in let n : Hand = poster p in let vs : List Hand = set views i w in let new : ℕ = length vs in
    let seats : ℕ → Option ℕ = at_put p (some new) seat in let free = h.no_more p (omega arith) in
    let others : (q : ℕ) → p ≢ q → seats q ≡ seat q = put_else p (some new) seat in
    let posts : (j : ℕ) (u : Hand) → FitsPoster seat sent j u → FitsPoster seats sent j u =
    λ j u f is. let g = f is in (others u.number (λ same. some_not_none (seat p) j (ap seat same ∙ g.0) free.0) ∙ g.0, g.1) in
    let Old : ℕ → Hand → Type 0 = λ j u. (u.posts ≡ true → seat u.number ≡ some j) × Fits reader seats sent ran (count + 1) j u in
    let each : (j : ℕ) (u : Hand) → get_elem? vs j ≡ some u → Old j u = λ j u e. ⊎_elim
    (λ (x : (j ≡ i) × (w ≡ u)). subst (λ (y : ℕ × Hand). Old y.0 y.1) (λ k. (sym x.0 k, x.1 k)) (
      (λ is. ((h.each i v at).0 is).0),
      (posts i w (h.each i v at).0, λ _. (old.0, old.1, old.2, ap (λ c. c + 1) old.3, λ m k e'. absurd (some-ne-none k (sym (ap (λ l. get_elem? l m) (sym no_known) ∙ e'))))),
    ))
    (λ (x : (j ≢ i) × (get_elem? views j ≡ some u)). let f = h.each j u x.1 in ((λ is. (f.0 is).0), (posts j u f.0, λ is. absurd (x.0 ((f.1 is).0 ∙ sym old.0)))))
    (at_set views i j w u e) in
    let made = total_set made_in views i v w at in let posters = total_set posters_in views i v w at in
    let made_now : made_in w ≡ made_in v = refl in let posters_now : posters_in w ≡ posters_in v = refl in
    let made_all = total_snoc made_in vs n in let posters_all = total_snoc posters_in vs n in
    let no_post : made_in n ≡ 0 = refl in let one_poster : posters_in n ≡ 1 = refl in let all_posts = h.all_posts in let all_posters = h.all_posters in record {
      reader = reader;
      seat = seats;
      sent = sent;
      ran = ran;
      count = count + 1;
      in_order = h.in_order;
      no_more = λ q le. let more : count + 1 ≤ q = le in let r = h.no_more q (omega arith) in (others q (λ (same : p ≡ q). absurd (omega arith)) ∙ r.0, r.1);
      each = λ j u e. ⊎_elim (λ was. (each j u was).1)
          (λ (is : n ≡ u). (
            (λ posts'. (
              ap seats (sym (ap (λ (y : Hand). y.number) is)) ∙ put_here p (some new) seat
                  ∙ ap some (sym (at_end vs n u j (λ was. some_not_none (seat p) j (ap (λ (y : Hand). seat y.number) is ∙ (each j u was).0 posts') free.0) e)),
              ap (λ (y : Hand). y.made) (sym is) ∙ sym free.1 ∙ ap (λ (y : Hand). sent y.number) is,
            )),
            λ runs. absurd (true≢false (sym (ap (λ (y : Hand). y.runs) is ∙ runs))),
          ))
          (at_snoc vs n u j e);
      allowed = h.allowed;
      all_posts = omega arith;
      all_posters = omega arith;
    }

pub ends : (i : ℕ) (v : Hand) (o : ℕ) (w : Hand) → v.runs ≡ true → w.posts ≡ true → Merges IsInOrder i v o w (ended v w) idle
ends i v o w may posts items views h at apart at' =
    let reader = h.reader in let seat = h.seat in let sent = h.sent in let ran = h.ran in let count = h.count in let old = (h.each i v at).1 may in
    let both : Hand = ended v w in let vs : List Hand = set views i both in let p : ℕ = w.number in
    let was : get_elem? views o ≡ some w = ⊎_elim (λ (x : (o ≡ i) × (both ≡ w)). absurd (apart x.0)) (λ (x : (o ≢ i) × (get_elem? views o ≡ some w)). x.1) (at_set views i o both w at') in
    let theirs = (h.each o w was).0 posts in let seats : ℕ → Option ℕ = at_put p none seat in
    let others : (q : ℕ) → p ≢ q → seats q ≡ seat q = put_else p none seat in
    let free : (q : ℕ) → seat q ≡ none → seats q ≡ none = λ q is. dite (ℕ_discrete p q) (λ same. subst (λ r. seats r ≡ none) same (put_here p none seat)) (λ ne. others q ne ∙ is) in
    let seated : (j : ℕ) (u : Hand) → j ≢ o → FitsPoster seat sent j u → FitsPoster seats sent j u =
    λ j u ne f is. let g = f is in (others u.number (λ same. ne (some-injective j o (sym g.0 ∙ ap seat (sym same) ∙ theirs.0))) ∙ g.0, g.1) in
    let k' : Known = record { number = p; made = w.made } in
    let Now : ℕ → Hand → Type 0 = λ j u. j ≢ o → Fits reader seats sent ran count j u in
    let now : (j : ℕ) (u : Hand) → get_elem? vs j ≡ some u → Now j u = λ j u e. ⊎_elim
    (λ (x : (j ≡ i) × (both ≡ u)). subst (λ (y : ℕ × Hand). Now y.0 y.1) (λ k. (sym x.0 k, x.1 k))
    (λ ne. (
      seated i both ne (h.each i v at).0,
      λ _. (
        old.0,
        old.1,
        old.2,
        old.3,
        λ m k e'. ⊎_elim (λ before. let r = old.4 m k before in (free k.number r.0, r.1))
            (λ (is : k' ≡ k). subst (λ (y : Known). (seats y.number ≡ none) × (y.made ≡ sent y.number)) is (put_here p none seat, theirs.1)) (at_snoc v.known k' k m e'),
      ),
    )))
    (λ (x : (j ≢ i) × (get_elem? views j ≡ some u)) ne. let f = h.each j u x.1 in (seated j u ne f.0, λ is. absurd (x.0 ((f.1 is).0 ∙ sym old.0))))
    (at_set views i j both u e) in
    let known = made_by_runner v old.1 in let known_now = made_by_runner both old.1 in let theirs_all = made_by_poster w posts in
    let m0 = known.0 in let m1 = known_now.0 in let m2 = theirs_all.0 in let m3 = total_snoc (λ (k : Known). length k.made) v.known k' in
    let m4 = total_set made_in views i v both at in let m5 = total_set made_in vs o w idle at' in let m6 : made_in idle ≡ 0 = refl in
    let p0 = known.1 in let p1 = known_now.1 in let p2 = theirs_all.1 in let p3 = length_snoc v.known k' in
    let p4 = total_set posters_in views i v both at in let p5 = total_set posters_in vs o w idle at' in let p6 : posters_in idle ≡ 0 = refl in
    let all_posts = h.all_posts in let all_posters = h.all_posters in record {
      reader = reader;
      seat = seats;
      sent = sent;
      ran = ran;
      count = count;
      in_order = h.in_order;
      no_more = λ q le. let r = h.no_more q le in (free q r.0, r.1);
      each = each_set reader seats sent ran count vs o idle (idle_fits reader seats sent ran count o) (λ j u ne e. now j u e ne);
      allowed = h.allowed;
      all_posts = omega arith;
      all_posters = omega arith;
    }

pub learns : (i : ℕ) (v : Hand) → v.runs ≡ true → Learns IsInOrder i v (Learned v)
learns i v may items views h at = let old = (h.each i v at).1 may in (
  (λ j k e. let r = old.4 j k e in ap (λ l. posts_of k.number (l ++ items)) old.2 ∙ h.in_order k.number ∙ ap (numbered k.number 0) (sym r.1)),
  λ q. numbered-front q 0 (h.sent q) (posts_of q v.ran) (posts_of q items) (ap (λ l. posts_of q l ++ posts_of q items) old.2 ∙ sym (posts_of-append q h.ran items) ∙ h.in_order q),
)
