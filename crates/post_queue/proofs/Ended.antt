-- What the runner knows of the posters that have ended.
use Rattle.std.proofs.Common.{◌≡◌, ℕ, ◌+◌, List, [], ◌∷◌, ◌++◌, length, get_or, All, sym, refl, ap, ◌∙◌, subst, append_assoc, append-nil, arith}
use Rattle.std.proofs.lemmas.List.Elements.{All-cons}
use mathlib.Core.Option.{some}
use lib.ListN.{get_elem?}
use Rattle.crossbeam_queue.proofs.Lists.{at_last, at_longer}
use Rattle.post_queue.specs.Pass.{view}
use Rattle.post_queue.specs.declared.posts.Post.{Post}
use Rattle.post_queue.specs.declared.hand.Known.{Known}
use Rattle.post_queue.specs.declared.hand.Hand.{Hand}
use Rattle.post_queue.specs.declared.passes.PosterPass.{PosterPass}
use Rattle.post_queue.specs.Posts.{posts_of}
use Rattle.post_queue.specs.Rule.{total, made_by_ended}
use Rattle.post_queue.specs.Steps.{Accounts, ended}
use Rattle.post_queue.specs.Clauses.{made_by, KnowsOf, IsAllOf}
use Rattle.post_queue.proofs.Totals.{length_snoc, total_snoc}

-- how many jobs these posters made
abbrev pub made_by_all : List PosterPass → ℕ
made_by_all passes = total (λ (p : PosterPass). length (made_by p)) passes

-- of the list of passes those in `done` have ended, and the runner knows of no others
pub record Ended (v : Hand) (passes left : List PosterPass) : Type 0 where
  pub done : List PosterPass
  pub parts : passes ≡ left ++ done
  pub told : All (KnowsOf v) done
  pub number : length v.known ≡ length done
  pub made : made_by_ended v.known ≡ made_by_all done

known_kept : (v w : Hand) (p : PosterPass) → KnowsOf v p → KnowsOf (ended v w) p
known_kept v w p h = (h.0, at_longer v.known (record { number = w.number; made = w.made } ∷ []) h.0 (record { number = p.poster; made = made_by p }) h.1)

known_new : (v : Hand) (p : PosterPass) → (view p.pass).number ≡ p.poster → KnowsOf (ended v (view p.pass)) p
known_new v p is = (length v.known, subst (λ (n : ℕ). get_elem? (v.known ++ record { number = (view p.pass).number; made = made_by p } ∷ []) (length v.known) ≡ some record { number = n; made = made_by p }) is (at_last v.known (record { number = (view p.pass).number; made = made_by p }) (length v.known) refl))

pub ends_none : (v : Hand) (passes : List PosterPass) → v.known ≡ [] → Ended v passes passes
ends_none v passes none = record { done = []; parts = sym (append-nil passes); told = λ k d lt. absurd (omega arith); number = ap length none; made = ap made_by_ended none }

pub ends_one : (v : Hand) (passes before after : List PosterPass) (p : PosterPass) → (view p.pass).number ≡ p.poster → before ≡ after ++ p ∷ [] → Ended v passes before → Ended (ended v (view p.pass)) passes after
ends_one v passes before after p is e h =
    let k : Known = record { number = (view p.pass).number; made = made_by p } in let longer = length_snoc v.known k in let more = total_snoc (λ (k : Known). length k.made) v.known k in
    let number = h.number in let made = h.made in record {
      done = p ∷ h.done;
      parts = h.parts ∙ ap (λ l. l ++ h.done) e ∙ append_assoc after (p ∷ []) h.done;
      told = All-cons (KnowsOf (ended v (view p.pass))) p h.done (known_new v p is) (λ k d lt. known_kept v (view p.pass) (get_or h.done k d) (h.told k d lt));
      number = omega arith;
      made = omega arith;
    }

pub ends_all : (v : Hand) (passes : List PosterPass) → Ended v passes []
    → All (KnowsOf v) passes × (length v.known ≡ length passes) × (made_by_ended v.known ≡ made_by_all passes)
ends_all v passes h = (subst (All (KnowsOf v)) (sym h.parts) h.told, h.number ∙ ap length (sym h.parts), h.made ∙ ap made_by_all (sym h.parts))

pub accounted : (v w : Hand) (posts : List Post) (passes : List PosterPass) → All (KnowsOf v) passes → w.known ≡ v.known → Accounts w [] → w.ran ≡ posts → All (IsAllOf posts) passes
accounted v w posts passes all same whole is k d lt = let p : PosterPass = get_or passes k d in let h = all k d lt in
    ap (posts_of p.poster) (sym is ∙ sym (append-nil w.ran)) ∙ whole h.0 (record { number = p.poster; made = made_by p }) (ap (λ l. get_elem? l h.0) same ∙ h.1)
