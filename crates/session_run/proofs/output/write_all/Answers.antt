-- What was written grows by what the sink took.
use Rattle.std.proofs.Common.{◌≡◌, ◌≤◌, ◌++◌, [], List, ℕ, Option, Some, None, take, drop, length, sym, subst, ◌∙◌, ap, append_assoc, arith}
use Rattle.std.proofs.lemmas.List.{append-nil, take-append-drop, take_all}
use Rattle.std.specs.Io.KnownBytes.{Appends}
use Rattle.session_run.proofs.output.write_all.Goals as goal

appends_more : (a b c : Option (List ℕ)) (x y : List ℕ) → Appends a b x → Appends b c y → Appends a c (x ++ y)
appends_more None b c x y p q = tt
appends_more (Some a) None c x y p q = absurd p
appends_more (Some a) (Some b) None x y p q = absurd q
appends_more (Some a) (Some b) (Some c) x y p q = q ∙ ap (λ (o : List ℕ). o ++ y) p ∙ append_assoc a x y

rest_more : (text x rest after : List ℕ) (n : ℕ) → text ≡ x ++ rest → after ≡ drop n rest → text ≡ (x ++ take n rest) ++ after
rest_more text x rest after n p q = rw q (p ∙ ap (λ (o : List ℕ). x ++ o) (sym (take-append-drop n rest)) ∙ sym (append_assoc x (take n rest) (drop n rest)))

-- the sink took all that was left
all_taken : (a b c : Option (List ℕ)) (text x rest : List ℕ) (n : ℕ) → text ≡ x ++ rest → length rest ≤ n → Appends a b x → Appends b c (take n rest) → Appends a c text
all_taken a b c text x rest n is all p q =
    subst (Appends a c) (ap (λ (o : List ℕ). x ++ o) (take_all n rest all) ∙ sym is) (appends_more a b c x (take n rest) p q)

pub loop-rest-preserved : goal.loop-rest-preserved
loop-rest-preserved g c =
    let w = c.loop-rest.invariant.written in
    record {
      written = (w.0 ++ take c.in_ok-n.n c.loop-rest.rest.now, rest_more _ w.0 _ _ c.in_ok-n.n w.1 c.split_at.ensures.back, appends_more _ _ _ w.0 _ w.2 c.in_ok-n.ensures.octets);
      no_fall = omega (arith, c.loop-rest.invariant.no_fall, c.in_ok-n.ensures.cause.no_fall);
    }

pub returns-then-n-rest-clause-front : goal.returns-then-n-rest-clause-front
returns-then-n-rest-clause-front g c =
    let w = c.loop-rest.invariant.written in
    record {
      front = c.args.text.now;
      rest = [];
      is = sym (append-nil c.args.text.now);
      appends = all_taken _ _ _ _ w.0 c.loop-rest.rest.now c.in_ok-n.n w.1 (omega (arith, c.if-n-rest.true)) w.2 c.in_ok-n.ensures.octets;
    }
