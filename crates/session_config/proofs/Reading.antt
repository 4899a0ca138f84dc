-- Pieces of a configuration that are read.
use Rattle.session_config.specs.Loading.{ReadsPiece, ReadsWhole, longest_config}
use Rattle.session_config.specs.declared.load.ConfigEnd.{ConfigEnd}
use Rattle.std.proofs.Common.{ap, append_assoc, arith, refl, subst, sym, ◌∙◌}
use Rattle.std.proofs.lemmas.List.{append-nil}
use Rattle.std.specs.Io.KnownBytes.{Consumes}
use Rattle.std.specs.Prelude.{Err, List, None, Ok, Option, Result, Some, [], length, ℕ, ◌++◌, ◌<◌, ◌∷◌, ◌≡◌, ◌≤◌}
use Rattle.session_config.specs.declared.load.ConfigEnd.TheVariants as end

pub consumes_more : (a b c : Option (List ℕ)) (xs ys : List ℕ) → Consumes a b xs → Consumes b c ys → Consumes a c (xs ++ ys)
consumes_more None b c xs ys p q = tt
consumes_more (Some x) None c xs ys p q = absurd p
consumes_more (Some x) (Some y) None xs ys p q = absurd q
consumes_more (Some x) (Some y) (Some z) xs ys p q = p ∙ ap (λ (v : List ℕ). xs ++ v) q ∙ sym (append_assoc xs ys z)

-- one piece more
pub read_on : (a b c : Option (List ℕ)) (text new got : List ℕ) → Consumes a b text → Consumes b c got → new ≡ text ++ got → Consumes a c new
read_on a b c text new got p q e = let P : List ℕ → Type 0 = λ v. Consumes a c v in subst P (sym e) (consumes_more a b c text got p q)

-- nothing more: it was all
pub read_all : (a b c : Option (List ℕ)) (text new : List ℕ) (n : ℕ) (r : Result ℕ ConfigEnd) → r ≡ Ok n → n ≡ 0 → Consumes a b text → length text ≤ longest_config → ReadsPiece b c text new r → ReadsWhole a c (Ok new)
read_all a b c text new n r e z p short k =
    let P : Result ℕ ConfigEnd → Type 0 = λ v. ReadsPiece b c text new v in
    let q : ReadsPiece b c text new (Ok n) = subst P e k in
    let none : q.got ≡ [] = none_got q.got (q.is.1 ∙ z) in
    let same : new ≡ text = q.is.0 ∙ ap (λ (v : List ℕ). text ++ v) none ∙ append-nil text in
    record {
      text = new;
      consumes = read_on a b c text new q.got p q.consumes q.is.0;
      is = ((q.is.2 z, (let Q : List ℕ → Type 0 = λ v. length v ≤ longest_config in subst Q (sym same) short)), refl);
    }
  where
    none_got : (got : List ℕ) → length got ≡ 0 → got ≡ []
    none_got [] e = refl
    none_got (x ∷ xs) e = absurd (omega (arith, e))

-- reading stopped
pub read_stop : (a b c : Option (List ℕ)) (text new : List ℕ) (stop : ConfigEnd) (r : Result ℕ ConfigEnd) → r ≡ Err stop → Consumes a b text → length text ≤ longest_config → ReadsPiece b c text new r → ReadsWhole a c (Err stop)
read_stop a b c text new stop r e p short k = let P : Result ℕ ConfigEnd → Type 0 = λ v. ReadsPiece b c text new v in by stop (subst P e k)
  where
    by : (stop : ConfigEnd) → ReadsPiece b c text new (Err stop) → ReadsWhole a c (Err stop)
    by (end.Refused fault) q = absurd q.is
    by end.TooLong q = absurd q.is
    by end.ReadFault q = record { text = text ++ q.got; consumes = consumes_more a b c text q.got p q.consumes; is = (let Q : List ℕ → Type 0 = λ v. length v ≤ longest_config in subst Q (sym (ap (λ (v : List ℕ). text ++ v) q.is ∙ append-nil text)) short) }
    by end.Memory q = record { text = text ++ q.got; consumes = consumes_more a b c text q.got p q.consumes; is = tt }

-- there are too many octets
pub read_much : (a b c : Option (List ℕ)) (text new : List ℕ) (n : ℕ) (r : Result ℕ ConfigEnd) → r ≡ Ok n → Consumes a b text → ReadsPiece b c text new r → longest_config < length new → ReadsWhole a c (Err end.TooLong)
read_much a b c text new n r e p k much =
    let P : Result ℕ ConfigEnd → Type 0 = λ v. ReadsPiece b c text new v in
    let q : ReadsPiece b c text new (Ok n) = subst P e k in
    record { text = new; consumes = read_on a b c text new q.got p q.consumes q.is.0; is = much }
